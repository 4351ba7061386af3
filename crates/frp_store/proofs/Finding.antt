-- The place of a name.
use Rattle.std.proofs.Common.{◌≡◌, ℕ, Bool, true, false, List, [], ◌∷◌, Option, Some, None, zero, suc, refl, sym, ap, ◌∙◌, subst}
use Rattle.std.specs.Prelude.{if◌then◌else◌, slice_get, option_map, option_and_then, not}
use Rattle.std.specs.List.{list_all}
use Rattle.frp_base.specs.declared.name.Name.{Name}
use Rattle.frp_base.specs.declared.val.Val.{Val}
use Rattle.frp_base.specs.Name.{name_eq}
use Rattle.frp_base.proofs.Booleans.{both_true}
use Rattle.frp_graph.specs.declared.trace.Node.{Node}
use Rattle.frp_graph.specs.Trace.{node_in}
use Rattle.frp_graph.specs.Links.{are_distinct}
use Rattle.frp_graph.proofs.Lists.{name_same, name_eq-same}
use Rattle.frp_store.specs.State.{names, place_in, occ_in}

-- an option of an option as one
abbrev pub flat : {A : Type 0} → Option (Option A) → Option A
flat None = None
flat (Some o) = o

-- a node is found at its place
pub place_node : (xs : List Node) (n : Name) → node_in xs n ≡ option_and_then (slice_get xs) (place_in xs n)
place_node [] n = refl
place_node (x ∷ xs) n = by (name_eq x.name n) (place_in xs n) (place_node xs n) where
  by : (b : Bool) (o : Option ℕ) → node_in xs n ≡ option_and_then (slice_get xs) o
      → (if b then Some x else node_in xs n) ≡ option_and_then (slice_get (x ∷ xs)) (if b then Some zero else option_map suc o)
  by true o h = refl
  by false None h = h
  by false (Some p) h = h

-- and so is its occurrence
pub place_occ : (xs : List Node) (os : List (Option Val)) (n : Name) → occ_in xs os n ≡ option_and_then (λ p. flat (slice_get os p)) (place_in xs n)
place_occ [] os n = refl
place_occ (x ∷ xs) [] n = by (if name_eq x.name n then Some zero else option_map suc (place_in xs n)) where
  by : (o : Option ℕ) → None ≡ option_and_then (λ p. flat (slice_get {X = Option Val} [] p)) o
  by None = refl
  by (Some p) = refl
place_occ (x ∷ xs) (o ∷ os) n = by (name_eq x.name n) (place_in xs n) (place_occ xs os n) where
  by : (b : Bool) (q : Option ℕ) → occ_in xs os n ≡ option_and_then (λ p. flat (slice_get os p)) q
      → (if b then o else occ_in xs os n) ≡ option_and_then (λ p. flat (slice_get (o ∷ os) p)) (if b then Some zero else option_map suc q)
  by true q h = refl
  by false None h = h
  by false (Some p) h = h

later_differs : (m : Name) (xs : List Node) (i : ℕ) (x : Node) → slice_get xs i ≡ Some x → list_all (λ k. not (name_eq m k)) (names xs) ≡ true → name_eq m x.name ≡ true → ⊥
later_differs m [] i x e a s = absurd cc
later_differs m (y ∷ xs) zero x e a s =
    let same : y ≡ x = cc in
    let other : not (name_eq m y.name) ≡ true = (both_true _ _ a).0 in
    absurd (let t : name_eq m y.name ≡ true = rw same s in cc)
later_differs m (y ∷ xs) (suc i) x e a s = later_differs m xs i x e (both_true _ _ a).1 s

-- where names are distinct, a node that stands at a place is found there
pub place_at : (xs : List Node) (n : Name) (i : ℕ) (x : Node) → are_distinct (names xs) ≡ true → slice_get xs i ≡ Some x → name_eq x.name n ≡ true → place_in xs n ≡ Some i
place_at [] n i x d e s = absurd cc
place_at (y ∷ xs) n zero x d e s = let same : y ≡ x = cc in let t : name_eq y.name n ≡ true = rw same s in rw t refl
place_at (y ∷ xs) n (suc i) x d e s = by (name_eq y.name n) refl (place_at xs n i x (both_true _ _ d).1 e s) where
  by : (b : Bool) → name_eq y.name n ≡ b → place_in xs n ≡ Some i → (if b then Some zero else option_map suc (place_in xs n)) ≡ Some (suc i)
  by true t h =
      absurd (later_differs y.name xs i x e (both_true _ _ d).0
      (subst (λ m. name_eq y.name m ≡ true) (name_same y.name n t ∙ sym (name_same x.name n s)) (name_eq-same y.name)))
  by false t h = ap (option_map suc) h

-- where a name has a place, a node of the name stands there
pub place_shows : (xs : List Node) (n : Name) (p : ℕ) → place_in xs n ≡ Some p → (x : Node) × (slice_get xs p ≡ Some x) × (name_eq x.name n ≡ true)
place_shows [] n p e = absurd cc
place_shows (y ∷ xs) n p e = by (name_eq y.name n) refl (place_in xs n) (λ i q. place_shows xs n i q) e where
  by : (b : Bool) → name_eq y.name n ≡ b → (o : Option ℕ) → ((i : ℕ) → o ≡ Some i → (x : Node) × (slice_get xs i ≡ Some x) × (name_eq x.name n ≡ true))
      → (if b then Some zero else option_map suc o) ≡ Some p
      → (x : Node) × (slice_get (y ∷ xs) p ≡ Some x) × (name_eq x.name n ≡ true)
  by true t o f e = let z : zero ≡ p = cc in (y, ap (slice_get (y ∷ xs)) (sym z), t)
  by false t None f e = absurd cc
  by false t (Some i) f e = let z : suc i ≡ p = cc in let g = f i refl in (g.0, ap (slice_get (y ∷ xs)) (sym z) ∙ g.1, g.2)

-- The nodes to which a shape is linked, and the one that it watches, by place.
use Rattle.std.proofs.Common.{◌≡◌, ℕ, ◌≤◌, Bool, true, false, List, [], ◌∷◌, ◌++◌, Option, Some, None, length, zero, suc, refl, sym, ap, ◌∙◌, arith}
use Rattle.std.specs.Prelude.{◌==◌, ◌||◌, not, slice_get, is_some, option_map, if◌then◌else◌}
use Rattle.std.specs.List.{list_any}
use Rattle.std.specs.Bool.{Decides}
use Rattle.std.specs.Cmp.{unsigned_Decides}
use Rattle.frp_base.specs.declared.name.Name.{Name}
use Rattle.frp_base.specs.Name.{name_eq}
use Rattle.frp_graph.specs.declared.trace.Node.{Node}
use Rattle.frp_graph.specs.declared.shape.Shape.{Shape}
use Rattle.frp_graph.specs.declared.shape.Shape.TheVariants.{Sink, Never, Constant, Map, Filter, Filteropt, Merge, Snapshot, Split, Updates, Value, Loop, Hold, Mapc, Apply, Switchs, Switchc, Execute}
use Rattle.frp_graph.specs.Links.{are_distinct}
use Rattle.frp_graph.proofs.Lists.{name_same, name_eq-same}
use Rattle.frp_store.specs.State.{names, place_in}
use Rattle.frp_store.specs.Dependents.{own_links, watched, is_linked_to, is_watching, is_turned_to, is_unknown, wants}
use Rattle.frp_store.specs.Edges.{end_at}
use Rattle.frp_store.proofs.Finding.{place_at, place_shows}
use Rattle.frp_store.proofs.Choices.{or_false}

-- How many.

pub own_links_few : (s : Shape) → length (own_links s) ≤ 2
own_links_few Sink = omega arith
own_links_few Never = omega arith
own_links_few Constant = omega arith
own_links_few (Map f s) = omega arith
own_links_few (Filter f s) = omega arith
own_links_few (Filteropt s) = omega arith
own_links_few (Merge f a b) = omega arith
own_links_few (Snapshot f s c) = omega arith
own_links_few (Split s) = omega arith
own_links_few (Updates c) = omega arith
own_links_few (Value c) = omega arith
own_links_few (Loop to) = omega arith
own_links_few (Hold s) = omega arith
own_links_few (Mapc f c) = omega arith
own_links_few (Apply cf ca) = omega arith
own_links_few (Switchs c) = omega arith
own_links_few (Switchc c) = omega arith
own_links_few (Execute s template kept) = omega arith

pub watched_few : (s : Shape) → length (watched s) ≤ 1
watched_few Sink = omega arith
watched_few Never = omega arith
watched_few Constant = omega arith
watched_few (Map f s) = omega arith
watched_few (Filter f s) = omega arith
watched_few (Filteropt s) = omega arith
watched_few (Merge f a b) = omega arith
watched_few (Snapshot f s c) = omega arith
watched_few (Split s) = omega arith
watched_few (Updates c) = omega arith
watched_few (Value c) = omega arith
watched_few (Loop to) = omega arith
watched_few (Hold s) = omega arith
watched_few (Mapc f c) = omega arith
watched_few (Apply cf ca) = omega arith
watched_few (Switchs c) = omega arith
watched_few (Switchc c) = omega arith
watched_few (Execute s template kept) = omega arith

-- Where they are found.

-- a name is that of the node of a place exactly where it is found there
pub end_found : (nodes : List Node) (e : ℕ) (y : Node) (m : Name) → are_distinct (names nodes) ≡ true → slice_get nodes e ≡ Some y
    → is_turned_to (place_in nodes m) e ≡ name_eq m y.name
end_found nodes e y m d g = by (name_eq m y.name) refl where
  apart : (i : ℕ) → place_in nodes m ≡ Some i → i ≡ e → name_eq m y.name ≡ true
  apart i q s =
      let at = place_shows nodes m i q in
      let h : Some at.0 ≡ Some y = sym at.1 ∙ ap (slice_get nodes) s ∙ g in
      let same : at.0 ≡ y = cc in
      let name : m ≡ y.name = sym (name_same at.0.name m at.2) ∙ ap (λ (z : Node). z.name) same in
      ap (name_eq m) (sym name) ∙ name_eq-same m

  none : (o : Option ℕ) → place_in nodes m ≡ o → name_eq m y.name ≡ false → is_turned_to o e ≡ false
  none None q f = refl
  none (Some i) q f = decided (i == e) (unsigned_Decides i e) where
    decided : (b : Bool) → Decides b (i ≡ e) → b ≡ false
    decided true k = absurd (let t = apart i q (k.0 refl) in cc)
    decided false k = refl

  by : (b : Bool) → name_eq m y.name ≡ b → is_turned_to (place_in nodes m) e ≡ b
  by true t = ap (λ o. is_turned_to o e) (place_at nodes m e y d g (ap (name_eq y.name) (name_same m y.name t) ∙ name_eq-same y.name)) ∙ (unsigned_Decides e e).1 refl
  by false f = none (place_in nodes m) refl f

pub ends_found : (nodes : List Node) (e : ℕ) (y : Node) (ls : List Name) → length ls ≤ 2 → are_distinct (names nodes) ≡ true → slice_get nodes e ≡ Some y
    → is_turned_to (end_at nodes (slice_get ls 1)) e || is_turned_to (end_at nodes (slice_get ls 0)) e ≡ list_any (λ m. name_eq m y.name) ls
ends_found nodes e y [] l d g = refl
ends_found nodes e y (m ∷ []) l d g = end_found nodes e y m d g ∙ sym (or_false (name_eq m y.name))
ends_found nodes e y (m ∷ k ∷ []) l d g =
    ap (λ b. b || is_turned_to (place_in nodes m) e) (end_found nodes e y k d g) ∙ ap (λ b. name_eq k y.name || b) (end_found nodes e y m d g)
    ∙ swapped (name_eq k y.name) (name_eq m y.name)
  where
    swapped : (a b : Bool) → a || b ≡ b || (a || false)
    swapped true true = refl
    swapped true false = refl
    swapped false true = refl
    swapped false false = refl
ends_found nodes e y (m ∷ k ∷ j ∷ ls) l d g = absurd (omega arith)

pub watched_found : (nodes : List Node) (e : ℕ) (y : Node) (ls : List Name) → length ls ≤ 1 → are_distinct (names nodes) ≡ true → slice_get nodes e ≡ Some y
    → is_turned_to (end_at nodes (slice_get ls 0)) e ≡ list_any (λ m. name_eq m y.name) ls
watched_found nodes e y [] l d g = refl
watched_found nodes e y (m ∷ []) l d g = end_found nodes e y m d g ∙ sym (or_false (name_eq m y.name))
watched_found nodes e y (m ∷ k ∷ ls) l d g = absurd (omega arith)

-- A node that is linked to a name of no node, or watches it, wants it.

unknown : (nodes : List Node) (m n : Name) → place_in nodes n ≡ None → name_eq m n ≡ true → is_unknown nodes (Some m) ≡ true
unknown nodes m n q t = ap (λ k. not (is_some (place_in nodes k))) (name_same m n t) ∙ ap (λ o. not (is_some o)) q

links_unknown : (nodes : List Node) (n : Name) (ls : List Name) → length ls ≤ 2 → place_in nodes n ≡ None → list_any (λ m. name_eq m n) ls ≡ true
    → is_unknown nodes (slice_get ls 0) || is_unknown nodes (slice_get ls 1) ≡ true
links_unknown nodes n [] l q t = absurd cc
links_unknown nodes n (m ∷ []) l q t = by (name_eq m n) refl t where
  by : (b : Bool) → name_eq m n ≡ b → b || false ≡ true → is_unknown nodes (Some m) || false ≡ true
  by true e h = rw (unknown nodes m n q e) refl
  by false e h = absurd cc
links_unknown nodes n (m ∷ k ∷ []) l q t = by (name_eq m n) refl (name_eq k n) refl t where
  right : (b : Bool) → b || true ≡ true
  right true = refl
  right false = refl

  by : (b : Bool) → name_eq m n ≡ b → (c : Bool) → name_eq k n ≡ c → b || (c || false) ≡ true → is_unknown nodes (Some m) || is_unknown nodes (Some k) ≡ true
  by true e c f h = rw (unknown nodes m n q e) refl
  by false e true f h = ap (λ b. is_unknown nodes (Some m) || b) (unknown nodes k n q f) ∙ right (is_unknown nodes (Some m))
  by false e false f h = absurd cc
links_unknown nodes n (m ∷ k ∷ j ∷ ls) l q t = absurd (omega arith)

watched_unknown : (nodes : List Node) (n : Name) (ls : List Name) → length ls ≤ 1 → place_in nodes n ≡ None → list_any (λ m. name_eq m n) ls ≡ true
    → is_unknown nodes (slice_get ls 0) ≡ true
watched_unknown nodes n [] l q t = absurd cc
watched_unknown nodes n (m ∷ []) l q t = by (name_eq m n) refl t where
  by : (b : Bool) → name_eq m n ≡ b → b || false ≡ true → is_unknown nodes (Some m) ≡ true
  by true e h = unknown nodes m n q e
  by false e h = absurd cc
watched_unknown nodes n (m ∷ k ∷ ls) l q t = absurd (omega arith)

pub linked_wants : (nodes : List Node) (n : Name) (s : Shape) → place_in nodes n ≡ None → is_linked_to s n ≡ true → wants nodes s ≡ true
linked_wants nodes n s q t =
    three (is_unknown nodes (slice_get (own_links s) 0)) (is_unknown nodes (slice_get (own_links s) 1)) (is_unknown nodes (slice_get (watched s) 0))
    (links_unknown nodes n (own_links s) (own_links_few s) q t)
  where
    three : (a b c : Bool) → a || b ≡ true → a || b || c ≡ true
    three true b c h = refl
    three false true c h = refl
    three false false c h = absurd cc

pub watching_wants : (nodes : List Node) (n : Name) (s : Shape) → place_in nodes n ≡ None → is_watching s n ≡ true → wants nodes s ≡ true
watching_wants nodes n s q t =
    three (is_unknown nodes (slice_get (own_links s) 0)) (is_unknown nodes (slice_get (own_links s) 1)) (is_unknown nodes (slice_get (watched s) 0))
    (watched_unknown nodes n (watched s) (watched_few s) q t)
  where
    three : (a b c : Bool) → c ≡ true → a || b || c ≡ true
    three true b c h = refl
    three false true c h = refl
    three false false c h = h

-- The place of a name among nodes with one more.

pub place_more : (nodes : List Node) (x : Node) (n : Name) (p : ℕ) → place_in nodes n ≡ Some p → place_in (nodes ++ x ∷ []) n ≡ Some p
place_more [] x n p e = absurd cc
place_more (y ∷ nodes) x n p e = by (name_eq y.name n) (place_in nodes n) (place_more nodes x n) e where
  by : (b : Bool) (o : Option ℕ) → ((q : ℕ) → o ≡ Some q → place_in (nodes ++ x ∷ []) n ≡ Some q) → (if b then Some zero else option_map suc o) ≡ Some p
      → (if b then Some zero else option_map suc (place_in (nodes ++ x ∷ []) n)) ≡ Some p
  by true o f h = h
  by false None f h = absurd cc
  by false (Some q) f h = ap (option_map suc) (f q refl) ∙ h

pub place_next : (nodes : List Node) (x : Node) (n : Name) → place_in nodes n ≡ None → place_in (nodes ++ x ∷ []) n ≡ (if name_eq x.name n then Some (length nodes) else None)
place_next [] x n e = by (name_eq x.name n) where
  by : (b : Bool) → (if b then Some zero else None) ≡ (if b then Some zero else None)
  by true = refl
  by false = refl
place_next (y ∷ nodes) x n e = by (name_eq y.name n) (place_in nodes n) (place_next nodes x n) e where
  later : (b : Bool) → option_map suc (if b then Some (length nodes) else None) ≡ (if b then Some (suc (length nodes)) else None)
  later true = refl
  later false = refl

  by : (b : Bool) (o : Option ℕ) → (o ≡ None → place_in (nodes ++ x ∷ []) n ≡ (if name_eq x.name n then Some (length nodes) else None)) → (if b then Some zero else option_map suc o) ≡ None
      → (if b then Some zero else option_map suc (place_in (nodes ++ x ∷ []) n)) ≡ (if name_eq x.name n then Some (suc (length nodes)) else None)
  by true o f h = absurd cc
  by false None f h = ap (option_map suc) (f refl) ∙ later (name_eq x.name n)
  by false (Some q) f h = absurd cc

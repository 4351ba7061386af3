-- Nodes that are found by the index.
use Rattle.std.proofs.Common.{◌≡◌, ℕ, ◌<◌, Bool, true, false, List, Option, Some, None, map, length, refl, sym, ap, ◌∙◌, subst}
use Rattle.std.specs.Prelude.{◌==◌, if◌then◌else◌, slice_get, IfSome}
use Rattle.std.specs.Bool.{Decides}
use Rattle.std.specs.Cmp.{unsigned_Decides}
use Rattle.std.specs.BTreeMap.{BTreeMap, get, is_at, Updates}
use Rattle.std.specs.Ordering.{is_eq}
use Rattle.std.specs.declared.cmp.Ordering.{Ordering}
use Rattle.std.specs.declared.cmp.Ordering.TheVariants.{Less, Equal, Greater}
use Rattle.std.proofs.Math.Bool.{cond}
use Rattle.std.proofs.lemmas.List.{length-map}
use Rattle.std.proofs.lemmas.Option.{slice_get_within}
use Rattle.frp_base.specs.declared.name.Name.{Name}
use Rattle.frp_base.specs.Name.{name_eq, name_cmp, item_of}
use Rattle.frp_base.proofs.Booleans.{is_false, same_test}
use Rattle.frp_base.proofs.OrderLemmas.{name_cmp-equal}
use Rattle.frp_graph.specs.declared.trace.Node.{Node}
use Rattle.frp_graph.proofs.Lists.{name_same, name_eq-same}
use Rattle.frp_graph.proofs.Order.{name_cmp-same}
use Rattle.frp_store.specs.declared.held.Held.{Held}
use Rattle.frp_store.specs.State.{place_in}
use Rattle.frp_store.specs.Edges.{IsIndexed, HasEntered, HasForgotten}
use Rattle.frp_store.specs.Kept.{IsFindable, is_named, stands_at}
use Rattle.frp_store.proofs.Finding.{place_at, place_shows}
use Rattle.frp_store.proofs.Setting.{get_map, get_map_back}

-- a name that is not at the number of its item is found by the index, where it has a place
pub index_finds : (nodes : List Node) (index : BTreeMap Name ℕ) (n : Name) → IsFindable nodes index
    → ((x : Node) → slice_get nodes (item_of n) ≡ Some x → name_eq x.name n ≡ true → ⊥) → get name_cmp index n ≡ place_in nodes n
index_finds nodes index n f d = by (place_in nodes n) refl (f.indexed n) where
  apart : (p : ℕ) → place_in nodes n ≡ Some p → (b : Bool) → Decides b (item_of n ≡ p) → (if b then None else Some p) ≡ Some p
  apart p e true h =
      let x = place_shows nodes n p e in
      absurd (d x.0 (ap (slice_get nodes) (h.0 refl) ∙ x.1) x.2)
  apart p e false h = refl

  by : (o : Option ℕ) → place_in nodes n ≡ o → IsIndexed index n o → get name_cmp index n ≡ o
  by None e i = i
  by (Some p) e i = i ∙ apart p e (item_of n == p) (unsigned_Decides (item_of n) p)

-- a place is within the nodes
pub place_within : (nodes : List Node) (n : Name) (o : Option ℕ) → o ≡ place_in nodes n → IfSome o (λ p. p < length nodes)
place_within nodes n None e = tt
place_within nodes n (Some p) e = let x = place_shows nodes n p (sym e) in slice_get_within nodes p x.0 x.1

pub place_within_held : (held : List Held) (n : Name) (o : Option ℕ) → o ≡ place_in (map (λ (h : Held). h.node) held) n → IfSome o (λ p. p < length held)
place_within_held held n o e = subst (λ k. IfSome o (λ p. p < k)) (length-map held (λ (h : Held). h.node)) (place_within (map (λ (h : Held). h.node) held) n o e)

-- a node that stands at the number of its item is found there
pub item_finds : (held : List Held) (index : BTreeMap Name ℕ) (n : Name) → IsFindable (map (λ (g : Held). g.node) held) index
    → stands_at held (item_of n) n ≡ true → place_in (map (λ (g : Held). g.node) held) n ≡ Some (item_of n)
item_finds held index n f s = by (slice_get held (item_of n)) refl s where
  by : (o : Option Held) → slice_get held (item_of n) ≡ o → is_named o n ≡ true → place_in (map (λ (g : Held). g.node) held) n ≡ Some (item_of n)
  by None e s = absurd cc
  by (Some h) e s = place_at (map (λ (g : Held). g.node) held) n (item_of n) h.node f.distinct (get_map (λ (g : Held). g.node) held (item_of n) h e) s

-- another is found by the index
pub index_finds_held : (held : List Held) (index : BTreeMap Name ℕ) (n : Name) → IsFindable (map (λ (g : Held). g.node) held) index
    → stands_at held (item_of n) n ≡ false → get name_cmp index n ≡ place_in (map (λ (g : Held). g.node) held) n
index_finds_held held index n f s = index_finds (map (λ (g : Held). g.node) held) index n f apart where
  apart : (x : Node) → slice_get (map (λ (g : Held). g.node) held) (item_of n) ≡ Some x → name_eq x.name n ≡ true → ⊥
  apart x e t =
      let h = get_map_back (λ (g : Held). g.node) held (item_of n) x e in
      let a : is_named (slice_get held (item_of n)) n ≡ name_eq h.0.node.name n = ap (λ o. is_named o n) h.1 in
      let b : name_eq h.0.node.name n ≡ true = ap (λ (y : Node). name_eq y.name n) h.2 ∙ t in
      absurd cc

-- The index, as it is written.

named : (k q : Name) → is_at (name_cmp k) q ≡ name_eq k q
named k q = same_test _ _ (λ t. ap (name_eq k) (sym ((name_cmp-equal k q).0 (is_equal (name_cmp k q) t))) ∙ name_eq-same k) (λ t. ap (λ m. is_eq (name_cmp k m)) (sym (name_same k q t)) ∙ ap is_eq (name_cmp-same k)) where
  is_equal : (o : Ordering) → is_eq o ≡ true → o ≡ Equal
  is_equal Less t = absurd cc
  is_equal Equal t = refl
  is_equal Greater t = absurd cc

pub entered_there : (old new : BTreeMap Name ℕ) (n : Name) (p item : ℕ) → item ≡ item_of n → (item ≡ p → ⊥) → Updates name_cmp old new n (Some p) → HasEntered old new n p
entered_there old new n p item e d u m = u.0 m ∙ ap (λ b. cond b (Some p) (get name_cmp old m)) (named n m) ∙ by (name_eq n m) where
  differs : item_of n == p ≡ false
  differs = is_false (item_of n == p) (λ t. d (e ∙ (unsigned_Decides (item_of n) p).0 t))

  by : (b : Bool) → cond b (Some p) (get name_cmp old m) ≡ (if b then (if item_of n == p then None else Some p) else get name_cmp old m)
  by true = rw differs refl
  by false = refl

pub entered_not : (old : BTreeMap Name ℕ) (n : Name) (p item : ℕ) → item ≡ item_of n → item ≡ p → get name_cmp old n ≡ None → HasEntered old old n p
entered_not old n p item e s none m = by (name_eq n m) refl where
  by : (b : Bool) → name_eq n m ≡ b → get name_cmp old m ≡ (if b then (if item_of n == p then None else Some p) else get name_cmp old m)
  by true t = ap (get name_cmp old) (sym (name_same n m t)) ∙ none ∙ sym (ap (λ b. if b then None else Some p) ((unsigned_Decides (item_of n) p).1 (sym e ∙ s)))
  by false t = refl

pub forgotten_there : (old new : BTreeMap Name ℕ) (n : Name) (p item : ℕ) → item ≡ item_of n → (item ≡ p → ⊥) → Updates name_cmp old new n None → HasForgotten old new n p
forgotten_there old new n p item e d u m = u.0 m ∙ ap (λ b. cond b None (get name_cmp old m)) (named n m) ∙ by (name_eq n m) where
  differs : item_of n == p ≡ false
  differs = is_false (item_of n == p) (λ t. d (e ∙ (unsigned_Decides (item_of n) p).0 t))

  by : (b : Bool) → cond b None (get name_cmp old m) ≡ (if item_of n == p then get name_cmp old m else (if b then None else get name_cmp old m))
  by true = rw differs refl
  by false = rw differs refl

pub forgotten_not : (old : BTreeMap Name ℕ) (n : Name) (p item : ℕ) → item ≡ item_of n → item ≡ p → HasForgotten old old n p
forgotten_not old n p item e s m = sym (ap (λ b. if b then get name_cmp old m else (if name_eq n m then None else get name_cmp old m)) ((unsigned_Decides (item_of n) p).1 (sym e ∙ s)))

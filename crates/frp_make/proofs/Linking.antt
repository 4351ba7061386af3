-- Links of Birth among nodes that are born.
use Rattle.std.proofs.Common.{◌≡◌, ℕ, Bool, true, false, List, [], ◌∷◌, filter, Option, Some, refl, ap, ◌∙◌, inl, inr}
use Rattle.std.specs.Prelude.{◌&&◌, ◌||◌, is_some, slice_get, if◌then◌else◌}
use Rattle.std.specs.List.{list_any}
use Rattle.frp_base.specs.declared.name.Name.{Name}
use Rattle.frp_base.specs.Name.{name_eq}
use Rattle.frp_base.proofs.Booleans.{bool_cases}
use Rattle.frp_graph.specs.declared.trace.Node.{Node}
use Rattle.frp_graph.specs.declared.evidence.Phase.TheVariants.{Birth}
use Rattle.frp_graph.specs.Trace.{Sight, node_in, post_in}
use Rattle.frp_graph.specs.TypedProg.{is_cell}
use Rattle.frp_graph.specs.Links.{birth_links, is_new, is_new_cell, links_from}
use Rattle.frp_graph.proofs.Lists.{name_same}
use Rattle.frp_make.specs.Search.{is_linked_among}
use Rattle.frp_make.specs.Making.{with_born}
use Rattle.frp_make.specs.Firsts.{IsIndex}
use Rattle.frp_make.proofs.Born.{found_at, new_node}

-- a name among those of which a test leaves some out
pub filtered : (q : Name → Bool) (n : Name) (b : Bool) → q n ≡ b → (ns : List Name) → list_any (λ k. name_eq k n) (filter q ns) ≡ b && list_any (λ k. name_eq k n) ns
filtered q n true e [] = refl
filtered q n false e [] = refl
filtered q n b e (k ∷ ns) = elim (bool_cases (name_eq k n)) [
  | inl s ↦ same (q k) b (ap q (name_same k n s) ∙ e) s (filtered q n b e ns)
  | inr d ↦ other (q k) b d (filtered q n b e ns)
]
  where
    same : (c b : Bool) → c ≡ b → name_eq k n ≡ true → list_any (λ k. name_eq k n) (filter q ns) ≡ b && list_any (λ k. name_eq k n) ns
        → list_any (λ k. name_eq k n) (if c then k ∷ filter q ns else filter q ns) ≡ b && (name_eq k n || list_any (λ k. name_eq k n) ns)
    same true true e s h = rw s refl
    same true false e s h = absurd cc
    same false true e s h = absurd cc
    same false false e s h = h

    other : (c b : Bool) → name_eq k n ≡ false → list_any (λ k. name_eq k n) (filter q ns) ≡ b && list_any (λ k. name_eq k n) ns
        → list_any (λ k. name_eq k n) (if c then k ∷ filter q ns else filter q ns) ≡ b && (name_eq k n || list_any (λ k. name_eq k n) ns)
    other true b d h = rw d h
    other false b d h = rw d h

chosen_any : (b c : Bool) (p : Name → Bool) (ns : List Name) → list_any p ns ≡ c → list_any p (if b then ns else []) ≡ b && c
chosen_any true c p ns h = h
chosen_any false c p ns h = refl

module _ (w : Sight) (nodes : List Node) (find : Name → Option ℕ) (index : IsIndex nodes find) (new : (p : ℕ) (x : Node) → slice_get nodes p ≡ Some x → is_new w x.name ≡ true) where
  abbrev W : Sight
  W = with_born w nodes

  -- a link is one of both cells' and of the shape's
  pub linked_value : (p q : ℕ) (x y : Node) → slice_get nodes p ≡ Some x → slice_get nodes q ≡ Some y
      → is_linked_among w nodes x.name y.name ≡ is_cell x.ty && (is_cell y.ty && list_any (λ k. name_eq k y.name) (birth_links W (post_in W) x.shape))
  linked_value p q x y h k =
      let from : is_some (node_in nodes x.name) ≡ true = ap is_some (found_at nodes find index p x h) in
      let to : is_some (node_in nodes y.name) ≡ true = ap is_some (found_at nodes find index q y k) in
      let cell : is_new_cell W (W.node y.name) ≡ is_cell y.ty = ap (is_new_cell W) (new_node nodes find index w q y k) ∙ ap (λ b. b && is_cell y.ty) (new q y k) in
      let among = filtered (λ n. is_new_cell W (W.node n)) y.name (is_cell y.ty) cell (birth_links W (post_in W) x.shape) in
      rw (from, to) (
      ap (λ (o : Option Node). list_any (λ k. name_eq k y.name) (links_from W (post_in W) Birth o)) (new_node nodes find index w p x h)
      ∙ ap (λ b. list_any (λ k. name_eq k y.name) (if b && is_cell x.ty then filter (λ n. is_new_cell W (W.node n)) (birth_links W (post_in W) x.shape) else [])) (new p x h)
      ∙ chosen_any (is_cell x.ty) _ (λ k. name_eq k y.name) (filter (λ n. is_new_cell W (W.node n)) (birth_links W (post_in W) x.shape)) among)

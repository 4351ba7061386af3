-- Nodes that are born, by their names and places, beside those that are live.
use Rattle.std.proofs.Common.{◌≡◌, ◌⊎◌, ℕ, zero, suc, Bool, true, false, List, [], ◌∷◌, Option, Some, None, refl, sym, ap, ◌∙◌, subst, inl, inr}
use Rattle.std.specs.Prelude.{slice_get, is_some, if◌then◌else◌}
use Rattle.std.proofs.lemmas.Option.{same_Some}
use Rattle.frp_base.specs.declared.name.Name.{Name}
use Rattle.frp_base.specs.Name.{name_eq}
use Rattle.frp_base.proofs.Booleans.{chosen}
use Rattle.frp_graph.specs.declared.trace.Node.{Node}
use Rattle.frp_graph.specs.Trace.{Sight, or_else, node_in}
use Rattle.frp_graph.proofs.Lists.{name_same, name_eq-same}
use Rattle.frp_graph.proofs.Options.{some_there}
use Rattle.frp_make.specs.Making.{with_born, before_of}
use Rattle.frp_make.specs.Firsts.{IsIndex}

-- a node that is found by its name stands somewhere, and one that stands somewhere is found by its name
pub node_place : (nodes : List Node) (n : Name) (y : Node) → node_in nodes n ≡ Some y → (p : ℕ) × (slice_get nodes p ≡ Some y) × (y.name ≡ n)
node_place [] n y h = absurd cc
node_place (x ∷ xs) n y h = elim (chosen (name_eq x.name n) x y (node_in xs n) h) [
  | inl e ↦ (0, ap Some e.1, ap (λ (z : Node). z.name) (sym e.1) ∙ name_same x.name n e.0)
  | inr r ↦ let s = node_place xs n y r.1 in (suc s.0, s.1, s.2)
]

pub place_node : (nodes : List Node) (p : ℕ) (x : Node) → slice_get nodes p ≡ Some x → is_some (node_in nodes x.name) ≡ true
place_node [] p x h = absurd cc
place_node (y ∷ ys) zero x h =
    let e : y ≡ x = cc in
    let t : name_eq y.name x.name ≡ true = subst (λ (z : Node). name_eq y.name z.name ≡ true) e (name_eq-same y.name) in
    rw t refl
place_node (y ∷ ys) (suc p) x h = by (name_eq y.name x.name) (place_node ys p x h) where
  by : (b : Bool) → is_some (node_in ys x.name) ≡ true → is_some (if b then Some y else node_in ys x.name) ≡ true
  by true e = refl
  by false e = e

module _ (nodes : List Node) (find : Name → Option ℕ) (index : IsIndex nodes find) where
  pub found_at : (p : ℕ) (x : Node) → slice_get nodes p ≡ Some x → node_in nodes x.name ≡ Some x
  found_at p x h =
      let y = some_there (node_in nodes x.name) (place_node nodes p x h) in
      let s = node_place nodes x.name y.0 y.1 in
      let e : Some s.0 ≡ Some p = sym (index.all s.0 y.0 s.1) ∙ ap find s.2 ∙ index.all p x h in
      y.1 ∙ sym s.1 ∙ ap (slice_get nodes) (same_Some s.0 p e) ∙ h

  pub not_among : (n : Name) → find n ≡ None → node_in nodes n ≡ None
  not_among n h = by (node_in nodes n) refl where
    by : (o : Option Node) → node_in nodes n ≡ o → o ≡ None
    by None e = refl
    by (Some y) e =
        let s = node_place nodes n y e in
        let q : Some s.0 ≡ None = sym (index.all s.0 y s.1) ∙ ap find s.2 ∙ h in
        absurd cc

  -- the place of a name is that of its node
  pub place_of : (n : Name) (p q : ℕ) (x : Node) → find n ≡ Some p → slice_get nodes q ≡ Some x → x.name ≡ n → p ≡ q
  place_of n p q x f h e = same_Some p q (sym f ∙ ap find (sym e) ∙ index.all q x h)

  -- no two have one name
  pub one_place : (p q : ℕ) (x y : Node) → slice_get nodes p ≡ Some x → slice_get nodes q ≡ Some y → x.name ≡ y.name → p ≡ q
  one_place p q x y h k e = place_of y.name p q y (ap find (sym e) ∙ index.all p x h) k refl

  module _ (w : Sight) where
    -- what is seen of one that is born, and of another
    pub new_node : (p : ℕ) (x : Node) → slice_get nodes p ≡ Some x → (with_born w nodes).node x.name ≡ Some x
    new_node p x h = ap (λ (o : Option Node). or_else o (w.node x.name)) (found_at p x h)

    pub new_before : (p : ℕ) (x : Node) → slice_get nodes p ≡ Some x → (with_born w nodes).pre x.name ≡ x.first
    new_before p x h = ap (λ (o : Option Node). before_of o (w.pre x.name)) (found_at p x h)

    pub old_node : (n : Name) → find n ≡ None → (with_born w nodes).node n ≡ w.node n
    old_node n h = ap (λ (o : Option Node). or_else o (w.node n)) (not_among n h)

    pub old_before : (n : Name) → find n ≡ None → (with_born w nodes).pre n ≡ w.pre n
    old_before n h = ap (λ (o : Option Node). before_of o (w.pre n)) (not_among n h)

    -- a node that is seen is one that is born, or was live before
    pub record IsBorn (n : Name) (y : Node) : Type 0 where
      pub place : ℕ
      pub found : find n ≡ Some place
      pub here : slice_get nodes place ≡ Some y
      pub named : y.name ≡ n

    pub born_or_old : (n : Name) (y : Node) → (with_born w nodes).node n ≡ Some y → IsBorn n y ⊎ ((find n ≡ None) × (w.node n ≡ Some y))
    born_or_old n y h = by (find n) refl where
      by : (o : Option ℕ) → find n ≡ o → IsBorn n y ⊎ ((find n ≡ None) × (w.node n ≡ Some y))
      by None f = inr (f, sym (old_node n f) ∙ h)
      by (Some p) f =
          let x = index.found n p f in
          let e : Some x.0 ≡ Some y = sym (new_node p x.0 x.1) ∙ ap (with_born w nodes).node x.2 ∙ h in
          let s : x.0 ≡ y = same_Some x.0 y e in
          inl (record { place = p; found = f; here = x.1 ∙ e; named = ap (λ (z : Node). z.name) (sym s) ∙ x.2 })

    -- by its place
    pub node_at : (n : Name) (p : ℕ) (x : Node) → find n ≡ Some p → slice_get nodes p ≡ Some x → (with_born w nodes).node n ≡ Some x
    node_at n p x f h =
        let y = index.found n p f in
        let e : Some y.0 ≡ Some x = sym y.1 ∙ h in
        ap (with_born w nodes).node (sym (ap (λ (z : Node). z.name) (sym (same_Some y.0 x e)) ∙ y.2)) ∙ new_node p x h

    pub before_at : (n : Name) (p : ℕ) (x : Node) → find n ≡ Some p → slice_get nodes p ≡ Some x → (with_born w nodes).pre n ≡ x.first
    before_at n p x f h =
        let y = index.found n p f in
        let e : Some y.0 ≡ Some x = sym y.1 ∙ h in
        ap (with_born w nodes).pre (sym (ap (λ (z : Node). z.name) (sym (same_Some y.0 x e)) ∙ y.2)) ∙ new_before p x h

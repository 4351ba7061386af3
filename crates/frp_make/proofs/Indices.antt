-- Places of nodes by their names, as one more is put in.
use Rattle.std.proofs.Common.{◌≡◌, ℕ, ◌<◌, ◌+◌, true, List, Some, refl, sym, ap, ◌∙◌, subst, arith, inl, inr}
use Rattle.std.specs.Prelude.{cond, slice_get}
use Rattle.std.specs.Ordering.{is_eq}
use Rattle.std.specs.BTreeMap.{BTreeMap, get, is_at, Updates}
use Rattle.std.specs.declared.cmp.Ordering.{Ordering}
use Rattle.std.specs.declared.cmp.Ordering.TheVariants.{Less, Equal, Greater}
use Rattle.std.proofs.lemmas.Bool.{cases_lt}
use Rattle.frp_base.specs.declared.name.Name.{Name}
use Rattle.frp_base.specs.Name.{name_cmp}
use Rattle.frp_base.proofs.Booleans.{bool_cases}
use Rattle.frp_base.proofs.OrderLemmas.{name_cmp-equal}
use Rattle.frp_graph.specs.declared.trace.Node.{Node}
use Rattle.frp_make.specs.Firsts.{AreApart}

same_of : (o : Ordering) → is_eq o ≡ true → o ≡ Equal
same_of Equal h = refl
same_of Less h = absurd cc
same_of Greater h = absurd cc

at_same : (a b : Name) → is_at (name_cmp a) b ≡ true → a ≡ b
at_same a b h = (name_cmp-equal a b).0 (same_of (name_cmp a b) h)

at_itself : (a : Name) → is_at (name_cmp a) a ≡ true
at_itself a = ap is_eq ((name_cmp-equal a a).1 refl)

module _ (nodes : List Node) (m n : BTreeMap Name ℕ) (place : ℕ) (x : Node) (at : slice_get nodes place ≡ Some x) (puts : Updates name_cmp m n x.name (Some place)) where
  abbrev pub AreFound : BTreeMap Name ℕ → Type 0
  AreFound m = (q : Name) (i : ℕ) → get name_cmp m q ≡ Some i → (y : Node) × (slice_get nodes i ≡ Some y) × (y.name ≡ q)

  pub found_more : AreFound m → AreFound n
  found_more found q i e = elim (bool_cases (is_at (name_cmp x.name) q)) [
    | inl h ↦
        let here : get name_cmp n q ≡ Some place = puts.0 q ∙ ap (λ b. cond b (Some place) (get name_cmp m q)) h in
        let both : Some place ≡ Some i = sym here ∙ e in
        let same : place ≡ i = cc in
        (x, subst (λ j. slice_get nodes j ≡ Some x) same at, at_same x.name q h)
    | inr h ↦ found q i (sym (puts.0 q ∙ ap (λ b. cond b (Some place) (get name_cmp m q)) h) ∙ e)
  ]

  pub all_more : AreApart nodes → ((i : ℕ) (y : Node) → i < place → slice_get nodes i ≡ Some y → get name_cmp m y.name ≡ Some i)
      → (i : ℕ) (y : Node) → i < place + 1 → slice_get nodes i ≡ Some y → get name_cmp n y.name ≡ Some i
  all_more apart all i y l e = elim (bool_cases (is_at (name_cmp x.name) y.name)) [
    | inl h ↦
        let same : place ≡ i = apart place i x y at e (at_same x.name y.name h) in
        puts.0 y.name ∙ ap (λ b. cond b (Some place) (get name_cmp m y.name)) h ∙ ap Some same
    | inr h ↦ elim (cases_lt i place) [
      | inl k ↦ puts.0 y.name ∙ ap (λ b. cond b (Some place) (get name_cmp m y.name)) h ∙ all i y k e
      | inr k ↦
          let s : i ≡ place = omega arith in
          let both : Some y ≡ Some x = sym e ∙ ap (slice_get nodes) s ∙ at in
          let named : y.name ≡ x.name = cc in
          let z : is_at (name_cmp x.name) y.name ≡ true = ap (λ k. is_at (name_cmp x.name) k) named ∙ at_itself x.name in
          absurd (cc (z, h))
    ]
  ]

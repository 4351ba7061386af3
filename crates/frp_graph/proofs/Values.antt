-- A cell's values before and after, and the facts of a moment.
use Rattle.std.proofs.Common.{◌≡◌, ◌↔◌, ◌⊎◌, Bool, true, false, List, [], ◌∷◌, map, Option, Some, None, refl, ap, ◌∙◌, subst}
use Rattle.std.proofs.Common.{inl, inr}
use Rattle.std.specs.Prelude.{option_and_then, if◌then◌else◌}
use Rattle.std.specs.List.{AllByRecursion}
use Rattle.std.specs.List.Sorted.{IsStrictlySortedBy}
use Rattle.frp_base.specs.declared.name.Name.{Name}
use Rattle.frp_base.specs.declared.val.Val.{Val}
use Rattle.frp_base.specs.Name.{name_eq, name_cmp}
use Rattle.frp_graph.specs.declared.trace.Fact.{Fact}
use Rattle.frp_graph.specs.declared.trace.Moment.{Moment}
use Rattle.frp_graph.specs.Trace.{or_else, fact_in, node_first, node_in, pre, post, occ, value_after}
use Rattle.frp_graph.specs.Laws.{IsFact}
use Rattle.frp_graph.proofs.Lists.{name_same, name_eq-same}
use Rattle.frp_graph.proofs.Facts.{one_fact}
use Rattle.frp_base.proofs.Booleans.{chosen}

-- a value that is found is that of a fact
pub found_is : (fs : List Fact) (n : Name) (v : Val) → fact_in fs n ≡ Some v → IsFact fs n v
found_is [] n v h = absurd cc
found_is (f ∷ fs) n v h = elim (chosen (name_eq f.node n) f.value v (fact_in fs n) h) [
  | inl e ↦ inl (name_same f.node n e.0, e.1)
  | inr r ↦ inr (found_is fs n v r.1)
]

-- a fact's node is found
there_found : (fs : List Fact) (n : Name) (v : Val) → IsFact fs n v → (w : Val) × (fact_in fs n ≡ Some w)
there_found [] n v h = absurd h
there_found (f ∷ fs) n v h = by (name_eq f.node n) refl (elim h [ inl e ↦ inl (subst (λ k. name_eq f.node k ≡ true) e.0 (name_eq-same f.node)) | inr r ↦ inr (there_found fs n v r) ]) where
  by : (b : Bool) → name_eq f.node n ≡ b → (name_eq f.node n ≡ true) ⊎ ((w : Val) × (fact_in fs n ≡ Some w)) → (w : Val) × ((if b then Some f.value else fact_in fs n) ≡ Some w)
  by true e o = (f.value, refl)
  by false e o = elim o [ inl t ↦ absurd cc | inr r ↦ r ]

pub is_found : (fs : List Fact) → IsStrictlySortedBy name_cmp (map (λ f. f.node) fs) → (n : Name) (v : Val) → IsFact fs n v → fact_in fs n ≡ Some v
is_found fs h n v f =
    let t = there_found fs n v f in
    let same : t.0 ≡ v = one_fact n t.0 v fs h (found_is fs n t.0 t.1) f in
    t.1 ∙ ap Some same

-- of two values, of which the later is the step where there is one
differ : (p o : Option Val) → (p ≡ or_else o p → ⊥) ↔ ((v : Val) × (o ≡ Some v) × (p ≡ Some v → ⊥))
differ p None = (λ h. absurd (h refl), λ h. absurd cc)
differ p (Some v) = (λ h. (v, refl, h), λ h e. h.2 (e ∙ h.1))

pub tell_apart : (past : List Moment) (m : Moment) (c : Name) → (pre past m c ≡ post past m c → ⊥) ↔ ((v : Val) × (occ m c ≡ Some v) × (pre past m c ≡ Some v → ⊥))
tell_apart past m c = differ (pre past m c) (occ m c)

-- what is never born with a first value has none after
pub streams_have_no_value : (trace : List Moment) (n : Name) → AllByRecursion (λ m. option_and_then node_first (node_in m.born n) ≡ None) trace → value_after trace n ≡ None
streams_have_no_value [] n h = refl
streams_have_no_value (m ∷ ms) n h = rw h.0 (streams_have_no_value ms n h.1)

-- A node fires at most once at a time.
use Rattle.std.proofs.Common.{◌≡◌, List, [], ◌∷◌, ◌++◌, map, sym, ap, ◌∙◌, subst}
use Rattle.std.proofs.Common.{inl, inr}
use Rattle.std.specs.List.{AllByRecursion}
use Rattle.std.specs.List.Sorted.{IsStrictlySortedBy}
use Rattle.std.specs.declared.cmp.Ordering.TheVariants.{Less, Equal}
use Rattle.frp_base.specs.declared.time.Time.{Time}
use Rattle.frp_base.specs.declared.name.Name.{Name}
use Rattle.frp_base.specs.declared.val.Val.{Val}
use Rattle.frp_base.specs.Time.{time_cmp}
use Rattle.frp_base.specs.Name.{name_cmp}
use Rattle.frp_graph.specs.declared.trace.Fact.{Fact}
use Rattle.frp_graph.specs.declared.trace.Moment.{Moment}
use Rattle.frp_graph.specs.declared.prog.Prog.{Prog}
use Rattle.frp_graph.specs.declared.trace.Sent.{Sent}
use Rattle.frp_graph.specs.Moments.{IsMoment, AtEach}
use Rattle.frp_graph.specs.Laws.{IsFact, Occurs}
use Rattle.frp_graph.proofs.Order.{time_cmp-same, name_cmp-same}

-- a name that comes before each of these facts is of none of them
not_among : (n : Name) (v : Val) (fs : List Fact) → AllByRecursion (λ k. name_cmp n k ≡ Less) (map (λ f. f.node) fs) → IsFact fs n v → ⊥
not_among n v [] h p = p
not_among n v (f ∷ fs) h p = elim p [
  | inl e ↦ let l : name_cmp n n ≡ Less = ap (name_cmp n) (sym e.0) ∙ h.0 in let q : name_cmp n n ≡ Equal = name_cmp-same n in cc
  | inr r ↦ not_among n v fs h.1 r
]

pub one_fact : (n : Name) (v w : Val) (fs : List Fact) → IsStrictlySortedBy name_cmp (map (λ f. f.node) fs) → IsFact fs n v → IsFact fs n w → v ≡ w
unfolding IsStrictlySortedBy
one_fact n v w [] h p q = absurd p
one_fact n v w (f ∷ fs) h p q = elim p [
  | inl e ↦ elim q [ inl d ↦ sym e.1 ∙ d.1 | inr r ↦ absurd (not_among n w fs (subst (λ k. AllByRecursion (λ j. name_cmp k j ≡ Less) (map (λ f. f.node) fs)) e.0 h.0) r) ]
  | inr r ↦ elim q [ inl d ↦ absurd (not_among n v fs (subst (λ k. AllByRecursion (λ j. name_cmp k j ≡ Less) (map (λ f. f.node) fs)) d.0 h.0) r) | inr s ↦ one_fact n v w fs h.1 r s ]
]

-- nothing occurs at a time that comes before each of these moments
not_later : (n : Name) (t : Time) (v : Val) (ms : List Moment) → AllByRecursion (λ u. time_cmp t u ≡ Less) (map (λ m. m.time) ms) → Occurs ms n t v → ⊥
not_later n t v [] h p = p
not_later n t v (m ∷ ms) h p = elim p [
  | inl e ↦ let l : time_cmp t t ≡ Less = ap (time_cmp t) (sym e.0) ∙ h.0 in let q : time_cmp t t ≡ Equal = time_cmp-same t in cc
  | inr r ↦ not_later n t v ms h.1 r
]

module _ (prog : Prog) (sends : List Sent) where
  pub one_occurrence : (n : Name) (t : Time) (v w : Val) (past ms : List Moment) → IsStrictlySortedBy time_cmp (map (λ m. m.time) ms)
      → AtEach (IsMoment prog sends) past ms → Occurs ms n t v → Occurs ms n t w → v ≡ w
  unfolding IsStrictlySortedBy
  one_occurrence n t v w past [] h a p q = absurd p
  one_occurrence n t v w past (m ∷ ms) h a p q = elim p [
    | inl e ↦ elim q [ inl d ↦ one_fact n v w m.fired a.0.fired_rise e.1 d.1 | inr r ↦ absurd (not_later n t w ms (subst (λ k. AllByRecursion (λ u. time_cmp k u ≡ Less) (map (λ m. m.time) ms)) e.0 h.0) r) ]
    | inr r ↦ elim q [ inl d ↦ absurd (not_later n t v ms (subst (λ k. AllByRecursion (λ u. time_cmp k u ≡ Less) (map (λ m. m.time) ms)) d.0 h.0) r) | inr s ↦ one_occurrence n t v w (past ++ m ∷ []) ms h.1 a.1 r s ]
  ]

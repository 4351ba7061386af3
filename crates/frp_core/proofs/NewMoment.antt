-- The moment that the plain engine makes is one that the program has.
use Rattle.std.proofs.Common.{◌≡◌, ℕ, ◌+◌, ◌<◌, suc, zero, true, false, List, [], ◌∷◌, ◌++◌, map, length, Option, Some, None, refl, sym, ap, ◌∙◌, subst, arith, zero-add, add-zero, append_assoc}
use Rattle.std.specs.Prelude.{slice_get, option_and_then, is_some}
use Rattle.std.specs.List.{AllByRecursion}
use Rattle.std.proofs.lemmas.List.{length_push}
use Rattle.std.specs.List.Sorted.{IsStrictlySortedBy}
use Rattle.std.specs.declared.cmp.Ordering.TheVariants.{Less}
use Rattle.frp_base.specs.declared.name.Name.{Name}
use Rattle.frp_base.specs.declared.val.Val.{Val}
use Rattle.frp_base.specs.Name.{declared_name, item_of, name_eq, name_cmp}
use Rattle.frp_graph.specs.declared.trace.Node.{Node}
use Rattle.frp_graph.specs.declared.trace.Fact.{Fact}
use Rattle.frp_graph.specs.declared.trace.Moment.{Moment}
use Rattle.frp_graph.specs.declared.prog.Prog.{Prog}
use Rattle.frp_graph.specs.Trace.{fact_in, node_in, live, occ, occ_above, sight_of}
use Rattle.frp_graph.specs.declared.trace.Sent.{Sent}
use Rattle.frp_graph.specs.Sends.{sent_in}
use Rattle.frp_graph.specs.Equations.{MeetsEquation}
use Rattle.frp_graph.specs.FirstValues.{AreExactly}
use Rattle.frp_graph.specs.Moments.{IsMoment}
use Rattle.frp_graph.proofs.Nodes.{each_holds}
use Rattle.frp_core.specs.Small.{IsEarlier, AreSmallFrom}
use Rattle.frp_core.specs.Engine.{sends_of_fact, occ_at, sees, AreSettled, facts_of}
use Rattle.frp_graph.proofs.Lists.{name_eq-same}
use Rattle.frp_graph.proofs.FileBirths.{declared_less}
use Rattle.frp_base.proofs.Lists.{all_follow, get_front, get_next}
use Rattle.frp_core.proofs.Times.{all_mapped}
use Rattle.frp_core.proofs.Found.{declared_differs, each_found}
use Rattle.frp_core.proofs.SmallShapes.{row_small}

-- The facts of nodes in order, looked up by their names.

abbrev flat : Option (Option Val) → Option Val
flat o = option_and_then (λ (p : Option Val). p) o

no_fact : (k j : ℕ) (xs : List Node) (os : List (Option Val)) → j < k → AreSmallFrom k xs → fact_in (facts_of xs os) (declared_name j) ≡ None
no_fact k j [] os h s = refl
no_fact k j (x ∷ xs) [] h s = refl
no_fact k j (x ∷ xs) (None ∷ os) h s = no_fact (k + 1) j xs os (omega arith) s.2
no_fact k j (x ∷ xs) (Some v ∷ os) h s =
    let d : name_eq x.name (declared_name j) ≡ false = declared_differs x.name k j s.0 (λ e. absurd (omega arith)) in
    rw d (no_fact (k + 1) j xs os (omega arith) s.2)

fact_found : (k i : ℕ) (xs : List Node) (os : List (Option Val)) → length os ≡ length xs → AreSmallFrom k xs → fact_in (facts_of xs os) (declared_name (k + i)) ≡ flat (slice_get os i)
fact_found k zero [] [] h s = refl
fact_found k (suc i) [] [] h s = refl
fact_found k i [] (o ∷ os) h s = absurd (omega arith)
fact_found k i (x ∷ xs) [] h s = absurd (omega arith)
fact_found k zero (x ∷ xs) (None ∷ os) h s = no_fact (k + 1) (k + 0) xs os (omega arith) s.2
fact_found k zero (x ∷ xs) (Some v ∷ os) h s =
    let e : name_eq x.name (declared_name (k + 0)) ≡ true = ap (λ n. name_eq n (declared_name (k + 0))) (s.0 ∙ ap declared_name (sym (add-zero k))) ∙ name_eq-same (declared_name (k + 0)) in
    rw e refl
fact_found k (suc i) (x ∷ xs) (None ∷ os) h s =
    let q : k + suc i ≡ (k + 1) + i = omega arith in
    ap (λ j. fact_in (facts_of xs os) (declared_name j)) q ∙ fact_found (k + 1) i xs os (omega arith) s.2
fact_found k (suc i) (x ∷ xs) (Some v ∷ os) h s =
    let q : k + suc i ≡ (k + 1) + i = omega arith in
    let d : name_eq x.name (declared_name (k + suc i)) ≡ false = declared_differs x.name k (k + suc i) s.0 (λ e. absurd (omega arith)) in
    rw d (ap (λ j. fact_in (facts_of xs os) (declared_name j)) q ∙ fact_found (k + 1) i xs os (omega arith) s.2)

-- what holds of the names of the nodes holds of those of the facts
facts_all : (P : Name → Type 0) (xs : List Node) (os : List (Option Val)) → AllByRecursion (λ x. P x.name) xs → AllByRecursion P (map (λ f. f.node) (facts_of xs os))
facts_all P [] os h = tt
facts_all P (x ∷ xs) [] h = tt
facts_all P (x ∷ xs) (None ∷ os) h = facts_all P xs os h.1
facts_all P (x ∷ xs) (Some v ∷ os) h = (h.0, facts_all P xs os h.1)

-- Names rise.

above : (a k : ℕ) (xs : List Node) → a < k → AreSmallFrom k xs → AllByRecursion (λ x. name_cmp (declared_name a) x.name ≡ Less) xs
above a k [] h s = tt
above a k (x ∷ xs) h s = (ap (name_cmp (declared_name a)) s.0 ∙ declared_less a k h, above a (k + 1) xs (omega arith) s.2)

all_map : {A B : Type 0} (f : A → B) (P : B → Type 0) (xs : List A) → AllByRecursion (λ x. P (f x)) xs → AllByRecursion P (map f xs)
all_map f P [] h = tt
all_map f P (x ∷ xs) h = (h.0, all_map f P xs h.1)

pub nodes_rise : (k : ℕ) (xs : List Node) → AreSmallFrom k xs → IsStrictlySortedBy name_cmp (map (λ x. x.name) xs)
unfolding IsStrictlySortedBy
nodes_rise k [] s = tt
nodes_rise k (x ∷ xs) s = (
  subst (λ n. AllByRecursion (λ y. name_cmp n y ≡ Less) (map (λ x. x.name) xs)) (sym s.0) (all_map (λ x. x.name) (λ y. name_cmp (declared_name k) y ≡ Less) xs (above k (k + 1) xs (omega arith) s.2)),
  nodes_rise (k + 1) xs s.2,
)

facts_rise : (k : ℕ) (xs : List Node) (os : List (Option Val)) → AreSmallFrom k xs → IsStrictlySortedBy name_cmp (map (λ f. f.node) (facts_of xs os))
unfolding IsStrictlySortedBy
facts_rise k [] os s = tt
facts_rise k (x ∷ xs) [] s = tt
facts_rise k (x ∷ xs) (None ∷ os) s = facts_rise (k + 1) xs os s.2
facts_rise k (x ∷ xs) (Some v ∷ os) s = (
  subst (λ n. AllByRecursion (λ y. name_cmp n y ≡ Less) (map (λ f. f.node) (facts_of xs os))) (sym s.0) (facts_all (λ y. name_cmp (declared_name k) y ≡ Less) xs os (above k (k + 1) xs (omega arith) s.2)),
  facts_rise (k + 1) xs os s.2,
)

-- What is first in a list stays so in a longer one.

-- The equations.

module _ (prog : Prog) (nodes : List Node) (sends : List Sent) (place : ℕ) (sent : Option Fact) (past : List Moment) (m : Moment) (occs : List (Option Val))
    (time : m.time ≡ place ∷ []) (fired : m.fired ≡ facts_of nodes occs) (small : AreSmallFrom 0 nodes)
    (same : length occs ≡ length nodes)
    (agree : (n : Name) → sent_in prog sends (place ∷ []) n ≡ sent_in prog (sends_of_fact place sent) (place ∷ []) n) where
  found : (i : ℕ) → occ m (declared_name i) ≡ flat (slice_get occs i)
  found i = ap (λ fs. fact_in fs (declared_name i)) fired ∙ ap (λ j. fact_in (facts_of nodes occs) (declared_name j)) (sym (zero-add i)) ∙ fact_found 0 i nodes occs same small

  -- what is seen of earlier nodes is what the engine sees of them
  seen : (before rest : List (Option Val)) → occs ≡ before ++ rest → (n : Name) → IsEarlier (length before) n → occ m n ≡ occ_at before n
  seen before rest e n i =
      ap (occ m) i.1.1 ∙ found i.0 ∙ ap flat (ap (λ os. slice_get os i.0) e ∙ get_front before rest i.0 i.1.0) ∙ ap (λ j. flat (slice_get before j)) (sym (ap item_of i.1.1))

  meets_from : (before : List (Option Val)) (xs : List Node) (os : List (Option Val)) → occs ≡ before ++ os → AreSmallFrom (length before) xs → AreSettled prog place sent before xs os
      → AllByRecursion (MeetsEquation prog sends (sight_of past m)) xs
  meets_from before [] os e s a = tt
  meets_from before (x ∷ xs) [] e s a = absurd a
  meets_from before (x ∷ xs) (o ∷ os) e s a =
      let here : occ m x.name ≡ o = ap (occ m) s.0 ∙ found (length before) ∙ ap flat (ap (λ os. slice_get os (length before)) e ∙ get_next before o os) in
      let r = row_small prog (sends_of_fact place sent) sends (sees place before) (sight_of past m) (length before) x s.0 s.1 time (seen before (o ∷ os) e) (λ n v q. absurd cc)
      (λ n. ap (λ t. occ_above past t n) time) (agree x.name) in (
        here ∙ a.0 ∙ sym r,
        meets_from (before ++ o ∷ []) xs os (e ∙ sym (append_assoc before (o ∷ []) os)) (subst (λ k. AreSmallFrom k xs) (sym (length_push before o)) s.2) a.1,
      )

  pub new_moment : AreSettled prog place sent [] nodes occs → AreExactly prog (sight_of past m) m.born → IsStrictlySortedBy name_cmp (map (λ x. x.name) m.born)
      → live (past ++ m ∷ []) ≡ nodes → IsMoment prog sends past m
  new_moment a b r l = record {
    born_exactly = b;
    equations = each_holds (sight_of past m) nodes (λ n. ap (λ (xs : List Node). node_in xs n) l) (MeetsEquation prog sends (sight_of past m))
        (meets_from [] nodes occs refl small a);
    facts_of_live = subst (λ nodes. AllByRecursion (λ f. is_some (node_in nodes f.node) ≡ true) m.fired) (sym l)
        (subst (AllByRecursion (λ f. is_some (node_in nodes f.node) ≡ true)) (sym fired)
        (all_mapped (λ f. f.node) (λ n. is_some (node_in nodes n) ≡ true) (facts_of nodes occs)
        (facts_all (λ n. is_some (node_in nodes n) ≡ true) nodes occs (all_follow _ _ (λ x e. ap is_some e) nodes (each_found 0 nodes small)))));
    born_rise = r;
    fired_rise = subst (λ fs. IsStrictlySortedBy name_cmp (map (λ f. f.node) fs)) (sym fired) (facts_rise 0 nodes occs small);
  }

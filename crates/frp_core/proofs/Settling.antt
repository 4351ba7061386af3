-- One node more: its occurrence is that of its row, where the occurrences before it are seen.
use Rattle.std.proofs.Common.{◌≡◌, ℕ, ◌+◌, ◌<◌, suc, zero, Bool, true, false, cond, List, [], ◌∷◌, ◌++◌, map, length, take, get_or, Option, Some, None, refl, sym, ap, ◌∙◌, subst, arith, zero-add, add-zero, append_assoc}
use Rattle.std.specs.Prelude.{if◌then◌else◌}
use Rattle.std.proofs.lemmas.Grind.{common_steps}
use Rattle.std.proofs.lemmas.List.{append-nil, take_more}
use Rattle.frp_base.specs.declared.name.Name.{Name}
use Rattle.frp_base.specs.declared.val.Val.{Val}
use Rattle.frp_base.specs.Name.{name_eq}
use Rattle.frp_graph.specs.declared.trace.Node.{Node}
use Rattle.frp_graph.specs.declared.trace.Fact.{Fact}
use Rattle.frp_graph.specs.declared.trace.Sent.{Sent}
use Rattle.frp_graph.specs.declared.prog.Prog.{Prog}
use Rattle.frp_graph.specs.Equations.{row}
use Rattle.frp_graph.specs.Sends.{join_of, combined, sent_in}
use Rattle.frp_graph.proofs.Lists.{time_eq-same}
use Rattle.frp_core.specs.Small.{IsSmall, AreSmallFrom}
use Rattle.frp_core.specs.Engine.{sent_to, sends_of_fact, sees, AreSettled}

-- the node at a position of the nodes is small there
small_at : (k : ℕ) (xs : List Node) (i : ℕ) (d : Node) → i < length xs → AreSmallFrom k xs → IsSmall (k + i) (get_or xs i d).shape
small_at k [] i d h s = absurd (omega arith)
small_at k (x ∷ xs) zero d h s = subst (λ j. IsSmall j x.shape) (sym (add-zero k)) s.1
small_at k (x ∷ xs) (suc i) d h s =
    let e : (k + 1) + i ≡ k + suc i = omega arith in
    subst (λ j. IsSmall j (get_or xs i d).shape) e (small_at (k + 1) xs i d (omega arith) s.2)

module _ (prog : Prog) (place : ℕ) (sent : Option Fact) where
  -- the occurrence of a node's row, where these are seen
  abbrev row_over : List (Option Val) → Node → Option Val
  row_over os x = row prog (sends_of_fact place sent) (sees place os) x x.shape

  settled_push : (before : List (Option Val)) (xs : List Node) (os : List (Option Val)) (x : Node) (o : Option Val) → AreSettled prog place sent before xs os
      → o ≡ row_over (before ++ os) x → AreSettled prog place sent before (xs ++ x ∷ []) (os ++ o ∷ [])
  settled_push before [] [] x o a e = (e ∙ ap (λ os. row_over os x) (append-nil before), tt)
  settled_push before [] (p ∷ os) x o a e = absurd a
  settled_push before (y ∷ xs) [] x o a e = absurd a
  settled_push before (y ∷ xs) (p ∷ os) x o a e = (a.0, settled_push (before ++ p ∷ []) xs os x o a.1 (e ∙ ap (λ os. row_over os x) (sym (append_assoc before (p ∷ []) os))))

  -- there are as many occurrences as nodes
  pub settled_length : (before : List (Option Val)) (xs : List Node) (os : List (Option Val)) → AreSettled prog place sent before xs os → length os ≡ length xs
  settled_length before [] [] a = refl
  settled_length before [] (o ∷ os) a = absurd a
  settled_length before (x ∷ xs) [] a = absurd a
  settled_length before (x ∷ xs) (o ∷ os) a = ap suc (settled_length (before ++ o ∷ []) xs os a.1)

  module _ (nodes : List Node) (os : List (Option Val)) (i : ℕ) (x : Node) (h : i < length nodes) (e : x ≡ get_or nodes i x) (a : AreSettled prog place sent [] (take i nodes) os) where
    -- one node more is settled
    pub settled_more : (o : Option Val) → o ≡ row_over os x → AreSettled prog place sent [] (take (i + 1) nodes) (os ++ o ∷ [])
    settled_more o r =
        let f : take (i + 1) nodes ≡ take i nodes ++ x ∷ [] = take_more nodes i x h ∙ ap (λ y. take i nodes ++ y ∷ []) (sym e) in
        rw f (settled_push [] (take i nodes) os x o a r)

    -- it is small where as many occurrences as nodes before it are settled
    pub small_here : AreSmallFrom 0 nodes → IsSmall (length os) x.shape
    small_here s =
        let n : length os ≡ length (take i nodes) = settled_length [] (take i nodes) os a in
        let l : 0 + i ≡ length os = zero-add i ∙ sym (n ∙ grind (arith, common_steps)) in
        subst (λ j. IsSmall j x.shape) l (subst (λ y. IsSmall (0 + i) y.shape) (sym e) (small_at 0 nodes i x h s))

-- what is sent at a place to a sink, where one value at most is
pub one_sent : (prog : Prog) (place : ℕ) (sent : Option Fact) (n : Name) → sent_in prog (sends_of_fact place sent) (place ∷ []) n ≡ sent_to sent n
one_sent prog place None n = refl
one_sent prog place (Some f) n = rw (time_eq-same (place ∷ [])) (by (name_eq f.node n)) where
  by : (b : Bool) → combined prog (join_of prog n) (map (λ (s : Sent). s.value) (cond b (record { place = place; part = 0; sink = f.node; value = f.value } ∷ []) [])) ≡ (if b then Some f.value else None)
  by true = refl
  by false = refl

-- The values of a body, line by line, and the nodes that more lines make.
use Rattle.std.proofs.Common.{◌≡◌, ℕ, zero, suc, ◌+◌, ◌<◌, ◌≤◌, true, List, [], ◌∷◌, ◌++◌, length, take, get_or, Option, Some, sym, ap, ◌∙◌, subst, append_assoc, append-nil, arith}
use Rattle.std.specs.Prelude.{is_some}
use Rattle.std.proofs.Math.Seq.{take-append_seam}
use Rattle.std.proofs.lemmas.List.{length_push}
use Rattle.std.proofs.lemmas.Option.{same_Some}
use Rattle.frp_base.specs.declared.name.Name.{Name}
use Rattle.frp_base.specs.declared.val.Val.{Val}
use Rattle.frp_graph.specs.declared.prog.Line3.{Line3}
use Rattle.frp_graph.specs.declared.prog.Line3.TheVariants.{Node, Get}
use Rattle.frp_graph.specs.Births.{Plan, reference, node_of, shape_of, given_by, size_of, values_from, plans_from}
use Rattle.frp_graph.proofs.Options.{some_is, then_some}
use Rattle.frp_make.specs.Lines.{refers, value_of, HasValue, AreReady}

-- how many nodes one line makes
pub one_at_most : (l : Line3) → size_of (l ∷ []) ≤ 1
one_at_most (Node x shape) = omega arith
one_at_most (Get c) = omega arith

pub size_append : (ls ms : List Line3) → size_of (ls ++ ms) ≡ size_of ls + size_of ms
size_append [] ms = let z : size_of ms ≡ 0 + size_of ms = omega arith in z
size_append (Node x shape ∷ ls) ms = let more = size_append ls ms in omega arith
size_append (Get c ∷ ls) ms = size_append ls ms

module _ (name : ℕ → Name) (pre : Name → Option Val) where
  -- the values so far are the first of all
  pub are_first : (vs all : List Val) (k : ℕ) (ls : List Line3) → values_from name pre k vs ls ≡ Some all → (rest : List Val) × (all ≡ vs ++ rest)
  are_first vs all k [] e = ([], some_is vs all e ∙ sym (append-nil vs))
  are_first vs all k (Node x shape ∷ ls) e =
      let r = are_first (vs ++ reference x (name k) ∷ []) all (k + 1) ls e in
      (reference x (name k) ∷ r.0, r.1 ∙ append_assoc vs (reference x (name k) ∷ []) r.0)
  are_first vs all k (Get c ∷ ls) e =
      let y = then_some (λ a. values_from name pre k (vs ++ a ∷ []) ls) (pre (node_of vs c)) all e in
      let r = are_first (vs ++ y.0 ∷ []) all k ls y.2 in
      (y.0 ∷ r.0, r.1 ∙ append_assoc vs (y.0 ∷ []) r.0)

  pub taken : (vs all : List Val) (k : ℕ) (ls : List Line3) → values_from name pre k vs ls ≡ Some all → take (length vs) all ≡ vs
  taken vs all k ls e = let r = are_first vs all k ls e in ap (take (length vs)) r.1 ∙ take-append_seam vs r.0

  -- what stands before the lines that are left
  pub record Going (made : ℕ) (vs : List Val) (ls : List Line3) (all : List Val) : Type 0 where
    pub rest : values_from name pre made vs ls ≡ Some all
    pub ready : AreReady all (length vs) ls

  pub next_value : (made : ℕ) (vs : List Val) (l : Line3) (ls : List Line3) (all : List Val) → Going made vs (l ∷ ls) all → HasValue pre vs l
  next_value made vs (Node x shape) ls all g = tt
  next_value made vs (Get c) ls all g =
      let y = then_some (λ a. values_from name pre made (vs ++ a ∷ []) ls) (pre (node_of vs c)) all g.rest in
      (subst (λ (ws : List Val). refers ws c ≡ true) (taken vs all made (Get c ∷ ls) g.rest) g.ready.0, ap is_some y.1)

  pub next_going : (made : ℕ) (vs : List Val) (l : Line3) (ls : List Line3) (all : List Val) (v : Val) → Going made vs (l ∷ ls) all → value_of name pre made vs l ≡ Some v
      → Going (made + size_of (l ∷ [])) (vs ++ v ∷ []) ls all
  next_going made vs (Node x shape) ls all v g e = record {
    rest = subst (λ (u : Val). values_from name pre (made + 1) (vs ++ u ∷ []) ls ≡ Some all) (same_Some (reference x (name made)) v e) g.rest;
    ready = subst (λ n. AreReady all n ls) (sym (length_push vs v)) g.ready.1;
  }
  next_going made vs (Get c) ls all v g e =
      let y = then_some (λ a. values_from name pre made (vs ++ a ∷ []) ls) (pre (node_of vs c)) all g.rest in
      let is : y.0 ≡ v = same_Some y.0 v (sym y.1 ∙ e) in
      let none : made ≡ made + 0 = omega arith in
      record {
        rest = subst (λ m. values_from name pre m (vs ++ v ∷ []) ls ≡ Some all) none (subst (λ (u : Val). values_from name pre made (vs ++ u ∷ []) ls ≡ Some all) is y.2);
        ready = subst (λ n. AreReady all n ls) (sym (length_push vs v)) g.ready.1;
      }

-- The nodes of more lines.

module _ (name : ℕ → Name) (all : List Val) where
  pub plans_append : (k n : ℕ) (ls ms : List Line3) → plans_from name all k n (ls ++ ms) ≡ plans_from name all k n ls ++ plans_from name all (k + size_of ls) (n + length ls) ms
  plans_append k n [] ms =
      let e : k ≡ k + 0 = omega arith in
      let f : n ≡ n + 0 = omega arith in
      (λ i. plans_from name all (e i) (f i) ms)
  plans_append k n (Node x shape ∷ ls) ms =
      let e : (k + 1) + size_of ls ≡ k + (size_of ls + 1) = omega arith in
      let f : (n + 1) + length ls ≡ n + length (Node x shape ∷ ls) = omega arith in
      let more : plans_from name all (k + 1) (n + 1) (ls ++ ms) ≡ plans_from name all (k + 1) (n + 1) ls ++ plans_from name all (k + (size_of ls + 1)) (n + length (Node x shape ∷ ls)) ms
      = plans_append (k + 1) (n + 1) ls ms ∙ (λ i. plans_from name all (k + 1) (n + 1) ls ++ plans_from name all (e i) (f i) ms) in
      ap (λ (ds : List Plan). record { name = name k; shape = shape_of all (take n all) shape; ty = x; given = given_by (take n all) shape } ∷ ds) more
  plans_append k n (Get c ∷ ls) ms =
      let f : (n + 1) + length ls ≡ n + length (Get c ∷ ls) = omega arith in
      plans_append k (n + 1) ls ms ∙ (λ i. plans_from name all k (n + 1) ls ++ plans_from name all (k + size_of ls) (f i) ms)

-- each line is ready
pub ready_at : (all : List Val) (n i : ℕ) (ls : List Line3) (d : Line3) → AreReady all n ls → i < length ls → AreReady all (n + i) (get_or ls i d ∷ [])
ready_at all n i [] d h l = absurd (omega arith)
ready_at all n zero (Node x shape ∷ ls) d h l = let e : n ≡ n + 0 = omega arith in subst (λ m. AreReady all m (Node x shape ∷ [])) e (h.0, tt)
ready_at all n zero (Get c ∷ ls) d h l = let e : n ≡ n + 0 = omega arith in subst (λ m. AreReady all m (Get c ∷ [])) e (h.0, tt)
ready_at all n (suc i) (Node x shape ∷ ls) d h l = let e : (n + 1) + i ≡ n + suc i = omega arith in subst (λ m. AreReady all m (get_or ls i d ∷ [])) e (ready_at all (n + 1) i ls d h.1 (omega arith))
ready_at all n (suc i) (Get c ∷ ls) d h l = let e : (n + 1) + i ≡ n + suc i = omega arith in subst (λ m. AreReady all m (get_or ls i d ∷ [])) e (ready_at all (n + 1) i ls d h.1 (omega arith))

-- Occurrences that are taken from their places at the end of a moment.
use Rattle.std.proofs.Common.{◌≡◌, ℕ, Bool, true, false, List, [], ◌∷◌, ◌++◌, Option, Some, None, map, length, take, zero, suc, refl, sym, ap, ◌∙◌, subst, arith, inl, inr}
use Rattle.std.specs.Prelude.{◌==◌, ◌&&◌, not, slice_get, is_some, option_and_then, if◌then◌else◌, IsTrue}
use Rattle.std.specs.List.{list_all}
use Rattle.std.specs.Bool.{Decides}
use Rattle.std.specs.Cmp.{unsigned_Decides}
use Rattle.std.proofs.lemmas.List.{append-nil}
use Rattle.frp_base.specs.declared.name.Name.{Name}
use Rattle.frp_base.specs.declared.val.Val.{Val}
use Rattle.frp_base.specs.Name.{name_eq}
use Rattle.frp_base.proofs.Booleans.{either_true, both_true, true_both}
use Rattle.frp_graph.specs.declared.trace.Node.{Node}
use Rattle.frp_graph.specs.declared.trace.Fact.{Fact}
use Rattle.frp_graph.specs.Trace.{fact_in, or_else, stepped}
use Rattle.frp_graph.specs.Links.{are_distinct}
use Rattle.frp_graph.proofs.Lists.{name_same, name_eq-same}
use Rattle.frp_store.specs.declared.held.Held.{Held}
use Rattle.frp_store.specs.declared.held.Step.{Step}
use Rattle.frp_store.specs.declared.held.Closing.{Closing}
use Rattle.frp_store.specs.Items.{updated}
use Rattle.frp_store.specs.State.{names}
use Rattle.frp_store.specs.Lists.{nodes_of}
use Rattle.frp_store.specs.Places.{has}
use Rattle.frp_store.specs.Undo.{set_occ, set_before, unwritten}
use Rattle.frp_store.specs.Closing.{occ_of, at, held_occ, held_before, silenced, closed, closed_all, cell_step, IsPrepared, ArePrepared, facts_from, steps_from, taken_at, taken_steps, HasClosed}
use Rattle.frp_store.proofs.Items.{updated_cases, updated_same, updated_twice, get_updated, get_updated_other, map_updated_kept, map_updated, map_updated_same}
use Rattle.frp_store.proofs.Finding.{place_occ, place_at, flat}
use Rattle.frp_store.proofs.Setting.{get_map}
use Rattle.frp_store.proofs.Keeping.{has_pushed}
use Rattle.frp_store.proofs.Choices.{or_else_none, neither, or_else_joined}

-- Facts that are joined.

pub facts_joined : (fs gs : List Fact) (n : Name) → fact_in (fs ++ gs) n ≡ or_else (fact_in fs n) (fact_in gs n)
facts_joined [] gs n = refl
facts_joined (f ∷ fs) gs n = by (name_eq f.node n) (facts_joined fs gs n) where
  by : (b : Bool) → fact_in (fs ++ gs) n ≡ or_else (fact_in fs n) (fact_in gs n)
      → (if b then Some f.value else fact_in (fs ++ gs) n) ≡ or_else (if b then Some f.value else fact_in fs n) (fact_in gs n)
  by true h = refl
  by false h = h

-- a step more is undone first
pub unwritten_more : (ss : List Step) (s : Step) (held : List Held) → unwritten (ss ++ s ∷ []) held ≡ unwritten ss (updated s.place (set_before (Some s.value)) held)
unwritten_more [] s held = refl
unwritten_more (t ∷ ss) s held = ap (updated t.place (set_before (Some t.value))) (unwritten_more ss s held)

-- An occurrence is taken.

-- what a name has, once the item of a place has no occurrence
pub occ_taken : (held : List Held) (p : ℕ) (h : Held) (v : Val) (g : Held → Held) (n : Name) → are_distinct (names (nodes_of held)) ≡ true
    → slice_get held p ≡ Some h → h.occ ≡ Some v → ((x : Held) → (g x).node ≡ x.node) → ((x : Held) → (g x).occ ≡ None)
    → occ_of held n ≡ or_else (fact_in (record { node = h.node.name; value = v } ∷ []) n) (occ_of (updated p g held) n)
occ_taken [] p h v g n d e o k s = absurd cc
occ_taken (x ∷ held) zero h v g n d e o k s =
    let same : x ≡ h = cc in
    let value : x.occ ≡ Some v = ap (λ (z : Held). z.occ) same ∙ o in
    by (name_eq x.node.name n) (name_eq h.node.name n) (name_eq (g x).node.name n) value (ap (λ (z : Held). name_eq z.node.name n) (sym same)) (ap (λ (y : Node). name_eq y.name n) (k x)) (s x)
  where
    by : (b c d : Bool) → x.occ ≡ Some v → c ≡ b → d ≡ b → (g x).occ ≡ None
        → (if b then x.occ else occ_of held n) ≡ or_else (if c then Some v else None) (if d then (g x).occ else occ_of held n)
    by true true d a q r t = a
    by true false d a q r t = absurd cc
    by false true d a q r t = absurd cc
    by false false true a q r t = absurd cc
    by false false false a q r t = refl
occ_taken (x ∷ held) (suc p) h v g n d e o k s =
    by (name_eq x.node.name n) refl (occ_taken held p h v g n (both_true _ _ d).1 e o k s)
  where
    apart : name_eq x.node.name n ≡ true → name_eq h.node.name n ≡ true → ⊥
    apart a b = differs x.node.name held p h (both_true _ _ d).0 e (ap (name_eq x.node.name) (name_same h.node.name n b) ∙ a) where
      differs : (m : Name) (hs : List Held) (i : ℕ) (h : Held) → list_all (λ j. not (name_eq m j)) (names (nodes_of hs)) ≡ true → slice_get hs i ≡ Some h → name_eq m h.node.name ≡ true → ⊥
      differs m [] i h a e t = absurd cc
      differs m (y ∷ hs) zero h a e t =
          let same : y ≡ h = cc in
          let q : name_eq m y.node.name ≡ true = ap (λ (z : Held). name_eq m z.node.name) same ∙ t in
          let r : not (name_eq m y.node.name) ≡ true = (both_true _ _ a).0 in
          let u : not (name_eq m y.node.name) ≡ false = ap not q in
          absurd cc
      differs m (y ∷ hs) (suc i) h a e t = differs m hs i h (both_true _ _ a).1 e t

    none : (b : Bool) (o : Option Val) → (b ≡ true → ⊥) → o ≡ or_else (if b then Some v else None) o
    none true o f = absurd (f refl)
    none false o f = refl

    by : (b : Bool) → name_eq x.node.name n ≡ b → occ_of held n ≡ or_else (fact_in (record { node = h.node.name; value = v } ∷ []) n) (occ_of (updated p g held) n)
        → (if b then x.occ else occ_of held n) ≡ or_else (fact_in (record { node = h.node.name; value = v } ∷ []) n) (if b then x.occ else occ_of (updated p g held) n)
    by true t ih = none (name_eq h.node.name n) x.occ (apart t)
    by false t ih = ih

-- The state of things while occurrences are taken, of these places, the last ones first.
pub record IsClosing (start held : List Held) (fired : List ℕ) (closings : List Closing) (fs : List Fact) (ss : List Step) : Type 0 where
  pub nodes : nodes_of held ≡ nodes_of start
  pub prepared : ArePrepared held fired closings
  pub listed : (p : ℕ) (h : Held) → slice_get held p ≡ Some h → IsTrue (is_some h.occ) → IsTrue (has fired p)
  pub closed : closed_all held ≡ closed_all start
  pub facts : (n : Name) → or_else (fact_in fs n) (occ_of held n) ≡ occ_of start n
  pub once : are_distinct (map (λ (f : Fact). f.node) fs) ≡ true
  pub apart : (n : Name) → IsTrue (is_some (fact_in fs n)) → occ_of held n ≡ None
  pub steps : unwritten ss (silenced held) ≡ silenced start

-- where nothing is left, all is closed
all_silent : (held : List Held) → ((p : ℕ) (h : Held) → slice_get held p ≡ Some h → IsTrue (is_some h.occ) → ⊥) → closed_all held ≡ held
all_silent [] f = refl
all_silent (h ∷ held) f = ap (λ z. z ∷ closed_all held) (one h.occ refl) ∙ ap (λ hs. h ∷ hs) (all_silent held (λ p x e. f (suc p) x e)) where
  kept : (b : Option Val) → stepped b None ≡ b
  kept None = refl
  kept (Some v) = refl

  one : (o : Option Val) → h.occ ≡ o → closed h ≡ h
  one None e =
      ap (λ z. record h { before = stepped h.before z; occ = None }) e ∙ ap (λ b. record h { before = b; occ = None }) (kept h.before) ∙ ap (λ z. record h { occ = z }) (sym e)
  one (Some v) e = absurd (f zero h refl (ap is_some e))

silent_same : (held : List Held) → silenced (closed_all held) ≡ closed_all held
silent_same [] = refl
silent_same (h ∷ held) = ap (λ hs. closed h ∷ hs) (silent_same held)

occ_silent : (held : List Held) (n : Name) → occ_of (closed_all held) n ≡ None
occ_silent [] n = refl
occ_silent (h ∷ held) n = by (name_eq h.node.name n) (occ_silent held n) where
  by : (b : Bool) → occ_of (closed_all held) n ≡ None → (if b then None else occ_of (closed_all held) n) ≡ None
  by true e = refl
  by false e = e

pub has_closed : (start held : List Held) (fs : List Fact) (ss : List Step) → IsClosing start held [] [] fs ss → HasClosed start held fs ss
has_closed start held fs ss k =
    let silent : closed_all held ≡ held = all_silent held (λ p h e i. let t : false ≡ true = k.listed p h e i in absurd cc) in
    let all : held ≡ closed_all start = sym silent ∙ k.closed in
    record {
      held = all;
      facts = λ n. sym (or_else_none (fact_in fs n)) ∙ ap (or_else (fact_in fs n)) (sym (ap (λ hs. occ_of hs n) all ∙ occ_silent start n)) ∙ k.facts n;
      once = k.once;
      steps = ap (unwritten ss) (all ∙ sym (silent_same start) ∙ ap silenced (sym all)) ∙ k.steps;
    }

-- before any is taken
pub closing_first : (start : List Held) (fired : List ℕ) (closings : List Closing) (fs : List Fact) (ss : List Step) → fs ≡ [] → ss ≡ [] → ArePrepared start fired closings
    → ((p : ℕ) (h : Held) → slice_get start p ≡ Some h → IsTrue (is_some h.occ) → IsTrue (has fired p)) → IsClosing start start fired closings fs ss
closing_first start fired closings fs ss a b c d = record {
  nodes = refl;
  prepared = c;
  listed = d;
  closed = refl;
  facts = λ n. ap (λ xs. or_else (fact_in xs n) (occ_of start n)) a;
  once = ap (λ xs. are_distinct (map (λ (f : Fact). f.node) xs)) a;
  apart = λ n i. absurd (let t : is_some (fact_in fs n) ≡ false = ap (λ xs. is_some (fact_in xs n)) a in cc);
  steps = ap (λ xs. unwritten xs (silenced start)) b;
}

pub prepared_length : (held : List Held) (ps : List ℕ) (cs : List Closing) → ArePrepared held ps cs → length cs ≡ length ps
prepared_length held [] [] a = refl
prepared_length held [] (c ∷ cs) a = absurd a
prepared_length held (p ∷ ps) [] a = absurd a
prepared_length held (p ∷ ps) (c ∷ cs) a = ap suc (prepared_length held ps cs a.1)

-- the value before at a place whose occurrence changes
pub before_beside : (p : ℕ) (o : Option Val) (held : List Held) → at held_before (updated p (set_occ o) held) p ≡ at held_before held p
before_beside p o [] = refl
before_beside zero o (h ∷ held) = refl
before_beside (suc p) o (h ∷ held) = before_beside p o held

-- One more is taken.

prepared_last : (held : List Held) (ps : List ℕ) (p : ℕ) (cs : List Closing) (c : Closing) → ArePrepared held (ps ++ p ∷ []) (cs ++ c ∷ [])
    → (ArePrepared held ps cs) × (IsPrepared (slice_get held p) c)
prepared_last held [] p [] c a = (tt, a.0)
prepared_last held [] p (d ∷ []) c a = absurd a.1
prepared_last held [] p (d ∷ e ∷ cs) c a = absurd a.1
prepared_last held (q ∷ []) p [] c a = absurd a.1
prepared_last held (q ∷ r ∷ ps) p [] c a = absurd a.1
prepared_last held (q ∷ ps) p (d ∷ cs) c a = let r = prepared_last held ps p cs c a.1 in ((a.0, r.0), r.1)

pub prepared_more : (held : List Held) (ps : List ℕ) (p : ℕ) (cs : List Closing) (c : Closing) → ArePrepared held ps cs → IsPrepared (slice_get held p) c
    → ArePrepared held (ps ++ p ∷ []) (cs ++ c ∷ [])
prepared_more held [] p [] c a h = (h, tt)
prepared_more held [] p (d ∷ cs) c a h = absurd a
prepared_more held (q ∷ ps) p [] c a h = absurd a
prepared_more held (q ∷ ps) p (d ∷ cs) c a h = (a.0, prepared_more held ps p cs c a.1 h)

prepared_kept : (held : List Held) (p : ℕ) (g : Held → Held) (ps : List ℕ) (cs : List Closing) → ((x : Held) → (g x).node ≡ x.node) → ((x : Held) → (g x).occ ≡ None)
    → ArePrepared held ps cs → ArePrepared (updated p g held) ps cs
prepared_kept held p g [] [] k s a = tt
prepared_kept held p g [] (c ∷ cs) k s a = absurd a
prepared_kept held p g (q ∷ ps) [] k s a = absurd a
prepared_kept held p g (q ∷ ps) (c ∷ cs) k s a = (one (q == p) (unsigned_Decides q p), prepared_kept held p g ps cs k s a.1) where
  at_place : (o : Option Held) → slice_get held q ≡ o → q ≡ p → IsPrepared o c → IsPrepared (slice_get (updated p g held) q) c
  at_place None e h i = absurd i
  at_place (Some x) e h i =
      let there : slice_get (updated p g held) q ≡ Some (g x) =
      ap (slice_get (updated p g held)) h ∙ get_updated p g held x (ap (slice_get held) (sym h) ∙ e) in
      subst (λ o. IsPrepared o c) (sym there) (i.0 ∙ ap (λ (y : Node). y.name) (sym (k x)), λ t. absurd (let f : is_some (g x).occ ≡ false = ap is_some (s x) in cc))

  one : (b : Bool) → Decides b (q ≡ p) → IsPrepared (slice_get (updated p g held) q) c
  one true d = at_place (slice_get held q) refl (d.0 refl) a.0
  one false d =
      let apart : q ≡ p → ⊥ = (λ h. let t : false ≡ true = d.1 h in absurd cc) in
      subst (λ o. IsPrepared o c) (sym (get_updated_other p q g held apart)) a.0

-- what is done to an item whose occurrence is taken
abbrev pub take_in : Option Val → Held → Held
take_in after h = record h { before = or_else after h.before; occ = None }

taken_is : (p : ℕ) (v : Val) (after : Option Val) (held : List Held) → taken_at p (Some v) after (updated p (set_occ None) held) ≡ updated p (take_in after) held
taken_is p v None held = refl
taken_is p v (Some a) held = updated_twice p (set_before (Some a)) (set_occ None) held

-- it has stepped as it would have
stepped_in : (h : Held) (v : Val) (after : Option Val) → h.occ ≡ Some v → after ≡ cell_step h.before (Some v) → closed (take_in after h) ≡ closed h
stepped_in h v after o a =
    ap (λ z. record h { before = stepped (or_else z h.before) None; occ = None }) a ∙ ap (λ b. record h { before = b; occ = None }) (by h.before)
    ∙ ap (λ z. record h { before = stepped h.before z; occ = None }) (sym o)
  where
    by : (b : Option Val) → stepped (or_else (cell_step b (Some v)) b) None ≡ stepped b (Some v)
    by None = refl
    by (Some c) = refl

-- and is restored by the step
restored : (ss : List Step) (held : List Held) (p : ℕ) (h : Held) (v : Val) (after : Option Val) → slice_get held p ≡ Some h → h.occ ≡ Some v → after ≡ cell_step h.before (Some v)
    → unwritten (ss ++ steps_from p after h.before) (silenced (updated p (take_in after) held)) ≡ unwritten ss (silenced held)
restored ss held p h v after e o a = by h.before after refl a where
  by : (b : Option Val) (z : Option Val) → h.before ≡ b → z ≡ cell_step b (Some v) → unwritten (ss ++ steps_from p z b) (silenced (updated p (take_in z) held)) ≡ unwritten ss (silenced held)
  by None None q t =
      ap (λ xs. unwritten xs (silenced (updated p (take_in None) held))) (append-nil ss)
      ∙ ap (unwritten ss) (map_updated_same (set_occ None) p (take_in None) held h e refl)
  by None (Some w) q t = absurd cc
  by (Some b) None q t = absurd cc
  by (Some b) (Some w) q t =
      unwritten_more ss (record { place = p; value = b }) (silenced (updated p (take_in (Some w)) held))
      ∙ ap (unwritten ss) (map_updated (set_occ None) p (take_in (Some w)) (set_before (Some b)) held h e (ap (λ z. record h { before = z; occ = None }) (sym q)))

-- names that differ, and one more that differs from each
pub distinct_more : (ns : List Name) (n : Name) → are_distinct ns ≡ true → list_all (λ k. not (name_eq k n)) ns ≡ true → are_distinct (ns ++ n ∷ []) ≡ true
distinct_more [] n d a = refl
distinct_more (m ∷ ns) n d a =
    true_both _ _ (all_more (λ k. not (name_eq m k)) ns n (both_true _ _ d).0 (both_true _ _ a).0) (distinct_more ns n (both_true _ _ d).1 (both_true _ _ a).1)
  where
    all_more : (q : Name → Bool) (ns : List Name) (n : Name) → list_all q ns ≡ true → q n ≡ true → list_all q (ns ++ n ∷ []) ≡ true
    all_more q [] n a h = true_both _ _ h refl
    all_more q (k ∷ ns) n a h = true_both _ _ (both_true _ _ a).0 (all_more q ns n (both_true _ _ a).1 h)

-- where a name has no fact, no fact is of the name
no_fact : (fs : List Fact) (n : Name) → fact_in fs n ≡ None → list_all (λ k. not (name_eq k n)) (map (λ (f : Fact). f.node) fs) ≡ true
no_fact [] n e = refl
no_fact (f ∷ fs) n e = by (name_eq f.node n) (no_fact fs n) e where
  by : (b : Bool) → (fact_in fs n ≡ None → list_all (λ k. not (name_eq k n)) (map (λ (g : Fact). g.node) fs) ≡ true) → (if b then Some f.value else fact_in fs n) ≡ None
      → not b && list_all (λ k. not (name_eq k n)) (map (λ (g : Fact). g.node) fs) ≡ true
  by true h e = absurd cc
  by false h e = h e

map_pushed : (fs : List Fact) (f : Fact) → map (λ (g : Fact). g.node) (fs ++ f ∷ []) ≡ map (λ (g : Fact). g.node) fs ++ f.node ∷ []
map_pushed [] f = refl
map_pushed (g ∷ fs) f = ap (λ ns. g.node ∷ ns) (map_pushed fs f)

-- the item of a place has the occurrence of its name
occ_here : (held : List Held) (p : ℕ) (h : Held) (v : Val) → are_distinct (names (nodes_of held)) ≡ true → slice_get held p ≡ Some h → h.occ ≡ Some v
    → occ_of held h.node.name ≡ Some v
occ_here held p h v d e o =
    occ_taken held p h v (set_occ None) h.node.name d e o (λ x. refl) (λ x. refl)
    ∙ rw (name_eq-same h.node.name) refl

-- an item without an occurrence has none for its name
occ_none : (held : List Held) (p : ℕ) (h : Held) → are_distinct (names (nodes_of held)) ≡ true → slice_get held p ≡ Some h → h.occ ≡ None → occ_of held h.node.name ≡ None
occ_none held p h d e o =
    place_occ (nodes_of held) (map (λ (g : Held). g.occ) held) h.node.name
    ∙ ap (option_and_then (λ i. flat (slice_get (map (λ (g : Held). g.occ) held) i)))
    (place_at (nodes_of held) h.node.name p h.node d (get_map (λ (g : Held). g.node) held p h e) (name_eq-same h.node.name))
    ∙ ap flat (get_map (λ (g : Held). g.occ) held p h e) ∙ o

fact_or_none : (o : Option Val) → (IsTrue (is_some o) → ⊥) → o ≡ None
fact_or_none None f = refl
fact_or_none (Some v) f = absurd (f refl)

pub closing_more : (start held : List Held) (ps : List ℕ) (p : ℕ) (cs : List Closing) (c : Closing) (fs : List Fact) (ss : List Step) → are_distinct (names (nodes_of start)) ≡ true
    → IsClosing start held (ps ++ p ∷ []) (cs ++ c ∷ []) fs ss
    → IsClosing start (taken_at p (at held_occ held p) c.after (updated p (set_occ None) held)) ps cs (fs ++ facts_from c.name (at held_occ held p))
    (ss ++ taken_steps p (at held_occ held p) c.after (at held_before held p))
closing_more start held ps p cs c fs ss d k = by_item (slice_get held p) refl (prepared_last held ps p cs c k.prepared).1 where
  apart_names : are_distinct (names (nodes_of held)) ≡ true
  apart_names = ap (λ ns. are_distinct (names ns)) k.nodes ∙ d

  still : (g : Held → Held) → ((x : Held) → (g x).node ≡ x.node) → ((x : Held) → (g x).occ ≡ None)
      → (q : ℕ) (x : Held) → slice_get (updated p g held) q ≡ Some x → IsTrue (is_some x.occ) → IsTrue (has ps q)
  still g n s q x e i = elim (updated_cases p q g held x e) [
    | inl z ↦ absurd (let f : is_some x.occ ≡ false = ap (λ (y : Held). is_some y.occ) z.3 ∙ ap is_some (s z.1) in cc)
    | inr z ↦ elim (either_true (has ps q) (p == q) (sym (has_pushed ps p q) ∙ k.listed q x z.1 i)) [
      | inl j ↦ j
      | inr j ↦ absurd (z.0 (sym ((unsigned_Decides p q).0 j)))
    ]
  ]

  silent : (h : Held) → slice_get held p ≡ Some h → h.occ ≡ None → IsClosing start (updated p (set_occ None) held) ps cs (fs ++ []) (ss ++ [])
  silent h e o =
      let same : updated p (set_occ None) held ≡ held = updated_same p (set_occ None) held h e (ap (λ z. record h { occ = z }) (sym o)) in
      subst (λ xs. IsClosing start (updated p (set_occ None) held) ps cs xs (ss ++ [])) (sym (append-nil fs))
      (subst (λ xs. IsClosing start (updated p (set_occ None) held) ps cs fs xs) (sym (append-nil ss)) (record {
        nodes = ap nodes_of same ∙ k.nodes;
        prepared = prepared_kept held p (set_occ None) ps cs (λ x. refl) (λ x. refl) (prepared_last held ps p cs c k.prepared).0;
        listed = still (set_occ None) (λ x. refl) (λ x. refl);
        closed = ap closed_all same ∙ k.closed;
        facts = λ n. ap (λ hs. or_else (fact_in fs n) (occ_of hs n)) same ∙ k.facts n;
        once = k.once;
        apart = λ n i. ap (λ hs. occ_of hs n) same ∙ k.apart n i;
        steps = ap (λ hs. unwritten ss (silenced hs)) same ∙ k.steps;
      }))

  fires : (h : Held) (v : Val) → slice_get held p ≡ Some h → h.occ ≡ Some v → c.name ≡ h.node.name → c.after ≡ cell_step h.before (Some v)
      → IsClosing start (updated p (take_in c.after) held) ps cs (fs ++ record { node = c.name; value = v } ∷ []) (ss ++ steps_from p c.after h.before)
  fires h v e o m a =
      let f : Fact = record { node = c.name; value = v } in
      let new = updated p (take_in c.after) held in
      let taken = (λ (n : Name). occ_taken held p h v (take_in c.after) n apart_names e o (λ x. refl) (λ x. refl) ∙ ap (λ i. or_else (fact_in (record { node = i; value = v } ∷ []) n) (occ_of new n)) (sym m)) in
      let unheard : fact_in fs c.name ≡ None = fact_or_none (fact_in fs c.name) (λ i.
      let x : occ_of held c.name ≡ None = k.apart c.name i in
      let y : occ_of held c.name ≡ Some v = ap (occ_of held) m ∙ occ_here held p h v apart_names e o in
      absurd cc) in
      record {
        nodes = map_updated_kept (λ (x : Held). x.node) p (take_in c.after) held (λ x. refl) ∙ k.nodes;
        prepared = prepared_kept held p (take_in c.after) ps cs (λ x. refl) (λ x. refl) (prepared_last held ps p cs c k.prepared).0;
        listed = still (take_in c.after) (λ x. refl) (λ x. refl);
        closed = map_updated_same closed p (take_in c.after) held h e (stepped_in h v c.after o a) ∙ k.closed;
        facts = λ n.
            ap (λ z. or_else z (occ_of new n)) (facts_joined fs (f ∷ []) n) ∙ or_else_joined (fact_in fs n) (fact_in (f ∷ []) n) (occ_of new n)
            ∙ ap (or_else (fact_in fs n)) (sym (taken n)) ∙ k.facts n;
        once = ap are_distinct (map_pushed fs f) ∙ distinct_more (map (λ (g : Fact). g.node) fs) c.name k.once (no_fact fs c.name unheard);
        apart = λ n i. by_fact n (fact_in fs n) refl (fact_in (f ∷ []) n) refl (ap is_some (sym (facts_joined fs (f ∷ []) n)) ∙ i) (taken n);
        steps = restored ss held p h v c.after e o a ∙ k.steps;
      }
    where
      there : (n : Name) (b : Bool) → name_eq c.name n ≡ b → IsTrue (is_some (if b then Some v else None)) → n ≡ c.name
      there n true q i = sym (name_same c.name n q)
      there n false q i = absurd cc

      gone : (n : Name) → n ≡ c.name → occ_of (updated p (take_in c.after) held) n ≡ None
      gone n q =
          let at_end : slice_get (updated p (take_in c.after) held) p ≡ Some (take_in c.after h) = get_updated p (take_in c.after) held h e in
          ap (occ_of (updated p (take_in c.after) held)) (q ∙ m)
          ∙ occ_none (updated p (take_in c.after) held) p (take_in c.after h)
          (ap (λ ns. are_distinct (names ns)) (map_updated_kept (λ (x : Held). x.node) p (take_in c.after) held (λ x. refl)) ∙ apart_names) at_end refl

      by_fact : (n : Name) (x : Option Val) → fact_in fs n ≡ x → (y : Option Val) → fact_in (record { node = c.name; value = v } ∷ []) n ≡ y → IsTrue (is_some (or_else (fact_in fs n) (fact_in (record { node = c.name; value = v } ∷ []) n)))
          → occ_of held n ≡ or_else (fact_in (record { node = c.name; value = v } ∷ []) n) (occ_of (updated p (take_in c.after) held) n) → occ_of (updated p (take_in c.after) held) n ≡ None
      by_fact n (Some w) q y r i t = (neither _ _ (sym t ∙ k.apart n (ap is_some q))).1
      by_fact n None q y r i t =
          gone n (there n (name_eq c.name n) refl (ap (λ z. is_some (or_else z (fact_in (record { node = c.name; value = v } ∷ []) n))) (sym q) ∙ i))

  by_occ : (h : Held) (o : Option Val) → slice_get held p ≡ Some h → h.occ ≡ o → IsPrepared (Some h) c
      → IsClosing start (taken_at p o c.after (updated p (set_occ None) held)) ps cs (fs ++ facts_from c.name o) (ss ++ taken_steps p o c.after (held_before h))
  by_occ h None e q i = silent h e q
  by_occ h (Some v) e q i =
      subst (λ hs. IsClosing start hs ps cs (fs ++ record { node = c.name; value = v } ∷ []) (ss ++ steps_from p c.after h.before)) (sym (taken_is p v c.after held))
      (fires h v e q i.0 (i.1 (ap is_some q) ∙ ap (cell_step h.before) q))

  by_item : (o : Option Held) → slice_get held p ≡ o → IsPrepared o c
      → IsClosing start (taken_at p (at held_occ held p) c.after (updated p (set_occ None) held)) ps cs (fs ++ facts_from c.name (at held_occ held p))
      (ss ++ taken_steps p (at held_occ held p) c.after (at held_before held p))
  by_item None e i = absurd i
  by_item (Some h) e i =
      let here : at held_occ held p ≡ h.occ = ap (option_and_then held_occ) e in
      let was : at held_before held p ≡ h.before = ap (option_and_then held_before) e in
      subst (λ o. IsClosing start (taken_at p o c.after (updated p (set_occ None) held)) ps cs (fs ++ facts_from c.name o) (ss ++ taken_steps p o c.after (at held_before held p))) (sym here)
      (subst (λ b. IsClosing start (taken_at p h.occ c.after (updated p (set_occ None) held)) ps cs (fs ++ facts_from c.name h.occ) (ss ++ taken_steps p h.occ c.after b)) (sym was)
      (by_occ h h.occ e refl i))

-- a list without length, and the beginning of none
pub no_items : {A : Type 0} (xs : List A) → length xs ≡ 0 → xs ≡ []
no_items [] e = refl
no_items (x ∷ xs) e = absurd (omega arith)

pub take_none : {A : Type 0} (xs : List A) → take 0 xs ≡ []
take_none [] = refl
take_none (x ∷ xs) = refl

pub take_empty : {A : Type 0} (n : ℕ) → ◌≡◌ {A = List A} (take n []) []
take_empty zero = refl
take_empty (suc n) = refl

-- the beginning of a list, with one item more
pub take_at : {A : Type 0} (xs : List A) (i n : ℕ) (x : A) → n ≡ suc i → slice_get xs i ≡ Some x → take n xs ≡ take i xs ++ x ∷ []
take_at xs i n x m e = ap (λ k. take k xs) m ∙ by xs i x e where
  by : {A : Type 0} (xs : List A) (i : ℕ) (x : A) → slice_get xs i ≡ Some x → take (suc i) xs ≡ take i xs ++ x ∷ []
  by [] i x e = absurd cc
  by (y ∷ xs) zero x e = let same : y ≡ x = cc in ap (λ z. z ∷ []) same
  by (y ∷ xs) (suc i) x e = ap (λ l. y ∷ l) (by xs i x e)

-- the same of the beginnings of lists, and of what things are equal to
pub closing_step : (start held new : List Held) (fired : List ℕ) (n i p : ℕ) (all cs : List Closing) (c : Closing) (fs gs : List Fact) (ss ts : List Step)
    → are_distinct (names (nodes_of start)) ≡ true → take n fired ≡ take i fired ++ p ∷ [] → all ≡ cs ++ c ∷ []
    → new ≡ taken_at p (at held_occ held p) c.after (updated p (set_occ None) held)
    → gs ≡ fs ++ facts_from c.name (at held_occ held p) → ts ≡ ss ++ taken_steps p (at held_occ held p) c.after (at held_before held p)
    → IsClosing start held (take n fired) all fs ss → IsClosing start new (take i fired) cs gs ts
closing_step start held new fired n i p all cs c fs gs ss ts d t a h f s k =
    let before : IsClosing start held (take i fired ++ p ∷ []) (cs ++ c ∷ []) fs ss =
    subst (λ ps. IsClosing start held ps (cs ++ c ∷ []) fs ss) t (subst (λ xs. IsClosing start held (take n fired) xs fs ss) a k) in
    subst (λ hs. IsClosing start hs (take i fired) cs gs ts) (sym h)
    (subst (λ xs. IsClosing start (taken_at p (at held_occ held p) c.after (updated p (set_occ None) held)) (take i fired) cs xs ts) (sym f)
    (subst (λ xs. IsClosing start (taken_at p (at held_occ held p) c.after (updated p (set_occ None) held)) (take i fired) cs (fs ++ facts_from c.name (at held_occ held p)) xs) (sym s)
    (closing_more start held (take i fired) p cs c fs ss d before)))

-- one more is prepared
pub prepared_step : (held : List Held) (ps : List ℕ) (n i p : ℕ) (cs new : List Closing) (c : Closing) → take n ps ≡ take i ps ++ p ∷ [] → new ≡ cs ++ c ∷ []
    → ArePrepared held (take i ps) cs → IsPrepared (slice_get held p) c → ArePrepared held (take n ps) new
prepared_step held ps n i p cs new c t e a h =
    subst (λ qs. ArePrepared held qs new) (sym t) (subst (ArePrepared held (take i ps ++ p ∷ [])) (sym e) (prepared_more held (take i ps) p cs c a h))

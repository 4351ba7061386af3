-- What is seen of a store between two calls, and after each of them.
use Rattle.std.proofs.Common.{◌≡◌, ℕ, Bool, true, false, List, [], ◌∷◌, ◌++◌, Option, Some, None, map, drop, length, zero, suc, refl, sym, ap, ◌∙◌, subst, arith}
use Rattle.std.specs.Prelude.{slice_get, slice_set, is_some, option_map, option_and_then, if◌then◌else◌, OnOk}
use Rattle.std.specs.declared.result.Result.{Result}
use Rattle.std.specs.declared.result.Result.TheVariants.{Ok, Err}
use Rattle.std.proofs.lemmas.List.{length-map}
use Rattle.frp_base.specs.declared.name.Name.{Name}
use Rattle.frp_base.specs.declared.val.Val.{Val}
use Rattle.frp_base.specs.Name.{name_eq}
use Rattle.frp_base.proofs.Booleans.{both_true}
use Rattle.frp_graph.specs.declared.trace.Node.{Node}
use Rattle.frp_graph.specs.declared.trace.Moment.{Moment}
use Rattle.frp_graph.specs.Trace.{node_in, node_first, or_else, value_at, value_from, value_after, occ, stepped}
use Rattle.frp_graph.specs.Links.{are_distinct}
use Rattle.frp_graph.proofs.Lists.{name_same, name_eq-same}
use Rattle.frp_store.specs.declared.held.Held.{Held}
use Rattle.frp_store.specs.State.{State, names, place_in, occ_in, pre_in, sight, last_moment, time_by}
use Rattle.frp_store.specs.Lists.{Lists, state_in}
use Rattle.frp_store.specs.Places.{has}
use Rattle.frp_store.specs.Calls.{added, with_occ, Ends}
use Rattle.frp_store.specs.Seen.{IsAligned, ShowsNode, ShowsOcc, ShowsEnd, has_name}
use Rattle.frp_store.specs.Kept.{IsSound}
use Rattle.frp_store.proofs.Setting.{get_map_back}
use Rattle.frp_store.proofs.Finding.{place_at}
use Rattle.frp_store.proofs.Items.{last_pushed}
use Rattle.frp_store.proofs.Growing.{length_nodes, length_targets, target_inside, pre_added}

-- Between two calls.

pub sound_aligned : (l : Lists) → IsSound l → IsAligned (state_in l)
sound_aligned l k = record {
  occs = length-map l.held (λ (h : Held). h.occ) ∙ sym (length_nodes l.held);
  targets = length_targets l.held ∙ sym (length_nodes l.held);
  aims = target_inside l.held k.aims;
  distinct = k.distinct;
  first = (let a = k.first in let b = length_nodes l.held in omega arith);
  idle = λ b. k.idle b ∙ sym (length_nodes l.held);
  quiet = λ b p o e. let h = get_map_back (λ (g : Held). g.occ) l.held p o e in sym h.2 ∙ silent b p h.0 h.1 h.0.occ refl;
  rising = k.rising;
  later = k.later;
  shown = k.shown;
}
  where
    silent : l.begun ≡ None → (p : ℕ) (h : Held) → slice_get l.held p ≡ Some h → (o : Option Val) → h.occ ≡ o → o ≡ None
    silent b p h e None q = refl
    silent b p h e (Some v) q =
        absurd (let t : has l.fired p ≡ true = k.listed p h e (ap is_some q) in let f : has l.fired p ≡ false = ap (λ ps. has ps p) (k.quiet b) in cc)

-- A node more.

occ_added : (nodes : List Node) (occs : List (Option Val)) (x : Node) (n : Name) → length occs ≡ length nodes → occ_in (nodes ++ x ∷ []) (occs ++ None ∷ []) n ≡ occ_in nodes occs n
occ_added [] [] x n e = by (name_eq x.name n) where
  by : (b : Bool) → ◌≡◌ {A = Option Val} (if b then None else None) None
  by true = refl
  by false = refl
occ_added [] (o ∷ os) x n e = absurd (omega arith)
occ_added (y ∷ nodes) [] x n e = absurd (omega arith)
occ_added (y ∷ nodes) (o ∷ os) x n e = by (name_eq y.name n) (occ_added nodes os x n (omega arith)) where
  by : (b : Bool) → occ_in (nodes ++ x ∷ []) (os ++ None ∷ []) n ≡ occ_in nodes os n
      → (if b then o else occ_in (nodes ++ x ∷ []) (os ++ None ∷ []) n) ≡ (if b then o else occ_in nodes os n)
  by true h = refl
  by false h = h

node_added : (nodes : List Node) (x : Node) (n : Name) → place_in nodes x.name ≡ None → node_in (nodes ++ x ∷ []) n ≡ (if name_eq x.name n then Some x else node_in nodes n)
node_added [] x n e = refl
node_added (y ∷ nodes) x n e = by (name_eq y.name n) refl (name_eq x.name n) refl (name_eq y.name x.name) refl (place_in nodes x.name) (node_added nodes x n) e where
  by : (a : Bool) → name_eq y.name n ≡ a → (b : Bool) → name_eq x.name n ≡ b → (c : Bool) → name_eq y.name x.name ≡ c → (o : Option ℕ)
      → (o ≡ None → node_in (nodes ++ x ∷ []) n ≡ (if b then Some x else node_in nodes n))
      → (if c then Some zero else option_map suc o) ≡ None
      → (if a then Some y else node_in (nodes ++ x ∷ []) n) ≡ (if b then Some x else (if a then Some y else node_in nodes n))
  by a p b q true r o f h = absurd cc
  by a p b q false r (Some i) f h = absurd cc
  by true p true q false r None f h =
      absurd (let t : name_eq y.name x.name ≡ true = ap (name_eq y.name) (name_same x.name n q ∙ sym (name_same y.name n p)) ∙ name_eq-same y.name in cc)
  by true p false q false r None f h = refl
  by false p true q false r None f h = f refl
  by false p false q false r None f h = f refl

pub shows_node : (s : State) (x : Node) → IsAligned s → place_in s.nodes x.name ≡ None → ShowsNode x (sight s) (sight (added x s))
shows_node s x a e = record {
  time = refl;
  node = λ n. node_added s.nodes x n e;
  occ = λ n. occ_added s.nodes s.occs x n a.occs;
  pre = λ n. pre_added s.past s.first s.nodes x n a.first e a.shown;
  above = λ n. refl;
}

-- An occurrence.

occ_other : (nodes : List Node) (occs : List (Option Val)) (p : ℕ) (o : Option Val) (n : Name) → are_distinct (names nodes) ≡ true → length occs ≡ length nodes
    → occ_in nodes (slice_set occs p o) n ≡ (if has_name (slice_get nodes p) n then o else occ_in nodes occs n)
occ_other [] os p o n d e = refl
occ_other (y ∷ nodes) [] p o n d e = absurd (omega arith)
occ_other (y ∷ nodes) (q ∷ os) zero o n d e = by (name_eq y.name n) where
  by : (b : Bool) → (if b then o else occ_in nodes os n) ≡ (if b then o else (if b then q else occ_in nodes os n))
  by true = refl
  by false = refl
occ_other (y ∷ nodes) (q ∷ os) (suc p) o n d e =
    by (name_eq y.name n) refl (has_name (slice_get nodes p) n) refl (occ_other nodes os p o n (both_true _ _ d).1 (omega arith))
  where
    apart : (z : Option Node) → slice_get nodes p ≡ z → has_name z n ≡ true → name_eq y.name n ≡ true → ⊥
    apart None g t u = absurd cc
    apart (Some x) g t u =
        let here : place_in (y ∷ nodes) n ≡ Some zero = place_at (y ∷ nodes) n zero y d refl u in
        let there : place_in (y ∷ nodes) n ≡ Some (suc p) = place_at (y ∷ nodes) n (suc p) x d g t in
        let same : Some zero ≡ Some (suc p) = sym here ∙ there in
        absurd cc

    by : (b : Bool) → name_eq y.name n ≡ b → (c : Bool) → has_name (slice_get nodes p) n ≡ c → occ_in nodes (slice_set os p o) n ≡ (if c then o else occ_in nodes os n)
        → (if b then q else occ_in nodes (slice_set os p o) n) ≡ (if c then o else (if b then q else occ_in nodes os n))
    by true u true t h = absurd (apart (slice_get nodes p) refl t u)
    by true u false t h = refl
    by false u c t h = h

pub shows_occ : (s : State) (p : ℕ) (o : Option Val) → IsAligned s → ShowsOcc (slice_get s.nodes p) o (sight s) (sight (with_occ p o s))
shows_occ s p o a = record { occ = λ n. occ_other s.nodes s.occs p o n a.distinct a.occs; rest = refl }

-- The end of a moment.

value_more : (v : Option Val) (past : List Moment) (m : Moment) (n : Name) → value_from v (past ++ m ∷ []) n ≡ value_at (value_from v past n) m n
value_more v [] m n = refl
value_more v (k ∷ past) m n = value_more (value_at v k n) past m n

drop_all : (nodes : List Node) → drop (length nodes) nodes ≡ []
drop_all [] = refl
drop_all (x ∷ nodes) = drop_all nodes

none_occ : (nodes : List Node) (n : Name) → occ_in nodes (map (λ _. None) nodes) n ≡ None
none_occ [] n = refl
none_occ (x ∷ nodes) n = by (name_eq x.name n) (none_occ nodes n) where
  by : (b : Bool) → occ_in nodes (map (λ _. None) nodes) n ≡ None → (if b then None else occ_in nodes (map (λ _. None) nodes) n) ≡ None
  by true h = refl
  by false h = h

pub shows_end : (s new : State) → Ends s new → ShowsEnd (sight s) (sight new)
shows_end s new e =
    let m = e.0 in
    let k = e.1.0 in
    subst (λ t. ShowsEnd (sight s) (sight t)) (sym e.1.1) (record {
      time = ap (time_by None) (last_pushed s.past m) ∙ ap (λ t. time_by t (last_moment s.past)) (sym k.time);
      node = λ n. refl;
      occ = λ n. none_occ s.nodes n;
      pre = λ n.
          ap (λ ns. or_else (option_and_then node_first (node_in ns n)) (value_after (s.past ++ m ∷ []) n)) (drop_all s.nodes)
          ∙ value_more None s.past m n
          ∙ ap (λ o. stepped o (occ m n)) (sym (k.shown.pre n)) ∙ ap (stepped (pre_in s n)) (k.fired n);
      above = λ n. refl;
    })

-- what follows from what an answer without an error says
pub on_ok : {T E : Type 0} (r : Result T E) (P Q : Type 0) → (P → Q) → OnOk r P → OnOk r Q
on_ok (Ok v) P Q f h = f h
on_ok (Err e) P Q f h = h

-- A moment that ended, and is begun again.
use Rattle.std.proofs.Common.{◌≡◌, ℕ, Bool, true, false, List, [], ◌∷◌, ◌++◌, Option, Some, None, map, zero, suc, refl, sym, ap, ◌∙◌}
use Rattle.std.specs.Prelude.{not, slice_get, option_map, option_and_then, if◌then◌else◌}
use Rattle.std.specs.List.{list_all}
use Rattle.frp_base.specs.declared.name.Name.{Name}
use Rattle.frp_base.specs.Name.{name_eq}
use Rattle.frp_base.proofs.Booleans.{both_true}
use Rattle.frp_graph.specs.declared.trace.Fact.{Fact}
use Rattle.frp_graph.specs.declared.trace.Moment.{Moment}
use Rattle.frp_graph.specs.Trace.{fact_in, or_else}
use Rattle.frp_graph.specs.Links.{are_distinct}
use Rattle.frp_graph.proofs.Lists.{name_same, name_eq-same}
use Rattle.frp_store.specs.declared.held.Held.{Held}
use Rattle.frp_store.specs.declared.held.Step.{Step}
use Rattle.frp_store.specs.Items.{updated}
use Rattle.frp_store.specs.State.{names, place_in}
use Rattle.frp_store.specs.Lists.{Lists, nodes_of, targets_of}
use Rattle.frp_store.specs.Undo.{set_occ, set_before, given, unwritten, reopened}
use Rattle.frp_store.specs.Closing.{occ_of, silenced, HasClosed, ended_lists}
use Rattle.frp_store.proofs.Items.{map_updated_kept, but_last_pushed}
use Rattle.frp_store.proofs.Finding.{place_occ, place_at, flat}
use Rattle.frp_store.proofs.Setting.{get_map}
use Rattle.frp_store.proofs.Taking.{facts_joined}
use Rattle.frp_store.proofs.Choices.{or_else_joined, or_else_none}

-- Facts are given back.

pub given_more : (fs : List Fact) (f : Fact) (held : List Held) → given (fs ++ f ∷ []) held ≡ given fs (given (f ∷ []) held)
given_more fs f [] = refl
given_more fs f (h ∷ held) =
    ap (λ o. set_occ o h ∷ given (fs ++ f ∷ []) held)
    (ap (λ z. or_else z h.occ) (facts_joined fs (f ∷ []) h.node.name) ∙ or_else_joined (fact_in fs h.node.name) (fact_in (f ∷ []) h.node.name) h.occ)
    ∙ ap (λ hs. set_occ (or_else (fact_in fs h.node.name) (or_else (fact_in (f ∷ []) h.node.name) h.occ)) h ∷ hs) (given_more fs f held)

-- no node has the name
pub given_none : (f : Fact) (held : List Held) → place_in (nodes_of held) f.node ≡ None → given (f ∷ []) held ≡ held
given_none f [] e = refl
given_none f (h ∷ held) e = by (name_eq h.node.name f.node) refl (place_in (nodes_of held) f.node) refl e (given_none f held) where
  head : name_eq h.node.name f.node ≡ false → set_occ (or_else (fact_in (f ∷ []) h.node.name) h.occ) h ≡ h
  head q = other (name_eq f.node h.node.name) refl where
    other : (b : Bool) → name_eq f.node h.node.name ≡ b → set_occ (or_else (if b then Some f.value else None) h.occ) h ≡ h
    other true t =
        absurd (let s : name_eq h.node.name f.node ≡ true = ap (name_eq h.node.name) (name_same f.node h.node.name t) ∙ name_eq-same h.node.name in cc)
    other false t = refl

  by : (b : Bool) → name_eq h.node.name f.node ≡ b → (o : Option ℕ) → place_in (nodes_of held) f.node ≡ o → (if b then Some zero else option_map suc o) ≡ None
      → (place_in (nodes_of held) f.node ≡ None → given (f ∷ []) held ≡ held) → given (f ∷ []) (h ∷ held) ≡ h ∷ held
  by true q o p e k = absurd cc
  by false q None p e k = ap (λ z. z ∷ given (f ∷ []) held) (head q) ∙ ap (λ hs. h ∷ hs) (k p)
  by false q (Some i) p e k = absurd cc

-- the node of the place has it
pub given_one : (f : Fact) (held : List Held) (p : ℕ) → are_distinct (names (nodes_of held)) ≡ true → place_in (nodes_of held) f.node ≡ Some p
    → given (f ∷ []) held ≡ updated p (set_occ (Some f.value)) held
given_one f [] p d e = absurd cc
given_one f (h ∷ held) p d e = by (name_eq h.node.name f.node) refl (place_in (nodes_of held) f.node) refl p e (λ j. given_one f held j (both_true _ _ d).1) where
  unnamed : (m : Name) (hs : List Held) → list_all (λ j. not (name_eq m j)) (names (nodes_of hs)) ≡ true → place_in (nodes_of hs) m ≡ None
  unnamed m [] a = refl
  unnamed m (x ∷ hs) a = by (name_eq x.node.name m) refl (unnamed m hs (both_true _ _ a).1) where
    by : (b : Bool) → name_eq x.node.name m ≡ b → place_in (nodes_of hs) m ≡ None → (if b then Some zero else option_map suc (place_in (nodes_of hs) m)) ≡ None
    by true t n =
        let s : name_eq m x.node.name ≡ true = ap (name_eq m) (name_same x.node.name m t) ∙ name_eq-same m in
        let r : not (name_eq m x.node.name) ≡ true = (both_true _ _ a).0 in
        let u : not (name_eq m x.node.name) ≡ false = ap not s in
        absurd cc
    by false t n = ap (option_map suc) n

  by : (b : Bool) → name_eq h.node.name f.node ≡ b → (o : Option ℕ) → place_in (nodes_of held) f.node ≡ o → (p : ℕ) → (if b then Some zero else option_map suc o) ≡ Some p
      → ((j : ℕ) → place_in (nodes_of held) f.node ≡ Some j → given (f ∷ []) held ≡ updated j (set_occ (Some f.value)) held)
      → given (f ∷ []) (h ∷ held) ≡ updated p (set_occ (Some f.value)) (h ∷ held)
  by true q o w zero e k =
      let name : h.node.name ≡ f.node = name_same h.node.name f.node q in
      let t : name_eq f.node h.node.name ≡ true = ap (name_eq f.node) name ∙ name_eq-same f.node in
      let none : place_in (nodes_of held) f.node ≡ None = ap (place_in (nodes_of held)) (sym name) ∙ unnamed h.node.name held (both_true _ _ d).0 in
      ap (λ b. set_occ (or_else (if b then Some f.value else None) h.occ) h ∷ given (f ∷ []) held) t ∙ ap (λ hs. set_occ (Some f.value) h ∷ hs) (given_none f held none)
  by true q o w (suc i) e k = absurd cc
  by false q None w p e k = absurd cc
  by false q (Some i) w zero e k = absurd cc
  by false q (Some i) w (suc j) e k =
      let same : Some i ≡ Some j = cc in
      ap (λ z. z ∷ given (f ∷ []) held) (other (name_eq f.node h.node.name) refl) ∙ ap (λ hs. h ∷ hs) (k j (w ∙ same))
    where
      other : (b : Bool) → name_eq f.node h.node.name ≡ b → set_occ (or_else (if b then Some f.value else None) h.occ) h ≡ h
      other true t =
          absurd (let s : name_eq h.node.name f.node ≡ true = ap (name_eq h.node.name) (name_same f.node h.node.name t) ∙ name_eq-same h.node.name in cc)
      other false t = refl

pub given_nothing : (held : List Held) → given [] held ≡ held
given_nothing [] = refl
given_nothing (h ∷ held) = ap (λ hs. h ∷ hs) (given_nothing held)

-- Nodes and targets stay.

pub given_nodes : (fs : List Fact) (held : List Held) → nodes_of (given fs held) ≡ nodes_of held
given_nodes fs [] = refl
given_nodes fs (h ∷ held) = ap (λ xs. h.node ∷ xs) (given_nodes fs held)

given_targets : (fs : List Fact) (held : List Held) → targets_of (given fs held) ≡ targets_of held
given_targets fs [] = refl
given_targets fs (h ∷ held) = ap (λ ts. h.target ∷ ts) (given_targets fs held)

pub unwritten_nodes : (ss : List Step) (held : List Held) → nodes_of (unwritten ss held) ≡ nodes_of held
unwritten_nodes [] held = refl
unwritten_nodes (s ∷ ss) held =
    map_updated_kept (λ (h : Held). h.node) s.place (set_before (Some s.value)) (unwritten ss held) (λ h. refl) ∙ unwritten_nodes ss held

unwritten_targets : (ss : List Step) (held : List Held) → targets_of (unwritten ss held) ≡ targets_of held
unwritten_targets [] held = refl
unwritten_targets (s ∷ ss) held =
    map_updated_kept (λ (h : Held). h.target) s.place (set_before (Some s.value)) (unwritten ss held) (λ h. refl) ∙ unwritten_targets ss held

pub reopened_nodes : (o : Option Moment) (fired : List ℕ) (steps : List Step) (above : Option ℕ) (first : ℕ) (l : Lists)
    → nodes_of (reopened o fired steps above first l).held ≡ nodes_of l.held
reopened_nodes None fired steps above first l = refl
reopened_nodes (Some m) fired steps above first l = given_nodes m.fired (unwritten steps l.held) ∙ unwritten_nodes steps l.held

pub reopened_targets : (o : Option Moment) (fired : List ℕ) (steps : List Step) (above : Option ℕ) (first : ℕ) (l : Lists)
    → targets_of (reopened o fired steps above first l).held ≡ targets_of l.held
reopened_targets None fired steps above first l = refl
reopened_targets (Some m) fired steps above first l = given_targets m.fired (unwritten steps l.held) ∙ unwritten_targets steps l.held

-- What was closed is as it was, once the facts are given back and the steps are undone.

pub occ_named : (held : List Held) (p : ℕ) (h : Held) → are_distinct (names (nodes_of held)) ≡ true → slice_get held p ≡ Some h → occ_of held h.node.name ≡ h.occ
occ_named held p h d e =
    place_occ (nodes_of held) (map (λ (g : Held). g.occ) held) h.node.name
    ∙ ap (option_and_then (λ i. flat (slice_get (map (λ (g : Held). g.occ) held) i)))
    (place_at (nodes_of held) h.node.name p h.node d (get_map (λ (g : Held). g.node) held p h e) (name_eq-same h.node.name))
    ∙ ap flat (get_map (λ (g : Held). g.occ) held p h e)

given_silenced : (fs : List Fact) (held : List Held) → ((p : ℕ) (h : Held) → slice_get held p ≡ Some h → fact_in fs h.node.name ≡ h.occ) → given fs (silenced held) ≡ held
given_silenced fs [] k = refl
given_silenced fs (h ∷ held) k =
    ap (λ o. set_occ o h ∷ given fs (silenced held)) (or_else_none (fact_in fs h.node.name) ∙ k zero h refl)
    ∙ ap (λ hs. h ∷ hs) (given_silenced fs held (λ p x e. k (suc p) x e))

pub closed_back : (old new : List Held) (fs gs : List Fact) (ss : List Step) → are_distinct (names (nodes_of old)) ≡ true → HasClosed old new fs ss
    → ((n : Name) → fact_in gs n ≡ fact_in fs n) → given gs (unwritten ss new) ≡ old
closed_back old new fs gs ss d k same =
    ap (given gs) k.steps ∙ given_silenced gs old (λ p h e. same h.node.name ∙ k.facts h.node.name ∙ occ_named old p h d e)

pub ended_back : (l : Lists) (m : Moment) (held : List Held) (fs : List Fact) (steps : List Step) → are_distinct (names (nodes_of l.held)) ≡ true → l.begun ≡ Some m.time
    → HasClosed l.held held fs steps → ((n : Name) → fact_in m.fired n ≡ fact_in fs n)
    → reopened (Some m) l.fired steps l.above l.first (ended_lists m (record l { held = held })) ≡ l
ended_back l m held fs steps d b k same =
    ap (λ ms. record { past = ms; begun = Some m.time; above = l.above; first = l.first; held = given m.fired (unwritten steps held); fired = l.fired }) (but_last_pushed l.past m)
    ∙ ap (λ t. record { past = l.past; begun = t; above = l.above; first = l.first; held = given m.fired (unwritten steps held); fired = l.fired }) (sym b)
    ∙ ap (λ hs. record l { held = hs }) (closed_back l.held held fs m.fired steps d k same)

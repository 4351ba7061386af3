-- What a store shows by its places.
use Rattle.std.proofs.Common.{◌≡◌, ℕ, true, List, [], ◌∷◌, Option, Some, None, map, take, drop, zero, suc, refl, sym, ap, ◌∙◌}
use Rattle.std.specs.Prelude.{slice_get, option_map, option_and_then}
use Rattle.std.specs.List.{AllByRecursion}
use Rattle.std.proofs.lemmas.List.{take-append-drop}
use Rattle.std.proofs.lemmas.Option.{slice_get-map}
use Rattle.frp_base.specs.declared.name.Name.{Name}
use Rattle.frp_graph.specs.declared.trace.Node.{Node}
use Rattle.frp_graph.specs.declared.trace.Moment.{Moment}
use Rattle.frp_base.specs.declared.time.Time.{Time}
use Rattle.frp_base.specs.Time.{parent_and_number}
use Rattle.frp_graph.specs.Trace.{node_in, node_first, fact_in, moment_at, or_else, live, value_after, post_in}
use Rattle.frp_graph.specs.Views.{AreLive}
use Rattle.frp_graph.specs.Links.{are_distinct}
use Rattle.frp_graph.proofs.Lists.{name_same, name_eq-same}
use Rattle.frp_graph.proofs.Nodes.{found_joined}
use Rattle.frp_graph.proofs.Options.{some_is, then_some}
use Rattle.frp_graph.proofs.Values.{streams_have_no_value}
use Rattle.frp_store.specs.declared.change.Change.{Change}
use Rattle.frp_store.specs.declared.held.Held.{Held}
use Rattle.frp_store.specs.declared.edges.Edges.{Edges}
use Rattle.frp_store.specs.State.{State, place_in, occ_in, pre_in, above_in, sight}
use Rattle.frp_store.specs.Lists.{Lists, state_in}
use Rattle.frp_store.specs.Kept.{AreKept, IsAbove}
use Rattle.frp_store.proofs.Finding.{place_node, place_occ, place_at, place_shows, flat}
use Rattle.frp_store.proofs.Setting.{get_map_back}
use Rattle.frp_store.proofs.Keeping.{sound_now}
use Rattle.frp_store.proofs.Choices.{neither}

all_of : {A : Type 0} (P : A → Type 0) (xs : List A) → ((i : ℕ) (x : A) → slice_get xs i ≡ Some x → P x) → AllByRecursion P xs
all_of P [] f = tt
all_of P (x ∷ xs) f = (f zero x refl, all_of P xs (λ i y e. f (suc i) y e))

-- where names are distinct, the nodes are the live ones
pub are_live : (s : State) → are_distinct (map (λ (x : Node). x.name) s.nodes) ≡ true → AreLive (sight s) s.nodes
are_live s d = record {
  live = all_of (λ x. node_in s.nodes x.name ≡ Some x) s.nodes
      (λ i x e. place_node s.nodes x.name ∙ ap (option_and_then (slice_get s.nodes)) (place_at s.nodes x.name i x d e (name_eq-same x.name)) ∙ e);
  each = λ n x e. let f = then_some (slice_get s.nodes) (place_in s.nodes n) x (sym (place_node s.nodes n) ∙ e) in (f.0, f.2);
  once = d;
}

-- the item at the place of a name
abbrev pub held_in : List Held → Name → Option Held
held_in held n = option_and_then (λ p. slice_get held p) (place_in (map (λ (h : Held). h.node) held) n)

-- its node is the one that is found
pub node_held : (held : List Held) (n : Name) → node_in (map (λ (h : Held). h.node) held) n ≡ option_map (λ (h : Held). h.node) (held_in held n)
node_held held n = place_node (map (λ (h : Held). h.node) held) n ∙ by (place_in (map (λ (h : Held). h.node) held) n) where
  by : (o : Option ℕ) → option_and_then (slice_get (map (λ (h : Held). h.node) held)) o ≡ option_map (λ (h : Held). h.node) (option_and_then (λ p. slice_get held p) o)
  by None = refl
  by (Some p) = slice_get-map (λ (h : Held). h.node) held p

-- and so is its occurrence
pub occ_held : (held : List Held) (n : Name) → occ_in (map (λ (h : Held). h.node) held) (map (λ (h : Held). h.occ) held) n ≡ option_and_then (λ (h : Held). h.occ) (held_in held n)
occ_held held n = place_occ (map (λ (h : Held). h.node) held) (map (λ (h : Held). h.occ) held) n ∙ by (place_in (map (λ (h : Held). h.node) held) n) where
  shown : (o : Option Held) → flat (option_map (λ (h : Held). h.occ) o) ≡ option_and_then (λ (h : Held). h.occ) o
  shown None = refl
  shown (Some h) = refl

  by : (o : Option ℕ) → option_and_then (λ p. flat (slice_get (map (λ (h : Held). h.occ) held) p)) o ≡ option_and_then (λ (h : Held). h.occ) (option_and_then (λ p. slice_get held p) o)
  by None = refl
  by (Some p) = ap flat (slice_get-map (λ (h : Held). h.occ) held p) ∙ shown (slice_get held p)

-- What is not live has no value.

unborn : (ms : List Moment) (n : Name) → node_in (live ms) n ≡ None → AllByRecursion (λ m. option_and_then node_first (node_in m.born n) ≡ None) ms
unborn [] n e = tt
unborn (m ∷ ms) n e =
    let d = neither (node_in m.born n) (node_in (live ms) n) (sym (found_joined m.born (live ms) n) ∙ e) in
    (ap (option_and_then node_first) d.0, unborn ms n d.1)

pub no_pre : (s : State) (n : Name) → ((m : Name) → node_in (live s.past) m ≡ node_in (take s.first s.nodes) m) → place_in s.nodes n ≡ None → pre_in s n ≡ None
no_pre s n shown e =
    let none : node_in s.nodes n ≡ None = place_node s.nodes n ∙ ap (option_and_then (slice_get s.nodes)) e in
    let parted : or_else (node_in (take s.first s.nodes) n) (node_in (drop s.first s.nodes) n) ≡ None =
    sym (found_joined (take s.first s.nodes) (drop s.first s.nodes) n) ∙ ap (λ ns. node_in ns n) (take-append-drop s.first s.nodes) ∙ none in
    let d = neither (node_in (take s.first s.nodes) n) (node_in (drop s.first s.nodes) n) parted in
    let value : value_after s.past n ≡ None = streams_have_no_value s.past n (unborn s.past n (shown n ∙ d.0)) in
    ap (λ o. or_else (option_and_then node_first o) (value_after s.past n)) d.1 ∙ value

no_place : (held : List Held) (n : Name) → held_in held n ≡ None → place_in (map (λ (h : Held). h.node) held) n ≡ None
no_place held n e = by (place_in (map (λ (h : Held). h.node) held) n) refl where
  by : (o : Option ℕ) → place_in (map (λ (h : Held). h.node) held) n ≡ o → o ≡ None
  by None q = refl
  by (Some p) q =
      let x = place_shows (map (λ (h : Held). h.node) held) n p q in
      let h = get_map_back (λ (h : Held). h.node) held p x.0 x.1 in
      let t : held_in held n ≡ Some h.0 = ap (λ o. option_and_then (λ p. slice_get held p) o) q ∙ h.1 in
      absurd cc

-- where no item has a name, nothing of the name has a value
pub none_before : (cs : List Change) (l : Lists) (edges : Edges) (n : Name) → AreKept cs l edges → held_in l.held n ≡ None → pre_in (state_in l) n ≡ None
none_before cs l edges n k e = no_pre (state_in l) n (sound_now cs l edges k).shown (no_place l.held n e)

-- the item of a name has the name's value before
pub held_before : (cs : List Change) (l : Lists) (edges : Edges) (n : Name) (h : Held) → AreKept cs l edges → held_in l.held n ≡ Some h → h.before ≡ pre_in (state_in l) n
held_before cs l edges n h k e =
    let f = then_some (λ p. slice_get l.held p) (place_in (state_in l).nodes n) h e in
    let x = place_shows (state_in l).nodes n f.0 f.1 in
    let g = get_map_back (λ (g : Held). g.node) l.held f.0 x.0 x.1 in
    let same : g.0 ≡ h = some_is h g.0 (sym f.2 ∙ g.1) in
    let name : h.node.name ≡ n = ap (λ (z : Held). z.node.name) (sym same) ∙ ap (λ (y : Node). y.name) g.2 ∙ name_same x.0.name n x.2 in
    (sound_now cs l edges k).before f.0 h f.2 ∙ ap (pre_in (state_in l)) name

-- and the name's occurrence
pub held_occ : (l : Lists) (n : Name) (h : Held) → held_in l.held n ≡ Some h → h.occ ≡ occ_in (state_in l).nodes (state_in l).occs n
held_occ l n h e = sym (occ_held l.held n ∙ ap (option_and_then (λ (g : Held). g.occ)) e)

pub no_occ : (l : Lists) (n : Name) → held_in l.held n ≡ None → occ_in (state_in l).nodes (state_in l).occs n ≡ None
no_occ l n e = occ_held l.held n ∙ ap (option_and_then (λ (g : Held). g.occ)) e

-- The same as the value of the store, whose state this is.

pub seen_after : (cs : List Change) (l : Lists) (edges : Edges) (s : State) (n : Name) (h : Held) → state_in l ≡ s → AreKept cs l edges → held_in l.held n ≡ Some h
    → or_else h.occ h.before ≡ post_in (sight s) n
seen_after cs l edges s n h q k e =
    ap (λ o. or_else o h.before) (held_occ l n h e) ∙ ap (or_else (occ_in (state_in l).nodes (state_in l).occs n)) (held_before cs l edges n h k e) ∙ ap (λ (z : State). post_in (sight z) n) q

pub none_after : (cs : List Change) (l : Lists) (edges : Edges) (s : State) (n : Name) → state_in l ≡ s → AreKept cs l edges → held_in l.held n ≡ None → post_in (sight s) n ≡ None
none_after cs l edges s n q k e =
    sym (ap (λ (z : State). post_in (sight z) n) q)
    ∙ ap (λ o. or_else o (pre_in (state_in l) n)) (no_occ l n e) ∙ none_before cs l edges n k e

-- What was seen at the time above.

above_time : (past : List Moment) (o : Option (Time × ℕ))
    → option_and_then (λ (p : Time × ℕ). moment_at past p.0) o ≡ option_and_then (λ u. moment_at past u) (option_map (λ (p : Time × ℕ). p.0) o)
above_time past None = refl
above_time past (Some p) = refl

pub above_shown : (b : Option Time) (past : List Moment) (i : ℕ) (n : Name) → IsAbove b past (Some i) → (m : Moment) × (slice_get past i ≡ Some m) × (fact_in m.fired n ≡ above_in b past n)
above_shown None past i n h = absurd cc
above_shown (Some t) past i n h = (h.0, h.1, sym (ap (option_and_then (λ (m : Moment). fact_in m.fired n)) (above_time past (parent_and_number t) ∙ h.2)))

pub above_hidden : (b : Option Time) (past : List Moment) (n : Name) → IsAbove b past None → above_in b past n ≡ None
above_hidden None past n h = refl
above_hidden (Some t) past n h = ap (option_and_then (λ (m : Moment). fact_in m.fired n)) (above_time past (parent_and_number t) ∙ h)

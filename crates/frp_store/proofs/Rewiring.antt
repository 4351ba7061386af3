-- What depends on what, once a node is turned.
use Rattle.std.proofs.Common.{◌≡◌, ℕ, ◌<◌, ◌≤◌, Bool, true, false, List, [], ◌∷◌, ◌++◌, Option, Some, None, map, drop, length, zero, suc, refl, sym, ap, ◌∙◌, subst, arith, inl, inr}
use Rattle.std.specs.Prelude.{option_and_then, ◌==◌, ◌||◌, ◌&&◌, not, nat_lt, slice_get, slice_set, if◌then◌else◌, IfSome, IsTrue, is_some}
use Rattle.std.specs.List.{AllByRecursion}
use Rattle.std.specs.Bool.{Decides}
use Rattle.std.specs.Cmp.{unsigned_Decides}
use Rattle.std.specs.BTreeMap.{BTreeMap}
use Rattle.frp_base.specs.declared.name.Name.{Name}
use Rattle.frp_graph.specs.declared.trace.Node.{Node}
use Rattle.frp_store.specs.declared.change.Change.{Change}
use Rattle.frp_store.specs.declared.change.Change.TheVariants.{Turned}
use Rattle.frp_store.specs.declared.held.Held.{Held}
use Rattle.frp_store.specs.declared.edges.Dependents.{Dependents}
use Rattle.frp_store.specs.declared.edges.Edges.{Edges}
use Rattle.frp_store.specs.declared.tables.Tables.{Tables}
use Rattle.frp_store.specs.Items.{updated}
use Rattle.frp_store.specs.Closing.{at, held_target}
use Rattle.frp_store.specs.State.{place_in}
use Rattle.frp_store.specs.Calls.{turned}
use Rattle.frp_store.specs.Lists.{Lists, lists_of, nodes_of, targets_of, state_in}
use Rattle.frp_store.specs.Places.{PlaceList, IsRising, ArePlaces, has, with_place, without_place}
use Rattle.frp_store.specs.Dependents.{is_linked_to, is_turned_to, dependents_of}
use Rattle.frp_store.specs.Edges.{joined, left, HasRoomFor, HasSpare, IsRoomier, depends, depends_on, watches, linked_by, unlinked, AreListed, AreLinked, IsIndexed, IsWanted}
use Rattle.frp_store.specs.Undo.{undo, undo_all, set_target}
use Rattle.frp_store.specs.Kept.{IsSound, HasRoom, AreKept}
use Rattle.frp_store.proofs.Rising.{has_with, has_without, rising_with, rising_without, length_with, places_same}
use Rattle.frp_store.proofs.Items.{updated_cases, updated_back, updated_past, get_updated, length_updated, got, map_updated_kept, map_updated_set}
use Rattle.frp_store.proofs.Setting.{get_map, get_map_back, get_set_same, get_set_other}
use Rattle.frp_store.proofs.Undoing.{pushed_base, popped_all, of_now}
use Rattle.frp_store.proofs.Listing.{dependents_are, listed_roomier, room_roomier}
use Rattle.frp_store.proofs.Keeping.{kept_more, kept_fewer, kept_behind, sound_now, updated_sound}

-- The lists of one node, once a place is put in or taken out.

pub record IsChanged (c d : Dependents) (ps : List ℕ) : Type 0 where
  pub nodes : d.nodes.items ≡ ps
  pub room : d.nodes.room ≡ c.nodes.room
  pub watchers : d.watchers ≡ c.watchers

pub get_joined : (to : Option ℕ) (p e : ℕ) (ds : List Dependents) (d : Dependents) → slice_get (joined to p ds) e ≡ Some d
    → (c : Dependents) × (slice_get ds e ≡ Some c) × IsChanged c d (if is_turned_to to e then with_place p c.nodes.items else c.nodes.items)
get_joined None p e ds d g = (d, g, record { nodes = refl; room = refl; watchers = refl })
get_joined (Some f) p e ds d g = elim (updated_cases f e (λ (c : Dependents). record c { nodes = record c.nodes { items = with_place p c.nodes.items } }) ds d g) [
  | inl h ↦ (
    h.1,
    h.2,
    let t : f == e ≡ true = (unsigned_Decides f e).1 (sym h.0) in
        record { nodes = ap (λ (z : Dependents). z.nodes.items) h.3 ∙ rw t refl; room = ap (λ (z : Dependents). z.nodes.room) h.3; watchers = ap (λ (z : Dependents). z.watchers) h.3 },
  )
  | inr h ↦ (d, h.1, record { nodes = other (f == e) (unsigned_Decides f e) (λ x. h.0 (sym x)); room = refl; watchers = refl })
]
  where
    other : (b : Bool) → Decides b (f ≡ e) → (f ≡ e → ⊥) → d.nodes.items ≡ (if b then with_place p d.nodes.items else d.nodes.items)
    other true k n = absurd (n (k.0 refl))
    other false k n = refl

pub get_left : (to : Option ℕ) (p e : ℕ) (ds : List Dependents) (d : Dependents) → slice_get (left to p ds) e ≡ Some d
    → (c : Dependents) × (slice_get ds e ≡ Some c) × IsChanged c d (if is_turned_to to e then without_place p c.nodes.items else c.nodes.items)
get_left None p e ds d g = (d, g, record { nodes = refl; room = refl; watchers = refl })
get_left (Some f) p e ds d g = elim (updated_cases f e (λ (c : Dependents). record c { nodes = record c.nodes { items = without_place p c.nodes.items } }) ds d g) [
  | inl h ↦ (
    h.1,
    h.2,
    let t : f == e ≡ true = (unsigned_Decides f e).1 (sym h.0) in
        record { nodes = ap (λ (z : Dependents). z.nodes.items) h.3 ∙ rw t refl; room = ap (λ (z : Dependents). z.nodes.room) h.3; watchers = ap (λ (z : Dependents). z.watchers) h.3 },
  )
  | inr h ↦ (d, h.1, record { nodes = other (f == e) (unsigned_Decides f e) (λ x. h.0 (sym x)); room = refl; watchers = refl })
]
  where
    other : (b : Bool) → Decides b (f ≡ e) → (f ≡ e → ⊥) → d.nodes.items ≡ (if b then without_place p d.nodes.items else d.nodes.items)
    other true k n = absurd (n (k.0 refl))
    other false k n = refl

pub length_joined : (to : Option ℕ) (p : ℕ) (ds : List Dependents) → length (joined to p ds) ≡ length ds
length_joined None p ds = refl
length_joined (Some e) p ds = length_updated e (λ (c : Dependents). record c { nodes = record c.nodes { items = with_place p c.nodes.items } }) ds

pub length_left : (to : Option ℕ) (p : ℕ) (ds : List Dependents) → length (left to p ds) ≡ length ds
length_left None p ds = refl
length_left (Some e) p ds = length_updated e (λ (c : Dependents). record c { nodes = record c.nodes { items = without_place p c.nodes.items } }) ds

pub length_without : (p : ℕ) (qs : List ℕ) → length (without_place p qs) ≤ length qs
length_without p [] = omega arith
length_without p (q ∷ qs) = by (nat_lt q p) (q == p) (length_without p qs) where
  by : (c e : Bool) → length (without_place p qs) ≤ length qs → length (if c then q ∷ without_place p qs else (if e then qs else q ∷ qs)) ≤ suc (length qs)
  by true e h = omega arith
  by false true h = omega arith
  by false false h = omega arith

-- Room stays where places are taken out, or put in where there is room.

pub left_fits : (to : Option ℕ) (p : ℕ) (ds : List Dependents) → ((e : ℕ) (d : Dependents) → slice_get ds e ≡ Some d → length d.nodes.items ≤ d.nodes.room)
    → (e : ℕ) (d : Dependents) → slice_get (left to p ds) e ≡ Some d → length d.nodes.items ≤ d.nodes.room
left_fits to p ds f e d g =
    let i = get_left to p e ds d g in
    let h = f e i.0 i.1 in
    let l = by (is_turned_to to e) i.0 in
    let a : length d.nodes.items ≡ length (if is_turned_to to e then without_place p i.0.nodes.items else i.0.nodes.items) = ap length i.2.nodes in
    let b = i.2.room in
    omega arith
  where
    by : (c : Bool) (z : Dependents) → length (if c then without_place p z.nodes.items else z.nodes.items) ≤ length z.nodes.items
    by true z = length_without p z.nodes.items
    by false z = omega arith

pub joined_fits : (to : Option ℕ) (p : ℕ) (ds : List Dependents) → ((e : ℕ) (d : Dependents) → slice_get ds e ≡ Some d → length d.nodes.items ≤ d.nodes.room) → HasRoomFor to p ds
    → (e : ℕ) (d : Dependents) → slice_get (joined to p ds) e ≡ Some d → length d.nodes.items ≤ d.nodes.room
joined_fits None p ds f room e d g = f e d g
joined_fits (Some i) p ds f room e d g =
    elim (updated_cases i e (λ (c : Dependents). record c { nodes = record c.nodes { items = with_place p c.nodes.items } }) ds d g) [
      | inl h ↦
          let r = room h.1 (ap (slice_get ds) (sym h.0) ∙ h.2) in
          let a : length d.nodes.items ≡ length (with_place p h.1.nodes.items) = ap (λ (z : Dependents). length z.nodes.items) h.3 in
          let b : d.nodes.room ≡ h.1.nodes.room = ap (λ (z : Dependents). z.nodes.room) h.3 in
          omega arith
      | inr h ↦ f e d h.1
    ]

-- Places that pass another test.

pub retested : (ps : List ℕ) (t u : ℕ → Bool) → ((r : ℕ) → t r ≡ u r) → ArePlaces ps t → ArePlaces ps u
retested ps t u e k = record { rising = k.rising; those = λ r. k.those r ∙ e r }

pub with_tested : (b : Bool) (p : ℕ) (ps : List ℕ) (t : ℕ → Bool) → ArePlaces ps t → ArePlaces (if b then with_place p ps else ps) (λ r. (b && p == r) || t r)
with_tested true p ps t k = record { rising = rising_with p ps k.rising; those = λ r. has_with p ps r ∙ ap (λ c. p == r || c) (k.those r) }
with_tested false p ps t k = k

pub without_tested : (b : Bool) (p : ℕ) (ps : List ℕ) (t : ℕ → Bool) → ArePlaces ps t → ArePlaces (if b then without_place p ps else ps) (λ r. not (b && p == r) && t r)
without_tested true p ps t k = record { rising = rising_without p ps k.rising; those = λ r. has_without p ps r k.rising ∙ ap (λ c. not (p == r) && c) (k.those r) }
without_tested false p ps t k = k

-- A node is turned.

module _ (nodes : List Node) (targets : List (Option ℕ)) (p : ℕ) (from to : Option ℕ) (x : Node) (here : slice_get nodes p ≡ Some x) (was : slice_get targets p ≡ Some from) where
  elsewhere : (b c t : Bool) → (b && false) || (not (c && false) && t) ≡ t
  elsewhere true true true = refl
  elsewhere true true false = refl
  elsewhere true false true = refl
  elsewhere true false false = refl
  elsewhere false true true = refl
  elsewhere false true false = refl
  elsewhere false false true = refl
  elsewhere false false false = refl

  stays : (b l : Bool) → (b && true) || (true && (l || false)) ≡ l || b
  stays true true = refl
  stays true false = refl
  stays false true = refl
  stays false false = refl

  leaves : (b : Bool) → (b && true) || false ≡ b
  leaves true = refl
  leaves false = refl

  keeps : (b : Bool) → (b && true) || true ≡ true
  keeps true = refl
  keeps false = refl

  -- at the node itself
  at_node : (from to : Option ℕ) (e : ℕ) (y : Node) → slice_get nodes e ≡ Some y
      → (is_turned_to to e && true) || (not (is_turned_to (unlinked nodes p from) e && true) && (is_linked_to x.shape y.name || is_turned_to from e))
      ≡ is_linked_to x.shape y.name || is_turned_to to e
  at_node None to e y at = stays (is_turned_to to e) (is_linked_to x.shape y.name)
  at_node (Some f) to e y at = by (f == e) refl (unsigned_Decides f e) where
    other : (c : Bool) → f == e ≡ false → (is_turned_to to e && true) || (not (is_turned_to (if c then None else Some f) e && true) && (is_linked_to x.shape y.name || false))
        ≡ is_linked_to x.shape y.name || is_turned_to to e
    other true n = stays (is_turned_to to e) (is_linked_to x.shape y.name)
    other false n = rw n (stays (is_turned_to to e) (is_linked_to x.shape y.name))

    same : (l : Bool) → f == e ≡ true → (is_turned_to to e && true) || (not (is_turned_to (if l then None else Some f) e && true) && (l || true)) ≡ l || is_turned_to to e
    same true t = keeps (is_turned_to to e)
    same false t = rw t (leaves (is_turned_to to e))

    by : (b : Bool) → f == e ≡ b → Decides b (f ≡ e)
        → (is_turned_to to e && true) || (not (is_turned_to (unlinked nodes p (Some f)) e && true) && (is_linked_to x.shape y.name || b)) ≡ is_linked_to x.shape y.name || is_turned_to to e
    by true q d =
        let l : linked_by (slice_get nodes f) (slice_get nodes p) ≡ is_linked_to x.shape y.name =
        ap (λ o. linked_by o (slice_get nodes p)) (ap (slice_get nodes) (d.0 refl) ∙ at) ∙ ap (linked_by (Some y)) here in
        ap (λ c. (is_turned_to to e && true) || (not (is_turned_to (if c then None else Some f) e && true) && (is_linked_to x.shape y.name || true))) l
        ∙ same (is_linked_to x.shape y.name) q
    by false q d = other (linked_by (slice_get nodes f) (slice_get nodes p)) q

  -- at any node
  pub turned_test : (e : ℕ) (y : Node) (r : ℕ) → slice_get nodes e ≡ Some y
      → (is_turned_to to e && p == r) || (not (is_turned_to (unlinked nodes p from) e && p == r) && depends nodes targets e r) ≡ depends nodes (slice_set targets p to) e r
  turned_test e y r at = by (p == r) (unsigned_Decides p r) where
    by : (b : Bool) → Decides b (p ≡ r)
        → (is_turned_to to e && b) || (not (is_turned_to (unlinked nodes p from) e && b) && depends nodes targets e r) ≡ depends nodes (slice_set targets p to) e r
    by true d =
        let old : depends nodes targets e r ≡ (is_linked_to x.shape y.name || is_turned_to from e) =
        ap (depends nodes targets e) (sym (d.0 refl)) ∙ ap (λ o. depends_on o (slice_get nodes p) (slice_get targets p) e) at ∙ ap (λ o. depends_on (Some y) o (slice_get targets p) e) here
        ∙ ap (λ o. depends_on (Some y) (Some x) o e) was in
        let new : depends nodes (slice_set targets p to) e r ≡ (is_linked_to x.shape y.name || is_turned_to to e) =
        ap (depends nodes (slice_set targets p to) e) (sym (d.0 refl)) ∙ ap (λ o. depends_on o (slice_get nodes p) (slice_get (slice_set targets p to) p) e) at
        ∙ ap (λ o. depends_on (Some y) o (slice_get (slice_set targets p to) p) e) here ∙ ap (λ o. depends_on (Some y) (Some x) o e) (get_set_same targets p from to was) in
        ap (λ t. (is_turned_to to e && true) || (not (is_turned_to (unlinked nodes p from) e && true) && t)) old ∙ at_node from to e y at ∙ sym new
    by false d =
        let apart : r ≡ p → ⊥ = (λ h. let t : false ≡ true = d.1 (sym h) in absurd cc) in
        elsewhere (is_turned_to to e) (is_turned_to (unlinked nodes p from) e) (depends nodes targets e r)
        ∙ ap (λ o. depends_on (slice_get nodes e) (slice_get nodes r) o e) (sym (get_set_other targets p r to apart))

  -- the places among the lists
  pub turned_places : (ds : List Dependents) → AreListed ds nodes targets → (e : ℕ) (d : Dependents) → slice_get (joined to p (left (unlinked nodes p from) p ds)) e ≡ Some d
      → ArePlaces d.nodes.items (depends nodes (slice_set targets p to) e)
  turned_places ds k e d g =
      let j = get_joined to p e (left (unlinked nodes p from) p ds) d g in
      let i = get_left (unlinked nodes p from) p e ds j.0 j.1 in
      let y = got nodes e (subst (λ n. e < n) k.count (slice_within ds e i.0 i.1)) in
      let a = without_tested (is_turned_to (unlinked nodes p from) e) p i.0.nodes.items (depends nodes targets e) (k.nodes e i.0 i.1) in
      let b = with_tested (is_turned_to to e) p _ _ a in
      subst (λ ps. ArePlaces ps (depends nodes (slice_set targets p to) e)) (sym (j.2.nodes ∙ ap (λ ps. if is_turned_to to e then with_place p ps else ps) i.2.nodes))
      (retested _ _ _ (λ r. turned_test e y.0 r y.1) b)
    where
      slice_within : (ds : List Dependents) (e : ℕ) (d : Dependents) → slice_get ds e ≡ Some d → e < length ds
      slice_within [] e d g = absurd cc
      slice_within (c ∷ ds) zero d g = omega arith
      slice_within (c ∷ ds) (suc e) d g = let h = slice_within ds e d g in omega arith

  pub turned_listed : (ds : List Dependents) → AreListed ds nodes targets → HasRoomFor to p (left (unlinked nodes p from) p ds)
      → AreListed (joined to p (left (unlinked nodes p from) p ds)) nodes (slice_set targets p to)
  turned_listed ds k room = record {
    count = length_joined to p (left (unlinked nodes p from) p ds) ∙ length_left (unlinked nodes p from) p ds ∙ k.count;
    nodes = turned_places ds k;
    watchers = λ e d g.
        let j = get_joined to p e (left (unlinked nodes p from) p ds) d g in
        let i = get_left (unlinked nodes p from) p e ds j.0 j.1 in
        subst (λ (ps : PlaceList). ArePlaces ps.items (watches nodes e)) (sym (j.2.watchers ∙ i.2.watchers)) (k.watchers e i.0 i.1);
    fits = joined_fits to p (left (unlinked nodes p from) p ds) (left_fits (unlinked nodes p from) p ds k.fits) room;
  }

-- The tables, once a node is turned.

-- where there is room for one more, there is room for a node that is turned
pub spare_room : (to u : Option ℕ) (p : ℕ) (ds : List Dependents) → HasSpare to ds → HasRoomFor to p (left u p ds)
spare_room None u p ds h = tt
spare_room (Some e) u p ds h = λ d g.
    let i = get_left u p e ds d g in
    let s = h i.0 i.1 in
    let l = length_with p d.nodes.items in
    let m = by (is_turned_to u e) i.0 in
    let a : length d.nodes.items ≡ length (if is_turned_to u e then without_place p i.0.nodes.items else i.0.nodes.items) = ap length i.2.nodes in
    let b = i.2.room in
    omega arith
  where
    by : (c : Bool) (z : Dependents) → length (if c then without_place p z.nodes.items else z.nodes.items) ≤ length z.nodes.items
    by true z = length_without p z.nodes.items
    by false z = omega arith

abbrev pub turned_lists : ℕ → Option ℕ → Lists → Lists
turned_lists p to l = record l { held = updated p (set_target to) l.held }

pub turned_back : (l : Lists) (p : ℕ) (to : Option ℕ) (h : Held) → slice_get l.held p ≡ Some h → undo (Turned p h.target) (turned_lists p to l) ≡ l
turned_back l p to h e = ap (λ hs. record l { held = hs }) (updated_back p (set_target h.target) (set_target to) l.held h e refl)

turned_targets : (held : List Held) (p : ℕ) (to : Option ℕ) → targets_of (updated p (set_target to) held) ≡ slice_set (targets_of held) p to
turned_targets held p to = map_updated_set (λ (g : Held). g.target) p (set_target to) held to (λ x. refl)

turned_nodes : (held : List Held) (p : ℕ) (to : Option ℕ) → nodes_of (updated p (set_target to) held) ≡ nodes_of held
turned_nodes held p to = map_updated_kept (λ (g : Held). g.node) p (set_target to) held (λ x. refl)

turned_linked : (l : Lists) (edges new : Edges) (p : ℕ) (to : Option ℕ) (h : Held) (ds : List Dependents) → slice_get l.held p ≡ Some h
    → AreLinked edges (nodes_of l.held) (targets_of l.held) → AreListed ds (nodes_of l.held) (targets_of l.held)
    → new.lists.items ≡ joined to p (left (unlinked (nodes_of l.held) p h.target) p ds) → new.wanting ≡ edges.wanting → new.index ≡ edges.index
    → HasRoomFor to p (left (unlinked (nodes_of l.held) p h.target) p ds)
    → AreLinked new (nodes_of (updated p (set_target to) l.held)) (targets_of (updated p (set_target to) l.held))
turned_linked l edges new p to h ds e k listed a b c room =
    subst (λ ns. AreLinked new ns (targets_of (updated p (set_target to) l.held))) (sym (turned_nodes l.held p to))
    (subst (λ ts. AreLinked new (nodes_of l.held) ts) (sym (turned_targets l.held p to)) (record {
      listed = subst (λ xs. AreListed xs (nodes_of l.held) (slice_set (targets_of l.held) p to)) (sym a)
          (turned_listed (nodes_of l.held) (targets_of l.held) p h.target to h.node (get_map (λ (z : Held). z.node) l.held p h e) (get_map (λ (z : Held). z.target) l.held p h e) ds listed room);
      indexed = λ n. subst (λ (i : BTreeMap Name ℕ). IsIndexed i n (place_in (nodes_of l.held) n)) (sym c) (k.indexed n);
      inside = subst (λ (w : PlaceList). AllByRecursion (λ q. q < length (nodes_of l.held)) w.items) (sym b) k.inside;
      rising = subst (λ (w : PlaceList). IsRising w.items) (sym b) k.rising;
    }))

-- room is as it was
turned_room : (to u : Option ℕ) (p : ℕ) (ds : List Dependents) (l : Lists) → HasRoom ds l → HasRoom (joined to p (left u p ds)) l
turned_room to u p ds l k e d g =
    let j = get_joined to p e (left u p ds) d g in
    let i = get_left u p e ds j.0 j.1 in
    subst (λ n. length (dependents_of (state_in l) e) ≤ n) (sym (j.2.room ∙ i.2.room)) (k e i.0 i.1)

pub turned_kept : (cs more : List Change) (l : Lists) (edges new : Edges) (p : ℕ) (to : Option ℕ) (h : Held) (ds : List Dependents) → more ≡ cs ++ Turned p h.target ∷ []
    → AreKept cs l edges → slice_get l.held p ≡ Some h → IfSome to (λ q. q < length l.held) → IsRoomier edges.lists.items ds
    → new.lists.items ≡ joined to p (left (unlinked (nodes_of l.held) p h.target) p ds) → new.wanting ≡ edges.wanting → new.index ≡ edges.index
    → HasRoomFor to p (left (unlinked (nodes_of l.held) p h.target) p ds) → AreKept more (turned_lists p to l) new
turned_kept cs more l edges new p to h ds m k e inside roomier a b c room =
    kept_more cs more (Turned p h.target) l (turned_lists p to l) edges new m k (turned_back l p to h e)
    (updated_sound l p (set_target to) l.fired s (λ x. refl) (λ x. refl) (λ x i. inside) s.quiet listed s.inside)
    (turned_linked l edges new p to h ds e k.linked (listed_roomier edges.lists.items ds (nodes_of l.held) (targets_of l.held) roomier k.linked.listed) a b c room)
    (subst (λ (w : PlaceList). IsWanted w.items (nodes_of (updated p (set_target to) l.held))) (sym b)
    (subst (IsWanted edges.wanting.items) (sym (turned_nodes l.held p to)) (of_now (λ (i : Lists). IsWanted edges.wanting.items (nodes_of i.held)) cs l k.wanted)))
    (λ ns w. subst (λ (z : PlaceList). IsWanted z.items ns) (sym b) w)
    (λ i f r. subst (λ xs. HasRoom xs i) (sym a) (turned_room to (unlinked (nodes_of l.held) p h.target) p ds i (room_roomier edges.lists.items ds i roomier r)))
  where
    s : IsSound l
    s = sound_now cs l edges k

    listed : (q : ℕ) (x : Held) → slice_get (updated p (set_target to) l.held) q ≡ Some x → IsTrue (is_some x.occ) → IsTrue (has l.fired q)
    listed q x g i = elim (updated_cases p q (set_target to) l.held x g) [
      | inl z ↦ s.listed q z.1 z.2 (ap (λ (y : Held). is_some y.occ) (sym z.3) ∙ i)
      | inr z ↦ s.listed q x z.1 i
    ]

-- the room to turn a node back
pub back_room : (cs : List Change) (l : Lists) (edges : Edges) (p : ℕ) (to : Option ℕ) (h : Held) → AreKept (cs ++ Turned p to ∷ []) l edges → slice_get l.held p ≡ Some h
    → HasRoomFor to p (left (unlinked (nodes_of l.held) p h.target) p edges.lists.items)
back_room cs l edges p None h k e = tt
back_room cs l edges p (Some i) h k e = λ d g.
    let new = record d { nodes = record d.nodes { items = with_place p d.nodes.items } } in
    let at_end : slice_get (joined (Some i) p (left (unlinked (nodes_of l.held) p h.target) p edges.lists.items)) i ≡ Some new =
    get_updated i (λ (c : Dependents). record c { nodes = record c.nodes { items = with_place p c.nodes.items } }) (left (unlinked (nodes_of l.held) p h.target) p edges.lists.items) d g in
    let places = turned_places (nodes_of l.held) (targets_of l.held) p h.target (Some i) h.node (get_map (λ (z : Held). z.node) l.held p h e) (get_map (λ (z : Held). z.target) l.held p h e)
    edges.lists.items k.linked.listed i new at_end in
    let back = undo (Turned p (Some i)) l in
    let are : ArePlaces (dependents_of (state_in back) i) (depends (nodes_of l.held) (slice_set (targets_of l.held) p (Some i)) i) =
    subst (λ ns. ArePlaces (dependents_of (state_in back) i) (depends ns (slice_set (targets_of l.held) p (Some i)) i)) (turned_nodes l.held p (Some i))
    (subst (λ ts. ArePlaces (dependents_of (state_in back) i) (depends (nodes_of (updated p (set_target (Some i)) l.held)) ts i)) (turned_targets l.held p (Some i)) (dependents_are (state_in back) i)) in
    let same : dependents_of (state_in back) i ≡ with_place p d.nodes.items = places_same _ _ _ are places in
    let room = of_now (HasRoom edges.lists.items) cs back (popped_all (HasRoom edges.lists.items) cs (Turned p (Some i)) l k.room) in
    let c = get_left (unlinked (nodes_of l.held) p h.target) p i edges.lists.items d g in
    let r = room i c.0 c.1 in
    let q = c.2.room in
    let n : length (dependents_of (state_in back) i) ≡ length (with_place p d.nodes.items) = ap length same in
    omega (arith, r, q, n)

pub back_inside : (cs : List Change) (l : Lists) (edges : Edges) (p : ℕ) (to : Option ℕ) (h : Held) → AreKept (cs ++ Turned p to ∷ []) l edges → slice_get l.held p ≡ Some h
    → IfSome to (λ q. q < length l.held)
back_inside cs l edges p to h k e =
    let s = of_now IsSound cs (undo (Turned p to) l) (popped_all IsSound cs (Turned p to) l k.sound) in
    subst (λ n. IfSome to (λ q. q < n)) (length_updated p (set_target to) l.held) (s.aims p (set_target to h) (get_updated p (set_target to) l.held h e))

pub back_kept : (cs : List Change) (l : Lists) (edges new : Edges) (p : ℕ) (to : Option ℕ) (h : Held) → AreKept (cs ++ Turned p to ∷ []) l edges → slice_get l.held p ≡ Some h
    → new.lists.items ≡ joined to p (left (unlinked (nodes_of l.held) p h.target) p edges.lists.items) → new.wanting ≡ edges.wanting → new.index ≡ edges.index
    → AreKept cs (turned_lists p to l) new
back_kept cs l edges new p to h k e a b c =
    kept_fewer cs (Turned p to) l (turned_lists p to l) edges new k refl
    (turned_linked l edges new p to h edges.lists.items e k.linked k.linked.listed a b c (back_room cs l edges p to h k e))
    (λ j. subst (λ (w : PlaceList). IsWanted w.items (nodes_of (undo_all (drop j cs) (undo (Turned p to) l)).held)) (sym b)
    (popped_all (λ (i : Lists). IsWanted edges.wanting.items (nodes_of i.held)) cs (Turned p to) l k.wanted j))
    (λ i r. subst (λ xs. HasRoom xs i) (sym a) (turned_room to (unlinked (nodes_of l.held) p h.target) p edges.lists.items i r))

-- no node has the place
pub past_kept : (cs : List Change) (l : Lists) (edges : Edges) (p : ℕ) (to : Option ℕ) → AreKept (cs ++ Turned p to ∷ []) l edges → length l.held ≤ p
    → (AreKept cs l edges) × (l ≡ undo (Turned p to) l)
past_kept cs l edges p to k far =
    let same : l ≡ undo (Turned p to) l = ap (λ hs. record l { held = hs }) (sym (updated_past p (set_target to) l.held far)) in
    (kept_behind cs (Turned p to) l l edges k same refl refl, same)

pub turned_state : (l : Lists) (p : ℕ) (to : Option ℕ) (held : List Held) → held ≡ updated p (set_target to) l.held
    → state_in (record l { held = held }) ≡ turned p to (state_in l)
turned_state l p to held a =
    let s = state_in l in
    let new = updated p (set_target to) l.held in
    ap (λ hs. state_in (record l { held = hs })) a
    ∙ ap (λ ns. record s { nodes = ns; occs = map (λ (g : Held). g.occ) new; targets = targets_of new }) (turned_nodes l.held p to)
    ∙ ap (λ os. record s { occs = os; targets = targets_of new }) (map_updated_kept (λ (g : Held). g.occ) p (set_target to) l.held (λ x. refl))
    ∙ ap (λ ts. record s { targets = ts }) (turned_targets l.held p to)

-- The tables, as they are written.

pub aim_inside : (l : Lists) (p : ℕ) → IsSound l → IfSome (at held_target l.held p) (λ q. q < length l.held)
aim_inside l p k = by (slice_get l.held p) refl where
  by : (o : Option Held) → slice_get l.held p ≡ o → IfSome (option_and_then held_target o) (λ q. q < length l.held)
  by None e = tt
  by (Some h) e = k.aims p h e

pub target_at : (held : List Held) (p : ℕ) (t : Option ℕ) → slice_get (targets_of held) p ≡ Some t → at held_target held p ≡ t
target_at held p t e = let h = get_map_back (λ (g : Held). g.target) held p t e in ap (option_and_then held_target) h.1 ∙ h.2

pub left_length : (to : Option ℕ) (p : ℕ) (ds es : List Dependents) (n : ℕ) → es ≡ left to p ds → length ds ≡ n → n ≡ length es
left_length to p ds es n a b = sym (ap length a ∙ length_left to p ds ∙ b)

-- room for a node that is turned, once it left its lists
pub left_room : (held : List Held) (p : ℕ) (to t u : Option ℕ) (ds es : List Dependents) → slice_get (targets_of held) p ≡ Some t → u ≡ unlinked (nodes_of held) p t → es ≡ left u p ds
    → es ≡ left (unlinked (nodes_of held) p (at held_target held p)) p ds
left_room held p to t u ds es e f g = g ∙ ap (λ v. left v p ds) (f ∙ ap (unlinked (nodes_of held) p) (sym (target_at held p t e)))

-- room alone is more
pub kept_roomier : (cs more : List Change) (l : Lists) (edges new : Edges) → more ≡ cs → AreKept cs l edges → IsRoomier edges.lists.items new.lists.items
    → new.wanting.items ≡ edges.wanting.items → new.index ≡ edges.index → AreKept more l new
kept_roomier cs more l edges new m k r b c = subst (λ ds. AreKept ds l new) (sym m) (record {
  sound = k.sound;
  linked = record {
    listed = listed_roomier edges.lists.items new.lists.items (nodes_of l.held) (targets_of l.held) r k.linked.listed;
    indexed = λ n. subst (λ (i : BTreeMap Name ℕ). IsIndexed i n (place_in (nodes_of l.held) n)) (sym c) (k.linked.indexed n);
    inside = subst (AllByRecursion (λ q. q < length (nodes_of l.held))) (sym b) k.linked.inside;
    rising = subst IsRising (sym b) k.linked.rising;
  };
  wanted = λ j. subst (λ w. IsWanted w (nodes_of (undo_all (drop j cs) l).held)) (sym b) (k.wanted j);
  room = λ j. room_roomier edges.lists.items new.lists.items (undo_all (drop j cs) l) r (k.room j);
})

pub tables_roomier : (s n : Tables) → n.changes.items ≡ s.changes.items → lists_of n ≡ lists_of s → AreKept s.changes.items (lists_of s) s.edges
    → IsRoomier s.edges.lists.items n.edges.lists.items → n.edges.wanting.items ≡ s.edges.wanting.items → n.edges.index ≡ s.edges.index
    → AreKept n.changes.items (lists_of n) n.edges
tables_roomier s n m l k r b c = subst (λ i. AreKept n.changes.items i n.edges) (sym l) (kept_roomier s.changes.items n.changes.items (lists_of s) s.edges n.edges m k r b c)

module _ (t : Tables) (p : ℕ) (to target : Option ℕ) (held : List Held) (inside : p < length t.held.items) (was : target ≡ at held_target t.held.items p)
    (is : held ≡ updated p (set_target to) t.held.items) where
  item : (h : Held) × (slice_get t.held.items p ≡ Some h)
  item = got t.held.items p inside

  own : target ≡ item.0.target
  own = was ∙ ap (option_and_then held_target) item.1

  pub rewired_kept : (more : List Change) (ds : List Dependents) (new : Edges) → AreKept t.changes.items (lists_of t) t.edges → IfSome to (λ q. q < length t.held.items)
      → IsRoomier t.edges.lists.items ds → HasSpare to ds
      → new.lists.items ≡ joined to p (left (unlinked (nodes_of t.held.items) p (at held_target t.held.items p)) p ds) → new.wanting ≡ t.edges.wanting → new.index ≡ t.edges.index
      → more ≡ t.changes.items ++ Turned p target ∷ [] → AreKept more (record (lists_of t) { held = held }) new
  rewired_kept more ds new k aims roomier spare a b c m =
      let h = item.0 in
      let same : at held_target t.held.items p ≡ h.target = sym was ∙ own in
      subst (λ hs. AreKept more (record (lists_of t) { held = hs }) new) (sym is)
      (turned_kept t.changes.items more (lists_of t) t.edges new p to h ds (m ∙ ap (λ z. t.changes.items ++ Turned p z ∷ []) own) k item.1 aims roomier
      (a ∙ ap (λ z. joined to p (left (unlinked (nodes_of t.held.items) p z) p ds)) same) b c (spare_room to (unlinked (nodes_of t.held.items) p h.target) p ds spare))

  pub rewired_base : (more : List Change) → more ≡ t.changes.items ++ Turned p target ∷ []
      → state_in (undo_all more (record (lists_of t) { held = held })) ≡ state_in (undo_all t.changes.items (lists_of t))
  rewired_base more m =
      ap state_in (pushed_base t.changes.items more (Turned p target) (record (lists_of t) { held = held }) (lists_of t) m
      (ap (λ hs. undo (Turned p target) (record (lists_of t) { held = hs })) is ∙ ap (λ z. undo (Turned p z) (turned_lists p to (lists_of t))) own ∙ turned_back (lists_of t) p to item.0 item.1))

  pub rewired_back : (new : Edges) (cs : List Change) → AreKept (cs ++ Turned p to ∷ []) (lists_of t) t.edges
      → new.lists.items ≡ joined to p (left (unlinked (nodes_of t.held.items) p (at held_target t.held.items p)) p t.edges.lists.items) → new.wanting ≡ t.edges.wanting → new.index ≡ t.edges.index
      → AreKept cs (record (lists_of t) { held = held }) new
  rewired_back new cs k a b c =
      let h = item.0 in
      let same : at held_target t.held.items p ≡ h.target = sym was ∙ own in
      subst (λ hs. AreKept cs (record (lists_of t) { held = hs }) new) (sym is)
      (back_kept cs (lists_of t) t.edges new p to h k item.1 (a ∙ ap (λ z. joined to p (left (unlinked (nodes_of t.held.items) p z) p t.edges.lists.items)) same) b c)

  pub rewired_room : (cs : List Change) → AreKept (cs ++ Turned p to ∷ []) (lists_of t) t.edges
      → HasRoomFor to p (left (unlinked (nodes_of t.held.items) p (at held_target t.held.items p)) p t.edges.lists.items)
  rewired_room cs k =
      let same : at held_target t.held.items p ≡ item.0.target = sym was ∙ own in
      subst (λ z. HasRoomFor to p (left (unlinked (nodes_of t.held.items) p z) p t.edges.lists.items)) (sym same) (back_room cs (lists_of t) t.edges p to item.0 k item.1)

pub back_sound : (cs : List Change) (l : Lists) (edges : Edges) (p : ℕ) (to : Option ℕ) → AreKept (cs ++ Turned p to ∷ []) l edges → IsSound l
back_sound cs l edges p to k = of_now IsSound (cs ++ Turned p to ∷ []) l k.sound

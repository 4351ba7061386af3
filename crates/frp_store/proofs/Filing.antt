-- What depends on what, once a node more is filed, and once the last one is filed no more.
use Rattle.std.proofs.Common.{◌≡◌, ℕ, ◌<◌, ◌≤◌, Bool, true, false, List, [], ◌∷◌, ◌++◌, ◌+◌, Option, Some, None, take, length, length-append, zero, suc, refl, sym, ap, ◌∙◌, subst, arith, inl, inr}
use Rattle.std.specs.Prelude.{◌==◌, ◌||◌, ◌&&◌, not, nat_lt, slice_get, if◌then◌else◌, IfSome}
use Rattle.std.specs.Bool.{Decides}
use Rattle.std.specs.Cmp.{unsigned_Decides}
use Rattle.std.proofs.lemmas.Bool.Decides.{nat_tests}
use Rattle.std.proofs.lemmas.Option.{slice_get_within}
use Rattle.frp_base.specs.declared.name.Name.{Name}
use Rattle.frp_base.specs.Name.{name_eq}
use Rattle.frp_base.proofs.Booleans.{and_false, is_false}
use Rattle.frp_graph.specs.declared.trace.Node.{Node}
use Rattle.frp_graph.specs.Links.{are_distinct}
use Rattle.frp_store.specs.declared.edges.Dependents.{Dependents}
use Rattle.frp_store.specs.State.{names, place_in}
use Rattle.frp_store.specs.Places.{PlaceList, ArePlaces, has, with_place, without_place}
use Rattle.frp_store.specs.Dependents.{own_links, watched, is_linked_to, is_watching, is_turned_to, wants}
use Rattle.frp_store.specs.Edges.{joined, left, joined_watcher, left_watcher, filed, unfiled, end_at, HasRoomFor, HasRoomForWatcher, HasSpare, HasSpareForWatcher, HasRoomToFile, HasSpareToFile, depends, depends_on, watches, watches_on, links_to, watches_by, AreListed, AreLinkedBefore, IsWanted}
use Rattle.frp_store.proofs.Rising.{length_with}
use Rattle.frp_store.proofs.Items.{updated_cases, length_updated, pushed_cases, get_pushed, get_past, got}
use Rattle.frp_store.proofs.Ends.{own_links_few, watched_few, ends_found, watched_found, linked_wants, watching_wants, place_more, place_next}
use Rattle.frp_store.proofs.Rewiring.{get_joined, get_left, length_joined, length_left, retested, with_tested, without_tested, joined_fits, left_fits, spare_room}

-- The lists of one node, once a place is put in among those that watch it, or taken out.

pub record IsRewatched (c d : Dependents) (ps : List ℕ) : Type 0 where
  pub watchers : d.watchers.items ≡ ps
  pub room : d.watchers.room ≡ c.watchers.room
  pub nodes : d.nodes ≡ c.nodes

pub get_joined_watcher : (to : Option ℕ) (p e : ℕ) (ds : List Dependents) (d : Dependents) → slice_get (joined_watcher to p ds) e ≡ Some d
    → (c : Dependents) × (slice_get ds e ≡ Some c) × IsRewatched c d (if is_turned_to to e then with_place p c.watchers.items else c.watchers.items)
get_joined_watcher None p e ds d g = (d, g, record { watchers = refl; room = refl; nodes = refl })
get_joined_watcher (Some f) p e ds d g = elim (updated_cases f e (λ (c : Dependents). record c { watchers = record c.watchers { items = with_place p c.watchers.items } }) ds d g) [
  | inl h ↦ (
    h.1,
    h.2,
    let t : f == e ≡ true = (unsigned_Decides f e).1 (sym h.0) in
        record { watchers = ap (λ (z : Dependents). z.watchers.items) h.3 ∙ rw t refl; room = ap (λ (z : Dependents). z.watchers.room) h.3; nodes = ap (λ (z : Dependents). z.nodes) h.3 },
  )
  | inr h ↦ (d, h.1, record { watchers = other (f == e) (unsigned_Decides f e) (λ x. h.0 (sym x)); room = refl; nodes = refl })
]
  where
    other : (b : Bool) → Decides b (f ≡ e) → (f ≡ e → ⊥) → d.watchers.items ≡ (if b then with_place p d.watchers.items else d.watchers.items)
    other true k n = absurd (n (k.0 refl))
    other false k n = refl

pub get_left_watcher : (to : Option ℕ) (p e : ℕ) (ds : List Dependents) (d : Dependents) → slice_get (left_watcher to p ds) e ≡ Some d
    → (c : Dependents) × (slice_get ds e ≡ Some c) × IsRewatched c d (if is_turned_to to e then without_place p c.watchers.items else c.watchers.items)
get_left_watcher None p e ds d g = (d, g, record { watchers = refl; room = refl; nodes = refl })
get_left_watcher (Some f) p e ds d g = elim (updated_cases f e (λ (c : Dependents). record c { watchers = record c.watchers { items = without_place p c.watchers.items } }) ds d g) [
  | inl h ↦ (
    h.1,
    h.2,
    let t : f == e ≡ true = (unsigned_Decides f e).1 (sym h.0) in
        record { watchers = ap (λ (z : Dependents). z.watchers.items) h.3 ∙ rw t refl; room = ap (λ (z : Dependents). z.watchers.room) h.3; nodes = ap (λ (z : Dependents). z.nodes) h.3 },
  )
  | inr h ↦ (d, h.1, record { watchers = other (f == e) (unsigned_Decides f e) (λ x. h.0 (sym x)); room = refl; nodes = refl })
]
  where
    other : (b : Bool) → Decides b (f ≡ e) → (f ≡ e → ⊥) → d.watchers.items ≡ (if b then without_place p d.watchers.items else d.watchers.items)
    other true k n = absurd (n (k.0 refl))
    other false k n = refl

length_joined_watcher : (to : Option ℕ) (p : ℕ) (ds : List Dependents) → length (joined_watcher to p ds) ≡ length ds
length_joined_watcher None p ds = refl
length_joined_watcher (Some e) p ds = length_updated e (λ (c : Dependents). record c { watchers = record c.watchers { items = with_place p c.watchers.items } }) ds

length_left_watcher : (to : Option ℕ) (p : ℕ) (ds : List Dependents) → length (left_watcher to p ds) ≡ length ds
length_left_watcher None p ds = refl
length_left_watcher (Some e) p ds = length_updated e (λ (c : Dependents). record c { watchers = record c.watchers { items = without_place p c.watchers.items } }) ds

pub length_filed : (nodes : List Node) (x : Node) (p : ℕ) (ds : List Dependents) → length (filed nodes x p ds) ≡ length ds
length_filed nodes x p ds =
    length_joined_watcher (end_at nodes (slice_get (watched x.shape) 0)) p (joined (end_at nodes (slice_get (own_links x.shape) 1)) p (joined (end_at nodes (slice_get (own_links x.shape) 0)) p ds))
    ∙ length_joined (end_at nodes (slice_get (own_links x.shape) 1)) p (joined (end_at nodes (slice_get (own_links x.shape) 0)) p ds)
    ∙ length_joined (end_at nodes (slice_get (own_links x.shape) 0)) p ds

pub length_unfiled : (nodes : List Node) (x : Node) (p : ℕ) (ds : List Dependents) → length (unfiled nodes x p ds) ≡ length ds
length_unfiled nodes x p ds =
    length_left_watcher (end_at nodes (slice_get (watched x.shape) 0)) p (left (end_at nodes (slice_get (own_links x.shape) 1)) p (left (end_at nodes (slice_get (own_links x.shape) 0)) p ds))
    ∙ length_left (end_at nodes (slice_get (own_links x.shape) 1)) p (left (end_at nodes (slice_get (own_links x.shape) 0)) p ds)
    ∙ length_left (end_at nodes (slice_get (own_links x.shape) 0)) p ds

-- room is as it was
pub filed_room : (nodes : List Node) (x : Node) (p : ℕ) (ds : List Dependents) (e : ℕ) (d : Dependents) → slice_get (filed nodes x p ds) e ≡ Some d
    → (c : Dependents) × (slice_get ds e ≡ Some c) × (d.nodes.room ≡ c.nodes.room)
filed_room nodes x p ds e d g =
    let first = end_at nodes (slice_get (own_links x.shape) 0) in
    let second = end_at nodes (slice_get (own_links x.shape) 1) in
    let w = get_joined_watcher (end_at nodes (slice_get (watched x.shape) 0)) p e (joined second p (joined first p ds)) d g in
    let s = get_joined second p e (joined first p ds) w.0 w.1 in
    let f = get_joined first p e ds s.0 s.1 in
    (f.0, f.1, ap (λ (l : PlaceList). l.room) w.2.nodes ∙ s.2.room ∙ f.2.room)

get_other : {A : Type 0} (xs : List A) (x : A) (q : ℕ) → (q ≡ length xs → ⊥) → slice_get (xs ++ x ∷ []) q ≡ slice_get xs q
get_other [] x zero d = absurd (d refl)
get_other [] x (suc q) d = refl
get_other (y ∷ xs) x zero d = refl
get_other (y ∷ xs) x (suc q) d = get_other xs x q (λ e. d (ap suc e))

-- Room for a place that is put in twice.

not_below : (p : ℕ) → nat_lt p p ≡ false
not_below p = is_false (nat_lt p p) (λ t. let l : p < p = grind (arith, nat_tests) in omega arith)

is_itself : (p : ℕ) → p == p ≡ true
is_itself p = (unsigned_Decides p p).1 refl

pub with_twice : (p : ℕ) (qs : List ℕ) → with_place p (with_place p qs) ≡ with_place p qs
with_twice p [] = rw (not_below p, is_itself p) refl
with_twice p (q ∷ qs) = by (nat_lt q p) refl (q == p) refl (with_twice p qs) where
  by : (l : Bool) → nat_lt q p ≡ l → (e : Bool) → q == p ≡ e → with_place p (with_place p qs) ≡ with_place p qs
      → with_place p (if l then q ∷ with_place p qs else (if e then q ∷ qs else p ∷ q ∷ qs)) ≡ (if l then q ∷ with_place p qs else (if e then q ∷ qs else p ∷ q ∷ qs))
  by true a e b h = rw a (ap (λ w. q ∷ w) h)
  by false a true b h = rw (a, b) refl
  by false a false b h = rw (not_below p, is_itself p) refl

spare_after : (to first : Option ℕ) (p : ℕ) (ds : List Dependents) → HasSpare to ds → HasRoomFor to p (joined first p ds)
spare_after None first p ds h = tt
spare_after (Some e) first p ds h = λ d g.
    let i = get_joined first p e ds d g in
    let s = h i.0 i.1 in
    let m = by (is_turned_to first e) i.0 in
    let a : length (with_place p d.nodes.items) ≡ length (with_place p (if is_turned_to first e then with_place p i.0.nodes.items else i.0.nodes.items)) = ap (λ ps. length (with_place p ps)) i.2.nodes in
    let b = i.2.room in
    omega arith
  where
    by : (c : Bool) (z : Dependents) → length (with_place p (if c then with_place p z.nodes.items else z.nodes.items)) ≤ suc (length z.nodes.items)
    by true z = let t = ap length (with_twice p z.nodes.items) in let l = length_with p z.nodes.items in omega arith
    by false z = length_with p z.nodes.items

spare_beside : (to second first : Option ℕ) (p : ℕ) (ds : List Dependents) → HasSpareForWatcher to ds → HasRoomForWatcher to p (joined second p (joined first p ds))
spare_beside None second first p ds h = tt
spare_beside (Some e) second first p ds h = λ d g.
    let s = get_joined second p e (joined first p ds) d g in
    let f = get_joined first p e ds s.0 s.1 in
    let spare = h f.0 f.1 in
    subst (λ (l : PlaceList). length (with_place p l.items) ≤ l.room) (sym (s.2.watchers ∙ f.2.watchers)) (let l = length_with p f.0.watchers.items in omega arith)

-- what depends on a node, or watches it, is a node
on_none : (y : Option Node) (t : Option (Option ℕ)) (e : ℕ) → depends_on y None t e ≡ false
on_none None t e = refl
on_none (Some y) t e = refl

watch_none : (y : Option Node) → watches_on y None ≡ false
watch_none None = refl
watch_none (Some y) = refl

-- A node more, and where it is turned.
module _ (nodes : List Node) (targets : List (Option ℕ)) (x : Node) (to : Option ℕ) (same : length targets ≡ length nodes) where
  pub depends_same : (e r : ℕ) → (e ≡ length nodes → ⊥) → (r ≡ length nodes → ⊥) → depends (nodes ++ x ∷ []) (targets ++ to ∷ []) e r ≡ depends nodes targets e r
  depends_same e r d f =
      ap (λ o. depends_on o (slice_get (nodes ++ x ∷ []) r) (slice_get (targets ++ to ∷ []) r) e) (get_other nodes x e d)
      ∙ ap (λ o. depends_on (slice_get nodes e) o (slice_get (targets ++ to ∷ []) r) e) (get_other nodes x r f)
      ∙ ap (λ o. depends_on (slice_get nodes e) (slice_get nodes r) o e) (get_other targets to r (λ h. f (h ∙ same)))

  pub watches_same : (e r : ℕ) → (e ≡ length nodes → ⊥) → (r ≡ length nodes → ⊥) → watches (nodes ++ x ∷ []) e r ≡ watches nodes e r
  watches_same e r d f =
      ap (λ o. watches_on o (slice_get (nodes ++ x ∷ []) r)) (get_other nodes x e d) ∙ ap (watches_on (slice_get nodes e)) (get_other nodes x r f)

  pub depends_none : (e r : ℕ) → r ≡ length nodes → depends nodes targets e r ≡ false
  depends_none e r h =
      ap (λ o. depends_on (slice_get nodes e) o (slice_get targets r) e) (get_past nodes r (let g = h in omega arith)) ∙ on_none (slice_get nodes e) (slice_get targets r) e

  pub watches_none : (e r : ℕ) → r ≡ length nodes → watches nodes e r ≡ false
  watches_none e r h = ap (watches_on (slice_get nodes e)) (get_past nodes r (let g = h in omega arith)) ∙ watch_none (slice_get nodes e)

  -- the last node depends on that of a place by its shape, or as it is turned
  pub depends_last : (e r : ℕ) (y : Node) → r ≡ length nodes → slice_get (nodes ++ x ∷ []) e ≡ Some y
      → depends (nodes ++ x ∷ []) (targets ++ to ∷ []) e r ≡ (is_linked_to x.shape y.name || is_turned_to to e)
  depends_last e r y h g =
      ap (λ o. depends_on o (slice_get (nodes ++ x ∷ []) r) (slice_get (targets ++ to ∷ []) r) e) g
      ∙ ap (λ o. depends_on (Some y) o (slice_get (targets ++ to ∷ []) r) e) (ap (slice_get (nodes ++ x ∷ [])) h ∙ get_pushed nodes x)
      ∙ ap (λ o. depends_on (Some y) (Some x) o e) (ap (slice_get (targets ++ to ∷ [])) (h ∙ sym same) ∙ get_pushed targets to)

  pub watches_last : (e r : ℕ) (y : Node) → r ≡ length nodes → slice_get (nodes ++ x ∷ []) e ≡ Some y → watches (nodes ++ x ∷ []) e r ≡ is_watching x.shape y.name
  watches_last e r y h g =
      ap (λ o. watches_on o (slice_get (nodes ++ x ∷ []) r)) g ∙ ap (watches_on (Some y)) (ap (slice_get (nodes ++ x ∷ [])) h ∙ get_pushed nodes x)

-- A node more, of which those that were linked to its name before are known.
module _ (nodes : List Node) (targets : List (Option ℕ)) (x : Node) (ds : List Dependents) (b : Dependents) (wanting : List ℕ) (listed : AreListed ds nodes targets)
    (same : length targets ≡ length nodes) (aims : (r : ℕ) (t : Option ℕ) → slice_get targets r ≡ Some t → IfSome t (λ q. q < length nodes))
    (new : place_in nodes x.name ≡ None) (wanted : IsWanted wanting nodes) (before : AreLinkedBefore nodes wanting x.name b) where
  p : ℕ
  p = length nodes

  within : (e : ℕ) (d : Dependents) → slice_get ds e ≡ Some d → e ≡ length nodes → ⊥
  within e d g h =
      let none : slice_get ds e ≡ None = get_past ds e (let c = listed.count in let k = h in omega arith) in
      absurd cc

  not_turned : (t : Option ℕ) → IfSome t (λ q. q < length nodes) → is_turned_to t (length nodes) ≡ false
  not_turned None a = refl
  not_turned (Some q) a = by (q == length nodes) (unsigned_Decides q (length nodes)) where
    by : (c : Bool) → Decides c (q ≡ length nodes) → c ≡ false
    by true k = absurd (let h = k.0 refl in let l : q < length nodes = a in omega arith)
    by false k = refl

  -- on an older node
  old_depends : (e r : ℕ) → (e ≡ length nodes → ⊥) → depends nodes targets e r ≡ (not (length nodes == r) && depends (nodes ++ x ∷ []) (targets ++ None ∷ []) e r)
  old_depends e r d = by (length nodes == r) (unsigned_Decides (length nodes) r) where
    by : (c : Bool) → Decides c (length nodes ≡ r) → depends nodes targets e r ≡ (not c && depends (nodes ++ x ∷ []) (targets ++ None ∷ []) e r)
    by true k = depends_none nodes targets x None same e r (sym (k.0 refl))
    by false k = sym (depends_same nodes targets x None same e r d (λ h. let t : false ≡ true = k.1 (sym h) in absurd cc))

  old_watches : (e r : ℕ) → (e ≡ length nodes → ⊥) → watches nodes e r ≡ (not (length nodes == r) && watches (nodes ++ x ∷ []) e r)
  old_watches e r d = by (length nodes == r) (unsigned_Decides (length nodes) r) where
    by : (c : Bool) → Decides c (length nodes ≡ r) → watches nodes e r ≡ (not c && watches (nodes ++ x ∷ []) e r)
    by true k = watches_none nodes targets x None same e r (sym (k.0 refl))
    by false k = sym (watches_same nodes targets x None same e r d (λ h. let t : false ≡ true = k.1 (sym h) in absurd cc))

  -- on the new one
  new_depends : (e r : ℕ) → e ≡ length nodes → (has wanting r && links_to (slice_get nodes r) x.name) ≡ (not (length nodes == r) && depends (nodes ++ x ∷ []) (targets ++ None ∷ []) e r)
  new_depends e r i = by (length nodes == r) (unsigned_Decides (length nodes) r) where
    test : (z : Node) (t : Option ℕ) → slice_get nodes r ≡ Some z → slice_get targets r ≡ Some t → (c : Bool) → is_linked_to z.shape x.name ≡ c
        → (has wanting r && c) ≡ (c || is_turned_to t (length nodes))
    test z t q u true l = rw (wanted r z q (linked_wants nodes x.name z.shape new l)) refl
    test z t q u false l = and_false (has wanting r) ∙ sym (not_turned t (aims r t u))

    item : (o : Option Node) (t : Option (Option ℕ)) → slice_get nodes r ≡ o → slice_get targets r ≡ t → (has wanting r && links_to o x.name) ≡ depends_on (Some x) o t (length nodes)
    item None t q u = and_false (has wanting r)
    item (Some z) None q u =
        absurd (let at = got targets r (let w = slice_inside nodes r z q in let s = same in omega arith) in let n : Some at.0 ≡ None = sym at.1 ∙ u in cc)
      where
        slice_inside : (xs : List Node) (i : ℕ) (z : Node) → slice_get xs i ≡ Some z → i < length xs
        slice_inside [] i z g = absurd cc
        slice_inside (y ∷ xs) zero z g = omega arith
        slice_inside (y ∷ xs) (suc i) z g = let h = slice_inside xs i z g in omega arith
    item (Some z) (Some t) q u = test z t q u (is_linked_to z.shape x.name) refl

    by : (c : Bool) → Decides c (length nodes ≡ r) → (has wanting r && links_to (slice_get nodes r) x.name) ≡ (not c && depends (nodes ++ x ∷ []) (targets ++ None ∷ []) e r)
    by true k = ap (λ o. has wanting r && links_to o x.name) (get_past nodes r (let h = k.0 refl in omega arith)) ∙ and_false (has wanting r)
    by false k =
        let d : r ≡ length nodes → ⊥ = (λ h. let t : false ≡ true = k.1 (sym h) in absurd cc) in
        item (slice_get nodes r) (slice_get targets r) refl refl
        ∙ sym (ap (λ o. depends_on o (slice_get (nodes ++ x ∷ []) r) (slice_get (targets ++ None ∷ []) r) e) (ap (slice_get (nodes ++ x ∷ [])) i ∙ get_pushed nodes x)
        ∙ ap (λ o. depends_on (Some x) o (slice_get (targets ++ None ∷ []) r) e) (get_other nodes x r d)
        ∙ ap (λ o. depends_on (Some x) (slice_get nodes r) o e) (get_other targets None r (λ h. d (h ∙ same)))
        ∙ ap (depends_on (Some x) (slice_get nodes r) (slice_get targets r)) i)

  new_watches : (e r : ℕ) → e ≡ length nodes → (has wanting r && watches_by (slice_get nodes r) x.name) ≡ (not (length nodes == r) && watches (nodes ++ x ∷ []) e r)
  new_watches e r i = by (length nodes == r) (unsigned_Decides (length nodes) r) where
    test : (z : Node) → slice_get nodes r ≡ Some z → (c : Bool) → is_watching z.shape x.name ≡ c → (has wanting r && c) ≡ c
    test z q true l = rw (wanted r z q (watching_wants nodes x.name z.shape new l)) refl
    test z q false l = and_false (has wanting r)

    item : (o : Option Node) → slice_get nodes r ≡ o → (has wanting r && watches_by o x.name) ≡ watches_on (Some x) o
    item None q = and_false (has wanting r)
    item (Some z) q = test z q (is_watching z.shape x.name) refl

    by : (c : Bool) → Decides c (length nodes ≡ r) → (has wanting r && watches_by (slice_get nodes r) x.name) ≡ (not c && watches (nodes ++ x ∷ []) e r)
    by true k = ap (λ o. has wanting r && watches_by o x.name) (get_past nodes r (let h = k.0 refl in omega arith)) ∙ and_false (has wanting r)
    by false k =
        let d : r ≡ length nodes → ⊥ = (λ h. let t : false ≡ true = k.1 (sym h) in absurd cc) in
        item (slice_get nodes r) refl
        ∙ sym (ap (λ o. watches_on o (slice_get (nodes ++ x ∷ []) r)) (ap (slice_get (nodes ++ x ∷ [])) i ∙ get_pushed nodes x) ∙ ap (watches_on (Some x)) (get_other nodes x r d))

  -- before the node is filed
  pub pushed_nodes : (e : ℕ) (d : Dependents) → slice_get (ds ++ b ∷ []) e ≡ Some d
      → ArePlaces d.nodes.items (λ r. not (length nodes == r) && depends (nodes ++ x ∷ []) (targets ++ None ∷ []) e r)
  pushed_nodes e d g = elim (pushed_cases ds b d e g) [
    | inl h ↦ retested _ _ _ (λ r. old_depends e r (within e d h)) (listed.nodes e d h)
    | inr h ↦ subst (λ (z : Dependents). ArePlaces z.nodes.items (λ r. not (length nodes == r) && depends (nodes ++ x ∷ []) (targets ++ None ∷ []) e r)) (sym h.1)
        (retested _ _ _ (λ r. new_depends e r (h.0 ∙ listed.count)) before.nodes)
  ]

  pub pushed_watchers : (e : ℕ) (d : Dependents) → slice_get (ds ++ b ∷ []) e ≡ Some d
      → ArePlaces d.watchers.items (λ r. not (length nodes == r) && watches (nodes ++ x ∷ []) e r)
  pushed_watchers e d g = elim (pushed_cases ds b d e g) [
    | inl h ↦ retested _ _ _ (λ r. old_watches e r (within e d h)) (listed.watchers e d h)
    | inr h ↦ subst (λ (z : Dependents). ArePlaces z.watchers.items (λ r. not (length nodes == r) && watches (nodes ++ x ∷ []) e r)) (sym h.1)
        (retested _ _ _ (λ r. new_watches e r (h.0 ∙ listed.count)) before.watchers)
  ]

  pub pushed_fits : (e : ℕ) (d : Dependents) → slice_get (ds ++ b ∷ []) e ≡ Some d → length d.nodes.items ≤ d.nodes.room
  pushed_fits e d g = elim (pushed_cases ds b d e g) [
    | inl h ↦ listed.fits e d h
    | inr h ↦ subst (λ (z : Dependents). length z.nodes.items ≤ z.nodes.room) (sym h.1) (let s = before.spare in omega arith)
  ]

  pub count_pushed : length (ds ++ b ∷ []) ≡ length (nodes ++ x ∷ [])
  count_pushed = length-append ds (b ∷ []) ∙ ap (λ n. n + 1) listed.count ∙ sym (length-append nodes (x ∷ []))

  -- the node is filed
  file_places : (s f : Bool) (e r : ℕ) (y : Node) → slice_get (nodes ++ x ∷ []) e ≡ Some y → s || f ≡ is_linked_to x.shape y.name
      → (s && length nodes == r) || ((f && length nodes == r) || (not (length nodes == r) && depends (nodes ++ x ∷ []) (targets ++ None ∷ []) e r))
      ≡ depends (nodes ++ x ∷ []) (targets ++ None ∷ []) e r
  file_places s f e r y g h = by (length nodes == r) (unsigned_Decides (length nodes) r) where
    here : (s f : Bool) → (s && true) || ((f && true) || false) ≡ (s || f) || false
    here true true = refl
    here true false = refl
    here false true = refl
    here false false = refl

    there : (s f d : Bool) → (s && false) || ((f && false) || d) ≡ d
    there true true d = refl
    there true false d = refl
    there false true d = refl
    there false false d = refl

    by : (c : Bool) → Decides c (length nodes ≡ r) → (s && c) || ((f && c) || (not c && depends (nodes ++ x ∷ []) (targets ++ None ∷ []) e r)) ≡ depends (nodes ++ x ∷ []) (targets ++ None ∷ []) e r
    by true k = here s f ∙ ap (λ c. c || false) h ∙ sym (depends_last nodes targets x None same e r y (sym (k.0 refl)) g)
    by false k = there s f (depends (nodes ++ x ∷ []) (targets ++ None ∷ []) e r)

  watch_places : (s : Bool) (e r : ℕ) (y : Node) → slice_get (nodes ++ x ∷ []) e ≡ Some y → s ≡ is_watching x.shape y.name
      → (s && length nodes == r) || (not (length nodes == r) && watches (nodes ++ x ∷ []) e r) ≡ watches (nodes ++ x ∷ []) e r
  watch_places s e r y g h = by (length nodes == r) (unsigned_Decides (length nodes) r) where
    here : (s : Bool) → (s && true) || false ≡ s
    here true = refl
    here false = refl

    there : (s d : Bool) → (s && false) || d ≡ d
    there true d = refl
    there false d = refl

    by : (c : Bool) → Decides c (length nodes ≡ r) → (s && c) || (not c && watches (nodes ++ x ∷ []) e r) ≡ watches (nodes ++ x ∷ []) e r
    by true k = here s ∙ h ∙ sym (watches_last nodes targets x None same e r y (sym (k.0 refl)) g)
    by false k = there s (watches (nodes ++ x ∷ []) e r)

  inside_pushed : (e : ℕ) (d : Dependents) → slice_get (ds ++ b ∷ []) e ≡ Some d → e < length (nodes ++ x ∷ [])
  inside_pushed e d g = subst (λ n. e < n) count_pushed (slice_get_within (ds ++ b ∷ []) e d g)

  pub filed_nodes : are_distinct (names (nodes ++ x ∷ [])) ≡ true → (e : ℕ) (d : Dependents) → slice_get (filed (nodes ++ x ∷ []) x (length nodes) (ds ++ b ∷ [])) e ≡ Some d
      → ArePlaces d.nodes.items (depends (nodes ++ x ∷ []) (targets ++ None ∷ []) e)
  filed_nodes u e d g =
      let all = nodes ++ x ∷ [] in
      let first = end_at all (slice_get (own_links x.shape) 0) in
      let second = end_at all (slice_get (own_links x.shape) 1) in
      let w = get_joined_watcher (end_at all (slice_get (watched x.shape) 0)) (length nodes) e (joined second (length nodes) (joined first (length nodes) (ds ++ b ∷ []))) d g in
      let s = get_joined second (length nodes) e (joined first (length nodes) (ds ++ b ∷ [])) w.0 w.1 in
      let f = get_joined first (length nodes) e (ds ++ b ∷ []) s.0 s.1 in
      let y = got all e (inside_pushed e f.0 f.1) in
      let one = with_tested (is_turned_to first e) (length nodes) f.0.nodes.items _ (pushed_nodes e f.0 f.1) in
      let two = with_tested (is_turned_to second e) (length nodes) _ _ one in
      subst (λ ps. ArePlaces ps (depends all (targets ++ None ∷ []) e))
      (sym (ap (λ (l : PlaceList). l.items) w.2.nodes ∙ s.2.nodes ∙ ap (λ ps. if is_turned_to second e then with_place (length nodes) ps else ps) f.2.nodes))
      (retested _ _ _ (λ r. file_places (is_turned_to second e) (is_turned_to first e) e r y.0 y.1 (ends_found all e y.0 (own_links x.shape) (own_links_few x.shape) u y.1)) two)

  pub filed_watchers : are_distinct (names (nodes ++ x ∷ [])) ≡ true → (e : ℕ) (d : Dependents) → slice_get (filed (nodes ++ x ∷ []) x (length nodes) (ds ++ b ∷ [])) e ≡ Some d
      → ArePlaces d.watchers.items (watches (nodes ++ x ∷ []) e)
  filed_watchers u e d g =
      let all = nodes ++ x ∷ [] in
      let first = end_at all (slice_get (own_links x.shape) 0) in
      let second = end_at all (slice_get (own_links x.shape) 1) in
      let own = end_at all (slice_get (watched x.shape) 0) in
      let w = get_joined_watcher own (length nodes) e (joined second (length nodes) (joined first (length nodes) (ds ++ b ∷ []))) d g in
      let s = get_joined second (length nodes) e (joined first (length nodes) (ds ++ b ∷ [])) w.0 w.1 in
      let f = get_joined first (length nodes) e (ds ++ b ∷ []) s.0 s.1 in
      let y = got all e (inside_pushed e f.0 f.1) in
      let one = with_tested (is_turned_to own e) (length nodes) f.0.watchers.items _ (pushed_watchers e f.0 f.1) in
      subst (λ ps. ArePlaces ps (watches all e))
      (sym (w.2.watchers ∙ ap (λ (l : PlaceList). if is_turned_to own e then with_place (length nodes) l.items else l.items) (s.2.watchers ∙ f.2.watchers)))
      (retested _ _ _ (λ r. watch_places (is_turned_to own e) e r y.0 y.1 (watched_found all e y.0 (watched x.shape) (watched_few x.shape) u y.1)) one)

  pub filed_listed : are_distinct (names (nodes ++ x ∷ [])) ≡ true → HasRoomToFile (nodes ++ x ∷ []) x (length nodes) (ds ++ b ∷ [])
      → AreListed (filed (nodes ++ x ∷ []) x (length nodes) (ds ++ b ∷ [])) (nodes ++ x ∷ []) (targets ++ None ∷ [])
  filed_listed u room = record {
    count = length_filed (nodes ++ x ∷ []) x (length nodes) (ds ++ b ∷ []) ∙ count_pushed;
    nodes = filed_nodes u;
    watchers = filed_watchers u;
    fits = λ e d g.
        let all = nodes ++ x ∷ [] in
        let first = end_at all (slice_get (own_links x.shape) 0) in
        let second = end_at all (slice_get (own_links x.shape) 1) in
        let w = get_joined_watcher (end_at all (slice_get (watched x.shape) 0)) (length nodes) e (joined second (length nodes) (joined first (length nodes) (ds ++ b ∷ []))) d g in
        subst (λ (l : PlaceList). length l.items ≤ l.room) (sym w.2.nodes)
        (joined_fits second (length nodes) (joined first (length nodes) (ds ++ b ∷ [])) (joined_fits first (length nodes) (ds ++ b ∷ []) pushed_fits room.first) room.second e w.0 w.1);
  }

  -- room to file it
  spare_pushed : (n : Option Name) → HasSpare (end_at nodes n) ds → HasSpare (end_at (nodes ++ x ∷ []) n) (ds ++ b ∷ [])
  spare_pushed None h = tt
  spare_pushed (Some m) h = by (place_in nodes m) refl h where
    at_end : (c : Bool) → HasSpare (if c then Some (length nodes) else None) (ds ++ b ∷ [])
    at_end true = λ d g.
        let here : Some b ≡ Some d = sym (get_pushed ds b) ∙ ap (slice_get (ds ++ b ∷ [])) listed.count ∙ g in
        let e : b ≡ d = cc in
        subst (λ (z : Dependents). length z.nodes.items < z.nodes.room) e before.spare
    at_end false = tt

    by : (o : Option ℕ) → place_in nodes m ≡ o → HasSpare o ds → HasSpare (place_in (nodes ++ x ∷ []) m) (ds ++ b ∷ [])
    by None q h = subst (λ z. HasSpare z (ds ++ b ∷ [])) (sym (place_next nodes x m q)) (at_end (name_eq x.name m))
    by (Some i) q h = subst (λ z. HasSpare z (ds ++ b ∷ [])) (sym (place_more nodes x m i q)) (λ d g. elim (pushed_cases ds b d i g) [
      | inl j ↦ h d j
      | inr j ↦ subst (λ (z : Dependents). length z.nodes.items < z.nodes.room) (sym j.1) before.spare
    ])

  spare_watcher_pushed : (n : Option Name) → HasSpareForWatcher (end_at nodes n) ds → HasSpareForWatcher (end_at (nodes ++ x ∷ []) n) (ds ++ b ∷ [])
  spare_watcher_pushed None h = tt
  spare_watcher_pushed (Some m) h = by (place_in nodes m) refl h where
    at_end : (c : Bool) → HasSpareForWatcher (if c then Some (length nodes) else None) (ds ++ b ∷ [])
    at_end true = λ d g.
        let here : Some b ≡ Some d = sym (get_pushed ds b) ∙ ap (slice_get (ds ++ b ∷ [])) listed.count ∙ g in
        let e : b ≡ d = cc in
        subst (λ (z : Dependents). length z.watchers.items < z.watchers.room) e before.watcher_spare
    at_end false = tt

    by : (o : Option ℕ) → place_in nodes m ≡ o → HasSpareForWatcher o ds → HasSpareForWatcher (place_in (nodes ++ x ∷ []) m) (ds ++ b ∷ [])
    by None q h = subst (λ z. HasSpareForWatcher z (ds ++ b ∷ [])) (sym (place_next nodes x m q)) (at_end (name_eq x.name m))
    by (Some i) q h = subst (λ z. HasSpareForWatcher z (ds ++ b ∷ [])) (sym (place_more nodes x m i q)) (λ d g. elim (pushed_cases ds b d i g) [
      | inl j ↦ h d j
      | inr j ↦ subst (λ (z : Dependents). length z.watchers.items < z.watchers.room) (sym j.1) before.watcher_spare
    ])

  pub file_room : HasSpareToFile nodes x ds → HasRoomToFile (nodes ++ x ∷ []) x (length nodes) (ds ++ b ∷ [])
  file_room h =
      let all = nodes ++ x ∷ [] in
      let first = end_at all (slice_get (own_links x.shape) 0) in
      let second = end_at all (slice_get (own_links x.shape) 1) in
      record {
        first = spare_room first None (length nodes) (ds ++ b ∷ []) (spare_pushed (slice_get (own_links x.shape) 0) h.first);
        second = spare_after second first (length nodes) (ds ++ b ∷ []) (spare_pushed (slice_get (own_links x.shape) 1) h.second);
        watching = spare_beside (end_at all (slice_get (watched x.shape) 0)) second first (length nodes) (ds ++ b ∷ []) (spare_watcher_pushed (slice_get (watched x.shape) 0) h.watching);
      }

-- The last node is filed no more.

get_taken : {A : Type 0} (n : ℕ) (xs : List A) (e : ℕ) (z : A) → slice_get (take n xs) e ≡ Some z → (e < n) × (slice_get xs e ≡ Some z)
get_taken zero xs e z g = absurd cc
get_taken (suc n) [] e z g = absurd cc
get_taken (suc n) (x ∷ xs) zero z g = (omega arith, g)
get_taken (suc n) (x ∷ xs) (suc e) z g = let h = get_taken n xs e z g in ((let l = h.0 in omega arith), h.1)

length_taken : {A : Type 0} (n : ℕ) (xs : List A) → n ≤ length xs → length (take n xs) ≡ n
length_taken zero xs l = refl
length_taken (suc n) [] l = absurd (omega arith)
length_taken (suc n) (x ∷ xs) l = ap suc (length_taken n xs (omega arith))

module _ (nodes : List Node) (targets : List (Option ℕ)) (x : Node) (to : Option ℕ) (ds : List Dependents) (same : length targets ≡ length nodes)
    (listed : AreListed ds (nodes ++ x ∷ []) (targets ++ to ∷ [])) (once : are_distinct (names (nodes ++ x ∷ [])) ≡ true) where
  unfile_places : (s f t : Bool) (e r : ℕ) (y : Node) → (e ≡ length nodes → ⊥) → slice_get (nodes ++ x ∷ []) e ≡ Some y → s || f ≡ is_linked_to x.shape y.name → t ≡ is_turned_to to e
      → not (s && length nodes == r) && (not (f && length nodes == r) && (not (t && length nodes == r) && depends (nodes ++ x ∷ []) (targets ++ to ∷ []) e r)) ≡ depends nodes targets e r
  unfile_places s f t e r y d g h i = by (length nodes == r) (unsigned_Decides (length nodes) r) where
    here : (s f t : Bool) → not (s && true) && (not (f && true) && (not (t && true) && ((s || f) || t))) ≡ false
    here true f t = refl
    here false true t = refl
    here false false true = refl
    here false false false = refl

    there : (s f t d : Bool) → not (s && false) && (not (f && false) && (not (t && false) && d)) ≡ d
    there true true true d = refl
    there true true false d = refl
    there true false true d = refl
    there true false false d = refl
    there false true true d = refl
    there false true false d = refl
    there false false true d = refl
    there false false false d = refl

    by : (c : Bool) → Decides c (length nodes ≡ r)
        → not (s && c) && (not (f && c) && (not (t && c) && depends (nodes ++ x ∷ []) (targets ++ to ∷ []) e r)) ≡ depends nodes targets e r
    by true k =
        let last = sym (k.0 refl) in
        ap (λ z. not (s && true) && (not (f && true) && (not (t && true) && z)))
        (depends_last nodes targets x to same e r y last g ∙ ap (λ c. c || is_turned_to to e) (sym h) ∙ ap (λ c. (s || f) || c) (sym i))
        ∙ here s f t ∙ sym (depends_none nodes targets x to same e r last)
    by false k =
        there s f t (depends (nodes ++ x ∷ []) (targets ++ to ∷ []) e r)
        ∙ depends_same nodes targets x to same e r d (λ q. let t : false ≡ true = k.1 (sym q) in absurd cc)

  unwatch_places : (s : Bool) (e r : ℕ) (y : Node) → (e ≡ length nodes → ⊥) → slice_get (nodes ++ x ∷ []) e ≡ Some y → s ≡ is_watching x.shape y.name
      → not (s && length nodes == r) && watches (nodes ++ x ∷ []) e r ≡ watches nodes e r
  unwatch_places s e r y d g h = by (length nodes == r) (unsigned_Decides (length nodes) r) where
    here : (s : Bool) → not (s && true) && s ≡ false
    here true = refl
    here false = refl

    there : (s d : Bool) → not (s && false) && d ≡ d
    there true d = refl
    there false d = refl

    by : (c : Bool) → Decides c (length nodes ≡ r) → not (s && c) && watches (nodes ++ x ∷ []) e r ≡ watches nodes e r
    by true k =
        let last = sym (k.0 refl) in
        ap (λ z. not (s && true) && z) (watches_last nodes targets x to same e r y last g ∙ sym h) ∙ here s ∙ sym (watches_none nodes targets x to same e r last)
    by false k = there s (watches (nodes ++ x ∷ []) e r) ∙ watches_same nodes targets x to same e r d (λ q. let t : false ≡ true = k.1 (sym q) in absurd cc)

  pub unfiled_listed : AreListed (take (length nodes) (unfiled (nodes ++ x ∷ []) x (length nodes) (left to (length nodes) ds))) nodes targets
  unfiled_listed = record {
    count = length_taken (length nodes) (unfiled (nodes ++ x ∷ []) x (length nodes) (left to (length nodes) ds)) (let n = many in omega arith);
    nodes = λ e d g.
        let i = get_taken (length nodes) (unfiled (nodes ++ x ∷ []) x (length nodes) (left to (length nodes) ds)) e d g in
        let w = get_left_watcher own (length nodes) e (left second (length nodes) (left first (length nodes) (left to (length nodes) ds))) d i.1 in
        let s = get_left second (length nodes) e (left first (length nodes) (left to (length nodes) ds)) w.0 w.1 in
        let f = get_left first (length nodes) e (left to (length nodes) ds) s.0 s.1 in
        let t = get_left to (length nodes) e ds f.0 f.1 in
        let y = got (nodes ++ x ∷ []) e (let l = i.0 in let m = length-append nodes (x ∷ []) in omega arith) in
        let one = without_tested (is_turned_to to e) (length nodes) t.0.nodes.items _ (listed.nodes e t.0 t.1) in
        let two = without_tested (is_turned_to first e) (length nodes) _ _ one in
        let three = without_tested (is_turned_to second e) (length nodes) _ _ two in
        subst (λ ps. ArePlaces ps (depends nodes targets e))
        (sym (ap (λ (l : PlaceList). l.items) w.2.nodes ∙ s.2.nodes ∙ ap (λ ps. if is_turned_to second e then without_place (length nodes) ps else ps) f.2.nodes
        ∙ ap (λ ps. if is_turned_to second e then without_place (length nodes) (if is_turned_to first e then without_place (length nodes) ps else ps) else (if is_turned_to first e then without_place (length nodes) ps else ps)) t.2.nodes))
        (retested _ _ _
        (λ r. unfile_places (is_turned_to second e) (is_turned_to first e) (is_turned_to to e) e r y.0 (λ h. let l = i.0 in omega arith) y.1
        (ends_found (nodes ++ x ∷ []) e y.0 (own_links x.shape) (own_links_few x.shape) once y.1) refl) three);
    watchers = λ e d g.
        let i = get_taken (length nodes) (unfiled (nodes ++ x ∷ []) x (length nodes) (left to (length nodes) ds)) e d g in
        let w = get_left_watcher own (length nodes) e (left second (length nodes) (left first (length nodes) (left to (length nodes) ds))) d i.1 in
        let s = get_left second (length nodes) e (left first (length nodes) (left to (length nodes) ds)) w.0 w.1 in
        let f = get_left first (length nodes) e (left to (length nodes) ds) s.0 s.1 in
        let t = get_left to (length nodes) e ds f.0 f.1 in
        let y = got (nodes ++ x ∷ []) e (let l = i.0 in let m = length-append nodes (x ∷ []) in omega arith) in
        let one = without_tested (is_turned_to own e) (length nodes) t.0.watchers.items _ (listed.watchers e t.0 t.1) in
        subst (λ ps. ArePlaces ps (watches nodes e))
        (sym (w.2.watchers ∙ ap (λ (l : PlaceList). if is_turned_to own e then without_place (length nodes) l.items else l.items) (s.2.watchers ∙ f.2.watchers ∙ t.2.watchers)))
        (retested _ _ _
        (λ r. unwatch_places (is_turned_to own e) e r y.0 (λ h. let l = i.0 in omega arith) y.1
        (watched_found (nodes ++ x ∷ []) e y.0 (watched x.shape) (watched_few x.shape) once y.1)) one);
    fits = λ e d g.
        let i = get_taken (length nodes) (unfiled (nodes ++ x ∷ []) x (length nodes) (left to (length nodes) ds)) e d g in
        let w = get_left_watcher own (length nodes) e (left second (length nodes) (left first (length nodes) (left to (length nodes) ds))) d i.1 in
        subst (λ (l : PlaceList). length l.items ≤ l.room) (sym w.2.nodes)
        (left_fits second (length nodes) (left first (length nodes) (left to (length nodes) ds))
        (left_fits first (length nodes) (left to (length nodes) ds) (left_fits to (length nodes) ds listed.fits)) e w.0 w.1);
  }
    where
      first : Option ℕ
      first = end_at (nodes ++ x ∷ []) (slice_get (own_links x.shape) 0)

      second : Option ℕ
      second = end_at (nodes ++ x ∷ []) (slice_get (own_links x.shape) 1)

      own : Option ℕ
      own = end_at (nodes ++ x ∷ []) (slice_get (watched x.shape) 0)

      many : length nodes ≤ length (unfiled (nodes ++ x ∷ []) x (length nodes) (left to (length nodes) ds))
      many =
          let a = length_unfiled (nodes ++ x ∷ []) x (length nodes) (left to (length nodes) ds) in
          let b = length_left to (length nodes) ds in
          let c = listed.count in
          let n = length-append nodes (x ∷ []) in
          omega arith

  -- room stays
  pub unfiled_room : (e : ℕ) (d : Dependents) → slice_get (take (length nodes) (unfiled (nodes ++ x ∷ []) x (length nodes) (left to (length nodes) ds))) e ≡ Some d
      → (c : Dependents) × (slice_get ds e ≡ Some c) × (d.nodes.room ≡ c.nodes.room)
  unfiled_room e d g =
      let first = end_at (nodes ++ x ∷ []) (slice_get (own_links x.shape) 0) in
      let second = end_at (nodes ++ x ∷ []) (slice_get (own_links x.shape) 1) in
      let own = end_at (nodes ++ x ∷ []) (slice_get (watched x.shape) 0) in
      let i = get_taken (length nodes) (unfiled (nodes ++ x ∷ []) x (length nodes) (left to (length nodes) ds)) e d g in
      let w = get_left_watcher own (length nodes) e (left second (length nodes) (left first (length nodes) (left to (length nodes) ds))) d i.1 in
      let s = get_left second (length nodes) e (left first (length nodes) (left to (length nodes) ds)) w.0 w.1 in
      let f = get_left first (length nodes) e (left to (length nodes) ds) s.0 s.1 in
      let t = get_left to (length nodes) e ds f.0 f.1 in
      (t.0, t.1, ap (λ (l : PlaceList). l.room) w.2.nodes ∙ s.2.room ∙ f.2.room ∙ t.2.room)

-- The lists, as they are written.

pub filed_is : (nodes : List Node) (x y : Node) (p : ℕ) (first second own : Option ℕ) (ds one two three : List Dependents) → slice_get nodes p ≡ Some y → slice_get nodes p ≡ Some x
    → first ≡ end_at nodes (slice_get (own_links y.shape) 0) → second ≡ end_at nodes (slice_get (own_links y.shape) 1) → own ≡ end_at nodes (slice_get (watched y.shape) 0)
    → one ≡ joined first p ds → two ≡ joined second p one → three ≡ joined_watcher own p two → three ≡ filed nodes x p ds
filed_is nodes x y p first second own ds one two three g h a b c i j k =
    let both : Some y ≡ Some x = sym g ∙ h in
    let same : y ≡ x = cc in
    k ∙ ap (joined_watcher own p) (j ∙ ap (joined second p) i) ∙ ap (λ f. joined_watcher own p (joined second p (joined f p ds))) a
    ∙ ap (λ f. joined_watcher own p (joined f p (joined (end_at nodes (slice_get (own_links y.shape) 0)) p ds))) b
    ∙ ap (λ f. joined_watcher f p (joined (end_at nodes (slice_get (own_links y.shape) 1)) p (joined (end_at nodes (slice_get (own_links y.shape) 0)) p ds))) c
    ∙ ap (λ z. filed nodes z p ds) same

pub unfiled_is : (nodes : List Node) (x y : Node) (p : ℕ) (first second own : Option ℕ) (ds one two three : List Dependents) → slice_get nodes p ≡ Some y → slice_get nodes p ≡ Some x
    → first ≡ end_at nodes (slice_get (own_links y.shape) 0) → second ≡ end_at nodes (slice_get (own_links y.shape) 1) → own ≡ end_at nodes (slice_get (watched y.shape) 0)
    → one ≡ left first p ds → two ≡ left second p one → three ≡ left_watcher own p two → three ≡ unfiled nodes x p ds
unfiled_is nodes x y p first second own ds one two three g h a b c i j k =
    let both : Some y ≡ Some x = sym g ∙ h in
    let same : y ≡ x = cc in
    k ∙ ap (left_watcher own p) (j ∙ ap (left second p) i) ∙ ap (λ f. left_watcher own p (left second p (left f p ds))) a
    ∙ ap (λ f. left_watcher own p (left f p (left (end_at nodes (slice_get (own_links y.shape) 0)) p ds))) b
    ∙ ap (λ f. left_watcher f p (left (end_at nodes (slice_get (own_links y.shape) 1)) p (left (end_at nodes (slice_get (own_links y.shape) 0)) p ds))) c
    ∙ ap (λ z. unfiled nodes z p ds) same

pub wanting_is : (nodes : List Node) (x y : Node) (p : ℕ) (b : Bool) (w new : List ℕ) → slice_get nodes p ≡ Some y → slice_get nodes p ≡ Some x → b ≡ wants nodes y.shape
    → new ≡ (if b then with_place p w else w) → new ≡ (if wants nodes x.shape then with_place p w else w)
wanting_is nodes x y p b w new g h a e =
    let both : Some y ≡ Some x = sym g ∙ h in
    let same : y ≡ x = cc in
    e ∙ ap (λ c. if c then with_place p w else w) (a ∙ ap (λ (z : Node). wants nodes z.shape) same)

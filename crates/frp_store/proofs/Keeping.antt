-- What stays true of tables while they change.
use Rattle.std.proofs.Common.{◌≡◌, ℕ, ◌<◌, ◌≤◌, ◌-◌, ◌++◌, Bool, true, false, List, [], ◌∷◌, Option, Some, None, map, take, drop, length, zero, suc, refl, sym, ap, ◌∙◌, subst, arith, inl, inr}
use Rattle.std.specs.Prelude.{◌==◌, ◌||◌, slice_get, slice_set, is_some, option_and_then, IfSome, IsTrue}
use Rattle.std.specs.List.Sorted.{IsStrictlySortedBy}
use Rattle.std.specs.BTreeMap.{BTreeMap, is_at}
use Rattle.std.specs.Map.{lookup}
use Rattle.std.specs.List.{AllByRecursion}
use Rattle.std.specs.Cmp.{unsigned_Decides}
use Rattle.std.proofs.lemmas.List.{length-map}
use Rattle.std.proofs.lemmas.Option.{slice_get_within}
use Rattle.frp_base.specs.declared.name.Name.{Name}
use Rattle.frp_base.specs.declared.time.Time.{Time}
use Rattle.frp_base.specs.declared.val.Val.{Val}
use Rattle.frp_base.specs.Name.{name_cmp}
use Rattle.frp_base.proofs.Booleans.{either_true}
use Rattle.frp_graph.specs.declared.trace.Node.{Node}
use Rattle.frp_graph.specs.declared.trace.Moment.{Moment}
use Rattle.frp_graph.specs.declared.trace.Fact.{Fact}
use Rattle.frp_graph.specs.Trace.{node_in, node_first, fact_in, or_else, value_after}
use Rattle.frp_graph.specs.Links.{are_distinct}
use Rattle.frp_graph.proofs.Options.{some_is}
use Rattle.frp_store.specs.declared.change.Change.{Change}
use Rattle.frp_store.specs.declared.change.Change.TheVariants.{Began, Added, Occurred, Turned, Ended}
use Rattle.frp_store.specs.declared.held.Held.{Held}
use Rattle.frp_store.specs.declared.held.Step.{Step}
use Rattle.frp_store.specs.declared.edges.Dependents.{Dependents}
use Rattle.frp_store.specs.declared.edges.Edges.{Edges}
use Rattle.frp_region.specs.Content.{Content}
use Rattle.frp_store.specs.Items.{updated, but_last, last_of}
use Rattle.frp_store.specs.State.{names, place_in, last_moment}
use Rattle.frp_store.specs.Lists.{Lists, nodes_of, targets_of, state_in}
use Rattle.frp_store.specs.Calls.{IsAfter, with_occ}
use Rattle.frp_store.specs.Dependents.{wants}
use Rattle.frp_store.specs.Places.{IsRising, has}
use Rattle.frp_store.specs.Edges.{AreListed, AreLinked, IsIndexed, IsWanted}
use Rattle.frp_store.specs.Undo.{undo, undo_all, set_occ, set_before, set_target, given, unwritten, reopened}
use Rattle.frp_store.specs.Kept.{IsSound, IsFindable, HasRoom, IsAbove, AreKept}
use Rattle.frp_store.proofs.Undoing.{pushed_all, popped_all, of_now, unchanged}
use Rattle.frp_store.proofs.Items.{length_updated, updated_cases, updated_back, map_updated_kept, map_updated_set, but_last_pushed, last_pushed, snoc}
use Rattle.frp_store.proofs.Setting.{get_map, get_map_back}
use Rattle.frp_store.proofs.Rising.{rising_shorter}
use Rattle.frp_store.proofs.Listing.{room_now}
use Rattle.frp_store.proofs.Choices.{or_false}

-- A change more, and a change fewer.

length_unwritten : (ss : List Step) (held : List Held) → length (unwritten ss held) ≡ length held
length_unwritten [] held = refl
length_unwritten (s ∷ ss) held = length_updated s.place (set_before (Some s.value)) (unwritten ss held) ∙ length_unwritten ss held

length_given : (fs : List Fact) (held : List Held) → length (given fs held) ≡ length held
length_given fs held = length-map held (λ (h : Held). set_occ (or_else (fact_in fs h.node.name) h.occ) h)

-- what is undone has no more nodes
undo_fewer : (c : Change) (l : Lists) → length (undo c l).held ≤ length l.held
undo_fewer Began l = omega arith
undo_fewer Added l = taken (length l.held - 1) l.held where
  taken : (n : ℕ) (hs : List Held) → length (take n hs) ≤ length hs
  taken zero hs = omega arith
  taken (suc n) [] = omega arith
  taken (suc n) (h ∷ hs) = let t = taken n hs in omega arith
undo_fewer (Occurred p) l = let e = length_updated p (set_occ None) l.held in omega arith
undo_fewer (Turned p to) l = let e = length_updated p (set_target to) l.held in omega arith
undo_fewer (Ended fired steps above first) l = by (last_moment l.past) where
  by : (m : Option Moment) → length (reopened m fired.items steps.items above first l).held ≤ length l.held
  by None = omega arith
  by (Some m) = let a = length_given m.fired (unwritten steps.items l.held) in let b = length_unwritten steps.items l.held in omega arith

pub undone_fewer : (cs : List Change) (l : Lists) → length (undo_all cs l).held ≤ length l.held
undone_fewer [] l = omega arith
undone_fewer (c ∷ cs) l = let a = undo_fewer c (undo_all cs l) in let b = undone_fewer cs l in omega arith

pub kept_more : (cs more : List Change) (c : Change) (l m : Lists) (edges new : Edges) → more ≡ cs ++ c ∷ [] → AreKept cs l edges → undo c m ≡ l
    → IsSound m → AreLinked new (nodes_of m.held) (targets_of m.held) → IsWanted new.wanting.items (nodes_of m.held)
    → ((nodes : List Node) → IsWanted edges.wanting.items nodes → IsWanted new.wanting.items nodes)
    → ((k : Lists) → length k.held ≤ length l.held → HasRoom edges.lists.items k → HasRoom new.lists.items k) → AreKept more m new
kept_more cs more c l m edges new e k u s a w wider roomier = subst (λ ds. AreKept ds m new) (sym e) (record {
  sound = pushed_all IsSound cs c m l u s k.sound;
  linked = a;
  wanted = pushed_all (λ (i : Lists). IsWanted new.wanting.items (nodes_of i.held)) cs c m l u w (λ j. wider (nodes_of (undo_all (drop j cs) l).held) (k.wanted j));
  room = pushed_all (HasRoom new.lists.items) cs c m l u (room_now new.lists.items m a.listed) (λ j. roomier (undo_all (drop j cs) l) (undone_fewer (drop j cs) l) (k.room j));
})

-- the same, where what is kept of dependents stays
pub kept_beside : (cs more : List Change) (c : Change) (l m : Lists) (edges : Edges) → more ≡ cs ++ c ∷ [] → AreKept cs l edges → undo c m ≡ l
    → IsSound m → nodes_of m.held ≡ nodes_of l.held → targets_of m.held ≡ targets_of l.held → AreKept more m edges
kept_beside cs more c l m edges e k u s n t =
    kept_more cs more c l m edges edges e k u s
    (subst (λ ts. AreLinked edges (nodes_of m.held) ts) (sym t) (subst (λ ns. AreLinked edges ns (targets_of l.held)) (sym n) k.linked))
    (subst (IsWanted edges.wanting.items) (sym n) (of_now (λ (i : Lists). IsWanted edges.wanting.items (nodes_of i.held)) cs l k.wanted))
    (λ ns w. w) (λ i f r. r)

pub kept_fewer : (cs : List Change) (c : Change) (l m : Lists) (edges new : Edges) → AreKept (cs ++ c ∷ []) l edges → m ≡ undo c l
    → AreLinked new (nodes_of m.held) (targets_of m.held)
    → ((k : ℕ) → IsWanted new.wanting.items (nodes_of (undo_all (drop k cs) (undo c l)).held))
    → ((k : Lists) → HasRoom edges.lists.items k → HasRoom new.lists.items k) → AreKept cs m new
kept_fewer cs c l m edges new k e a w roomier = subst (λ i. AreKept cs i new) (sym e) (record {
  sound = popped_all IsSound cs c l k.sound;
  linked = subst (λ (i : Lists). AreLinked new (nodes_of i.held) (targets_of i.held)) e a;
  wanted = w;
  room = λ j. roomier (undo_all (drop j cs) (undo c l)) (popped_all (HasRoom edges.lists.items) cs c l k.room j);
})

pub kept_behind : (cs : List Change) (c : Change) (l m : Lists) (edges : Edges) → AreKept (cs ++ c ∷ []) l edges → m ≡ undo c l
    → nodes_of m.held ≡ nodes_of l.held → targets_of m.held ≡ targets_of l.held → AreKept cs m edges
kept_behind cs c l m edges k e n t =
    kept_fewer cs c l m edges edges k e
    (subst (λ ts. AreLinked edges (nodes_of m.held) ts) (sym t) (subst (λ ns. AreLinked edges ns (targets_of l.held)) (sym n) k.linked))
    (popped_all (λ (i : Lists). IsWanted edges.wanting.items (nodes_of i.held)) cs c l k.wanted)
    (λ i r. r)

-- the tables themselves are all that is left once the changes are kept
pub kept_now : (cs none : List Change) (l : Lists) (edges : Edges) → none ≡ [] → AreKept cs l edges → AreKept none l edges
kept_now cs none l edges e k = subst (λ ds. AreKept ds l edges) (sym e) (record {
  sound = λ j. unchanged IsSound j l (of_now IsSound cs l k.sound);
  linked = k.linked;
  wanted = λ j. unchanged (λ (i : Lists). IsWanted edges.wanting.items (nodes_of i.held)) j l
      (of_now (λ (i : Lists). IsWanted edges.wanting.items (nodes_of i.held)) cs l k.wanted);
  room = λ j. unchanged (HasRoom edges.lists.items) j l (of_now (HasRoom edges.lists.items) cs l k.room);
})

pub sound_now : (cs : List Change) (l : Lists) (edges : Edges) → AreKept cs l edges → IsSound l
sound_now cs l edges k = of_now IsSound cs l k.sound

pub findable_now : (cs : List Change) (l : Lists) (edges : Edges) → AreKept cs l edges → IsFindable (nodes_of l.held) edges.index
findable_now cs l edges k = record { distinct = (sound_now cs l edges k).distinct; indexed = k.linked.indexed }

-- A moment is begun.

pub begun_sound : (l : Lists) (t : Time) (above : Option ℕ) → IsSound l → l.begun ≡ None → IsAfter t l.past → IsAbove (Some t) l.past above
    → IsSound (record l { begun = Some t; above = above })
begun_sound l t above k e a b = record {
  first = k.first;
  idle = λ h. absurd cc;
  quiet = λ h. absurd cc;
  listed = k.listed;
  inside = k.inside;
  before = k.before;
  aims = k.aims;
  distinct = k.distinct;
  rising = k.rising;
  facts = k.facts;
  later = a;
  shown = k.shown;
  above = b;
}

above_none : (past : List Moment) (above : Option ℕ) → IsAbove None past above → above ≡ None
above_none past above h = h

pub begun_back : (l : Lists) (t : Time) (above : Option ℕ) → IsSound l → l.begun ≡ None → undo Began (record l { begun = Some t; above = above }) ≡ l
begun_back l t above k e =
    let none : l.above ≡ None = above_none l.past l.above (subst (λ b. IsAbove b l.past l.above) e k.above) in
    ap (λ b. record l { begun = b; above = None }) (sym e) ∙ ap (λ b. record l { above = b }) (sym none)

pub begun_kept : (cs more : List Change) (l : Lists) (edges : Edges) (t : Time) (above : Option ℕ) → more ≡ cs ++ Began ∷ [] → AreKept cs l edges
    → l.begun ≡ None → IsAfter t l.past → IsAbove (Some t) l.past above → AreKept more (record l { begun = Some t; above = above }) edges
begun_kept cs more l edges t above m k e a b =
    let s = sound_now cs l edges k in
    kept_beside cs more Began l (record l { begun = Some t; above = above }) edges m k (begun_back l t above s e) (begun_sound l t above s e a b) refl refl

-- An item is changed.

-- a cell's value before by what it is read from
abbrev pub pre_by : List Moment → ℕ → List Node → Name → Option Val
pre_by past first nodes n = or_else (option_and_then node_first (node_in (drop first nodes) n)) (value_after past n)

pub updated_sound : (l : Lists) (p : ℕ) (f : Held → Held) (fired : List ℕ) → IsSound l → ((h : Held) → (f h).node ≡ h.node) → ((h : Held) → (f h).before ≡ h.before)
    → ((h : Held) → IfSome h.target (λ q. q < length l.held) → IfSome (f h).target (λ q. q < length l.held)) → (l.begun ≡ None → fired ≡ [])
    → ((q : ℕ) (h : Held) → slice_get (updated p f l.held) q ≡ Some h → IsTrue (is_some h.occ) → IsTrue (has fired q)) → AllByRecursion (λ q. q < length l.held) fired
    → IsSound (record l { held = updated p f l.held; fired = fired })
updated_sound l p f fired k same kept aims quiet listed inside = record {
  first = subst (λ n. l.first ≤ n) (sym many) k.first;
  idle = λ b. k.idle b ∙ sym many;
  quiet = quiet;
  listed = listed;
  inside = subst (λ n. AllByRecursion (λ q. q < n) fired) (sym many) inside;
  before = λ q h e. elim (updated_cases p q f l.held h e) [
    | inl c ↦ ap (λ (z : Held). z.before) c.3 ∙ kept c.1 ∙ k.before q c.1 c.2 ∙ read c.1.node.name ∙ ap (λ (y : Node). pre_by l.past l.first (nodes_of (updated p f l.held)) y.name) (sym (same c.1))
        ∙ ap (λ (z : Held). pre_by l.past l.first (nodes_of (updated p f l.held)) z.node.name) (sym c.3)
    | inr c ↦ k.before q h c.1 ∙ read h.node.name
  ];
  aims = λ q h e. subst (λ n. IfSome h.target (λ i. i < n)) (sym many) (elim (updated_cases p q f l.held h e) [
    | inl c ↦ subst (λ (z : Held). IfSome z.target (λ i. i < length l.held)) (sym c.3) (aims c.1 (k.aims q c.1 c.2))
    | inr c ↦ k.aims q h c.1
  ]);
  distinct = subst (λ ns. are_distinct (names ns) ≡ true) (sym nodes) k.distinct;
  rising = k.rising;
  facts = k.facts;
  later = k.later;
  shown = λ n. k.shown n ∙ ap (λ ns. node_in (take l.first ns) n) (sym nodes);
  above = k.above;
}
  where
    many : length (updated p f l.held) ≡ length l.held
    many = length_updated p f l.held

    nodes : nodes_of (updated p f l.held) ≡ nodes_of l.held
    nodes = map_updated_kept (λ (h : Held). h.node) p f l.held same

    read : (n : Name) → pre_by l.past l.first (nodes_of l.held) n ≡ pre_by l.past l.first (nodes_of (updated p f l.held)) n
    read n = ap (λ ns. pre_by l.past l.first ns n) (sym nodes)

-- An occurrence comes.

pub has_pushed : (ps : List ℕ) (p q : ℕ) → has (ps ++ p ∷ []) q ≡ (has ps q || p == q)
has_pushed [] p q = or_false (p == q)
has_pushed (r ∷ ps) p q = ap (λ b. r == q || b) (has_pushed ps p q) ∙ joined (r == q) (has ps q) (p == q) where
  joined : (a b c : Bool) → a || (b || c) ≡ (a || b) || c
  joined true b c = refl
  joined false b c = refl

all_pushed : {A : Type 0} (P : A → Type 0) (xs : List A) (x : A) → AllByRecursion P xs → P x → AllByRecursion P (xs ++ x ∷ [])
all_pushed P [] x a h = (h, tt)
all_pushed P (y ∷ xs) x a h = (a.0, all_pushed P xs x a.1 h)

true_or : (a b : Bool) → a ≡ true → a || b ≡ true
true_or true b h = refl
true_or false b h = absurd cc

or_is : (a b : Bool) → b ≡ true → a || b ≡ true
or_is true b h = refl
or_is false b h = h

abbrev pub occurred : ℕ → Val → Lists → Lists
occurred p v l = record l { held = updated p (set_occ (Some v)) l.held; fired = l.fired ++ p ∷ [] }

pub occurred_back : (l : Lists) (p : ℕ) (h : Held) (v : Val) → slice_get l.held p ≡ Some h → h.occ ≡ None → undo (Occurred p) (occurred p v l) ≡ l
occurred_back l p h v e o =
    let restored : set_occ None (set_occ (Some v) h) ≡ h = ap (λ z. record h { occ = z }) (sym o) in
    ap (λ hs. record l { held = hs; fired = but_last (l.fired ++ p ∷ []) }) (updated_back p (set_occ None) (set_occ (Some v)) l.held h e restored)
    ∙ ap (λ fs. record l { fired = fs }) (but_last_pushed l.fired p)

pub occurred_kept : (cs more : List Change) (l : Lists) (edges : Edges) (p : ℕ) (h : Held) (v : Val) → more ≡ cs ++ Occurred p ∷ [] → AreKept cs l edges
    → IsTrue (is_some l.begun) → slice_get l.held p ≡ Some h → h.occ ≡ None → AreKept more (occurred p v l) edges
occurred_kept cs more l edges p h v m k b e o =
    let s = sound_now cs l edges k in
    kept_beside cs more (Occurred p) l (occurred p v l) edges m k (occurred_back l p h v e o)
    (updated_sound l p (set_occ (Some v)) (l.fired ++ p ∷ []) s (λ x. refl) (λ x. refl) (λ x a. a) (λ z. absurd (let y : is_some l.begun ≡ false = ap is_some z in cc)) listed
    (all_pushed (λ q. q < length l.held) l.fired p s.inside (slice_get_within l.held p h e)))
    (map_updated_kept (λ (x : Held). x.node) p (set_occ (Some v)) l.held (λ x. refl))
    (map_updated_kept (λ (x : Held). x.target) p (set_occ (Some v)) l.held (λ x. refl))
  where
    listed : (q : ℕ) (x : Held) → slice_get (updated p (set_occ (Some v)) l.held) q ≡ Some x → IsTrue (is_some x.occ) → IsTrue (has (l.fired ++ p ∷ []) q)
    listed q x a i = has_pushed l.fired p q ∙ elim (updated_cases p q (set_occ (Some v)) l.held x a) [
      | inl c ↦ or_is (has l.fired q) (p == q) ((unsigned_Decides p q).1 (sym c.0))
      | inr c ↦ true_or (has l.fired q) (p == q) ((sound_now cs l edges k).listed q x c.1 i)
    ]

-- it has none any more
pub taken_kept : (cs : List Change) (l : Lists) (edges : Edges) (p : ℕ) → AreKept (cs ++ Occurred p ∷ []) l edges → AreKept cs (undo (Occurred p) l) edges
taken_kept cs l edges p k =
    kept_behind cs (Occurred p) l (undo (Occurred p) l) edges k refl
    (map_updated_kept (λ (x : Held). x.node) p (set_occ None) l.held (λ x. refl))
    (map_updated_kept (λ (x : Held). x.target) p (set_occ None) l.held (λ x. refl))

-- Without nodes.

abbrev pub no_lists : Lists
no_lists = record { past = []; begun = None; above = None; first = 0; held = []; fired = [] }

sound_first : IsSound no_lists
unfolding IsStrictlySortedBy
sound_first = record {
  first = omega arith;
  idle = λ _. refl;
  quiet = λ _. refl;
  listed = λ p h e. absurd cc;
  inside = tt;
  before = λ p h e. absurd cc;
  aims = λ p h e. absurd cc;
  distinct = refl;
  rising = tt;
  facts = tt;
  later = tt;
  shown = λ _. refl;
  above = refl;
}

pub empty_kept : (edges : Edges) → edges.lists.items ≡ [] → edges.wanting.items ≡ [] → edges.index.entries ≡ [] → AreKept [] no_lists edges
empty_kept edges a b c = record {
  sound = λ k. unchanged IsSound k no_lists sound_first;
  linked = record {
    listed = record {
      count = ap length a;
      nodes = λ e d g. absurd (let h : None ≡ Some d = ap (λ ds. slice_get ds e) (sym a) ∙ g in cc);
      watchers = λ e d g. absurd (let h : None ≡ Some d = ap (λ ds. slice_get ds e) (sym a) ∙ g in cc);
      fits = λ e d g. absurd (let h : None ≡ Some d = ap (λ ds. slice_get ds e) (sym a) ∙ g in cc);
    };
    indexed = λ n. ap (λ es. lookup (is_at (name_cmp n)) es) c;
    inside = subst (λ ps. AllByRecursion (λ p. p < 0) ps) (sym b) tt;
    rising = subst IsRising (sym b) tt;
  };
  wanted = λ k. unchanged (λ (i : Lists). IsWanted edges.wanting.items (nodes_of i.held)) k no_lists (λ p x e. absurd cc);
  room = λ k. unchanged (HasRoom edges.lists.items) k no_lists (λ e d g. absurd (let h : None ≡ Some d = ap (λ ds. slice_get ds e) (sym a) ∙ g in cc));
}

-- The same, where the lists are equal to these.

pub lists_same : (l : Lists) (held hs : List Held) (fired fs : List ℕ) → held ≡ hs → fired ≡ fs → (record l { held = held; fired = fired }) ≡ (record l { held = hs; fired = fs })
lists_same l held hs fired fs a b = ap (λ h. record l { held = h; fired = fired }) a ∙ ap (λ f. record l { held = hs; fired = f }) b

pub begun_there : (b : Option Time) → IsTrue (is_some b) → (t : Time) × (b ≡ Some t)
begun_there None h = absurd cc
begun_there (Some t) h = (t, refl)

pub occurred_again : (cs more : List Change) (l : Lists) (edges : Edges) (p : ℕ) (v : Val) (held : List Held) (fired : List ℕ) → more ≡ cs ++ Occurred p ∷ []
    → held ≡ updated p (set_occ (Some v)) l.held → fired ≡ l.fired ++ p ∷ [] → AreKept cs l edges → IsTrue (is_some l.begun)
    → slice_get (map (λ (g : Held). g.occ) l.held) p ≡ Some None → AreKept more (record l { held = held; fired = fired }) edges
occurred_again cs more l edges p v held fired m a b k t e =
    let h = get_map_back (λ (g : Held). g.occ) l.held p None e in
    subst (λ i. AreKept more i edges) (sym (lists_same l held (updated p (set_occ (Some v)) l.held) fired (l.fired ++ p ∷ []) a b))
    (occurred_kept cs more l edges p h.0 v m k t h.1 h.2)

pub occurred_base : (l : Lists) (p : ℕ) (v : Val) (held : List Held) (fired : List ℕ) → held ≡ updated p (set_occ (Some v)) l.held → fired ≡ l.fired ++ p ∷ []
    → slice_get (map (λ (g : Held). g.occ) l.held) p ≡ Some None → undo (Occurred p) (record l { held = held; fired = fired }) ≡ l
occurred_base l p v held fired a b e =
    let h = get_map_back (λ (g : Held). g.occ) l.held p None e in
    ap (undo (Occurred p)) (lists_same l held (updated p (set_occ (Some v)) l.held) fired (l.fired ++ p ∷ []) a b) ∙ occurred_back l p h.0 v h.1 h.2

pub occurred_state : (l : Lists) (p : ℕ) (v : Val) (held : List Held) (fired : List ℕ) → held ≡ updated p (set_occ (Some v)) l.held
    → state_in (record l { held = held; fired = fired }) ≡ with_occ p (Some v) (state_in l)
occurred_state l p v held fired a =
    let s = state_in l in
    let new = updated p (set_occ (Some v)) l.held in
    ap (λ hs. state_in (record l { held = hs; fired = fired })) a
    ∙ ap (λ ns. record s { nodes = ns; occs = map (λ (g : Held). g.occ) new; targets = targets_of new }) (map_updated_kept (λ (g : Held). g.node) p (set_occ (Some v)) l.held (λ x. refl))
    ∙ ap (λ os. record s { occs = os; targets = targets_of new }) (map_updated_set (λ (g : Held). g.occ) p (set_occ (Some v)) l.held (Some v) (λ x. refl))
    ∙ ap (λ ts. record s { occs = slice_set s.occs p (Some v); targets = ts }) (map_updated_kept (λ (g : Held). g.target) p (set_occ (Some v)) l.held (λ x. refl))

pub taken_again : (cs : List Change) (l : Lists) (edges : Edges) (p : ℕ) (held : List Held) (fired : List ℕ) → AreKept (cs ++ Occurred p ∷ []) l edges
    → held ≡ updated p (set_occ None) l.held → fired ≡ but_last l.fired → AreKept cs (record l { held = held; fired = fired }) edges
taken_again cs l edges p held fired k a b =
    subst (λ i. AreKept cs i edges) (sym (lists_same l held (updated p (set_occ None) l.held) fired (but_last l.fired) a b)) (taken_kept cs l edges p k)

pub left_kept : (cs : List Change) (l : Lists) (edges : Edges) → AreKept (cs ++ Began ∷ []) l edges → AreKept cs (record l { begun = None; above = None }) edges
left_kept cs l edges k = kept_behind cs Began l (record l { begun = None; above = None }) edges k refl refl refl

-- A place that wants no node is forgotten.

pub split_last : (xs : List ℕ) (q : ℕ) → last_of xs ≡ Some q → xs ≡ but_last xs ++ q ∷ []
split_last [] q e = absurd cc
split_last (x ∷ xs) q e =
    let s = snoc (x ∷ xs) (omega arith) in
    let same : s.1 ≡ q = some_is q s.1 (sym e ∙ ap last_of s.2 ∙ last_pushed s.0 s.1) in
    s.2 ∙ ap (λ z. s.0 ++ z ∷ []) same ∙ ap (λ ys. ys ++ q ∷ []) (sym (ap but_last s.2 ∙ but_last_pushed s.0 s.1))

all_but_last : (P : ℕ → Type 0) (qs : List ℕ) (q : ℕ) → AllByRecursion P (qs ++ q ∷ []) → AllByRecursion P qs
all_but_last P [] q a = tt
all_but_last P (r ∷ qs) q a = (a.0, all_but_last P qs q a.1)

pub forgotten_kept : (l : Lists) (edges new : Edges) (q : ℕ) (h : Held) → last_of edges.wanting.items ≡ Some q → slice_get l.held q ≡ Some h
    → wants (nodes_of l.held) h.node.shape ≡ false → new.lists ≡ edges.lists → new.index ≡ edges.index → new.wanting.items ≡ but_last edges.wanting.items
    → AreKept [] l edges → AreKept [] l new
forgotten_kept l edges new q h e g w a b c k = record {
  sound = k.sound;
  linked = record {
    listed = subst (λ (ls : Content Dependents). AreListed ls.items (nodes_of l.held) (targets_of l.held)) (sym a) k.linked.listed;
    indexed = λ n. subst (λ (i : BTreeMap Name ℕ). IsIndexed i n (place_in (nodes_of l.held) n)) (sym b) (k.linked.indexed n);
    inside = subst (AllByRecursion (λ p. p < length (nodes_of l.held))) (sym c)
        (all_but_last (λ p. p < length (nodes_of l.held)) (but_last edges.wanting.items) q (subst (AllByRecursion (λ p. p < length (nodes_of l.held))) split k.linked.inside));
    rising = subst IsRising (sym c) (rising_shorter (length edges.wanting.items - 1) edges.wanting.items k.linked.rising);
  };
  wanted = λ j. unchanged (λ (i : Lists). IsWanted new.wanting.items (nodes_of i.held)) j l still;
  room = λ j. unchanged (HasRoom new.lists.items) j l (subst (λ (ls : Content Dependents). HasRoom ls.items l) (sym a) (of_now (HasRoom edges.lists.items) [] l k.room));
}
  where
    split : edges.wanting.items ≡ but_last edges.wanting.items ++ q ∷ []
    split = split_last edges.wanting.items q e

    still : IsWanted new.wanting.items (nodes_of l.held)
    still p x at_p want = elim (either_true (has (but_last edges.wanting.items) p) (q == p)
        (sym (has_pushed (but_last edges.wanting.items) q p) ∙ ap (λ ps. has ps p) (sym split)
        ∙ of_now (λ (i : Lists). IsWanted edges.wanting.items (nodes_of i.held)) [] l k.wanted p x at_p want)) [
          | inl i ↦ ap (λ ps. has ps p) c ∙ i
          | inr i ↦
              let here : q ≡ p = (unsigned_Decides q p).0 i in
              let there : slice_get (nodes_of l.held) p ≡ Some h.node = ap (slice_get (nodes_of l.held)) (sym here) ∙ get_map (λ (z : Held). z.node) l.held q h g in
              let same : h.node ≡ x = some_is x h.node (sym at_p ∙ there) in
              let not : wants (nodes_of l.held) x.shape ≡ false = ap (λ (y : Node). wants (nodes_of l.held) y.shape) (sym same) ∙ w in
              absurd cc
        ]

pub empty_again : (cs : List Change) (past : List Moment) (held : List Held) (fired : List ℕ) (edges : Edges) → cs ≡ [] → past ≡ [] → held ≡ [] → fired ≡ []
    → edges.lists.items ≡ [] → edges.wanting.items ≡ [] → edges.index.entries ≡ []
    → AreKept cs (record { past = past; begun = None; above = None; first = 0; held = held; fired = fired }) edges
empty_again cs past held fired edges a b c d e f g =
    subst (λ z. AreKept z (record { past = past; begun = None; above = None; first = 0; held = held; fired = fired }) edges) (sym a)
    (subst (λ z. AreKept [] (record { past = z; begun = None; above = None; first = 0; held = held; fired = fired }) edges) (sym b)
    (subst (λ z. AreKept [] (record { past = []; begun = None; above = None; first = 0; held = z; fired = fired }) edges) (sym c)
    (subst (λ z. AreKept [] (record { past = []; begun = None; above = None; first = 0; held = []; fired = z }) edges) (sym d) (empty_kept edges e f g))))

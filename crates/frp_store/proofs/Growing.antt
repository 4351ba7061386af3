-- What stays true of tables once a node more is live, and once it is live no more.
use Rattle.std.proofs.Common.{◌≡◌, ℕ, ◌<◌, ◌≤◌, ◌+◌, Bool, true, false, List, [], ◌∷◌, ◌++◌, Option, Some, None, take, drop, length, length-append, zero, suc, refl, sym, ap, ◌∙◌, subst, arith, inl, inr}
use Rattle.std.specs.Prelude.{◌==◌, ◌||◌, ◌&&◌, not, nat_lt, slice_get, is_some, option_map, option_and_then, if◌then◌else◌, IfSome, IsTrue}
use Rattle.std.specs.List.{AllByRecursion, list_all}
use Rattle.std.specs.BTreeMap.{BTreeMap, get}
use Rattle.std.specs.Bool.{Decides}
use Rattle.std.specs.Cmp.{unsigned_Decides}
use Rattle.std.proofs.lemmas.Bool.Decides.{nat_tests}
use Rattle.std.proofs.lemmas.List.{length-map, map-append, take-append-drop, take-append-le, drop-append-le}
use Rattle.std.proofs.lemmas.Option.{slice_get_within}
use Rattle.frp_base.specs.declared.name.Name.{Name}
use Rattle.frp_base.specs.declared.val.Val.{Val}
use Rattle.frp_base.specs.Name.{name_eq, name_cmp, item_of}
use Rattle.frp_base.proofs.Booleans.{bool_cases}
use Rattle.frp_graph.specs.declared.trace.Node.{Node}
use Rattle.frp_graph.specs.declared.trace.Moment.{Moment}
use Rattle.frp_graph.specs.Trace.{node_in, node_first, or_else, live, value_after}
use Rattle.frp_graph.specs.Links.{are_distinct}
use Rattle.frp_graph.proofs.Lists.{name_same, name_eq-same}
use Rattle.frp_graph.proofs.Nodes.{found_joined}
use Rattle.frp_graph.proofs.Values.{streams_have_no_value}
use Rattle.frp_store.specs.declared.change.Change.{Change}
use Rattle.frp_store.specs.declared.change.Change.TheVariants.{Added}
use Rattle.frp_store.specs.declared.held.Held.{Held}
use Rattle.frp_store.specs.declared.edges.Dependents.{Dependents}
use Rattle.frp_store.specs.declared.edges.Edges.{Edges}
use Rattle.frp_store.specs.declared.tables.Tables.{Tables}
use Rattle.frp_store.specs.Items.{but_last}
use Rattle.frp_store.specs.State.{names, place_in}
use Rattle.frp_store.specs.Adding.{IsPrepared, IsReady}
use Rattle.frp_store.specs.Lists.{Lists, lists_of, nodes_of, targets_of, state_in}
use Rattle.frp_store.specs.Places.{IsRising, has, with_place, without_place}
use Rattle.frp_store.specs.Dependents.{wants, is_unknown, dependents_at, dependents_of, own_links, watched}
use Rattle.frp_store.specs.Edges.{filed, unfiled, left, HasEntered, HasForgotten, HasSpareToFile, HasRoomToFile, AreListed, AreLinked, AreLinkedBefore, IsIndexed, IsWanted}
use Rattle.frp_store.specs.Closing.{at, held_target}
use Rattle.frp_store.specs.Undo.{undo, undo_all}
use Rattle.frp_store.specs.Kept.{IsSound, IsFindable, HasRoom, AreKept}
use Rattle.frp_store.proofs.Rising.{has_with, has_without, rising_with, rising_without}
use Rattle.frp_store.proofs.Items.{but_last_pushed, pushed_cases, get_past, get_pushed, got, snoc}
use Rattle.frp_store.proofs.Setting.{get_map, get_map_back}
use Rattle.frp_store.proofs.Finding.{place_node, place_at, place_shows}
use Rattle.frp_store.proofs.Undoing.{pushed_base, of_now, popped_all}
use Rattle.frp_store.proofs.Taking.{distinct_more}
use Rattle.frp_store.proofs.Ends.{place_more, place_next}
use Rattle.frp_store.proofs.Filing.{filed_listed, filed_room, file_room, length_unfiled, unfiled_listed, unfiled_room}
use Rattle.frp_store.proofs.Rewiring.{length_left}
use Rattle.frp_store.proofs.Keeping.{pre_by, undone_fewer, kept_more, kept_fewer, kept_behind, sound_now}
use Rattle.frp_store.proofs.Choices.{or_else_none, neither}

-- A name that no node has.

node_none : (nodes : List Node) (n : Name) → place_in nodes n ≡ None → node_in nodes n ≡ None
node_none nodes n e = place_node nodes n ∙ ap (option_and_then (slice_get nodes)) e

parts_none : (k : ℕ) (nodes : List Node) (n : Name) → place_in nodes n ≡ None → (node_in (take k nodes) n ≡ None) × (node_in (drop k nodes) n ≡ None)
parts_none k nodes n e =
    neither (node_in (take k nodes) n) (node_in (drop k nodes) n)
    (sym (found_joined (take k nodes) (drop k nodes) n) ∙ ap (λ ns. node_in ns n) (take-append-drop k nodes) ∙ node_none nodes n e)

never_born : (ms : List Moment) (n : Name) → node_in (live ms) n ≡ None → AllByRecursion (λ (m : Moment). option_and_then node_first (node_in m.born n) ≡ None) ms
never_born [] n h = tt
never_born (m ∷ ms) n h =
    let b = neither (node_in m.born n) (node_in (live ms) n) (sym (found_joined m.born (live ms) n) ∙ h) in
    (ap (option_and_then node_first) b.0, never_born ms n b.1)

none_named : (nodes : List Node) (n : Name) → place_in nodes n ≡ None → list_all (λ k. not (name_eq k n)) (names nodes) ≡ true
none_named [] n e = refl
none_named (y ∷ nodes) n e = by (name_eq y.name n) (place_in nodes n) (none_named nodes n) e where
  by : (b : Bool) (o : Option ℕ) → (o ≡ None → list_all (λ k. not (name_eq k n)) (names nodes) ≡ true) → (if b then Some zero else option_map suc o) ≡ None
      → not b && list_all (λ k. not (name_eq k n)) (names nodes) ≡ true
  by true o f h = absurd cc
  by false None f h = f refl
  by false (Some q) f h = absurd cc

pub distinct_added : (nodes : List Node) (x : Node) → are_distinct (names nodes) ≡ true → place_in nodes x.name ≡ None → are_distinct (names (nodes ++ x ∷ [])) ≡ true
distinct_added nodes x d e =
    ap are_distinct (map-append (λ (y : Node). y.name) nodes (x ∷ [])) ∙ distinct_more (names nodes) x.name d (none_named nodes x.name e)

-- a name that another node has is not this one
pub other_name : (nodes : List Node) (n : Name) (p : ℕ) (y : Node) → are_distinct (names nodes) ≡ true → place_in nodes n ≡ None → slice_get nodes p ≡ Some y → name_eq n y.name ≡ false
other_name nodes n p y d e g = by (name_eq n y.name) refl where
  by : (b : Bool) → name_eq n y.name ≡ b → b ≡ false
  by true t =
      let h : place_in nodes n ≡ Some p = place_at nodes n p y d g (ap (name_eq y.name) (name_same n y.name t) ∙ name_eq-same y.name) in
      absurd cc
  by false t = refl

-- A cell's value before, with a node more.
pub pre_added : (past : List Moment) (first : ℕ) (nodes : List Node) (x : Node) (n : Name) → first ≤ length nodes → place_in nodes x.name ≡ None
    → ((m : Name) → node_in (live past) m ≡ node_in (take first nodes) m)
    → pre_by past first (nodes ++ x ∷ []) n ≡ (if name_eq x.name n then x.first else pre_by past first nodes n)
pre_added past first nodes x n l e shown =
    ap (λ ns. or_else (option_and_then node_first (node_in ns n)) (value_after past n)) (drop-append-le first nodes (x ∷ []) l)
    ∙ ap (λ o. or_else (option_and_then node_first o) (value_after past n)) (found_joined (drop first nodes) (x ∷ []) n)
    ∙ by (name_eq x.name n) refl
  where
    by : (b : Bool) → name_eq x.name n ≡ b
        → or_else (option_and_then node_first (or_else (node_in (drop first nodes) n) (if b then Some x else None))) (value_after past n) ≡ (if b then x.first else pre_by past first nodes n)
    by true t =
        let same : x.name ≡ n = name_same x.name n t in
        let none = parts_none first nodes n (ap (place_in nodes) (sym same) ∙ e) in
        ap (λ o. or_else (option_and_then node_first (or_else o (Some x))) (value_after past n)) none.1
        ∙ ap (or_else x.first) (streams_have_no_value past n (never_born past n (shown n ∙ none.0))) ∙ or_else_none x.first
    by false t = ap (λ o. or_else (option_and_then node_first o) (value_after past n)) (or_else_none (node_in (drop first nodes) n))

-- A node more.

abbrev pub added_lists : Held → Lists → Lists
added_lists h l = record l { held = l.held ++ h ∷ [] }

pub nodes_added : (held : List Held) (h : Held) → nodes_of (held ++ h ∷ []) ≡ nodes_of held ++ h.node ∷ []
nodes_added held h = map-append (λ (g : Held). g.node) held (h ∷ [])

pub targets_added : (held : List Held) (h : Held) → targets_of (held ++ h ∷ []) ≡ targets_of held ++ h.target ∷ []
targets_added held h = map-append (λ (g : Held). g.target) held (h ∷ [])

pub length_nodes : (held : List Held) → length (nodes_of held) ≡ length held
length_nodes held = length-map held (λ (g : Held). g.node)

pub length_targets : (held : List Held) → length (targets_of held) ≡ length held
length_targets held = length-map held (λ (g : Held). g.target)

pub added_back : (l : Lists) (h : Held) → undo Added (added_lists h l) ≡ l
added_back l h = ap (λ hs. record l { held = hs }) (but_last_pushed l.held h)

all_wider : (m n : ℕ) (ps : List ℕ) → m ≤ n → AllByRecursion (λ p. p < m) ps → AllByRecursion (λ p. p < n) ps
all_wider m n [] l a = tt
all_wider m n (p ∷ ps) l a = ((let h : p < m = a.0 in omega arith), all_wider m n ps l a.1)

wider_some : (m n : ℕ) (o : Option ℕ) → m ≤ n → IfSome o (λ q. q < m) → IfSome o (λ q. q < n)
wider_some m n None l h = tt
wider_some m n (Some q) l h = let g : q < m = h in omega arith

pub added_sound : (l : Lists) (h : Held) → IsSound l → IsTrue (is_some l.begun) → place_in (nodes_of l.held) h.node.name ≡ None → h.before ≡ h.node.first → h.occ ≡ None
    → h.target ≡ None → IsSound (added_lists h l)
added_sound l h k begun new before occ target = record {
  first = (let a = k.first in let m = more in omega arith);
  idle = λ b. absurd (let f : is_some l.begun ≡ false = ap is_some b in cc);
  quiet = k.quiet;
  listed = λ p g e i. elim (pushed_cases l.held h g p e) [
    | inl a ↦ k.listed p g a i
    | inr a ↦ absurd (let f : is_some g.occ ≡ false = ap (λ (z : Held). is_some z.occ) a.1 ∙ ap is_some occ in cc)
  ];
  inside = all_wider (length l.held) (length (l.held ++ h ∷ [])) l.fired (let m = more in omega arith) k.inside;
  before = λ p g e. elim (pushed_cases l.held h g p e) [
    | inl a ↦ k.before p g a ∙ sym (by_name g.node.name false (other_name (nodes_of l.held) h.node.name p g.node k.distinct new (get_map (λ (z : Held). z.node) l.held p g a)))
    | inr a ↦ ap (λ (z : Held). z.before) a.1 ∙ before ∙ sym (by_name h.node.name true (name_eq-same h.node.name)) ∙ ap (λ (z : Held). pre_by l.past l.first (nodes_of (l.held ++ h ∷ [])) z.node.name) (sym a.1)
  ];
  aims = λ p g e. wider_some (length l.held) (length (l.held ++ h ∷ [])) g.target (let m = more in omega arith) (elim (pushed_cases l.held h g p e) [
    | inl a ↦ k.aims p g a
    | inr a ↦ subst (λ o. IfSome o (λ q. q < length l.held)) (sym (ap (λ (z : Held). z.target) a.1 ∙ target)) tt
  ]);
  distinct = ap (λ ns. are_distinct (names ns)) (nodes_added l.held h) ∙ distinct_added (nodes_of l.held) h.node k.distinct new;
  rising = k.rising;
  facts = k.facts;
  later = k.later;
  shown = λ n. k.shown n ∙ ap (λ ns. node_in ns n) (sym (ap (take l.first) (nodes_added l.held h) ∙ take-append-le l.first (nodes_of l.held) (h.node ∷ []) fits));
  above = k.above;
}
  where
    more : length (l.held ++ h ∷ []) ≡ length l.held + 1
    more = length-append l.held (h ∷ [])

    fits : l.first ≤ length (nodes_of l.held)
    fits = let a = k.first in let b = length_nodes l.held in omega arith

    by_name : (n : Name) (b : Bool) → name_eq h.node.name n ≡ b → pre_by l.past l.first (nodes_of (l.held ++ h ∷ [])) n ≡ (if b then h.node.first else pre_by l.past l.first (nodes_of l.held) n)
    by_name n b t =
        ap (λ ns. pre_by l.past l.first ns n) (nodes_added l.held h) ∙ pre_added l.past l.first (nodes_of l.held) h.node n fits new k.shown
        ∙ ap (λ c. if c then h.node.first else pre_by l.past l.first (nodes_of l.held) n) t

-- The index.

entered_indexed : (old new : BTreeMap Name ℕ) (nodes : List Node) (x : Node) → place_in nodes x.name ≡ None → ((n : Name) → IsIndexed old n (place_in nodes n))
    → HasEntered old new x.name (length nodes) → (n : Name) → IsIndexed new n (place_in (nodes ++ x ∷ []) n)
entered_indexed old new nodes x e i h n = by (place_in nodes n) refl (i n) where
  at_end : (c : Bool) → name_eq x.name n ≡ c → get name_cmp old n ≡ None → IsIndexed new n (if c then Some (length nodes) else None)
  at_end true t o =
      h n ∙ ap (λ b. if b then (if item_of x.name == length nodes then None else Some (length nodes)) else get name_cmp old n) t
      ∙ ap (λ m. if item_of m == length nodes then None else Some (length nodes)) (name_same x.name n t)
  at_end false t o = h n ∙ ap (λ b. if b then (if item_of x.name == length nodes then None else Some (length nodes)) else get name_cmp old n) t ∙ o

  by : (o : Option ℕ) → place_in nodes n ≡ o → IsIndexed old n o → IsIndexed new n (place_in (nodes ++ x ∷ []) n)
  by None q o = subst (IsIndexed new n) (sym (place_next nodes x n q)) (at_end (name_eq x.name n) refl o)
  by (Some p) q o =
      let differs : name_eq x.name n ≡ false = elim (bool_cases (name_eq x.name n)) [
        | inl t ↦ absurd (let z : Some p ≡ None = sym q ∙ ap (place_in nodes) (sym (name_same x.name n t)) ∙ e in cc)
        | inr f ↦ f
      ] in
      subst (IsIndexed new n) (sym (place_more nodes x n p q))
      (h n ∙ ap (λ b. if b then (if item_of x.name == length nodes then None else Some (length nodes)) else get name_cmp old n) differs ∙ o)

forgotten_indexed : (old new : BTreeMap Name ℕ) (nodes : List Node) (x : Node) → are_distinct (names (nodes ++ x ∷ [])) ≡ true
    → ((n : Name) → IsIndexed old n (place_in (nodes ++ x ∷ []) n)) → HasForgotten old new x.name (length nodes) → (n : Name) → IsIndexed new n (place_in nodes n)
forgotten_indexed old new nodes x d i h n = by (place_in nodes n) refl where
  none : (c b : Bool) → name_eq x.name n ≡ c → item_of x.name == length nodes ≡ b → IsIndexed old n (if c then Some (length nodes) else None)
      → (if b then get name_cmp old n else (if c then None else get name_cmp old n)) ≡ None
  none true true t u o = o ∙ ap (λ m. if item_of m == length nodes then None else Some (length nodes)) (sym (name_same x.name n t)) ∙ ap (λ b. if b then None else Some (length nodes)) u
  none true false t u o = refl
  none false true t u o = o
  none false false t u o = o

  same : (b : Bool) → (if b then get name_cmp old n else get name_cmp old n) ≡ get name_cmp old n
  same true = refl
  same false = refl

  by : (o : Option ℕ) → place_in nodes n ≡ o → IsIndexed new n o
  by None q =
      h n ∙ none (name_eq x.name n) (item_of x.name == length nodes) refl refl (subst (IsIndexed old n) (place_next nodes x n q) (i n))
  by (Some p) q =
      let there : place_in (nodes ++ x ∷ []) n ≡ Some p = place_more nodes x n p q in
      let differs : name_eq x.name n ≡ false = elim (bool_cases (name_eq x.name n)) [
        | inl t ↦ absurd (
            let last : place_in (nodes ++ x ∷ []) n ≡ Some (length nodes) = place_at (nodes ++ x ∷ []) n (length nodes) x d (get_last nodes x) t in
            let z : Some p ≡ Some (length nodes) = sym there ∙ last in
            let w : p ≡ length nodes = cc in
            let at = place_shows nodes n p q in
            let l = slice_get_within nodes p at.0 at.1 in
            omega arith)
        | inr f ↦ f
      ] in
      h n ∙ ap (λ c. if item_of x.name == length nodes then get name_cmp old n else (if c then None else get name_cmp old n)) differs ∙ same (item_of x.name == length nodes)
      ∙ subst (IsIndexed old n) there (i n)
    where
      get_last : (xs : List Node) (y : Node) → slice_get (xs ++ y ∷ []) (length xs) ≡ Some y
      get_last [] y = refl
      get_last (z ∷ xs) y = get_last xs y

-- Those that want a node.

unknown_fewer : (nodes : List Node) (x : Node) (n : Option Name) → is_unknown (nodes ++ x ∷ []) n ≡ true → is_unknown nodes n ≡ true
unknown_fewer nodes x None t = t
unknown_fewer nodes x (Some m) t = by (place_in nodes m) refl where
  by : (o : Option ℕ) → place_in nodes m ≡ o → not (is_some o) ≡ true
  by None q = refl
  by (Some p) q = absurd (let f : not (is_some (place_in (nodes ++ x ∷ []) m)) ≡ false = ap (λ o. not (is_some o)) (place_more nodes x m p q) in cc)

wants_fewer : (nodes : List Node) (x y : Node) → wants (nodes ++ x ∷ []) y.shape ≡ true → wants nodes y.shape ≡ true
wants_fewer nodes x y t =
    three _ _ _ _ _ _ (unknown_fewer nodes x (slice_get (own_links y.shape) 0)) (unknown_fewer nodes x (slice_get (own_links y.shape) 1)) (unknown_fewer nodes x (slice_get (watched y.shape) 0)) t
  where
    three : (a b c d e f : Bool) → (a ≡ true → d ≡ true) → (b ≡ true → e ≡ true) → (c ≡ true → f ≡ true) → a || b || c ≡ true → d || e || f ≡ true
    three true b c d e f g h i t = rw (g refl) refl
    three false true c true e f g h i t = refl
    three false true c false e f g h i t = rw (h refl) refl
    three false false true true e f g h i t = refl
    three false false true false true f g h i t = refl
    three false false true false false f g h i t = i refl
    three false false false d e f g h i t = absurd cc

-- The tables with a node more.

-- what depends on a node has room in lists with no more nodes
added_room : (l i : Lists) (h : Held) (ds : List Dependents) (b : Dependents) (fs : List Dependents) → length ds ≡ length l.held
    → fs ≡ filed (nodes_of l.held ++ h.node ∷ []) h.node (length (nodes_of l.held)) (ds ++ b ∷ []) → length i.held ≤ length l.held → HasRoom ds i → HasRoom fs i
added_room l i h ds b fs many f few r e d g =
    let c = filed_room (nodes_of l.held ++ h.node ∷ []) h.node (length (nodes_of l.held)) (ds ++ b ∷ []) e d (ap (λ xs. slice_get xs e) (sym f) ∙ g) in
    elim (pushed_cases ds b c.0 e c.1) [
      | inl j ↦ let a = r e c.0 j in let m = c.2 in omega arith
      | inr j ↦
          let past : slice_get (nodes_of i.held) e ≡ None = get_past (nodes_of i.held) e (let n = length_nodes i.held in let q = j.0 in omega arith) in
          let none : length (dependents_of (state_in i) e) ≡ 0 = ap (λ o. length (dependents_at (state_in i) o e)) past in
          omega (arith, none)
    ]

with_wanted : (c : Bool) (p : ℕ) (w : List ℕ) (q : ℕ) → has w q ≡ true → has (if c then with_place p w else w) q ≡ true
with_wanted true p w q h = has_with p w q ∙ or_right (p == q) (has w q) h where
  or_right : (a b : Bool) → b ≡ true → a || b ≡ true
  or_right true b h = refl
  or_right false b h = h
with_wanted false p w q h = h

added_wanted : (nodes : List Node) (x : Node) (w : List ℕ) → IsWanted w nodes → IsWanted (if wants (nodes ++ x ∷ []) x.shape then with_place (length nodes) w else w) (nodes ++ x ∷ [])
added_wanted nodes x w k p y g t = elim (pushed_cases nodes x y p g) [
  | inl a ↦ with_wanted (wants (nodes ++ x ∷ []) x.shape) (length nodes) w p (k p y a (wants_fewer nodes x y t))
  | inr a ↦ by (wants (nodes ++ x ∷ []) x.shape) (ap (λ (z : Node). wants (nodes ++ x ∷ []) z.shape) (sym a.1) ∙ t) (sym a.0)
]
  where
    by : (c : Bool) → c ≡ true → length nodes ≡ p → has (if c then with_place (length nodes) w else w) p ≡ true
    by true t q = has_with (length nodes) w p ∙ ap (λ c. c || has w p) ((unsigned_Decides (length nodes) p).1 q)
    by false t q = absurd cc

all_with : (p n : ℕ) (qs : List ℕ) → p < n → AllByRecursion (λ q. q < n) qs → AllByRecursion (λ q. q < n) (with_place p qs)
all_with p n [] l a = (l, tt)
all_with p n (q ∷ qs) l a = by (nat_lt q p) (q == p) (all_with p n qs l a.1) where
  by : (c e : Bool) → AllByRecursion (λ r. r < n) (with_place p qs) → AllByRecursion (λ r. r < n) (if c then q ∷ with_place p qs else (if e then q ∷ qs else p ∷ q ∷ qs))
  by true e h = (a.0, h)
  by false true h = a
  by false false h = (l, a)

added_inside : (c : Bool) (nodes : List Node) (x : Node) (w : List ℕ) → AllByRecursion (λ q. q < length nodes) w → AllByRecursion (λ q. q < length (nodes ++ x ∷ [])) (if c then with_place (length nodes) w else w)
added_inside true nodes x w a =
    let n = length-append nodes (x ∷ []) in
    all_with (length nodes) (length (nodes ++ x ∷ [])) w (omega arith) (all_wider (length nodes) (length (nodes ++ x ∷ [])) w (omega arith) a)
added_inside false nodes x w a = let n = length-append nodes (x ∷ []) in all_wider (length nodes) (length (nodes ++ x ∷ [])) w (omega arith) a

added_rising : (c : Bool) (p : ℕ) (w : List ℕ) → IsRising w → IsRising (if c then with_place p w else w)
added_rising true p w r = rising_with p w r
added_rising false p w r = r

pub target_inside : (held : List Held) → ((p : ℕ) (h : Held) → slice_get held p ≡ Some h → IfSome h.target (λ q. q < length held))
    → (r : ℕ) (t : Option ℕ) → slice_get (targets_of held) r ≡ Some t → IfSome t (λ q. q < length (nodes_of held))
target_inside held k r t e =
    let h = get_map_back (λ (g : Held). g.target) held r t e in
    wider_some (length held) (length (nodes_of held)) t (let n = length_nodes held in omega arith) (subst (λ o. IfSome o (λ q. q < length held)) h.2 (k r h.0 h.1))

pub added_kept : (cs more : List Change) (l : Lists) (edges new : Edges) (h : Held) (b : Dependents) → more ≡ cs ++ Added ∷ [] → AreKept cs l edges
    → IsTrue (is_some l.begun) → place_in (nodes_of l.held) h.node.name ≡ None → h.before ≡ h.node.first → h.occ ≡ None → h.target ≡ None
    → AreLinkedBefore (nodes_of l.held) edges.wanting.items h.node.name b → HasSpareToFile (nodes_of l.held) h.node edges.lists.items
    → new.lists.items ≡ filed (nodes_of l.held ++ h.node ∷ []) h.node (length (nodes_of l.held)) (edges.lists.items ++ b ∷ [])
    → new.wanting.items ≡ (if wants (nodes_of l.held ++ h.node ∷ []) h.node.shape then with_place (length (nodes_of l.held)) edges.wanting.items else edges.wanting.items)
    → HasEntered edges.index new.index h.node.name (length (nodes_of l.held)) → AreKept more (added_lists h l) new
added_kept cs more l edges new h b m k begun fresh before occ target linked spare ls ws index =
    kept_more cs more Added l (added_lists h l) edges new m k (added_back l h) (added_sound l h s begun fresh before occ target)
    (subst (λ ns. AreLinked new ns (targets_of (l.held ++ h ∷ []))) (sym (nodes_added l.held h))
    (subst (λ ts. AreLinked new (nodes ++ h.node ∷ []) ts) (sym (targets_added l.held h ∙ ap (λ t. targets_of l.held ++ t ∷ []) target)) (record {
      listed = subst (λ xs. AreListed xs (nodes ++ h.node ∷ []) (targets_of l.held ++ None ∷ [])) (sym ls)
          (filed_listed nodes (targets_of l.held) h.node edges.lists.items b edges.wanting.items k.linked.listed (length_targets l.held ∙ sym (length_nodes l.held))
          (target_inside l.held s.aims) fresh wanted linked (distinct_added nodes h.node s.distinct fresh) room);
      indexed = entered_indexed edges.index new.index nodes h.node fresh k.linked.indexed index;
      inside = subst (AllByRecursion (λ q. q < length (nodes ++ h.node ∷ []))) (sym ws) (added_inside (wants (nodes ++ h.node ∷ []) h.node.shape) nodes h.node edges.wanting.items k.linked.inside);
      rising = subst IsRising (sym ws) (added_rising (wants (nodes ++ h.node ∷ []) h.node.shape) (length nodes) edges.wanting.items k.linked.rising);
    })))
    (subst (λ ns. IsWanted new.wanting.items ns) (sym (nodes_added l.held h)) (subst (λ w. IsWanted w (nodes ++ h.node ∷ [])) (sym ws) (added_wanted nodes h.node edges.wanting.items wanted)))
    (λ ns w p y g t. ap (λ ps. has ps p) ws ∙ with_wanted (wants (nodes ++ h.node ∷ []) h.node.shape) (length nodes) edges.wanting.items p (w p y g t))
    (λ i few r. added_room l i h edges.lists.items b new.lists.items (k.linked.listed.count ∙ length_nodes l.held) ls few r)
  where
    nodes : List Node
    nodes = nodes_of l.held

    s : IsSound l
    s = sound_now cs l edges k

    wanted : IsWanted edges.wanting.items nodes
    wanted = of_now (λ (i : Lists). IsWanted edges.wanting.items (nodes_of i.held)) cs l k.wanted

    room : HasRoomToFile (nodes ++ h.node ∷ []) h.node (length nodes) (edges.lists.items ++ b ∷ [])
    room =
        file_room nodes (targets_of l.held) h.node edges.lists.items b edges.wanting.items k.linked.listed (length_targets l.held ∙ sym (length_nodes l.held))
        (target_inside l.held s.aims) fresh wanted linked spare

-- The tables with a node fewer.

all_without : (p : ℕ) (qs : List ℕ) → IsRising qs → AllByRecursion (λ q. q < suc p) qs → AllByRecursion (λ q. q < p) (without_place p qs)
all_without p [] r a = tt
all_without p (q ∷ qs) r a = by (nat_lt q p) refl (q == p) (unsigned_Decides q p) (all_without p qs r.1 a.1) where
  none : (rs : List ℕ) → q ≡ p → AllByRecursion (λ s. q < s) rs → AllByRecursion (λ s. s < suc p) rs → AllByRecursion (λ s. s < p) rs
  none [] e u v = tt
  none (s ∷ rs) e u v = absurd (let x : q < s = u.0 in let y : s < suc p = v.0 in omega arith)

  by : (c : Bool) → nat_lt q p ≡ c → (e : Bool) → Decides e (q ≡ p) → AllByRecursion (λ s. s < p) (without_place p qs)
      → AllByRecursion (λ s. s < p) (if c then q ∷ without_place p qs else (if e then qs else q ∷ qs))
  by true t e d h = ((let l : q < p = grind (arith, nat_tests) in l), h)
  by false t true d h = none qs (d.0 refl) r.0 a.1
  by false t false d h =
      let up : p < q = (let m : q ≡ p → ⊥ = (λ x. let y : false ≡ true = d.1 x in absurd cc) in grind (arith, nat_tests)) in
      absurd (let v : q < suc p = a.0 in omega arith)

removed_wanted : (w : List ℕ) (p : ℕ) (nodes : List Node) → IsRising w → length nodes ≤ p → IsWanted w nodes → IsWanted (without_place p w) nodes
removed_wanted w p nodes r l k q y g t =
    has_without p w q r ∙ ap (λ c. not c && has w q) differs ∙ k q y g t
  where
    differs : p == q ≡ false
    differs = by (p == q) (unsigned_Decides p q) where
      by : (b : Bool) → Decides b (p ≡ q) → b ≡ false
      by true d = absurd (let e = d.0 refl in let i = slice_get_within nodes q y g in omega arith)
      by false d = refl

pub removed_kept : (cs : List Change) (l : Lists) (edges new : Edges) (front : List Held) (h : Held) → AreKept (cs ++ Added ∷ []) l edges → l.held ≡ front ++ h ∷ []
    → new.lists.items ≡ take (length (nodes_of front)) (unfiled (nodes_of front ++ h.node ∷ []) h.node (length (nodes_of front)) (left h.target (length (nodes_of front)) edges.lists.items))
    → new.wanting.items ≡ without_place (length (nodes_of front)) edges.wanting.items
    → HasForgotten edges.index new.index h.node.name (length (nodes_of front)) → AreKept cs (record l { held = front }) new
removed_kept cs l edges new front h k e ls ws index =
    kept_fewer cs Added l (record l { held = front }) edges new k (sym back)
    (record {
      listed = subst (λ xs. AreListed xs nodes (targets_of front)) (sym ls) (unfiled_listed nodes (targets_of front) h.node h.target edges.lists.items same listed once);
      indexed = forgotten_indexed edges.index new.index nodes h.node once (λ n. subst (λ ns. IsIndexed edges.index n (place_in ns n)) all (k.linked.indexed n)) index;
      inside = subst (AllByRecursion (λ q. q < length nodes)) (sym ws) (all_without (length nodes) edges.wanting.items k.linked.rising inside);
      rising = subst IsRising (sym ws) (rising_without (length nodes) edges.wanting.items k.linked.rising);
    })
    (λ j. subst (λ w. IsWanted w (nodes_of (undo_all (drop j cs) (undo Added l)).held)) (sym ws)
    (removed_wanted edges.wanting.items (length nodes) (nodes_of (undo_all (drop j cs) (undo Added l)).held) k.linked.rising (few j)
    (popped_all (λ (i : Lists). IsWanted edges.wanting.items (nodes_of i.held)) cs Added l k.wanted j)))
    (λ i r q d g.
    let c = unfiled_room nodes (targets_of front) h.node h.target edges.lists.items same listed once q d (ap (λ xs. slice_get xs q) (sym ls) ∙ g) in
    let a = r q c.0 c.1 in let b = c.2 in omega arith)
  where
    nodes : List Node
    nodes = nodes_of front

    back : undo Added l ≡ (record l { held = front })
    back = ap (λ hs. record l { held = but_last hs }) e ∙ ap (λ hs. record l { held = hs }) (but_last_pushed front h)

    all : nodes_of l.held ≡ nodes ++ h.node ∷ []
    all = ap nodes_of e ∙ nodes_added front h

    turns : targets_of l.held ≡ targets_of front ++ h.target ∷ []
    turns = ap targets_of e ∙ targets_added front h

    same : length (targets_of front) ≡ length nodes
    same = length_targets front ∙ sym (length_nodes front)

    listed : AreListed edges.lists.items (nodes ++ h.node ∷ []) (targets_of front ++ h.target ∷ [])
    listed = subst (λ ns. AreListed edges.lists.items ns (targets_of front ++ h.target ∷ [])) all (subst (λ ts. AreListed edges.lists.items (nodes_of l.held) ts) turns k.linked.listed)

    once : are_distinct (names (nodes ++ h.node ∷ [])) ≡ true
    once = ap (λ ns. are_distinct (names ns)) (sym all) ∙ (of_now IsSound (cs ++ Added ∷ []) l k.sound).distinct

    inside : AllByRecursion (λ q. q < suc (length nodes)) edges.wanting.items
    inside = subst (λ n. AllByRecursion (λ q. q < n) edges.wanting.items) (ap length all ∙ length-append nodes (h.node ∷ []) ∙ plus_one (length nodes)) k.linked.inside where
      plus_one : (n : ℕ) → n + 1 ≡ suc n
      plus_one n = omega arith

    few : (j : ℕ) → length (nodes_of (undo_all (drop j cs) (undo Added l)).held) ≤ length nodes
    few j =
        let a = undone_fewer (drop j cs) (undo Added l) in
        let b = length_nodes (undo_all (drop j cs) (undo Added l)).held in
        let c : length (undo Added l).held ≡ length front = ap (λ (i : Lists). length i.held) back in
        let d = length_nodes front in
        omega arith

-- The tables, as they are written.

abbrev pub born : Node → Option Val → Held
born x value = record { node = x; before = value; occ = None; target = None }

module _ (t : Tables) (x : Node) (value : Option Val) (d : Dependents) (held : List Held) (p : ℕ) (lists : List Dependents) (ready : IsReady x value d t)
    (is : held ≡ t.held.items ++ born x value ∷ []) (where_at : p ≡ length t.held.items) (put : lists ≡ t.edges.lists.items ++ d ∷ []) where
  nodes : List Node
  nodes = nodes_of t.held.items

  old : Edges
  old = record t.edges { index = ready.index }

  s : IsSound (lists_of t)
  s = sound_now t.changes.items (lists_of t) (record t.edges { index = ready.index }) ready.kept

  all : nodes_of held ≡ nodes_of t.held.items ++ x ∷ []
  all = ap nodes_of is ∙ nodes_added t.held.items (born x value)

  place : p ≡ length (nodes_of t.held.items)
  place = where_at ∙ sym (length_nodes t.held.items)

  here : slice_get (nodes_of held) p ≡ Some x
  here = ap (λ ns. slice_get ns p) all ∙ ap (slice_get (nodes_of t.held.items ++ x ∷ [])) place ∙ get_pushed (nodes_of t.held.items) x

  entered : HasEntered ready.index t.edges.index x.name (length (nodes_of t.held.items))
  entered = subst (HasEntered ready.index t.edges.index x.name) (sym (length_nodes t.held.items)) ready.entered

  pub ready_findable : IsFindable (nodes_of held) t.edges.index
  ready_findable = subst (λ ns. IsFindable ns t.edges.index) (sym all) (record {
    distinct = distinct_added (nodes_of t.held.items) x s.distinct ready.new;
    indexed = entered_indexed ready.index t.edges.index (nodes_of t.held.items) x ready.new ready.kept.linked.indexed entered;
  })

  pub ready_room : (y : Node) → slice_get (nodes_of held) p ≡ Some y → HasRoomToFile (nodes_of held) y p lists
  ready_room y g =
      let both : Some x ≡ Some y = sym here ∙ g in
      let same : x ≡ y = cc in
      subst (λ ns. HasRoomToFile ns y p lists) (sym all) (subst (λ q. HasRoomToFile (nodes_of t.held.items ++ x ∷ []) y q lists) (sym place)
      (subst (λ ds. HasRoomToFile (nodes_of t.held.items ++ x ∷ []) y (length (nodes_of t.held.items)) ds) (sym put)
      (subst (λ z. HasRoomToFile (nodes_of t.held.items ++ x ∷ []) z (length (nodes_of t.held.items)) (t.edges.lists.items ++ d ∷ [])) same
      (file_room (nodes_of t.held.items) (targets_of t.held.items) x t.edges.lists.items d t.edges.wanting.items ready.kept.linked.listed
      (length_targets t.held.items ∙ sym (length_nodes t.held.items)) (target_inside t.held.items s.aims) ready.new
      (of_now (λ (i : Lists). IsWanted t.edges.wanting.items (nodes_of i.held)) t.changes.items (lists_of t) ready.kept.wanted) ready.linked ready.prepared.ends))))

  pub ready_kept : (more : List Change) (new : Edges) → more ≡ t.changes.items ++ Added ∷ []
      → ((y : Node) → slice_get (nodes_of held) p ≡ Some y → new.lists.items ≡ filed (nodes_of held) y p lists)
      → ((y : Node) → slice_get (nodes_of held) p ≡ Some y
      → new.wanting.items ≡ (if wants (nodes_of held) y.shape then with_place p t.edges.wanting.items else t.edges.wanting.items))
      → new.index ≡ t.edges.index → AreKept more (record (lists_of t) { held = held }) new
  ready_kept more new m ls ws index =
      subst (λ hs. AreKept more (record (lists_of t) { held = hs }) new) (sym is)
      (added_kept t.changes.items more (lists_of t) (record t.edges { index = ready.index }) new (born x value) d m ready.kept ready.begun ready.new ready.before refl refl ready.linked ready.prepared.ends
      (ls x here ∙ ap (λ ns. filed ns x p lists) all ∙ ap (λ q. filed (nodes_of t.held.items ++ x ∷ []) x q lists) place
      ∙ ap (filed (nodes_of t.held.items ++ x ∷ []) x (length (nodes_of t.held.items))) put)
      (ws x here ∙ ap (λ ns. if wants ns x.shape then with_place p t.edges.wanting.items else t.edges.wanting.items) all
      ∙ ap (λ q. if wants (nodes_of t.held.items ++ x ∷ []) x.shape then with_place q t.edges.wanting.items else t.edges.wanting.items) place)
      (subst (λ (i : BTreeMap Name ℕ). HasEntered ready.index i x.name (length (nodes_of t.held.items))) (sym index) entered))

  pub ready_base : (more : List Change) → more ≡ t.changes.items ++ Added ∷ []
      → state_in (undo_all more (record (lists_of t) { held = held })) ≡ state_in (undo_all t.changes.items (lists_of t))
  ready_base more m =
      ap state_in (pushed_base t.changes.items more Added (record (lists_of t) { held = held }) (lists_of t) m
      (ap (λ hs. undo Added (record (lists_of t) { held = hs })) is ∙ added_back (lists_of t) (born x value)))

-- a node for which all memory is there, and whose name was entered
pub ready_is : (s t u : Tables) (x : Node) (value : Option Val) (d : Dependents) → lists_of t ≡ lists_of s → u ≡ record t { edges = u.edges }
    → u.edges ≡ record t.edges { index = u.edges.index } → AreKept t.changes.items (lists_of t) t.edges → HasEntered t.edges.index u.edges.index x.name (length t.held.items)
    → IsTrue (is_some s.begun) → place_in (nodes_of s.held.items) x.name ≡ None → value ≡ x.first → AreLinkedBefore (nodes_of t.held.items) t.edges.wanting.items x.name d
    → IsPrepared x t → IsReady x value d u
ready_is s t u x value d same rest edges k entered begun new before linked prepared =
    let all : u ≡ record t { edges = record t.edges { index = u.edges.index } } = rest ∙ ap (λ e. record t { edges = e }) edges in
    subst (IsReady x value d) (sym all) (record {
      index = t.edges.index;
      kept = k;
      entered = entered;
      begun = ap (λ (l : Lists). is_some l.begun) same ∙ begun;
      new = ap (λ (l : Lists). place_in (nodes_of l.held) x.name) same ∙ new;
      before = before;
      linked = linked;
      prepared = record { held = prepared.held; lists = prepared.lists; wanting = prepared.wanting; changes = prepared.changes; ends = prepared.ends };
    })

-- the last node, and those before it
module _ (t : Tables) (cs : List Change) (k : AreKept (cs ++ Added ∷ []) (lists_of t) t.edges) where
  pub last_sound : IsSound (lists_of t)
  last_sound = of_now IsSound (cs ++ Added ∷ []) (lists_of t) k.sound

  pub last_findable : IsFindable (nodes_of t.held.items) t.edges.index
  last_findable = record { distinct = last_sound.distinct; indexed = k.linked.indexed }

  pub last_none : 0 ≡ length t.held.items → AreKept cs (lists_of t) t.edges
  last_none e = kept_behind cs Added (lists_of t) (lists_of t) t.edges k (ap (λ hs. record (lists_of t) { held = hs }) (sym (none t.held.items e))) refl refl where
    none : (hs : List Held) → 0 ≡ length hs → but_last hs ≡ hs
    none [] e = refl
    none (h ∷ hs) e = absurd (omega arith)

  pub last_kept : (p : ℕ) (held : List Held) (new : Edges) → p + 1 ≡ length t.held.items → held ≡ take p t.held.items
      → ((y : Node) → slice_get (nodes_of t.held.items) p ≡ Some y
      → new.lists.items ≡ take p (unfiled (nodes_of t.held.items) y p (left (at held_target t.held.items p) p t.edges.lists.items)))
      → new.wanting.items ≡ without_place p t.edges.wanting.items
      → ((y : Node) → slice_get (nodes_of t.held.items) p ≡ Some y → HasForgotten t.edges.index new.index y.name p)
      → AreKept cs (record (lists_of t) { held = held }) new
  last_kept p held new many is ls ws index =
      let split = snoc t.held.items (omega arith) in
      let front = split.0 in
      let h = split.1 in
      let all : nodes_of t.held.items ≡ nodes_of front ++ h.node ∷ [] = ap nodes_of split.2 ∙ nodes_added front h in
      let place : p ≡ length (nodes_of front) = (let a = ap length split.2 ∙ length-append front (h ∷ []) in let b = length_nodes front in omega arith) in
      let same : held ≡ front = is ∙ ap (λ q. take q t.held.items) (place ∙ length_nodes front) ∙ ap (take (length front)) split.2 ∙ taken front h in
      let here : slice_get (nodes_of t.held.items) p ≡ Some h.node = ap (λ ns. slice_get ns p) all ∙ ap (slice_get (nodes_of front ++ h.node ∷ [])) place ∙ get_pushed (nodes_of front) h.node in
      let aim : at held_target t.held.items p ≡ h.target =
      ap (λ hs. at held_target hs p) split.2 ∙ ap (at held_target (front ++ h ∷ [])) (place ∙ length_nodes front) ∙ ap (option_and_then held_target) (get_pushed front h) in
      subst (λ hs. AreKept cs (record (lists_of t) { held = hs }) new) (sym same)
      (removed_kept cs (lists_of t) t.edges new front h k split.2
      (ls h.node here ∙ ap (λ ns. take p (unfiled ns h.node p (left (at held_target t.held.items p) p t.edges.lists.items))) all
      ∙ ap (λ z. take p (unfiled (nodes_of front ++ h.node ∷ []) h.node p (left z p t.edges.lists.items))) aim
      ∙ ap (λ q. take q (unfiled (nodes_of front ++ h.node ∷ []) h.node q (left h.target q t.edges.lists.items))) place)
      (ws ∙ ap (λ q. without_place q t.edges.wanting.items) place)
      (subst (λ q. HasForgotten t.edges.index new.index h.node.name q) place (index h.node here)))
    where
      taken : (xs : List Held) (y : Held) → take (length xs) (xs ++ y ∷ []) ≡ xs
      taken [] y = refl
      taken (x ∷ xs) y = ap (λ zs. x ∷ zs) (taken xs y)

  pub last_length : (p : ℕ) (lists : List Dependents) → p + 1 ≡ length t.held.items
      → ((y : Node) → slice_get (nodes_of t.held.items) p ≡ Some y
      → lists ≡ unfiled (nodes_of t.held.items) y p (left (at held_target t.held.items p) p t.edges.lists.items))
      → p ≤ length lists
  last_length p lists many ls =
      let y = got (nodes_of t.held.items) p (let a = length_nodes t.held.items in omega arith) in
      let a = ap length (ls y.0 y.1) ∙ length_unfiled (nodes_of t.held.items) y.0 p (left (at held_target t.held.items p) p t.edges.lists.items) in
      let b = length_left (at held_target t.held.items p) p t.edges.lists.items in
      let c = k.linked.listed.count in
      let d = length_nodes t.held.items in
      omega arith

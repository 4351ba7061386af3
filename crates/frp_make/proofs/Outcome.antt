-- What stands where a search for first values is at its end.
use Rattle.std.proofs.Common.{◌≡◌, ℕ, zero, suc, ◌+◌, ◌-◌, ◌<◌, ◌≤◌, Bool, true, false, List, [], ◌∷◌, length, map, reverse, get_or, Option, Some, None, refl, sym, ap, ◌∙◌, subst, arith, inl, inr}
use Rattle.std.specs.Prelude.{◌&&◌, is_some, slice_get, option_map, unwrap_or}
use Rattle.std.proofs.lemmas.Bool.{cases_lt}
use Rattle.std.proofs.lemmas.List.{length-map, length-reverse, get_or-map, get_or-reverse}
use Rattle.std.proofs.lemmas.Option.{same_Some, slice_get-map}
use Rattle.frp_base.specs.declared.name.Name.{Name}
use Rattle.frp_base.specs.declared.val.Val.{Val}
use Rattle.frp_base.proofs.Booleans.{both_true, true_both, bool_cases, is_false}
use Rattle.frp_graph.specs.declared.trace.Node.{Node}
use Rattle.frp_graph.specs.declared.prog.Prog.{Prog}
use Rattle.frp_graph.specs.declared.shape.Shape.{Shape}
use Rattle.frp_graph.specs.declared.shape.Shape.TheVariants.{Constant, Hold}
use Rattle.frp_graph.specs.declared.evidence.Phase.TheVariants.{Birth}
use Rattle.frp_graph.specs.Trace.{Sight, Each, node_in}
use Rattle.frp_graph.specs.TypedProg.{is_cell}
use Rattle.frp_graph.specs.Births.{Plan}
use Rattle.frp_graph.specs.FirstValues.{first_value, IsBorn, AreBorn}
use Rattle.frp_graph.specs.Links.{first_or, is_linked, is_path, is_closed_chain}
use Rattle.frp_graph.specs.Evidence.{LeadsToChain}
use Rattle.frp_graph.specs.WellFormed.{fits_cell, HasFirsts}
use Rattle.frp_graph.proofs.Options.{some_there}
use Rattle.frp_graph.proofs.TypedFirsts.{first_typed}
use Rattle.frp_order.specs.Rings.{row, IsLinked, AreInside, IsRing}
use Rattle.frp_make.specs.Making.{with_born, AreMade, AreWhole, AreChained, IsFirstOut}
use Rattle.frp_make.specs.declared.made.FirstOut.{FirstOut}
use Rattle.frp_make.specs.declared.made.FirstOut.TheVariants.{Made, Chain}
use Rattle.frp_make.specs.Lines.{draft_of}
use Rattle.frp_make.specs.Firsts.{name_at, awaited_in}
use Rattle.frp_make.specs.Search.{is_linked_among, is_missing, one_if, count, missing_of, missing_at, State, has_given, IsSearch, IsGrown, AreGrown, AreDrafts}
use Rattle.frp_make.specs.Told.{IsNameRing, HasOrder, Tells}
use Rattle.frp_make.proofs.Items.{get_inside, get_there}
use Rattle.frp_make.proofs.Born.{node_place, one_place, new_node, new_before, old_before, born_or_old}
use Rattle.frp_make.proofs.Waiting.{is_none, awaited_link, awaited_none}
use Rattle.frp_make.proofs.Linking.{linked_value}
use Rattle.frp_make.proofs.Counting.{counted_at, count_found, in_row, found_row}
use Rattle.frp_make.proofs.Steps.{cell_of}
use Rattle.frp_make.proofs.Older.{closed_more, chains_before, whole_more, chain_new, leads_new}
use Rattle.frp_make.proofs.Drafting.{all_by_place}

-- A cell without a first value, by its count.

pub record IsWanting (nodes : List Node) (p : ℕ) : Type 0 where
  pub node : Node
  pub here : slice_get nodes p ≡ Some node
  pub cell : is_cell node.ty ≡ true
  pub missing : node.first ≡ None

pub wanting : (nodes : List Node) (p : ℕ) → 0 < missing_at nodes p → IsWanting nodes p
wanting nodes p h = by (slice_get nodes p) refl where
  some : (b : Bool) → 0 < one_if b → b ≡ true
  some true l = refl
  some false l = absurd (omega arith)

  by : (o : Option Node) → slice_get nodes p ≡ o → IsWanting nodes p
  by None e = absurd (let z : missing_at nodes p ≡ 0 = ap missing_of e in omega arith)
  by (Some x) e =
      let one : missing_at nodes p ≡ one_if (is_missing x) = ap missing_of e in
      let c = cell_of x (some (is_missing x) (omega arith)) in
      record { node = x; here = e; cell = c.0; missing = c.1 }

-- one without is counted
pub wanted : (nodes : List Node) (p : ℕ) (x : Node) → slice_get nodes p ≡ Some x → is_cell x.ty ≡ true → x.first ≡ None → missing_at nodes p ≡ 1
wanted nodes p x h c n = ap missing_of h ∙ rw (c, n) refl

-- a ring's places are places
pub ring_inside : (rows : List (List ℕ)) (ring : List ℕ) → AreInside rows → IsRing rows ring → (i : ℕ) → i < length ring → get_or ring i 0 < length rows
ring_inside rows ring inside is i l = elim (cases_lt 0 i) [
  | inl k ↦
      let e : (i - 1) + 1 ≡ i = omega arith in
      inside (get_or ring (i - 1) 0) (get_or ring i 0) (subst (λ j. IsLinked rows (get_or ring (i - 1) 0) (get_or ring j 0)) e (is.next (i - 1) (omega arith)))
  | inr k ↦
      let e : 0 ≡ i = omega arith in
      inside (get_or ring (length ring - 1) 0) (get_or ring i 0) (subst (λ j. IsLinked rows (get_or ring (length ring - 1) 0) (get_or ring j 0)) e is.round)
]

-- a given first value is that of no other shape
given_other : (prog : Prog) (w : Sight) (given other : Option Val) (shape : Shape) → has_given shape ≡ false → first_value prog w given shape ≡ first_value prog w other shape
given_other prog w given other Constant h = absurd cc
given_other prog w given other (Hold s) h = absurd cc
given_other prog w given other _ h = refl

module _ (prog : Prog) (w : Sight) (firsts : HasFirsts w) (find : Name → Option ℕ) (s : State) (h : IsSearch prog w find s) where
  abbrev W : Sight
  W = with_born w s.nodes

  abbrev linked : Name → Name → Bool
  linked = is_linked_among w s.nodes

  -- Waiting cells.

  waits_inside : (a b : ℕ) → IsLinked s.waiting a b → 0 < count b (row s.waiting a)
  waits_inside a b (i, l, e) = subst (λ r. 0 < count r (row s.waiting a)) e (counted_at (row s.waiting a) i l)

  waits_linked : (a b : ℕ) → 0 < count b (row s.waiting a) → IsLinked s.waiting a b
  waits_linked a b l = count_found b (row s.waiting a) l

  waiter : (a b : ℕ) → 0 < count b (row s.waiting a) → IsWanting s.nodes b
  waiter a b l = wanting s.nodes b (let k = in_row b a s.waiting in let p = h.placed b in omega arith)

  pub rows_inside : AreInside s.waiting
  rows_inside a b l =
      let x = waiter a b (waits_inside a b l) in
      subst (λ n. b < n) (sym h.rows) (get_inside s.nodes b x.node x.here)

  -- what a waiting cell waits for, and the link to it
  record IsAwaited (a b : ℕ) : Type 0 where
    from : IsWanting s.nodes b
    to : IsWanting s.nodes a
    linked : is_linked_among w s.nodes from.node.name to.node.name ≡ true
    none : (given : Option Val) → first_value prog W given from.node.shape ≡ None

  awaited : (a b : ℕ) → 0 < count b (row s.waiting a) → IsAwaited a b
  awaited a b l =
      let x = waiter a b l in
      let m = h.waits b a l in
      let same : m.node ≡ x.node = same_Some m.node x.node (sym m.found ∙ x.here) in
      let live = new_node s.nodes find h.stands.index w b x.node x.here in
      let awaits = subst (λ (y : Node). awaited_in w find s.nodes y.shape ≡ Some a) same m.awaits in
      let k = awaited_link find s.nodes h.stands.index prog w firsts h.stands.formed x.node.ty x.node.shape a (h.stands.formed.shapes x.node.name x.node live) x.cell awaits in
      record {
        from = x;
        to = record { node = k.node; here = k.here; cell = k.cell; missing = k.none };
        linked = linked_value w s.nodes find h.stands.index h.stands.new b a x.node k.node x.here k.here ∙ true_both _ _ x.cell (true_both _ _ k.cell k.leads);
        none = λ given. awaited_none find s.nodes h.stands.index prog w firsts h.stands.formed given x.node.shape a awaits;
      }

  -- Where nothing is to be looked at any more.
  module _ (done : s.todo ≡ []) where
    still_waits : (p : ℕ) → 0 < missing_at s.nodes p → (q : ℕ) × (0 < count p (row s.waiting q))
    still_waits p l =
        let none : count p s.todo ≡ 0 = ap (count p) done in
        let a = h.placed p in
        found_row p s.waiting (omega arith)

    -- each first value is that of the shape
    first_is : (p : ℕ) (x : Node) (given : Option Val) → slice_get s.nodes p ≡ Some x → ((g : Val) → given ≡ Some g → x.first ≡ Some g)
        → (has_given x.shape ≡ true → is_some given ≡ true) → x.first ≡ first_value prog W given x.shape
    first_is p x given e stays there = by x.first refl where
      by : (o : Option Val) → x.first ≡ o → x.first ≡ first_value prog W given x.shape
      by (Some v) f = elim (bool_cases (has_given x.shape)) [
        | inl g ↦
            let k = some_there given (there g) in
            let same : given ≡ Some v = k.1 ∙ sym (stays k.0 k.1) ∙ f in
            f ∙ sym (ap (λ (o : Option Val). first_value prog W o x.shape) same ∙ h.stands.own p x v e f)
        | inr g ↦ f ∙ sym (given_other prog W given (Some v) x.shape g ∙ h.stands.own p x v e f)
      ]
      by None f = elim (bool_cases (is_cell x.ty)) [
        | inl c ↦
            let one = wanted s.nodes p x e c f in
            let q = still_waits p (omega arith) in
            let a = awaited q.0 p q.1 in
            let same : a.from.node ≡ x = same_Some a.from.node x (sym a.from.here ∙ e) in
            f ∙ sym (subst (λ (y : Node). first_value prog W given y.shape ≡ None) same (a.none given))
        | inr c ↦
            let bare : given ≡ None = no_given given (λ g k. let z : None ≡ Some g = sym f ∙ stays g k in cc) in
            let live = new_node s.nodes find h.stands.index w p x e in
            let fit = first_typed prog W h.stands.formed given x (h.stands.formed.shapes x.name x live) (ap (fits_cell prog W x) bare) in
            f ∙ sym (no_value (first_value prog W given x.shape) c fit)
      ]
        where
          no_given : (o : Option Val) → ((g : Val) → o ≡ Some g → ⊥) → o ≡ None
          no_given None n = refl
          no_given (Some g) n = absurd (n g refl)

          no_value : (o : Option Val) → is_cell x.ty ≡ false → fits_cell prog W x o ≡ true → o ≡ None
          no_value None c fit = refl
          no_value (Some v) c fit = absurd (let k = (both_true _ _ fit).0 in let z : false ≡ true = sym c ∙ k in cc)

    -- The nodes are born as they were planned.

    born_from : (plans : List Plan) (nodes : List Node) → length nodes ≡ length plans
        → ((p : ℕ) (d : Plan) (x : Node) → slice_get plans p ≡ Some d → slice_get nodes p ≡ Some x → IsBorn prog W d x) → AreBorn prog W plans nodes
    born_from [] [] l f = tt
    born_from (d ∷ ds) (x ∷ xs) l f = (f 0 d x refl refl, born_from ds xs (omega arith) (λ p e y k j. f (suc p) e y k j))
    born_from [] (x ∷ xs) l f = absurd (omega arith)
    born_from (d ∷ ds) [] l f = absurd (omega arith)

    module _ (drafts : List Node) (are : AreDrafts prog w drafts) (grown : AreGrown drafts s.nodes) (plans : List Plan) (planned : drafts ≡ map draft_of plans) where
      draft_at : (p : ℕ) (d : Plan) → slice_get plans p ≡ Some d → slice_get drafts p ≡ Some (draft_of d)
      draft_at p d e = ap (λ (xs : List Node). slice_get xs p) planned ∙ slice_get-map draft_of plans p ∙ ap (option_map draft_of) e

      born_at : (p : ℕ) (d : Plan) (x : Node) → slice_get plans p ≡ Some d → slice_get s.nodes p ≡ Some x → IsBorn prog W d x
      born_at p d x e k =
          let g = grown.1 p (draft_of d) (draft_at p d e) in
          let same : g.0 ≡ x = same_Some g.0 x (sym g.1 ∙ k) in
          let is : IsGrown (draft_of d) x = subst (λ (y : Node). IsGrown (draft_of d) y) same g.2 in
          record {
            made = record { name = is.name; shape = is.shape; ty = is.ty };
            first = first_is p x d.given k is.first (λ g. are.given p (draft_of d) (draft_at p d e) ∙ ap has_given (sym is.shape) ∙ g)
                ∙ ap (first_value prog W d.given) is.shape;
          }

      pub made : AreMade prog w plans s.nodes
      made = record {
        born = born_from plans s.nodes (grown.0 ∙ ap length planned ∙ length-map plans draft_of) born_at;
        formed = h.stands.formed;
      }

  -- Chains.

  -- a node with its first value
  record Has (n : Name) : Type 0 where
    place : ℕ
    node : Node
    here : slice_get s.nodes place ≡ Some node
    named : node.name ≡ n
    there : is_some node.first ≡ true

  record Follows (a b : Name) (from : Has a) : Type 0 where
    to : Has b
    lower : h.stands.rank to.place < h.stands.rank from.place

  follow : (a b : Name) (from : Has a) → linked a b ≡ true → Follows a b from
  follow a b from l =
      let parts = both_true (is_some (node_in s.nodes a) && is_some (node_in s.nodes b)) _ l in
      let z = some_there (node_in s.nodes b) (both_true (is_some (node_in s.nodes a)) _ parts.0).1 in
      let q = node_place s.nodes b z.0 z.1 in
      let link : linked from.node.name z.0.name ≡ true = ap (λ n. linked n z.0.name) from.named ∙ ap (linked a) q.2 ∙ l in
      let back = h.stands.back from.place q.0 from.node z.0 from.here q.1 from.there link in
      record { to = record { place = q.0; node = z.0; here = q.1; named = q.2; there = back.0 }; lower = back.1 }

  falls : (a : Name) (ns : List Name) (end : Name) (from : Has a) → is_path linked (a ∷ ns) end ≡ true → Follows a end from
  falls a [] end from l = follow a end from (both_true (linked a end) true l).0
  falls a (b ∷ ns) end from l =
      let parts = both_true (linked a b) (is_path linked (b ∷ ns) end) l in
      let one = follow a b from parts.0 in
      let more = falls b ns end one.to parts.1 in
      record { to = more.to; lower = let k = one.lower in let m = more.lower in omega arith }

  same_place : (a : Name) (x y : Has a) → x.place ≡ y.place
  same_place a x y = one_place s.nodes find h.stands.index x.place y.place x.node y.node x.here y.here (x.named ∙ sym y.named)

  no_ring : (a : Name) (ns : List Name) → Has a → is_path linked (a ∷ ns) a ≡ true → ⊥
  no_ring a ns from l =
      let f = falls a ns a from l in
      let e : h.stands.rank f.to.place ≡ h.stands.rank from.place = ap h.stands.rank (same_place a f.to from) in
      let k = f.lower in
      omega arith

  closed_path : (n : Name) (ns : List Name) → is_closed_chain linked (n ∷ ns) ≡ true → is_path linked (n ∷ ns) n ≡ true
  closed_path n ns c = (both_true _ (is_path linked (n ∷ ns) n) c).1

  leads_nowhere : (n : Name) → Has n → LeadsToChain linked n → ⊥
  leads_nowhere n from l =
      let f = falls n l.way l.first from l.leads in
      no_ring l.first l.others f.to (closed_path l.first l.others l.closed)

  leads_to_none : (p : ℕ) (x : Node) → slice_get s.nodes p ≡ Some x → LeadsToChain linked x.name → x.first ≡ None
  leads_to_none p x e l = is_none x.first (is_false (is_some x.first) (λ t. leads_nowhere x.name (record { place = p; node = x; here = e; named = refl; there = t }) l))

  -- Where the waiting places are in an order, none waits.
  module _ (done : s.todo ≡ []) (o : HasOrder s) where
    later : (fuel p : ℕ) → 0 < missing_at s.nodes p → length o.order ≤ o.ordered.number p + fuel → ⊥
    later zero p l f =
        let x = wanting s.nodes p l in
        let i : p < length s.waiting = subst (λ n. p < n) (sym h.rows) (get_inside s.nodes p x.node x.here) in
        let b = (o.ordered.placed p i).0 in
        omega arith
    later (suc fuel) p l f =
        let q = still_waits done p l in
        let a = awaited q.0 p q.1 in
        let up : o.ordered.number p < o.ordered.number q.0 = o.ordered.back q.0 p (waits_linked q.0 p q.1) in
        let one = wanted s.nodes q.0 a.to.node a.to.here a.to.cell a.to.missing in
        later fuel q.0 (omega arith) (omega arith)

    all_there : (p : ℕ) (x : Node) → slice_get s.nodes p ≡ Some x → is_cell x.ty ≡ true → is_some x.first ≡ true
    all_there p x e c = by x.first refl where
      by : (o : Option Val) → x.first ≡ o → is_some x.first ≡ true
      by (Some v) f = ap is_some f
      by None f = absurd (let one = wanted s.nodes p x e c f in later (length o.order) p (omega arith) (omega arith))

    no_chain : (names : List Name) → is_closed_chain linked names ≡ false
    no_chain [] = refl
    no_chain (n ∷ ns) = is_false (is_closed_chain linked (n ∷ ns)) (λ c.
        let path = closed_path n ns c in
        no_ring n ns (has n ns path) path)
      where
        has : (n : Name) (ns : List Name) → is_path linked (n ∷ ns) n ≡ true → Has n
        has n ns path =
            let l = (both_true _ (is_path linked ns n) path).0 in
            let parts = both_true (is_some (node_in s.nodes n) && is_some (node_in s.nodes (first_or ns n))) _ l in
            let ends = both_true (is_some (node_in s.nodes n)) _ parts.0 in
            let x = some_there (node_in s.nodes n) ends.0 in
            let y = some_there (node_in s.nodes (first_or ns n)) ends.1 in
            let p = node_place s.nodes n x.0 x.1 in
            let q = node_place s.nodes (first_or ns n) y.0 y.1 in
            let link : linked x.0.name y.0.name ≡ true = ap (λ k. linked k y.0.name) p.2 ∙ ap (linked n) q.2 ∙ l in
            let cell = (both_true _ _ (sym (linked_value w s.nodes find h.stands.index h.stands.new p.0 q.0 x.0 y.0 p.1 q.1) ∙ link)).0 in
            record { place = p.0; node = x.0; here = p.1; named = p.2; there = all_there p.0 x.0 p.1 cell }

    first_seen : Each W (λ x. is_cell x.ty ≡ true → is_some x.first ≡ true)
    first_seen n y e c = elim (born_or_old s.nodes find h.stands.index w n y e) [ inl b ↦ all_there b.place y b.here c | inr o ↦ firsts.first n y o.1 c ]

    before_seen : Each W (λ x. is_cell x.ty ≡ true → is_some (W.pre x.name) ≡ true)
    before_seen n y e c = elim (born_or_old s.nodes find h.stands.index w n y e) [
      | inl b ↦ ap is_some (new_before s.nodes find h.stands.index w b.place y b.here) ∙ all_there b.place y b.here c
      | inr o ↦
          let none : find y.name ≡ None = ap find (h.stands.formed.named n y e) ∙ o.0 in
          ap is_some (old_before s.nodes find h.stands.index w y.name none) ∙ firsts.before n y o.1 c
    ]

    all_firsts : HasFirsts W
    all_firsts = record { first = first_seen; before = before_seen }

  -- A ring of waiting places is one of names, last place first.
  module _ (ring : List ℕ) (is : IsRing s.waiting ring) where
    abbrev names : List Name
    names = map (name_at s.nodes) ring

    in_nodes : (i : ℕ) → i < length ring → get_or ring i 0 < length s.nodes
    in_nodes i l = subst (λ n. get_or ring i 0 < n) h.rows (ring_inside s.waiting ring rows_inside is i l)

    named : (p : ℕ) (x : Node) → slice_get s.nodes p ≡ Some x → name_at s.nodes p ≡ x.name
    named p x e = ap (λ o. unwrap_or (option_map (λ (y : Node). y.name) o) []) e

    same_name : (p q : ℕ) → p < length s.nodes → q < length s.nodes → name_at s.nodes p ≡ name_at s.nodes q → p ≡ q
    same_name p q l k e =
        let x = get_there s.nodes p l in
        let y = get_there s.nodes q k in
        one_place s.nodes find h.stands.index p q x.0 y.0 x.1 y.1 (sym (named p x.0 x.1) ∙ e ∙ named q y.0 y.1)

    linked_at : (a b : ℕ) → IsLinked s.waiting a b → linked (name_at s.nodes b) (name_at s.nodes a) ≡ true
    linked_at a b l =
        let k = awaited a b (waits_inside a b l) in
        ap (λ n. linked n (name_at s.nodes a)) (named b k.from.node k.from.here) ∙ ap (linked k.from.node.name) (named a k.to.node k.to.here) ∙ k.linked

    long : length (reverse names) ≡ length ring
    long = length-reverse names ∙ length-map ring (name_at s.nodes)

    name_back : (i : ℕ) → i < length ring → get_or (reverse names) i [] ≡ name_at s.nodes (get_or ring (length ring - 1 - i) 0)
    name_back i l =
        let m : length names ≡ length ring = length-map ring (name_at s.nodes) in
        get_or-reverse names i [] (subst (λ n. i < n) (sym m) l)
        ∙ ap (λ n. get_or names (n - 1 - i) []) m
        ∙ get_or-map (name_at s.nodes) ring (length ring - 1 - i) 0 [] (omega arith)

    pub name_ring : IsNameRing linked (reverse names)
    name_ring = record {
      once = λ i j l k e.
          let a : i < length ring = subst (λ n. i < n) long l in
          let b : j < length ring = subst (λ n. j < n) long k in
          let same = same_name (get_or ring (length ring - 1 - i) 0) (get_or ring (length ring - 1 - j) 0) (in_nodes _ (omega arith)) (in_nodes _ (omega arith)) (sym (name_back i a) ∙ e ∙ name_back j b) in
          let at : length ring - 1 - i ≡ length ring - 1 - j = is.once (length ring - 1 - i) (length ring - 1 - j) (omega arith) (omega arith) same in
          omega arith;
      next = λ i l.
          let a : suc i < length ring = subst (λ n. suc i < n) long l in
          let e : (length ring - 1 - suc i) + 1 ≡ length ring - 1 - i = omega arith in
          let link = linked_at (get_or ring (length ring - 1 - suc i) 0) (get_or ring (length ring - 1 - i) 0)
          (subst (λ j. IsLinked s.waiting (get_or ring (length ring - 1 - suc i) 0) (get_or ring j 0)) e (is.next (length ring - 1 - suc i) (omega arith))) in
          ap (λ n. linked n (get_or (reverse names) (suc i) [])) (name_back i (omega arith)) ∙ ap (linked (name_at s.nodes (get_or ring (length ring - 1 - i) 0))) (name_back (suc i) a) ∙ link;
      round =
          let some = is.some in
          let first : length ring - 1 - (length ring - 1) ≡ 0 = omega arith in
          let last : length ring - 1 - 0 ≡ length ring - 1 = omega arith in
          let at_end : get_or (reverse names) (length (reverse names) - 1) [] ≡ name_at s.nodes (get_or ring 0 0)
          = ap (λ n. get_or (reverse names) (n - 1) []) long ∙ name_back (length ring - 1) (omega arith) ∙ ap (λ i. name_at s.nodes (get_or ring i 0)) first in
          let at_start : get_or (reverse names) 0 [] ≡ name_at s.nodes (get_or ring (length ring - 1) 0) = name_back 0 some ∙ ap (λ i. name_at s.nodes (get_or ring i 0)) last in
          ap (λ n. linked n (get_or (reverse names) 0 [])) at_end ∙ ap (linked (name_at s.nodes (get_or ring 0 0))) at_start
          ∙ linked_at (get_or ring (length ring - 1) 0) (get_or ring 0 0) is.round;
    }

  -- What it tells.
  module _ (done : s.todo ≡ []) (drafts : List Node) (are : AreDrafts prog w drafts) (grown : AreGrown drafts s.nodes) (plans : List Plan) (planned : drafts ≡ map draft_of plans) where
    fresh_after : (p : ℕ) (x : Node) → slice_get s.nodes p ≡ Some x → w.node x.name ≡ None
    fresh_after p x e =
        let y = get_there drafts p (subst (λ n. p < n) grown.0 (get_inside s.nodes p x e)) in
        let g = grown.1 p y.0 y.1 in
        let same : g.0 ≡ x = same_Some g.0 x (sym g.1 ∙ e) in
        ap w.node (ap (λ (z : Node). z.name) (sym same) ∙ g.2.name) ∙ are.fresh p y.0 y.1

    pub outcome : (out : FirstOut) → Tells s out → IsFirstOut prog w plans out
    outcome (Made nodes) (e, o) =
        subst (λ (xs : List Node). AreMade prog w plans xs × AreWhole w xs) (sym e) (
          made done drafts are grown plans planned,
          record { chains = chains_before w s.nodes fresh_after are.older (no_chain done o); firsts = all_firsts done o },
        )
    outcome (Chain nodes names) (e, r) =
        let closed : is_closed_chain linked names ≡ true = r.closes linked (name_ring r.ring r.is_ring) in
        subst (λ (xs : List Node). AreMade prog w plans xs × AreChained w xs names) (sym e) (
          made done drafts are grown plans planned,
          record {
            closed = closed_more linked (is_linked W Birth) (whole_more w s.nodes fresh_after are.older) names closed;
            new = chain_new w s.nodes fresh_after are.older names closed;
            missing = λ none. all_by_place (λ (x : Node). LeadsToChain (is_linked W Birth) x.name → x.first ≡ None) s.nodes (λ p x k l. leads_to_none p x k (leads_new w s.nodes fresh_after are.older none x.name l));
          },
        )

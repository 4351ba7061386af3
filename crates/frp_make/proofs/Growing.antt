-- What stands of nodes that are born, as the first value of one of them is found.
use Rattle.std.proofs.Common.{◌≡◌, ◌⊎◌, ℕ, zero, suc, ◌+◌, ◌<◌, true, false, List, [], ◌∷◌, length, set, Option, Some, None, refl, sym, ap, ◌∙◌, subst, arith, inl, inr}
use Rattle.std.specs.Prelude.{◌&&◌, is_some, slice_get, option_map, option_and_then, if◌then◌else◌, ◌==◌}
use Rattle.std.specs.List.{list_any}
use Rattle.std.specs.Cmp.{unsigned_Decides}
use Rattle.std.proofs.lemmas.Bool.{cases_eq, cases_lt}
use Rattle.std.proofs.lemmas.Option.{same_Some}
use Rattle.frp_base.specs.declared.name.Name.{Name}
use Rattle.frp_base.specs.declared.ty.Ty.{Ty, out-Ty}
use Rattle.frp_base.specs.declared.val.Val.{Val}
use Rattle.frp_base.specs.Name.{name_eq}
use Rattle.frp_base.proofs.Booleans.{both_true, true_both, is_false}
use Rattle.frp_expr.specs.Values.{is_of}
use Rattle.frp_graph.specs.declared.trace.Node.{Node}
use Rattle.frp_graph.specs.declared.prog.Prog.{Prog}
use Rattle.frp_graph.specs.declared.shape.Shape.{Shape}
use Rattle.frp_graph.specs.declared.shape.Shape.TheVariants.{Constant, Hold, Mapc, Apply, Loop, Switchc}
use Rattle.frp_graph.specs.Trace.{Sight, Each, node_first, post_in}
use Rattle.frp_graph.specs.Applied.{call, applied, target}
use Rattle.frp_graph.specs.TypedProg.{is_cell, sigs}
use Rattle.frp_graph.specs.FirstValues.{first_value}
use Rattle.frp_graph.specs.Links.{targets, birth_links, is_new}
use Rattle.frp_graph.specs.Values.{type_among, held_in, is_of_held}
use Rattle.frp_graph.specs.WellFormed.{fits_cell, Allows, IsWellFormed, HasFirsts}
use Rattle.frp_graph.specs.ShapeLaws.{Stays}
use Rattle.frp_graph.proofs.Allowed.{allowed_stays}
use Rattle.frp_graph.proofs.Options.{some_there, mapped_some, then_some}
use Rattle.frp_graph.proofs.TypedFirsts.{first_typed}
use Rattle.frp_make.specs.Making.{with_born}
use Rattle.frp_make.specs.Firsts.{IsIndex, missing_in, awaited_in}
use Rattle.frp_make.specs.Search.{is_linked_among, has_given, Stands}
use Rattle.frp_make.proofs.Items.{written_same, written_other, written_cases, get_inside}
use Rattle.frp_make.proofs.Born.{new_node, new_before, old_node, old_before}
use Rattle.frp_make.proofs.Waiting.{either_some, missing_seen, ready_links}
use Rattle.frp_make.proofs.Linking.{linked_value}

-- First values that are there stay where more values before and first values are.
module _ (prog : Prog) (few many : Sight) (pres : Stays few.pre many.pre)
    (firsts : (m : Name) (v : Val) → option_and_then node_first (few.node m) ≡ Some v → option_and_then node_first (many.node m) ≡ Some v) where
  pub first_stays : (given : Option Val) (shape : Shape) (v : Val) → first_value prog few given shape ≡ Some v → first_value prog many given shape ≡ Some v
  first_stays given Constant v e = e
  first_stays given (Hold s) v e = e
  first_stays given (Mapc f c) v e = let y = mapped_some (λ v. call prog f (v ∷ [])) (few.pre c) v e in rw (pres c y.0 y.1) (ap Some y.2)
  first_stays given (Apply cf ca) v e =
      let f = then_some (λ f. option_and_then (applied prog f) (few.pre ca)) (few.pre cf) v e in
      let y = then_some (applied prog f.0) (few.pre ca) v f.2 in
      rw (pres cf f.0 f.1, pres ca y.0 y.1) y.2
  first_stays given (Switchc c) v e =
      let d = then_some (λ d. few.pre (target d)) (few.pre c) v e in
      rw (pres c d.0 d.1) (pres (target d.0) v d.2)
  first_stays given (Loop to) v e = firsts to v e
  first_stays given _ v e = absurd cc

  -- and so do the links of Birth of a node that has its first value
  pub links_back : (given : Option Val) (shape : Shape) (v : Val) (n : Name) → first_value prog few given shape ≡ Some v
      → list_any (λ k. name_eq k n) (birth_links many (post_in many) shape) ≡ true → list_any (λ k. name_eq k n) (birth_links few (post_in few) shape) ≡ true
  links_back given (Switchc c) v n e h =
      let d = then_some (λ d. few.pre (target d)) (few.pre c) v e in
      let same : many.pre c ≡ few.pre c = pres c d.0 d.1 ∙ sym d.1 in
      ap (λ (o : Option Val). list_any (λ k. name_eq k n) (c ∷ targets o)) (sym same) ∙ h
  links_back given (Mapc f c) v n e h = h
  links_back given (Apply cf ca) v n e h = h
  links_back given (Loop to) v n e h = h
  links_back given _ v n e h = absurd cc

-- one that is not given is so whatever is given
pub not_given : (prog : Prog) (w : Sight) (given : Option Val) (shape : Shape) (v : Val) → first_value prog w None shape ≡ Some v → first_value prog w given shape ≡ Some v
not_given prog w given Constant v e = absurd cc
not_given prog w given (Hold s) v e = absurd cc
not_given prog w given _ v e = e

-- A rank above those of the first places.
abbrev above : ℕ → (ℕ → ℕ) → ℕ
above zero f = 0
above (suc n) f = above n f + f n + 1

below_above : (n : ℕ) (f : ℕ → ℕ) (q : ℕ) → q < n → f q < above n f
below_above zero f q h = absurd (omega arith)
below_above (suc n) f q h =
    let step : above (suc n) f ≡ above n f + f n + 1 = refl in
    elim (cases_lt q n) [
      | inl l ↦ let b = below_above n f q l in omega arith
      | inr l ↦ let e : q ≡ n = omega arith in let g : f q ≡ f n = ap f e in omega arith
    ]

module _ (prog : Prog) (w : Sight) (find : Name → Option ℕ) (nodes : List Node) (s : Stands prog w find nodes) (p : ℕ) (x : Node) (here : slice_get nodes p ≡ Some x) (missing : x.first ≡ None) (v : Val) where
  abbrev pub valued : Node
  valued = record { name = x.name; shape = x.shape; ty = x.ty; first = Some v }

  abbrev pub after : List Node
  after = set nodes p valued

  abbrev W : Sight
  W = with_born w nodes

  abbrev U : Sight
  U = with_born w after

  after_here : slice_get after p ≡ Some valued
  after_here = written_same nodes p valued x here

  pub was : (q : ℕ) (y : Node) → slice_get after q ≡ Some y → ((q ≡ p) × (valued ≡ y)) ⊎ ((q ≡ p → ⊥) × (slice_get nodes q ≡ Some y))
  was = written_cases nodes p x valued here

  pub index_after : IsIndex after find
  index_after = record {
    found = λ n q f.
        let y = s.index.found n q f in
        elim (cases_eq q p) [
          | inl e ↦
              let at_p : Some y.0 ≡ Some x = sym y.1 ∙ ap (slice_get nodes) e ∙ here in
              (valued, ap (slice_get after) e ∙ after_here, ap (λ (z : Node). z.name) (sym (same_Some y.0 x at_p)) ∙ y.2)
          | inr d ↦ (y.0, written_other nodes p q valued d ∙ y.1, y.2)
        ];
    all = λ q y e. elim (was q y e) [
      | inl c ↦ ap find (ap (λ (z : Node). z.name) (sym c.1)) ∙ s.index.all p x here ∙ ap Some (sym c.0)
      | inr c ↦ s.index.all q y c.1
    ];
  }

  -- What is seen is the same but at its name.

  record Same (n : Name) : Type 0 where
    node : U.node n ≡ W.node n
    pre : U.pre n ≡ W.pre n

  same_or_it : (n : Name) → Same n ⊎ (n ≡ x.name)
  same_or_it n = by (find n) refl where
    by : (o : Option ℕ) → find n ≡ o → Same n ⊎ (n ≡ x.name)
    by None f = inl (record {
      node = old_node after find index_after w n f ∙ sym (old_node nodes find s.index w n f);
      pre = old_before after find index_after w n f ∙ sym (old_before nodes find s.index w n f);
    })
    by (Some q) f =
        let y = s.index.found n q f in
        elim (cases_eq q p) [
          | inl e ↦
              let at_p : Some y.0 ≡ Some x = sym y.1 ∙ ap (slice_get nodes) e ∙ here in
              inr (sym y.2 ∙ ap (λ (z : Node). z.name) (same_Some y.0 x at_p))
          | inr d ↦
              let there : slice_get after q ≡ Some y.0 = written_other nodes p q valued d ∙ y.1 in
              inl (record {
                node = ap U.node (sym y.2) ∙ new_node after find index_after w q y.0 there ∙ sym (new_node nodes find s.index w q y.0 y.1) ∙ ap W.node y.2;
                pre = ap U.pre (sym y.2) ∙ new_before after find index_after w q y.0 there ∙ sym (new_before nodes find s.index w q y.0 y.1) ∙ ap W.pre y.2;
              })
        ]

  node_it : (n : Name) → n ≡ x.name → (U.node n ≡ Some valued) × (W.node n ≡ Some x)
  node_it n e = (ap U.node e ∙ new_node after find index_after w p valued after_here, ap W.node e ∙ new_node nodes find s.index w p x here)

  pre_it : (n : Name) → n ≡ x.name → (U.pre n ≡ Some v) × (W.pre n ≡ None)
  pre_it n e = (ap U.pre e ∙ new_before after find index_after w p valued after_here, ap W.pre e ∙ new_before nodes find s.index w p x here ∙ missing)

  types_at : (n : Name) → type_among U.node n ≡ type_among W.node n
  types_at n = elim (same_or_it n) [
    | inl e ↦ ap (option_map (λ (z : Node). z.ty)) e.node
    | inr e ↦ let i = node_it n e in ap (option_map (λ (z : Node). z.ty)) i.0 ∙ sym (ap (option_map (λ (z : Node). z.ty)) i.1)
  ]

  types : type_among U.node ≡ type_among W.node
  types = λ i n. types_at n i

  pub pres : Stays W.pre U.pre
  pres n z e = elim (same_or_it n) [
    | inl i ↦ i.pre ∙ e
    | inr i ↦ absurd (let none : Some z ≡ None = sym e ∙ (pre_it n i).1 in cc)
  ]

  pub firsts_stay : (m : Name) (z : Val) → option_and_then node_first (W.node m) ≡ Some z → option_and_then node_first (U.node m) ≡ Some z
  firsts_stay m z e = elim (same_or_it m) [
    | inl i ↦ ap (option_and_then node_first) i.node ∙ e
    | inr i ↦ absurd (let none : Some z ≡ None = sym e ∙ ap (option_and_then node_first) (node_it m i).1 ∙ missing in cc)
  ]

  -- The graph is well formed.

  held_same : (z : Val) (a : Option Ty) → is_of_held prog U.node z a ≡ is_of_held prog W.node z a
  held_same z None = refl
  held_same z (Some a) = ap (λ (t : Name → Option Ty). is_of t (sigs prog) z a) types

  cell_same : (y : Node) (o : Option Val) → fits_cell prog U y o ≡ fits_cell prog W y o
  cell_same y None = refl
  cell_same y (Some z) = ap (λ b. is_cell y.ty && b) (held_same z (held_in (out-Ty y.ty)))

  stays_allowed : (a : Ty) (shape : Shape) → Allows prog W a shape → Allows prog U a shape
  stays_allowed a shape h = allowed_stays prog W U (λ n b e. types_at n ∙ e) a shape h

  each : (P : Node → Type 0) → Each W P → P valued → Each U P
  each P old it n y e = elim (same_or_it n) [
    | inl i ↦ old n y (sym i.node ∙ e)
    | inr i ↦ subst P (same_Some valued y (sym (node_it n i).0 ∙ e)) it
  ]

  module _ (value : first_value prog W None x.shape ≡ Some v) where
    value_fits : fits_cell prog U valued (Some v) ≡ true
    value_fits =
        let fit = first_typed prog W s.formed None x (s.formed.shapes x.name x (node_it x.name refl).1) refl in
        cell_same valued (Some v) ∙ ap (fits_cell prog W x) (sym value) ∙ fit

    named_after : (n : Name) (y : Node) → U.node n ≡ Some y → y.name ≡ n
    named_after n y e = elim (same_or_it n) [
      | inl i ↦ s.formed.named n y (sym i.node ∙ e)
      | inr i ↦ ap (λ (z : Node). z.name) (sym (same_Some valued y (sym (node_it n i).0 ∙ e))) ∙ sym i
    ]

    befores_after : Each U (λ y. fits_cell prog U y (U.pre y.name) ≡ true)
    befores_after n y e =
        let named = named_after n y e in
        elim (same_or_it n) [
          | inl i ↦ cell_same y (U.pre y.name) ∙ ap (fits_cell prog W y) (ap U.pre named ∙ i.pre ∙ ap W.pre (sym named)) ∙ s.formed.befores n y (sym i.node ∙ e)
          | inr i ↦
              let is = same_Some valued y (sym (node_it n i).0 ∙ e) in
              subst (λ (z : Node). fits_cell prog U z (U.pre z.name) ≡ true) is (ap (fits_cell prog U valued) (pre_it x.name refl).0 ∙ value_fits)
        ]

    pub formed_after : IsWellFormed prog U
    formed_after = record {
      program = s.formed.program;
      shapes = each (λ y. Allows prog U y.ty y.shape) (λ n y e. stays_allowed y.ty y.shape (s.formed.shapes n y e)) (stays_allowed x.ty x.shape (s.formed.shapes x.name x (node_it x.name refl).1));
      named = named_after;
      firsts = each (λ y. fits_cell prog U y y.first ≡ true) (λ n y e. cell_same y y.first ∙ s.formed.firsts n y e) value_fits;
      befores = befores_after;
      occurrences = λ n y e. refl;
      aboves = λ n y e. refl;
      only_live = λ n z e. absurd cc;
    }

    -- Ranks.

    abbrev rank_after : ℕ → ℕ
    rank_after q = if q == p then above (length nodes) s.rank else s.rank q

    rank_it : (q : ℕ) → q ≡ p → rank_after q ≡ above (length nodes) s.rank
    rank_it q e = let t : q == p ≡ true = (unsigned_Decides q p).1 e in rw t refl

    rank_other : (q : ℕ) → (q ≡ p → ⊥) → rank_after q ≡ s.rank q
    rank_other q n = let t : q == p ≡ false = is_false (q == p) (λ h. n ((unsigned_Decides q p).0 h)) in rw t refl

    new_after : (q : ℕ) (y : Node) → slice_get after q ≡ Some y → is_new w y.name ≡ true
    new_after q y e = elim (was q y e) [
      | inl c ↦ subst (λ (z : Node). is_new w z.name ≡ true) c.1 (s.new p x here)
      | inr c ↦ s.new q y c.1
    ]

    -- the node at a place before
    record IsOld (q : ℕ) (y : Node) : Type 0 where
      node : Node
      at_it : slice_get nodes q ≡ Some node
      name : node.name ≡ y.name
      shape : node.shape ≡ y.shape
      ty : node.ty ≡ y.ty

    old_of : (q : ℕ) (y : Node) → slice_get after q ≡ Some y → IsOld q y
    old_of q y e = elim (was q y e) [
      | inl c ↦ record {
        node = x;
        at_it = ap (slice_get nodes) c.0 ∙ here;
        name = ap (λ (z : Node). z.name) c.1;
        shape = ap (λ (z : Node). z.shape) c.1;
        ty = ap (λ (z : Node). z.ty) c.1;
      }
      | inr c ↦ record { node = y; at_it = c.1; name = refl; shape = refl; ty = refl }
    ]

    own_after : (q : ℕ) (y : Node) (z : Val) → slice_get after q ≡ Some y → y.first ≡ Some z → first_value prog U (Some z) y.shape ≡ Some z
    own_after q y z e f = elim (was q y e) [
      | inl c ↦
          let same : v ≡ z = same_Some v z (ap (λ (z : Node). z.first) c.1 ∙ f) in
          let mine : first_value prog U (Some v) x.shape ≡ Some v = first_stays prog W U pres firsts_stay (Some v) x.shape v (not_given prog W (Some v) x.shape v value) in
          subst (λ (a : Val). first_value prog U (Some a) y.shape ≡ Some a) same (subst (λ (b : Node). first_value prog U (Some v) b.shape ≡ Some v) c.1 mine)
      | inr c ↦ first_stays prog W U pres firsts_stay (Some z) y.shape z (s.own q y z c.1 f)
    ]

    -- a link of a node with its first value was there before
    linked_before : (a b : ℕ) (y z : Node) (g : Option Val) (u : Val) → slice_get after a ≡ Some y → slice_get after b ≡ Some z → first_value prog W g y.shape ≡ Some u
        → is_linked_among w after y.name z.name ≡ true → (m : IsOld a y) (n : IsOld b z) → is_linked_among w nodes m.node.name n.node.name ≡ true
    linked_before a b y z g u e f own h m n =
        let parts = both_true _ _ (sym (linked_value w after find index_after new_after a b y z e f) ∙ h) in
        let more = both_true _ _ parts.1 in
        let leads : list_any (λ k. name_eq k n.node.name) (birth_links W (post_in W) m.node.shape) ≡ true
        = subst (λ (k : Name). list_any (λ j. name_eq j k) (birth_links W (post_in W) m.node.shape) ≡ true) (sym n.name)
        (subst (λ (t : Shape). list_any (λ k. name_eq k z.name) (birth_links W (post_in W) t) ≡ true) (sym m.shape)
        (links_back prog W U pres firsts_stay g y.shape u z.name own more.1)) in
        linked_value w nodes find s.index s.new a b m.node n.node m.at_it n.at_it
        ∙ true_both _ _ (ap is_cell m.ty ∙ parts.0) (true_both _ _ (ap is_cell n.ty ∙ more.0) leads)

    module _ (firsts : HasFirsts w) (ready : awaited_in w find nodes x.shape ≡ None) where
      -- of its own links: those lead to nodes with first values
      its_back : (b : ℕ) (z : Node) → slice_get nodes b ≡ Some z → is_linked_among w nodes x.name z.name ≡ true → is_some z.first ≡ true
      its_back b z f h =
          let parts = both_true _ _ (sym (linked_value w nodes find s.index s.new p b x z here f) ∙ h) in
          ready_links find nodes s.index prog w firsts s.formed x.shape ready b z f (both_true _ _ parts.1).1

      unlinked : (z : Node) → z ≡ x → is_some z.first ≡ true → ⊥
      unlinked z e h = let f : is_some z.first ≡ false = ap (λ (y : Node). is_some y.first) e ∙ ap is_some missing in cc

      back_after : (a b : ℕ) (y z : Node) → slice_get after a ≡ Some y → slice_get after b ≡ Some z → is_some y.first ≡ true
          → is_linked_among w after y.name z.name ≡ true → (is_some z.first ≡ true) × (rank_after b < rank_after a)
      back_after a b y z e f there h = elim (was a y e) [
        | inl c ↦
            let m : IsOld a y = record {
              node = x;
              at_it = ap (slice_get nodes) c.0 ∙ here;
              name = ap (λ (z : Node). z.name) c.1;
              shape = ap (λ (z : Node). z.shape) c.1;
              ty = ap (λ (z : Node). z.ty) c.1;
            } in
            let value_y : first_value prog W None y.shape ≡ Some v = subst (λ (b : Node). first_value prog W None b.shape ≡ Some v) c.1 value in
            let n = old_of b z f in
            let link = linked_before a b y z None v e f value_y h m n in
            let some = its_back b n.node n.at_it link in
            elim (was b z f) [
              | inl d ↦ absurd (unlinked n.node (same_Some n.node x (sym n.at_it ∙ ap (slice_get nodes) d.0 ∙ here)) some)
              | inr d ↦
                  let is : n.node ≡ z = same_Some n.node z (sym n.at_it ∙ d.1) in
                  let low : s.rank b < above (length nodes) s.rank = below_above (length nodes) s.rank b (get_inside nodes b z d.1) in
                  (subst (λ (k : Node). is_some k.first ≡ true) is some, subst (λ r. rank_after b < r) (sym (rank_it a c.0)) (subst (λ r. r < above (length nodes) s.rank) (sym (rank_other b d.0)) low))
            ]
        | inr c ↦
            let u = some_there y.first there in
            let m : IsOld a y = record { node = y; at_it = c.1; name = refl; shape = refl; ty = refl } in
            let n = old_of b z f in
            let link = linked_before a b y z (Some u.0) u.0 e f (s.own a y u.0 c.1 u.1) h m n in
            let old = s.back a b y n.node c.1 n.at_it there link in
            elim (was b z f) [
              | inl d ↦ absurd (unlinked n.node (same_Some n.node x (sym n.at_it ∙ ap (slice_get nodes) d.0 ∙ here)) old.0)
              | inr d ↦
                  let is : n.node ≡ z = same_Some n.node z (sym n.at_it ∙ d.1) in
                  (subst (λ (k : Node). is_some k.first ≡ true) is old.0, subst (λ r. rank_after b < r) (sym (rank_other a c.0)) (subst (λ r. r < s.rank a) (sym (rank_other b d.0)) old.1))
            ]
      ]

      given_after : (q : ℕ) (y : Node) → slice_get after q ≡ Some y → has_given y.shape ≡ true → is_some y.first ≡ true
      given_after q y e g = elim (was q y e) [
        | inl c ↦ subst (λ (z : Node). is_some z.first ≡ true) c.1 refl
        | inr c ↦ s.given q y c.1 g
      ]

      pub stands_after : Stands prog w find after
      stands_after = record {
        index = index_after;
        formed = formed_after;
        new = new_after;
        given = given_after;
        own = own_after;
        rank = rank_after;
        back = back_after;
      }

  -- What still waits for another.

  missing_other : (n : Name) → (find n ≡ Some p → ⊥) → missing_in find after n ≡ missing_in find nodes n
  missing_other n other = by (find n) refl where
    by : (o : Option ℕ) → find n ≡ o → missing_in find after n ≡ missing_in find nodes n
    by None f = rw f refl
    by (Some q) f =
        let d : q ≡ p → ⊥ = λ e. other (f ∙ ap Some e) in
        rw f (ap (λ (o : Option Node). if is_some (option_and_then node_first o) then None else Some q) (written_other nodes p q valued d))

  missing_it : (n : Name) → find n ≡ Some p → missing_in find nodes n ≡ Some p
  missing_it n f = rw f (ap (λ (o : Option Val). if is_some o then None else Some p) (ap (option_and_then node_first) here ∙ missing))

  missing_stays : (n : Name) (q : ℕ) → (q ≡ p → ⊥) → missing_in find nodes n ≡ Some q → missing_in find after n ≡ Some q
  missing_stays n q d h = missing_other n (λ f. d (same_Some q p (sym h ∙ missing_it n f))) ∙ h

  missing_none : (n : Name) → missing_in find nodes n ≡ None → missing_in find after n ≡ None
  missing_none n h = missing_other n (λ f. let no : Some p ≡ None = sym (missing_it n f) ∙ h in absurd cc) ∙ h

  pub awaited_stays : (shape : Shape) (q : ℕ) → (q ≡ p → ⊥) → awaited_in w find nodes shape ≡ Some q → awaited_in w find after shape ≡ Some q
  awaited_stays (Mapc f c) q d h = missing_stays c q d h
  awaited_stays (Loop to) q d h = missing_stays to q d h
  awaited_stays (Apply cf ca) q d h = elim (either_some (missing_in find nodes cf) (missing_in find nodes ca) q h) [
    | inl e ↦ rw (missing_stays cf q d e) refl
    | inr e ↦ rw (missing_none cf e.0) (missing_stays ca q d e.1)
  ]
  awaited_stays (Switchc c) q d h = by (W.pre c) refl where
    by : (o : Option Val) → W.pre c ≡ o → awaited_in w find after (Switchc c) ≡ Some q
    by None e =
        let m : missing_in find nodes c ≡ Some q = rw e at h in
        let stays = missing_stays c q d m in
        let none : U.pre c ≡ None = missing_seen find after index_after w c q stays in
        rw none stays
    by (Some i) e =
        let m : missing_in find nodes (target i) ≡ Some q = rw e at h in
        rw (pres c i e) (missing_stays (target i) q d m)
  awaited_stays _ q d h = absurd cc

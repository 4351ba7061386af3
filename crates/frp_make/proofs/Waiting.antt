-- What the first value of a node that is born waits for: another that has none so far, to which the node has a link of Birth; and
-- where it waits for none, all that it needs is there.
use Rattle.std.proofs.Common.{◌≡◌, ◌⊎◌, ℕ, Bool, true, false, List, [], ◌∷◌, ◌++◌, map, Option, Some, None, refl, sym, ap, ◌∙◌, subst, inl, inr}
use Rattle.std.specs.Prelude.{is_some, slice_get, option_map, option_and_then, if◌then◌else◌}
use Rattle.std.specs.List.{list_any}
use Rattle.std.proofs.lemmas.Option.{same_Some, slice_get-map}
use Rattle.frp_base.specs.declared.name.Name.{Name}
use Rattle.frp_base.specs.declared.ty.Ty.{Ty, out-Ty, roll-out-Ty}
use Rattle.frp_base.specs.declared.ty.Ty.TheOpen.{Ty-F}
use Rattle.frp_base.specs.declared.ty.Ty.TheOpen as u
use Rattle.frp_base.specs.declared.ty.Ty.TheVariants as t
use Rattle.frp_base.specs.declared.val.Val.{Val, out-Val}
use Rattle.frp_base.specs.declared.val.Val.TheOpen.{Val-F}
use Rattle.frp_base.specs.declared.val.Val.TheOpen as o
use Rattle.frp_base.specs.Name.{name_eq}
use Rattle.frp_base.proofs.Booleans.{both_true, either_true, or_true}
use Rattle.frp_expr.specs.Eval.{eval}
use Rattle.frp_expr.specs.Values.{is_of, is_closed_of}
use Rattle.frp_expr.proofs.ValueLemmas.{Layer, opened}
use Rattle.frp_graph.specs.declared.trace.Node.{Node}
use Rattle.frp_graph.specs.declared.prog.FunDef.{FunDef}
use Rattle.frp_graph.specs.declared.prog.Prog.{Prog}
use Rattle.frp_graph.specs.declared.shape.Shape.{Shape}
use Rattle.frp_graph.specs.declared.shape.Shape.TheVariants.{Sink, Never, Constant, Map, Filter, Filteropt, Merge, Snapshot, Split, Updates, Value, Loop, Hold, Mapc, Apply, Switchs, Switchc, Execute}
use Rattle.frp_graph.specs.Trace.{Sight, or_else, node_first, post_in}
use Rattle.frp_graph.specs.Applied.{call, applied, fun_on, target}
use Rattle.frp_graph.specs.TypedProg.{is_stream, is_cell, stream_in, cell_in, cell_item, sig_of, sigs}
use Rattle.frp_graph.specs.FirstValues.{first_value}
use Rattle.frp_graph.specs.Links.{birth_links}
use Rattle.frp_graph.specs.Values.{type_among, is_value}
use Rattle.frp_graph.specs.WellFormed.{Allows, IsWellFormed, HasFirsts}
use Rattle.frp_graph.proofs.Lists.{name_same, name_eq-same}
use Rattle.frp_graph.proofs.Options.{some_there, then_some}
use Rattle.frp_graph.proofs.TypedValues.{stream_is, cell_is, cell_type, cell_from, refers}
use Rattle.frp_graph.proofs.TypedSights.{node_of_type, cell_before}
use Rattle.frp_fire.proofs.Needs.{refers_layer}
use Rattle.frp_make.specs.Making.{with_born}
use Rattle.frp_make.specs.Lines.{is_reference}
use Rattle.frp_make.specs.Firsts.{IsIndex, first_at, missing_in, awaited_in, IsRead, IsReadable}
use Rattle.frp_make.specs.Search.{has_given}
use Rattle.frp_make.proofs.Born.{new_node, new_before, old_node, old_before}

-- What may be there.

unless : (b : Bool) (p q : ℕ) → (if b then None else Some p) ≡ Some q → (b ≡ false) × (p ≡ q)
unless true p q h = absurd cc
unless false p q h = (refl, same_Some p q h)

pub either_some : (a b : Option ℕ) (q : ℕ) → or_else a b ≡ Some q → (a ≡ Some q) ⊎ ((a ≡ None) × (b ≡ Some q))
either_some None b q h = inr (refl, h)
either_some (Some p) b q h = inl h

both_none : (a b : Option ℕ) → or_else a b ≡ None → (a ≡ None) × (b ≡ None)
both_none None b h = (refl, h)
both_none (Some p) b h = absurd cc

map_there : {A B : Type 0} (f : A → B) (o : Option A) → is_some o ≡ true → is_some (option_map f o) ≡ true
map_there f None h = absurd cc
map_there f (Some x) h = refl

then_none : {A B : Type 0} (o : Option A) (f : A → Option B) → ((x : A) → f x ≡ None) → option_and_then f o ≡ None
then_none None f h = refl
then_none (Some x) f h = h x

pub is_none : {A : Type 0} (o : Option A) → is_some o ≡ false → o ≡ None
is_none None h = refl
is_none (Some x) h = absurd cc

-- Types.

not_both : (l : Ty-F Ty) → is_some (stream_in l) ≡ true → is_some (cell_in l) ≡ true → ⊥
not_both (u.Stream a) h k = absurd cc
not_both u.Int h k = absurd cc
not_both u.Bool h k = absurd cc
not_both u.Text h k = absurd cc
not_both (u.Pair a b) h k = absurd cc
not_both (u.List a) h k = absurd cc
not_both (u.Cell a) h k = absurd cc
not_both (u.Fun a b) h k = absurd cc
not_both (u.Option a) h k = absurd cc

pub no_stream : (x : Ty) → is_stream x ≡ true → is_cell x ≡ true → ⊥
no_stream x h k = not_both (out-Ty x) h k

-- Functions.

module _ (prog : Prog) (node : Name → Option Node) (a b : Ty) (x : Val) where
  fun_there : (f : ℕ) (ks : List Val) (found : Option FunDef) → slice_get prog.funs f ≡ found
      → is_closed_of (map (is_of (type_among node) (sigs prog)) ks) a b (slice_get (sigs prog) f) ≡ true → is_some (fun_on prog.funs (o.Fun f ks) x) ≡ true
  fun_there f ks None e h =
      let none : slice_get (sigs prog) f ≡ None = slice_get-map sig_of prog.funs f ∙ ap (option_map sig_of) e in
      let k : is_closed_of (map (is_of (type_among node) (sigs prog)) ks) a b None ≡ true = rw none at h in
      absurd cc
  fun_there f ks (Some d) e h = ap (λ (found : Option FunDef). is_some (option_map (λ d. eval d.e (ks ++ x ∷ [])) found)) e

  layer_there : (l : Val-F Val) (z : Ty) → Layer (type_among node) (sigs prog) l z (u.Fun a b) ≡ true → is_some (fun_on prog.funs l x) ≡ true
  layer_there (o.Fun f ks) z h = fun_there f ks (slice_get prog.funs f) refl h
  layer_there _ z h = absurd cc

  applied_there : (f : Val) → is_value prog node f (t.Fun a b) ≡ true → is_some (applied prog f x) ≡ true
  applied_there f h = layer_there (out-Val f) (t.Fun a b) (opened (type_among node) (sigs prog) f (t.Fun a b) (u.Fun a b) (t.rolls-Fun a b) h)

-- Nodes that are born.

module _ (find : Name → Option ℕ) (nodes : List Node) (index : IsIndex nodes find) where
  pub record IsMissing (n : Name) (q : ℕ) : Type 0 where
    pub node : Node
    pub here : slice_get nodes q ≡ Some node
    pub named : node.name ≡ n
    pub none : node.first ≡ None

  pub first_is : (p : ℕ) (x : Node) → slice_get nodes p ≡ Some x → first_at nodes p ≡ x.first
  first_is p x h = ap (option_and_then node_first) h

  pub missing_is : (n : Name) (q : ℕ) → missing_in find nodes n ≡ Some q → IsMissing n q
  missing_is n q h =
      let p = then_some (λ p. if is_some (first_at nodes p) then None else Some p) (find n) q h in
      let b = unless (is_some (first_at nodes p.0)) p.0 q p.2 in
      let x = index.found n p.0 p.1 in
      record {
        node = x.0;
        here = ap (slice_get nodes) (sym b.1) ∙ x.1;
        named = x.2;
        none = sym (first_is p.0 x.0 x.1) ∙ is_none (first_at nodes p.0) b.0;
      }

  -- whether it is missing, of one that is born
  missing_value : (q : ℕ) (y : Node) → slice_get nodes q ≡ Some y → missing_in find nodes y.name ≡ (if is_some y.first then None else Some q)
  missing_value q y h =
      ap (option_and_then (λ p. if is_some (first_at nodes p) then None else Some p)) (index.all q y h)
      ∙ ap (λ (o : Option Val). if is_some o then None else Some q) (first_is q y h)

  pub not_missing : (q : ℕ) (y : Node) → slice_get nodes q ≡ Some y → missing_in find nodes y.name ≡ None → is_some y.first ≡ true
  not_missing q y h none = by (is_some y.first) (sym (missing_value q y h) ∙ none) where
    by : (b : Bool) → (if b then None else Some q) ≡ None → b ≡ true
    by true e = refl
    by false e = absurd cc

  -- it has no value before
  pub missing_seen : (w : Sight) (n : Name) (q : ℕ) → missing_in find nodes n ≡ Some q → (with_born w nodes).pre n ≡ None
  missing_seen w n q h =
      let m = missing_is n q h in
      ap (with_born w nodes).pre (sym m.named) ∙ new_before nodes find index w q m.node m.here ∙ m.none

  module _ (prog : Prog) (w : Sight) (firsts : HasFirsts w) (formed : IsWellFormed prog (with_born w nodes)) where
    abbrev W : Sight
    W = with_born w nodes

    missing_before : (n : Name) (q : ℕ) → IsMissing n q → W.pre n ≡ None
    missing_before n q m = ap W.pre (sym m.named) ∙ new_before nodes find index w q m.node m.here ∙ m.none

    missing_node : (n : Name) (q : ℕ) (m : IsMissing n q) → W.node n ≡ Some m.node
    missing_node n q m = ap W.node (sym m.named) ∙ new_node nodes find index w q m.node m.here

    -- cells that are read
    read_cell : (c : Name) (a : Ty) → type_among W.node c ≡ Some (t.Cell a) → IsRead w find c
    read_cell c a h none =
        let y = node_of_type (W.node c) (t.Cell a) h in
        let live : w.node c ≡ Some y.0 = sym (old_node nodes find index w c none) ∙ y.1 in
        let cell : is_cell y.0.ty ≡ true = subst (λ (x : Ty). is_cell x ≡ true) (sym y.2) (cell_is a) in
        sym (ap (λ k. is_some (w.pre k)) (formed.named c y.0 y.1)) ∙ firsts.before c y.0 live cell

    -- what a value of a cell's type refers to
    cell_named : (d : Val) (x : Ty) → is_cell x ≡ true → is_value prog W.node d x ≡ true → (a : Ty) × (type_among W.node (target d) ≡ Some (t.Cell a))
    cell_named d x kind fit =
        let a = some_there (cell_item x) kind in
        (a.0, refers (type_among W.node) (sigs prog) d x (cell_type x kind) fit ∙ ap Some (cell_from x a.0 a.1))

    is_named : (d : Val) (x : Ty) → is_cell x ≡ true → is_value prog W.node d x ≡ true → is_reference d ≡ true
    is_named d x kind fit = refers_layer (type_among W.node) (sigs prog) (out-Val d) x (out-Ty x) (cell_type x kind) (opened (type_among W.node) (sigs prog) d x (out-Ty x) (roll-out-Ty x) fit)

    pub readable : (x : Ty) (s : Shape) → Allows prog W x s → IsReadable w find nodes s
    readable x (Mapc f c) (a, b, source, gives, is) = read_cell c a source
    readable x (Apply cf ca) (a, b, function, argument, is) = (read_cell cf (t.Fun a b) function, read_cell ca a argument)
    readable x (Switchc c) (source, kind) = (
      read_cell c x source,
      λ d e.
          let fit = cell_before prog W formed c x d source e in
          let inner = cell_named d x kind fit in
          (is_named d x kind fit, read_cell (target d) inner.0 inner.1),
    )
    readable x _ p = tt

    -- Where nothing is missing.

    there : (c : Name) (a : Ty) → type_among W.node c ≡ Some (t.Cell a) → missing_in find nodes c ≡ None → is_some (W.pre c) ≡ true
    there c a h none = by (find c) refl where
      by : (o : Option ℕ) → find c ≡ o → is_some (W.pre c) ≡ true
      by None f = ap is_some (old_before nodes find index w c f) ∙ read_cell c a h f
      by (Some p) f =
          let x = index.found c p f in
          let m : missing_in find nodes x.0.name ≡ None = ap (missing_in find nodes) x.2 ∙ none in
          ap is_some (ap W.pre (sym x.2) ∙ new_before nodes find index w p x.0 x.1) ∙ not_missing p x.0 x.1 m

    first_there : (to : Name) (x : Ty) → is_cell x ≡ true → type_among W.node to ≡ Some x → missing_in find nodes to ≡ None → is_some (option_and_then node_first (W.node to)) ≡ true
    first_there to x kind h none = by (find to) refl where
      by : (o : Option ℕ) → find to ≡ o → is_some (option_and_then node_first (W.node to)) ≡ true
      by None f =
          let y = node_of_type (W.node to) x h in
          let cell : is_cell y.0.ty ≡ true = subst (λ (x : Ty). is_cell x ≡ true) (sym y.2) kind in
          ap (λ (o : Option Node). is_some (option_and_then node_first o)) y.1 ∙ firsts.first to y.0 (sym (old_node nodes find index w to f) ∙ y.1) cell
      by (Some p) f =
          let y = index.found to p f in
          let m : missing_in find nodes y.0.name ≡ None = ap (missing_in find nodes) y.2 ∙ none in
          ap (λ (o : Option Node). is_some (option_and_then node_first o)) (ap W.node (sym y.2) ∙ new_node nodes find index w p y.0 y.1) ∙ not_missing p y.0 y.1 m

    pub ready_first : (x : Ty) (s : Shape) → Allows prog W x s → is_cell x ≡ true → has_given s ≡ false → awaited_in w find nodes s ≡ None → is_some (first_value prog W None s) ≡ true
    ready_first x (Mapc f c) (a, b, source, gives, is) k g h = map_there (λ v. call prog f (v ∷ [])) (W.pre c) (there c a source h)
    ready_first x (Apply cf ca) (a, b, function, argument, is) k g h =
        let n = both_none (missing_in find nodes cf) (missing_in find nodes ca) h in
        let f = some_there (W.pre cf) (there cf (t.Fun a b) function n.0) in
        let y = some_there (W.pre ca) (there ca a argument n.1) in
        let fit = cell_before prog W formed cf (t.Fun a b) f.0 function f.1 in
        rw (f.1, y.1) (applied_there prog W.node a b y.0 f.0 fit)
    ready_first x (Switchc c) (source, kind) k g h = by (W.pre c) refl where
      by : (o : Option Val) → W.pre c ≡ o → is_some (first_value prog W None (Switchc c)) ≡ true
      by None e =
          let none : missing_in find nodes c ≡ None = rw e at h in
          let s : is_some (W.pre c) ≡ true = there c x source none in
          absurd (let f : is_some (W.pre c) ≡ false = ap is_some e in cc)
      by (Some d) e =
          let none : missing_in find nodes (target d) ≡ None = rw e at h in
          let inner = cell_named d x kind (cell_before prog W formed c x d source e) in
          rw e (there (target d) inner.0 inner.1 none)
    ready_first x (Loop to) (kind, tied) k g h = first_there to x k tied h
    ready_first x Constant p k g h = absurd cc
    ready_first x (Hold s) p k g h = absurd cc
    ready_first x Sink p k g h = absurd (no_stream x (both_true _ _ p).0 k)
    ready_first x Never p k g h = absurd (no_stream x (both_true _ _ p).0 k)
    ready_first x (Map f s) (a, b, source, gives, is) k g h = absurd (no_stream x (subst (λ (x : Ty). is_stream x ≡ true) (sym is) (stream_is b)) k)
    ready_first x (Filter f s) (a, source, gives, is) k g h = absurd (no_stream x (subst (λ (x : Ty). is_stream x ≡ true) (sym is) (stream_is a)) k)
    ready_first x (Filteropt s) (a, source, is) k g h = absurd (no_stream x (subst (λ (x : Ty). is_stream x ≡ true) (sym is) (stream_is a)) k)
    ready_first x (Merge f r s) (a, left, right, gives, is) k g h = absurd (no_stream x (subst (λ (x : Ty). is_stream x ≡ true) (sym is) (stream_is a)) k)
    ready_first x (Snapshot f s c) (a, b, d, source, cell, gives, is) k g h = absurd (no_stream x (subst (λ (x : Ty). is_stream x ≡ true) (sym is) (stream_is d)) k)
    ready_first x (Split s) (a, source, is) k g h = absurd (no_stream x (subst (λ (x : Ty). is_stream x ≡ true) (sym is) (stream_is a)) k)
    ready_first x (Updates c) (a, source, is) k g h = absurd (no_stream x (subst (λ (x : Ty). is_stream x ≡ true) (sym is) (stream_is a)) k)
    ready_first x (Value c) (a, source, is) k g h = absurd (no_stream x (subst (λ (x : Ty). is_stream x ≡ true) (sym is) (stream_is a)) k)
    ready_first x (Switchs c) (source, kind) k g h = absurd (no_stream x kind k)
    ready_first x (Execute s i kept) (d, pattern, source, fit, is) k g h = absurd (no_stream x (subst (λ (x : Ty). is_stream x ≡ true) (sym is) (stream_is d.gives)) k)

    -- Links.

    abbrev pub Leads : Name → Shape → Type 0
    Leads n s = list_any (λ k. name_eq k n) (birth_links W (post_in W) s) ≡ true

    one_leads : (c n : Name) → list_any (λ k. name_eq k n) (c ∷ []) ≡ true → c ≡ n
    one_leads c n h = elim (either_true (name_eq c n) false h) [ inl e ↦ name_same c n e | inr e ↦ absurd cc ]

    two_lead : (c d n : Name) → list_any (λ k. name_eq k n) (c ∷ d ∷ []) ≡ true → (c ≡ n) ⊎ (d ≡ n)
    two_lead c d n h = elim (either_true (name_eq c n) _ h) [ inl e ↦ inl (name_same c n e) | inr e ↦ inr (one_leads d n e) ]

    -- where it waits for none, its links lead to nodes that have first values
    pub ready_links : (s : Shape) → awaited_in w find nodes s ≡ None → (q : ℕ) (y : Node) → slice_get nodes q ≡ Some y → Leads y.name s → is_some y.first ≡ true
    ready_links (Mapc f c) h q y e l = not_missing q y e (ap (missing_in find nodes) (sym (one_leads c y.name l)) ∙ h)
    ready_links (Loop to) h q y e l = not_missing q y e (ap (missing_in find nodes) (sym (one_leads to y.name l)) ∙ h)
    ready_links (Apply cf ca) h q y e l =
        let n = both_none (missing_in find nodes cf) (missing_in find nodes ca) h in
        elim (two_lead cf ca y.name l) [
          | inl i ↦ not_missing q y e (ap (missing_in find nodes) (sym i) ∙ n.0)
          | inr i ↦ not_missing q y e (ap (missing_in find nodes) (sym i) ∙ n.1)
        ]
    ready_links (Switchc c) h q y e l = by (W.pre c) refl where
      by : (o : Option Val) → W.pre c ≡ o → is_some y.first ≡ true
      by None f =
          let none : missing_in find nodes c ≡ None = rw f at h in
          let k : list_any (λ k. name_eq k y.name) (c ∷ []) ≡ true = rw f at l in
          not_missing q y e (ap (missing_in find nodes) (sym (one_leads c y.name k)) ∙ none)
      by (Some d) f =
          let none : missing_in find nodes (target d) ≡ None = rw f at h in
          let k : list_any (λ k. name_eq k y.name) (c ∷ target d ∷ []) ≡ true = rw f at l in
          elim (two_lead c (target d) y.name k) [
            | inl i ↦ let before : y.first ≡ Some d = sym (new_before nodes find index w q y e) ∙ ap W.pre (sym i) ∙ f in ap is_some before
            | inr i ↦ not_missing q y e (ap (missing_in find nodes) (sym i) ∙ none)
          ]
    ready_links _ h q y e l = absurd cc

    -- what it waits for is a cell, to which it has a link
    pub record IsLink (s : Shape) (q : ℕ) : Type 0 where
      pub node : Node
      pub here : slice_get nodes q ≡ Some node
      pub none : node.first ≡ None
      pub cell : is_cell node.ty ≡ true
      pub leads : Leads node.name s

    link : (c : Name) (a : Ty) (s : Shape) (q : ℕ) → type_among W.node c ≡ Some a → is_cell a ≡ true → IsMissing c q → Leads c s → IsLink s q
    link c a s q h k m l =
        let y = node_of_type (W.node c) a h in
        let same : y.0 ≡ m.node = same_Some y.0 m.node (sym y.1 ∙ missing_node c q m) in
        record {
          node = m.node;
          here = m.here;
          none = m.none;
          cell = subst (λ (z : Node). is_cell z.ty ≡ true) same (subst (λ (x : Ty). is_cell x ≡ true) (sym y.2) k);
          leads = subst (λ (n : Name). Leads n s) (sym m.named) l;
        }

    pub awaited_link : (x : Ty) (s : Shape) (q : ℕ) → Allows prog W x s → is_cell x ≡ true → awaited_in w find nodes s ≡ Some q → IsLink s q
    awaited_link x (Mapc f c) q (a, b, source, gives, is) k h = link c (t.Cell a) (Mapc f c) q source (cell_is a) (missing_is c q h) (rw (name_eq-same c) refl)
    awaited_link x (Loop to) q (kind, tied) k h = link to x (Loop to) q tied k (missing_is to q h) (rw (name_eq-same to) refl)
    awaited_link x (Apply cf ca) q (a, b, function, argument, is) k h = elim (either_some (missing_in find nodes cf) (missing_in find nodes ca) q h) [
      | inl e ↦ link cf (t.Cell (t.Fun a b)) (Apply cf ca) q function (cell_is (t.Fun a b)) (missing_is cf q e) (rw (name_eq-same cf) refl)
      | inr e ↦ link ca (t.Cell a) (Apply cf ca) q argument (cell_is a) (missing_is ca q e.1) (rw (name_eq-same ca) (or_true (name_eq cf ca)))
    ]
    awaited_link x (Switchc c) q (source, kind) k h = by (W.pre c) refl where
      by : (o : Option Val) → W.pre c ≡ o → IsLink (Switchc c) q
      by None e = link c (t.Cell x) (Switchc c) q source (cell_is x) (missing_is c q (rw e at h)) (rw (name_eq-same c) refl)
      by (Some d) e =
          let inner = cell_named d x kind (cell_before prog W formed c x d source e) in
          link (target d) (t.Cell inner.0) (Switchc c) q inner.1 (cell_is inner.0) (missing_is (target d) q (rw e at h))
          (rw (e, name_eq-same (target d)) (or_true (name_eq c (target d))))
    awaited_link x _ q p k h = absurd cc

    -- and its first value is none so far
    pub awaited_none : (given : Option Val) (s : Shape) (q : ℕ) → awaited_in w find nodes s ≡ Some q → first_value prog W given s ≡ None
    awaited_none given (Mapc f c) q h = rw (missing_before c q (missing_is c q h)) refl
    awaited_none given (Loop to) q h =
        let m = missing_is to q h in
        ap (option_and_then node_first) (missing_node to q m) ∙ m.none
    awaited_none given (Apply cf ca) q h = elim (either_some (missing_in find nodes cf) (missing_in find nodes ca) q h) [
      | inl e ↦ rw (missing_before cf q (missing_is cf q e)) refl
      | inr e ↦ then_none (W.pre cf) (λ f. option_and_then (applied prog f) (W.pre ca)) (λ f. ap (option_and_then (applied prog f)) (missing_before ca q (missing_is ca q e.1)))
    ]
    awaited_none given (Switchc c) q h = by (W.pre c) refl where
      by : (o : Option Val) → W.pre c ≡ o → first_value prog W given (Switchc c) ≡ None
      by None e = rw e refl
      by (Some d) e = rw e (missing_before (target d) q (missing_is (target d) q (rw e at h)))
    awaited_none given _ q h = absurd cc

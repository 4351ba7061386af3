-- The node of a typed line: its type allows its shape, and the first value that the line gives, where it gives one, is of it.
use Rattle.std.proofs.Common.{◌≡◌, ℕ, true, List, [], ◌∷◌, ◌++◌, map, Option, Some, None, refl, sym, ap, ◌∙◌, subst}
use Rattle.std.specs.Prelude.{◌&&◌, slice_get, slice_index_or}
use Rattle.frp_base.specs.declared.name.Name.{Name}
use Rattle.frp_base.specs.declared.ty.Ty.{Ty}
use Rattle.frp_base.specs.declared.ty.Ty.TheVariants as t
use Rattle.frp_base.specs.declared.val.Val.{Val}
use Rattle.frp_base.specs.Ty.{ty_eq}
use Rattle.frp_base.proofs.TyLemmas.{ty_decides}
use Rattle.frp_expr.specs.declared.expr.Expr.{Expr}
use Rattle.frp_expr.specs.Eval.{eval}
use Rattle.frp_expr.specs.Parts.{zero_val}
use Rattle.frp_expr.specs.Types.{item_type, given}
use Rattle.frp_expr.specs.Typing.{◌>>=◌, has, each_has, type_in}
use Rattle.frp_base.proofs.Booleans.{both_true, true_both}
use Rattle.frp_expr.proofs.TypeLemmas.{bind_some, given_some, has_some, item_is}
use Rattle.frp_expr.proofs.ValueLemmas.{variable_is}
use Rattle.frp_expr.proofs.TypedValues.{good}
use Rattle.frp_graph.specs.declared.prog.Prog.{Prog}
use Rattle.frp_graph.specs.declared.prog.LineLam.{LineLam}
use Rattle.frp_graph.specs.declared.prog.LineShape.{LineShape}
use Rattle.frp_graph.specs.declared.prog.LineShape.TheVariants.{Sink, Never, Constant, Map, Filter, Filteropt, Merge, Snapshot, Split, Updates, Value, Loop, Hold, Mapc, Apply, Switchs, Switchc, Execute}
use Rattle.frp_graph.specs.declared.shape.Shape.{Shape}
use Rattle.frp_graph.specs.Trace.{Sight}
use Rattle.frp_graph.specs.Values.{type_among, is_value, are_values}
use Rattle.frp_graph.specs.Births.{lam_of, node_of, shape_of, given_by}
use Rattle.frp_graph.specs.TypedProg.{Pattern, patterns, sigs, stream_item, cell_item, is_stream, is_cell, types_at, stream_of, cell_of, option_item, result_for, lam_type, shape_type, has_tied_type}
use Rattle.frp_graph.specs.WellFormed.{fits_cell, Returns, Allows}
use Rattle.frp_graph.specs.ShapeLaws.{IsAllowedLine}
use Rattle.frp_graph.proofs.Options.{some_is}
use Rattle.frp_graph.proofs.TypedValues.{IsNodeType, stream_from, cell_from, option_from, result_from, stream_is, cell_is, stream_type, stream_node, cell_node, cell_has, refers}

-- a line of this shape, over values of these types, makes a node of the type
abbrev pub MakesType : Prog → List Pattern → List Ty → Ty → LineShape → Type 0
MakesType prog ps ts x shape = shape_type (sigs prog) prog.codes ps ts x shape ≡ Some x

-- The operands and the expressions of a line, over values of their types.

module _ (prog : Prog) (w : Sight) (ps : List Pattern) (vs : List Val) (ts : List Ty) (among : are_values prog w.node vs ts ≡ true) where
  pub value_is : (e : Expr) (a : Ty) → type_in (sigs prog) e ts ≡ Some a → is_value prog w.node (eval e vs) a ≡ true
  value_is e a p = good (type_among w.node) (sigs prog) e vs ts a among p

  -- an operand refers to a node of its type
  operand_is : (e : Expr) (x : Ty) → IsNodeType x → type_in (sigs prog) e ts ≡ Some x → type_among w.node (node_of vs e) ≡ Some x
  operand_is e x k p = refers (type_among w.node) (sigs prog) (eval e vs) x k (value_is e x p)

  pub stream_operand : (e : Expr) (a : Ty) → stream_of (sigs prog) prog.codes ps ts e ≡ Some a → type_among w.node (node_of vs e) ≡ Some (t.Stream a)
  stream_operand e a p =
      let y = bind_some (type_in (sigs prog) e ts) stream_item a p in
      let is = stream_from y.0 a y.2 in
      operand_is e y.0 (stream_node a y.0 is) y.1 ∙ ap Some is

  pub cell_operand : (e : Expr) (a : Ty) → cell_of (sigs prog) prog.codes ps ts e ≡ Some a → type_among w.node (node_of vs e) ≡ Some (t.Cell a)
  cell_operand e a p =
      let y = bind_some (type_in (sigs prog) e ts) cell_item a p in
      let is = cell_from y.0 a y.2 in
      operand_is e y.0 (cell_node a y.0 is) y.1 ∙ ap Some is

  -- where what a stream or a cell holds is this
  stream_of_it : (e : Expr) (a b : Ty) → stream_of (sigs prog) prog.codes ps ts e ≡ Some a → a ≡ b → type_among w.node (node_of vs e) ≡ Some (t.Stream b)
  stream_of_it e a b p is = stream_operand e a p ∙ ap (λ (y : Ty). Some (t.Stream y)) is

  cell_of_it : (e : Expr) (a b : Ty) → cell_of (sigs prog) prog.codes ps ts e ≡ Some a → a ≡ b → type_among w.node (node_of vs e) ≡ Some (t.Cell b)
  cell_of_it e a b p is = cell_operand e a p ∙ ap (λ (y : Ty). Some (t.Cell y)) is

  kept_fit : (is : List ℕ) (ks : List Ty) → types_at ts is ≡ Some ks → are_values prog w.node (map (λ i. slice_index_or vs i zero_val) is) ks ≡ true
  kept_fit [] ks p = subst (λ (ks : List Ty). are_values prog w.node [] ks ≡ true) (sym (some_is [] ks p)) refl
  kept_fit (i ∷ is) ks p =
      let x = bind_some (slice_get ts i) (λ x. types_at ts is >>= λ xs. Some (x ∷ xs)) ks p in
      let xs = bind_some (types_at ts is) (λ xs. Some (x.0 ∷ xs)) ks x.2 in
      subst (λ (ks : List Ty). are_values prog w.node (map (λ i. slice_index_or vs i zero_val) (i ∷ is)) ks ≡ true) (sym (some_is (x.0 ∷ xs.0) ks xs.2))
      (true_both _ _ (variable_is (type_among w.node) (sigs prog) vs ts i x.0 among x.1) (kept_fit is xs.0 xs.1))

  gives : (f : LineLam) (args : List Ty) (b : Ty) → lam_type (sigs prog) prog.codes ps ts f args ≡ Some b → Returns prog w (lam_of vs f) args b
  gives f args b p =
      let ks = bind_some (types_at ts f.kept) (λ kept. slice_get prog.codes f.code >>= λ e. type_in (sigs prog) e (kept ++ args)) b p in
      record { kept = ks.0; kept_fit = kept_fit f.kept ks.0 ks.1; typed = ks.2 }

  gives_it : (f : LineLam) (args : List Ty) (b c : Ty) → lam_type (sigs prog) prog.codes ps ts f args ≡ Some b → ty_eq b c ≡ true → Returns prog w (lam_of vs f) args c
  gives_it f args b c p e = subst (λ (y : Ty). Returns prog w (lam_of vs f) args y) ((ty_decides b c).0 e) (gives f args b p)

  -- the kept values of an instance
  values_are : (es : List Expr) (ks : List Ty) → each_has ks (map (type_in (sigs prog)) es) ts ≡ true → are_values prog w.node (map (λ e. eval e vs) es) ks ≡ true
  values_are [] [] h = refl
  values_are [] (k ∷ ks) h = absurd cc
  values_are (e ∷ es) [] h = absurd cc
  values_are (e ∷ es) (k ∷ ks) h = let q = both_true _ _ h in true_both _ _ (value_is e k (has_some k (type_in (sigs prog) e ts) q.0)) (values_are es ks q.1)

-- The type of a line's node is that of a stream or of a cell.

module _ (prog : Prog) (ps : List Pattern) (ts : List Ty) (x : Ty) where
  abbrev stream_at : Expr → Option Ty
  stream_at e = stream_of (sigs prog) prog.codes ps ts e

  abbrev cell_at : Expr → Option Ty
  cell_at e = cell_of (sigs prog) prog.codes ps ts e

  abbrev result_at : LineLam → List Ty → Option Ty
  result_at f args = lam_type (sigs prog) prog.codes ps ts f args

  pub line_kind : (shape : LineShape) → MakesType prog ps ts x shape → IsNodeType x
  line_kind Sink p = stream_type x (both_true _ _ (given_some _ x x p).0).0
  line_kind Never p = stream_type x (both_true _ _ (given_some _ x x p).0).0
  line_kind (Constant e) p = let a = bind_some (type_in (sigs prog) e ts) _ x p in cell_node a.0 x (some_is _ _ a.2)
  line_kind (Map f s) p =
      let a = bind_some (stream_at s) _ x p in
      let b = bind_some (result_at f (a.0 ∷ [])) _ x a.2 in
      stream_node b.0 x (some_is _ _ b.2)
  line_kind (Filter f s) p =
      let a = bind_some (stream_at s) _ x p in
      let b = bind_some (result_at f (a.0 ∷ [])) _ x a.2 in
      stream_node a.0 x (sym (given_some _ _ x b.2).1)
  line_kind (Filteropt s) p =
      let a = bind_some (stream_at s) _ x p in
      let b = bind_some (option_item a.0) (λ b. Some (t.Stream b)) x a.2 in
      stream_node b.0 x (some_is _ _ b.2)
  line_kind (Merge f r s) p =
      let a = bind_some (stream_at r) _ x p in
      let b = bind_some (stream_at s) _ x a.2 in
      let c = bind_some (result_at f (a.0 ∷ a.0 ∷ [])) _ x b.2 in
      stream_node a.0 x (sym (given_some _ _ x c.2).1)
  line_kind (Snapshot f s c) p =
      let a = bind_some (stream_at s) _ x p in
      let b = bind_some (cell_at c) _ x a.2 in
      let d = bind_some (result_at f (a.0 ∷ b.0 ∷ [])) _ x b.2 in
      stream_node d.0 x (some_is _ _ d.2)
  line_kind (Split s) p =
      let a = bind_some (stream_at s) _ x p in
      let b = bind_some (item_type a.0) _ x a.2 in
      stream_node b.0 x (some_is _ _ b.2)
  line_kind (Updates c) p = let a = bind_some (cell_at c) _ x p in stream_node a.0 x (some_is _ _ a.2)
  line_kind (Value c) p = let a = bind_some (cell_at c) _ x p in stream_node a.0 x (some_is _ _ a.2)
  line_kind (Loop to) p = (both_true _ _ (given_some _ x x p).0).0
  line_kind (Hold e s) p =
      let a = bind_some (type_in (sigs prog) e ts) _ x p in
      let b = bind_some (stream_at s) _ x a.2 in
      cell_node a.0 x (sym (given_some _ _ x b.2).1)
  line_kind (Mapc f c) p =
      let a = bind_some (cell_at c) _ x p in
      let b = bind_some (result_at f (a.0 ∷ [])) _ x a.2 in
      cell_node b.0 x (some_is _ _ b.2)
  line_kind (Apply cf ca) p =
      let f = bind_some (cell_at cf) _ x p in
      let a = bind_some (cell_at ca) _ x f.2 in
      let b = bind_some (result_for f.0 a.0) _ x a.2 in
      cell_node b.0 x (some_is _ _ b.2)
  line_kind (Switchs c) p =
      let a = bind_some (cell_at c) _ x p in
      let b = bind_some (stream_item a.0) _ x a.2 in
      stream_node b.0 x (some_is _ _ b.2)
  line_kind (Switchc c) p =
      let a = bind_some (cell_at c) _ x p in
      let b = bind_some (cell_item a.0) _ x a.2 in
      cell_node b.0 x (some_is _ _ b.2)
  line_kind (Execute s k kept) p =
      let a = bind_some (stream_at s) _ x p in
      let d = bind_some (slice_get ps k) _ x a.2 in
      stream_node d.0.gives x (sym (given_some _ _ x d.2).1)

-- What its type allows.

module _ (prog : Prog) (w : Sight) (all vs : List Val) (all_types ts : List Ty) (all_among : are_values prog w.node all all_types ≡ true) (among : are_values prog w.node vs ts ≡ true) where
  abbrev ps : List Pattern
  ps = patterns prog

  -- what a loop is tied to is of its type
  tied_is : (x : Ty) (to : ℕ) → IsNodeType x → has_tied_type (sigs prog) prog.codes ps all_types x (Loop to) ≡ true → Allows prog w x (shape_of all vs (Loop to))
  tied_is x to k h =
      let found = has_some x (slice_get all_types to) h in
      (k, refers (type_among w.node) (sigs prog) (slice_index_or all to zero_val) x k (variable_is (type_among w.node) (sigs prog) all all_types to x all_among found))

  line_allowed : (x : Ty) (shape : LineShape) → MakesType prog ps ts x shape → has_tied_type (sigs prog) prog.codes ps all_types x shape ≡ true → Allows prog w x (shape_of all vs shape)
  line_allowed x Sink p h = (given_some _ x x p).0
  line_allowed x Never p h = (given_some _ x x p).0
  line_allowed x (Constant e) p h = let a = bind_some (type_in (sigs prog) e ts) _ x p in subst (λ (y : Ty). is_cell y ≡ true) (sym (some_is _ _ a.2)) (cell_is a.0)
  line_allowed x (Map f s) p h =
      let a = bind_some _ _ x p in
      let b = bind_some _ _ x a.2 in
      (a.0, b.0, stream_operand prog w ps vs ts among s a.0 a.1, gives prog w ps vs ts among f (a.0 ∷ []) b.0 b.1, some_is _ _ b.2)
  line_allowed x (Filter f s) p h =
      let a = bind_some _ _ x p in
      let b = bind_some _ _ x a.2 in
      let g = given_some _ _ x b.2 in
      (a.0, stream_operand prog w ps vs ts among s a.0 a.1 ∙ ap Some g.1, gives_it prog w ps vs ts among f (a.0 ∷ []) b.0 t.Bool b.1 g.0, sym g.1)
  line_allowed x (Filteropt s) p h =
      let a = bind_some _ _ x p in
      let b = bind_some (option_item a.0) (λ b. Some (t.Stream b)) x a.2 in
      (b.0, stream_of_it prog w ps vs ts among s a.0 (t.Option b.0) a.1 (option_from a.0 b.0 b.1), some_is _ _ b.2)
  line_allowed x (Merge f r s) p h =
      let a = bind_some _ _ x p in
      let b = bind_some _ _ x a.2 in
      let c = bind_some _ _ x b.2 in
      let g = given_some _ _ x c.2 in
      let q = both_true _ _ g.0 in (
        a.0,
        stream_operand prog w ps vs ts among r a.0 a.1 ∙ ap Some g.1,
        stream_of_it prog w ps vs ts among s b.0 a.0 b.1 ((ty_decides b.0 a.0).0 q.0) ∙ ap Some g.1,
        gives_it prog w ps vs ts among f (a.0 ∷ a.0 ∷ []) c.0 a.0 c.1 q.1,
        sym g.1,
      )
  line_allowed x (Snapshot f s c) p h =
      let a = bind_some _ _ x p in
      let b = bind_some _ _ x a.2 in
      let d = bind_some _ _ x b.2 in
      (a.0, b.0, d.0, stream_operand prog w ps vs ts among s a.0 a.1, cell_operand prog w ps vs ts among c b.0 b.1, gives prog w ps vs ts among f (a.0 ∷ b.0 ∷ []) d.0 d.1, some_is _ _ d.2)
  line_allowed x (Split s) p h =
      let a = bind_some _ _ x p in
      let b = bind_some _ _ x a.2 in
      (b.0, stream_of_it prog w ps vs ts among s a.0 (t.List b.0) a.1 (item_is a.0 b.0 b.1), some_is _ _ b.2)
  line_allowed x (Updates c) p h = let a = bind_some _ _ x p in (a.0, cell_operand prog w ps vs ts among c a.0 a.1, some_is _ _ a.2)
  line_allowed x (Value c) p h = let a = bind_some _ _ x p in (a.0, cell_operand prog w ps vs ts among c a.0 a.1, some_is _ _ a.2)
  line_allowed x (Loop to) p h = tied_is x to (line_kind prog ps ts x (Loop to) p) h
  line_allowed x (Hold e s) p h =
      let a = bind_some (type_in (sigs prog) e ts) _ x p in
      let b = bind_some _ _ x a.2 in
      let g = given_some _ _ x b.2 in
      (a.0, stream_of_it prog w ps vs ts among s b.0 a.0 b.1 ((ty_decides b.0 a.0).0 g.0), sym g.1)
  line_allowed x (Mapc f c) p h =
      let a = bind_some _ _ x p in
      let b = bind_some _ _ x a.2 in
      (a.0, b.0, cell_operand prog w ps vs ts among c a.0 a.1, gives prog w ps vs ts among f (a.0 ∷ []) b.0 b.1, some_is _ _ b.2)
  line_allowed x (Apply cf ca) p h =
      let f = bind_some _ _ x p in
      let a = bind_some _ _ x f.2 in
      let b = bind_some _ _ x a.2 in
      (a.0, b.0, cell_of_it prog w ps vs ts among cf f.0 (t.Fun a.0 b.0) f.1 (result_from f.0 a.0 b.0 b.1), cell_operand prog w ps vs ts among ca a.0 a.1, some_is _ _ b.2)
  line_allowed x (Switchs c) p h =
      let a = bind_some _ _ x p in
      let b = bind_some _ _ x a.2 in
      let is = some_is _ _ b.2 in
      (cell_of_it prog w ps vs ts among c a.0 x a.1 (stream_from a.0 b.0 b.1 ∙ sym is), subst (λ (y : Ty). is_stream y ≡ true) (sym is) (stream_is b.0))
  line_allowed x (Switchc c) p h =
      let a = bind_some _ _ x p in
      let b = bind_some _ _ x a.2 in
      let is = some_is _ _ b.2 in
      (cell_of_it prog w ps vs ts among c a.0 x a.1 (cell_from a.0 b.0 b.1 ∙ sym is), subst (λ (y : Ty). is_cell y ≡ true) (sym is) (cell_is b.0))
  line_allowed x (Execute s k kept) p h =
      let a = bind_some _ _ x p in
      let d = bind_some {A = Pattern} _ _ x a.2 in
      let g = given_some _ _ x d.2 in
      let q = both_true _ _ g.0 in
      (d.0, d.1, stream_of_it prog w ps vs ts among s a.0 d.0.param a.1 ((ty_decides a.0 d.0.param).0 q.0), values_are prog w ps vs ts among kept d.0.kept q.1, sym g.1)

  -- the first value that it gives
  given_fits : (x : Ty) (shape : LineShape) → MakesType prog ps ts x shape → (n : Name) (s : Shape) → fits_cell prog w (record { name = n; shape = s; ty = x; first = None }) (given_by vs shape) ≡ true
  given_fits x (Constant e) p n s =
      let a = bind_some _ _ x p in
      cell_has prog w.node a.0 x (eval e vs) (some_is _ _ a.2) (value_is prog w ps vs ts among e a.0 a.1)
  given_fits x (Hold e s) p n z =
      let a = bind_some _ _ x p in
      let b = bind_some (stream_of (sigs prog) prog.codes ps ts s) (λ b. given (ty_eq b a.0) (t.Cell a.0)) x a.2 in
      cell_has prog w.node a.0 x (eval e vs) (sym (given_some _ _ x b.2).1) (value_is prog w ps vs ts among e a.0 a.1)
  given_fits x _ p n s = refl

  pub line_is_allowed : (x : Ty) (shape : LineShape) → has x (shape_type (sigs prog) prog.codes ps ts x shape) && has_tied_type (sigs prog) prog.codes ps all_types x shape ≡ true → IsAllowedLine prog w all vs x shape
  line_is_allowed x shape h =
      let q = both_true _ _ h in
      let typed = has_some x (shape_type (sigs prog) prog.codes ps ts x shape) q.0 in
      record { allowed = line_allowed x shape typed q.1; given_fits = given_fits x shape typed }

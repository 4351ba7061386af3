-- The operands of typed lines, over values of their types, refer to nodes.
use Rattle.std.proofs.Common.{◌≡◌, ℕ, ◌+◌, true, List, [], ◌∷◌, ◌++◌, length, Option, Some, refl, sym, ap, ◌∙◌, subst, append_assoc, append-nil, arith}
use Rattle.std.specs.Prelude.{slice_get, slice_index_or}
use Rattle.std.proofs.lemmas.List.{length_push}
use Rattle.frp_base.specs.declared.name.Name.{Name}
use Rattle.frp_base.specs.declared.ty.Ty.{Ty, out-Ty, roll-out-Ty}
use Rattle.frp_base.specs.declared.val.Val.{Val, out-Val}
use Rattle.frp_base.proofs.Booleans.{both_true, true_both}
use Rattle.frp_expr.specs.declared.expr.Expr.{Expr}
use Rattle.frp_expr.specs.Eval.{eval}
use Rattle.frp_expr.specs.Parts.{zero_val}
use Rattle.frp_expr.specs.Typing.{type_in}
use Rattle.frp_expr.specs.Values.{are_of}
use Rattle.frp_expr.proofs.TypeLemmas.{bind_some, has_some}
use Rattle.frp_expr.proofs.ValueLemmas.{opened, variable_is}
use Rattle.frp_graph.specs.declared.prog.Prog.{Prog}
use Rattle.frp_graph.specs.declared.prog.Line3.{Line3}
use Rattle.frp_graph.specs.declared.prog.Line3.TheVariants.{Node, Get}
use Rattle.frp_graph.specs.declared.prog.LineShape.{LineShape}
use Rattle.frp_graph.specs.declared.prog.LineShape.TheVariants.{Sink, Never, Constant, Map, Filter, Filteropt, Merge, Snapshot, Split, Updates, Value, Loop, Hold, Mapc, Apply, Switchs, Switchc, Execute}
use Rattle.frp_graph.specs.Trace.{Sight}
use Rattle.frp_graph.specs.Births.{reference, node_of, values_from}
use Rattle.frp_graph.specs.TypedProg.{Pattern, sigs, stream_item, cell_item, stream_of, cell_of, shape_type, has_tied_type, line_type, all_types, are_typed_lines}
use Rattle.frp_graph.specs.Values.{type_among, is_value, are_values}
use Rattle.frp_graph.proofs.Options.{some_there, then_some}
use Rattle.frp_graph.proofs.TypedValues.{IsNodeType, stream_from, cell_from, stream_node, cell_node}
use Rattle.frp_graph.proofs.TypedLines.{value_is, line_kind}
use Rattle.frp_fire.proofs.Needs.{refers_layer}
use Rattle.frp_make.specs.Lines.{is_reference, refers, has_operands, AreReady}
use Rattle.frp_make.proofs.Values.{are_first, taken}

-- the first of values that are of their types are of the first of these
front_is : (node : Name → Option Ty) (prog : Prog) (vs more : List Val) (ts others : List Ty) → length vs ≡ length ts
    → are_of node (sigs prog) (vs ++ more) (ts ++ others) ≡ true → are_of node (sigs prog) vs ts ≡ true
front_is node prog [] more [] others l h = refl
front_is node prog [] more (t ∷ ts) others l h = absurd (omega arith)
front_is node prog (v ∷ vs) more [] others l h = absurd (omega arith)
front_is node prog (v ∷ vs) more (t ∷ ts) others l h =
    let q = both_true _ _ h in
    true_both _ _ q.0 (front_is node prog vs more ts others (omega arith) q.1)

module _ (prog : Prog) (w : Sight) (ps : List Pattern) where
  value_refers : (v : Val) (x : Ty) → IsNodeType x → is_value prog w.node v x ≡ true → is_reference v ≡ true
  value_refers v x k fit = refers_layer (type_among w.node) (sigs prog) (out-Val v) x (out-Ty x) k (opened (type_among w.node) (sigs prog) v x (out-Ty x) (roll-out-Ty x) fit)

  module _ (vs : List Val) (ts : List Ty) (among : are_values prog w.node vs ts ≡ true) where
    abbrev stream_at : Expr → Option Ty
    stream_at e = stream_of (sigs prog) prog.codes ps ts e

    abbrev cell_at : Expr → Option Ty
    cell_at e = cell_of (sigs prog) prog.codes ps ts e

    stream_refers : (e : Expr) (a : Ty) → stream_at e ≡ Some a → refers vs e ≡ true
    stream_refers e a p =
        let y = bind_some (type_in (sigs prog) e ts) stream_item a p in
        value_refers (eval e vs) y.0 (stream_node a y.0 (stream_from y.0 a y.2)) (value_is prog w ps vs ts among e y.0 y.1)

    cell_refers : (e : Expr) (a : Ty) → cell_at e ≡ Some a → refers vs e ≡ true
    cell_refers e a p =
        let y = bind_some (type_in (sigs prog) e ts) cell_item a p in
        value_refers (eval e vs) y.0 (cell_node a y.0 (cell_from y.0 a y.2)) (value_is prog w ps vs ts among e y.0 y.1)

    module _ (all : List Val) (tied : List Ty) (all_among : are_values prog w.node all tied ≡ true) where
      operands : (x : Ty) (shape : LineShape) → shape_type (sigs prog) prog.codes ps ts x shape ≡ Some x → has_tied_type (sigs prog) prog.codes ps tied x shape ≡ true → has_operands all vs shape ≡ true
      operands x Sink p h = refl
      operands x Never p h = refl
      operands x (Constant e) p h = refl
      operands x (Map f s) p h = let a = bind_some (stream_at s) _ x p in stream_refers s a.0 a.1
      operands x (Filter f s) p h = let a = bind_some (stream_at s) _ x p in stream_refers s a.0 a.1
      operands x (Filteropt s) p h = let a = bind_some (stream_at s) _ x p in stream_refers s a.0 a.1
      operands x (Merge f r s) p h =
          let a = bind_some (stream_at r) _ x p in
          let b = bind_some (stream_at s) _ x a.2 in
          true_both _ _ (stream_refers r a.0 a.1) (stream_refers s b.0 b.1)
      operands x (Snapshot f s c) p h =
          let a = bind_some (stream_at s) _ x p in
          let b = bind_some (cell_at c) _ x a.2 in
          true_both _ _ (stream_refers s a.0 a.1) (cell_refers c b.0 b.1)
      operands x (Split s) p h = let a = bind_some (stream_at s) _ x p in stream_refers s a.0 a.1
      operands x (Updates c) p h = let a = bind_some (cell_at c) _ x p in cell_refers c a.0 a.1
      operands x (Value c) p h = let a = bind_some (cell_at c) _ x p in cell_refers c a.0 a.1
      operands x (Loop to) p h =
          let typed = has_some x (slice_get tied to) h in
          value_refers (slice_index_or all to zero_val) x (line_kind prog ps ts x (Loop to) p) (variable_is (type_among w.node) (sigs prog) all tied to x all_among typed)
      operands x (Hold e s) p h =
          let a = bind_some (type_in (sigs prog) e ts) _ x p in
          let b = bind_some (stream_at s) _ x a.2 in
          stream_refers s b.0 b.1
      operands x (Mapc f c) p h = let a = bind_some (cell_at c) _ x p in cell_refers c a.0 a.1
      operands x (Apply cf ca) p h =
          let f = bind_some (cell_at cf) _ x p in
          let a = bind_some (cell_at ca) _ x f.2 in
          true_both _ _ (cell_refers cf f.0 f.1) (cell_refers ca a.0 a.1)
      operands x (Switchs c) p h = let a = bind_some (cell_at c) _ x p in cell_refers c a.0 a.1
      operands x (Switchc c) p h = let a = bind_some (cell_at c) _ x p in cell_refers c a.0 a.1
      operands x (Execute s k kept) p h = let a = bind_some (stream_at s) _ x p in stream_refers s a.0 a.1

  -- the types so far are the first of all
  types_first : (ts : List Ty) (ls : List Line3) → (more : List Ty) × (all_types (sigs prog) prog.codes ps ts ls ≡ ts ++ more)
  types_first ts [] = ([], sym (append-nil ts))
  types_first ts (l ∷ ls) =
      let x = line_type (sigs prog) prog.codes ps ts l in
      let r = types_first (ts ++ x ∷ []) ls in
      (x ∷ r.0, r.1 ∙ append_assoc ts (x ∷ []) r.0)

  module _ (name : ℕ → Name) (pre : Name → Option Val) (all : List Val) (tied : List Ty) (all_among : are_values prog w.node all tied ≡ true) where
    so_far : (k : ℕ) (vs : List Val) (ts : List Ty) (ls : List Line3) → length vs ≡ length ts → values_from name pre k vs ls ≡ Some all → tied ≡ all_types (sigs prog) prog.codes ps ts ls → are_values prog w.node vs ts ≡ true
    so_far k vs ts ls l e is =
        let r = are_first name pre vs all k ls e in
        let q = types_first ts ls in
        let both : are_of (type_among w.node) (sigs prog) (vs ++ r.0) (ts ++ q.0) ≡ true
        = subst (λ (xs : List Val). are_of (type_among w.node) (sigs prog) xs (ts ++ q.0) ≡ true) r.1 (subst (λ (ys : List Ty). are_of (type_among w.node) (sigs prog) all ys ≡ true) (is ∙ q.1) all_among) in
        front_is (type_among w.node) prog vs r.0 ts q.0 l both

    one_more : (vs : List Val) (ts : List Ty) (v : Val) (x : Ty) → length vs ≡ length ts → length (vs ++ v ∷ []) ≡ length (ts ++ x ∷ [])
    one_more vs ts v x l = length_push vs v ∙ ap (λ n. n + 1) l ∙ sym (length_push ts x)

    ready_from : (k : ℕ) (vs : List Val) (ts : List Ty) (made : List ℕ) (ls : List Line3) → length vs ≡ length ts → values_from name pre k vs ls ≡ Some all → tied ≡ all_types (sigs prog) prog.codes ps ts ls
        → are_typed_lines (sigs prog) prog.codes ps tied ts made ls ≡ true → AreReady all (length vs) ls
    ready_from k vs ts made [] l e is p = tt
    ready_from k vs ts made (Node x shape ∷ ls) l e is p =
        let q = both_true _ _ p in
        let line = both_true _ _ q.0 in
        let typed = has_some x (shape_type (sigs prog) prog.codes ps ts x shape) line.0 in
        let here = operands vs ts (so_far k vs ts (Node x shape ∷ ls) l e is) all tied all_among x shape typed line.1 in (
          subst (λ (ws : List Val). has_operands all ws shape ≡ true) (sym (taken name pre vs all k (Node x shape ∷ ls) e)) here,
          subst (λ n. AreReady all n ls) (length_push vs (reference x (name k)))
              (ready_from (k + 1) (vs ++ reference x (name k) ∷ []) (ts ++ x ∷ []) (made ++ length ts ∷ []) ls (one_more vs ts (reference x (name k)) x l) e is q.1),
        )
    ready_from k vs ts made (Get c ∷ ls) l e is p =
        let q = both_true _ _ p in
        let line = both_true _ _ q.0 in
        let a = some_there (cell_at vs ts (so_far k vs ts (Get c ∷ ls) l e is) c) line.0 in
        let here = cell_refers vs ts (so_far k vs ts (Get c ∷ ls) l e is) c a.0 a.1 in
        let y = then_some (λ a. values_from name pre k (vs ++ a ∷ []) ls) (pre (node_of vs c)) all e in (
          subst (λ (ws : List Val). refers ws c ≡ true) (sym (taken name pre vs all k (Get c ∷ ls) e)) here,
          subst (λ n. AreReady all n ls) (length_push vs y.0)
              (ready_from k (vs ++ y.0 ∷ []) (ts ++ line_type (sigs prog) prog.codes ps ts (Get c) ∷ []) made ls (one_more vs ts y.0 (line_type (sigs prog) prog.codes ps ts (Get c)) l) y.2 is q.1),
        )

    pub are_ready : (vs : List Val) (ts : List Ty) (ls : List Line3) → length vs ≡ length ts → values_from name pre 0 vs ls ≡ Some all → tied ≡ all_types (sigs prog) prog.codes ps ts ls
        → are_typed_lines (sigs prog) prog.codes ps tied ts [] ls ≡ true → AreReady all (length vs) ls
    are_ready vs ts ls l e is p = ready_from 0 vs ts [] ls l e is p

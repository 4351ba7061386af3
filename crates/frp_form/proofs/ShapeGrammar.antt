-- Shapes against the grammar.
use Rattle.std.proofs.Common.{◌≡◌, ℕ, List, [], ◌∷◌, ◌++◌, None, Ok, refl, ap, ◌∙◌, subst}
use Rattle.std.specs.Prelude.{codes}
use Rattle.frp_expr.specs.declared.raw.Raw.{Raw}
use Rattle.frp_lex.specs.declared.token.Token.{Token}
use Rattle.frp_file.specs.declared.file.Param.{Param}
use Rattle.frp_file.specs.declared.file.RawShape.{RawShape}
use Rattle.frp_form.specs.declared.shape_heads.TyShape.{TyShape}
use Rattle.frp_form.specs.declared.shape_heads.UnaryShape.{UnaryShape}
use Rattle.frp_form.specs.declared.shape_heads.BinaryShape.{BinaryShape}
use Rattle.frp_form.specs.declared.shape_heads.MapShape.{MapShape}
use Rattle.frp_form.specs.declared.shape_heads.JoinShape.{JoinShape}
use Rattle.frp_form.specs.declared.shape_heads.FoldShape.{FoldShape}
use Rattle.frp_form.specs.declared.shape_heads.ShapeHead.{ShapeHead}
use Rattle.frp_form.specs.declared.shape_heads.ShapeHead.TheVariants as h
use Rattle.frp_form.specs.Gives.{FormOutcome}
use Rattle.frp_form.specs.Tokens.{left, right, spot, two_names, head, after_right}
use Rattle.frp_form.specs.Types.{whole_ty}
use Rattle.frp_form.specs.Exprs.{whole_expr, kept_exprs}
use Rattle.frp_form.specs.ShapeHeads.{shape_head}
use Rattle.frp_form.specs.Shapes.{param, three_exprs, typed_at, unary_at, binary_at, map_at, join_at, fold_at, lift_at, execute_at, shape_parts, shape}
use Rattle.frp_form.specs.Words.{typed_word, unary_shape_word, binary_shape_word, map_word, join_word, fold_word}
use Rattle.frp_form.specs.Grammar.{left_at, right_at, name_at, name_of, IsExpr, IsParam, param_is, IsShape, typed, shape_of_one, shape_of_two, mapping, joining, folding, lifting, executing}
use Rattle.frp_form.proofs.Steps.{ok_of, bind_ok, Begins, Sound, Complete, Splits, made, ends_with, both, and_one, one_and, inside, flat, flat₂, flat₃, flat₄, flat₅, left_sound, right_sound, spot_sound, spot_read, two_sound, two_read, head_sound, head_read}
use Rattle.frp_form.proofs.HeadWords.{word_of_shape, shape_named, shape_known}
use Rattle.frp_form.proofs.TypeGrammar.{type_sound, type_read}
use Rattle.frp_form.proofs.ExprGrammar.{expr_sound, expr_read, right_ended, kept_sound, kept_read}

-- three expressions, one behind the other
record Three (x y z : Raw) (ts rest : List Token) : Type 0 where
  one : List Token
  two : List Token
  three : List Token
  behind_one : List Token
  behind_two : List Token
  first : Splits ts one behind_one
  second : Splits behind_one two behind_two
  third : Splits behind_two three rest
  is : IsExpr x one × IsExpr y two × IsExpr z three

module _ (end : ℕ) where
  three_sound : (ts : List Token) (x : (Raw × Raw × Raw) × List Token) → three_exprs end ts ≡ Ok x → Three x.0.0 x.0.1 x.0.2 ts x.1
  unfolding three_exprs
  three_sound ts x e =
      let p = bind_ok (whole_expr end ts) _ _ e in
      let q = bind_ok (whole_expr end p.0.1) _ _ p.2 in
      let r = bind_ok (whole_expr end q.0.1) _ _ q.2 in
      let u = expr_sound end ts p.0 p.1 in
      let v = expr_sound end p.0.1 q.0 q.1 in
      let w = expr_sound end q.0.1 r.0 r.1 in
      let y : (Raw × Raw × Raw) × List Token = ((p.0.0, q.0.0, r.0.0), r.0.1) in
      subst (λ (z : (Raw × Raw × Raw) × List Token). Three z.0.0 z.0.1 z.0.2 ts z.1) (ok_of y x r.2) (record { one = u.front; two = v.front; three = w.front; behind_one = p.0.1; behind_two = q.0.1; first = u.parts; second = v.parts; third = w.parts; is = (u.is, v.is, w.is) })

  three_read : (x y z : Raw) (us vs ws rest : List Token) → IsExpr x us → IsExpr y vs → IsExpr z ws → three_exprs end (us ++ (vs ++ (ws ++ rest))) ≡ Ok ((x, y, z), rest)
  unfolding three_exprs
  three_read x y z us vs ws rest i j l = rw (expr_read end x us (vs ++ (ws ++ rest)) i, expr_read end y vs (ws ++ rest) j, expr_read end z ws rest l) refl

  -- ---- names with types

  pub param_sound : Sound (param end) IsParam
  unfolding param
  param_sound ts x e =
      let l = bind_ok (left end ts) _ _ e in
      let n = bind_ok (spot end l.0.1) _ _ l.2 in
      let t = bind_ok (whole_ty end n.0.1) _ _ n.2 in
      let r = bind_ok (right end t.0.1) _ _ t.2 in
      let u = spot_sound end l.0.1 n.0 n.1 in
      let v = type_sound end n.0.1 t.0 t.1 in
      let c = right_sound end t.0.1 r.0 r.1 in
      ends_with IsParam _ _ x r.2 (made (and_one (one_and (left_sound end ts l.0 l.1) (one_and u.0 v.parts)) c.1) (param_is l.0.0 c.0 n.0.0 t.0.0 v.front u.1 v.is))

  pub param_read : Complete (param end) IsParam
  unfolding param left right
  param_read x ts rest (param_is a c v ty us user is) =
      ap (λ l. param end (left_at a ∷ name_of v ∷ l)) (flat us (right_at c ∷ []) rest) ∙ rw (spot_read end v (us ++ right_at c ∷ rest) user, type_read end ty us (right_at c ∷ rest) is) refl

  pub param_starts : (x : Param) (ts rest : List Token) → IsParam x ts → after_right (ts ++ rest) ≡ None
  param_starts x ts rest (param_is a c v ty us user is) = refl

  -- ---- what is read is a shape

  typed_sound : (a b : ℕ) (op : TyShape) (ts : List Token) (x : RawShape × List Token) → typed_at end a op ts ≡ Ok x → Begins IsShape x.0 (left_at a ∷ name_at b (typed_word op) ∷ ts) x.1
  unfolding typed_at
  typed_sound a b op ts x e =
      let p = bind_ok (whole_ty end ts) _ _ e in
      let q = bind_ok (right end p.0.1) _ _ p.2 in
      let v = type_sound end ts p.0 p.1 in
      let c = right_sound end p.0.1 q.0 q.1 in
      ends_with IsShape _ _ x q.2 (made (and_one (inside v.parts) c.1) (typed a b c.0 op p.0.0 v.front v.is))

  one_sound : (a b : ℕ) (op : UnaryShape) (ts : List Token) (x : RawShape × List Token) → unary_at end a op ts ≡ Ok x → Begins IsShape x.0 (left_at a ∷ name_at b (unary_shape_word op) ∷ ts) x.1
  unfolding unary_at
  one_sound a b op ts x e =
      let p = bind_ok (whole_expr end ts) _ _ e in
      let q = bind_ok (right end p.0.1) _ _ p.2 in
      let v = expr_sound end ts p.0 p.1 in
      let c = right_sound end p.0.1 q.0 q.1 in
      ends_with IsShape _ _ x q.2 (made (and_one (inside v.parts) c.1) (shape_of_one a b c.0 op p.0.0 v.front v.is))

  two_operands_sound : (a b : ℕ) (op : BinaryShape) (ts : List Token) (x : RawShape × List Token) → binary_at end a op ts ≡ Ok x → Begins IsShape x.0 (left_at a ∷ name_at b (binary_shape_word op) ∷ ts) x.1
  unfolding binary_at
  two_operands_sound a b op ts x e =
      let p = bind_ok (whole_expr end ts) _ _ e in
      let q = bind_ok (whole_expr end p.0.1) _ _ p.2 in
      let r = bind_ok (right end q.0.1) _ _ q.2 in
      let v = expr_sound end ts p.0 p.1 in
      let w = expr_sound end p.0.1 q.0 q.1 in
      let c = right_sound end q.0.1 r.0 r.1 in
      ends_with IsShape _ _ x r.2 (made (and_one (both (inside v.parts) w.parts) c.1) (shape_of_two a b c.0 op p.0.0 q.0.0 v.front w.front v.is w.is))

  mapping_sound : (a b : ℕ) (op : MapShape) (ts : List Token) (x : RawShape × List Token) → map_at end a op ts ≡ Ok x → Begins IsShape x.0 (left_at a ∷ name_at b (map_word op) ∷ ts) x.1
  unfolding map_at
  mapping_sound a b op ts x e =
      let n = bind_ok (spot end ts) _ _ e in
      let p = bind_ok (whole_expr end n.0.1) _ _ n.2 in
      let q = bind_ok (whole_expr end p.0.1) _ _ p.2 in
      let r = bind_ok (right end q.0.1) _ _ q.2 in
      let u = spot_sound end ts n.0 n.1 in
      let v = expr_sound end n.0.1 p.0 p.1 in
      let w = expr_sound end p.0.1 q.0 q.1 in
      let c = right_sound end q.0.1 r.0 r.1 in
      ends_with IsShape _ _ x r.2 (made (and_one (both (inside (one_and u.0 v.parts)) w.parts) c.1) (mapping a b c.0 op n.0.0 p.0.0 q.0.0 v.front w.front u.1 v.is w.is))

  joining_sound : (a b : ℕ) (op : JoinShape) (ts : List Token) (x : RawShape × List Token) → join_at end a op ts ≡ Ok x → Begins IsShape x.0 (left_at a ∷ name_at b (join_word op) ∷ ts) x.1
  unfolding join_at
  joining_sound a b op ts x e =
      let n = bind_ok (two_names end ts) _ _ e in
      let p = bind_ok (three_exprs end n.0.1) _ _ n.2 in
      let r = bind_ok (right end p.0.1) _ _ p.2 in
      let u = two_sound end ts n.0 n.1 in
      let v = three_sound n.0.1 p.0 p.1 in
      let c = right_sound end p.0.1 r.0 r.1 in
      ends_with IsShape _ _ x r.2 (made (and_one (both (both (inside (one_and u.0 (one_and refl v.first))) v.second) v.third) c.1) (joining a b c.0 op n.0.0.0 n.0.0.1 p.0.0.0 p.0.0.1 p.0.0.2 v.one v.two v.three u.1 u.2 v.is.0 v.is.1 v.is.2))

  folding_sound : (a b : ℕ) (op : FoldShape) (ts : List Token) (x : RawShape × List Token) → fold_at end a op ts ≡ Ok x → Begins IsShape x.0 (left_at a ∷ name_at b (fold_word op) ∷ ts) x.1
  unfolding fold_at
  folding_sound a b op ts x e =
      let t = bind_ok (whole_ty end ts) _ _ e in
      let n = bind_ok (two_names end t.0.1) _ _ t.2 in
      let p = bind_ok (three_exprs end n.0.1) _ _ n.2 in
      let r = bind_ok (right end p.0.1) _ _ p.2 in
      let w = type_sound end ts t.0 t.1 in
      let u = two_sound end t.0.1 n.0 n.1 in
      let v = three_sound n.0.1 p.0 p.1 in
      let c = right_sound end p.0.1 r.0 r.1 in
      ends_with IsShape _ _ x r.2 (made (and_one (both (both (both (inside w.parts) (one_and u.0 (one_and refl v.first))) v.second) v.third) c.1) (folding a b c.0 op t.0.0 n.0.0.0 n.0.0.1 p.0.0.0 p.0.0.1 p.0.0.2 w.front v.one v.two v.three w.is u.1 u.2 v.is.0 v.is.1 v.is.2))

  lifting_sound : (a b : ℕ) (ts : List Token) (x : RawShape × List Token) → lift_at end a ts ≡ Ok x → Begins IsShape x.0 (left_at a ∷ name_at b (codes "lift2") ∷ ts) x.1
  unfolding lift_at
  lifting_sound a b ts x e =
      let m = bind_ok (param end ts) _ _ e in
      let n = bind_ok (param end m.0.1) _ _ m.2 in
      let p = bind_ok (three_exprs end n.0.1) _ _ n.2 in
      let r = bind_ok (right end p.0.1) _ _ p.2 in
      let t = param_sound ts m.0 m.1 in
      let u = param_sound m.0.1 n.0 n.1 in
      let v = three_sound n.0.1 p.0 p.1 in
      let c = right_sound end p.0.1 r.0 r.1 in
      ends_with IsShape _ _ x r.2 (made (and_one (both (both (both (both (inside t.parts) u.parts) v.first) v.second) v.third) c.1) (lifting a b c.0 m.0.0 n.0.0 p.0.0.0 p.0.0.1 p.0.0.2 t.front u.front v.one v.two v.three t.is u.is v.is.0 v.is.1 v.is.2))

  executing_sound : (a b : ℕ) (ts : List Token) (x : RawShape × List Token) → execute_at end a ts ≡ Ok x → Begins IsShape x.0 (left_at a ∷ name_at b (codes "execute") ∷ ts) x.1
  unfolding execute_at
  executing_sound a b ts x e =
      let p = bind_ok (whole_expr end ts) _ _ e in
      let n = bind_ok (spot end p.0.1) _ _ p.2 in
      let q = bind_ok (kept_exprs end n.0.1) _ _ n.2 in
      let v = expr_sound end ts p.0 p.1 in
      let u = spot_sound end p.0.1 n.0 n.1 in
      let l = kept_sound end n.0.1 q.0 q.1 in
      let c = right_ended l.tail q.0.1 l.ended_here in
      ends_with IsShape _ _ x q.2 (made (and_one (both (inside v.parts) (one_and u.0 l.parts)) c.1) (executing a b c.0 p.0.0 n.0.0 q.0.0 v.front l.front v.is u.1 l.all))

  parts_sound : (a b : ℕ) (op : ShapeHead) (ts : List Token) (x : RawShape × List Token) → shape_parts end a op ts ≡ Ok x → Begins IsShape x.0 (left_at a ∷ name_at b (word_of_shape op) ∷ ts) x.1
  parts_sound a b (h.Typed op) ts x e = typed_sound a b op ts x e
  parts_sound a b (h.Unary op) ts x e = one_sound a b op ts x e
  parts_sound a b (h.Binary op) ts x e = two_operands_sound a b op ts x e
  parts_sound a b (h.Mapping op) ts x e = mapping_sound a b op ts x e
  parts_sound a b (h.Joining op) ts x e = joining_sound a b op ts x e
  parts_sound a b (h.Folding op) ts x e = folding_sound a b op ts x e
  parts_sound a b h.Lift2 ts x e = lifting_sound a b ts x e
  parts_sound a b h.Execute ts x e = executing_sound a b ts x e

  pub shape_sound : Sound (shape end) IsShape
  unfolding shape
  shape_sound ts x e =
      let l = bind_ok (left end ts) _ _ e in
      let p = bind_ok (head end shape_head l.0.1) _ _ l.2 in
      let w = head_sound end shape_head l.0.1 p.0 p.1 in
      let is : ts ≡ left_at l.0.0 ∷ name_at w.place (word_of_shape p.0.0) ∷ p.0.1 =
      left_sound end ts l.0 l.1 ∙ ap (λ us. left_at l.0.0 ∷ us) (w.parts ∙ ap (λ n. name_at w.place n ∷ p.0.1) (shape_named w.name p.0.0 w.means)) in
      rw is (parts_sound l.0.0 w.place p.0.0 p.0.1 x p.2)

  -- ---- a shape is read

  parts_read : (a b : ℕ) (op : ShapeHead) (inside : List Token) (y : FormOutcome (RawShape × List Token)) → shape_parts end a op inside ≡ y → shape end (left_at a ∷ name_at b (word_of_shape op) ∷ inside) ≡ y
  unfolding shape left
  parts_read a b op inside y e = rw (head_read end b shape_head (word_of_shape op) op inside (shape_known op)) e

  pub shape_read : Complete (shape end) IsShape
  unfolding typed_at unary_at binary_at map_at join_at fold_at lift_at execute_at right
  shape_read x ts rest (typed a b c op ty us is) =
      parts_read a b (h.Typed op) _ _ (ap (typed_at end a op) (flat us (right_at c ∷ []) rest) ∙ rw (type_read end ty us (right_at c ∷ rest) is) refl)
  shape_read x ts rest (shape_of_one a b c op v vs is) =
      parts_read a b (h.Unary op) _ _ (ap (unary_at end a op) (flat vs (right_at c ∷ []) rest) ∙ rw (expr_read end v vs (right_at c ∷ rest) is) refl)
  shape_read x ts rest (shape_of_two a b c op v w vs ws is js) =
      parts_read a b (h.Binary op) _ _ (ap (binary_at end a op) (flat₂ vs ws (right_at c ∷ []) rest) ∙ rw (expr_read end v vs (ws ++ right_at c ∷ rest) is, expr_read end w ws (right_at c ∷ rest) js) refl)
  shape_read x ts rest (mapping a b c op n v w vs ws user is js) =
      parts_read a b (h.Mapping op) _ _ (ap (λ l. map_at end a op (name_of n ∷ l)) (flat₂ vs ws (right_at c ∷ []) rest) ∙ rw (spot_read end n (vs ++ (ws ++ right_at c ∷ rest)) user, expr_read end v vs (ws ++ right_at c ∷ rest) is, expr_read end w ws (right_at c ∷ rest) js) refl)
  shape_read x ts rest (joining a b c op m n u v w us vs ws user users is js ks) =
      parts_read a b (h.Joining op) _ _ (ap (λ l. join_at end a op (name_of m ∷ name_of n ∷ l)) (flat₃ us vs ws (right_at c ∷ []) rest) ∙ rw (two_read end m n (us ++ (vs ++ (ws ++ right_at c ∷ rest))) user users, three_read u v w us vs ws (right_at c ∷ rest) is js ks) refl)
  shape_read x ts rest (folding a b c op ty m n u v w xs us vs ws types user users is js ks) =
      parts_read a b (h.Folding op) _ _ (ap (fold_at end a op) (flat₄ xs (name_of m ∷ name_of n ∷ us) vs ws (right_at c ∷ []) rest) ∙ rw (type_read end ty xs (name_of m ∷ name_of n ∷ us ++ (vs ++ (ws ++ right_at c ∷ rest))) types, two_read end m n (us ++ (vs ++ (ws ++ right_at c ∷ rest))) user users, three_read u v w us vs ws (right_at c ∷ rest) is js ks) refl)
  shape_read x ts rest (lifting a b c m n u v w xs ys us vs ws first second is js ks) =
      parts_read a b h.Lift2 _ _ (ap (lift_at end a) (flat₅ xs ys us vs ws (right_at c ∷ []) rest) ∙ rw (param_read m xs (ys ++ (us ++ (vs ++ (ws ++ right_at c ∷ rest)))) first, param_read n ys (us ++ (vs ++ (ws ++ right_at c ∷ rest))) second, three_read u v w us vs ws (right_at c ∷ rest) is js ks) refl)
  shape_read x ts rest (executing a b c v n kept vs us is user all) =
      parts_read a b h.Execute _ _ (ap (execute_at end a) (flat₂ vs (name_of n ∷ us) (right_at c ∷ []) rest) ∙ rw (expr_read end v vs (name_of n ∷ us ++ right_at c ∷ rest) is, spot_read end n (us ++ right_at c ∷ rest) user, kept_read end c kept us rest all) refl)

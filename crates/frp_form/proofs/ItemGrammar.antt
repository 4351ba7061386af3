-- Items against the grammar.
use Rattle.std.proofs.Common.{◌≡◌, ℕ, List, [], ◌∷◌, ◌++◌, Some, None, Ok, refl, ap, ◌∙◌}
use Rattle.std.specs.Prelude.{codes}
use Rattle.frp_lex.specs.declared.token.Token.{Token}
use Rattle.frp_expr.specs.declared.raw.Spot.{Spot}
use Rattle.frp_expr.specs.declared.raw.RawTy.{RawTy}
use Rattle.frp_expr.specs.declared.raw.Raw.{Raw}
use Rattle.frp_file.specs.declared.file.RawShape.{RawShape}
use Rattle.frp_file.specs.declared.file.Item.{Item}
use Rattle.frp_file.specs.declared.file.ItemForm.TheVariants as i
use Rattle.frp_form.specs.declared.item_heads.ItemHead.{ItemHead}
use Rattle.frp_form.specs.declared.item_heads.ItemHead.TheVariants as h
use Rattle.frp_form.specs.Tokens.{left, right, spot, head}
use Rattle.frp_form.specs.Types.{whole_ty}
use Rattle.frp_form.specs.Exprs.{whole_expr}
use Rattle.frp_form.specs.Shapes.{shape}
use Rattle.frp_form.specs.Items.{body_head, sink_at, cellsink_at, let_at, tie_at, get_at, placed_item, item_parts, body_item}
use Rattle.frp_form.specs.Decls.{before_give}
use Rattle.frp_form.specs.Grammar.{left_at, right_at, name_at, name_of, IsUser, IsType, IsExpr, IsShape, IsCommonItem, let_item, tie_item, IsItem, sink_item, cellsink_item, IsBodyItem, common_in_body, get_item}
use Rattle.frp_form.proofs.Steps.{bind_ok, Begins, Sound, Complete, made, ends_with, both, and_one, one_and, one, inside, flat, flat₂, left_sound, right_sound, spot_sound, spot_read, head_sound}
use Rattle.frp_form.proofs.HeadWords.{word_of_body, body_named}
use Rattle.frp_form.proofs.TypeGrammar.{type_sound, type_read}
use Rattle.frp_form.proofs.ExprGrammar.{expr_sound, expr_read}
use Rattle.frp_form.proofs.ShapeGrammar.{shape_sound, shape_read}

no_sink : (w : List ℕ) → body_head w ≡ Some h.Sink → ⊥
no_sink w e = let n : body_head (codes "sink") ≡ Some h.Sink = rw (body_named w h.Sink e) at e in absurd cc

no_cellsink : (w : List ℕ) → body_head w ≡ Some h.Cellsink → ⊥
no_cellsink w e = let n : body_head (codes "cellsink") ≡ Some h.Cellsink = rw (body_named w h.Cellsink e) at e in absurd cc

module _ (end : ℕ) where
  -- ---- what is read is an item

  pub let_sound : (a b : ℕ) (ts : List Token) (x : Item × List Token) → let_at end a ts ≡ Ok x → Begins IsCommonItem x.0 (left_at a ∷ name_at b (codes "let") ∷ ts) x.1
  unfolding let_at
  let_sound a b ts x e =
      let n = bind_ok (spot end ts) _ _ e in
      let p = bind_ok (shape end n.0.1) _ _ n.2 in
      let r = bind_ok (right end p.0.1) _ _ p.2 in
      let u = spot_sound end ts n.0 n.1 in
      let v = shape_sound end n.0.1 p.0 p.1 in
      let c = right_sound end p.0.1 r.0 r.1 in
      ends_with IsCommonItem _ _ x r.2 (made (and_one (inside (one_and u.0 v.parts)) c.1) (let_item a b c.0 n.0.0 p.0.0 v.front u.1 v.is))

  pub tie_sound : (a b : ℕ) (ts : List Token) (x : Item × List Token) → tie_at end a ts ≡ Ok x → Begins IsCommonItem x.0 (left_at a ∷ name_at b (codes "tie") ∷ ts) x.1
  unfolding tie_at
  tie_sound a b ts x e =
      let m = bind_ok (spot end ts) _ _ e in
      let n = bind_ok (spot end m.0.1) _ _ m.2 in
      let r = bind_ok (right end n.0.1) _ _ n.2 in
      let u = spot_sound end ts m.0 m.1 in
      let v = spot_sound end m.0.1 n.0 n.1 in
      let c = right_sound end n.0.1 r.0 r.1 in
      ends_with IsCommonItem _ _ x r.2 (made (inside (one_and u.0 (one_and v.0 (one c.1)))) (tie_item a b c.0 m.0.0 n.0.0 u.1 v.1))

  pub sink_sound : (a b : ℕ) (ts : List Token) (x : Item × List Token) → sink_at end a ts ≡ Ok x → Begins IsItem x.0 (left_at a ∷ name_at b (codes "sink") ∷ ts) x.1
  unfolding sink_at
  sink_sound a b ts x e =
      let n = bind_ok (spot end ts) _ _ e in
      let p = bind_ok (whole_ty end n.0.1) _ _ n.2 in
      let r = bind_ok (right end p.0.1) _ _ p.2 in
      let u = spot_sound end ts n.0 n.1 in
      let v = type_sound end n.0.1 p.0 p.1 in
      let c = right_sound end p.0.1 r.0 r.1 in
      ends_with IsItem _ _ x r.2 (made (and_one (inside (one_and u.0 v.parts)) c.1) (sink_item a b c.0 n.0.0 p.0.0 v.front u.1 v.is))

  pub cellsink_sound : (a b : ℕ) (ts : List Token) (x : Item × List Token) → cellsink_at end a ts ≡ Ok x → Begins IsItem x.0 (left_at a ∷ name_at b (codes "cellsink") ∷ ts) x.1
  unfolding cellsink_at
  cellsink_sound a b ts x e =
      let m = bind_ok (spot end ts) _ _ e in
      let n = bind_ok (spot end m.0.1) _ _ m.2 in
      let p = bind_ok (whole_ty end n.0.1) _ _ n.2 in
      let q = bind_ok (whole_expr end p.0.1) _ _ p.2 in
      let r = bind_ok (right end q.0.1) _ _ q.2 in
      let t = spot_sound end ts m.0 m.1 in
      let u = spot_sound end m.0.1 n.0 n.1 in
      let v = type_sound end n.0.1 p.0 p.1 in
      let w = expr_sound end p.0.1 q.0 q.1 in
      let c = right_sound end q.0.1 r.0 r.1 in
      ends_with IsItem _ _ x r.2 (made (and_one (both (inside (one_and t.0 (one_and u.0 v.parts))) w.parts) c.1) (cellsink_item a b c.0 m.0.0 n.0.0 p.0.0 q.0.0 v.front w.front t.1 u.1 v.is w.is))

  get_sound : (a b : ℕ) (ts : List Token) (x : Item × List Token) → get_at end a ts ≡ Ok x → Begins IsBodyItem x.0 (left_at a ∷ name_at b (codes "get") ∷ ts) x.1
  unfolding get_at
  get_sound a b ts x e =
      let n = bind_ok (spot end ts) _ _ e in
      let p = bind_ok (whole_expr end n.0.1) _ _ n.2 in
      let r = bind_ok (right end p.0.1) _ _ p.2 in
      let u = spot_sound end ts n.0 n.1 in
      let v = expr_sound end n.0.1 p.0 p.1 in
      let c = right_sound end p.0.1 r.0 r.1 in
      ends_with IsBodyItem _ _ x r.2 (made (and_one (inside (one_and u.0 v.parts)) c.1) (get_item a b c.0 n.0.0 p.0.0 v.front u.1 v.is))

  in_body : (x : Item) (ts rest : List Token) → Begins IsCommonItem x ts rest → Begins IsBodyItem x ts rest
  in_body x ts rest b = made b.parts (common_in_body x b.front b.is)

  body_parts_sound : (a b : ℕ) (w : List ℕ) (op : ItemHead) (ts : List Token) (x : Item × List Token) → body_head w ≡ Some op → item_parts end a op ts ≡ Ok x → Begins IsBodyItem x.0 (left_at a ∷ name_at b (word_of_body op) ∷ ts) x.1
  body_parts_sound a b w h.Let ts x e g = in_body x.0 _ x.1 (let_sound a b ts x g)
  body_parts_sound a b w h.Tie ts x e g = in_body x.0 _ x.1 (tie_sound a b ts x g)
  body_parts_sound a b w h.Get ts x e g = get_sound a b ts x g
  body_parts_sound a b w h.Sink ts x e g = absurd (no_sink w e)
  body_parts_sound a b w h.Cellsink ts x e g = absurd (no_cellsink w e)

  pub body_item_sound : Sound (body_item end) IsBodyItem
  unfolding body_item
  body_item_sound ts x e =
      let l = bind_ok (left end ts) _ _ e in
      let p = bind_ok (head end body_head l.0.1) _ _ l.2 in
      let w = head_sound end body_head l.0.1 p.0 p.1 in
      let is : ts ≡ left_at l.0.0 ∷ name_at w.place (word_of_body p.0.0) ∷ p.0.1 =
      left_sound end ts l.0 l.1 ∙ ap (λ us. left_at l.0.0 ∷ us) (w.parts ∙ ap (λ n. name_at w.place n ∷ p.0.1) (body_named w.name p.0.0 w.means)) in
      rw is (body_parts_sound l.0.0 w.place w.name p.0.0 p.0.1 x w.means p.2)

  -- ---- an item is read

  pub let_read : (a c : ℕ) (x : Spot) (y : RawShape) (us rest : List Token) → IsUser x → IsShape y us → let_at end a (name_of x ∷ (us ++ right_at c ∷ []) ++ rest) ≡ Ok (placed_item a (i.Let x y), rest)
  unfolding let_at right
  let_read a c x y us rest user is =
      ap (λ l. let_at end a (name_of x ∷ l)) (flat us (right_at c ∷ []) rest) ∙ rw (spot_read end x (us ++ right_at c ∷ rest) user, shape_read end y us (right_at c ∷ rest) is) refl

  pub tie_read : (a c : ℕ) (x y : Spot) (rest : List Token) → IsUser x → IsUser y → tie_at end a (name_of x ∷ name_of y ∷ right_at c ∷ rest) ≡ Ok (placed_item a (i.Tie x y), rest)
  unfolding tie_at right
  tie_read a c x y rest user users = rw (spot_read end x (name_of y ∷ right_at c ∷ rest) user, spot_read end y (right_at c ∷ rest) users) refl

  pub sink_read : (a c : ℕ) (x : Spot) (y : RawTy) (us rest : List Token) → IsUser x → IsType y us → sink_at end a (name_of x ∷ (us ++ right_at c ∷ []) ++ rest) ≡ Ok (placed_item a (i.Sink x y), rest)
  unfolding sink_at right
  sink_read a c x y us rest user is =
      ap (λ l. sink_at end a (name_of x ∷ l)) (flat us (right_at c ∷ []) rest) ∙ rw (spot_read end x (us ++ right_at c ∷ rest) user, type_read end y us (right_at c ∷ rest) is) refl

  pub cellsink_read : (a c : ℕ) (x y : Spot) (z : RawTy) (v : Raw) (us vs rest : List Token) → IsUser x → IsUser y → IsType z us → IsExpr v vs
      → cellsink_at end a (name_of x ∷ name_of y ∷ (us ++ vs ++ right_at c ∷ []) ++ rest) ≡ Ok (placed_item a (i.Cellsink x y z v), rest)
  unfolding cellsink_at right
  cellsink_read a c x y z v us vs rest user users is js =
      ap (λ l. cellsink_at end a (name_of x ∷ name_of y ∷ l)) (flat₂ us vs (right_at c ∷ []) rest)
      ∙ rw (spot_read end x (name_of y ∷ us ++ (vs ++ right_at c ∷ rest)) user, spot_read end y (us ++ (vs ++ right_at c ∷ rest)) users, type_read end z us (vs ++ right_at c ∷ rest) is, expr_read end v vs (right_at c ∷ rest) js) refl

  get_read : (a c : ℕ) (x : Spot) (v : Raw) (vs rest : List Token) → IsUser x → IsExpr v vs → get_at end a (name_of x ∷ (vs ++ right_at c ∷ []) ++ rest) ≡ Ok (placed_item a (i.Get x v), rest)
  unfolding get_at right
  get_read a c x v vs rest user is =
      ap (λ l. get_at end a (name_of x ∷ l)) (flat vs (right_at c ∷ []) rest) ∙ rw (spot_read end x (vs ++ right_at c ∷ rest) user, expr_read end v vs (right_at c ∷ rest) is) refl

  pub body_item_read : Complete (body_item end) IsBodyItem
  unfolding body_item left head
  body_item_read x ts rest (common_in_body y us (let_item a b c n v vs user is)) = let_read a c n v vs rest user is
  body_item_read x ts rest (common_in_body y us (tie_item a b c m n user users)) = tie_read a c m n rest user users
  body_item_read x ts rest (get_item a b c n v vs user is) = get_read a c n v vs rest user is

-- an item of a template begins with no `give`
pub body_item_starts : (x : Item) (ts rest : List Token) → IsBodyItem x ts → before_give (ts ++ rest) ≡ None
body_item_starts x ts rest (common_in_body y us (let_item a b c n v vs user is)) = refl
body_item_starts x ts rest (common_in_body y us (tie_item a b c m n user users)) = refl
body_item_starts x ts rest (get_item a b c n v vs user is) = refl

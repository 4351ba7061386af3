-- Tokens of the kinds of a shape are that shape, places apart.
use Rattle.std.proofs.Common.{◌≡◌, ℕ, true, List, [], ◌∷◌, ◌++◌, map, refl, sym, ap, ◌∙◌}
use Rattle.std.specs.Prelude.{◌&&◌, codes}
use Rattle.std.specs.List.{list_all}
use Rattle.frp_expr.specs.declared.raw.Spot.{Spot}
use Rattle.frp_expr.specs.declared.raw.RawTy.{RawTy}
use Rattle.frp_expr.specs.declared.raw.Raw.{Raw}
use Rattle.frp_lex.specs.declared.token.Kind.TheVariants as k
use Rattle.frp_lex.specs.declared.token.Token.{Token}
use Rattle.frp_lex.specs.Spelling.{kinds}
use Rattle.frp_file.specs.declared.file.Param.{Param}
use Rattle.frp_file.specs.declared.file.RawShape.{RawShape}
use Rattle.frp_file.specs.declared.file.ShapeForm.{ShapeForm}
use Rattle.frp_file.specs.declared.file.ShapeForm.TheVariants as s
use Rattle.frp_form.specs.declared.shape_heads.TyShape.{TyShape}
use Rattle.frp_form.specs.declared.shape_heads.TyShape.TheVariants as t
use Rattle.frp_form.specs.declared.shape_heads.UnaryShape.{UnaryShape}
use Rattle.frp_form.specs.declared.shape_heads.UnaryShape.TheVariants as u
use Rattle.frp_form.specs.declared.shape_heads.BinaryShape.{BinaryShape}
use Rattle.frp_form.specs.declared.shape_heads.BinaryShape.TheVariants as b
use Rattle.frp_form.specs.declared.shape_heads.MapShape.{MapShape}
use Rattle.frp_form.specs.declared.shape_heads.MapShape.TheVariants as m
use Rattle.frp_form.specs.declared.shape_heads.JoinShape.{JoinShape}
use Rattle.frp_form.specs.declared.shape_heads.JoinShape.TheVariants as j
use Rattle.frp_form.specs.declared.shape_heads.FoldShape.{FoldShape}
use Rattle.frp_form.specs.declared.shape_heads.FoldShape.TheVariants as d
use Rattle.frp_form.specs.ShapeHeads.{typed_shape, unary_shape, binary_shape, map_shape, join_shape, fold_shape}
use Rattle.frp_form.specs.Shapes.{shape_at}
use Rattle.frp_form.specs.Words.{typed_word, unary_shape_word, binary_shape_word, map_word, join_word, fold_word}
use Rattle.frp_form.specs.Grammar.{left_at, right_at, name_at, name_of, IsType, IsExpr, IsParam, param_is, IsShape, typed, shape_of_one, shape_of_two, mapping, joining, folding, lifting, executing}
use Rattle.frp_base.proofs.Booleans.{both_true}
use Rattle.frp_write.specs.Writing.{Kinds, run_together, form, spot_kind, ty_kinds, expr_kinds, param_kinds, shape_kinds, shape_form_kinds}
use Rattle.frp_write.specs.Lawful.{is_user_spot, are_user_two, is_lawful_ty, is_lawful_expr, are_lawful_two, are_lawful_three, is_lawful_param, is_lawful_shape}
use Rattle.frp_write.specs.Places.{unplaced_spot, unplaced_ty, unplaced_expr, unplaced_param, unplaced_shape, unplaced_shape_form}
use Rattle.frp_write.proofs.Splitting.{one, part, opening, closing, closing_two, closing_three}
use Rattle.frp_write.proofs.Placed.{Placed, user, all_placed}
use Rattle.frp_write.proofs.PlacedTypes.{type_placed}
use Rattle.frp_write.proofs.PlacedExprs.{expr_placed}

abbrev pub Ty : RawTy → List Token → Type 0
Ty = Placed IsType unplaced_ty

abbrev pub Ex : Raw → List Token → Type 0
Ex = Placed IsExpr unplaced_expr

-- a name at a place
abbrev pub spot_at : ℕ → Spot → Spot
spot_at a x = record { at = a; text = x.text }

-- a name, taken off the front
pub spot : (P : List Token → Type 0) (x : Spot) (ks : Kinds) → ((a : ℕ) (us : List Token) → kinds us ≡ ks → P (name_of (spot_at a x) ∷ us)) → (ts : List Token) → kinds ts ≡ spot_kind x ∷ ks → P ts
spot P x ks go ts e = one P (spot_kind x) ks go ts e

-- the last parts and the right parenthesis

pub last_ty : (P : List Token → Type 0) (x : RawTy) → is_lawful_ty x ≡ true → ((xs : List Token) (c : ℕ) → Ty x xs → P (xs ++ right_at c ∷ [])) → (ts : List Token) → kinds ts ≡ ty_kinds x ++ k.Right ∷ [] → P ts
last_ty P x h go ts e = closing P (ty_kinds x) (λ xs c g. go xs c (type_placed x h xs g)) ts e

pub last_one : (P : List Token → Type 0) (x : Raw) → is_lawful_expr x ≡ true → ((xs : List Token) (c : ℕ) → Ex x xs → P (xs ++ right_at c ∷ [])) → (ts : List Token) → kinds ts ≡ expr_kinds x ++ k.Right ∷ [] → P ts
last_one P x h go ts e = closing P (expr_kinds x) (λ xs c g. go xs c (expr_placed x h xs g)) ts e

pub last_two : (P : List Token → Type 0) (x y : Raw) → are_lawful_two x y ≡ true → ((xs ys : List Token) (c : ℕ) → Ex x xs → Ex y ys → P (xs ++ ys ++ right_at c ∷ []))
    → (ts : List Token) → kinds ts ≡ (expr_kinds x ++ expr_kinds y) ++ k.Right ∷ [] → P ts
last_two P x y h go ts e =
    let hs = both_true (is_lawful_expr x) (is_lawful_expr y) h in
    closing_two P (expr_kinds x) (expr_kinds y) (λ xs ys c g i. go xs ys c (expr_placed x hs.0 xs g) (expr_placed y hs.1 ys i)) ts e

-- the last three, behind others
pub last_three : (P : List Token → Type 0) (ks : Kinds) (x y z : Raw) → are_lawful_three x y z ≡ true → ((us ys zs : List Token) (c : ℕ) → kinds us ≡ ks ++ expr_kinds x → Ex y ys → Ex z zs → P (us ++ ys ++ zs ++ right_at c ∷ []))
    → (ts : List Token) → kinds ts ≡ (ks ++ expr_kinds x ++ expr_kinds y ++ expr_kinds z) ++ k.Right ∷ [] → P ts
last_three P ks x y z h go ts e =
    let hs = both_true (is_lawful_expr x) (are_lawful_two y z) h in
    let gs = both_true (is_lawful_expr y) (is_lawful_expr z) hs.1 in
    closing_three P (ks ++ expr_kinds x) (expr_kinds y) (expr_kinds z) (λ us ys zs c g i j. go us ys zs c g (expr_placed y gs.0 ys i) (expr_placed z gs.1 zs j)) ts e

-- a name and its type
pub param_placed : (x : Param) → is_lawful_param x ≡ true → (ts : List Token) → kinds ts ≡ param_kinds x → Placed IsParam unplaced_param x ts
param_placed x h ts e =
    let P = Placed IsParam unplaced_param x in
    let hs = both_true (is_user_spot x.name) (is_lawful_ty x.ty) h in
    one P k.Left (spot_kind x.name ∷ ty_kinds x.ty ++ k.Right ∷ []) (λ a us d.
    spot (λ vs. P (left_at a ∷ vs)) x.name (ty_kinds x.ty ++ k.Right ∷ []) (λ v us d.
    last_ty (λ vs. P (left_at a ∷ name_of (spot_at v x.name) ∷ vs)) x.ty hs.1 (λ xs c p.
    record {
      y = record { at = a; name = spot_at v x.name; ty = p.y };
      is = param_is a c (spot_at v x.name) p.y xs (user x.name hs.0 v) p.is;
      same = ap (λ (w : RawTy). record { at = 0; name = unplaced_spot x.name; ty = w }) p.same;
    }) us d) us d) ts e

-- ---- shapes without places

typed_bare : (op : TyShape) (x : RawTy) → unplaced_shape_form (typed_shape op x) ≡ typed_shape op (unplaced_ty x)
typed_bare t.Never x = refl
typed_bare t.Loops x = refl
typed_bare t.Loopc x = refl

unary_bare : (op : UnaryShape) (x : Raw) → unplaced_shape_form (unary_shape op x) ≡ unary_shape op (unplaced_expr x)
unary_bare u.Constant x = refl
unary_bare u.Split x = refl
unary_bare u.Updates x = refl
unary_bare u.Value x = refl
unary_bare u.Switchs x = refl
unary_bare u.Switchc x = refl
unary_bare u.Once x = refl
unary_bare u.Defer x = refl

binary_bare : (op : BinaryShape) (x y : Raw) → unplaced_shape_form (binary_shape op x y) ≡ binary_shape op (unplaced_expr x) (unplaced_expr y)
binary_bare b.Hold x y = refl
binary_bare b.Apply x y = refl
binary_bare b.Orelse x y = refl
binary_bare b.Gate x y = refl

map_bare : (op : MapShape) (v : Spot) (x e : Raw) → unplaced_shape_form (map_shape op v x e) ≡ map_shape op (unplaced_spot v) (unplaced_expr x) (unplaced_expr e)
map_bare m.Map v x e = refl
map_bare m.Mapc v x e = refl
map_bare m.Filter v x e = refl

join_bare : (op : JoinShape) (v w : Spot) (x y e : Raw) → unplaced_shape_form (join_shape op v w x y e) ≡ join_shape op (unplaced_spot v) (unplaced_spot w) (unplaced_expr x) (unplaced_expr y) (unplaced_expr e)
join_bare j.Merge v w x y e = refl
join_bare j.Snapshot v w x y e = refl

fold_bare : (op : FoldShape) (ty : RawTy) (v w : Spot) (x o e : Raw) → unplaced_shape_form (fold_shape op ty v w x o e) ≡ fold_shape op (unplaced_ty ty) (unplaced_spot v) (unplaced_spot w) (unplaced_expr x) (unplaced_expr o) (unplaced_expr e)
fold_bare d.Accum ty v w x o e = refl
fold_bare d.Collect ty v w x o e = refl

-- shapes whose parts are the same, places apart, are
same_by : (a at : ℕ) (x y z w : ShapeForm) → unplaced_shape_form x ≡ z → z ≡ w → unplaced_shape_form y ≡ w → unplaced_shape (shape_at a x) ≡ unplaced_shape (shape_at at y)
same_by a at x y z w p q r = ap (shape_at 0) (p ∙ q ∙ sym r)

-- ---- shapes by their parts

abbrev Result : ℕ → ShapeForm → List Token → Type 0
Result at w = Placed IsShape unplaced_shape (shape_at at w)

typed_placed : (at : ℕ) (op : TyShape) (x : RawTy) → is_lawful_ty x ≡ true → (ts : List Token) → kinds ts ≡ form (typed_word op) (ty_kinds x) → Result at (typed_shape op x) ts
typed_placed at op x h ts e =
    let P = Result at (typed_shape op x) in
    opening P (typed_word op) (ty_kinds x) (λ a b us d.
    last_ty (λ vs. P (left_at a ∷ name_at b (typed_word op) ∷ vs)) x h (λ xs c p.
    record {
      y = shape_at a (typed_shape op p.y);
      is = typed a b c op p.y xs p.is;
      same = same_by a at (typed_shape op p.y) (typed_shape op x) _ _ (typed_bare op p.y) (ap (typed_shape op) p.same) (typed_bare op x);
    }) us d) ts e

unary_placed : (at : ℕ) (op : UnaryShape) (x : Raw) → is_lawful_expr x ≡ true → (ts : List Token) → kinds ts ≡ form (unary_shape_word op) (expr_kinds x) → Result at (unary_shape op x) ts
unary_placed at op x h ts e =
    let P = Result at (unary_shape op x) in
    opening P (unary_shape_word op) (expr_kinds x) (λ a b us d.
    last_one (λ vs. P (left_at a ∷ name_at b (unary_shape_word op) ∷ vs)) x h (λ xs c p.
    record {
      y = shape_at a (unary_shape op p.y);
      is = shape_of_one a b c op p.y xs p.is;
      same = same_by a at (unary_shape op p.y) (unary_shape op x) _ _ (unary_bare op p.y) (ap (unary_shape op) p.same) (unary_bare op x);
    }) us d) ts e

binary_placed : (at : ℕ) (op : BinaryShape) (x y : Raw) → are_lawful_two x y ≡ true → (ts : List Token) → kinds ts ≡ form (binary_shape_word op) (expr_kinds x ++ expr_kinds y) → Result at (binary_shape op x y) ts
binary_placed at op x y h ts e =
    let P = Result at (binary_shape op x y) in
    opening P (binary_shape_word op) (expr_kinds x ++ expr_kinds y) (λ a b us d.
    last_two (λ vs. P (left_at a ∷ name_at b (binary_shape_word op) ∷ vs)) x y h (λ xs ys c p q.
    record {
      y = shape_at a (binary_shape op p.y q.y);
      is = shape_of_two a b c op p.y q.y xs ys p.is q.is;
      same = same_by a at (binary_shape op p.y q.y) (binary_shape op x y) _ _ (binary_bare op p.y q.y) (λ i. binary_shape op (p.same i) (q.same i)) (binary_bare op x y);
    }) us d) ts e

map_placed : (at : ℕ) (op : MapShape) (v : Spot) (x y : Raw) → is_user_spot v && are_lawful_two x y ≡ true → (ts : List Token) → kinds ts ≡ form (map_word op) (spot_kind v ∷ expr_kinds x ++ expr_kinds y) → Result at (map_shape op v x y) ts
map_placed at op v x y h ts e =
    let P = Result at (map_shape op v x y) in
    let hs = both_true (is_user_spot v) (are_lawful_two x y) h in
    opening P (map_word op) (spot_kind v ∷ expr_kinds x ++ expr_kinds y) (λ a b us d.
    spot (λ vs. P (left_at a ∷ name_at b (map_word op) ∷ vs)) v ((expr_kinds x ++ expr_kinds y) ++ k.Right ∷ []) (λ n us d.
    last_two (λ vs. P (left_at a ∷ name_at b (map_word op) ∷ name_of (spot_at n v) ∷ vs)) x y hs.1 (λ xs ys c p q.
    record {
      y = shape_at a (map_shape op (spot_at n v) p.y q.y);
      is = mapping a b c op (spot_at n v) p.y q.y xs ys (user v hs.0 n) p.is q.is;
      same = same_by a at (map_shape op (spot_at n v) p.y q.y) (map_shape op v x y) _ _ (map_bare op (spot_at n v) p.y q.y) (λ i. map_shape op (unplaced_spot v) (p.same i) (q.same i)) (map_bare op v x y);
    }) us d) us d) ts e

join_placed : (at : ℕ) (op : JoinShape) (v w : Spot) (x y z : Raw) → are_user_two v w && are_lawful_three x y z ≡ true
    → (ts : List Token) → kinds ts ≡ form (join_word op) (spot_kind v ∷ spot_kind w ∷ expr_kinds x ++ expr_kinds y ++ expr_kinds z) → Result at (join_shape op v w x y z) ts
join_placed at op v w x y z h ts e =
    let P = Result at (join_shape op v w x y z) in
    let hs = both_true (are_user_two v w) (are_lawful_three x y z) h in
    let ns = both_true (is_user_spot v) (is_user_spot w) hs.0 in
    let ks : Kinds = (expr_kinds x ++ expr_kinds y ++ expr_kinds z) ++ k.Right ∷ [] in
    opening P (join_word op) (spot_kind v ∷ spot_kind w ∷ expr_kinds x ++ expr_kinds y ++ expr_kinds z) (λ a b us d.
    spot (λ vs. P (left_at a ∷ name_at b (join_word op) ∷ vs)) v (spot_kind w ∷ ks) (λ n us d.
    spot (λ vs. P (left_at a ∷ name_at b (join_word op) ∷ name_of (spot_at n v) ∷ vs)) w ks (λ o us d.
    last_three (λ vs. P (left_at a ∷ name_at b (join_word op) ∷ name_of (spot_at n v) ∷ name_of (spot_at o w) ∷ vs)) [] x y z hs.1 (λ xs ys zs c g q r.
    let p = expr_placed x (both_true (is_lawful_expr x) (are_lawful_two y z) hs.1).0 xs g in
    record {
      y = shape_at a (join_shape op (spot_at n v) (spot_at o w) p.y q.y r.y);
      is = joining a b c op (spot_at n v) (spot_at o w) p.y q.y r.y xs ys zs (user v ns.0 n) (user w ns.1 o) p.is q.is r.is;
      same = same_by a at (join_shape op (spot_at n v) (spot_at o w) p.y q.y r.y) (join_shape op v w x y z) _ _ (join_bare op (spot_at n v) (spot_at o w) p.y q.y r.y)
          (λ i. join_shape op (unplaced_spot v) (unplaced_spot w) (p.same i) (q.same i) (r.same i)) (join_bare op v w x y z);
    }) us d) us d) us d) ts e

fold_placed : (at : ℕ) (op : FoldShape) (ty : RawTy) (v w : Spot) (x y z : Raw) → is_lawful_ty ty && are_user_two v w && are_lawful_three x y z ≡ true
    → (ts : List Token) → kinds ts ≡ form (fold_word op) (ty_kinds ty ++ spot_kind v ∷ spot_kind w ∷ expr_kinds x ++ expr_kinds y ++ expr_kinds z) → Result at (fold_shape op ty v w x y z) ts
fold_placed at op ty v w x y z h ts e =
    let P = Result at (fold_shape op ty v w x y z) in
    let hs = both_true (is_lawful_ty ty && are_user_two v w) (are_lawful_three x y z) h in
    let gs = both_true (is_lawful_ty ty) (are_user_two v w) hs.0 in
    let hs2 = both_true (is_lawful_expr x) (are_lawful_two y z) hs.1 in
    let es = both_true (is_lawful_expr y) (is_lawful_expr z) hs2.1 in
    let ns = both_true (is_user_spot v) (is_user_spot w) gs.1 in
    let nk : Kinds = spot_kind v ∷ spot_kind w ∷ expr_kinds x in
    opening P (fold_word op) (ty_kinds ty ++ nk ++ expr_kinds y ++ expr_kinds z) (λ a b us d.
    closing_three (λ vs. P (left_at a ∷ name_at b (fold_word op) ∷ vs)) (ty_kinds ty ++ nk) (expr_kinds y) (expr_kinds z) (λ us ys zs c g i j.
    let q = expr_placed y es.0 ys i in
    let r = expr_placed z es.1 zs j in
    part (λ vs. P (left_at a ∷ name_at b (fold_word op) ∷ vs ++ ys ++ zs ++ right_at c ∷ [])) (ty_kinds ty) nk (λ tys us g d.
    let ps = type_placed ty gs.0 tys g in
    spot (λ vs. P (left_at a ∷ name_at b (fold_word op) ∷ (tys ++ vs) ++ ys ++ zs ++ right_at c ∷ [])) v (spot_kind w ∷ expr_kinds x) (λ n us d.
    spot (λ vs. P (left_at a ∷ name_at b (fold_word op) ∷ (tys ++ name_of (spot_at n v) ∷ vs) ++ ys ++ zs ++ right_at c ∷ [])) w (expr_kinds x) (λ o xs g.
    let p = expr_placed x hs2.0 xs g in
    record {
      y = shape_at a (fold_shape op ps.y (spot_at n v) (spot_at o w) p.y q.y r.y);
      is = folding a b c op ps.y (spot_at n v) (spot_at o w) p.y q.y r.y tys xs ys zs ps.is (user v ns.0 n) (user w ns.1 o) p.is q.is r.is;
      same = same_by a at (fold_shape op ps.y (spot_at n v) (spot_at o w) p.y q.y r.y) (fold_shape op ty v w x y z) _ _ (fold_bare op ps.y (spot_at n v) (spot_at o w) p.y q.y r.y)
          (λ i. fold_shape op (ps.same i) (unplaced_spot v) (unplaced_spot w) (p.same i) (q.same i) (r.same i)) (fold_bare op ty v w x y z);
    }) us d) us d) us g) us d) ts e

lift_placed : (at : ℕ) (v w : Param) (x y z : Raw) → is_lawful_param v && is_lawful_param w && are_lawful_three x y z ≡ true
    → (ts : List Token) → kinds ts ≡ form (codes "lift2") (param_kinds v ++ param_kinds w ++ expr_kinds x ++ expr_kinds y ++ expr_kinds z) → Result at (s.Lift2 v w x y z) ts
lift_placed at v w x y z h ts e =
    let P = Result at (s.Lift2 v w x y z) in
    let hs = both_true (is_lawful_param v && is_lawful_param w) (are_lawful_three x y z) h in
    let ns = both_true (is_lawful_param v) (is_lawful_param w) hs.0 in
    opening P (codes "lift2") (param_kinds v ++ param_kinds w ++ expr_kinds x ++ expr_kinds y ++ expr_kinds z) (λ a b us d.
    last_three (λ us. P (left_at a ∷ name_at b (codes "lift2") ∷ us)) (param_kinds v ++ param_kinds w) x y z hs.1 (λ us ys zs c g q r.
    part (λ us. P (left_at a ∷ name_at b (codes "lift2") ∷ us ++ ys ++ zs ++ right_at c ∷ [])) (param_kinds v ++ param_kinds w) (expr_kinds x) (λ us xs g i.
    part (λ us. P (left_at a ∷ name_at b (codes "lift2") ∷ (us ++ xs) ++ ys ++ zs ++ right_at c ∷ [])) (param_kinds v) (param_kinds w) (λ vs ws g j.
    let p = expr_placed x (both_true (is_lawful_expr x) (are_lawful_two y z) hs.1).0 xs i in
    let pv = param_placed v ns.0 vs g in
    let pw = param_placed w ns.1 ws j in
    record {
      y = shape_at a (s.Lift2 pv.y pw.y p.y q.y r.y);
      is = lifting a b c pv.y pw.y p.y q.y r.y vs ws xs ys zs pv.is pw.is p.is q.is r.is;
      same = (λ i. shape_at 0 (s.Lift2 (pv.same i) (pw.same i) (p.same i) (q.same i) (r.same i)));
    }) us g) us g) us d) ts e

execute_placed : (at : ℕ) (x : Raw) (v : Spot) (kept : List Raw) → is_lawful_expr x && is_user_spot v && list_all is_lawful_expr kept ≡ true
    → (ts : List Token) → kinds ts ≡ form (codes "execute") (expr_kinds x ++ spot_kind v ∷ run_together (map expr_kinds kept)) → Result at (s.Execute x v kept) ts
execute_placed at x v kept h ts e =
    let P = Result at (s.Execute x v kept) in
    let hs = both_true (is_lawful_expr x && is_user_spot v) (list_all is_lawful_expr kept) h in
    let ns = both_true (is_lawful_expr x) (is_user_spot v) hs.0 in
    let ks : Kinds = run_together (map expr_kinds kept) in
    opening P (codes "execute") (expr_kinds x ++ spot_kind v ∷ ks) (λ a b us d.
    closing_two (λ vs. P (left_at a ∷ name_at b (codes "execute") ∷ vs)) (expr_kinds x) (spot_kind v ∷ ks) (λ xs us c g d.
    let p = expr_placed x ns.0 xs g in
    spot (λ vs. P (left_at a ∷ name_at b (codes "execute") ∷ xs ++ vs ++ right_at c ∷ [])) v ks (λ n vs i.
    let q = all_placed IsExpr unplaced_expr expr_kinds is_lawful_expr expr_placed kept hs.1 vs i in
    record {
      y = shape_at a (s.Execute p.y (spot_at n v) q.y);
      is = executing a b c p.y (spot_at n v) q.y xs vs p.is (user v ns.1 n) q.is;
      same = (λ i. shape_at 0 (s.Execute (p.same i) (unplaced_spot v) (q.same i)));
    }) us d) us d) ts e

form_placed : (at : ℕ) (w : ShapeForm) → is_lawful_shape w ≡ true → (ts : List Token) → kinds ts ≡ shape_form_kinds w → Result at w ts
form_placed at (s.Never ty) h ts e = typed_placed at t.Never ty h ts e
form_placed at (s.Constant x) h ts e = unary_placed at u.Constant x h ts e
form_placed at (s.Map v x y) h ts e = map_placed at m.Map v x y h ts e
form_placed at (s.Mapc v x y) h ts e = map_placed at m.Mapc v x y h ts e
form_placed at (s.Filter v x y) h ts e = map_placed at m.Filter v x y h ts e
form_placed at (s.Merge v w x y z) h ts e = join_placed at j.Merge v w x y z h ts e
form_placed at (s.Snapshot v w x y z) h ts e = join_placed at j.Snapshot v w x y z h ts e
form_placed at (s.Split x) h ts e = unary_placed at u.Split x h ts e
form_placed at (s.Updates x) h ts e = unary_placed at u.Updates x h ts e
form_placed at (s.Value x) h ts e = unary_placed at u.Value x h ts e
form_placed at (s.Loops ty) h ts e = typed_placed at t.Loops ty h ts e
form_placed at (s.Loopc ty) h ts e = typed_placed at t.Loopc ty h ts e
form_placed at (s.Hold x y) h ts e = binary_placed at b.Hold x y h ts e
form_placed at (s.Apply x y) h ts e = binary_placed at b.Apply x y h ts e
form_placed at (s.Switchs x) h ts e = unary_placed at u.Switchs x h ts e
form_placed at (s.Switchc x) h ts e = unary_placed at u.Switchc x h ts e
form_placed at (s.Execute x v kept) h ts e = execute_placed at x v kept h ts e
form_placed at (s.Orelse x y) h ts e = binary_placed at b.Orelse x y h ts e
form_placed at (s.Gate x y) h ts e = binary_placed at b.Gate x y h ts e
form_placed at (s.Once x) h ts e = unary_placed at u.Once x h ts e
form_placed at (s.Accum ty v w x y z) h ts e = fold_placed at d.Accum ty v w x y z h ts e
form_placed at (s.Collect ty v w x y z) h ts e = fold_placed at d.Collect ty v w x y z h ts e
form_placed at (s.Lift2 v w x y z) h ts e = lift_placed at v w x y z h ts e
form_placed at (s.Defer x) h ts e = unary_placed at u.Defer x h ts e

-- tokens of the kinds of a lawful shape are that shape, places apart
pub shape_placed : (x : RawShape) → is_lawful_shape x.form ≡ true → (ts : List Token) → kinds ts ≡ shape_kinds x → Placed IsShape unplaced_shape x ts
shape_placed x h ts e = form_placed x.at x.form h ts e

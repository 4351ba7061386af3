-- Types and expressions of the grammar, of lawful tokens, are lawful.
use Rattle.std.proofs.Common.{◌≡◌, ℕ, zero, suc, ◌<◌, ◌≤◌, Bool, true, List, [], ◌∷◌, ◌++◌, length, map, refl, sym, ap, ◌∙◌, arith}
use Rattle.std.specs.Prelude.{◌&&◌, not, nat_le, codes, ℤ, pos, negsuc}
use Rattle.std.specs.List.{list_all}
use Rattle.std.proofs.lemmas.List.{length-map}
use Rattle.std.proofs.lemmas.Grind.{common_steps}
use Rattle.frp_expr.specs.declared.raw.Spot.{Spot}
use Rattle.frp_expr.specs.declared.raw.RawTy.{RawTy}
use Rattle.frp_expr.specs.declared.raw.TyForm.{TyForm, roll-TyForm}
use Rattle.frp_expr.specs.declared.raw.TyForm.TheVariants as tf
use Rattle.frp_expr.specs.declared.raw.TyForm.TheOpen as to
use Rattle.frp_expr.specs.declared.raw.Raw.{Raw}
use Rattle.frp_expr.specs.declared.raw.RawForm.{RawForm, roll-RawForm}
use Rattle.frp_expr.specs.declared.raw.RawForm.TheVariants as f
use Rattle.frp_expr.specs.declared.raw.RawForm.TheOpen as o
use Rattle.frp_expr.specs.Operators.{most}
use Rattle.frp_expr.specs.Types.{fits}
use Rattle.frp_expr.specs.Raw.{is_lawful, is_lawful_step}
use Rattle.frp_lex.specs.declared.token.Kind.TheVariants as k
use Rattle.frp_lex.specs.declared.token.Token.{Token}
use Rattle.frp_lex.specs.Atoms.{fits_token}
use Rattle.frp_lex.specs.Spelling.{kinds, is_lawful_token, are_lawful}
use Rattle.frp_form.specs.declared.ty_word.AtomTy.{AtomTy}
use Rattle.frp_form.specs.declared.ty_word.AtomTy.TheVariants as a
use Rattle.frp_form.specs.declared.ty_word.UnaryTy.{UnaryTy}
use Rattle.frp_form.specs.declared.ty_word.UnaryTy.TheVariants as u
use Rattle.frp_form.specs.declared.ty_word.BinaryTy.{BinaryTy}
use Rattle.frp_form.specs.declared.ty_word.BinaryTy.TheVariants as b
use Rattle.frp_form.specs.declared.heads.Unary.{Unary}
use Rattle.frp_form.specs.declared.heads.Unary.TheVariants as eu
use Rattle.frp_form.specs.declared.heads.Binary.{Binary}
use Rattle.frp_form.specs.declared.heads.Binary.TheVariants as eb
use Rattle.frp_form.specs.declared.heads.Ternary.{Ternary}
use Rattle.frp_form.specs.declared.heads.Ternary.TheVariants as et
use Rattle.frp_form.specs.Tokens.{is_literal}
use Rattle.frp_form.specs.Types.{raw_ty, atom_ty, unary_ty, binary_ty}
use Rattle.frp_form.specs.Heads.{raw_at, unary_form, binary_form, ternary_form}
use Rattle.frp_form.specs.Words.{unary_word, binary_word, ternary_word}
use Rattle.frp_form.specs.Grammar.{left_at, right_at, name_at, name_of, IsUser, AreAll, none, more, TypeCase, atom, type_of_one, type_of_two, IsTypeOf, IsType, ExprCase, number, text, true_or_false, name, form_of_one, form_of_two, form_of_three, let_form, list_form, nil_form, close_form, IsExprOf, IsExpr}
use Rattle.frp_base.proofs.Booleans.{both_true, true_both}
use Rattle.frp_write.specs.Lawful.{is_user_spot, ty_within, ty_within_step, expr_within, within_step, all_within, is_lawful_ty, is_lawful_expr}
use Rattle.frp_write.proofs.PlacedTypes as types
use Rattle.frp_write.proofs.PlacedExprs as exprs
use Rattle.frp_write.proofs.PlacedExprs.{allowed}

-- tokens that an input can have
abbrev pub Known : List Token → Type 0
Known ts = are_lawful (kinds ts) ≡ true

-- the parts of known tokens are known

pub first : (t : Token) (ts : List Token) → Known (t ∷ ts) → (is_lawful_token t.kind ≡ true) × Known ts
first t ts h = both_true (is_lawful_token t.kind) (are_lawful (kinds ts)) h

pub apart : (us vs : List Token) → Known (us ++ vs) → Known us × Known vs
apart [] vs h = (refl, h)
apart (u ∷ us) vs h =
    let p = first u (us ++ vs) h in
    let q = apart us vs p.1 in
    (true_both (is_lawful_token u.kind) (are_lawful (kinds us)) p.0 q.0, q.1)

-- the parts of a form
pub formed : (a b c : ℕ) (word : List ℕ) (us : List Token) → Known (left_at a ∷ name_at b word ∷ us ++ right_at c ∷ []) → Known us
formed a b c word us h =
    let vs : List Token = us ++ right_at c ∷ [] in
    (apart us (right_at c ∷ []) (first (name_at b word) vs (first (left_at a) (name_at b word ∷ vs) h).1).1).0

-- a name of the user
pub user_name : (x : Spot) → IsUser x → is_lawful_token (name_of x).kind ≡ true → is_user_spot x ≡ true
user_name x h g = true_both (is_lawful_token (k.Name x.text)) (not (is_literal x.text)) g (rw h refl)

-- what all are is what each is
pub each : {A : Type 0} (Is : A → List Token → Type 0) (lawful : A → Bool) → ((x : A) (ts : List Token) → Is x ts → Known ts → lawful x ≡ true) → (xs : List A) (ts : List Token) → AreAll Is xs ts → Known ts → list_all lawful xs ≡ true
each Is lawful one xs ts none h = refl
each Is lawful one xs ts (more y ys us vs is all) h =
    let p = apart us vs h in
    true_both (lawful y) (list_all lawful ys) (one y us is p.0) (each Is lawful one ys vs all p.1)

-- ---- types

made_ty : (n at : ℕ) (w : TyForm) (l : types.Layer) → roll-TyForm l ≡ w → ty_within_step (types.within_through l) n ≡ true → ty_within (raw_ty at w) (suc n) ≡ true
made_ty n at w l r h = ap (λ (v : TyForm). ty_within (raw_ty at v) (suc n)) (sym r) ∙ types.within_layer (suc n) at l ∙ h

atom_within : (n at : ℕ) (op : AtomTy) → ty_within (raw_ty at (atom_ty op)) (suc n) ≡ true
atom_within n at a.Int = made_ty n at tf.Int to.Int tf.rolls-Int refl
atom_within n at a.Bool = made_ty n at tf.Bool to.Bool tf.rolls-Bool refl
atom_within n at a.Text = made_ty n at tf.Text to.Text tf.rolls-Text refl

unary_within : (n at : ℕ) (op : UnaryTy) (x : RawTy) → ty_within x n ≡ true → ty_within (raw_ty at (unary_ty op x)) (suc n) ≡ true
unary_within n at u.List x h = made_ty n at (tf.List x) (to.List x) (tf.rolls-List x) h
unary_within n at u.Stream x h = made_ty n at (tf.Stream x) (to.Stream x) (tf.rolls-Stream x) h
unary_within n at u.Cell x h = made_ty n at (tf.Cell x) (to.Cell x) (tf.rolls-Cell x) h

binary_within : (n at : ℕ) (op : BinaryTy) (x z : RawTy) → ty_within x n && ty_within z n ≡ true → ty_within (raw_ty at (binary_ty op x z)) (suc n) ≡ true
binary_within n at b.Pair x z h = made_ty n at (tf.Pair x z) (to.Pair x z) (tf.rolls-Pair x z) h
binary_within n at b.Fun x z h = made_ty n at (tf.Fun x z) (to.Fun x z) (tf.rolls-Fun x z) h

case_within : (n : ℕ) → ((x : RawTy) (ts : List Token) → IsTypeOf n x ts → ty_within x n ≡ true) → (x : RawTy) (ts : List Token) → TypeCase (IsTypeOf n) x ts → ty_within x (suc n) ≡ true
case_within n part x ts (atom at op) = atom_within n at op
case_within n part x ts (type_of_one at e c op z xs is) = unary_within n at op z (part z xs is)
case_within n part x ts (type_of_two at e c op y z ys zs is js) = binary_within n at op y z (true_both (ty_within y n) (ty_within z n) (part y ys is) (part z zs js))

types_within : (n : ℕ) (x : RawTy) (ts : List Token) → IsTypeOf n x ts → ty_within x n ≡ true
unfolding IsTypeOf
types_within zero x ts h = absurd h
types_within (suc n) x ts h = case_within n (types_within n) x ts h

pub type_allowed : (x : RawTy) (ts : List Token) → IsType x ts → is_lawful_ty x ≡ true
type_allowed = types_within 16

-- ---- expressions

made : (n at : ℕ) (w : RawForm) (l : exprs.Layer) → roll-RawForm l ≡ w → is_lawful_step (exprs.lawful_through l) ≡ true → within_step (exprs.within_through l) n ≡ true → allowed (suc n) (raw_at at w) ≡ true
made n at w l r h g =
    true_both (is_lawful (raw_at at w)) (expr_within (raw_at at w) (suc n))
    (ap (λ (v : RawForm). is_lawful (raw_at at v)) (sym r) ∙ exprs.lawful_layer at l ∙ h)
    (ap (λ (v : RawForm). expr_within (raw_at at v) (suc n)) (sym r) ∙ exprs.within_layer (suc n) at l ∙ g)

fits_so : (z : ℤ) → fits_token z ≡ true → fits z ≡ true
fits_so (pos n) h = h
fits_so (negsuc n) h = h

unary_allowed : (n at : ℕ) (op : Unary) (x : Raw) → is_lawful x ≡ true → expr_within x n ≡ true → allowed (suc n) (raw_at at (unary_form op x)) ≡ true
unary_allowed n at eu.Neg x h w = made n at (f.Neg x) (o.Neg x) (f.rolls-Neg x) h w
unary_allowed n at eu.Not x h w = made n at (f.Not x) (o.Not x) (f.rolls-Not x) h w
unary_allowed n at eu.First x h w = made n at (f.First x) (o.First x) (f.rolls-First x) h w
unary_allowed n at eu.Second x h w = made n at (f.Second x) (o.Second x) (f.rolls-Second x) h w
unary_allowed n at eu.Len x h w = made n at (f.Len x) (o.Len x) (f.rolls-Len x) h w
unary_allowed n at eu.Show x h w = made n at (f.Show x) (o.Show x) (f.rolls-Show x) h w

binary_allowed : (n at : ℕ) (op : Binary) (x z : Raw) → is_lawful x && is_lawful z ≡ true → expr_within x n && expr_within z n ≡ true → allowed (suc n) (raw_at at (binary_form op x z)) ≡ true
binary_allowed n at eb.Add x z h w = made n at (f.Add x z) (o.Add x z) (f.rolls-Add x z) h w
binary_allowed n at eb.Sub x z h w = made n at (f.Sub x z) (o.Sub x z) (f.rolls-Sub x z) h w
binary_allowed n at eb.Mul x z h w = made n at (f.Mul x z) (o.Mul x z) (f.rolls-Mul x z) h w
binary_allowed n at eb.Div x z h w = made n at (f.Div x z) (o.Div x z) (f.rolls-Div x z) h w
binary_allowed n at eb.Rem x z h w = made n at (f.Rem x z) (o.Rem x z) (f.rolls-Rem x z) h w
binary_allowed n at eb.Lt x z h w = made n at (f.Lt x z) (o.Lt x z) (f.rolls-Lt x z) h w
binary_allowed n at eb.Eq x z h w = made n at (f.Eq x z) (o.Eq x z) (f.rolls-Eq x z) h w
binary_allowed n at eb.And x z h w = made n at (f.And x z) (o.And x z) (f.rolls-And x z) h w
binary_allowed n at eb.Or x z h w = made n at (f.Or x z) (o.Or x z) (f.rolls-Or x z) h w
binary_allowed n at eb.Pair x z h w = made n at (f.Pair x z) (o.Pair x z) (f.rolls-Pair x z) h w
binary_allowed n at eb.Append x z h w = made n at (f.Append x z) (o.Append x z) (f.rolls-Append x z) h w
binary_allowed n at eb.Cat x z h w = made n at (f.Cat x z) (o.Cat x z) (f.rolls-Cat x z) h w

ternary_allowed : (n at : ℕ) (op : Ternary) (x z v : Raw) → is_lawful x && is_lawful z && is_lawful v ≡ true → expr_within x n && expr_within z n && expr_within v n ≡ true → allowed (suc n) (raw_at at (ternary_form op x z v)) ≡ true
ternary_allowed n at et.If x z v h w = made n at (f.If x z v) (o.If x z v) (f.rolls-If x z v) h w
ternary_allowed n at et.At x z v h w = made n at (f.At x z v) (o.At x z v) (f.rolls-At x z v) h w

some_items : (xs : List Raw) → 0 < length xs → nat_le 1 (length (map is_lawful xs)) ≡ true
some_items xs h = let m = length-map xs is_lawful in grind (arith, common_steps)

few_items : (xs : List Raw) → length xs ≤ 1024 → nat_le (length (map is_lawful xs)) most ≡ true
few_items xs h = let m = length-map xs is_lawful in grind (arith, common_steps)

all_parts : (n : ℕ) (xs : List Raw) → list_all (allowed n) xs ≡ true → (list_all (λ (a : Bool). a) (map is_lawful xs) ≡ true) × (all_within (map expr_within xs) n ≡ true)
all_parts n [] h = (refl, refl)
all_parts n (x ∷ xs) h =
    let p = both_true (allowed n x) (list_all (allowed n) xs) h in
    let q = both_true (is_lawful x) (expr_within x n) p.0 in
    let r = all_parts n xs p.1 in
    (true_both (is_lawful x) (list_all (λ (a : Bool). a) (map is_lawful xs)) q.0 r.0, true_both (expr_within x n) (all_within (map expr_within xs) n) q.1 r.1)

abbrev Allows : ℕ → Type 0
Allows n = (x : Raw) (ts : List Token) → IsExprOf n x ts → Known ts → allowed n x ≡ true

module _ (n : ℕ) (part : Allows n) where
  parts_of : (x : Raw) (ts : List Token) → IsExprOf n x ts → Known ts → (is_lawful x ≡ true) × (expr_within x n ≡ true)
  parts_of x ts is h = both_true (is_lawful x) (expr_within x n) (part x ts is h)

  both_parts : (x z : Raw) (xs zs : List Token) → IsExprOf n x xs → IsExprOf n z zs → Known (xs ++ zs) → (is_lawful x && is_lawful z ≡ true) × (expr_within x n && expr_within z n ≡ true)
  both_parts x z xs zs is js h =
      let p = apart xs zs h in
      let q = parts_of x xs is p.0 in
      let r = parts_of z zs js p.1 in
      (true_both (is_lawful x) (is_lawful z) q.0 r.0, true_both (expr_within x n) (expr_within z n) q.1 r.1)

  case_allowed : (x : Raw) (ts : List Token) → ExprCase (IsTypeOf n) (IsExprOf n) x ts → Known ts → allowed (suc n) x ≡ true
  case_allowed x ts (number at z) h = made n at (f.Int z) (o.Int z) (f.rolls-Int z) (fits_so z (both_true (fits_token z) true h).0) refl
  case_allowed x ts (text at t) h = made n at (f.Text t) (o.Text t) (f.rolls-Text t) (both_true (is_lawful_token (k.Str t)) true h).0 refl
  case_allowed x ts (true_or_false at q) h = made n at (f.Bool q) (o.Bool q) (f.rolls-Bool q) refl refl
  case_allowed x ts (name v is) h = made n v.at (f.Name v.text) (o.Name v.text) (f.rolls-Name v.text) refl (user_name v is (both_true (is_lawful_token (k.Name v.text)) true h).0)
  case_allowed x ts (form_of_one at e c op y ys is) h =
      let p = parts_of y ys is (formed at e c (unary_word op) ys h) in
      unary_allowed n at op y p.0 p.1
  case_allowed x ts (form_of_two at e c op y z ys zs is js) h =
      let p = both_parts y z ys zs is js (formed at e c (binary_word op) (ys ++ zs) h) in
      binary_allowed n at op y z p.0 p.1
  case_allowed x ts (form_of_three at e c op y z v ys zs vs is js ks) h =
      let g = apart (ys ++ zs) vs (formed at e c (ternary_word op) (ys ++ zs ++ vs) h) in
      let p = both_parts y z ys zs is js g.0 in
      let q = parts_of v vs ks g.1 in
      ternary_allowed n at op y z v (true_both (is_lawful y && is_lawful z) (is_lawful v) p.0 q.0) (true_both (expr_within y n && expr_within z n) (expr_within v n) p.1 q.1)
  case_allowed x ts (let_form at e c v y z ys zs is js ks) h =
      let g = first (name_of v) (ys ++ zs) (formed at e c (codes "let") (name_of v ∷ ys ++ zs) h) in
      let p = both_parts y z ys zs js ks g.1 in
      let w = both_true (expr_within y n) (expr_within z n) p.1 in
      made n at (f.Let v y z) (o.Let v y z) (f.rolls-Let v y z) p.0 (true_both (is_user_spot v && expr_within y n) (expr_within z n) (true_both (is_user_spot v) (expr_within y n) (user_name v is g.0) w.0) w.1)
  case_allowed x ts (list_form at e c xs us some few all) h =
      let p = all_parts n xs (each (IsExprOf n) (allowed n) part xs us all (formed at e c (codes "list") us h)) in
      made n at (f.List xs) (o.List xs) (f.rolls-List xs)
      (true_both (list_all (λ (a : Bool). a) (map is_lawful xs) && nat_le 1 (length (map is_lawful xs))) (nat_le (length (map is_lawful xs)) most)
      (true_both (list_all (λ (a : Bool). a) (map is_lawful xs)) (nat_le 1 (length (map is_lawful xs))) p.0 (some_items xs some)) (few_items xs few)) p.1
  case_allowed x ts (nil_form at e c y ys is) h = made n at (f.Nil y) (o.Nil y) (f.rolls-Nil y) refl (types_within n y ys is)
  case_allowed x ts (close_form at e c v xs us is all) h =
      let g = first (name_of v) us (formed at e c (codes "close") (name_of v ∷ us) h) in
      let p = all_parts n xs (each (IsExprOf n) (allowed n) part xs us all g.1) in
      made n at (f.Close v xs) (o.Close v xs) (f.rolls-Close v xs) p.0 (true_both (is_user_spot v) (all_within (map expr_within xs) n) (user_name v is g.0) p.1)

exprs_allowed : (n : ℕ) → Allows n
unfolding IsExprOf
exprs_allowed zero x ts is h = absurd is
exprs_allowed (suc n) x ts is h = case_allowed n (exprs_allowed n) x ts is h

-- an expression of the grammar, of known tokens, is lawful
pub expr_allowed : (x : Raw) (ts : List Token) → IsExpr x ts → Known ts → is_lawful_expr x ≡ true
expr_allowed = exprs_allowed 16

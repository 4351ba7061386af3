-- Expressions of lawful tokens are lawful.
use Rattle.std.proofs.Common.{◌≡◌, ℕ, zero, suc, ◌<◌, ◌≤◌, Bool, true, List, [], ◌∷◌, ◌++◌, length, map, refl, sym, ap, ◌∙◌, subst, arith}
use Rattle.std.specs.Prelude.{ℤ, pos, negsuc, ◌&&◌, nat_le}
use Rattle.std.specs.List.{list_all}
use Rattle.std.proofs.lemmas.List.{length-map}
use Rattle.std.proofs.lemmas.List.Folds.{list_all-map}
use Rattle.std.proofs.lemmas.Grind.{common_steps}
use Rattle.frp_expr.specs.declared.raw.RawTy.{RawTy}
use Rattle.frp_expr.specs.declared.raw.Raw.{Raw, fold-roll-Raw}
use Rattle.frp_expr.specs.declared.raw.RawForm.{RawForm, RawForm-F, roll-RawForm, fold-RawForm, fold-roll-RawForm, map-RawForm}
use Rattle.frp_expr.specs.declared.raw.RawForm.TheOpen as o
use Rattle.frp_expr.specs.declared.raw.RawForm.TheVariants as f
use Rattle.frp_expr.specs.Operators.{most}
use Rattle.frp_expr.specs.Types.{fits, is_text}
use Rattle.frp_expr.specs.Raw.{is_lawful_step, is_lawful}
use Rattle.frp_base.proofs.Booleans.{both_true, true_both}
use Rattle.frp_lex.specs.declared.token.Kind.TheVariants as k
use Rattle.frp_lex.specs.declared.token.Token.{Token}
use Rattle.frp_lex.specs.Atoms.{fits_token}
use Rattle.frp_lex.specs.Spelling.{is_lawful_token, are_lawful, kinds}
use Rattle.frp_form.specs.declared.heads.Unary.{Unary}
use Rattle.frp_form.specs.declared.heads.Unary.TheVariants as un
use Rattle.frp_form.specs.declared.heads.Binary.{Binary}
use Rattle.frp_form.specs.declared.heads.Binary.TheVariants as bi
use Rattle.frp_form.specs.declared.heads.Ternary.{Ternary}
use Rattle.frp_form.specs.declared.heads.Ternary.TheVariants as tri
use Rattle.frp_form.specs.Heads.{unary_form, binary_form, ternary_form, raw_at}
use Rattle.frp_form.specs.Grammar.{AreAll, none, more, ExprCase, number, text, true_or_false, name, form_of_one, form_of_two, form_of_three, let_form, list_form, nil_form, close_form, IsTypeOf, IsExprOf, IsExpr}

-- ---- lawful tokens

pub record AreLawful (ts : List Token) : Type 0 where
  pub each : are_lawful (kinds ts) ≡ true

pub first_lawful : {t : Token} {ts : List Token} → AreLawful (t ∷ ts) → is_lawful_token t.kind ≡ true
first_lawful {t} {ts} l = (both_true (is_lawful_token t.kind) (are_lawful (kinds ts)) l.each).0

-- those behind the first
pub others_lawful : {t : Token} {ts : List Token} → AreLawful (t ∷ ts) → AreLawful ts
others_lawful {t} {ts} l = record { each = (both_true (is_lawful_token t.kind) (are_lawful (kinds ts)) l.each).1 }

-- those behind the two that a form begins with
pub inside_lawful : {t u : Token} {ts : List Token} → AreLawful (t ∷ u ∷ ts) → AreLawful ts
inside_lawful l = others_lawful (others_lawful l)

parts_lawful : (ts us : List Token) → are_lawful (kinds (ts ++ us)) ≡ true → (are_lawful (kinds ts) ≡ true) × (are_lawful (kinds us) ≡ true)
parts_lawful [] us h = (refl, h)
parts_lawful (t ∷ ts) us h =
    let p = both_true (is_lawful_token t.kind) (are_lawful (kinds (ts ++ us))) h in
    let q = parts_lawful ts us p.1 in
    (true_both (is_lawful_token t.kind) (are_lawful (kinds ts)) p.0 q.0, q.1)

pub front_lawful : (ts us : List Token) → AreLawful (ts ++ us) → AreLawful ts
front_lawful ts us l = record { each = (parts_lawful ts us l.each).0 }

pub rest_lawful : (ts us : List Token) → AreLawful (ts ++ us) → AreLawful us
rest_lawful ts us l = record { each = (parts_lawful ts us l.each).1 }

-- ---- what passes a test where its tokens are lawful

abbrev pub Passes : {A : Type 0} → (A → List Token → Type 0) → (A → Bool) → Type 0
Passes {A} Is test = (x : A) (ts : List Token) → Is x ts → AreLawful ts → test x ≡ true

pub all_pass : {A : Type 0} (Is : A → List Token → Type 0) (test : A → Bool) → Passes Is test → (xs : List A) (ts : List Token) → AreAll Is xs ts → AreLawful ts → list_all test xs ≡ true
all_pass Is test each xs ts none l = refl
all_pass Is test each xs ts (more x ys us vs is all) l = true_both (test x) (list_all test ys) (each x us is (front_lawful _ _ l)) (all_pass Is test each ys vs all (rest_lawful _ _ l))

-- ---- one layer of an expression

abbrev form_lawful : RawForm → Bool
form_lawful = fold-RawForm Bool Bool is_lawful_step (λ r. r.form)

abbrev step_lawful : RawForm-F RawForm Raw → Bool
step_lawful l = is_lawful_step (map-RawForm RawForm Raw Bool Bool form_lawful is_lawful l)

-- an expression is lawful where its form is
opens : (a : ℕ) (form : RawForm) (l : RawForm-F RawForm Raw) → roll-RawForm l ≡ form → is_lawful (raw_at a form) ≡ step_lawful l
opens a form l e = fold-roll-Raw Bool Bool is_lawful_step (λ r. r.form) (record { at = a; form = form }) ∙ ap form_lawful (sym e) ∙ fold-roll-RawForm Bool Bool is_lawful_step (λ r. r.form) l

of_one : (a : ℕ) (op : Unary) (x : Raw) → is_lawful (raw_at a (unary_form op x)) ≡ is_lawful x
of_one a un.Neg x = opens a (f.Neg x) (o.Neg x) (f.rolls-Neg x)
of_one a un.Not x = opens a (f.Not x) (o.Not x) (f.rolls-Not x)
of_one a un.First x = opens a (f.First x) (o.First x) (f.rolls-First x)
of_one a un.Second x = opens a (f.Second x) (o.Second x) (f.rolls-Second x)
of_one a un.Len x = opens a (f.Len x) (o.Len x) (f.rolls-Len x)
of_one a un.Show x = opens a (f.Show x) (o.Show x) (f.rolls-Show x)

of_two : (a : ℕ) (op : Binary) (x y : Raw) → is_lawful (raw_at a (binary_form op x y)) ≡ is_lawful x && is_lawful y
of_two a bi.Add x y = opens a (f.Add x y) (o.Add x y) (f.rolls-Add x y)
of_two a bi.Sub x y = opens a (f.Sub x y) (o.Sub x y) (f.rolls-Sub x y)
of_two a bi.Mul x y = opens a (f.Mul x y) (o.Mul x y) (f.rolls-Mul x y)
of_two a bi.Div x y = opens a (f.Div x y) (o.Div x y) (f.rolls-Div x y)
of_two a bi.Rem x y = opens a (f.Rem x y) (o.Rem x y) (f.rolls-Rem x y)
of_two a bi.Lt x y = opens a (f.Lt x y) (o.Lt x y) (f.rolls-Lt x y)
of_two a bi.Eq x y = opens a (f.Eq x y) (o.Eq x y) (f.rolls-Eq x y)
of_two a bi.And x y = opens a (f.And x y) (o.And x y) (f.rolls-And x y)
of_two a bi.Or x y = opens a (f.Or x y) (o.Or x y) (f.rolls-Or x y)
of_two a bi.Pair x y = opens a (f.Pair x y) (o.Pair x y) (f.rolls-Pair x y)
of_two a bi.Append x y = opens a (f.Append x y) (o.Append x y) (f.rolls-Append x y)
of_two a bi.Cat x y = opens a (f.Cat x y) (o.Cat x y) (f.rolls-Cat x y)

of_three : (a : ℕ) (op : Ternary) (x y z : Raw) → is_lawful (raw_at a (ternary_form op x y z)) ≡ is_lawful x && is_lawful y && is_lawful z
of_three a tri.If x y z = opens a (f.If x y z) (o.If x y z) (f.rolls-If x y z)
of_three a tri.At x y z = opens a (f.At x y z) (o.At x y z) (f.rolls-At x y z)

-- ---- numbers, texts and lists

-- the number of a token has 64 bits, as one of an expression
pub number_fits : (z : ℤ) → fits_token z ≡ fits z
number_fits (pos n) = refl
number_fits (negsuc n) = refl

number_lawful : (a : ℕ) (z : ℤ) → is_lawful_token (k.Num z) ≡ true → is_lawful (raw_at a (f.Int z)) ≡ true
number_lawful a z h = opens a (f.Int z) (o.Int z) (f.rolls-Int z) ∙ sym (number_fits z) ∙ h

-- the text of a token is printable and of at most 1,024 bytes, as one of an expression
pub text_is_text : (s : List ℕ) → is_lawful_token (k.Str s) ≡ is_text s
text_is_text s = refl

text_lawful : (a : ℕ) (s : List ℕ) → is_lawful_token (k.Str s) ≡ true → is_lawful (raw_at a (f.Text s)) ≡ true
text_lawful a s h = opens a (f.Text s) (o.Text s) (f.rolls-Text s) ∙ sym (text_is_text s) ∙ h

within : (n : ℕ) → 0 < n → n ≤ 1024 → (nat_le 1 n ≡ true) × (nat_le n most ≡ true)
within n some few = (grind (arith, common_steps), grind (arith, common_steps))

items_lawful : (xs : List Raw) → list_all is_lawful xs ≡ true → list_all (λ b. b) (map is_lawful xs) ≡ true
items_lawful xs h = list_all-map (λ b. b) is_lawful xs ∙ h

list_lawful : (a : ℕ) (xs : List Raw) → 0 < length xs → length xs ≤ 1024 → list_all is_lawful xs ≡ true → is_lawful (raw_at a (f.List xs)) ≡ true
list_lawful a xs some few h =
    let w = within (length xs) some few in
    opens a (f.List xs) (o.List xs) (f.rolls-List xs)
    ∙ true_both _ _ (true_both _ _ (items_lawful xs h) (subst (λ n. nat_le 1 n ≡ true) (sym (length-map xs is_lawful)) w.0)) (subst (λ n. nat_le n most ≡ true) (sym (length-map xs is_lawful)) w.1)

-- ---- expressions

module _ (Ty : RawTy → List Token → Type 0) (Part : Raw → List Token → Type 0) (each : Passes Part is_lawful) where
  case_lawful : Passes (ExprCase Ty Part) is_lawful
  case_lawful x ts (number a z) l = number_lawful a z (first_lawful l)
  case_lawful x ts (text a s) l = text_lawful a s (first_lawful l)
  case_lawful x ts (true_or_false a q) l = opens a (f.Bool q) (o.Bool q) (f.rolls-Bool q)
  case_lawful x ts (name v user) l = opens v.at (f.Name v.text) (o.Name v.text) (f.rolls-Name v.text)
  case_lawful x ts (form_of_one a b c op v vs is) l = of_one a op v ∙ each v vs is (front_lawful _ _ (inside_lawful l))
  case_lawful x ts (form_of_two a b c op v w vs ws is js) l =
      let m = front_lawful _ _ (inside_lawful l) in
      of_two a op v w ∙ true_both _ _ (each v vs is (front_lawful _ _ m)) (each w ws js (rest_lawful _ _ m))
  case_lawful x ts (form_of_three a b c op v w z vs ws zs is js ks) l =
      let m = front_lawful _ _ (inside_lawful l) in
      let n = front_lawful _ _ m in
      of_three a op v w z ∙ true_both _ _ (true_both _ _ (each v vs is (front_lawful _ _ n)) (each w ws js (rest_lawful _ _ n))) (each z zs ks (rest_lawful _ _ m))
  case_lawful x ts (let_form a b c n v w vs ws user is js) l =
      let m = front_lawful _ _ (others_lawful (inside_lawful l)) in
      opens a (f.Let n v w) (o.Let n v w) (f.rolls-Let n v w) ∙ true_both _ _ (each v vs is (front_lawful _ _ m)) (each w ws js (rest_lawful _ _ m))
  case_lawful x ts (list_form a b c xs us some few all) l = list_lawful a xs some few (all_pass Part is_lawful each xs us all (front_lawful _ _ (inside_lawful l)))
  case_lawful x ts (nil_form a b c v vs is) l = opens a (f.Nil v) (o.Nil v) (f.rolls-Nil v)
  case_lawful x ts (close_form a b c n kept us user all) l =
      opens a (f.Close n kept) (o.Close n kept) (f.rolls-Close n kept) ∙ items_lawful kept (all_pass Part is_lawful each kept us all (front_lawful _ _ (others_lawful (inside_lawful l))))

exprs_lawful : (n : ℕ) → Passes (IsExprOf n) is_lawful
unfolding IsExprOf
exprs_lawful zero x ts h l = absurd h
exprs_lawful (suc n) x ts h l = case_lawful (IsTypeOf n) (IsExprOf n) (exprs_lawful n) x ts h l

pub expr_lawful : Passes IsExpr is_lawful
expr_lawful = exprs_lawful 16

-- Expressions against the grammar.
use Rattle.std.proofs.Common.{◌≡◌, ℕ, zero, suc, ◌<◌, ◌≤◌, Bool, true, false, List, [], ◌∷◌, ◌++◌, length, Some, None, Ok, refl, ap, ◌∙◌, length-append, arith}
use Rattle.std.specs.Prelude.{codes}
use Rattle.std.specs.Str.{bytes_eq}
use Rattle.std.proofs.lemmas.Slice.Eq.{bytes_eq-Decides}
use Rattle.frp_expr.specs.declared.raw.RawTy.{RawTy}
use Rattle.frp_expr.specs.declared.raw.Raw.{Raw}
use Rattle.frp_expr.specs.declared.raw.RawForm.TheVariants as f
use Rattle.frp_lex.specs.declared.token.Kind.{Kind}
use Rattle.frp_lex.specs.declared.token.Kind.TheVariants as k
use Rattle.frp_lex.specs.declared.token.Token.{Token}
use Rattle.frp_form.specs.declared.heads.Head.{Head}
use Rattle.frp_form.specs.declared.heads.Head.TheVariants as h
use Rattle.frp_form.specs.declared.heads.Unary.{Unary}
use Rattle.frp_form.specs.declared.heads.Binary.{Binary}
use Rattle.frp_form.specs.declared.heads.Ternary.{Ternary}
use Rattle.frp_form.specs.Gives.{FormOutcome, Parser}
use Rattle.frp_form.specs.Tokens.{right, spot, head, after_right, is_literal}
use Rattle.frp_form.specs.Types.{ty_at}
use Rattle.frp_form.specs.Heads.{head_of, raw_at, name_form}
use Rattle.frp_form.specs.Exprs.{too_many, expr_list, unary_at, binary_at, ternary_at, let_at, list_at, nil_at, close_at, parts_at, form_at, expr_by, expr_layer, expr_at, whole_expr, kept_exprs}
use Rattle.frp_form.specs.Words.{unary_word, binary_word, ternary_word}
use Rattle.frp_form.specs.Grammar.{left_at, right_at, name_at, name_of, AreAll, none, more, ExprCase, number, text, true_or_false, name, form_of_one, form_of_two, form_of_three, let_form, list_form, nil_form, close_form, IsTypeOf, IsExprOf, IsExpr}
use Rattle.frp_form.proofs.Steps.{bind_ok, Begins, Sound, Complete, made, ends_with, both, and_one, one_and, one, inside, flat, flat₂, flat₃, right_sound, spot_sound, spot_read, head_sound, head_read}
use Rattle.frp_form.proofs.ItemLists.{Listed, items_sound, items_read, all_within}
use Rattle.frp_form.proofs.HeadWords.{word_of_expr, expr_named, expr_known}
use Rattle.frp_form.proofs.TypeGrammar.{types_sound, types_read}

abbrev token : ℕ → Kind → Token
token a kind = record { at = a; kind = kind }

-- what stands behind a right parenthesis, which is at the front
pub right_ended : (ts after : List Token) → after_right ts ≡ Some after → (c : ℕ) × (ts ≡ right_at c ∷ after)
right_ended [] after h = absurd cc
right_ended (t ∷ ts) after h = (t.at, by_kind t.at t.kind h)
  where
    by_kind : (a : ℕ) (kind : Kind) → after_right (token a kind ∷ ts) ≡ Some after → token a kind ∷ ts ≡ right_at a ∷ after
    by_kind a k.Right e = cc
    by_kind a k.Left e = absurd cc
    by_kind a (k.Name n) e = absurd cc
    by_kind a (k.Word n) e = absurd cc
    by_kind a (k.Num n) e = absurd cc
    by_kind a (k.Str n) e = absurd cc

module _ (end : ℕ) (part : Parser Raw) (Part : Raw → List Token → Type 0) where
  pub list_sound : Sound part Part → (n : ℕ) (ts : List Token) (x : List Raw × List Token) → expr_list end part n ts ≡ Ok x → Listed after_right Part n x.0 ts x.1
  unfolding expr_list
  list_sound sound n ts x h = items_sound after_right (too_many end) part Part sound n ts x h

  -- a part begins with no right parenthesis
  abbrev pub StartsPart : Type 0
  StartsPart = (x : Raw) (ts rest : List Token) → Part x ts → after_right (ts ++ rest) ≡ None

  pub list_read : Complete part Part → StartsPart → (n c : ℕ) (xs : List Raw) (ts rest : List Token) → AreAll Part xs ts → length xs ≤ n → expr_list end part n (ts ++ right_at c ∷ rest) ≡ Ok (xs, rest)
  unfolding expr_list
  list_read reads starts n c xs ts rest all few = items_read after_right (too_many end) part Part reads starts n xs ts (right_at c ∷ rest) rest all few refl

  -- each part takes a token
  pub list_within : StartsPart → (c : ℕ) (xs : List Raw) (ts rest : List Token) → AreAll Part xs ts → length xs ≤ length (ts ++ right_at c ∷ rest)
  list_within starts c xs ts rest all =
      let within = all_within after_right (too_many end) part Part starts (right_at c ∷ []) [] refl xs ts all in
      omega (arith, within, length-append ts (right_at c ∷ rest))

-- a name as an expression
name_when : (a : ℕ) (n : List ℕ) (Ty : RawTy → List Token → Type 0) (Part : Raw → List Token → Type 0) (p q : Bool) → bytes_eq n (codes "true") ≡ p → bytes_eq n (codes "false") ≡ q → ExprCase Ty Part (raw_at a (name_form n)) (name_at a n ∷ [])
name_when a n Ty Part true q e g = rw ((bytes_eq-Decides n (codes "true")).0 e) (true_or_false a true)
name_when a n Ty Part false true e g = rw ((bytes_eq-Decides n (codes "false")).0 g) (true_or_false a false)
name_when a n Ty Part false false e g =
    let user : is_literal n ≡ false = rw (e, g) refl in
    let form : name_form n ≡ f.Name n = rw (e, g) refl in
    rw form (name (record { at = a; text = n }) user)

name_user : (n : List ℕ) (p q : Bool) → bytes_eq n (codes "true") ≡ p → bytes_eq n (codes "false") ≡ q → is_literal n ≡ false → name_form n ≡ f.Name n
name_user n true q e g h = let l : is_literal n ≡ true = rw e refl in absurd cc
name_user n false true e g h = let l : is_literal n ≡ true = rw (e, g) refl in absurd cc
name_user n false false e g h = rw (e, g) refl

module _ (end : ℕ) (ty : Parser RawTy) (part : Parser Raw) (Ty : RawTy → List Token → Type 0) (Part : Raw → List Token → Type 0) where
  abbrev Case : Raw → List Token → Type 0
  Case = ExprCase Ty Part

  -- ---- what is read is an expression

  one_sound : Sound part Part → (a b : ℕ) (op : Unary) (ts : List Token) (x : Raw × List Token) → unary_at end part a op ts ≡ Ok x → Begins Case x.0 (left_at a ∷ name_at b (unary_word op) ∷ ts) x.1
  unfolding unary_at
  one_sound sound a b op ts x h =
      let p = bind_ok (part ts) _ _ h in
      let q = bind_ok (right end p.0.1) _ _ p.2 in
      let v = sound ts p.0 p.1 in
      let c = right_sound end p.0.1 q.0 q.1 in
      ends_with Case _ _ x q.2 (made (and_one (inside v.parts) c.1) (form_of_one a b c.0 op p.0.0 v.front v.is))

  two_sound : Sound part Part → (a b : ℕ) (op : Binary) (ts : List Token) (x : Raw × List Token) → binary_at end part a op ts ≡ Ok x → Begins Case x.0 (left_at a ∷ name_at b (binary_word op) ∷ ts) x.1
  unfolding binary_at
  two_sound sound a b op ts x h =
      let p = bind_ok (part ts) _ _ h in
      let q = bind_ok (part p.0.1) _ _ p.2 in
      let r = bind_ok (right end q.0.1) _ _ q.2 in
      let v = sound ts p.0 p.1 in
      let w = sound p.0.1 q.0 q.1 in
      let c = right_sound end q.0.1 r.0 r.1 in
      ends_with Case _ _ x r.2 (made (and_one (both (inside v.parts) w.parts) c.1) (form_of_two a b c.0 op p.0.0 q.0.0 v.front w.front v.is w.is))

  three_sound : Sound part Part → (a b : ℕ) (op : Ternary) (ts : List Token) (x : Raw × List Token) → ternary_at end part a op ts ≡ Ok x → Begins Case x.0 (left_at a ∷ name_at b (ternary_word op) ∷ ts) x.1
  unfolding ternary_at
  three_sound sound a b op ts x h =
      let p = bind_ok (part ts) _ _ h in
      let q = bind_ok (part p.0.1) _ _ p.2 in
      let r = bind_ok (part q.0.1) _ _ q.2 in
      let s = bind_ok (right end r.0.1) _ _ r.2 in
      let v = sound ts p.0 p.1 in
      let w = sound p.0.1 q.0 q.1 in
      let z = sound q.0.1 r.0 r.1 in
      let c = right_sound end r.0.1 s.0 s.1 in
      ends_with Case _ _ x s.2 (made (and_one (both (both (inside v.parts) w.parts) z.parts) c.1) (form_of_three a b c.0 op p.0.0 q.0.0 r.0.0 v.front w.front z.front v.is w.is z.is))

  let_sound : Sound part Part → (a b : ℕ) (ts : List Token) (x : Raw × List Token) → let_at end part a ts ≡ Ok x → Begins Case x.0 (left_at a ∷ name_at b (codes "let") ∷ ts) x.1
  unfolding let_at
  let_sound sound a b ts x h =
      let n = bind_ok (spot end ts) _ _ h in
      let p = bind_ok (part n.0.1) _ _ n.2 in
      let q = bind_ok (part p.0.1) _ _ p.2 in
      let r = bind_ok (right end q.0.1) _ _ q.2 in
      let u = spot_sound end ts n.0 n.1 in
      let v = sound n.0.1 p.0 p.1 in
      let w = sound p.0.1 q.0 q.1 in
      let c = right_sound end q.0.1 r.0 r.1 in
      ends_with Case _ _ x r.2 (made (and_one (both (inside (one_and u.0 v.parts)) w.parts) c.1) (let_form a b c.0 n.0.0 p.0.0 q.0.0 v.front w.front u.1 v.is w.is))

  items_form_sound : Sound part Part → (a b : ℕ) (ts : List Token) (x : Raw × List Token) → list_at end part a ts ≡ Ok x → Begins Case x.0 (left_at a ∷ name_at b (codes "list") ∷ ts) x.1
  unfolding list_at
  items_form_sound sound a b ts x h =
      let p = bind_ok (part ts) _ _ h in
      let q = bind_ok (expr_list end part 1023 p.0.1) _ _ p.2 in
      let v = sound ts p.0 p.1 in
      let l = list_sound end part Part sound 1023 p.0.1 q.0 q.1 in
      let c = right_ended l.tail q.0.1 l.ended_here in
      let few : length (p.0.0 ∷ q.0.0) ≤ 1024 = omega (arith, l.few) in
      ends_with Case _ _ x q.2 (made (and_one (both (inside v.parts) l.parts) c.1) (list_form a b c.0 (p.0.0 ∷ q.0.0) (v.front ++ l.front) (omega arith) few (more p.0.0 q.0.0 v.front l.front v.is l.all)))

  nil_sound : Sound ty Ty → (a b : ℕ) (ts : List Token) (x : Raw × List Token) → nil_at end part ty a ts ≡ Ok x → Begins Case x.0 (left_at a ∷ name_at b (codes "nil") ∷ ts) x.1
  unfolding nil_at
  nil_sound sound a b ts x h =
      let p = bind_ok (ty ts) _ _ h in
      let q = bind_ok (right end p.0.1) _ _ p.2 in
      let v = sound ts p.0 p.1 in
      let c = right_sound end p.0.1 q.0 q.1 in
      ends_with Case _ _ x q.2 (made (and_one (inside v.parts) c.1) (nil_form a b c.0 p.0.0 v.front v.is))

  close_sound : Sound part Part → (a b : ℕ) (ts : List Token) (x : Raw × List Token) → close_at end part a ts ≡ Ok x → Begins Case x.0 (left_at a ∷ name_at b (codes "close") ∷ ts) x.1
  unfolding close_at
  close_sound sound a b ts x h =
      let n = bind_ok (spot end ts) _ _ h in
      let q = bind_ok (expr_list end part (length n.0.1) n.0.1) _ _ n.2 in
      let u = spot_sound end ts n.0 n.1 in
      let l = list_sound end part Part sound (length n.0.1) n.0.1 q.0 q.1 in
      let c = right_ended l.tail q.0.1 l.ended_here in
      ends_with Case _ _ x q.2 (made (and_one (inside (one_and u.0 l.parts)) c.1) (close_form a b c.0 n.0.0 q.0.0 l.front u.1 l.all))

  parts_sound : Sound ty Ty → Sound part Part → (a b : ℕ) (op : Head) (ts : List Token) (x : Raw × List Token) → parts_at end part ty a op ts ≡ Ok x → Begins Case x.0 (left_at a ∷ name_at b (word_of_expr op) ∷ ts) x.1
  parts_sound types sound a b (h.Unary op) ts x e = one_sound sound a b op ts x e
  parts_sound types sound a b (h.Binary op) ts x e = two_sound sound a b op ts x e
  parts_sound types sound a b (h.Ternary op) ts x e = three_sound sound a b op ts x e
  parts_sound types sound a b h.Let ts x e = let_sound sound a b ts x e
  parts_sound types sound a b h.List ts x e = items_form_sound sound a b ts x e
  parts_sound types sound a b h.Nil ts x e = nil_sound types a b ts x e
  parts_sound types sound a b h.Close ts x e = close_sound sound a b ts x e

  form_sound : Sound ty Ty → Sound part Part → (a : ℕ) (ts : List Token) (x : Raw × List Token) → form_at end part ty a ts ≡ Ok x → Begins Case x.0 (left_at a ∷ ts) x.1
  unfolding form_at
  form_sound types sound a ts x e =
      let p = bind_ok (head end head_of ts) _ _ e in
      let w = head_sound end head_of ts p.0 p.1 in
      let is : ts ≡ name_at w.place (word_of_expr p.0.0) ∷ p.0.1 = w.parts ∙ ap (λ n. name_at w.place n ∷ p.0.1) (expr_named w.name p.0.0 w.means) in
      rw is (parts_sound types sound a w.place p.0.0 p.0.1 x p.2)

  kind_sound : Sound ty Ty → Sound part Part → (a : ℕ) (kind : Kind) (ts : List Token) (x : Raw × List Token) → expr_by end part ty (token a kind) ts kind ≡ Ok x → Begins Case x.0 (token a kind ∷ ts) x.1
  kind_sound types sound a k.Left ts x e = form_sound types sound a ts x e
  kind_sound types sound a (k.Num z) ts x e = ends_with Case _ _ x e (made (one refl) (number a z))
  kind_sound types sound a (k.Str t) ts x e = ends_with Case _ _ x e (made (one refl) (text a t))
  kind_sound types sound a (k.Name n) ts x e = ends_with Case _ _ x e (made (one refl) (name_when a n Ty Part (bytes_eq n (codes "true")) (bytes_eq n (codes "false")) refl refl))
  kind_sound types sound a _ ts x e = absurd cc

  layer_sound : Sound ty Ty → Sound part Part → Sound (expr_layer end part ty) Case
  unfolding expr_layer
  layer_sound types sound [] x e = absurd cc
  layer_sound types sound (t ∷ ts) x e = kind_sound types sound t.at t.kind ts x e

  -- ---- an expression is read

  form_read : (a b : ℕ) (op : Head) (inside : List Token) (y : FormOutcome (Raw × List Token)) → parts_at end part ty a op inside ≡ y → expr_layer end part ty (left_at a ∷ name_at b (word_of_expr op) ∷ inside) ≡ y
  unfolding expr_layer form_at
  form_read a b op inside y e = rw (head_read end b head_of (word_of_expr op) op inside (expr_known op)) e

  items_form_read : Complete part Part → StartsPart end part Part → (a c : ℕ) (xs : List Raw) (us rest : List Token) → 0 < length xs → length xs ≤ 1024 → AreAll Part xs us → list_at end part a (us ++ right_at c ∷ rest) ≡ Ok (raw_at a (f.List xs), rest)
  unfolding list_at
  items_form_read reads starts a c xs us rest some few none = absurd (omega (arith, some))
  items_form_read reads starts a c xs us rest some few (more y ys vs ws is all) =
      ap (list_at end part a) (flat vs ws (right_at c ∷ rest))
      ∙ rw (reads y vs (ws ++ right_at c ∷ rest) is, list_read end part Part reads starts 1023 c ys ws rest all (omega (arith, few))) refl

  layer_read : Complete ty Ty → Complete part Part → StartsPart end part Part → Complete (expr_layer end part ty) Case
  unfolding expr_layer unary_at binary_at ternary_at let_at nil_at close_at right
  layer_read types reads starts x ts rest (number a z) = refl
  layer_read types reads starts x ts rest (text a t) = refl
  layer_read types reads starts x ts rest (true_or_false a true) = refl
  layer_read types reads starts x ts rest (true_or_false a false) = refl
  layer_read types reads starts x ts rest (name v user) = ap (λ form. Ok (raw_at v.at form, rest)) (name_user v.text (bytes_eq v.text (codes "true")) (bytes_eq v.text (codes "false")) refl refl user)
  layer_read types reads starts x ts rest (form_of_one a b c op v vs is) =
      form_read a b (h.Unary op) _ _ (ap (unary_at end part a op) (flat vs (right_at c ∷ []) rest) ∙ rw (reads v vs (right_at c ∷ rest) is) refl)
  layer_read types reads starts x ts rest (form_of_two a b c op v w vs ws is js) =
      form_read a b (h.Binary op) _ _ (ap (binary_at end part a op) (flat₂ vs ws (right_at c ∷ []) rest) ∙ rw (reads v vs (ws ++ right_at c ∷ rest) is, reads w ws (right_at c ∷ rest) js) refl)
  layer_read types reads starts x ts rest (form_of_three a b c op v w z vs ws zs is js ks) =
      form_read a b (h.Ternary op) _ _ (ap (ternary_at end part a op) (flat₃ vs ws zs (right_at c ∷ []) rest) ∙ rw (reads v vs (ws ++ (zs ++ right_at c ∷ rest)) is, reads w ws (zs ++ right_at c ∷ rest) js, reads z zs (right_at c ∷ rest) ks) refl)
  layer_read types reads starts x ts rest (let_form a b c n v w vs ws user is js) =
      form_read a b h.Let _ _ (ap (λ l. let_at end part a (name_of n ∷ l)) (flat₂ vs ws (right_at c ∷ []) rest) ∙ rw (spot_read end n (vs ++ (ws ++ right_at c ∷ rest)) user, reads v vs (ws ++ right_at c ∷ rest) is, reads w ws (right_at c ∷ rest) js) refl)
  layer_read types reads starts x ts rest (list_form a b c xs us some few all) =
      form_read a b h.List _ _ (ap (list_at end part a) (flat us (right_at c ∷ []) rest) ∙ items_form_read reads starts a c xs us rest some few all)
  layer_read types reads starts x ts rest (nil_form a b c v vs is) =
      form_read a b h.Nil _ _ (ap (nil_at end part ty a) (flat vs (right_at c ∷ []) rest) ∙ rw (types v vs (right_at c ∷ rest) is) refl)
  layer_read types reads starts x ts rest (close_form a b c n kept us user all) =
      form_read a b h.Close _ _ (ap (λ l. close_at end part a (name_of n ∷ l)) (flat us (right_at c ∷ []) rest) ∙ rw (spot_read end n (us ++ right_at c ∷ rest) user, list_read end part Part reads starts (length (us ++ right_at c ∷ rest)) c kept us rest all (list_within end part Part starts c kept us rest all)) refl)

-- an expression begins with no right parenthesis
case_starts : (Ty : RawTy → List Token → Type 0) (Part : Raw → List Token → Type 0) (x : Raw) (ts rest : List Token) → ExprCase Ty Part x ts → after_right (ts ++ rest) ≡ None
case_starts Ty Part x ts rest (number a z) = refl
case_starts Ty Part x ts rest (text a t) = refl
case_starts Ty Part x ts rest (true_or_false a b) = refl
case_starts Ty Part x ts rest (name v user) = refl
case_starts Ty Part x ts rest (form_of_one a b c op v vs is) = refl
case_starts Ty Part x ts rest (form_of_two a b c op v w vs ws is js) = refl
case_starts Ty Part x ts rest (form_of_three a b c op v w z vs ws zs is js ks) = refl
case_starts Ty Part x ts rest (let_form a b c n v w vs ws user is js) = refl
case_starts Ty Part x ts rest (list_form a b c xs us some few all) = refl
case_starts Ty Part x ts rest (nil_form a b c v vs is) = refl
case_starts Ty Part x ts rest (close_form a b c n kept us user all) = refl

starts : (n : ℕ) (x : Raw) (ts rest : List Token) → IsExprOf n x ts → after_right (ts ++ rest) ≡ None
unfolding IsExprOf
starts zero x ts rest h = absurd h
starts (suc n) x ts rest h = case_starts (IsTypeOf n) (IsExprOf n) x ts rest h

exprs_sound : (end n : ℕ) → Sound (expr_at end n) (IsExprOf n)
unfolding IsExprOf
exprs_sound end zero ts x h = absurd cc
exprs_sound end (suc n) ts x h = layer_sound end (ty_at end n) (expr_at end n) (IsTypeOf n) (IsExprOf n) (types_sound end n) (exprs_sound end n) ts x h

exprs_read : (end n : ℕ) → Complete (expr_at end n) (IsExprOf n)
unfolding IsExprOf
exprs_read end zero x ts rest h = absurd h
exprs_read end (suc n) x ts rest h = layer_read end (ty_at end n) (expr_at end n) (IsTypeOf n) (IsExprOf n) (types_read end n) (exprs_read end n) (starts n) x ts rest h

pub expr_sound : (end : ℕ) → Sound (whole_expr end) IsExpr
unfolding whole_expr
expr_sound end = exprs_sound end 16

pub expr_read : (end : ℕ) → Complete (whole_expr end) IsExpr
unfolding whole_expr
expr_read end = exprs_read end 16

pub kept_sound : (end : ℕ) (ts : List Token) (x : List Raw × List Token) → kept_exprs end ts ≡ Ok x → Listed after_right IsExpr (length ts) x.0 ts x.1
unfolding kept_exprs
kept_sound end ts x h = list_sound end (expr_at end 16) IsExpr (exprs_sound end 16) (length ts) ts x h

pub kept_read : (end c : ℕ) (xs : List Raw) (ts rest : List Token) → AreAll IsExpr xs ts → kept_exprs end (ts ++ right_at c ∷ rest) ≡ Ok (xs, rest)
unfolding kept_exprs
kept_read end c xs ts rest all =
    list_read end (expr_at end 16) IsExpr (exprs_read end 16) (starts 16) (length (ts ++ right_at c ∷ rest)) c xs ts rest all (list_within end (expr_at end 16) IsExpr (starts 16) c xs ts rest all)

-- Types against the grammar.
use Rattle.std.proofs.Common.{◌≡◌, ℕ, zero, suc, List, [], ◌∷◌, ◌++◌, Option, Some, None, Ok, refl, ap, ◌∙◌}
use Rattle.frp_expr.specs.declared.raw.RawTy.{RawTy}
use Rattle.frp_lex.specs.declared.token.Kind.{Kind}
use Rattle.frp_lex.specs.declared.token.Kind.TheVariants as k
use Rattle.frp_lex.specs.declared.token.Token.{Token}
use Rattle.frp_form.specs.declared.ty_word.TyWord.{TyWord}
use Rattle.frp_form.specs.declared.ty_word.TyWord.TheVariants as y
use Rattle.frp_form.specs.declared.ty_word.UnaryTy.{UnaryTy}
use Rattle.frp_form.specs.declared.ty_word.BinaryTy.{BinaryTy}
use Rattle.frp_form.specs.Gives.{Parser}
use Rattle.frp_form.specs.Tokens.{right}
use Rattle.frp_form.specs.Types.{ty_word, ty_parts, ty_form, ty_head, ty_atom, ty_by, ty_layer, ty_at, whole_ty}
use Rattle.frp_form.specs.Words.{atom_word, unary_ty_word, binary_ty_word}
use Rattle.frp_form.specs.Grammar.{left_at, right_at, word_at, TypeCase, atom, type_of_one, type_of_two, IsTypeOf, IsType}
use Rattle.frp_form.proofs.Steps.{bind_ok, Begins, Sound, Complete, made, ends_with, both, and_one, one, inside, flat, flat₂, right_sound}
use Rattle.frp_form.proofs.HeadWords.{ty_named, ty_known}

abbrev token : ℕ → Kind → Token
token a kind = record { at = a; kind = kind }

module _ (end : ℕ) (part : Parser RawTy) (Part : RawTy → List Token → Type 0) where
  abbrev Case : RawTy → List Token → Type 0
  Case = TypeCase Part

  -- ---- what is read is a type

  one_sound : Sound part Part → (a b : ℕ) (op : UnaryTy) (us ts : List Token) (x : RawTy × List Token) → ty_parts end part a us (Some (y.Unary op)) ts ≡ Ok x → Begins Case x.0 (left_at a ∷ word_at b (unary_ty_word op) ∷ ts) x.1
  unfolding ty_parts
  one_sound sound a b op us ts x h =
      let p = bind_ok (part ts) _ _ h in
      let q = bind_ok (right end p.0.1) _ _ p.2 in
      let v = sound ts p.0 p.1 in
      let c = right_sound end p.0.1 q.0 q.1 in
      ends_with Case _ _ x q.2 (made (and_one (inside v.parts) c.1) (type_of_one a b c.0 op p.0.0 v.front v.is))

  two_sound : Sound part Part → (a b : ℕ) (op : BinaryTy) (us ts : List Token) (x : RawTy × List Token) → ty_parts end part a us (Some (y.Binary op)) ts ≡ Ok x → Begins Case x.0 (left_at a ∷ word_at b (binary_ty_word op) ∷ ts) x.1
  unfolding ty_parts
  two_sound sound a b op us ts x h =
      let p = bind_ok (part ts) _ _ h in
      let q = bind_ok (part p.0.1) _ _ p.2 in
      let r = bind_ok (right end q.0.1) _ _ q.2 in
      let v = sound ts p.0 p.1 in
      let w = sound p.0.1 q.0 q.1 in
      let c = right_sound end q.0.1 r.0 r.1 in
      ends_with Case _ _ x r.2 (made (and_one (both (inside v.parts) w.parts) c.1) (type_of_two a b c.0 op p.0.0 q.0.0 v.front w.front v.is w.is))

  parts_sound : Sound part Part → (a b : ℕ) (word : List ℕ) (ts : List Token) (o : Option TyWord) (x : RawTy × List Token) → ty_word word ≡ o
      → ty_parts end part a (word_at b word ∷ ts) o ts ≡ Ok x → Begins Case x.0 (left_at a ∷ word_at b word ∷ ts) x.1
  unfolding ty_parts
  parts_sound sound a b word ts (Some (y.Unary op)) x e h = rw (ty_named word (y.Unary op) e) (one_sound sound a b op (word_at b word ∷ ts) ts x h)
  parts_sound sound a b word ts (Some (y.Binary op)) x e h = rw (ty_named word (y.Binary op) e) (two_sound sound a b op (word_at b word ∷ ts) ts x h)
  parts_sound sound a b word ts (Some (y.Atom op)) x e h = absurd cc
  parts_sound sound a b word ts None x e h = absurd cc

  head_sound : Sound part Part → (a b : ℕ) (kind : Kind) (ts : List Token) (x : RawTy × List Token) → ty_head end part a (token b kind) ts kind ≡ Ok x → Begins Case x.0 (left_at a ∷ token b kind ∷ ts) x.1
  head_sound sound a b (k.Word word) ts x h = parts_sound sound a b word ts (ty_word word) x refl h
  head_sound sound a b _ ts x h = absurd cc

  form_sound : Sound part Part → (a : ℕ) (ts : List Token) (x : RawTy × List Token) → ty_form end part a ts ≡ Ok x → Begins Case x.0 (left_at a ∷ ts) x.1
  unfolding ty_form
  form_sound sound a [] x h = absurd cc
  form_sound sound a (t ∷ ts) x h = head_sound sound a t.at t.kind ts x h

  atom_sound : (a : ℕ) (word : List ℕ) (ts : List Token) (o : Option TyWord) (x : RawTy × List Token) → ty_word word ≡ o → ty_atom end part (word_at a word) ts o ≡ Ok x → Begins Case x.0 (word_at a word ∷ ts) x.1
  atom_sound a word ts (Some (y.Atom op)) x e h =
      ends_with Case _ _ x h (made (one (ap (λ n. word_at a n ∷ ts) (ty_named word (y.Atom op) e))) (atom a op))
  atom_sound a word ts (Some (y.Unary op)) x e h = absurd cc
  atom_sound a word ts (Some (y.Binary op)) x e h = absurd cc
  atom_sound a word ts None x e h = absurd cc

  kind_sound : Sound part Part → (a : ℕ) (kind : Kind) (ts : List Token) (x : RawTy × List Token) → ty_by end part (token a kind) ts kind ≡ Ok x → Begins Case x.0 (token a kind ∷ ts) x.1
  kind_sound sound a k.Left ts x h = form_sound sound a ts x h
  kind_sound sound a (k.Word word) ts x h = atom_sound a word ts (ty_word word) x refl h
  kind_sound sound a _ ts x h = absurd cc

  layer_sound : Sound part Part → Sound (ty_layer end part) Case
  unfolding ty_layer
  layer_sound sound [] x h = absurd cc
  layer_sound sound (t ∷ ts) x h = kind_sound sound t.at t.kind ts x h

  -- ---- a type is read

  layer_read : Complete part Part → Complete (ty_layer end part) Case
  unfolding ty_layer ty_form ty_parts right
  layer_read reads x ts rest (atom a op) = ap (ty_atom end part (word_at a (atom_word op)) rest) (ty_known (y.Atom op))
  layer_read reads x ts rest (type_of_one a b c op v vs is) =
      let us : List Token = (vs ++ right_at c ∷ []) ++ rest in
      ap (λ o. ty_parts end part a (word_at b (unary_ty_word op) ∷ us) o us) (ty_known (y.Unary op))
      ∙ ap (ty_parts end part a (word_at b (unary_ty_word op) ∷ us) (Some (y.Unary op))) (flat vs (right_at c ∷ []) rest)
      ∙ rw (reads v vs (right_at c ∷ rest) is) refl
  layer_read reads x ts rest (type_of_two a b c op v w vs ws is js) =
      let us : List Token = (vs ++ ws ++ right_at c ∷ []) ++ rest in
      ap (λ o. ty_parts end part a (word_at b (binary_ty_word op) ∷ us) o us) (ty_known (y.Binary op))
      ∙ ap (ty_parts end part a (word_at b (binary_ty_word op) ∷ us) (Some (y.Binary op))) (flat₂ vs ws (right_at c ∷ []) rest)
      ∙ rw (reads v vs (ws ++ right_at c ∷ rest) is, reads w ws (right_at c ∷ rest) js) refl

pub types_sound : (end n : ℕ) → Sound (ty_at end n) (IsTypeOf n)
unfolding IsTypeOf
types_sound end zero ts x h = absurd cc
types_sound end (suc n) ts x h = layer_sound end (ty_at end n) (IsTypeOf n) (types_sound end n) ts x h

pub types_read : (end n : ℕ) → Complete (ty_at end n) (IsTypeOf n)
unfolding IsTypeOf
types_read end zero x ts rest h = absurd h
types_read end (suc n) x ts rest h = layer_read end (ty_at end n) (IsTypeOf n) (types_read end n) x ts rest h

pub type_sound : (end : ℕ) → Sound (whole_ty end) IsType
unfolding whole_ty
type_sound end = types_sound end 16

pub type_read : (end : ℕ) → Complete (whole_ty end) IsType
unfolding whole_ty
type_read end = types_read end 16

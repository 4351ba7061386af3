-- An expression of a type has it where more functions are declared after those that there are.
use Rattle.std.proofs.Common.{◌≡◌, ℕ, zero, suc, Bool, true, false, List, [], ◌∷◌, ◌++◌, length, map, Option, Some, None, refl, sym, ap, ◌∙◌, subst}
use Rattle.std.specs.Prelude.{◌&&◌, nat_le, slice_get}
use Rattle.std.proofs.lemmas.List.{length-map}
use Rattle.frp_base.specs.declared.ty.Ty.{Ty}
use Rattle.frp_base.specs.declared.ty.Ty.TheVariants as t
use Rattle.frp_expr.specs.Operators.{most}
use Rattle.frp_expr.specs.Types.{given}
use Rattle.frp_expr.specs.Typing.{Sig, Kind, ◌>>=◌, has, all_have, each_has, list_kind, type_step, type_in}
use Rattle.frp_expr.specs.declared.expr.Expr.{Expr, roll-Expr}
use Rattle.frp_expr.specs.declared.expr.Expr.TheOpen.{Expr-F}
use Rattle.frp_expr.specs.declared.expr.Expr.TheOpen as e
use Rattle.frp_expr.specs.declared.expr.Expr.TheFolds.{fold-roll-Expr, map-Expr, ind-Expr}
use Rattle.frp_base.proofs.Booleans.{both_true, true_both}
use Rattle.frp_base.proofs.Lists.{get_more}
use Rattle.frp_expr.proofs.TypeLemmas.{has_some}

pub given_more : (b c : Bool) (a x : Ty) → (b ≡ true → c ≡ true) → given b a ≡ Some x → given c a ≡ Some x
given_more true c a x k h = rw (k refl) h
given_more false c a x k h = absurd cc

pub bind_more : {A B : Type 0} (o p : Option A) (f g : A → Option B) (x : B) → ((y : A) → o ≡ Some y → p ≡ Some y) → ((y : A) → f y ≡ Some x → g y ≡ Some x) → (o >>= f) ≡ Some x → (p >>= g) ≡ Some x
bind_more (Some y) p f g x k m h = rw (k y refl) (m y h)
bind_more None p f g x k m h = absurd cc

module _ (sigs more : List Sig) where
  abbrev all : List Sig
  all = sigs ++ more

  abbrev Stays : Expr → Type 0
  Stays f = (ts : List Ty) (x : Ty) → type_in sigs f ts ≡ Some x → type_in all f ts ≡ Some x

  abbrev Such : Type 0
  Such = (f : Expr) × Stays f

  abbrev plain : Such → Expr
  plain s = s.0

  -- a part has the type still
  part : (s : Such) (ts : List Ty) (x : Ty) → has x (type_in sigs s.0 ts) ≡ true → has x (type_in all s.0 ts) ≡ true
  part s ts x h =
      let p = has_some x (type_in sigs s.0 ts) h in
      subst (λ o. has x o ≡ true) (p ∙ sym (s.1 ts x p)) h

  two : (a b : Such) (ts : List Ty) (x y : Ty) → has x (type_in sigs a.0 ts) && has y (type_in sigs b.0 ts) ≡ true → has x (type_in all a.0 ts) && has y (type_in all b.0 ts) ≡ true
  two a b ts x y h = let q = both_true _ _ h in true_both _ _ (part a ts x q.0) (part b ts y q.1)

  abbrev fewer : List Such → List Kind
  fewer ys = map (type_in sigs) (map plain ys)

  abbrev manier : List Such → List Kind
  manier ys = map (type_in all) (map plain ys)

  all_stay : (a : Ty) (ys : List Such) (ts : List Ty) → all_have a (fewer ys) ts ≡ true → all_have a (manier ys) ts ≡ true
  all_stay a [] ts h = refl
  all_stay a (y ∷ ys) ts h = let q = both_true _ _ h in true_both _ _ (part y ts a q.0) (all_stay a ys ts q.1)

  each_stays : (xs : List Ty) (ys : List Such) (ts : List Ty) → each_has xs (fewer ys) ts ≡ true → each_has xs (manier ys) ts ≡ true
  each_stays [] [] ts h = refl
  each_stays [] (y ∷ ys) ts h = absurd cc
  each_stays (x ∷ xs) [] ts h = absurd cc
  each_stays (x ∷ xs) (y ∷ ys) ts h = let q = both_true _ _ h in true_both _ _ (part y ts x q.0) (each_stays xs ys ts q.1)

  as_many : (ys : List Such) → length (fewer ys) ≡ length (manier ys)
  as_many ys = length-map (map plain ys) (type_in sigs) ∙ sym (length-map (map plain ys) (type_in all))

  list_stays : (ys : List Such) (ts : List Ty) (x : Ty) → list_kind (fewer ys) ts ≡ Some x → list_kind (manier ys) ts ≡ Some x
  list_stays [] ts x h = absurd cc
  list_stays (y ∷ ys) ts x h = bind_more _ _ _ _ x (y.1 ts) (λ a. given_more _ _ _ x (λ b.
      let q = both_true _ _ b in
      let r = both_true _ _ q.0 in
      true_both _ _ (true_both _ _ r.0 (all_stay a ys ts r.1)) (subst (λ (n : ℕ). nat_le n most ≡ true) (as_many (y ∷ ys)) q.1))) h

  abbrev LayerStays : Expr-F Such → Type 0
  LayerStays l = (ts : List Ty) (x : Ty)
      → type_step sigs (map-Expr Expr Kind (type_in sigs) (map-Expr Such Expr plain l)) ts ≡ Some x
      → type_step all (map-Expr Expr Kind (type_in all) (map-Expr Such Expr plain l)) ts ≡ Some x

  layer_stays : (l : Expr-F Such) → LayerStays l
  layer_stays (e.Int n) = λ ts x h. h
  layer_stays (e.Bool b) = λ ts x h. h
  layer_stays (e.Text s) = λ ts x h. h
  layer_stays (e.Var i) = λ ts x h. h
  layer_stays (e.Neg a) = λ ts x h. given_more _ _ _ x (part a ts t.Int) h
  layer_stays (e.Not a) = λ ts x h. given_more _ _ _ x (part a ts t.Bool) h
  layer_stays (e.First a) = λ ts x h. bind_more _ _ _ _ x (a.1 ts) (λ y q. q) h
  layer_stays (e.Second a) = λ ts x h. bind_more _ _ _ _ x (a.1 ts) (λ y q. q) h
  layer_stays (e.Len a) = λ ts x h. bind_more _ _ _ _ x (a.1 ts) (λ y q. q) h
  layer_stays (e.Show a) = λ ts x h. given_more _ _ _ x (part a ts t.Int) h
  layer_stays (e.Let a b) = λ ts x h. bind_more _ _ _ _ x (a.1 ts) (λ y q. b.1 (ts ++ y ∷ []) x q) h
  layer_stays (e.Add a b) = λ ts x h. given_more _ _ _ x (two a b ts t.Int t.Int) h
  layer_stays (e.Sub a b) = λ ts x h. given_more _ _ _ x (two a b ts t.Int t.Int) h
  layer_stays (e.Mul a b) = λ ts x h. given_more _ _ _ x (two a b ts t.Int t.Int) h
  layer_stays (e.Div a b) = λ ts x h. given_more _ _ _ x (two a b ts t.Int t.Int) h
  layer_stays (e.Rem a b) = λ ts x h. given_more _ _ _ x (two a b ts t.Int t.Int) h
  layer_stays (e.Lt a b) = λ ts x h. given_more _ _ _ x (two a b ts t.Int t.Int) h
  layer_stays (e.Eq a b) = λ ts x h. bind_more _ _ _ _ x (a.1 ts) (λ y. given_more _ _ _ x (λ p. let q = both_true _ _ p in true_both _ _ q.0 (part b ts y q.1))) h
  layer_stays (e.And a b) = λ ts x h. given_more _ _ _ x (two a b ts t.Bool t.Bool) h
  layer_stays (e.Or a b) = λ ts x h. given_more _ _ _ x (two a b ts t.Bool t.Bool) h
  layer_stays (e.Pair a b) = λ ts x h. bind_more _ _ _ _ x (a.1 ts) (λ y. bind_more _ _ _ _ x (b.1 ts) (λ z q. q)) h
  layer_stays (e.Append a b) = λ ts x h. bind_more _ _ _ _ x (a.1 ts) (λ y. given_more _ _ _ x (λ p. let q = both_true _ _ p in true_both _ _ q.0 (part b ts y q.1))) h
  layer_stays (e.Cat a b) = λ ts x h. given_more _ _ _ x (two a b ts t.Text t.Text) h
  layer_stays (e.If c a b) = λ ts x h. bind_more _ _ _ _ x (a.1 ts) (λ y. given_more _ _ _ x (two c b ts t.Bool y)) h
  layer_stays (e.At a i d) = λ ts x h. bind_more _ _ _ _ x (a.1 ts) (λ l. bind_more _ _ _ _ x (λ y q. q) (λ y. given_more _ _ _ x (two i d ts t.Int y))) h
  layer_stays (e.List ys) = λ ts x h. list_stays ys ts x h
  layer_stays (e.Nil a) = λ ts x h. h
  layer_stays (e.Close f ys) = λ ts x h. bind_more _ _ _ _ x (get_more sigs more f) (λ s. given_more _ _ _ x (each_stays s.kept ys ts)) h

  few_layer : (l : Expr-F Expr) → type_in sigs (roll-Expr l) ≡ type_step sigs (map-Expr Expr Kind (type_in sigs) l)
  few_layer l = fold-roll-Expr Kind (type_step sigs) l

  many_layer : (l : Expr-F Expr) → type_in all (roll-Expr l) ≡ type_step all (map-Expr Expr Kind (type_in all) l)
  many_layer l = fold-roll-Expr Kind (type_step all) l

  rolled : (y : Expr-F Such) → Stays (roll-Expr (map-Expr Such Expr plain y))
  rolled y ts x h =
      let l : Expr-F Expr = map-Expr Such Expr plain y in
      ap (λ (k : Kind). k ts) (many_layer l) ∙ layer_stays y ts x (sym (ap (λ (k : Kind). k ts) (few_layer l)) ∙ h)

  stays : (f : Expr) → Stays f
  stays = ind-Expr Stays (λ l y q. subst (λ (l : Expr-F Expr). Stays (roll-Expr l)) q (rolled y))

pub sigs_more : (sigs more : List Sig) (e : Expr) (ts : List Ty) (x : Ty) → type_in sigs e ts ≡ Some x → type_in (sigs ++ more) e ts ≡ Some x
sigs_more = stays

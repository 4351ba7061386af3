-- Values of a type: how one is made of its parts, and what its parts are.
use Rattle.std.proofs.Common.{◌≡◌, ℕ, suc, Bool, true, List, [], ◌∷◌, ◌++◌, length, map, take, Option, Some, refl, sym, ◌∙◌, subst, rules}
use Rattle.std.specs.Prelude.{ℤ, pos, negsuc, zero, nat_le, slice_get, slice_index_or}
use Rattle.std.proofs.lemmas.List.{length-map}
use Rattle.frp_base.specs.declared.name.Name.{Name}
use Rattle.frp_base.specs.declared.ty.Ty.{Ty, out-Ty, roll-Ty, out-roll-Ty, roll-out-Ty}
use Rattle.frp_base.specs.declared.ty.Ty.TheOpen.{Ty-F}
use Rattle.frp_base.specs.declared.ty.Ty.TheOpen as u
use Rattle.frp_base.specs.declared.ty.Ty.TheVariants as t
use Rattle.frp_base.specs.declared.val.Val.{Val, out-Val, roll-Val, roll-out-Val}
use Rattle.frp_base.specs.declared.val.Val.TheOpen.{Val-F}
use Rattle.frp_base.specs.declared.val.Val.TheOpen as o
use Rattle.frp_base.specs.declared.val.Val.TheVariants as v
use Rattle.frp_base.specs.declared.val.Val.TheFolds.{fold-roll-Val, map-Val}
use Rattle.frp_base.proofs.TyLemmas.{ty_decides}
use Rattle.frp_base.proofs.Booleans.{both_true, true_both}
use Rattle.frp_expr.specs.Parts.{len_in, len_of, int_in, int_of, first_in, second_in, items_in, text_in, first_of, second_of, items_of, text_of, zero_val}
use Rattle.frp_expr.specs.Operators.{most, item_at}
use Rattle.frp_expr.specs.Types.{fits, is_text}
use Rattle.frp_expr.specs.Typing.{Sig}
use Rattle.frp_expr.specs.Values.{is_of_step, is_of, are_of, all_of, each_of}

module _ (node_type : Name → Option Ty) (sigs : List Sig) where
  abbrev pub Layer : Val-F Val → Ty → Ty-F Ty → Bool
  Layer l x w = is_of_step node_type sigs (map-Val Val (Ty → Bool) (is_of node_type sigs) l) x w

  -- a value and a type, each seen one layer deep
  of_layer : (l : Val-F Val) (x : Ty) (w : Ty-F Ty) → roll-Ty w ≡ x → is_of node_type sigs (roll-Val l) x ≡ Layer l x w
  of_layer l x w e = search (rules, fold-roll-Val, out-roll-Ty, e)

  pub made : (y : Val) (l : Val-F Val) (x : Ty) (w : Ty-F Ty) → roll-Val l ≡ y → roll-Ty w ≡ x → Layer l x w ≡ true → is_of node_type sigs y x ≡ true
  made y l x w e f h = subst (λ (y : Val). is_of node_type sigs y x ≡ true) e (of_layer l x w f ∙ h)

  pub opened : (y : Val) (x : Ty) (w : Ty-F Ty) → roll-Ty w ≡ x → is_of node_type sigs y x ≡ true → Layer (out-Val y) x w ≡ true
  opened y x w f h = sym (of_layer (out-Val y) x w f) ∙ subst (λ (y : Val). is_of node_type sigs y x ≡ true) (sym (roll-out-Val y)) h

  pub int_is : (z : ℤ) → fits z ≡ true → is_of node_type sigs (v.Int z) t.Int ≡ true
  int_is z h = made (v.Int z) (o.Int z) t.Int u.Int (v.rolls-Int z) t.rolls-Int h

  int_parts_in : (l : Val-F Val) (x : Ty) → Layer l x u.Int ≡ true → fits (int_in l) ≡ true
  int_parts_in (o.Int z) x h = h
  int_parts_in _ x h = absurd cc

  pub int_parts : (y : Val) → is_of node_type sigs y t.Int ≡ true → fits (int_of y) ≡ true
  int_parts y h = int_parts_in (out-Val y) t.Int (opened y t.Int u.Int t.rolls-Int h)

  pub bool_is : (b : Bool) → is_of node_type sigs (v.Bool b) t.Bool ≡ true
  bool_is b = made (v.Bool b) (o.Bool b) t.Bool u.Bool (v.rolls-Bool b) t.rolls-Bool refl

  pub text_is : (s : List ℕ) → is_text s ≡ true → is_of node_type sigs (v.Text s) t.Text ≡ true
  text_is s h = made (v.Text s) (o.Text s) t.Text u.Text (v.rolls-Text s) t.rolls-Text h

  pub pair_is : (x y : Val) (a b : Ty) → is_of node_type sigs x a ≡ true → is_of node_type sigs y b ≡ true → is_of node_type sigs (v.Pair x y) (t.Pair a b) ≡ true
  pair_is x y a b p q = made (v.Pair x y) (o.Pair x y) (t.Pair a b) (u.Pair a b) (v.rolls-Pair x y) (t.rolls-Pair a b) (true_both _ _ p q)

  -- each of these values is of the type
  abbrev pub AllOf : List Val → Ty → Type 0
  AllOf xs a = all_of (map (is_of node_type sigs) xs) a ≡ true

  pub list_is : (xs : List Val) (a : Ty) → AllOf xs a → nat_le (length (map (is_of node_type sigs) xs)) most ≡ true → is_of node_type sigs (v.List xs) (t.List a) ≡ true
  list_is xs a p q = made (v.List xs) (o.List xs) (t.List a) (u.List a) (v.rolls-List xs) (t.rolls-List a) (true_both _ _ p q)

  pub closed_is : (f : ℕ) (xs : List Val) (s : Sig) → slice_get sigs f ≡ Some s → each_of (map (is_of node_type sigs) xs) s.kept ≡ true → is_of node_type sigs (v.Fun f xs) (t.Fun s.arg s.result) ≡ true
  closed_is f xs s e p =
      made (v.Fun f xs) (o.Fun f xs) (t.Fun s.arg s.result) (u.Fun s.arg s.result) (v.rolls-Fun f xs) (t.rolls-Fun s.arg s.result)
      (rw e (true_both _ _ (true_both _ _ p ((ty_decides s.arg s.arg).1 refl)) ((ty_decides s.result s.result).1 refl)))

  pair_in : (l : Val-F Val) (x a b : Ty) → Layer l x (u.Pair a b) ≡ true → (is_of node_type sigs (first_in l) a ≡ true) × (is_of node_type sigs (second_in l) b ≡ true)
  pair_in (o.Pair p q) x a b h = both_true _ _ h
  pair_in _ x a b h = absurd cc

  pub pair_parts : (y : Val) (a b : Ty) → is_of node_type sigs y (t.Pair a b) ≡ true → (is_of node_type sigs (first_of y) a ≡ true) × (is_of node_type sigs (second_of y) b ≡ true)
  pair_parts y a b h = pair_in (out-Val y) (t.Pair a b) a b (opened y (t.Pair a b) (u.Pair a b) (t.rolls-Pair a b) h)

  text_parts_in : (l : Val-F Val) (x : Ty) → Layer l x u.Text ≡ true → is_text (text_in l) ≡ true
  text_parts_in (o.Text s) x h = h
  text_parts_in _ x h = absurd cc

  pub text_parts : (y : Val) → is_of node_type sigs y t.Text ≡ true → is_text (text_of y) ≡ true
  text_parts y h = text_parts_in (out-Val y) t.Text (opened y t.Text u.Text t.rolls-Text h)

  list_parts_in : (l : Val-F Val) (x a : Ty) → Layer l x (u.List a) ≡ true → AllOf (items_in l) a
  list_parts_in (o.List xs) x a h = (both_true _ _ h).0
  list_parts_in _ x a h = absurd cc

  pub list_parts : (y : Val) (a : Ty) → is_of node_type sigs y (t.List a) ≡ true → AllOf (items_of y) a
  list_parts y a h = list_parts_in (out-Val y) (t.List a) a (opened y (t.List a) (u.List a) (t.rolls-List a) h)

  -- lists of values of a type
  pub all_append : (xs ys : List Val) (a : Ty) → AllOf xs a → AllOf ys a → AllOf (xs ++ ys) a
  all_append [] ys a p q = q
  all_append (x ∷ xs) ys a p q = let h = both_true _ _ p in true_both _ _ h.0 (all_append xs ys a h.1 q)

  pub all_take : (n : ℕ) (xs : List Val) (a : Ty) → AllOf xs a → AllOf (take n xs) a
  all_take zero xs a p = refl
  all_take (suc n) [] a p = refl
  all_take (suc n) (x ∷ xs) a p = let h = both_true _ _ p in true_both _ _ h.0 (all_take n xs a h.1)

  at_in : (xs : List Val) (i : ℕ) (d : Val) (a : Ty) → AllOf xs a → is_of node_type sigs d a ≡ true → is_of node_type sigs (slice_index_or xs i d) a ≡ true
  at_in [] i d a p q = q
  at_in (x ∷ xs) zero d a p q = (both_true _ _ p).0
  at_in (x ∷ xs) (suc i) d a p q = at_in xs i d a (both_true _ _ p).1 q

  pub at_is : (xs : List Val) (z : ℤ) (d : Val) (a : Ty) → AllOf xs a → is_of node_type sigs d a ≡ true → is_of node_type sigs (item_at xs z d) a ≡ true
  at_is xs (pos i) d a p q = at_in xs i d a p q
  at_is xs (negsuc i) d a p q = q

  -- values of these types, one by one
  pub variable_is : (vs : List Val) (ts : List Ty) (i : ℕ) (x : Ty) → are_of node_type sigs vs ts ≡ true → slice_get ts i ≡ Some x → is_of node_type sigs (slice_index_or vs i zero_val) x ≡ true
  variable_is [] [] i x p e = absurd cc
  variable_is [] (s ∷ ts) i x p e = absurd cc
  variable_is (y ∷ vs) [] i x p e = absurd cc
  variable_is (y ∷ vs) (s ∷ ts) zero x p e = let q : s ≡ x = cc in subst (λ (x : Ty). is_of node_type sigs y x ≡ true) q (both_true _ _ p).0
  variable_is (y ∷ vs) (s ∷ ts) (suc i) x p e = variable_is vs ts i x (both_true _ _ p).1 e

  pub are_more : (vs : List Val) (ts : List Ty) (y : Val) (x : Ty) → are_of node_type sigs vs ts ≡ true → is_of node_type sigs y x ≡ true → are_of node_type sigs (vs ++ y ∷ []) (ts ++ x ∷ []) ≡ true
  are_more [] [] y x p q = true_both _ _ q refl
  are_more [] (s ∷ ts) y x p q = absurd cc
  are_more (w ∷ vs) [] y x p q = absurd cc
  are_more (w ∷ vs) (s ∷ ts) y x p q = let h = both_true _ _ p in true_both _ _ h.0 (are_more vs ts y x h.1 q)

  len_parts_in : (l : Val-F Val) (x : Ty) (w : Ty-F Ty) → Layer l x w ≡ true → nat_le (len_in l) most ≡ true
  len_parts_in (o.List xs) x (u.List a) h = subst (λ (n : ℕ). nat_le n most ≡ true) (length-map xs (is_of node_type sigs)) (both_true _ _ h).1
  len_parts_in (o.Text s) x u.Text h = (both_true _ _ h).1
  len_parts_in (o.List xs) x _ h = absurd cc
  len_parts_in (o.Text s) x _ h = absurd cc
  len_parts_in _ x w h = refl

  -- the length of a value of any type is within the most
  pub len_parts : (y : Val) (x : Ty) → is_of node_type sigs y x ≡ true → nat_le (len_of y) most ≡ true
  len_parts y x h = len_parts_in (out-Val y) x (out-Ty x) (opened y x (out-Ty x) (roll-out-Ty x) h)

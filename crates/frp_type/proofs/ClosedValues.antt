-- An expression over what it uses of some values has the value that it has over all of them.
use Rattle.std.proofs.Common.{◌≡◌, ℕ, zero, suc, ◌+◌, ◌-◌, Bool, true, false, List, [], ◌∷◌, ◌++◌, length, map, refl, sym, ap, ◌∙◌, subst, append_assoc, arith}
use Rattle.std.specs.Prelude.{pos, ◌+ℤ◌, ◌-ℤ◌, ◌*ℤ◌, neg_ℤ, int_lt, not, ◌&&◌, ◌||◌, ◌==◌, nat_lt, slice_index_or, if◌then◌else◌}
use Rattle.std.specs.Cmp.{unsigned_Decides}
use Rattle.std.specs.Fmt.{signed_decimal}
use Rattle.std.specs.List.{list_any}
use Rattle.std.proofs.lemmas.List.{length-map}
use Rattle.std.proofs.lemmas.Grind.{common_steps}
use Rattle.frp_base.specs.declared.val.Val.{Val}
use Rattle.frp_base.specs.declared.val.Val.TheVariants as v
use Rattle.frp_base.specs.Val.{val_eq}
use Rattle.frp_expr.specs.Parts.{zero_val, int_of, bool_of, text_of, items_of, first_of, second_of, len_of}
use Rattle.frp_expr.specs.Operators.{wrapped, quotient, remainder, appended, cut, item_at}
use Rattle.frp_expr.specs.Eval.{Meaning, each_value, eval_step, eval}
use Rattle.frp_expr.specs.Uses.{Noting, each_noted, noting_step, noting, uses}
use Rattle.frp_expr.specs.declared.expr.Expr.{Expr, roll-Expr}
use Rattle.frp_expr.specs.declared.expr.Expr.TheOpen.{Expr-F}
use Rattle.frp_expr.specs.declared.expr.Expr.TheOpen as e
use Rattle.frp_expr.specs.declared.expr.Expr.TheVariants as x
use Rattle.frp_expr.specs.declared.expr.Expr.TheFolds.{fold-roll-Expr, map-Expr, ind-Expr}
use Rattle.frp_type.specs.Closed.{renumber_step, renumbered_vars, position, kept_number, used_of, closed}
use Rattle.frp_type.proofs.Noted.{In, in_filter, note_has, keeps, each_keeps, noted_layer}

-- Values of a list by their places.

value_front : (xs ys : List Val) (i : ℕ) → nat_lt i (length xs) ≡ true → slice_index_or (xs ++ ys) i zero_val ≡ slice_index_or xs i zero_val
value_front [] ys i h = absurd (grind (arith, common_steps))
value_front (x ∷ xs) ys zero h = refl
value_front (x ∷ xs) ys (suc i) h = value_front xs ys i (grind (arith, common_steps))

value_back : (xs ys : List Val) (k j : ℕ) → j ≡ length xs + k → slice_index_or (xs ++ ys) j zero_val ≡ slice_index_or ys k zero_val
value_back [] ys k j h = let q : j ≡ k = omega arith in ap (λ k. slice_index_or ys k zero_val) q
value_back (x ∷ xs) ys k zero h = absurd (omega arith)
value_back (x ∷ xs) ys k (suc j) h = value_back xs ys k j (omega arith)

-- the values at some positions
abbrev pub values_at : List Val → List ℕ → List Val
values_at vs is = map (λ i. slice_index_or vs i zero_val) is

value_first : (i j : ℕ) (js : List ℕ) (vs bs : List Val) → In i (j ∷ js) → (In i js → slice_index_or (values_at vs js ++ bs) (position i js) zero_val ≡ slice_index_or vs i zero_val)
    → (b : Bool) → (j == i) ≡ b → slice_index_or (values_at vs (j ∷ js) ++ bs) (if b then 0 else suc (position i js)) zero_val ≡ slice_index_or vs i zero_val
value_first i j js vs bs k m true d = ap (λ i. slice_index_or vs i zero_val) ((unsigned_Decides j i).0 d)
value_first i j js vs bs k m false d = m (subst (λ c. c || list_any (λ j. j == i) js ≡ true) d k)

value_position : (i : ℕ) (is : List ℕ) (vs bs : List Val) → In i is → slice_index_or (values_at vs is ++ bs) (position i is) zero_val ≡ slice_index_or vs i zero_val
value_position i [] vs bs k = absurd cc
value_position i (j ∷ js) vs bs k = value_first i j js vs bs k (value_position i js vs bs) (j == i) refl

module _ (vs : List Val) (kept : List ℕ) (n : ℕ) (within : (i : ℕ) → nat_lt i (length vs) ≡ true → nat_lt i n ≡ true) where
  abbrev us : List Val
  us = values_at vs kept

  abbrev number : ℕ → ℕ
  number = kept_number (length vs) kept

  abbrev anew : Expr → Expr
  anew = renumbered_vars number

  -- each value that is noted is kept
  abbrev Kept : List ℕ → Type 0
  Kept used = (i : ℕ) → nat_lt i (length vs) ≡ true → In i used → In i kept

  abbrev Same : Expr → List Val → Type 0
  Same f bs = eval (anew f) (us ++ bs) ≡ eval f (vs ++ bs)

  abbrev Fits : Expr → Type 0
  Fits f = (used : List ℕ) (bs : List Val) → Kept (noting n f used) → Same f bs

  abbrev Such : Type 0
  Such = (f : Expr) × Fits f

  abbrev plain : Such → Expr
  plain s = s.0

  abbrev noted : Such → Noting
  noted s = noting n s.0

  abbrev all_noted : List Such → Noting
  all_noted ys = each_noted (map (noting n) (map plain ys))

  before : (a : Such) (used : List ℕ) → Kept (noted a used) → Kept used
  before a used h = λ i p q. h i p (keeps n a.0 used i q)

  before_all : (ys : List Such) (used : List ℕ) → Kept (all_noted ys used) → Kept used
  before_all ys used h = λ i p q. h i p (each_keeps n (map plain ys) used i q)

  variable : (i : ℕ) (bs : List Val) → (nat_lt i (length vs) ≡ true → In i kept) → slice_index_or (us ++ bs) (number i) zero_val ≡ slice_index_or (vs ++ bs) i zero_val
  variable i bs h = by_place (nat_lt i (length vs)) refl where
    by_place : (b : Bool) → nat_lt i (length vs) ≡ b → slice_index_or (us ++ bs) (if b then position i kept else (i - length vs) + length kept) zero_val ≡ slice_index_or (vs ++ bs) i zero_val
    by_place true d = value_position i kept vs bs (h d) ∙ sym (value_front vs bs i d)
    by_place false d =
        let m : length us ≡ length kept = length-map kept (λ i. slice_index_or vs i zero_val) in
        value_back us bs (i - length vs) ((i - length vs) + length kept) (omega arith)
        ∙ sym (value_back vs bs (i - length vs) i (grind (arith, common_steps)))

  opens : (f : Expr) (l : Expr-F Expr) → roll-Expr l ≡ f → (zs : List Val) → eval f zs ≡ eval_step (map-Expr Expr Meaning eval l) zs
  opens f l q zs = ap (λ (f : Expr). eval f zs) (sym q) ∙ (λ i. fold-roll-Expr Meaning eval_step l i zs)

  each_fits : (ys : List Such) (used : List ℕ) (bs : List Val) → Kept (all_noted ys used) → each_value (map eval (map anew (map plain ys))) (us ++ bs) ≡ each_value (map eval (map plain ys)) (vs ++ bs)
  each_fits [] used bs h = refl
  each_fits (y ∷ ys) used bs h = λ i. y.1 used bs (before_all ys (noted y used) h) i ∷ each_fits ys (noted y used) bs h i

  -- the first of two parts, and a part where one more value is bound
  first : (a b : Such) (used : List ℕ) (bs : List Val) → Kept (noted b (noted a used)) → Same a.0 bs
  first a b used bs h = a.1 used bs (before b (noted a used) h)

  inside : (b : Such) (used : List ℕ) (bs : List Val) (a : Val) → Kept (noted b used) → eval (anew b.0) ((us ++ bs) ++ a ∷ []) ≡ eval b.0 ((vs ++ bs) ++ a ∷ [])
  inside b used bs a h = ap (eval (anew b.0)) (append_assoc us bs (a ∷ [])) ∙ b.1 used (bs ++ a ∷ []) h ∙ ap (eval b.0) (sym (append_assoc vs bs (a ∷ [])))

  abbrev LayerFits : Expr-F Such → Type 0
  LayerFits l = (used : List ℕ) (bs : List Val) → Kept (noting_step n (map-Expr Expr Noting (noting n) (map-Expr Such Expr plain l)) used)
      → eval (renumber_step number (map-Expr Expr Expr anew (map-Expr Such Expr plain l))) (us ++ bs) ≡ eval_step (map-Expr Expr Meaning eval (map-Expr Such Expr plain l)) (vs ++ bs)

  layer_fits : (l : Expr-F Such) → LayerFits l
  layer_fits (e.Int z) = λ used bs h. opens (x.Int z) (e.Int z) (x.rolls-Int z) (us ++ bs)
  layer_fits (e.Bool b) = λ used bs h. opens (x.Bool b) (e.Bool b) (x.rolls-Bool b) (us ++ bs)
  layer_fits (e.Text s) = λ used bs h. opens (x.Text s) (e.Text s) (x.rolls-Text s) (us ++ bs)
  layer_fits (e.Var k) = λ used bs h. opens (x.Var (number k)) (e.Var (number k)) (x.rolls-Var (number k)) (us ++ bs) ∙ variable k bs (λ p. h k p (note_has n used k (within k p)))
  layer_fits (e.Neg a) = λ used bs h. opens _ (e.Neg _) (x.rolls-Neg (anew a.0)) (us ++ bs) ∙ (λ i. v.Int (wrapped (neg_ℤ (int_of (a.1 used bs h i)))))
  layer_fits (e.Not a) = λ used bs h. opens _ (e.Not _) (x.rolls-Not (anew a.0)) (us ++ bs) ∙ (λ i. v.Bool (not (bool_of (a.1 used bs h i))))
  layer_fits (e.First a) = λ used bs h. opens _ (e.First _) (x.rolls-First (anew a.0)) (us ++ bs) ∙ (λ i. first_of (a.1 used bs h i))
  layer_fits (e.Second a) = λ used bs h. opens _ (e.Second _) (x.rolls-Second (anew a.0)) (us ++ bs) ∙ (λ i. second_of (a.1 used bs h i))
  layer_fits (e.Len a) = λ used bs h. opens _ (e.Len _) (x.rolls-Len (anew a.0)) (us ++ bs) ∙ (λ i. v.Int (pos (len_of (a.1 used bs h i))))
  layer_fits (e.Show a) = λ used bs h. opens _ (e.Show _) (x.rolls-Show (anew a.0)) (us ++ bs) ∙ (λ i. v.Text (signed_decimal (int_of (a.1 used bs h i))))
  layer_fits (e.Let a b) = λ used bs h. opens _ (e.Let _ _) (x.rolls-Let (anew a.0) (anew b.0)) (us ++ bs) ∙ (λ i. eval (anew b.0) ((us ++ bs) ++ first a b used bs h i ∷ [])) ∙ inside b (noted a used) bs (eval a.0 (vs ++ bs)) h
  layer_fits (e.Add a b) = λ used bs h. opens _ (e.Add _ _) (x.rolls-Add (anew a.0) (anew b.0)) (us ++ bs) ∙ (λ i. v.Int (wrapped (int_of (first a b used bs h i) +ℤ int_of (b.1 (noted a used) bs h i))))
  layer_fits (e.Sub a b) = λ used bs h. opens _ (e.Sub _ _) (x.rolls-Sub (anew a.0) (anew b.0)) (us ++ bs) ∙ (λ i. v.Int (wrapped (int_of (first a b used bs h i) -ℤ int_of (b.1 (noted a used) bs h i))))
  layer_fits (e.Mul a b) = λ used bs h. opens _ (e.Mul _ _) (x.rolls-Mul (anew a.0) (anew b.0)) (us ++ bs) ∙ (λ i. v.Int (wrapped (int_of (first a b used bs h i) *ℤ int_of (b.1 (noted a used) bs h i))))
  layer_fits (e.Div a b) = λ used bs h. opens _ (e.Div _ _) (x.rolls-Div (anew a.0) (anew b.0)) (us ++ bs) ∙ (λ i. v.Int (quotient (int_of (first a b used bs h i)) (int_of (b.1 (noted a used) bs h i))))
  layer_fits (e.Rem a b) = λ used bs h. opens _ (e.Rem _ _) (x.rolls-Rem (anew a.0) (anew b.0)) (us ++ bs) ∙ (λ i. v.Int (remainder (int_of (first a b used bs h i)) (int_of (b.1 (noted a used) bs h i))))
  layer_fits (e.Lt a b) = λ used bs h. opens _ (e.Lt _ _) (x.rolls-Lt (anew a.0) (anew b.0)) (us ++ bs) ∙ (λ i. v.Bool (int_lt (int_of (first a b used bs h i)) (int_of (b.1 (noted a used) bs h i))))
  layer_fits (e.Eq a b) = λ used bs h. opens _ (e.Eq _ _) (x.rolls-Eq (anew a.0) (anew b.0)) (us ++ bs) ∙ (λ i. v.Bool (val_eq (first a b used bs h i) (b.1 (noted a used) bs h i)))
  layer_fits (e.And a b) = λ used bs h. opens _ (e.And _ _) (x.rolls-And (anew a.0) (anew b.0)) (us ++ bs) ∙ (λ i. v.Bool (bool_of (first a b used bs h i) && bool_of (b.1 (noted a used) bs h i)))
  layer_fits (e.Or a b) = λ used bs h. opens _ (e.Or _ _) (x.rolls-Or (anew a.0) (anew b.0)) (us ++ bs) ∙ (λ i. v.Bool (bool_of (first a b used bs h i) || bool_of (b.1 (noted a used) bs h i)))
  layer_fits (e.Pair a b) = λ used bs h. opens _ (e.Pair _ _) (x.rolls-Pair (anew a.0) (anew b.0)) (us ++ bs) ∙ (λ i. v.Pair (first a b used bs h i) (b.1 (noted a used) bs h i))
  layer_fits (e.Append a b) = λ used bs h. opens _ (e.Append _ _) (x.rolls-Append (anew a.0) (anew b.0)) (us ++ bs) ∙ (λ i. v.List (appended (items_of (first a b used bs h i)) (items_of (b.1 (noted a used) bs h i))))
  layer_fits (e.Cat a b) = λ used bs h. opens _ (e.Cat _ _) (x.rolls-Cat (anew a.0) (anew b.0)) (us ++ bs) ∙ (λ i. v.Text (cut (text_of (first a b used bs h i) ++ text_of (b.1 (noted a used) bs h i))))
  layer_fits (e.If c a b) = λ used bs h.
      let k = before b (noted a (noted c used)) h in
      opens _ (e.If _ _ _) (x.rolls-If (anew c.0) (anew a.0) (anew b.0)) (us ++ bs)
      ∙ (λ i. if bool_of (first c a used bs k i) then a.1 (noted c used) bs k i else b.1 (noted a (noted c used)) bs h i)
  layer_fits (e.At a k d) = λ used bs h.
      let m = before d (noted k (noted a used)) h in
      opens _ (e.At _ _ _) (x.rolls-At (anew a.0) (anew k.0) (anew d.0)) (us ++ bs)
      ∙ (λ i. item_at (items_of (first a k used bs m i)) (int_of (k.1 (noted a used) bs m i)) (d.1 (noted k (noted a used)) bs h i))
  layer_fits (e.List ys) = λ used bs h. opens _ (e.List _) (x.rolls-List (map anew (map plain ys))) (us ++ bs) ∙ (λ i. v.List (each_fits ys used bs h i))
  layer_fits (e.Nil a) = λ used bs h. opens (x.Nil a) (e.Nil a) (x.rolls-Nil a) (us ++ bs)
  layer_fits (e.Close f ys) = λ used bs h. opens _ (e.Close f _) (x.rolls-Close f (map anew (map plain ys))) (us ++ bs) ∙ (λ i. v.Fun f (each_fits ys used bs h i))

  rolled : (y : Expr-F Such) → Fits (roll-Expr (map-Expr Such Expr plain y))
  rolled y used bs h =
      let l : Expr-F Expr = map-Expr Such Expr plain y in
      (λ i. eval (fold-roll-Expr Expr (renumber_step number) l i) (us ++ bs))
      ∙ layer_fits y used bs (subst (λ (m : Noting). Kept (m used)) (noted_layer n l) h)
      ∙ sym (λ i. fold-roll-Expr Meaning eval_step l i (vs ++ bs))

  fits : (f : Expr) → Fits f
  fits = ind-Expr Fits (λ l y q. subst (λ (l : Expr-F Expr). Fits (roll-Expr l)) q (rolled y))

pub closed_value : (vs args : List Val) (e : Expr)
    → eval (closed (length vs) (length args) e) (values_at vs (used_of (length vs) (length args) e) ++ args) ≡ eval e (vs ++ args)
closed_value vs args e =
    let n : ℕ = length vs + length args in
    fits vs (used_of (length vs) (length args) e) n (λ i h. grind (arith, common_steps)) e [] args (λ i p q. in_filter (λ i. nat_lt i (length vs)) i (uses n e) p q)

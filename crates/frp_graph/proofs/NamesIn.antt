-- The names in what an expression gives are names in its arguments.
use Rattle.std.proofs.Common.{◌≡◌, ℕ, zero, suc, Bool, true, false, List, [], ◌∷◌, ◌++◌, map, take, refl, sym, ap, ◌∙◌, subst}
use Rattle.std.specs.Prelude.{ℤ, pos, negsuc, not, ◌&&◌, ◌||◌, slice_index_or, if◌then◌else◌}
use Rattle.std.specs.List.{list_any, list_all}
use Rattle.std.proofs.lemmas.List.Folds.{list_all-append}
use Rattle.frp_base.specs.declared.name.Name.{Name}
use Rattle.frp_base.specs.declared.val.Val.{Val, out-Val, roll-Val, roll-out-Val}
use Rattle.frp_base.specs.declared.val.Val.TheOpen.{Val-F}
use Rattle.frp_base.specs.declared.val.Val.TheOpen as o
use Rattle.frp_base.specs.declared.val.Val.TheVariants as v
use Rattle.frp_base.specs.declared.val.Val.TheFolds.{fold-roll-Val, map-Val}
use Rattle.frp_base.specs.Name.{name_eq}
use Rattle.frp_expr.specs.Parts.{zero_val, bool_of, items_in, items_of, first_in, first_of, second_in, second_of, int_of}
use Rattle.frp_expr.specs.Operators.{most, appended, item_at}
use Rattle.frp_expr.specs.Eval.{Meaning, each_value, eval_step, eval}
use Rattle.frp_expr.specs.declared.expr.Expr.{Expr, roll-Expr}
use Rattle.frp_expr.specs.declared.expr.Expr.TheOpen.{Expr-F}
use Rattle.frp_expr.specs.declared.expr.Expr.TheOpen as e
use Rattle.frp_expr.specs.declared.expr.Expr.TheFolds.{fold-roll-Expr, map-Expr, ind-Expr}
use Rattle.frp_base.proofs.Booleans.{both_true, true_both}
use Rattle.frp_graph.specs.ShapeLaws.{all_names, names_step, names_in, names_among, NamesAreGiven}

module _ (q : Name → Bool) where
  -- the test holds of each name in a value, and in several
  abbrev pub IsOver : Val → Type 0
  IsOver y = list_all q (names_in y) ≡ true

  abbrev pub AreOver : List Val → Type 0
  AreOver ys = list_all q (names_among ys) ≡ true

  -- the names in a value, seen one layer deep
  abbrev names_of : Val-F Val → List Name
  names_of l = names_step (map-Val Val (List Name) names_in l)

  made : (y : Val) (l : Val-F Val) → roll-Val l ≡ y → list_all q (names_of l) ≡ true → IsOver y
  made y l e h = subst IsOver e (ap (list_all q) (fold-roll-Val (List Name) names_step l) ∙ h)

  opened : (y : Val) → IsOver y → list_all q (names_of (out-Val y)) ≡ true
  opened y h =
      sym (ap (list_all q) (fold-roll-Val (List Name) names_step (out-Val y)))
      ∙ subst IsOver (sym (roll-out-Val y)) h

  -- Several values.

  both_over : (ns ks : List Name) → list_all q (ns ++ ks) ≡ true → (list_all q ns ≡ true) × (list_all q ks ≡ true)
  both_over ns ks h = both_true _ _ (sym (list_all-append q ns ks) ∙ h)

  over_both : (ns ks : List Name) → list_all q ns ≡ true → list_all q ks ≡ true → list_all q (ns ++ ks) ≡ true
  over_both ns ks h k = list_all-append q ns ks ∙ true_both _ _ h k

  all_names-map : (ys : List Val) → all_names (map names_in ys) ≡ names_among ys
  all_names-map [] = refl
  all_names-map (y ∷ ys) = ap (λ ns. names_in y ++ ns) (all_names-map ys)

  over_append : (xs ys : List Val) → AreOver xs → AreOver ys → AreOver (xs ++ ys)
  over_append [] ys h k = k
  over_append (x ∷ xs) ys h k =
      let p = both_over (names_in x) (names_among xs) h in
      over_both _ _ p.0 (over_append xs ys p.1 k)

  over_take : (n : ℕ) (xs : List Val) → AreOver xs → AreOver (take n xs)
  over_take zero xs h = refl
  over_take (suc n) [] h = refl
  over_take (suc n) (x ∷ xs) h =
      let p = both_over (names_in x) (names_among xs) h in
      over_both _ _ p.0 (over_take n xs p.1)

  over_at : (xs : List Val) (i : ℕ) (d : Val) → AreOver xs → IsOver d → IsOver (slice_index_or xs i d)
  over_at [] i d h k = k
  over_at (x ∷ xs) zero d h k = (both_over (names_in x) (names_among xs) h).0
  over_at (x ∷ xs) (suc i) d h k = over_at xs i d (both_over (names_in x) (names_among xs) h).1 k

  over_item : (xs : List Val) (z : ℤ) (d : Val) → AreOver xs → IsOver d → IsOver (item_at xs z d)
  over_item xs (pos i) d h k = over_at xs i d h k
  over_item xs (negsuc i) d h k = k

  -- Values by their kinds.

  int_over : (z : ℤ) → IsOver (v.Int z)
  int_over z = made (v.Int z) (o.Int z) (v.rolls-Int z) refl

  bool_over : (b : Bool) → IsOver (v.Bool b)
  bool_over b = made (v.Bool b) (o.Bool b) (v.rolls-Bool b) refl

  text_over : (s : List ℕ) → IsOver (v.Text s)
  text_over s = made (v.Text s) (o.Text s) (v.rolls-Text s) refl

  pair_over : (x y : Val) → IsOver x → IsOver y → IsOver (v.Pair x y)
  pair_over x y h k = made (v.Pair x y) (o.Pair x y) (v.rolls-Pair x y) (over_both _ _ h k)

  list_over : (xs : List Val) → AreOver xs → IsOver (v.List xs)
  list_over xs h = made (v.List xs) (o.List xs) (v.rolls-List xs) (ap (list_all q) (all_names-map xs) ∙ h)

  fun_over : (f : ℕ) (xs : List Val) → AreOver xs → IsOver (v.Fun f xs)
  fun_over f xs h = made (v.Fun f xs) (o.Fun f xs) (v.rolls-Fun f xs) (ap (list_all q) (all_names-map xs) ∙ h)

  first_over_in : (l : Val-F Val) → list_all q (names_of l) ≡ true → IsOver (first_in l)
  first_over_in (o.Pair x y) h = (both_over (names_in x) (names_in y) h).0
  first_over_in _ h = int_over (pos 0)

  first_over : (y : Val) → IsOver y → IsOver (first_of y)
  first_over y h = first_over_in (out-Val y) (opened y h)

  second_over_in : (l : Val-F Val) → list_all q (names_of l) ≡ true → IsOver (second_in l)
  second_over_in (o.Pair x y) h = (both_over (names_in x) (names_in y) h).1
  second_over_in _ h = int_over (pos 0)

  second_over : (y : Val) → IsOver y → IsOver (second_of y)
  second_over y h = second_over_in (out-Val y) (opened y h)

  items_over_in : (l : Val-F Val) → list_all q (names_of l) ≡ true → AreOver (items_in l)
  items_over_in (o.List xs) h = sym (ap (list_all q) (all_names-map xs)) ∙ h
  items_over_in _ h = refl

  items_over : (y : Val) → IsOver y → AreOver (items_of y)
  items_over y h = items_over_in (out-Val y) (opened y h)

  chosen_over : (b : Bool) (x y : Val) → IsOver x → IsOver y → IsOver (if b then x else y)
  chosen_over true x y h k = h
  chosen_over false x y h k = k

  -- Expressions.

  abbrev Good : Expr → Type 0
  Good f = (vs : List Val) → AreOver vs → IsOver (eval f vs)

  abbrev Such : Type 0
  Such = (f : Expr) × Good f

  abbrev plain : Such → Expr
  plain s = s.0

  each_good : (ys : List Such) (vs : List Val) → AreOver vs → AreOver (each_value (map eval (map plain ys)) vs)
  each_good [] vs h = refl
  each_good (y ∷ ys) vs h = over_both _ _ (y.1 vs h) (each_good ys vs h)

  abbrev LayerGood : Expr-F Such → Type 0
  LayerGood l =
      (vs : List Val) → AreOver vs → IsOver (eval_step (map-Expr Expr Meaning eval (map-Expr Such Expr plain l)) vs)

  layer_good : (l : Expr-F Such) → LayerGood l
  layer_good (e.Int n) = λ vs h. int_over n
  layer_good (e.Bool b) = λ vs h. bool_over b
  layer_good (e.Text t) = λ vs h. text_over t
  layer_good (e.Var i) = λ vs h. over_at vs i zero_val h (int_over (pos 0))
  layer_good (e.Neg a) = λ vs h. int_over _
  layer_good (e.Not a) = λ vs h. bool_over _
  layer_good (e.First a) = λ vs h. first_over (eval a.0 vs) (a.1 vs h)
  layer_good (e.Second a) = λ vs h. second_over (eval a.0 vs) (a.1 vs h)
  layer_good (e.Len a) = λ vs h. int_over _
  layer_good (e.Show a) = λ vs h. text_over _
  layer_good (e.Let a b) = λ vs h.
      b.1 (vs ++ eval a.0 vs ∷ []) (over_append vs (eval a.0 vs ∷ []) h (over_both _ [] (a.1 vs h) refl))
  layer_good (e.Add a b) = λ vs h. int_over _
  layer_good (e.Sub a b) = λ vs h. int_over _
  layer_good (e.Mul a b) = λ vs h. int_over _
  layer_good (e.Div a b) = λ vs h. int_over _
  layer_good (e.Rem a b) = λ vs h. int_over _
  layer_good (e.Lt a b) = λ vs h. bool_over _
  layer_good (e.Eq a b) = λ vs h. bool_over _
  layer_good (e.And a b) = λ vs h. bool_over _
  layer_good (e.Or a b) = λ vs h. bool_over _
  layer_good (e.Pair a b) = λ vs h. pair_over (eval a.0 vs) (eval b.0 vs) (a.1 vs h) (b.1 vs h)
  layer_good (e.Append a b) = λ vs h.
      let first = items_over (eval a.0 vs) (a.1 vs h) in
      let items = over_append (items_of (eval a.0 vs)) (items_of (eval b.0 vs)) first (items_over _ (b.1 vs h)) in
      list_over (appended (items_of (eval a.0 vs)) (items_of (eval b.0 vs))) (over_take most _ items)
  layer_good (e.Cat a b) = λ vs h. text_over _
  layer_good (e.If c a b) = λ vs h. chosen_over (bool_of (eval c.0 vs)) (eval a.0 vs) (eval b.0 vs) (a.1 vs h) (b.1 vs h)
  layer_good (e.At a i d) = λ vs h.
      over_item (items_of (eval a.0 vs)) (int_of (eval i.0 vs)) (eval d.0 vs) (items_over _ (a.1 vs h)) (d.1 vs h)
  layer_good (e.List ys) = λ vs h. list_over (each_value (map eval (map plain ys)) vs) (each_good ys vs h)
  layer_good (e.Nil t) = λ vs h. list_over [] refl
  layer_good (e.Close f ys) = λ vs h. fun_over f (each_value (map eval (map plain ys)) vs) (each_good ys vs h)

  rolled : (y : Expr-F Such) → Good (roll-Expr (map-Expr Such Expr plain y))
  rolled y vs h =
      let layer = fold-roll-Expr Meaning eval_step (map-Expr Such Expr plain y) in
      subst (λ (m : Meaning). IsOver (m vs)) (sym layer) (layer_good y vs h)

  -- what an expression gives is over the names that its arguments are over
  pub eval_over : (f : Expr) → Good f
  eval_over = ind-Expr Good (λ l y p. subst (λ (l : Expr-F Expr). Good (roll-Expr l)) p (rolled y))

-- no name is among these where each is another
others : {A : Type 0} (p : A → Bool) (xs : List A) → list_all (λ x. not (p x)) xs ≡ not (list_any p xs)
others p [] = refl
others p (x ∷ xs) = by (p x) (others p xs) where
  by : (b : Bool) → list_all (λ x. not (p x)) xs ≡ not (list_any p xs)
      → not b && list_all (λ x. not (p x)) xs ≡ not (b || list_any p xs)
  by true h = refl
  by false h = h

not_none : (a b : Bool) → (not a ≡ true → not b ≡ true) → b ≡ true → a ≡ true
not_none true b f h = refl
not_none false b f h = let none : not b ≡ true = f refl in let no : false ≡ true = rw h at none in absurd cc

pub names_are_given : NamesAreGiven
names_are_given f vs n h =
    not_none _ _ (λ none.
    sym (others (λ k. name_eq k n) (names_in (eval f vs)))
    ∙ eval_over (λ k. not (name_eq k n)) f vs (others (λ k. name_eq k n) (names_among vs) ∙ none)) h

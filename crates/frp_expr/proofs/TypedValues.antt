-- An expression of a type has a value of its type.
use Rattle.std.proofs.Common.{◌≡◌, ℕ, ◌≤◌, Bool, true, false, List, [], ◌∷◌, ◌++◌, length, map, take, Option, Some, refl, sym, ap, ◌∙◌, subst, arith}
use Rattle.std.specs.Prelude.{◌&&◌, nat_le, if◌then◌else◌}
use Rattle.std.proofs.lemmas.List.{length-map}
use Rattle.std.proofs.lemmas.Grind.{common_steps}
use Rattle.frp_base.specs.declared.name.Name.{Name}
use Rattle.frp_base.specs.declared.ty.Ty.{Ty}
use Rattle.frp_base.specs.declared.ty.Ty.TheVariants as t
use Rattle.frp_base.specs.declared.val.Val.{Val}
use Rattle.frp_base.specs.declared.val.Val.TheVariants as v
use Rattle.frp_expr.specs.Parts.{int_of, bool_of, text_of, items_of}
use Rattle.frp_expr.specs.Operators.{most, appended}
use Rattle.frp_expr.specs.Types.{given, is_list, is_comparable}
use Rattle.frp_expr.specs.Typing.{Sig, Kind, has, all_have, each_has, list_kind, type_step, type_in}
use Rattle.frp_expr.specs.Eval.{Meaning, each_value, eval_step, eval}
use Rattle.frp_expr.specs.Values.{is_of, are_of, each_of}
use Rattle.frp_expr.specs.declared.expr.Expr.{Expr, roll-Expr}
use Rattle.frp_expr.specs.declared.expr.Expr.TheOpen.{Expr-F}
use Rattle.frp_expr.specs.declared.expr.Expr.TheOpen as e
use Rattle.frp_expr.specs.declared.expr.Expr.TheFolds.{fold-roll-Expr, map-Expr, ind-Expr}
use Rattle.frp_base.proofs.Booleans.{both_true, true_both}
use Rattle.frp_expr.proofs.TypeLemmas.{bind_some, given_some, has_some, first_is, second_is, item_is, list_of_items}
use Rattle.frp_expr.proofs.NumberLemmas.{wrapped_fits, quotient_fits, remainder_fits, length_fits, shown_is_text, joined_is_text, length_take}
use Rattle.frp_expr.proofs.ValueLemmas.{AllOf, int_is, int_parts, bool_is, text_is, text_parts, pair_is, pair_parts, list_is, list_parts, len_parts, closed_is, all_append, all_take, at_is, variable_is, are_more}

module _ (node_type : Name → Option Ty) (sigs : List Sig) where
  abbrev Of : Val → Ty → Type 0
  Of y x = is_of node_type sigs y x ≡ true

  abbrev Are : List Val → List Ty → Type 0
  Are vs ts = are_of node_type sigs vs ts ≡ true

  -- what is shown of an expression, and an expression with it
  abbrev Good : Expr → Type 0
  Good f = (vs : List Val) (ts : List Ty) (x : Ty) → Are vs ts → type_in sigs f ts ≡ Some x → Of (eval f vs) x

  abbrev Such : Type 0
  Such = (f : Expr) × Good f

  abbrev plain : Such → Expr
  plain s = s.0

  -- the value is of the given type, where the test holds
  to : (b : Bool) (a x : Ty) (y : Val) → given b a ≡ Some x → (b ≡ true → Of y a) → Of y x
  to b a x y p k = let g = given_some b a x p in subst (λ (x : Ty). Of y x) g.1 (k g.0)

  -- a part has the type
  part : (s : Such) (vs : List Val) (ts : List Ty) (x : Ty) → Are vs ts → has x (type_in sigs s.0 ts) ≡ true → Of (eval s.0 vs) x
  part s vs ts x h p = s.1 vs ts x h (has_some x (type_in sigs s.0 ts) p)

  chosen : (b : Bool) (y z : Val) (x : Ty) → Of y x → Of z x → Of (if b then y else z) x
  chosen true y z x p q = p
  chosen false y z x p q = q

  abbrev values : List Such → List Val → List Val
  values ys vs = each_value (map eval (map plain ys)) vs

  abbrev kinds : List Such → List Kind
  kinds ys = map (type_in sigs) (map plain ys)

  all_good : (ys : List Such) (vs : List Val) (ts : List Ty) (a : Ty) → Are vs ts → all_have a (kinds ys) ts ≡ true → AllOf node_type sigs (values ys vs) a
  all_good [] vs ts a h p = refl
  all_good (y ∷ ys) vs ts a h p = let q = both_true _ _ p in true_both _ _ (part y vs ts a h q.0) (all_good ys vs ts a h q.1)

  each_good : (xs : List Ty) (ys : List Such) (vs : List Val) (ts : List Ty) → Are vs ts → each_has xs (kinds ys) ts ≡ true → each_of (map (is_of node_type sigs) (values ys vs)) xs ≡ true
  each_good [] [] vs ts h p = refl
  each_good [] (y ∷ ys) vs ts h p = absurd cc
  each_good (x ∷ xs) [] vs ts h p = absurd cc
  each_good (x ∷ xs) (y ∷ ys) vs ts h p = let q = both_true _ _ p in true_both _ _ (part y vs ts x h q.0) (each_good xs ys vs ts h q.1)

  as_many : (ys : List Such) (vs : List Val) (ts : List Ty) → length (map (is_of node_type sigs) (values ys vs)) ≡ length (kinds ys)
  as_many [] vs ts = refl
  as_many (y ∷ ys) vs ts = let h = as_many ys vs ts in omega arith

  list_good : (ys : List Such) (vs : List Val) (ts : List Ty) (x : Ty) → Are vs ts → list_kind (kinds ys) ts ≡ Some x → Of (v.List (values ys vs)) x
  list_good [] vs ts x h p = absurd cc
  list_good (y ∷ ys) vs ts x h p =
      let a = bind_some _ _ x p in
      to _ _ x _ a.2 (λ b.
      let q = both_true _ _ b in
      let r = both_true _ _ q.0 in
      list_is node_type sigs (values (y ∷ ys) vs) a.0 (true_both _ _ (y.1 vs ts a.0 h a.1) (all_good ys vs ts a.0 h r.1))
      (subst (λ (n : ℕ). nat_le n most ≡ true) (sym (as_many (y ∷ ys) vs ts)) q.1))

  within : (zs : List Val) → nat_le (length (map (is_of node_type sigs) (take most zs))) most ≡ true
  within zs =
      let k : length (map (is_of node_type sigs) (take most zs)) ≤ most = subst (λ (n : ℕ). n ≤ most) (sym (length-map (take most zs) (is_of node_type sigs))) (length_take most zs) in
      grind (arith, common_steps)

  append_good : (y z : Val) (x : Ty) → is_list x ≡ true → Of y x → Of z x → Of (v.List (appended (items_of y) (items_of z))) x
  append_good y z x l p q =
      let a = list_of_items x l in
      let p' : Of y (t.List a.0) = subst (λ (x : Ty). Of y x) a.1 p in
      let q' : Of z (t.List a.0) = subst (λ (x : Ty). Of z x) a.1 q in
      subst (λ (x : Ty). Of (v.List (appended (items_of y) (items_of z))) x) (sym a.1)
      (list_is node_type sigs (appended (items_of y) (items_of z)) a.0
      (all_take node_type sigs most (items_of y ++ items_of z) a.0 (all_append node_type sigs (items_of y) (items_of z) a.0 (list_parts node_type sigs y a.0 p') (list_parts node_type sigs z a.0 q')))
      (within (items_of y ++ items_of z)))

  abbrev LayerGood : Expr-F Such → Type 0
  LayerGood l = (vs : List Val) (ts : List Ty) (x : Ty) → Are vs ts
      → type_step sigs (map-Expr Expr Kind (type_in sigs) (map-Expr Such Expr plain l)) ts ≡ Some x
      → Of (eval_step (map-Expr Expr Meaning eval (map-Expr Such Expr plain l)) vs) x

  layer_good : (l : Expr-F Such) → LayerGood l
  layer_good (e.Int n) = λ vs ts x h p. to _ _ x _ p (λ b. int_is node_type sigs n b)
  layer_good (e.Bool b) = λ vs ts x h p. let q : t.Bool ≡ x = cc in subst (λ (x : Ty). Of (v.Bool b) x) q (bool_is node_type sigs b)
  layer_good (e.Text s) = λ vs ts x h p. to _ _ x _ p (λ b. text_is node_type sigs s b)
  layer_good (e.Var i) = λ vs ts x h p. variable_is node_type sigs vs ts i x h p
  layer_good (e.Neg a) = λ vs ts x h p. to _ _ x _ p (λ b. int_is node_type sigs _ (wrapped_fits _))
  layer_good (e.Not a) = λ vs ts x h p. to _ _ x _ p (λ b. bool_is node_type sigs _)
  layer_good (e.First a) = λ vs ts x h p.
      let y = bind_some _ _ x p in
      let q = first_is y.0 x y.2 in
      (pair_parts node_type sigs (eval a.0 vs) x q.0 (subst (λ (z : Ty). Of (eval a.0 vs) z) q.1 (a.1 vs ts y.0 h y.1))).0
  layer_good (e.Second a) = λ vs ts x h p.
      let y = bind_some _ _ x p in
      let q = second_is y.0 x y.2 in
      (pair_parts node_type sigs (eval a.0 vs) q.0 x (subst (λ (z : Ty). Of (eval a.0 vs) z) q.1 (a.1 vs ts y.0 h y.1))).1
  layer_good (e.Len a) = λ vs ts x h p.
      let y = bind_some _ _ x p in
      to _ _ x _ y.2 (λ b. int_is node_type sigs _ (length_fits _ (len_parts node_type sigs (eval a.0 vs) y.0 (a.1 vs ts y.0 h y.1))))
  layer_good (e.Show a) = λ vs ts x h p. to _ _ x _ p (λ b. text_is node_type sigs _ (shown_is_text _ (int_parts node_type sigs (eval a.0 vs) (part a vs ts t.Int h b))))
  layer_good (e.Let a b) = λ vs ts x h p.
      let y = bind_some _ _ x p in
      b.1 (vs ++ eval a.0 vs ∷ []) (ts ++ y.0 ∷ []) x (are_more node_type sigs vs ts (eval a.0 vs) y.0 h (a.1 vs ts y.0 h y.1)) y.2
  layer_good (e.Add a b) = λ vs ts x h p. to _ _ x _ p (λ b. int_is node_type sigs _ (wrapped_fits _))
  layer_good (e.Sub a b) = λ vs ts x h p. to _ _ x _ p (λ b. int_is node_type sigs _ (wrapped_fits _))
  layer_good (e.Mul a b) = λ vs ts x h p. to _ _ x _ p (λ b. int_is node_type sigs _ (wrapped_fits _))
  layer_good (e.Div a b) = λ vs ts x h p. to _ _ x _ p (λ q. int_is node_type sigs _ (quotient_fits (int_of (eval a.0 vs)) (int_of (eval b.0 vs)) (int_parts node_type sigs (eval a.0 vs) (part a vs ts t.Int h (both_true _ _ q).0))))
  layer_good (e.Rem a b) = λ vs ts x h p. to _ _ x _ p (λ q. int_is node_type sigs _ (remainder_fits (int_of (eval a.0 vs)) (int_of (eval b.0 vs)) (int_parts node_type sigs (eval a.0 vs) (part a vs ts t.Int h (both_true _ _ q).0))))
  layer_good (e.Lt a b) = λ vs ts x h p. to _ _ x _ p (λ b. bool_is node_type sigs _)
  layer_good (e.Eq a b) = λ vs ts x h p. let y = bind_some (type_in sigs a.0 ts) (λ y. given (is_comparable y && has y (type_in sigs b.0 ts)) t.Bool) x p in to _ _ x _ y.2 (λ b. bool_is node_type sigs _)
  layer_good (e.And a b) = λ vs ts x h p. to _ _ x _ p (λ b. bool_is node_type sigs _)
  layer_good (e.Or a b) = λ vs ts x h p. to _ _ x _ p (λ b. bool_is node_type sigs _)
  layer_good (e.Pair a b) = λ vs ts x h p.
      let y = bind_some _ _ x p in
      let z = bind_some _ _ x y.2 in
      let q : t.Pair y.0 z.0 ≡ x = cc in
      subst (λ (x : Ty). Of (v.Pair (eval a.0 vs) (eval b.0 vs)) x) q (pair_is node_type sigs (eval a.0 vs) (eval b.0 vs) y.0 z.0 (a.1 vs ts y.0 h y.1) (b.1 vs ts z.0 h z.1))
  layer_good (e.Append a b) = λ vs ts x h p.
      let y = bind_some _ _ x p in
      to _ _ x _ y.2 (λ q. let r = both_true _ _ q in append_good (eval a.0 vs) (eval b.0 vs) y.0 r.0 (a.1 vs ts y.0 h y.1) (part b vs ts y.0 h r.1))
  layer_good (e.Cat a b) = λ vs ts x h p. to _ _ x _ p (λ q.
      let r = both_true _ _ q in
      text_is node_type sigs _ (joined_is_text (text_of (eval a.0 vs)) (text_of (eval b.0 vs)) (text_parts node_type sigs (eval a.0 vs) (part a vs ts t.Text h r.0)) (text_parts node_type sigs (eval b.0 vs) (part b vs ts t.Text h r.1))))
  layer_good (e.If c a b) = λ vs ts x h p.
      let y = bind_some _ _ x p in
      to _ _ x _ y.2 (λ q. chosen (bool_of (eval c.0 vs)) (eval a.0 vs) (eval b.0 vs) y.0 (a.1 vs ts y.0 h y.1) (part b vs ts y.0 h (both_true _ _ q).1))
  layer_good (e.At a i d) = λ vs ts x h p.
      let l = bind_some _ _ x p in
      let y = bind_some _ _ x l.2 in
      to _ _ x _ y.2 (λ q. at_is node_type sigs _ _ (eval d.0 vs) y.0
      (list_parts node_type sigs (eval a.0 vs) y.0 (subst (λ (z : Ty). Of (eval a.0 vs) z) (item_is l.0 y.0 y.1) (a.1 vs ts l.0 h l.1))) (part d vs ts y.0 h (both_true _ _ q).1))
  layer_good (e.List ys) = λ vs ts x h p. list_good ys vs ts x h p
  layer_good (e.Nil a) = λ vs ts x h p. to _ _ x _ p (λ b. list_is node_type sigs [] a refl refl)
  layer_good (e.Close f ys) = λ vs ts x h p.
      let s = bind_some _ _ x p in
      to _ _ x _ s.2 (λ q. closed_is node_type sigs f (values ys vs) s.0 s.1 (each_good s.0.kept ys vs ts h q))

  type_layer : (l : Expr-F Expr) → type_in sigs (roll-Expr l) ≡ type_step sigs (map-Expr Expr Kind (type_in sigs) l)
  type_layer l = fold-roll-Expr Kind (type_step sigs) l

  eval_layer : (l : Expr-F Expr) → eval (roll-Expr l) ≡ eval_step (map-Expr Expr Meaning eval l)
  eval_layer l = fold-roll-Expr Meaning eval_step l

  rolled : (y : Expr-F Such) → Good (roll-Expr (map-Expr Such Expr plain y))
  rolled y vs ts x h p =
      let l : Expr-F Expr = map-Expr Such Expr plain y in
      subst (λ (m : Meaning). Of (m vs) x) (sym (eval_layer l)) (layer_good y vs ts x h (sym (ap (λ (k : Kind). k ts) (type_layer l)) ∙ p))

  pub good : (f : Expr) → Good f
  good = ind-Expr Good (λ l y q. subst (λ (l : Expr-F Expr). Good (roll-Expr l)) q (rolled y))

-- An expression of a type has a value of its type where the values that it uses are of theirs, whatever the others are.
use Rattle.std.proofs.Common.{◌≡◌, ℕ, zero, suc, ◌<◌, ◌≤◌, Bool, true, false, List, [], ◌∷◌, ◌++◌, length, map, take, Option, Some, refl, sym, ap, ◌∙◌, subst, arith}
use Rattle.std.specs.Prelude.{◌&&◌, not, nat_le, nat_lt, slice_get, slice_index_or, if◌then◌else◌, ◌==◌, ⊤}
use Rattle.std.specs.List.{list_any, list_all}
use Rattle.std.specs.Cmp.{unsigned_Decides}
use Rattle.std.proofs.lemmas.List.{length-map}
use Rattle.std.proofs.lemmas.List.Folds.{list_all-append}
use Rattle.std.proofs.lemmas.Grind.{common_steps}
use Rattle.frp_base.specs.declared.name.Name.{Name}
use Rattle.frp_base.specs.declared.ty.Ty.{Ty}
use Rattle.frp_base.specs.declared.ty.Ty.TheVariants as t
use Rattle.frp_base.specs.declared.val.Val.{Val}
use Rattle.frp_base.specs.declared.val.Val.TheVariants as v
use Rattle.frp_expr.specs.Parts.{int_of, bool_of, text_of, items_of, zero_val}
use Rattle.frp_expr.specs.Operators.{most, appended}
use Rattle.frp_expr.specs.Types.{given, is_list, is_comparable}
use Rattle.frp_expr.specs.Typing.{Sig, Kind, has, all_have, each_has, list_kind, type_step, type_in}
use Rattle.frp_expr.specs.Eval.{Meaning, each_value, eval_step, eval}
use Rattle.frp_expr.specs.Values.{is_of, are_of, each_of}
use Rattle.frp_expr.specs.Uses.{note, Noting, each_noted, noting_step, noting, uses}
use Rattle.frp_expr.specs.declared.expr.Expr.{Expr, roll-Expr}
use Rattle.frp_expr.specs.declared.expr.Expr.TheOpen.{Expr-F}
use Rattle.frp_expr.specs.declared.expr.Expr.TheOpen as e
use Rattle.frp_expr.specs.declared.expr.Expr.TheFolds.{fold-roll-Expr, map-Expr, ind-Expr}
use Rattle.frp_base.proofs.Booleans.{both_true, true_both}
use Rattle.frp_expr.proofs.TypeLemmas.{bind_some, given_some, has_some, first_is, second_is, item_is, list_of_items}
use Rattle.frp_expr.proofs.NumberLemmas.{wrapped_fits, quotient_fits, remainder_fits, length_fits, shown_is_text, joined_is_text, length_take}
use Rattle.frp_expr.proofs.ValueLemmas.{AllOf, int_is, int_parts, bool_is, text_is, text_parts, pair_is, pair_parts, list_is, list_parts, len_parts, closed_is, all_append, all_take, at_is}
use Rattle.frp_graph.proofs.Lists.{any_of}

module _ (node_type : Name → Option Ty) (sigs : List Sig) where
  abbrev Of : Val → Ty → Type 0
  Of y x = is_of node_type sigs y x ≡ true

  -- Values that are of these types at the positions that the test holds of.

  abbrev pub AreWhere : (ℕ → Bool) → List Val → List Ty → Type 0
  AreWhere clean [] [] = ⊤
  AreWhere clean (y ∷ vs) (x ∷ ts) = (clean zero ≡ true → Of y x) × AreWhere (λ i. clean (suc i)) vs ts
  AreWhere clean _ _ = ⊥

  pub where_all : (clean : ℕ → Bool) (vs : List Val) (ts : List Ty) → are_of node_type sigs vs ts ≡ true
      → AreWhere clean vs ts
  where_all clean [] [] h = tt
  where_all clean [] (x ∷ ts) h = absurd cc
  where_all clean (y ∷ vs) [] h = absurd cc
  where_all clean (y ∷ vs) (x ∷ ts) h = let p = both_true _ _ h in (λ c. p.0, where_all (λ i. clean (suc i)) vs ts p.1)

  pub where_fewer : (clean fewer : ℕ → Bool) (vs : List Val) (ts : List Ty)
      → ((i : ℕ) → i < length ts → fewer i ≡ true → clean i ≡ true)
      → AreWhere clean vs ts → AreWhere fewer vs ts
  where_fewer clean fewer [] [] f h = tt
  where_fewer clean fewer [] (x ∷ ts) f h = absurd h
  where_fewer clean fewer (y ∷ vs) [] f h = absurd h
  where_fewer clean fewer (y ∷ vs) (x ∷ ts) f h = (
    λ c. h.0 (f zero (omega arith) c),
    where_fewer (λ i. clean (suc i)) (λ i. fewer (suc i)) vs ts (λ i k. f (suc i) (omega arith)) h.1,
  )

  pub where_more : (clean : ℕ → Bool) (vs : List Val) (ts : List Ty) (y : Val) (x : Ty) → AreWhere clean vs ts
      → (clean (length ts) ≡ true → Of y x)
      → AreWhere clean (vs ++ y ∷ []) (ts ++ x ∷ [])
  where_more clean [] [] y x h f = (f, tt)
  where_more clean [] (z ∷ ts) y x h f = absurd h
  where_more clean (u ∷ vs) [] y x h f = absurd h
  where_more clean (u ∷ vs) (z ∷ ts) y x h f = (h.0, where_more (λ i. clean (suc i)) vs ts y x h.1 f)

  where_at : (clean : ℕ → Bool) (vs : List Val) (ts : List Ty) (i : ℕ) (x : Ty) → AreWhere clean vs ts → clean i ≡ true
      → slice_get ts i ≡ Some x
      → Of (slice_index_or vs i zero_val) x
  where_at clean [] [] i x h c e = absurd cc
  where_at clean [] (z ∷ ts) i x h c e = absurd h
  where_at clean (y ∷ vs) [] i x h c e = absurd h
  where_at clean (y ∷ vs) (z ∷ ts) zero x h c e = let same : z ≡ x = cc in subst (λ (x : Ty). Of y x) same (h.0 c)
  where_at clean (y ∷ vs) (z ∷ ts) (suc i) x h c e = where_at (λ i. clean (suc i)) vs ts i x h.1 c e

  -- The test holds of each position that an expression uses, and of those past a scope of n names.
  module _ (n : ℕ) (clean : ℕ → Bool) (past : (i : ℕ) → nat_lt i n ≡ false → clean i ≡ true) where
    abbrev AllClean : List ℕ → Type 0
    AllClean used = list_all clean used ≡ true

    abbrev Are : List Val → List Ty → Type 0
    Are vs ts = AreWhere clean vs ts

    noted : (used : List ℕ) (i : ℕ) → AllClean (note n used i) → AllClean used × (clean i ≡ true)
    noted used i h = by (nat_lt i n) (list_any (λ j. j == i) used) refl refl h where
      by : (a b : Bool) → nat_lt i n ≡ a → list_any (λ j. j == i) used ≡ b
          → AllClean (if a && not b then used ++ i ∷ [] else used) → AllClean used × (clean i ≡ true)
      by true false e f h =
          let p = both_true _ _ (sym (list_all-append clean used (i ∷ [])) ∙ h) in
          (p.0, (both_true (clean i) true p.1).0)
      by true true e f h =
          let j = any_of (λ j. j == i) clean used f h in
          (h, subst (λ (k : ℕ). clean k ≡ true) ((unsigned_Decides j.0 i).0 j.1.0) j.1.1)
      by false b e f h = (h, past i e)

    -- what is shown of an expression, and an expression with it
    record IsGood (f : Expr) : Type 0 where
      shrinks : (used : List ℕ) → AllClean (noting n f used) → AllClean used
      typed : (used : List ℕ) (vs : List Val) (ts : List Ty) (x : Ty) → AllClean (noting n f used) → Are vs ts
          → type_in sigs f ts ≡ Some x → Of (eval f vs) x

    abbrev Such : Type 0
    Such = (f : Expr) × IsGood f

    abbrev plain : Such → Expr
    plain s = s.0

    abbrev after : Such → List ℕ → List ℕ
    after s used = noting n s.0 used

    -- the value is of the given type, where the test holds
    to : (b : Bool) (a x : Ty) (y : Val) → given b a ≡ Some x → (b ≡ true → Of y a) → Of y x
    to b a x y p k = let g = given_some b a x p in subst (λ (x : Ty). Of y x) g.1 (k g.0)

    -- a part has the type
    part : (s : Such) (used : List ℕ) (vs : List Val) (ts : List Ty) (x : Ty) → AllClean (after s used) → Are vs ts
        → has x (type_in sigs s.0 ts) ≡ true
        → Of (eval s.0 vs) x
    part s used vs ts x u h p = s.1.typed used vs ts x u h (has_some x (type_in sigs s.0 ts) p)

    chosen : (b : Bool) (y z : Val) (x : Ty) → Of y x → Of z x → Of (if b then y else z) x
    chosen true y z x p q = p
    chosen false y z x p q = q

    -- Several expressions.

    abbrev values : List Such → List Val → List Val
    values ys vs = each_value (map eval (map plain ys)) vs

    abbrev kinds : List Such → List Kind
    kinds ys = map (type_in sigs) (map plain ys)

    abbrev after_all : List Such → List ℕ → List ℕ
    after_all ys used = each_noted (map (noting n) (map plain ys)) used

    all_shrink : (ys : List Such) (used : List ℕ) → AllClean (after_all ys used) → AllClean used
    all_shrink [] used u = u
    all_shrink (y ∷ ys) used u = y.1.shrinks used (all_shrink ys (after y used) u)

    all_good : (ys : List Such) (used : List ℕ) (vs : List Val) (ts : List Ty) (a : Ty) → AllClean (after_all ys used)
        → Are vs ts → all_have a (kinds ys) ts ≡ true
        → AllOf node_type sigs (values ys vs) a
    all_good [] used vs ts a u h p = refl
    all_good (y ∷ ys) used vs ts a u h p =
        let q = both_true _ _ p in
        let first = part y used vs ts a (all_shrink ys (after y used) u) h q.0 in
        true_both _ _ first (all_good ys (after y used) vs ts a u h q.1)

    each_good : (xs : List Ty) (ys : List Such) (used : List ℕ) (vs : List Val) (ts : List Ty)
        → AllClean (after_all ys used) → Are vs ts
        → each_has xs (kinds ys) ts ≡ true → each_of (map (is_of node_type sigs) (values ys vs)) xs ≡ true
    each_good [] [] used vs ts u h p = refl
    each_good [] (y ∷ ys) used vs ts u h p = absurd cc
    each_good (x ∷ xs) [] used vs ts u h p = absurd cc
    each_good (x ∷ xs) (y ∷ ys) used vs ts u h p =
        let q = both_true _ _ p in
        let first = part y used vs ts x (all_shrink ys (after y used) u) h q.0 in
        true_both _ _ first (each_good xs ys (after y used) vs ts u h q.1)

    as_many : (ys : List Such) (vs : List Val) → length (map (is_of node_type sigs) (values ys vs)) ≡ length (kinds ys)
    as_many [] vs = refl
    as_many (y ∷ ys) vs = let h = as_many ys vs in omega arith

    list_good : (ys : List Such) (used : List ℕ) (vs : List Val) (ts : List Ty) (x : Ty) → AllClean (after_all ys used)
        → Are vs ts
        → list_kind (kinds ys) ts ≡ Some x → Of (v.List (values ys vs)) x
    list_good [] used vs ts x u h p = absurd cc
    list_good (y ∷ ys) used vs ts x u h p =
        let a = bind_some _ _ x p in
        to _ _ x _ a.2 (λ b.
        let q = both_true _ _ b in
        let r = both_true _ _ q.0 in
        let first = y.1.typed used vs ts a.0 (all_shrink ys (after y used) u) h a.1 in
        let items = true_both _ _ first (all_good ys (after y used) vs ts a.0 u h r.1) in
        list_is node_type sigs (values (y ∷ ys) vs) a.0 items
        (subst (λ (n : ℕ). nat_le n most ≡ true) (sym (as_many (y ∷ ys) vs)) q.1))

    within : (zs : List Val) → nat_le (length (map (is_of node_type sigs) (take most zs))) most ≡ true
    within zs =
        let same = length-map (take most zs) (is_of node_type sigs) in
        let k : length (map (is_of node_type sigs) (take most zs)) ≤ most = rw same (length_take most zs) in
        grind (arith, common_steps)

    append_good : (y z : Val) (x : Ty) → is_list x ≡ true → Of y x → Of z x
        → Of (v.List (appended (items_of y) (items_of z))) x
    append_good y z x l p q =
        let a = list_of_items x l in
        let p' : Of y (t.List a.0) = subst (λ (x : Ty). Of y x) a.1 p in
        let q' : Of z (t.List a.0) = subst (λ (x : Ty). Of z x) a.1 q in
        let first = list_parts node_type sigs y a.0 p' in
        let second = list_parts node_type sigs z a.0 q' in
        let items = all_append node_type sigs (items_of y) (items_of z) a.0 first second in
        let cut = all_take node_type sigs most (items_of y ++ items_of z) a.0 items in
        subst (λ (x : Ty). Of (v.List (appended (items_of y) (items_of z))) x) (sym a.1)
        (list_is node_type sigs (appended (items_of y) (items_of z)) a.0 cut (within (items_of y ++ items_of z)))

    -- An expression of each form.

    abbrev noted_by : Expr-F Such → List ℕ → List ℕ
    noted_by l used = noting_step n (map-Expr Expr Noting (noting n) (map-Expr Such Expr plain l)) used

    layer_shrinks : (l : Expr-F Such) → (used : List ℕ) → AllClean (noted_by l used) → AllClean used
    layer_shrinks (e.Var i) = λ used u. (noted used i u).0
    layer_shrinks (e.Neg a) = a.1.shrinks
    layer_shrinks (e.Not a) = a.1.shrinks
    layer_shrinks (e.First a) = a.1.shrinks
    layer_shrinks (e.Second a) = a.1.shrinks
    layer_shrinks (e.Len a) = a.1.shrinks
    layer_shrinks (e.Show a) = a.1.shrinks
    layer_shrinks (e.Let a b) = λ used u. a.1.shrinks used (b.1.shrinks (after a used) u)
    layer_shrinks (e.Add a b) = λ used u. a.1.shrinks used (b.1.shrinks (after a used) u)
    layer_shrinks (e.Sub a b) = λ used u. a.1.shrinks used (b.1.shrinks (after a used) u)
    layer_shrinks (e.Mul a b) = λ used u. a.1.shrinks used (b.1.shrinks (after a used) u)
    layer_shrinks (e.Div a b) = λ used u. a.1.shrinks used (b.1.shrinks (after a used) u)
    layer_shrinks (e.Rem a b) = λ used u. a.1.shrinks used (b.1.shrinks (after a used) u)
    layer_shrinks (e.Lt a b) = λ used u. a.1.shrinks used (b.1.shrinks (after a used) u)
    layer_shrinks (e.Eq a b) = λ used u. a.1.shrinks used (b.1.shrinks (after a used) u)
    layer_shrinks (e.And a b) = λ used u. a.1.shrinks used (b.1.shrinks (after a used) u)
    layer_shrinks (e.Or a b) = λ used u. a.1.shrinks used (b.1.shrinks (after a used) u)
    layer_shrinks (e.Pair a b) = λ used u. a.1.shrinks used (b.1.shrinks (after a used) u)
    layer_shrinks (e.Append a b) = λ used u. a.1.shrinks used (b.1.shrinks (after a used) u)
    layer_shrinks (e.Cat a b) = λ used u. a.1.shrinks used (b.1.shrinks (after a used) u)
    layer_shrinks (e.If c a b) = λ used u.
        c.1.shrinks used (a.1.shrinks (after c used) (b.1.shrinks (after a (after c used)) u))
    layer_shrinks (e.At a i d) = λ used u.
        a.1.shrinks used (i.1.shrinks (after a used) (d.1.shrinks (after i (after a used)) u))
    layer_shrinks (e.List ys) = all_shrink ys
    layer_shrinks (e.Close f ys) = all_shrink ys
    layer_shrinks _ = λ used u. u

    abbrev LayerGood : Expr-F Such → Type 0
    LayerGood l = (used : List ℕ) (vs : List Val) (ts : List Ty) (x : Ty) → AllClean (noted_by l used) → Are vs ts
        → type_step sigs (map-Expr Expr Kind (type_in sigs) (map-Expr Such Expr plain l)) ts ≡ Some x
        → Of (eval_step (map-Expr Expr Meaning eval (map-Expr Such Expr plain l)) vs) x

    layer_good : (l : Expr-F Such) → LayerGood l
    layer_good (e.Int n) = λ used vs ts x u h p. to _ _ x _ p (λ b. int_is node_type sigs n b)
    layer_good (e.Bool b) = λ used vs ts x u h p.
        let q : t.Bool ≡ x = cc in
        subst (λ (x : Ty). Of (v.Bool b) x) q (bool_is node_type sigs b)
    layer_good (e.Text s) = λ used vs ts x u h p. to _ _ x _ p (λ b. text_is node_type sigs s b)
    layer_good (e.Var i) = λ used vs ts x u h p. where_at clean vs ts i x h (noted used i u).1 p
    layer_good (e.Neg a) = λ used vs ts x u h p. to _ _ x _ p (λ b. int_is node_type sigs _ (wrapped_fits _))
    layer_good (e.Not a) = λ used vs ts x u h p. to _ _ x _ p (λ b. bool_is node_type sigs _)
    layer_good (e.First a) = λ used vs ts x u h p.
        let y = bind_some _ _ x p in
        let q = first_is y.0 x y.2 in
        let pair : Of (eval a.0 vs) (t.Pair x q.0) = rw q.1 at (a.1.typed used vs ts y.0 u h y.1) in
        (pair_parts node_type sigs (eval a.0 vs) x q.0 pair).0
    layer_good (e.Second a) = λ used vs ts x u h p.
        let y = bind_some _ _ x p in
        let q = second_is y.0 x y.2 in
        let pair : Of (eval a.0 vs) (t.Pair q.0 x) = rw q.1 at (a.1.typed used vs ts y.0 u h y.1) in
        (pair_parts node_type sigs (eval a.0 vs) q.0 x pair).1
    layer_good (e.Len a) = λ used vs ts x u h p.
        let y = bind_some _ _ x p in
        let long = len_parts node_type sigs (eval a.0 vs) y.0 (a.1.typed used vs ts y.0 u h y.1) in
        to _ _ x _ y.2 (λ b. int_is node_type sigs _ (length_fits _ long))
    layer_good (e.Show a) = λ used vs ts x u h p. to _ _ x _ p (λ b.
        let number = int_parts node_type sigs (eval a.0 vs) (part a used vs ts t.Int u h b) in
        text_is node_type sigs _ (shown_is_text _ number))
    layer_good (e.Let a b) = λ used vs ts x u h p.
        let y = bind_some _ _ x p in
        let first : Of (eval a.0 vs) y.0 = a.1.typed used vs ts y.0 (b.1.shrinks (after a used) u) h y.1 in
        let more = where_more clean vs ts (eval a.0 vs) y.0 h (λ c. first) in
        b.1.typed (after a used) (vs ++ eval a.0 vs ∷ []) (ts ++ y.0 ∷ []) x u more y.2
    layer_good (e.Add a b) = λ used vs ts x u h p. to _ _ x _ p (λ b. int_is node_type sigs _ (wrapped_fits _))
    layer_good (e.Sub a b) = λ used vs ts x u h p. to _ _ x _ p (λ b. int_is node_type sigs _ (wrapped_fits _))
    layer_good (e.Mul a b) = λ used vs ts x u h p. to _ _ x _ p (λ b. int_is node_type sigs _ (wrapped_fits _))
    layer_good (e.Div a b) = λ used vs ts x u h p. to _ _ x _ p (λ q.
        let first = part a used vs ts t.Int (b.1.shrinks (after a used) u) h (both_true _ _ q).0 in
        let number = int_parts node_type sigs (eval a.0 vs) first in
        int_is node_type sigs _ (quotient_fits (int_of (eval a.0 vs)) (int_of (eval b.0 vs)) number))
    layer_good (e.Rem a b) = λ used vs ts x u h p. to _ _ x _ p (λ q.
        let first = part a used vs ts t.Int (b.1.shrinks (after a used) u) h (both_true _ _ q).0 in
        let number = int_parts node_type sigs (eval a.0 vs) first in
        int_is node_type sigs _ (remainder_fits (int_of (eval a.0 vs)) (int_of (eval b.0 vs)) number))
    layer_good (e.Lt a b) = λ used vs ts x u h p. to _ _ x _ p (λ b. bool_is node_type sigs _)
    layer_good (e.Eq a b) = λ used vs ts x u h p.
        let y = bind_some (type_in sigs a.0 ts) (λ y. given (is_comparable y && has y (type_in sigs b.0 ts)) t.Bool) x p in
        to _ _ x _ y.2 (λ b. bool_is node_type sigs _)
    layer_good (e.And a b) = λ used vs ts x u h p. to _ _ x _ p (λ b. bool_is node_type sigs _)
    layer_good (e.Or a b) = λ used vs ts x u h p. to _ _ x _ p (λ b. bool_is node_type sigs _)
    layer_good (e.Pair a b) = λ used vs ts x u h p.
        let y = bind_some _ _ x p in
        let z = bind_some _ _ x y.2 in
        let q : t.Pair y.0 z.0 ≡ x = cc in
        let first : Of (eval a.0 vs) y.0 = a.1.typed used vs ts y.0 (b.1.shrinks (after a used) u) h y.1 in
        let second : Of (eval b.0 vs) z.0 = b.1.typed (after a used) vs ts z.0 u h z.1 in
        subst (λ (x : Ty). Of (v.Pair (eval a.0 vs) (eval b.0 vs)) x) q
        (pair_is node_type sigs (eval a.0 vs) (eval b.0 vs) y.0 z.0 first second)
    layer_good (e.Append a b) = λ used vs ts x u h p.
        let y = bind_some _ _ x p in
        to _ _ x _ y.2 (λ q.
        let r = both_true _ _ q in
        let first : Of (eval a.0 vs) y.0 = a.1.typed used vs ts y.0 (b.1.shrinks (after a used) u) h y.1 in
        append_good (eval a.0 vs) (eval b.0 vs) y.0 r.0 first (part b (after a used) vs ts y.0 u h r.1))
    layer_good (e.Cat a b) = λ used vs ts x u h p. to _ _ x _ p (λ q.
        let r = both_true _ _ q in
        let first = text_parts node_type sigs (eval a.0 vs) (part a used vs ts t.Text (b.1.shrinks (after a used) u) h r.0) in
        let second = text_parts node_type sigs (eval b.0 vs) (part b (after a used) vs ts t.Text u h r.1) in
        text_is node_type sigs _ (joined_is_text (text_of (eval a.0 vs)) (text_of (eval b.0 vs)) first second))
    layer_good (e.If c a b) = λ used vs ts x u h p.
        let y = bind_some _ _ x p in
        let shrunk = b.1.shrinks (after a (after c used)) u in
        let first : Of (eval a.0 vs) y.0 = a.1.typed (after c used) vs ts y.0 shrunk h y.1 in
        to _ _ x _ y.2 (λ q.
        let second = part b (after a (after c used)) vs ts y.0 u h (both_true _ _ q).1 in
        chosen (bool_of (eval c.0 vs)) (eval a.0 vs) (eval b.0 vs) y.0 first second)
    layer_good (e.At a i d) = λ used vs ts x u h p.
        let l = bind_some _ _ x p in
        let y = bind_some _ _ x l.2 in
        let shrunk = i.1.shrinks (after a used) (d.1.shrinks (after i (after a used)) u) in
        let list : Of (eval a.0 vs) l.0 = a.1.typed used vs ts l.0 shrunk h l.1 in
        let list_in : Of (eval a.0 vs) (t.List y.0) = subst (λ (z : Ty). Of (eval a.0 vs) z) (item_is l.0 y.0 y.1) list in
        to _ _ x _ y.2 (λ q.
        let other = part d (after i (after a used)) vs ts y.0 u h (both_true _ _ q).1 in
        at_is node_type sigs _ _ (eval d.0 vs) y.0 (list_parts node_type sigs (eval a.0 vs) y.0 list_in) other)
    layer_good (e.List ys) = λ used vs ts x u h p. list_good ys used vs ts x u h p
    layer_good (e.Nil a) = λ used vs ts x u h p. to _ _ x _ p (λ b. list_is node_type sigs [] a refl refl)
    layer_good (e.Close f ys) = λ used vs ts x u h p.
        let s = bind_some _ _ x p in
        to _ _ x _ s.2 (λ q. closed_is node_type sigs f (values ys vs) s.0 s.1 (each_good s.0.kept ys used vs ts u h q))

    rolled : (y : Expr-F Such) → IsGood (roll-Expr (map-Expr Such Expr plain y))
    rolled y =
        let l : Expr-F Expr = map-Expr Such Expr plain y in
        let noting_layer = fold-roll-Expr Noting (noting_step n) l in
        let type_layer = fold-roll-Expr Kind (type_step sigs) l in
        let eval_layer = fold-roll-Expr Meaning eval_step l in
        record {
          shrinks = λ used u. layer_shrinks y used (subst (λ (m : Noting). AllClean (m used)) noting_layer u);
          typed = λ used vs ts x u h p.
              let clean_uses = subst (λ (m : Noting). AllClean (m used)) noting_layer u in
              let type_is = sym (ap (λ (k : Kind). k ts) type_layer) ∙ p in
              subst (λ (m : Meaning). Of (m vs) x) (sym eval_layer) (layer_good y used vs ts x clean_uses h type_is);
        }

    good : (f : Expr) → IsGood f
    good = ind-Expr IsGood (λ l y q. subst (λ (l : Expr-F Expr). IsGood (roll-Expr l)) q (rolled y))

    -- an expression of a type whose used positions pass the test has a value of its type
    pub used_is_typed : (f : Expr) (vs : List Val) (ts : List Ty) (x : Ty) → list_all clean (uses n f) ≡ true
        → AreWhere clean vs ts → type_in sigs f ts ≡ Some x
        → is_of node_type sigs (eval f vs) x ≡ true
    used_is_typed f vs ts x u h p = (good f).typed [] vs ts x u h p

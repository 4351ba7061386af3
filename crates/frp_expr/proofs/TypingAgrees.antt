-- The typing of a written expression, and the type of the expression that it stands for.
use Rattle.std.proofs.Common.{◌≡◌, ℕ, suc, Bool, true, false, List, [], ◌∷◌, ◌++◌, length, map, Option, Some, None, Ok, Err, refl, sym, ap, ◌∙◌, subst, arith, inl, inr}
use Rattle.std.specs.Prelude.{◌&&◌, ◌==◌, ◌⊎◌, nat_le, slice_get, option_map, if◌then◌else◌}
use Rattle.std.specs.Result.{result_ok}
use Rattle.std.specs.List.{list_all}
use Rattle.std.proofs.lemmas.List.{map-append, length-map}
use Rattle.std.proofs.lemmas.Option.{slice_get-map}
use Rattle.std.proofs.lemmas.Grind.{common_steps}
use Rattle.frp_base.specs.declared.text.Text.{Text}
use Rattle.frp_base.specs.declared.ty.Ty.{Ty}
use Rattle.frp_base.specs.declared.ty.Ty.TheVariants as t
use Rattle.frp_base.specs.declared.ty.Ty.TheOpen as u
use Rattle.frp_base.specs.declared.ty.Ty.TheFolds.{fold-roll-Ty}
use Rattle.frp_expr.specs.Operators.{most}
use Rattle.frp_expr.specs.Types.{given, is_plain, kind_step, is_list, is_comparable, first_type, second_type, item_type, has_length}
use Rattle.frp_expr.specs.Typing.{Sig, Kind, has, all_have, each_has, list_kind, type_step, type_in}
use Rattle.frp_expr.specs.Scope.{Named, Fun, number_of, names_of, types_of, fun_names, sigs_of}
use Rattle.frp_expr.specs.Raw.{ExprOutcome, ◌>>=◌, or_fault, Part, part_as, items_as, list_of, kept_as, close_of, item_by, TyPart, ty_part, ty_of, ty_of_step, written_step, FormTyping, typing_step, part_of, typing, Standing, each_resolved, resolve_step, resolve, is_lawful_step, is_lawful}
use Rattle.frp_expr.specs.declared.expr.Expr.{Expr, roll-Expr}
use Rattle.frp_expr.specs.declared.expr.Expr.TheOpen.{Expr-F}
use Rattle.frp_expr.specs.declared.expr.Expr.TheOpen as e
use Rattle.frp_expr.specs.declared.expr.Expr.TheVariants as x
use Rattle.frp_expr.specs.declared.expr.Expr.TheFolds.{fold-roll-Expr, map-Expr}
use Rattle.frp_expr.specs.declared.fault.TypeKind.TheVariants as kind
use Rattle.frp_expr.specs.declared.raw.RawTy.{RawTy, roll-RawTy, fold-roll-RawTy, map-RawTy, ind-RawTy, RawTy-F}
use Rattle.frp_expr.specs.declared.raw.TyForm.{TyForm, TyForm-F, roll-TyForm, fold-TyForm, fold-roll-TyForm, map-TyForm}
use Rattle.frp_expr.specs.declared.raw.TyForm.TheOpen as y
use Rattle.frp_expr.specs.declared.raw.Raw.{Raw, roll-Raw, fold-roll-Raw, map-Raw, ind-Raw, Raw-F}
use Rattle.frp_expr.specs.declared.raw.RawForm.{RawForm, RawForm-F, roll-RawForm, fold-RawForm, fold-roll-RawForm, map-RawForm}
use Rattle.frp_expr.specs.declared.raw.RawForm.TheOpen as o
use Rattle.frp_base.proofs.Booleans.{both_true, and_false}
use Rattle.frp_expr.proofs.Outcomes.{next, ok_bind, ok_or_fault, part_ok, as_ok, as_then, as_so, two_ok, first_then, guarded}

-- Written types: one that is plain has no fault, and one that has a fault is not plain.
abbrev Plainly : ExprOutcome Ty → Ty → Type 0
Plainly w a = (w ≡ Ok a) ⊎ ((result_ok w ≡ None) × (is_plain a ≡ false))

abbrev form_written : TyForm → ExprOutcome Ty
form_written = fold-TyForm (ExprOutcome Ty) TyPart written_step (λ r. record { at = r.at; ty = r.form })

abbrev form_ty : TyForm → Ty
form_ty = fold-TyForm Ty Ty ty_of_step (λ r. r.form)

abbrev SuchTy : Type 0
SuchTy = (r : RawTy) × Plainly (ty_part r).ty (ty_of r)

abbrev SuchTyForm : Type 0
SuchTyForm = (f : TyForm) × Plainly (form_written f) (form_ty f)

list_not_plain : (a : Ty) → is_plain (t.List a) ≡ false
list_not_plain a = ap is_plain (sym (t.rolls-List a)) ∙ ap (λ (k : Bool × Bool). k.1) (fold-roll-Ty (Bool × Bool) kind_step (u.List a))

stream_not_plain : (a : Ty) → is_plain (t.Stream a) ≡ false
stream_not_plain a = ap is_plain (sym (t.rolls-Stream a)) ∙ ap (λ (k : Bool × Bool). k.1) (fold-roll-Ty (Bool × Bool) kind_step (u.Stream a))

cell_not_plain : (a : Ty) → is_plain (t.Cell a) ≡ false
cell_not_plain a = ap is_plain (sym (t.rolls-Cell a)) ∙ ap (λ (k : Bool × Bool). k.1) (fold-roll-Ty (Bool × Bool) kind_step (u.Cell a))

fun_not_plain : (a b : Ty) → is_plain (t.Fun a b) ≡ false
fun_not_plain a b = ap is_plain (sym (t.rolls-Fun a b)) ∙ ap (λ (k : Bool × Bool). k.1) (fold-roll-Ty (Bool × Bool) kind_step (u.Fun a b))

pair_plain : (a b : Ty) → is_plain (t.Pair a b) ≡ is_plain a && is_plain b
pair_plain a b = ap is_plain (sym (t.rolls-Pair a b)) ∙ ap (λ (k : Bool × Bool). k.1) (fold-roll-Ty (Bool × Bool) kind_step (u.Pair a b))

-- where a part of a form is at fault, so is the form
one_part : (w : ExprOutcome Ty) (a : Ty) (f : Ty → Ty) → Plainly w a → is_plain (f a) ≡ false → Plainly (w >>= λ p. Ok (f p)) (f a)
one_part w a f h n = elim h [
  | inl e ↦ inl (ap (λ (w : ExprOutcome Ty). w >>= λ p. Ok (f p)) e)
  | inr d ↦ inr (ok_bind w (λ p. Ok (f p)) ∙ ap (λ k. next k (λ p. Some (f p))) d.0, n)
]

two_parts : (w v : ExprOutcome Ty) (a b : Ty) (f : Ty → Ty → Ty) → Plainly w a → Plainly v b → (is_plain a ≡ false → is_plain (f a b) ≡ false) → (is_plain b ≡ false → is_plain (f a b) ≡ false)
    → Plainly (w >>= λ p. v >>= λ q. Ok (f p q)) (f a b)
two_parts w v a b f h k m n = elim h [
  | inl e ↦ elim k [
    | inl d ↦ inl (ap (λ (w : ExprOutcome Ty). w >>= λ p. v >>= λ q. Ok (f p q)) e ∙ ap (λ (v : ExprOutcome Ty). v >>= λ q. Ok (f a q)) d)
    | inr d ↦ inr (ap (λ (w : ExprOutcome Ty). result_ok (w >>= λ p. v >>= λ q. Ok (f p q))) e ∙ ok_bind v (λ q. Ok (f a q)) ∙ ap (λ k. next k (λ q. Some (f a q))) d.0, n d.1)
  ]
  | inr d ↦ inr (ok_bind w (λ p. v >>= λ q. Ok (f p q)) ∙ ap (λ k. next k (λ p. result_ok (v >>= λ q. Ok (f p q)))) d.0, m d.1)
]

-- an item type, in its place
item_ok : (p : TyPart) (a : Ty) → Plainly p.ty a → result_ok (item_by p) ≡ given (is_plain a) a
item_ok p a h = elim h [
  | inl e ↦ ap (λ (w : ExprOutcome Ty). result_ok (w >>= λ x. or_fault p.at kind.Type (given (is_plain x) x))) e ∙ ok_or_fault p.at kind.Type (given (is_plain a) a)
  | inr d ↦ ok_bind p.ty (λ x. or_fault p.at kind.Type (given (is_plain x) x)) ∙ ap (λ k. next k (λ x. result_ok (or_fault p.at kind.Type (given (is_plain x) x)))) d.0 ∙ ap (λ b. given b a) (sym d.1)
]

list_part : (p : TyPart) (a : Ty) → Plainly p.ty a → Plainly (item_by p >>= λ x. Ok (t.List x)) (t.List a)
list_part p a h = by_item (item_by p) (is_plain a) (item_ok p a h) where
  by_item : (w : ExprOutcome Ty) (b : Bool) → result_ok w ≡ given b a → Plainly (w >>= λ x. Ok (t.List x)) (t.List a)
  by_item (Ok c) true e = let q : c ≡ a = cc in inl (ap (λ (c : Ty). Ok (t.List c)) q)
  by_item (Ok c) false e = absurd cc
  by_item (Err f) b e = inr (refl, list_not_plain a)

ty_layer : (l : TyForm-F SuchTyForm SuchTy) → Plainly
    (written_step (map-TyForm TyForm RawTy (ExprOutcome Ty) TyPart form_written ty_part (map-TyForm SuchTyForm SuchTy TyForm RawTy (λ s. s.0) (λ s. s.0) l)))
    (ty_of_step (map-TyForm TyForm RawTy Ty Ty form_ty ty_of (map-TyForm SuchTyForm SuchTy TyForm RawTy (λ s. s.0) (λ s. s.0) l)))
ty_layer y.Int = inl refl
ty_layer y.Bool = inl refl
ty_layer y.Text = inl refl
ty_layer (y.Pair a b) = two_parts _ _ (ty_of a.0) (ty_of b.0) t.Pair a.1 b.1 (λ h. pair_plain (ty_of a.0) (ty_of b.0) ∙ ap (λ c. c && is_plain (ty_of b.0)) h) (λ h. pair_plain (ty_of a.0) (ty_of b.0) ∙ ap (λ c. is_plain (ty_of a.0) && c) h ∙ and_false (is_plain (ty_of a.0)))
ty_layer (y.List a) = list_part (ty_part a.0) (ty_of a.0) a.1
ty_layer (y.Stream a) = one_part _ (ty_of a.0) t.Stream a.1 (stream_not_plain (ty_of a.0))
ty_layer (y.Cell a) = one_part _ (ty_of a.0) t.Cell a.1 (cell_not_plain (ty_of a.0))
ty_layer (y.Fun a b) = two_parts _ _ (ty_of a.0) (ty_of b.0) t.Fun a.1 b.1 (λ h. fun_not_plain (ty_of a.0) (ty_of b.0)) (λ h. fun_not_plain (ty_of a.0) (ty_of b.0))

form_rolled : (l : TyForm-F SuchTyForm SuchTy) → let f : TyForm = roll-TyForm (map-TyForm SuchTyForm SuchTy TyForm RawTy (λ s. s.0) (λ s. s.0) l) in Plainly (form_written f) (form_ty f)
form_rolled l =
    let m : TyForm-F TyForm RawTy = map-TyForm SuchTyForm SuchTy TyForm RawTy (λ s. s.0) (λ s. s.0) l in
    subst (λ (w : ExprOutcome Ty). Plainly w (form_ty (roll-TyForm m))) (sym (fold-roll-TyForm (ExprOutcome Ty) TyPart written_step (λ r. record { at = r.at; ty = r.form }) m))
    (subst (λ (a : Ty). Plainly (written_step (map-TyForm TyForm RawTy (ExprOutcome Ty) TyPart form_written ty_part m)) a) (sym (fold-roll-TyForm Ty Ty ty_of_step (λ r. r.form) m)) (ty_layer l))

raw_rolled : (l : RawTy-F SuchTyForm SuchTy) → let r : RawTy = roll-RawTy (map-RawTy SuchTyForm SuchTy TyForm RawTy (λ s. s.0) (λ s. s.0) l) in Plainly (ty_part r).ty (ty_of r)
raw_rolled l =
    let m : RawTy-F TyForm RawTy = map-RawTy SuchTyForm SuchTy TyForm RawTy (λ s. s.0) (λ s. s.0) l in
    subst (λ (p : TyPart). Plainly p.ty (ty_of (roll-RawTy m))) (sym (fold-roll-RawTy (ExprOutcome Ty) TyPart written_step (λ r. record { at = r.at; ty = r.form }) m))
    (subst (λ (a : Ty). Plainly (form_written l.form.0) a) (sym (fold-roll-RawTy Ty Ty ty_of_step (λ r. r.form) m)) l.form.1)

pub plainly : (r : RawTy) → Plainly (ty_part r).ty (ty_of r)
plainly = ind-RawTy (λ f. Plainly (form_written f) (form_ty f)) (λ r. Plainly (ty_part r).ty (ty_of r))
    (λ m l q. subst (λ (m : TyForm-F TyForm RawTy). Plainly (form_written (roll-TyForm m)) (form_ty (roll-TyForm m))) q (form_rolled l))
    (λ m l q. subst (λ (m : RawTy-F TyForm RawTy). Plainly (ty_part (roll-RawTy m)).ty (ty_of (roll-RawTy m))) q (raw_rolled l))

-- Written expressions.

module _ (funs : List Fun) where
  abbrev sigs : List Sig
  sigs = sigs_of funs

  abbrev type_of_expr : Expr → List Ty → Option Ty
  type_of_expr = type_in sigs

  abbrev stands : Raw → List Text → Expr
  stands = resolve (fun_names funs)

  -- the type of what an expression stands for
  abbrev kind_of : Raw → List Named → Option Ty
  kind_of r ns = type_of_expr (stands r (names_of ns)) (types_of ns)

  abbrev Agrees : Raw → Type 0
  Agrees r = (ns : List Named) → is_lawful r ≡ true → result_ok (typing funs r ns) ≡ kind_of r ns

  abbrev form_typing : RawForm → FormTyping
  form_typing = fold-RawForm FormTyping Part (typing_step funs) (λ r. record { at = r.at; typing = r.form r.at })

  abbrev form_stands : RawForm → Standing
  form_stands = fold-RawForm Standing Standing (resolve_step (fun_names funs)) (λ r. r.form)

  abbrev form_lawful : RawForm → Bool
  form_lawful = fold-RawForm Bool Bool is_lawful_step (λ r. r.form)

  abbrev FormAgrees : RawForm → Type 0
  FormAgrees f = (at : ℕ) (ns : List Named) → form_lawful f ≡ true → result_ok (form_typing f at ns) ≡ type_of_expr (form_stands f (names_of ns)) (types_of ns)

  abbrev Such : Type 0
  Such = (r : Raw) × Agrees r

  abbrev SuchForm : Type 0
  SuchForm = (f : RawForm) × FormAgrees f

  abbrev plain : RawForm-F SuchForm Such → RawForm-F RawForm Raw
  plain l = map-RawForm SuchForm Such RawForm Raw (λ s. s.0) (λ s. s.0) l

  -- the type of an expression, one layer deep
  opens : (f : Expr) (l : Expr-F Expr) → roll-Expr l ≡ f → (ts : List Ty) → type_of_expr f ts ≡ type_step sigs (map-Expr Expr Kind type_of_expr l) ts
  opens f l e ts = ap (λ (f : Expr). type_of_expr f ts) (sym e) ∙ (λ i. fold-roll-Expr Kind (type_step sigs) l i ts)

  abbrev LayerAgrees : RawForm-F SuchForm Such → Type 0
  LayerAgrees l = (at : ℕ) (ns : List Named) → is_lawful_step (map-RawForm RawForm Raw Bool Bool form_lawful is_lawful (plain l)) ≡ true
      → result_ok (typing_step funs (map-RawForm RawForm Raw FormTyping Part form_typing (part_of funs) (plain l)) at ns)
      ≡ type_of_expr (resolve_step (fun_names funs) (map-RawForm RawForm Raw Standing Standing form_stands stands (plain l)) (names_of ns)) (types_of ns)

  abbrev parts : List Such → List Part
  parts ys = map (part_of funs) (map (λ (s : Such). s.0) ys)

  abbrev exprs : List Such → List Text → List Expr
  exprs ys ns = each_resolved (map stands (map (λ (s : Such). s.0) ys)) ns

  abbrev kinds : List Such → List Text → List Kind
  kinds ys ns = map type_of_expr (exprs ys ns)

  abbrev all_lawful : List Such → Bool
  all_lawful ys = list_all (λ (b : Bool). b) (map is_lawful (map (λ (s : Such). s.0) ys))

  items_ok : (x : Ty) (ys : List Such) (ns : List Named) → all_lawful ys ≡ true → result_ok (items_as x (parts ys) ns) ≡ given (all_have x (kinds ys (names_of ns)) (types_of ns)) (t.List x)
  items_ok x [] ns h = refl
  items_ok x (y ∷ ys) ns h =
      let q = both_true _ _ h in
      as_then x (part_of funs y.0) ns (kind_of y.0 ns) (items_as x (parts ys) ns) _ (t.List x) (y.1 ns q.0) (items_ok x ys ns q.1)

  kept_ok : (xs : List Ty) (ys : List Such) (ns : List Named) (r : Ty) → all_lawful ys ≡ true → length ys ≡ length xs → result_ok (kept_as xs (parts ys) ns r) ≡ given (each_has xs (kinds ys (names_of ns)) (types_of ns)) r
  kept_ok [] [] ns r h e = refl
  kept_ok [] (y ∷ ys) ns r h e = absurd (omega arith)
  kept_ok (x ∷ xs) [] ns r h e = absurd (omega arith)
  kept_ok (x ∷ xs) (y ∷ ys) ns r h e =
      let q = both_true _ _ h in
      as_then x (part_of funs y.0) ns (kind_of y.0 ns) (kept_as xs (parts ys) ns r) _ r (y.1 ns q.0) (kept_ok xs ys ns r q.1 (omega arith))

  as_many_parts : (ys : List Such) → length (parts ys) ≡ length ys
  as_many_parts ys = length-map (map (λ (s : Such). s.0) ys) (part_of funs) ∙ length-map ys (λ (s : Such). s.0)

  as_many_kinds : (ys : List Such) (ns : List Text) → length (kinds ys ns) ≡ length ys
  as_many_kinds [] ns = refl
  as_many_kinds (y ∷ ys) ns = let h = as_many_kinds ys ns in omega arith

  unequal : (xs : List Ty) (ks : List Kind) (ts : List Ty) → (length ks == length xs) ≡ false → each_has xs ks ts ≡ false
  unequal [] [] ts e = absurd cc
  unequal [] (k ∷ ks) ts e = refl
  unequal (x ∷ xs) [] ts e = refl
  unequal (x ∷ xs) (k ∷ ks) ts e = ap (λ b. has x (k ts) && b) (unequal xs ks ts (grind (arith, common_steps))) ∙ and_false (has x (k ts))

  close_ok : (at : ℕ) (g : Fun) (ys : List Such) (ns : List Named) → all_lawful ys ≡ true → result_ok (close_of at g (parts ys) ns) ≡ given (each_has g.1 (kinds ys (names_of ns)) (types_of ns)) (t.Fun g.2 g.3)
  close_ok at g ys ns h = by_count (length (parts ys) == length g.1) refl where
    by_count : (b : Bool) → (length (parts ys) == length g.1) ≡ b
        → result_ok (if b then kept_as g.1 (parts ys) ns (t.Fun g.2 g.3) else Err (record { place = at; kind = kind.Arity })) ≡ given (each_has g.1 (kinds ys (names_of ns)) (types_of ns)) (t.Fun g.2 g.3)
    by_count true e = kept_ok g.1 ys ns (t.Fun g.2 g.3) h (let k : length (parts ys) ≡ length g.1 = grind (arith, common_steps) in sym (as_many_parts ys) ∙ k)
    by_count false e = ap (λ b. given b (t.Fun g.2 g.3)) (sym (unequal g.1 (kinds ys (names_of ns)) (types_of ns) (ap (λ n. n == length g.1) (as_many_kinds ys (names_of ns) ∙ sym (as_many_parts ys)) ∙ e)))

  abbrev sig_of : Fun → Sig
  sig_of g = record { kept = g.1; arg = g.2; result = g.3 }

  let_names : (ns : List Named) (n : Text) (x : Ty) → names_of (ns ++ (n, x) ∷ []) ≡ names_of ns ++ n ∷ []
  let_names ns n x = map-append (λ (n : Named). n.0) ns ((n, x) ∷ [])

  let_types : (ns : List Named) (n : Text) (x : Ty) → types_of (ns ++ (n, x) ∷ []) ≡ types_of ns ++ x ∷ []
  let_types ns n x = map-append (λ (n : Named). n.1) ns ((n, x) ∷ [])

  let_ok : (n : Text) (a b : Such) (ns : List Named) → is_lawful a.0 ≡ true → is_lawful b.0 ≡ true
      → result_ok (typing funs a.0 ns >>= λ x. typing funs b.0 (ns ++ (n, x) ∷ [])) ≡ next (kind_of a.0 ns) (λ x. type_of_expr (stands b.0 (names_of ns ++ n ∷ [])) (types_of ns ++ x ∷ []))
  let_ok n a b ns p q =
      ok_bind (typing funs a.0 ns) (λ x. typing funs b.0 (ns ++ (n, x) ∷ []))
      ∙ (λ i. next (a.1 ns p i) (λ x. (b.1 (ns ++ (n, x) ∷ []) q ∙ (λ j. type_of_expr (stands b.0 (let_names ns n x j)) (let_types ns n x j))) i))

  guarded_items : (k : Option Ty) (ys : List Such) (ns : List Named) → nat_le (suc (length (kinds ys (names_of ns)))) most ≡ true
      → next (next k (λ x. given (is_plain x) x)) (λ x. given (all_have x (kinds ys (names_of ns)) (types_of ns)) (t.List x))
      ≡ next k (λ x. given (is_plain x && all_have x (kinds ys (names_of ns)) (types_of ns) && nat_le (suc (length (kinds ys (names_of ns)))) most) (t.List x))
  guarded_items k ys ns h = guarded is_plain k (λ x. all_have x (kinds ys (names_of ns)) (types_of ns)) t.List
      ∙ (λ i. next k (λ x. given (with_count (is_plain x && all_have x (kinds ys (names_of ns)) (types_of ns)) i) (t.List x))) where
        with_count : (b : Bool) → b ≡ b && nat_le (suc (length (kinds ys (names_of ns)))) most
        with_count true = sym h
        with_count false = refl

  list_ok : (at : ℕ) (ys : List Such) (ns : List Named) → all_lawful ys && nat_le 1 (length (map is_lawful (map (λ (s : Such). s.0) ys))) && nat_le (length (map is_lawful (map (λ (s : Such). s.0) ys))) most ≡ true
      → result_ok (list_of at (parts ys) ns) ≡ list_kind (kinds ys (names_of ns)) (types_of ns)
  list_ok at [] ns h = absurd cc
  list_ok at (y ∷ ys) ns h =
      let q = both_true _ _ h in
      let r = both_true _ _ (both_true _ _ q.0).0 in
      let c : length (map is_lawful (map (λ (s : Such). s.0) ys)) ≡ length (kinds ys (names_of ns)) = length-map (map (λ (s : Such). s.0) ys) is_lawful ∙ length-map ys (λ (s : Such). s.0) ∙ sym (as_many_kinds ys (names_of ns)) in
      first_then (λ x. given (is_plain x) x) (part_of funs y.0) ns (kind_of y.0 ns) (λ x. items_as x (parts ys) ns) (λ x. given (all_have x (kinds ys (names_of ns)) (types_of ns)) (t.List x)) (y.1 ns r.0) (λ x. items_ok x ys ns r.1)
      ∙ guarded_items (kind_of y.0 ns) ys ns (subst (λ (n : ℕ). nat_le (suc n) most ≡ true) c q.1)

  tested_first : (p : Bool) (k : Option Ty) (q : Ty → Bool) → next (given p t.Bool) (λ _. next k (λ x. given (q x) x)) ≡ next k (λ x. given (p && q x) x)
  tested_first true k q = refl
  tested_first false None q = refl
  tested_first false (Some x) q = refl

  next_next : (k : Option Ty) (f g : Ty → Option Ty) → next (next k f) g ≡ next k (λ x. next (f x) g)
  next_next None f g = refl
  next_next (Some x) f g = refl

  given_list : (b : Bool) (a : Ty) → next (given b a) (λ p. Some (t.List p)) ≡ given b (t.List a)
  given_list true a = refl
  given_list false a = refl

  next_sig : (o : Option Fun) (f : Sig → Option Ty) → next o (λ g. f (sig_of g)) ≡ next (option_map sig_of o) f
  next_sig None f = refl
  next_sig (Some g) f = refl

  if_ok : (c a b : Such) (ns : List Named) → is_lawful c.0 ≡ true → is_lawful a.0 ≡ true → is_lawful b.0 ≡ true
      → result_ok (part_as t.Bool (part_of funs c.0) ns >>= λ _. typing funs a.0 ns >>= λ x. part_as x (part_of funs b.0) ns) ≡ next (kind_of a.0 ns) (λ x. given (has t.Bool (kind_of c.0 ns) && has x (kind_of b.0 ns)) x)
  if_ok c a b ns p q r =
      ok_bind (part_as t.Bool (part_of funs c.0) ns) (λ _. typing funs a.0 ns >>= λ x. part_as x (part_of funs b.0) ns)
      ∙ (λ i. next (as_ok t.Bool (part_of funs c.0) ns (kind_of c.0 ns) (c.1 ns p) i) (λ _. ok_bind (typing funs a.0 ns) (λ x. part_as x (part_of funs b.0) ns) i))
      ∙ (λ i. next (given (has t.Bool (kind_of c.0 ns)) t.Bool) (λ _. next (a.1 ns q i) (λ x. as_ok x (part_of funs b.0) ns (kind_of b.0 ns) (b.1 ns r) i)))
      ∙ tested_first (has t.Bool (kind_of c.0 ns)) (kind_of a.0 ns) (λ x. has x (kind_of b.0 ns))

  layer_agrees : (l : RawForm-F SuchForm Such) → LayerAgrees l
  layer_agrees (o.Int n) = λ at ns h. sym (opens (x.Int n) (e.Int n) (x.rolls-Int n) (types_of ns) ∙ ap (λ b. given b t.Int) h)
  layer_agrees (o.Bool b) = λ at ns h. sym (opens (x.Bool b) (e.Bool b) (x.rolls-Bool b) (types_of ns))
  layer_agrees (o.Text s) = λ at ns h. sym (opens (x.Text s) (e.Text s) (x.rolls-Text s) (types_of ns) ∙ ap (λ b. given b t.Text) h)
  layer_agrees (o.Name n) = λ at ns h. ok_or_fault at kind.Unknown (slice_get (types_of ns) (number_of n (names_of ns))) ∙ sym (opens (x.Var (number_of n (names_of ns))) (e.Var (number_of n (names_of ns))) (x.rolls-Var (number_of n (names_of ns))) (types_of ns))
  layer_agrees (o.Neg a) = λ at ns h. as_ok t.Int (part_of funs a.0) ns (kind_of a.0 ns) (a.1 ns h) ∙ sym (opens _ (e.Neg _) (x.rolls-Neg (stands a.0 (names_of ns))) (types_of ns))
  layer_agrees (o.Not a) = λ at ns h. as_ok t.Bool (part_of funs a.0) ns (kind_of a.0 ns) (a.1 ns h) ∙ sym (opens _ (e.Not _) (x.rolls-Not (stands a.0 (names_of ns))) (types_of ns))
  layer_agrees (o.First a) = λ at ns h. part_ok first_type (part_of funs a.0) ns (kind_of a.0 ns) (a.1 ns h) ∙ sym (opens _ (e.First _) (x.rolls-First (stands a.0 (names_of ns))) (types_of ns))
  layer_agrees (o.Second a) = λ at ns h. part_ok second_type (part_of funs a.0) ns (kind_of a.0 ns) (a.1 ns h) ∙ sym (opens _ (e.Second _) (x.rolls-Second (stands a.0 (names_of ns))) (types_of ns))
  layer_agrees (o.Len a) = λ at ns h. part_ok (λ x. given (has_length x) t.Int) (part_of funs a.0) ns (kind_of a.0 ns) (a.1 ns h) ∙ sym (opens _ (e.Len _) (x.rolls-Len (stands a.0 (names_of ns))) (types_of ns))
  layer_agrees (o.Show a) = λ at ns h. as_so t.Int (part_of funs a.0) ns (kind_of a.0 ns) t.Text (a.1 ns h) ∙ sym (opens _ (e.Show _) (x.rolls-Show (stands a.0 (names_of ns))) (types_of ns))
  layer_agrees (o.Let n a b) = λ at ns h. let q = both_true _ _ h in let_ok n.text a b ns q.0 q.1 ∙ sym (opens _ (e.Let _ _) (x.rolls-Let (stands a.0 (names_of ns)) (stands b.0 (names_of ns ++ n.text ∷ []))) (types_of ns))
  layer_agrees (o.Add a b) = λ at ns h. let q = both_true _ _ h in two_ok t.Int (part_of funs a.0) (part_of funs b.0) ns t.Int (kind_of a.0 ns) (kind_of b.0 ns) (a.1 ns q.0) (b.1 ns q.1) ∙ sym (opens _ (e.Add _ _) (x.rolls-Add (stands a.0 (names_of ns)) (stands b.0 (names_of ns))) (types_of ns))
  layer_agrees (o.Sub a b) = λ at ns h. let q = both_true _ _ h in two_ok t.Int (part_of funs a.0) (part_of funs b.0) ns t.Int (kind_of a.0 ns) (kind_of b.0 ns) (a.1 ns q.0) (b.1 ns q.1) ∙ sym (opens _ (e.Sub _ _) (x.rolls-Sub (stands a.0 (names_of ns)) (stands b.0 (names_of ns))) (types_of ns))
  layer_agrees (o.Mul a b) = λ at ns h. let q = both_true _ _ h in two_ok t.Int (part_of funs a.0) (part_of funs b.0) ns t.Int (kind_of a.0 ns) (kind_of b.0 ns) (a.1 ns q.0) (b.1 ns q.1) ∙ sym (opens _ (e.Mul _ _) (x.rolls-Mul (stands a.0 (names_of ns)) (stands b.0 (names_of ns))) (types_of ns))
  layer_agrees (o.Div a b) = λ at ns h. let q = both_true _ _ h in two_ok t.Int (part_of funs a.0) (part_of funs b.0) ns t.Int (kind_of a.0 ns) (kind_of b.0 ns) (a.1 ns q.0) (b.1 ns q.1) ∙ sym (opens _ (e.Div _ _) (x.rolls-Div (stands a.0 (names_of ns)) (stands b.0 (names_of ns))) (types_of ns))
  layer_agrees (o.Rem a b) = λ at ns h. let q = both_true _ _ h in two_ok t.Int (part_of funs a.0) (part_of funs b.0) ns t.Int (kind_of a.0 ns) (kind_of b.0 ns) (a.1 ns q.0) (b.1 ns q.1) ∙ sym (opens _ (e.Rem _ _) (x.rolls-Rem (stands a.0 (names_of ns)) (stands b.0 (names_of ns))) (types_of ns))
  layer_agrees (o.Lt a b) = λ at ns h. let q = both_true _ _ h in two_ok t.Int (part_of funs a.0) (part_of funs b.0) ns t.Bool (kind_of a.0 ns) (kind_of b.0 ns) (a.1 ns q.0) (b.1 ns q.1) ∙ sym (opens _ (e.Lt _ _) (x.rolls-Lt (stands a.0 (names_of ns)) (stands b.0 (names_of ns))) (types_of ns))
  layer_agrees (o.Eq a b) = λ at ns h.
      let q = both_true _ _ h in
      first_then (λ x. given (is_comparable x) x) (part_of funs a.0) ns (kind_of a.0 ns) (λ x. part_as x (part_of funs b.0) ns >>= λ _. Ok t.Bool) (λ x. given (has x (kind_of b.0 ns)) t.Bool) (a.1 ns q.0) (λ x. as_so x (part_of funs b.0) ns (kind_of b.0 ns) t.Bool (b.1 ns q.1))
      ∙ guarded is_comparable (kind_of a.0 ns) (λ x. has x (kind_of b.0 ns)) (λ x. t.Bool) ∙ sym (opens _ (e.Eq _ _) (x.rolls-Eq (stands a.0 (names_of ns)) (stands b.0 (names_of ns))) (types_of ns))
  layer_agrees (o.And a b) = λ at ns h. let q = both_true _ _ h in two_ok t.Bool (part_of funs a.0) (part_of funs b.0) ns t.Bool (kind_of a.0 ns) (kind_of b.0 ns) (a.1 ns q.0) (b.1 ns q.1) ∙ sym (opens _ (e.And _ _) (x.rolls-And (stands a.0 (names_of ns)) (stands b.0 (names_of ns))) (types_of ns))
  layer_agrees (o.Or a b) = λ at ns h. let q = both_true _ _ h in two_ok t.Bool (part_of funs a.0) (part_of funs b.0) ns t.Bool (kind_of a.0 ns) (kind_of b.0 ns) (a.1 ns q.0) (b.1 ns q.1) ∙ sym (opens _ (e.Or _ _) (x.rolls-Or (stands a.0 (names_of ns)) (stands b.0 (names_of ns))) (types_of ns))
  layer_agrees (o.Pair a b) = λ at ns h.
      let q = both_true _ _ h in
      ok_bind (typing funs a.0 ns) (λ x. typing funs b.0 ns >>= λ y. Ok (t.Pair x y))
      ∙ (λ i. next (a.1 ns q.0 i) (λ x. (ok_bind (typing funs b.0 ns) (λ y. Ok (t.Pair x y)) ∙ (λ j. next (b.1 ns q.1 j) (λ y. Some (t.Pair x y)))) i))
      ∙ sym (opens _ (e.Pair _ _) (x.rolls-Pair (stands a.0 (names_of ns)) (stands b.0 (names_of ns))) (types_of ns))
  layer_agrees (o.Append a b) = λ at ns h.
      let q = both_true _ _ h in
      first_then (λ x. given (is_list x) x) (part_of funs a.0) ns (kind_of a.0 ns) (λ x. part_as x (part_of funs b.0) ns) (λ x. given (has x (kind_of b.0 ns)) x) (a.1 ns q.0) (λ x. as_ok x (part_of funs b.0) ns (kind_of b.0 ns) (b.1 ns q.1))
      ∙ guarded is_list (kind_of a.0 ns) (λ x. has x (kind_of b.0 ns)) (λ x. x) ∙ sym (opens _ (e.Append _ _) (x.rolls-Append (stands a.0 (names_of ns)) (stands b.0 (names_of ns))) (types_of ns))
  layer_agrees (o.Cat a b) = λ at ns h. let q = both_true _ _ h in two_ok t.Text (part_of funs a.0) (part_of funs b.0) ns t.Text (kind_of a.0 ns) (kind_of b.0 ns) (a.1 ns q.0) (b.1 ns q.1) ∙ sym (opens _ (e.Cat _ _) (x.rolls-Cat (stands a.0 (names_of ns)) (stands b.0 (names_of ns))) (types_of ns))
  layer_agrees (o.If c a b) = λ at ns h.
      let q = both_true _ _ h in
      let r = both_true _ _ q.0 in
      if_ok c a b ns r.0 r.1 q.1 ∙ sym (opens _ (e.If _ _ _) (x.rolls-If (stands c.0 (names_of ns)) (stands a.0 (names_of ns)) (stands b.0 (names_of ns))) (types_of ns))
  layer_agrees (o.At a i d) = λ at ns h.
      let q = both_true _ _ h in
      let r = both_true _ _ q.0 in
      first_then item_type (part_of funs a.0) ns (kind_of a.0 ns) (λ x. part_as t.Int (part_of funs i.0) ns >>= λ _. part_as x (part_of funs d.0) ns) (λ x. given (has t.Int (kind_of i.0 ns) && has x (kind_of d.0 ns)) x) (a.1 ns r.0)
      (λ x. as_then t.Int (part_of funs i.0) ns (kind_of i.0 ns) (part_as x (part_of funs d.0) ns) (has x (kind_of d.0 ns)) x (i.1 ns r.1) (as_ok x (part_of funs d.0) ns (kind_of d.0 ns) (d.1 ns q.1)))
      ∙ next_next (kind_of a.0 ns) item_type (λ x. given (has t.Int (kind_of i.0 ns) && has x (kind_of d.0 ns)) x)
      ∙ sym (opens _ (e.At _ _ _) (x.rolls-At (stands a.0 (names_of ns)) (stands i.0 (names_of ns)) (stands d.0 (names_of ns))) (types_of ns))
  layer_agrees (o.List ys) = λ at ns h. list_ok at ys ns h ∙ sym (opens _ (e.List _) (x.rolls-List (exprs ys (names_of ns))) (types_of ns))
  layer_agrees (o.Nil a) = λ at ns h.
      ok_bind (item_by (ty_part a)) (λ p. Ok (t.List p)) ∙ ap (λ k. next k (λ p. Some (t.List p))) (item_ok (ty_part a) (ty_of a) (plainly a)) ∙ given_list (is_plain (ty_of a)) (ty_of a)
      ∙ sym (opens _ (e.Nil _) (x.rolls-Nil (ty_of a)) (types_of ns))
  layer_agrees (o.Close f ys) = λ at ns h.
      let n : ℕ = number_of f.text (fun_names funs) in
      ok_bind (or_fault f.at kind.Unknown (slice_get funs n)) (λ g. close_of f.at g (parts ys) ns)
      ∙ (λ i. next (ok_or_fault f.at kind.Unknown (slice_get funs n) i) (λ g. close_ok f.at g ys ns h i))
      ∙ next_sig (slice_get funs n) (λ s. given (each_has s.kept (kinds ys (names_of ns)) (types_of ns)) (t.Fun s.arg s.result))
      ∙ ap (λ k. next k (λ (s : Sig). given (each_has s.kept (kinds ys (names_of ns)) (types_of ns)) (t.Fun s.arg s.result))) (sym (slice_get-map sig_of funs n))
      ∙ sym (opens _ (e.Close _ _) (x.rolls-Close n (exprs ys (names_of ns))) (types_of ns))

  form_agrees : (l : RawForm-F SuchForm Such) → FormAgrees (roll-RawForm (plain l))
  form_agrees l at ns h =
      let m : RawForm-F RawForm Raw = plain l in
      (λ i. result_ok (fold-roll-RawForm FormTyping Part (typing_step funs) (λ r. record { at = r.at; typing = r.form r.at }) m i at ns))
      ∙ layer_agrees l at ns (sym (fold-roll-RawForm Bool Bool is_lawful_step (λ r. r.form) m) ∙ h)
      ∙ sym (λ i. type_of_expr (fold-roll-RawForm Standing Standing (resolve_step (fun_names funs)) (λ r. r.form) m i (names_of ns)) (types_of ns))

  raw_agrees : (l : Raw-F SuchForm Such) → Agrees (roll-Raw (map-Raw SuchForm Such RawForm Raw (λ s. s.0) (λ s. s.0) l))
  raw_agrees l ns h =
      let m : Raw-F RawForm Raw = map-Raw SuchForm Such RawForm Raw (λ s. s.0) (λ s. s.0) l in
      (λ i. result_ok ((fold-roll-Raw FormTyping Part (typing_step funs) (λ r. record { at = r.at; typing = r.form r.at }) m i).typing ns))
      ∙ l.form.1 l.at ns (sym (fold-roll-Raw Bool Bool is_lawful_step (λ r. r.form) m) ∙ h)
      ∙ sym (λ i. type_of_expr (fold-roll-Raw Standing Standing (resolve_step (fun_names funs)) (λ r. r.form) m i (names_of ns)) (types_of ns))

  pub agrees : (r : Raw) (ns : List Named) → is_lawful r ≡ true → result_ok (typing funs r ns) ≡ type_in (sigs_of funs) (resolve (fun_names funs) r (names_of ns)) (types_of ns)
  agrees = ind-Raw FormAgrees Agrees
      (λ m l q. subst (λ (m : RawForm-F RawForm Raw). FormAgrees (roll-RawForm m)) q (form_agrees l))
      (λ m l q. subst (λ (m : Raw-F RawForm Raw). Agrees (roll-Raw m)) q (raw_agrees l))

-- An expression over what it uses of some values has the type that it has over all of them.
use Rattle.std.proofs.Common.{◌≡◌, ℕ, zero, suc, ◌+◌, ◌-◌, Bool, true, false, List, [], ◌∷◌, ◌++◌, length, map, filter, Option, Some, refl, sym, ap, ◌∙◌, subst, append_assoc, arith}
use Rattle.std.specs.Prelude.{◌&&◌, ◌||◌, ◌==◌, nat_le, nat_lt, slice_get, if◌then◌else◌}
use Rattle.std.specs.Cmp.{unsigned_Decides}
use Rattle.std.specs.List.{list_any}
use Rattle.std.proofs.lemmas.List.{length-map}
use Rattle.std.proofs.lemmas.Grind.{common_steps}
use Rattle.frp_base.specs.declared.ty.Ty.{Ty}
use Rattle.frp_base.specs.declared.ty.Ty.TheVariants as t
use Rattle.frp_expr.specs.Operators.{most}
use Rattle.frp_expr.specs.Types.{given, is_plain, is_list, is_comparable, first_type, second_type, item_type, has_length}
use Rattle.frp_expr.specs.Typing.{Sig, Kind, ◌>>=◌, has, all_have, each_has, list_kind, type_step, type_in}
use Rattle.frp_expr.specs.Uses.{Noting, each_noted, noting_step, noting, uses}
use Rattle.frp_expr.specs.declared.expr.Expr.{Expr, roll-Expr}
use Rattle.frp_expr.specs.declared.expr.Expr.TheOpen.{Expr-F}
use Rattle.frp_expr.specs.declared.expr.Expr.TheOpen as e
use Rattle.frp_expr.specs.declared.expr.Expr.TheVariants as x
use Rattle.frp_expr.specs.declared.expr.Expr.TheFolds.{fold-roll-Expr, map-Expr, ind-Expr}
use Rattle.frp_expr.proofs.TypeLemmas.{bind_some}
use Rattle.frp_graph.specs.TypedProg.{types_at}
use Rattle.frp_type.specs.Closed.{renumber_step, renumbered_vars, position, kept_number, used_of, closed}
use Rattle.frp_type.proofs.Noted.{In, in_filter, note_has, keeps, each_keeps, noted_layer}

-- Items of a list by their places.

pub get_front : {A : Type 0} (xs ys : List A) (i : ℕ) → nat_lt i (length xs) ≡ true → slice_get (xs ++ ys) i ≡ slice_get xs i
get_front [] ys i h = absurd (grind (arith, common_steps))
get_front (x ∷ xs) ys zero h = refl
get_front (x ∷ xs) ys (suc i) h = get_front xs ys i (grind (arith, common_steps))

pub get_back : {A : Type 0} (xs ys : List A) (k j : ℕ) → j ≡ length xs + k → slice_get (xs ++ ys) j ≡ slice_get ys k
get_back [] ys k j h = let q : j ≡ k = omega arith in ap (slice_get ys) q
get_back (x ∷ xs) ys k zero h = absurd (omega arith)
get_back (x ∷ xs) ys k (suc j) h = get_back xs ys k j (omega arith)

get_there : {A : Type 0} (xs : List A) (i : ℕ) → nat_lt i (length xs) ≡ true → (x : A) × (slice_get xs i ≡ Some x)
get_there [] i h = absurd (grind (arith, common_steps))
get_there (x ∷ xs) zero h = (x, refl)
get_there (x ∷ xs) (suc i) h = get_there xs i (grind (arith, common_steps))

-- The types at some positions.

abbrev below : List Ty → List ℕ → List ℕ
below ts is = filter (λ i. nat_lt i (length ts)) is

there_is : (ts : List Ty) (i : ℕ) (is : List ℕ) → (us : List Ty) × (types_at ts is ≡ Some us) → (b : Bool) → nat_lt i (length ts) ≡ b → (us : List Ty) × (types_at ts (if b then i ∷ is else is) ≡ Some us)
there_is ts i is r true h =
    let y = get_there ts i h in
    (y.0 ∷ r.0, ap (λ (o : Option Ty). o >>= λ a. types_at ts is >>= λ zs. Some (a ∷ zs)) y.1 ∙ ap (λ (o : Option (List Ty)). o >>= λ zs. Some (y.0 ∷ zs)) r.1)
there_is ts i is r false h = r

there_are : (ts : List Ty) (is : List ℕ) → (us : List Ty) × (types_at ts (below ts is) ≡ Some us)
there_are ts [] = ([], refl)
there_are ts (i ∷ is) = there_is ts i (below ts is) (there_are ts is) (nat_lt i (length ts)) refl

-- the types at a first position and at others
at_parts : (ts : List Ty) (i : ℕ) (is : List ℕ) (us : List Ty) → types_at ts (i ∷ is) ≡ Some us → (y : Ty) × (ys : List Ty) × (slice_get ts i ≡ Some y) × (types_at ts is ≡ Some ys) × (y ∷ ys ≡ us)
at_parts ts i is us h =
    let p = bind_some (slice_get ts i) (λ a. types_at ts is >>= λ zs. Some (a ∷ zs)) us h in
    let q = bind_some (types_at ts is) (λ zs. Some (p.0 ∷ zs)) us p.2 in
    (p.0, q.0, p.1, q.1, cc)

as_many_at : (ts : List Ty) (is : List ℕ) (us : List Ty) → types_at ts is ≡ Some us → length us ≡ length is
as_many_at ts [] us h = let q : [] ≡ us = cc in ap length (sym q)
as_many_at ts (i ∷ is) us h =
    let p = at_parts ts i is us h in
    ap length (sym p.4) ∙ ap suc (as_many_at ts is p.1 p.3)

at_first : (i j : ℕ) (js : List ℕ) (ts ys bs : List Ty) (y : Ty) → slice_get ts j ≡ Some y → In i (j ∷ js) → (In i js → slice_get (ys ++ bs) (position i js) ≡ slice_get ts i)
    → (b : Bool) → (j == i) ≡ b → slice_get ((y ∷ ys) ++ bs) (if b then 0 else suc (position i js)) ≡ slice_get ts i
at_first i j js ts ys bs y p k m true d = sym p ∙ ap (slice_get ts) ((unsigned_Decides j i).0 d)
at_first i j js ts ys bs y p k m false d = m (subst (λ c. c || list_any (λ j. j == i) js ≡ true) d k)

at_position : (i : ℕ) (is : List ℕ) (ts us bs : List Ty) → types_at ts is ≡ Some us → In i is → slice_get (us ++ bs) (position i is) ≡ slice_get ts i
at_position i [] ts us bs h k = absurd cc
at_position i (j ∷ js) ts us bs h k =
    let p = at_parts ts j js us h in
    subst (λ (us : List Ty). slice_get (us ++ bs) (position i (j ∷ js)) ≡ slice_get ts i) p.4
    (at_first i j js ts p.1 bs p.0 p.2 k (at_position i js ts p.1 bs p.3) (j == i) refl)

module _ (sigs : List Sig) (ts us : List Ty) (kept : List ℕ) (n : ℕ) (at : types_at ts kept ≡ Some us) (within : (i : ℕ) → nat_lt i (length ts) ≡ true → nat_lt i n ≡ true) where
  abbrev number : ℕ → ℕ
  number = kept_number (length ts) kept

  abbrev anew : Expr → Expr
  anew = renumbered_vars number

  abbrev kind : Expr → Kind
  kind = type_in sigs

  -- each value that is noted is kept
  abbrev Kept : List ℕ → Type 0
  Kept used = (i : ℕ) → nat_lt i (length ts) ≡ true → In i used → In i kept

  abbrev Same : Expr → List Ty → Type 0
  Same f bs = kind (anew f) (us ++ bs) ≡ kind f (ts ++ bs)

  abbrev Fits : Expr → Type 0
  Fits f = (used : List ℕ) (bs : List Ty) → Kept (noting n f used) → Same f bs

  abbrev Such : Type 0
  Such = (f : Expr) × Fits f

  abbrev plain : Such → Expr
  plain s = s.0

  abbrev noted : Such → Noting
  noted s = noting n s.0

  abbrev all_noted : List Such → Noting
  all_noted ys = each_noted (map (noting n) (map plain ys))

  before : (a : Such) (used : List ℕ) → Kept (noted a used) → Kept used
  before a used h = λ i p q. h i p (keeps n a.0 used i q)

  before_all : (ys : List Such) (used : List ℕ) → Kept (all_noted ys used) → Kept used
  before_all ys used h = λ i p q. h i p (each_keeps n (map plain ys) used i q)

  variable : (i : ℕ) (bs : List Ty) → (nat_lt i (length ts) ≡ true → In i kept) → slice_get (us ++ bs) (number i) ≡ slice_get (ts ++ bs) i
  variable i bs h = by_place (nat_lt i (length ts)) refl where
    by_place : (b : Bool) → nat_lt i (length ts) ≡ b → slice_get (us ++ bs) (if b then position i kept else (i - length ts) + length kept) ≡ slice_get (ts ++ bs) i
    by_place true d = at_position i kept ts us bs at (h d) ∙ sym (get_front ts bs i d)
    by_place false d =
        let m = as_many_at ts kept us at in
        get_back us bs (i - length ts) ((i - length ts) + length kept) (omega arith)
        ∙ sym (get_back ts bs (i - length ts) i (grind (arith, common_steps)))

  opens : (f : Expr) (l : Expr-F Expr) → roll-Expr l ≡ f → (zs : List Ty) → kind f zs ≡ type_step sigs (map-Expr Expr Kind kind l) zs
  opens f l q zs = ap (λ (f : Expr). kind f zs) (sym q) ∙ (λ i. fold-roll-Expr Kind (type_step sigs) l i zs)

  abbrev new_kinds : List Such → List Kind
  new_kinds ys = map kind (map anew (map plain ys))

  abbrev kinds : List Such → List Kind
  kinds ys = map kind (map plain ys)

  as_many : (ys : List Such) → length (new_kinds ys) ≡ length (kinds ys)
  as_many ys = length-map (map anew (map plain ys)) kind ∙ length-map (map plain ys) anew ∙ sym (length-map (map plain ys) kind)

  all_fit : (a : Ty) (ys : List Such) (used : List ℕ) (bs : List Ty) → Kept (all_noted ys used) → all_have a (new_kinds ys) (us ++ bs) ≡ all_have a (kinds ys) (ts ++ bs)
  all_fit a [] used bs h = refl
  all_fit a (y ∷ ys) used bs h = λ i. has a (y.1 used bs (before_all ys (noted y used) h) i) && all_fit a ys (noted y used) bs h i

  each_fits : (xs : List Ty) (ys : List Such) (used : List ℕ) (bs : List Ty) → Kept (all_noted ys used) → each_has xs (new_kinds ys) (us ++ bs) ≡ each_has xs (kinds ys) (ts ++ bs)
  each_fits [] [] used bs h = refl
  each_fits [] (y ∷ ys) used bs h = refl
  each_fits (a ∷ xs) [] used bs h = refl
  each_fits (a ∷ xs) (y ∷ ys) used bs h = λ i. has a (y.1 used bs (before_all ys (noted y used) h) i) && each_fits xs ys (noted y used) bs h i

  list_fits : (ys : List Such) (used : List ℕ) (bs : List Ty) → Kept (all_noted ys used) → list_kind (new_kinds ys) (us ++ bs) ≡ list_kind (kinds ys) (ts ++ bs)
  list_fits [] used bs h = refl
  list_fits (y ∷ ys) used bs h = λ i. y.1 used bs (before_all ys (noted y used) h) i >>= λ a. given (is_plain a && all_fit a ys (noted y used) bs h i && nat_le (as_many (y ∷ ys) i) most) (t.List a)

  -- two parts, in order
  first : (a b : Such) (used : List ℕ) (bs : List Ty) → Kept (noted b (noted a used)) → Same a.0 bs
  first a b used bs h = a.1 used bs (before b (noted a used) h)

  two : (a b : Such) (used : List ℕ) (bs : List Ty) → Kept (noted b (noted a used)) → (p q r : Ty)
      → given (has p (kind (anew a.0) (us ++ bs)) && has q (kind (anew b.0) (us ++ bs))) r ≡ given (has p (kind a.0 (ts ++ bs)) && has q (kind b.0 (ts ++ bs))) r
  two a b used bs h p q r = λ i. given (has p (first a b used bs h i) && has q (b.1 (noted a used) bs h i)) r

  inside : (b : Such) (used : List ℕ) (bs : List Ty) (a : Ty) → Kept (noted b used) → kind (anew b.0) ((us ++ bs) ++ a ∷ []) ≡ kind b.0 ((ts ++ bs) ++ a ∷ [])
  inside b used bs a h = ap (kind (anew b.0)) (append_assoc us bs (a ∷ [])) ∙ b.1 used (bs ++ a ∷ []) h ∙ ap (kind b.0) (sym (append_assoc ts bs (a ∷ [])))

  abbrev LayerFits : Expr-F Such → Type 0
  LayerFits l = (used : List ℕ) (bs : List Ty) → Kept (noting_step n (map-Expr Expr Noting (noting n) (map-Expr Such Expr plain l)) used)
      → kind (renumber_step number (map-Expr Expr Expr anew (map-Expr Such Expr plain l))) (us ++ bs) ≡ type_step sigs (map-Expr Expr Kind kind (map-Expr Such Expr plain l)) (ts ++ bs)

  layer_fits : (l : Expr-F Such) → LayerFits l
  layer_fits (e.Int z) = λ used bs h. opens (x.Int z) (e.Int z) (x.rolls-Int z) (us ++ bs)
  layer_fits (e.Bool b) = λ used bs h. opens (x.Bool b) (e.Bool b) (x.rolls-Bool b) (us ++ bs)
  layer_fits (e.Text s) = λ used bs h. opens (x.Text s) (e.Text s) (x.rolls-Text s) (us ++ bs)
  layer_fits (e.Var k) = λ used bs h. opens (x.Var (number k)) (e.Var (number k)) (x.rolls-Var (number k)) (us ++ bs) ∙ variable k bs (λ p. h k p (note_has n used k (within k p)))
  layer_fits (e.Neg a) = λ used bs h. opens _ (e.Neg _) (x.rolls-Neg (anew a.0)) (us ++ bs) ∙ (λ i. given (has t.Int (a.1 used bs h i)) t.Int)
  layer_fits (e.Not a) = λ used bs h. opens _ (e.Not _) (x.rolls-Not (anew a.0)) (us ++ bs) ∙ (λ i. given (has t.Bool (a.1 used bs h i)) t.Bool)
  layer_fits (e.First a) = λ used bs h. opens _ (e.First _) (x.rolls-First (anew a.0)) (us ++ bs) ∙ (λ i. a.1 used bs h i >>= first_type)
  layer_fits (e.Second a) = λ used bs h. opens _ (e.Second _) (x.rolls-Second (anew a.0)) (us ++ bs) ∙ (λ i. a.1 used bs h i >>= second_type)
  layer_fits (e.Len a) = λ used bs h. opens _ (e.Len _) (x.rolls-Len (anew a.0)) (us ++ bs) ∙ (λ i. a.1 used bs h i >>= λ y. given (has_length y) t.Int)
  layer_fits (e.Show a) = λ used bs h. opens _ (e.Show _) (x.rolls-Show (anew a.0)) (us ++ bs) ∙ (λ i. given (has t.Int (a.1 used bs h i)) t.Text)
  layer_fits (e.Let a b) = λ used bs h. opens _ (e.Let _ _) (x.rolls-Let (anew a.0) (anew b.0)) (us ++ bs) ∙ (λ i. first a b used bs h i >>= λ y. inside b (noted a used) bs y h i)
  layer_fits (e.Add a b) = λ used bs h. opens _ (e.Add _ _) (x.rolls-Add (anew a.0) (anew b.0)) (us ++ bs) ∙ two a b used bs h t.Int t.Int t.Int
  layer_fits (e.Sub a b) = λ used bs h. opens _ (e.Sub _ _) (x.rolls-Sub (anew a.0) (anew b.0)) (us ++ bs) ∙ two a b used bs h t.Int t.Int t.Int
  layer_fits (e.Mul a b) = λ used bs h. opens _ (e.Mul _ _) (x.rolls-Mul (anew a.0) (anew b.0)) (us ++ bs) ∙ two a b used bs h t.Int t.Int t.Int
  layer_fits (e.Div a b) = λ used bs h. opens _ (e.Div _ _) (x.rolls-Div (anew a.0) (anew b.0)) (us ++ bs) ∙ two a b used bs h t.Int t.Int t.Int
  layer_fits (e.Rem a b) = λ used bs h. opens _ (e.Rem _ _) (x.rolls-Rem (anew a.0) (anew b.0)) (us ++ bs) ∙ two a b used bs h t.Int t.Int t.Int
  layer_fits (e.Lt a b) = λ used bs h. opens _ (e.Lt _ _) (x.rolls-Lt (anew a.0) (anew b.0)) (us ++ bs) ∙ two a b used bs h t.Int t.Int t.Bool
  layer_fits (e.Eq a b) = λ used bs h. opens _ (e.Eq _ _) (x.rolls-Eq (anew a.0) (anew b.0)) (us ++ bs) ∙ (λ i. first a b used bs h i >>= λ y. given (is_comparable y && has y (b.1 (noted a used) bs h i)) t.Bool)
  layer_fits (e.And a b) = λ used bs h. opens _ (e.And _ _) (x.rolls-And (anew a.0) (anew b.0)) (us ++ bs) ∙ two a b used bs h t.Bool t.Bool t.Bool
  layer_fits (e.Or a b) = λ used bs h. opens _ (e.Or _ _) (x.rolls-Or (anew a.0) (anew b.0)) (us ++ bs) ∙ two a b used bs h t.Bool t.Bool t.Bool
  layer_fits (e.Pair a b) = λ used bs h. opens _ (e.Pair _ _) (x.rolls-Pair (anew a.0) (anew b.0)) (us ++ bs) ∙ (λ i. first a b used bs h i >>= λ y. b.1 (noted a used) bs h i >>= λ z. Some (t.Pair y z))
  layer_fits (e.Append a b) = λ used bs h. opens _ (e.Append _ _) (x.rolls-Append (anew a.0) (anew b.0)) (us ++ bs) ∙ (λ i. first a b used bs h i >>= λ y. given (is_list y && has y (b.1 (noted a used) bs h i)) y)
  layer_fits (e.Cat a b) = λ used bs h. opens _ (e.Cat _ _) (x.rolls-Cat (anew a.0) (anew b.0)) (us ++ bs) ∙ two a b used bs h t.Text t.Text t.Text
  layer_fits (e.If c a b) = λ used bs h.
      let k = before b (noted a (noted c used)) h in
      opens _ (e.If _ _ _) (x.rolls-If (anew c.0) (anew a.0) (anew b.0)) (us ++ bs)
      ∙ (λ i. a.1 (noted c used) bs k i >>= λ y. given (has t.Bool (first c a used bs k i) && has y (b.1 (noted a (noted c used)) bs h i)) y)
  layer_fits (e.At a k d) = λ used bs h.
      let m = before d (noted k (noted a used)) h in
      opens _ (e.At _ _ _) (x.rolls-At (anew a.0) (anew k.0) (anew d.0)) (us ++ bs)
      ∙ (λ i. first a k used bs m i >>= λ l. item_type l >>= λ y. given (has t.Int (k.1 (noted a used) bs m i) && has y (d.1 (noted k (noted a used)) bs h i)) y)
  layer_fits (e.List ys) = λ used bs h. opens _ (e.List _) (x.rolls-List (map anew (map plain ys))) (us ++ bs) ∙ list_fits ys used bs h
  layer_fits (e.Nil a) = λ used bs h. opens (x.Nil a) (e.Nil a) (x.rolls-Nil a) (us ++ bs)
  layer_fits (e.Close f ys) = λ used bs h. opens _ (e.Close f _) (x.rolls-Close f (map anew (map plain ys))) (us ++ bs) ∙ (λ i. slice_get sigs f >>= λ s. given (each_fits s.kept ys used bs h i) (t.Fun s.arg s.result))

  rolled : (y : Expr-F Such) → Fits (roll-Expr (map-Expr Such Expr plain y))
  rolled y used bs h =
      let l : Expr-F Expr = map-Expr Such Expr plain y in
      (λ i. kind (fold-roll-Expr Expr (renumber_step number) l i) (us ++ bs))
      ∙ layer_fits y used bs (subst (λ (m : Noting). Kept (m used)) (noted_layer n l) h)
      ∙ sym (λ i. fold-roll-Expr Kind (type_step sigs) l i (ts ++ bs))

  fits : (f : Expr) → Fits f
  fits = ind-Expr Fits (λ l y q. subst (λ (l : Expr-F Expr). Fits (roll-Expr l)) q (rolled y))

pub closed_type : (sigs : List Sig) (ts vs : List Ty) (e : Expr)
    → (kept_types : List Ty) × ((types_at ts (used_of (length ts) (length vs) e) ≡ Some kept_types) × (type_in sigs (closed (length ts) (length vs) e) (kept_types ++ vs) ≡ type_in sigs e (ts ++ vs)))
closed_type sigs ts vs e =
    let n : ℕ = length ts + length vs in
    let r = there_are ts (uses n e) in
    (r.0, (r.1, fits sigs ts r.0 (used_of (length ts) (length vs) e) n r.1 (λ i h. grind (arith, common_steps)) e [] vs (λ i p q. in_filter (λ i. nat_lt i (length ts)) i (uses n e) p q)))

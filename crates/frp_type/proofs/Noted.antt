-- The variables that an expression uses are among those that are noted of it.
use Rattle.std.proofs.Common.{◌≡◌, ℕ, Bool, true, false, List, [], ◌∷◌, ◌++◌, map, filter, refl, sym, ap, ◌∙◌, subst}
use Rattle.std.specs.Prelude.{not, ◌&&◌, ◌||◌, ◌==◌, nat_lt, if◌then◌else◌}
use Rattle.std.specs.List.{list_any}
use Rattle.std.specs.Cmp.{unsigned_Decides}
use Rattle.std.proofs.lemmas.List.Folds.{list_any-append}
use Rattle.frp_expr.specs.Uses.{note, Noting, each_noted, noting_step, noting}
use Rattle.frp_expr.specs.declared.expr.Expr.{Expr, roll-Expr}
use Rattle.frp_expr.specs.declared.expr.Expr.TheOpen.{Expr-F}
use Rattle.frp_expr.specs.declared.expr.Expr.TheOpen as e
use Rattle.frp_expr.specs.declared.expr.Expr.TheFolds.{fold-roll-Expr, map-Expr, ind-Expr}
use Rattle.frp_base.proofs.Booleans.{or_more}

-- a number is among these
abbrev pub In : ℕ → List ℕ → Type 0
In i is = list_any (λ j. j == i) is ≡ true

pub in_front : (i : ℕ) (is js : List ℕ) → In i is → In i (is ++ js)
in_front i is js h = list_any-append (λ j. j == i) is js ∙ ap (λ b. b || list_any (λ j. j == i) js) h

pub in_end : (i : ℕ) (is js : List ℕ) → In i js → In i (is ++ js)
in_end i is js h = list_any-append (λ j. j == i) is js ∙ or_more (list_any (λ j. j == i) is) _ h

pub in_itself : (i : ℕ) → In i (i ∷ [])
in_itself i = ap (λ b. b || false) ((unsigned_Decides i i).1 refl)

pub note_keeps : (n : ℕ) (used : List ℕ) (k i : ℕ) → In i used → In i (note n used k)
note_keeps n used k i h = by_test (nat_lt k n && not (list_any (λ j. j == k) used)) where
  by_test : (b : Bool) → In i (if b then used ++ k ∷ [] else used)
  by_test true = in_front i used (k ∷ []) h
  by_test false = h

pub note_has : (n : ℕ) (used : List ℕ) (i : ℕ) → nat_lt i n ≡ true → In i (note n used i)
note_has n used i h = by_tests (nat_lt i n) (list_any (λ j. j == i) used) h refl where
  by_tests : (c b : Bool) → c ≡ true → list_any (λ j. j == i) used ≡ b → In i (if c && not b then used ++ i ∷ [] else used)
  by_tests true true d q = q
  by_tests true false d q = in_end i used (i ∷ []) (in_itself i)
  by_tests false b d q = absurd cc

-- what passes a test is still there among all that pass it
in_more : (test : ℕ → Bool) (i k : ℕ) (is : List ℕ) → test i ≡ true → In i (k ∷ is) → (In i is → In i (filter test is)) → (b c : Bool) → test k ≡ b → (k == i) ≡ c → In i (if b then k ∷ filter test is else filter test is)
in_more test i k is p h m true true d q = ap (λ c. c || list_any (λ j. j == i) (filter test is)) q
in_more test i k is p h m true false d q = or_more (k == i) _ (m (subst (λ c. c || list_any (λ j. j == i) is ≡ true) q h))
in_more test i k is p h m false true d q = let r : k ≡ i = (unsigned_Decides k i).0 q in absurd cc
in_more test i k is p h m false false d q = m (subst (λ c. c || list_any (λ j. j == i) is ≡ true) q h)

pub in_filter : (test : ℕ → Bool) (i : ℕ) (is : List ℕ) → test i ≡ true → In i is → In i (filter test is)
in_filter test i [] p h = h
in_filter test i (k ∷ is) p h = in_more test i k is p h (in_filter test i is p) (test k) (k == i) refl refl

module _ (n : ℕ) where
  -- what was noted before an expression stays noted
  abbrev Keeps : Expr → Type 0
  Keeps f = (used : List ℕ) (i : ℕ) → In i used → In i (noting n f used)

  abbrev Such : Type 0
  Such = (f : Expr) × Keeps f

  abbrev plain : Such → Expr
  plain s = s.0

  each_keeps_such : (ys : List Such) (used : List ℕ) (i : ℕ) → In i used → In i (each_noted (map (noting n) (map plain ys)) used)
  each_keeps_such [] used i h = h
  each_keeps_such (y ∷ ys) used i h = each_keeps_such ys (noting n y.0 used) i (y.1 used i h)

  abbrev LayerKeeps : Expr-F Such → Type 0
  LayerKeeps l = (used : List ℕ) (i : ℕ) → In i used → In i (noting_step n (map-Expr Expr Noting (noting n) (map-Expr Such Expr plain l)) used)

  layer_keeps : (l : Expr-F Such) → LayerKeeps l
  layer_keeps (e.Int z) = λ used i h. h
  layer_keeps (e.Bool b) = λ used i h. h
  layer_keeps (e.Text s) = λ used i h. h
  layer_keeps (e.Var k) = λ used i h. note_keeps n used k i h
  layer_keeps (e.Neg a) = λ used i h. a.1 used i h
  layer_keeps (e.Not a) = λ used i h. a.1 used i h
  layer_keeps (e.First a) = λ used i h. a.1 used i h
  layer_keeps (e.Second a) = λ used i h. a.1 used i h
  layer_keeps (e.Len a) = λ used i h. a.1 used i h
  layer_keeps (e.Show a) = λ used i h. a.1 used i h
  layer_keeps (e.Let a b) = λ used i h. b.1 _ i (a.1 used i h)
  layer_keeps (e.Add a b) = λ used i h. b.1 _ i (a.1 used i h)
  layer_keeps (e.Sub a b) = λ used i h. b.1 _ i (a.1 used i h)
  layer_keeps (e.Mul a b) = λ used i h. b.1 _ i (a.1 used i h)
  layer_keeps (e.Div a b) = λ used i h. b.1 _ i (a.1 used i h)
  layer_keeps (e.Rem a b) = λ used i h. b.1 _ i (a.1 used i h)
  layer_keeps (e.Lt a b) = λ used i h. b.1 _ i (a.1 used i h)
  layer_keeps (e.Eq a b) = λ used i h. b.1 _ i (a.1 used i h)
  layer_keeps (e.And a b) = λ used i h. b.1 _ i (a.1 used i h)
  layer_keeps (e.Or a b) = λ used i h. b.1 _ i (a.1 used i h)
  layer_keeps (e.Pair a b) = λ used i h. b.1 _ i (a.1 used i h)
  layer_keeps (e.Append a b) = λ used i h. b.1 _ i (a.1 used i h)
  layer_keeps (e.Cat a b) = λ used i h. b.1 _ i (a.1 used i h)
  layer_keeps (e.If c a b) = λ used i h. b.1 _ i (a.1 _ i (c.1 used i h))
  layer_keeps (e.At a k d) = λ used i h. d.1 _ i (k.1 _ i (a.1 used i h))
  layer_keeps (e.List ys) = λ used i h. each_keeps_such ys used i h
  layer_keeps (e.Nil x) = λ used i h. h
  layer_keeps (e.Close f ys) = λ used i h. each_keeps_such ys used i h

  pub noted_layer : (l : Expr-F Expr) → noting n (roll-Expr l) ≡ noting_step n (map-Expr Expr Noting (noting n) l)
  noted_layer l = fold-roll-Expr Noting (noting_step n) l

  rolled : (y : Expr-F Such) → Keeps (roll-Expr (map-Expr Such Expr plain y))
  rolled y used i h = subst (λ (m : Noting). In i (m used)) (sym (noted_layer (map-Expr Such Expr plain y))) (layer_keeps y used i h)

  pub keeps : (f : Expr) → Keeps f
  keeps = ind-Expr Keeps (λ l y q. subst (λ (l : Expr-F Expr). Keeps (roll-Expr l)) q (rolled y))

  pub each_keeps : (fs : List Expr) (used : List ℕ) (i : ℕ) → In i used → In i (each_noted (map (noting n) fs) used)
  each_keeps [] used i h = h
  each_keeps (f ∷ fs) used i h = each_keeps fs (noting n f used) i (keeps f used i h)

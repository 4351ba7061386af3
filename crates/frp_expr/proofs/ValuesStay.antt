-- A value of a type among some nodes is one among more.
use Rattle.std.proofs.Common.{◌≡◌, ℕ, Bool, true, List, [], ◌∷◌, length, map, Option, Some, None, refl, sym, ◌∙◌, subst}
use Rattle.std.specs.Prelude.{nat_le, slice_get}
use Rattle.std.proofs.lemmas.List.{length-map}
use Rattle.frp_base.specs.declared.name.Name.{Name}
use Rattle.frp_base.specs.declared.ty.Ty.{Ty, out-Ty}
use Rattle.frp_base.specs.declared.ty.Ty.TheOpen.{Ty-F}
use Rattle.frp_base.specs.declared.ty.Ty.TheOpen as u
use Rattle.frp_base.specs.declared.val.Val.{Val, roll-Val}
use Rattle.frp_base.specs.declared.val.Val.TheOpen.{Val-F}
use Rattle.frp_base.specs.declared.val.Val.TheOpen as o
use Rattle.frp_base.specs.declared.val.Val.TheFolds.{fold-roll-Val, map-Val, ind-Val}
use Rattle.frp_expr.specs.Operators.{most}
use Rattle.frp_expr.specs.Typing.{Sig}
use Rattle.frp_expr.specs.Values.{is_node_of, all_of, each_of, is_closed_of, is_of_step, is_of}
use Rattle.frp_base.proofs.Booleans.{both_true, true_both}

module _ (few many : Name → Option Ty) (sigs : List Sig) (more : (n : Name) (y : Ty) → few n ≡ Some y → many n ≡ Some y) where
  abbrev Stays : Val → Type 0
  Stays v = (x : Ty) → is_of few sigs v x ≡ true → is_of many sigs v x ≡ true

  abbrev Such : Type 0
  Such = (v : Val) × Stays v

  abbrev plain : Such → Val
  plain s = s.0

  abbrev fewer : List Such → List (Ty → Bool)
  fewer ys = map (is_of few sigs) (map plain ys)

  abbrev manier : List Such → List (Ty → Bool)
  manier ys = map (is_of many sigs) (map plain ys)

  all_stay : (ys : List Such) (a : Ty) → all_of (fewer ys) a ≡ true → all_of (manier ys) a ≡ true
  all_stay [] a h = refl
  all_stay (y ∷ ys) a h = let q = both_true _ _ h in true_both _ _ (y.1 a q.0) (all_stay ys a q.1)

  each_stays : (ys : List Such) (xs : List Ty) → each_of (fewer ys) xs ≡ true → each_of (manier ys) xs ≡ true
  each_stays [] [] h = refl
  each_stays [] (x ∷ xs) h = absurd cc
  each_stays (y ∷ ys) [] h = absurd cc
  each_stays (y ∷ ys) (x ∷ xs) h = let q = both_true _ _ h in true_both _ _ (y.1 x q.0) (each_stays ys xs q.1)

  as_many : (ys : List Such) → length (fewer ys) ≡ length (manier ys)
  as_many ys = length-map (map plain ys) (is_of few sigs) ∙ sym (length-map (map plain ys) (is_of many sigs))

  node_stays : (x : Ty) (p q : Option Ty) → ((y : Ty) → p ≡ Some y → q ≡ Some y) → is_node_of x p ≡ true → is_node_of x q ≡ true
  node_stays x None q k h = absurd cc
  node_stays x (Some y) q k h = rw (k y refl) h

  closed_stays : (ys : List Such) (a b : Ty) (s : Option Sig) → is_closed_of (fewer ys) a b s ≡ true → is_closed_of (manier ys) a b s ≡ true
  closed_stays ys a b None h = absurd cc
  closed_stays ys a b (Some s) h =
      let q = both_true _ _ h in
      let r = both_true _ _ q.0 in
      true_both _ _ (true_both _ _ (each_stays ys s.kept r.0) r.1) q.1

  layer_stays : (l : Val-F Such) (x : Ty) (w : Ty-F Ty)
      → is_of_step few sigs (map-Val Val (Ty → Bool) (is_of few sigs) (map-Val Such Val plain l)) x w ≡ true
      → is_of_step many sigs (map-Val Val (Ty → Bool) (is_of many sigs) (map-Val Such Val plain l)) x w ≡ true
  layer_stays (o.Int z) x u.Int h = h
  layer_stays (o.Bool b) x u.Bool h = h
  layer_stays (o.Text s) x u.Text h = h
  layer_stays (o.Pair p q) x (u.Pair a b) h = let r = both_true _ _ h in true_both _ _ (p.1 a r.0) (q.1 b r.1)
  layer_stays (o.List ys) x (u.List a) h =
      let r = both_true _ _ h in
      true_both _ _ (all_stay ys a r.0) (subst (λ (n : ℕ). nat_le n most ≡ true) (as_many ys) r.1)
  layer_stays (o.Stream n) x (u.Stream a) h = node_stays x (few n) (many n) (more n) h
  layer_stays (o.Cell n) x (u.Cell a) h = node_stays x (few n) (many n) (more n) h
  layer_stays (o.Fun f ys) x (u.Fun a b) h = closed_stays ys a b (slice_get sigs f) h
  layer_stays o.Absent x (u.Option a) h = h
  layer_stays (o.Present p) x (u.Option a) h = p.1 a h
  layer_stays _ x _ h = absurd cc

  rolled : (l : Val-F Such) → Stays (roll-Val (map-Val Such Val plain l))
  rolled l x h =
      let m : Val-F Val = map-Val Such Val plain l in
      (λ i. fold-roll-Val (Ty → Bool) (λ v x. is_of_step many sigs v x (out-Ty x)) m i x)
      ∙ layer_stays l x (out-Ty x) (sym (λ i. fold-roll-Val (Ty → Bool) (λ v x. is_of_step few sigs v x (out-Ty x)) m i x) ∙ h)

  pub stays : (v : Val) → Stays v
  stays = ind-Val Stays (λ m l q. subst (λ (m : Val-F Val). Stays (roll-Val m)) q (rolled l))

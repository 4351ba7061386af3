-- the test of equality of values decides equality
use Rattle.std.proofs.Common.{◌≡◌, suc, List, [], ◌∷◌, Bool, true, false, refl, ap, sym, ◌∙◌, subst, length, map}
use Rattle.std.specs.Prelude.{◌&&◌}
use Rattle.std.proofs.Math.Bool.{and-false}
use Rattle.std.specs.Bool.{Decides}
use Rattle.std.specs.Cmp.{unsigned_Decides, booleans_Decides, signed_Decides}
use lib.Pointwise.{pointwise_decides}
use Rattle.frp_base.specs.declared.val.Val.{Val, out-Val, roll-Val, out-roll-Val, roll-out-Val}
use Rattle.frp_base.specs.declared.val.Val.TheOpen.{Val-F}
use Rattle.frp_base.specs.declared.val.Val.TheOpen as v
use Rattle.frp_base.specs.declared.val.Val.TheFolds.{fold-roll-Val, map-Val, ind-Val}
use Rattle.frp_base.proofs.NameLemmas.{both, name_decides}
use Rattle.frp_base.specs.Val.{items_eq, val_layer_eq, val_eq}

-- lists of tests and of values that are not as long are not equal
pub uneven : (fs : List (Val → Bool)) (ws : List Val) → (length fs ≡ length ws → ⊥) → items_eq fs ws ≡ false
uneven [] [] h = absurd (h refl)
uneven [] (w ∷ ws) h = refl
uneven (f ∷ fs) [] h = refl
uneven (f ∷ fs) (w ∷ ws) h = ap (λ b. f w && b) (uneven fs ws (λ e. h (ap suc e))) ∙ and-false (f w)

-- a value, with the fact for it
abbrev Such : Type 0
Such = (x : Val) × ((w : Val) → Decides (val_eq x w) (x ≡ w))

items_decide : (ys : List Such) (ws : List Val) → Decides (items_eq (map val_eq (map (λ (y : Such). y.0) ys)) ws) (map (λ (y : Such). y.0) ys ≡ ws)
items_decide [] [] = (λ h. refl, λ h. refl)
items_decide [] (w ∷ ws) = (λ h. absurd (cc), λ h. absurd (cc))
items_decide (y ∷ ys) [] = (λ h. absurd (cc), λ h. absurd (cc))
items_decide (y ∷ ys) (w ∷ ws) = both _ _ (y.0 ≡ w) (map (λ (y : Such). y.0) ys ≡ ws) _ (y.1 w) (items_decide ys ws)
    (λ h. cc) (λ h. cc) (λ p q. cc)

layer_decides : (y : Val-F Such) (o : Val-F Val) → Decides (val_layer_eq (map-Val Val (Val → Bool) val_eq (map-Val Such Val (λ e. e.0) y)) o) (map-Val Such Val (λ e. e.0) y ≡ o)
layer_decides (v.Int a) (v.Int b) = (λ h. ap v.Int ((signed_Decides a b).0 h), λ h. (signed_Decides a b).1 (cc))
layer_decides (v.Bool a) (v.Bool b) = (λ h. ap v.Bool ((booleans_Decides a b).0 h), λ h. (booleans_Decides a b).1 (cc))
layer_decides (v.Text a) (v.Text b) = (λ h. ap v.Text ((pointwise_decides unsigned_Decides a b).0 h), λ h. (pointwise_decides unsigned_Decides a b).1 (cc))
layer_decides (v.Pair x y) (v.Pair w z) = both _ _ (x.0 ≡ w) (y.0 ≡ z) _ (x.1 w) (y.1 z) (λ h. cc) (λ h. cc) (λ p q. cc)
layer_decides (v.List ys) (v.List ws) = (λ h. ap v.List ((items_decide ys ws).0 h), λ h. (items_decide ys ws).1 (cc))
layer_decides (v.Stream a) (v.Stream b) = (λ h. ap v.Stream ((name_decides a b).0 h), λ h. (name_decides a b).1 (cc))
layer_decides (v.Cell a) (v.Cell b) = (λ h. ap v.Cell ((name_decides a b).0 h), λ h. (name_decides a b).1 (cc))
layer_decides (v.Fun f ys) (v.Fun g ws) = both _ _ (f ≡ g) (map (λ (y : Such). y.0) ys ≡ ws) _ (unsigned_Decides f g) (items_decide ys ws) (λ h. cc) (λ h. cc) (λ p q. cc)
layer_decides v.Absent v.Absent = (λ h. refl, λ h. refl)
layer_decides (v.Present x) (v.Present w) = (λ h. ap v.Present ((x.1 w).0 h), λ h. (x.1 w).1 (cc))
layer_decides _ _ = (λ h. absurd (cc), λ h. absurd (cc))

rolled : (y : Val-F Such) (w : Val) → let x : Val-F Val = map-Val Such Val (λ e. e.0) y in Decides (val_eq (roll-Val x) w) (roll-Val x ≡ w)
rolled y w =
    let x : Val-F Val = map-Val Such Val (λ e. e.0) y in
    let e : val_eq (roll-Val x) w ≡ val_layer_eq (map-Val Val (Val → Bool) val_eq x) (out-Val w) = ap (λ (f : Val → Bool). f w) (fold-roll-Val (Val → Bool) (λ x w. val_layer_eq x (out-Val w)) x) in
    let d : Decides (val_layer_eq (map-Val Val (Val → Bool) val_eq x) (out-Val w)) (x ≡ out-Val w) = layer_decides y (out-Val w) in
    (λ h. ap roll-Val (d.0 (sym e ∙ h)) ∙ roll-out-Val w, λ h. e ∙ d.1 (sym (out-roll-Val x) ∙ ap out-Val h))

pub val_decides : (a w : Val) → Decides (val_eq a w) (a ≡ w)
val_decides = ind-Val (λ a. (w : Val) → Decides (val_eq a w) (a ≡ w))
    (λ x y e. subst (λ (x : Val-F Val). (w : Val) → Decides (val_eq (roll-Val x) w) (roll-Val x ≡ w)) e (rolled y))

-- Types: the test of equality decides it, and types one layer deep.
use Rattle.std.proofs.Common.{◌≡◌, Bool, true, refl, ap, sym, ◌∙◌, subst}
use Rattle.std.specs.Bool.{Decides}
use Rattle.frp_base.specs.declared.ty.Ty.{Ty, out-Ty, roll-Ty, out-roll-Ty, roll-out-Ty}
use Rattle.frp_base.specs.declared.ty.Ty.TheOpen.{Ty-F}
use Rattle.frp_base.specs.declared.ty.Ty.TheOpen as t
use Rattle.frp_base.specs.declared.ty.Ty.TheVariants as v
use Rattle.frp_base.specs.declared.ty.Ty.TheFolds.{fold-roll-Ty, map-Ty, ind-Ty}
use Rattle.frp_base.proofs.NameLemmas.{both}
use Rattle.frp_base.specs.Ty.{ty_layer_eq, ty_eq}

-- a type, with the fact for it
abbrev Such : Type 0
Such = (x : Ty) × ((u : Ty) → Decides (ty_eq x u) (x ≡ u))

layer_decides : (y : Ty-F Such) (o : Ty-F Ty) → Decides (ty_layer_eq (map-Ty Ty (Ty → Bool) ty_eq (map-Ty Such Ty (λ e. e.0) y)) o) (map-Ty Such Ty (λ e. e.0) y ≡ o)
layer_decides t.Int t.Int = (λ h. refl, λ h. refl)
layer_decides t.Bool t.Bool = (λ h. refl, λ h. refl)
layer_decides t.Text t.Text = (λ h. refl, λ h. refl)
layer_decides (t.Pair x y) (t.Pair u w) = both _ _ (x.0 ≡ u) (y.0 ≡ w) _ (x.1 u) (y.1 w) (λ h. cc) (λ h. cc) (λ p q. cc)
layer_decides (t.List x) (t.List u) = (λ h. ap t.List ((x.1 u).0 h), λ h. (x.1 u).1 (cc))
layer_decides (t.Stream x) (t.Stream u) = (λ h. ap t.Stream ((x.1 u).0 h), λ h. (x.1 u).1 (cc))
layer_decides (t.Cell x) (t.Cell u) = (λ h. ap t.Cell ((x.1 u).0 h), λ h. (x.1 u).1 (cc))
layer_decides (t.Fun x y) (t.Fun u w) = both _ _ (x.0 ≡ u) (y.0 ≡ w) _ (x.1 u) (y.1 w) (λ h. cc) (λ h. cc) (λ p q. cc)
layer_decides (t.Option x) (t.Option u) = (λ h. ap t.Option ((x.1 u).0 h), λ h. (x.1 u).1 (cc))
layer_decides _ _ = (λ h. absurd (cc), λ h. absurd (cc))

rolled : (y : Ty-F Such) (u : Ty) → let x : Ty-F Ty = map-Ty Such Ty (λ e. e.0) y in Decides (ty_eq (roll-Ty x) u) (roll-Ty x ≡ u)
rolled y u =
    let x : Ty-F Ty = map-Ty Such Ty (λ e. e.0) y in
    let e : ty_eq (roll-Ty x) u ≡ ty_layer_eq (map-Ty Ty (Ty → Bool) ty_eq x) (out-Ty u) = ap (λ (f : Ty → Bool). f u) (fold-roll-Ty (Ty → Bool) (λ x u. ty_layer_eq x (out-Ty u)) x) in
    let d : Decides (ty_layer_eq (map-Ty Ty (Ty → Bool) ty_eq x) (out-Ty u)) (x ≡ out-Ty u) = layer_decides y (out-Ty u) in
    (λ h. ap roll-Ty (d.0 (sym e ∙ h)) ∙ roll-out-Ty u, λ h. e ∙ d.1 (sym (out-roll-Ty x) ∙ ap out-Ty h))

pub ty_decides : (a b : Ty) → Decides (ty_eq a b) (a ≡ b)
ty_decides = ind-Ty (λ a. (b : Ty) → Decides (ty_eq a b) (a ≡ b))
    (λ x y e. subst (λ (x : Ty-F Ty). (b : Ty) → Decides (ty_eq (roll-Ty x) b) (roll-Ty x ≡ b)) e (rolled y))

pub ty_eq-same : (x : Ty) → ty_eq x x ≡ true
ty_eq-same x = (ty_decides x x).1 refl

-- a stream's and a cell's type, one layer deep
pub out_stream : (a : Ty) → out-Ty (v.Stream a) ≡ t.Stream a
out_stream a = ap out-Ty (sym (v.rolls-Stream a)) ∙ out-roll-Ty (t.Stream a)

pub out_cell : (a : Ty) → out-Ty (v.Cell a) ≡ t.Cell a
out_cell a = ap out-Ty (sym (v.rolls-Cell a)) ∙ out-roll-Ty (t.Cell a)

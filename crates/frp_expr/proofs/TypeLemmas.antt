-- What a type is, from what is looked at in it.
use Rattle.std.proofs.Common.{◌≡◌, Bool, true, false, Option, Some, None, refl, sym, ap, ◌∙◌}
use Rattle.frp_base.specs.declared.ty.Ty.{Ty, out-Ty, roll-Ty, roll-out-Ty}
use Rattle.frp_base.specs.declared.ty.Ty.TheOpen.{Ty-F}
use Rattle.frp_base.specs.declared.ty.Ty.TheOpen as u
use Rattle.frp_base.specs.declared.ty.Ty.TheVariants as t
use Rattle.frp_base.proofs.TyLemmas.{ty_decides}
use Rattle.frp_expr.specs.Types.{is_list_in, is_list, first_type_in, first_type, second_type_in, second_type, item_type_in, item_type, given}
use Rattle.frp_expr.specs.Typing.{◌>>=◌, has}

pub bind_some : {A B : Type 0} (o : Option A) (f : A → Option B) (x : B) → (o >>= f) ≡ Some x → (y : A) × (o ≡ Some y) × (f y ≡ Some x)
bind_some (Some y) f x e = (y, refl, e)
bind_some None f x e = absurd cc

pub given_some : (b : Bool) (x y : Ty) → given b x ≡ Some y → (b ≡ true) × (x ≡ y)
given_some true x y e = (refl, cc)
given_some false x y e = absurd cc

pub has_some : (x : Ty) (o : Option Ty) → has x o ≡ true → o ≡ Some x
has_some x None h = absurd cc
has_some x (Some y) h = ap Some ((ty_decides y x).0 h)

pub some_has : (x : Ty) (o : Option Ty) → o ≡ Some x → has x o ≡ true
some_has x o e = ap (has x) e ∙ (ty_decides x x).1 refl

first_in : (w : Ty-F Ty) (x : Ty) → first_type_in w ≡ Some x → (b : Ty) × (roll-Ty w ≡ t.Pair x b)
first_in (u.Pair a b) x e = let q : a ≡ x = cc in (b, t.rolls-Pair a b ∙ ap (λ (a : Ty). t.Pair a b) q)
first_in _ x e = absurd cc

pub first_is : (y x : Ty) → first_type y ≡ Some x → (b : Ty) × (y ≡ t.Pair x b)
first_is y x e = let r = first_in (out-Ty y) x e in (r.0, sym (roll-out-Ty y) ∙ r.1)

second_in : (w : Ty-F Ty) (x : Ty) → second_type_in w ≡ Some x → (a : Ty) × (roll-Ty w ≡ t.Pair a x)
second_in (u.Pair a b) x e = let q : b ≡ x = cc in (a, t.rolls-Pair a b ∙ ap (λ (b : Ty). t.Pair a b) q)
second_in _ x e = absurd cc

pub second_is : (y x : Ty) → second_type y ≡ Some x → (a : Ty) × (y ≡ t.Pair a x)
second_is y x e = let r = second_in (out-Ty y) x e in (r.0, sym (roll-out-Ty y) ∙ r.1)

item_in : (w : Ty-F Ty) (x : Ty) → item_type_in w ≡ Some x → roll-Ty w ≡ t.List x
item_in (u.List a) x e = let q : a ≡ x = cc in t.rolls-List a ∙ ap (λ (a : Ty). t.List a) q
item_in _ x e = absurd cc

pub item_is : (y x : Ty) → item_type y ≡ Some x → y ≡ t.List x
item_is y x e = sym (roll-out-Ty y) ∙ item_in (out-Ty y) x e

list_in : (w : Ty-F Ty) → is_list_in w ≡ true → (a : Ty) × (roll-Ty w ≡ t.List a)
list_in (u.List a) h = (a, t.rolls-List a)
list_in _ h = absurd cc

pub list_of_items : (y : Ty) → is_list y ≡ true → (a : Ty) × (y ≡ t.List a)
list_of_items y h = let r = list_in (out-Ty y) h in (r.0, sym (roll-out-Ty y) ∙ r.1)

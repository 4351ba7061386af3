-- the laws of the order of times, and of that of names
use Rattle.std.proofs.Common.{◌≡◌, [], ◌∷◌, refl, subst, inl, inr}
use Rattle.std.specs.Prelude.{◌↔◌, ◌⊎◌}
use Rattle.std.specs.Ordering.{ordering_then, ordering_reverse, nat_cmp}
use Rattle.std.specs.declared.cmp.Ordering.{Ordering}
use Rattle.std.specs.declared.cmp.Ordering.TheVariants.{Less, Equal, Greater}
use Rattle.std.specs.Cmp.{IsTotalOrder}
use Rattle.std.specs.Cmp.Lexicographic.{slice_cmp}
use Rattle.std.proofs.lemmas.Cmp.{nat_cmp_total, nat_list_cmp_total, lists_total, on_total, then_total, tied_itself}
use Rattle.std.specs.FinMap.{IsAntisymmetric, nat_cmp-IsAntisymmetric, slice_cmp-IsAntisymmetric}
use Rattle.frp_base.specs.declared.name.Stage.{Stage}
use Rattle.frp_base.specs.Time.{time_cmp}
use Rattle.frp_base.specs.Name.{stage_cmp, name_cmp}
use Rattle.frp_base.specs.Laws.{EqualIsSame, Reverses, IsTransitive, IsTotal, BeginningsFirst}

-- of any total order in which only the same are equal

equal_is_same : {A : Type 0} {R : A → A → Ordering} → IsTotalOrder R → IsAntisymmetric R → EqualIsSame R
equal_is_same {A} {R} o same a b = (same a b, λ p. subst (λ (c : A). R a c ≡ Equal) p (tied_itself o a))

reversed : (p q : Ordering) → p ≡ ordering_reverse q → (p ≡ Less) ↔ (q ≡ Greater)
reversed p Less e = (λ h. absurd (cc), λ h. absurd (cc))
reversed p Equal e = (λ h. absurd (cc), λ h. absurd (cc))
reversed p Greater e = (λ h. refl, λ h. e)

reverses : {A : Type 0} {R : A → A → Ordering} → IsTotalOrder R → Reverses R
reverses {A} {R} o a b = reversed (R a b) (R b a) (o.antisymm a b)

one_of_three : {A : Type 0} (a b : A) (p q : Ordering) → p ≡ ordering_reverse q → (p ≡ Equal → a ≡ b) → (p ≡ Less) ⊎ ((a ≡ b) ⊎ (q ≡ Less))
one_of_three a b Less q e f = inl refl
one_of_three a b Equal q e f = inr (inl (f refl))
one_of_three a b Greater Less e f = inr (inr refl)
one_of_three a b Greater Equal e f = absurd (cc)
one_of_three a b Greater Greater e f = absurd (cc)

is_total : {A : Type 0} {R : A → A → Ordering} → IsTotalOrder R → IsAntisymmetric R → IsTotal R
is_total {A} {R} o same a b = one_of_three a b (R a b) (R b a) (o.antisymm a b) (same a b)

beginnings_first : {A : Type 0} (R : A → A → Ordering) → ((x : A) → R x x ≡ Equal) → BeginningsFirst (slice_cmp R)
beginnings_first R e [] y ys = refl
beginnings_first R e (x ∷ xs) y ys = rw (e x) (beginnings_first R e xs y ys)

-- of times

time_total : IsTotalOrder time_cmp
time_total = nat_list_cmp_total

time_same : IsAntisymmetric time_cmp
time_same = slice_cmp-IsAntisymmetric nat_cmp-IsAntisymmetric

pub time_cmp-equal : EqualIsSame time_cmp
time_cmp-equal = equal_is_same time_total time_same

pub time_cmp-reversed : Reverses time_cmp
time_cmp-reversed = reverses time_total

pub time_cmp-transitive : IsTransitive time_cmp
time_cmp-transitive = time_total.trans

pub time_cmp-total : IsTotal time_cmp
time_cmp-total = is_total time_total time_same

pub time_cmp-beginnings : BeginningsFirst time_cmp
time_cmp-beginnings = beginnings_first nat_cmp (tied_itself nat_cmp_total)

-- of names

stage_total : IsTotalOrder stage_cmp
stage_total = then_total (on_total (λ (s : Stage). s.time) time_total) (on_total (λ (s : Stage). s.item) nat_cmp_total)

both_equal : (p q : Ordering) → ordering_then p q ≡ Equal → (p ≡ Equal) × (q ≡ Equal)
both_equal Less q e = absurd (cc)
both_equal Equal q e = (refl, e)
both_equal Greater q e = absurd (cc)

stage_same : IsAntisymmetric stage_cmp
stage_same a b e =
    let h = both_equal (time_cmp a.time b.time) (nat_cmp a.item b.item) e in
    let p = time_same a.time b.time h.0 in
    let q = nat_cmp-IsAntisymmetric a.item b.item h.1 in
    λ i. record { time = p i; item = q i }

name_total : IsTotalOrder name_cmp
name_total = lists_total stage_total

name_same : IsAntisymmetric name_cmp
name_same = slice_cmp-IsAntisymmetric stage_same

pub name_cmp-equal : EqualIsSame name_cmp
name_cmp-equal = equal_is_same name_total name_same

pub name_cmp-reversed : Reverses name_cmp
name_cmp-reversed = reverses name_total

pub name_cmp-transitive : IsTransitive name_cmp
name_cmp-transitive = name_total.trans

pub name_cmp-total : IsTotal name_cmp
name_cmp-total = is_total name_total name_same

pub name_cmp-beginnings : BeginningsFirst name_cmp
name_cmp-beginnings = beginnings_first stage_cmp (tied_itself stage_total)

-- Orders: what comes before, and that no time and no name comes before itself.
use Rattle.std.proofs.Common.{◌≡◌, ℕ, true, List, [], ◌∷◌, refl, arith}
use Rattle.std.specs.Ordering.{is_lt, nat_cmp}
use Rattle.std.specs.declared.cmp.Ordering.{Ordering}
use Rattle.std.specs.declared.cmp.Ordering.TheVariants.{Less, Equal, Greater}
use Rattle.std.specs.Cmp.Lexicographic.{slice_cmp}
use Rattle.std.proofs.lemmas.Grind.{common_steps}
use Rattle.frp_base.specs.declared.name.Stage.{Stage}
use Rattle.frp_base.specs.Time.{time_cmp}
use Rattle.frp_base.specs.Name.{stage_cmp, name_cmp}

pub lt_less : (o : Ordering) → is_lt o ≡ true → o ≡ Less
lt_less Less h = refl
lt_less Equal h = absurd cc
lt_less Greater h = absurd cc

pub nat_cmp-same : (n : ℕ) → nat_cmp n n ≡ Equal
nat_cmp-same n = grind (arith, common_steps)

pub slice_cmp-same : {A : Type 0} (R : A → A → Ordering) → ((x : A) → R x x ≡ Equal) → (xs : List A) → slice_cmp R xs xs ≡ Equal
slice_cmp-same R e [] = refl
slice_cmp-same R e (x ∷ xs) = rw (e x) (slice_cmp-same R e xs)

pub time_cmp-same : (t : List ℕ) → time_cmp t t ≡ Equal
time_cmp-same = slice_cmp-same nat_cmp nat_cmp-same

stage_cmp-same : (s : Stage) → stage_cmp s s ≡ Equal
stage_cmp-same s = rw (time_cmp-same s.time) (nat_cmp-same s.item)

pub name_cmp-same : (n : List Stage) → name_cmp n n ≡ Equal
name_cmp-same = slice_cmp-same stage_cmp stage_cmp-same

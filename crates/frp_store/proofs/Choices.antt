-- The first of two that is there, and one of two tests.
use Rattle.std.proofs.Common.{◌≡◌, Bool, true, false, Option, Some, None, refl}
use Rattle.std.specs.Prelude.{◌||◌}
use Rattle.frp_graph.specs.Trace.{or_else}

pub or_else_none : {A : Type 0} (o : Option A) → or_else o None ≡ o
or_else_none None = refl
or_else_none (Some v) = refl

pub or_else_joined : {A : Type 0} (a b c : Option A) → or_else (or_else a b) c ≡ or_else a (or_else b c)
or_else_joined None b c = refl
or_else_joined (Some x) b c = refl

-- where neither is there, the first is none and the second is none
pub neither : {A : Type 0} (a b : Option A) → or_else a b ≡ None → (a ≡ None) × (b ≡ None)
neither None b e = (refl, e)
neither (Some x) b e = absurd cc

pub or_false : (b : Bool) → b || false ≡ b
or_false true = refl
or_false false = refl

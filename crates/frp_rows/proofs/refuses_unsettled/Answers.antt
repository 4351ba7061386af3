use Rattle.std.proofs.Common.{inl, inr, refl}
use Rattle.frp_rows.specs.Writing.{item}
use Rattle.frp_rows.proofs.Computing.{false_true}
use Rattle.frp_rows.proofs.refuses_unsettled.Goals as goal

pub returns : goal.returns
returns c = λ h. elim h [ inl t ↦ let e = t.first_moment in absurd cc | inr r ↦ false_true (r.cause.all_below (item 1) _ refl) ]

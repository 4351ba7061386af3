use Rattle.frp_rows.specs.Instances.{made, born_at}
use Rattle.std.proofs.Common.{refl}
use Rattle.frp_rows.proofs.Computing.{none_num}
use Rattle.frp_rows.proofs.refuses_hold_after_birth.Goals as goal

pub returns : goal.returns
returns c = λ h. none_num 4 (h.1.0 (made 3) (born_at 3) refl)

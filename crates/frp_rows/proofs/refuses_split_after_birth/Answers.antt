use Rattle.std.proofs.Common.{refl}
use Rattle.frp_rows.specs.Writing.{item}
use Rattle.frp_rows.proofs.Computing.{none_num}
use Rattle.frp_rows.proofs.refuses_split_after_birth.Goals as goal

pub returns : goal.returns
returns c = λ h. none_num 7 (h.1.0 (item 2) _ refl)

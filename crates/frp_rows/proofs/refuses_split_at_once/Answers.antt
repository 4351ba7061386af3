use Rattle.std.proofs.Common.{refl}
use Rattle.frp_rows.specs.Writing.{item}
use Rattle.frp_rows.proofs.Computing.{computing}
use Rattle.frp_rows.proofs.refuses_split_at_once.Goals as goal

pub returns : goal.returns
returns c = λ h. let e = simp computing at (h.1.0 (item 2) _ refl) in cc

use Rattle.std.proofs.Common.{◌≡◌, ℕ, refl, arith}
use Rattle.frp_rows.specs.Writing.{item}
use Rattle.frp_rows.proofs.Computing.{same_num}
use Rattle.frp_rows.proofs.refuses_sink_last.Goals as goal

pub returns : goal.returns
returns c = λ h. let e : ◌≡◌ {A = ℕ} 3 2 = same_num _ _ (h.1.0 (item 0) _ refl) in absurd (omega arith)

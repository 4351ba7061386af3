use Rattle.frp_rows.specs.Writing.{item}
use Rattle.std.proofs.Common.{◌≡◌, ℕ, refl, arith}
use Rattle.frp_rows.proofs.Computing.{computing, same_num}
use Rattle.frp_rows.proofs.refuses_snapshot_after.Goals as goal

pub returns : goal.returns
returns c = λ h. let e : ◌≡◌ {A = ℕ} 1 2 = same_num _ _ (simp computing at (h.1.1.0 (item 2) _ refl)) in absurd (omega arith)

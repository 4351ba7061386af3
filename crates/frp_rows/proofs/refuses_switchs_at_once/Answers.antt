use Rattle.frp_rows.specs.Writing.{item}
use Rattle.std.proofs.Common.{◌≡◌, ℕ, refl, arith}
use Rattle.frp_rows.proofs.Computing.{computing, same_num}
use Rattle.frp_rows.proofs.refuses_switchs_at_once.Goals as goal

pub returns : goal.returns
returns c = λ h. let e : ◌≡◌ {A = ℕ} 102 202 = same_num _ _ (simp computing at (h.1.1.0 (item 5) _ refl)) in absurd (omega arith)

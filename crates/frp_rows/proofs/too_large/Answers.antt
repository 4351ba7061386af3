use Rattle.std.proofs.Common.{inl, refl, arith}
use Rattle.frp_rows.proofs.too_large.Goals as goal

pub returns : goal.returns
returns c = inl (record { of_build = refl; first_moment = refl; nothing = refl; no_ranks = refl; too_many = omega arith; cause = refl; room = omega arith })

use Rattle.frp_moment.proofs.Grounds as grounds
use Rattle.frp_moment.proofs.laws.shapes_are_ground.Goals as goal

pub returns : goal.returns
returns c = grounds.shapes_are_ground

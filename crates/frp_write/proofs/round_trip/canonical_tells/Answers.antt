use Rattle.frp_write.proofs.RoundTrip.{canonical_tells_lem}
use Rattle.frp_write.proofs.round_trip.canonical_tells.Goals as goal

pub returns : goal.returns
returns c = canonical_tells_lem

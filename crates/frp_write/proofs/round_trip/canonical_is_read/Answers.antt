use Rattle.frp_write.proofs.RoundTrip.{canonical_is_read_lem}
use Rattle.frp_write.proofs.round_trip.canonical_is_read.Goals as goal

pub returns : goal.returns
returns c = canonical_is_read_lem

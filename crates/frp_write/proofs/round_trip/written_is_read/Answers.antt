use Rattle.frp_write.proofs.RoundTrip.{written_is_read_lem}
use Rattle.frp_write.proofs.round_trip.written_is_read.Goals as goal

pub returns : goal.returns
returns c = written_is_read_lem

use Rattle.frp_write.proofs.RoundTrip.{read_is_lawful_lem}
use Rattle.frp_write.proofs.round_trip.read_is_lawful.Goals as goal

pub returns : goal.returns
returns c = read_is_lawful_lem

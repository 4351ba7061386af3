use Rattle.std.proofs.Common.{[]}
use Rattle.frp_graph.specs.Moments.{IsMoment}
use Rattle.frp_graph.proofs.Each.{each_more, each_front, each_last}
use Rattle.frp_graph.proofs.laws.earlier_moments_stay.Goals as goal

pub returns : goal.returns
returns c = λ prog sends trace m. (λ h. (each_front (IsMoment prog sends) [] trace m h, each_last (IsMoment prog sends) [] trace m h), λ h. each_more (IsMoment prog sends) [] trace m h.0 h.1)

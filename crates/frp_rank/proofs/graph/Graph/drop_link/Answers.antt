use Rattle.std.proofs.Common.{◌≡◌, false, sym, ap, ◌∙◌, arith}
use Rattle.std.proofs.lemmas.Bool.Decides.{nat_tests}
use Rattle.frp_rank.specs.declared.edge.Edge.{Edge}
use Rattle.frp_rank.specs.Graph.{edge_at}
use Rattle.frp_rank.proofs.Filing.{read_edge}
use Rattle.frp_rank.proofs.Linking.{with_live_same}
use Rattle.frp_rank.proofs.graph.Graph.drop_link.Goals as goal

pub returns-else-get-clause-edges : goal.returns-else-get-clause-edges
returns-else-get-clause-edges c = sym (with_live_same c.args.self.now.edges.items c.args.number (ap (λ (e : Edge). e.live) (read_edge c.args.self.now.edges.items c.args.number _ c.get.ensures) ∙ c.if-get.false))

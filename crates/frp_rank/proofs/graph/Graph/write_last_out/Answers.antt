use Rattle.std.proofs.Common.{ap, take}
use Rattle.frp_rank.proofs.Undoing.{pushed_base, written_back}
use Rattle.frp_rank.proofs.graph.Graph.write_last_out.Goals as goal

pub returns-clause-base : goal.returns-clause-base
returns-clause-base c =
    let s = c.args.self.now in
    pushed_base s.changes.items _ _ _ _ c.push_reserved.ensures.items
    (ap (λ l. record { ranks = take s.places.length s.ranks.items; last_in = take s.places.length s.last_in.items; last_out = l; edges = take s.links.length s.edges.items }) (written_back s.places.length c.args.place s.last_out.items c.args.edge _ c.get-old.ensures))

use Rattle.std.proofs.Common.{rules, ◌≡◌, Some}
use Rattle.frp_graph.proofs.Readable.{reads_are_there}
use Rattle.frp_fire.proofs.Needs.{target_there}
use Rattle.frp_fire.proofs.firing.fire.Goals as goal

pub row-requires-clause-reads : goal.row-requires-clause-reads
row-requires-clause-reads g c =
    let live : (g.V.View.sight c.args.view.now).node c.args.n.now ≡ Some c.in-Some.node.now = search rules in
    reads_are_there (g.V.View.prog_of c.args.view.now) (g.V.View.sight c.args.view.now) c.args.n.now c.in-Some.node.now c.requires.formed c.requires.firsts live

pub row-requires-clause-target : goal.row-requires-clause-target
row-requires-clause-target g c =
    let live : (g.V.View.sight c.args.view.now).node c.args.n.now ≡ Some c.in-Some.node.now = search rules in
    target_there (g.V.View.prog_of c.args.view.now) (g.V.View.sight c.args.view.now) c.requires.formed c.requires.firsts c.args.n.now c.in-Some.node.now live

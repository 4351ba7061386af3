use Rattle.std.proofs.Common.{◌≡◌, Some, sym, ap, ◌∙◌}
use Rattle.std.specs.Prelude.{is_some}
use Rattle.std.specs.Option.{option_copied}
use Rattle.frp_graph.specs.Trace.{Sight}
use Rattle.frp_links.proofs.Reading.{none_there}
use Rattle.frp_links.proofs.links.before.Goals as goal

pub pre-requires : goal.pre-requires
pre-requires g c =
    let w : Sight = g.V.View.sight c.args.view.now in
    let live : w.node c.args.c.now ≡ Some c.in-Some.node.now = sym c.node.ensures ∙ ap option_copied c.in-Some.is in
    c.requires.befores c.args.c.now c.in-Some.node.now live ∙ ap is_some c.in-Some-first.is

pub returns-in-None-first : goal.returns-in-None-first
returns-in-None-first g c =
    let w : Sight = g.V.View.sight c.args.view.now in
    let live : w.node c.args.c.now ≡ Some c.in-Some.node.now = sym c.node.ensures ∙ ap option_copied c.in-Some.is in
    sym (none_there (w.pre c.args.c.now) (c.requires.befores c.args.c.now c.in-Some.node.now live ∙ ap is_some c.in-None-first.is))

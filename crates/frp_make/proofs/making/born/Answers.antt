use Rattle.std.proofs.Common.{◌≡◌, List, map, sym, subst}
use Rattle.std.specs.Option.{option_copied}
use Rattle.frp_graph.specs.declared.trace.Node.{Node}
use Rattle.frp_graph.specs.Births.{Plan, plans_from}
use Rattle.frp_make.specs.declared.made.FirstOut.{FirstOut}
use Rattle.frp_make.specs.Making.{IsFirstOut}
use Rattle.frp_make.specs.Lines.{name_by, draft_of}
use Rattle.frp_make.specs.Search.{AreDrafts}
use Rattle.frp_make.proofs.Items.{ok_follows}
use Rattle.frp_make.proofs.making.born.Goals as goal

pub births-requires-clause-drafts : goal.births-requires-clause-drafts
births-requires-clause-drafts g c =
    subst (λ (ns : List Node). AreDrafts (g.V.View.prog_of c.args.view.now) (g.V.View.sight c.args.view.now) ns) (sym c.in_ok-drafts.ensures) c.requires.lines.drafts

pub returns : goal.returns
returns g c =
    let prog = g.V.View.prog_of c.args.view.now in
    let w = g.V.View.sight c.args.view.now in
    let plans = plans_from (name_by (option_copied c.args.maker) w.time) c.args.all.now 0 c.args.given c.args.lines.now in
    ok_follows c.births.result (λ (out : FirstOut). (ds : List Plan) → c.in_ok-drafts.drafts.items ≡ map draft_of ds → IsFirstOut prog w ds out) (IsFirstOut prog w plans)
    (λ out f. f plans c.in_ok-drafts.ensures) c.births.ensures

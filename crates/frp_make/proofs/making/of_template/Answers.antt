use Rattle.std.proofs.Common.{◌≡◌, List, length, Some, sym, ap, ◌∙◌, subst}
use Rattle.std.specs.Prelude.{option_map}
use Rattle.std.proofs.lemmas.Option.{same_Some}
use Rattle.frp_base.specs.declared.val.Val.{Val}
use Rattle.frp_base.specs.Name.{made_name}
use Rattle.frp_expr.specs.declared.expr.Expr.{Expr}
use Rattle.frp_expr.specs.Eval.{eval}
use Rattle.frp_graph.specs.Births.{Plan, plans_from}
use Rattle.frp_make.specs.declared.made.FirstOut.TheVariants.{Made, Chain}
use Rattle.frp_make.specs.Making.{IsFirstOut}
use Rattle.frp_make.proofs.Planned.{planned_now, plans_now, values_now}
use Rattle.frp_make.proofs.making.of_template.Goals as goal

pub born-requires-clause-lines : goal.born-requires-clause-lines
born-requires-clause-lines g c =
    planned_now (g.V.View.prog_of c.args.view.now) (g.V.View.sight c.args.view.now) (made_name c.args.maker.now (g.V.View.sight c.args.view.now).time) c.args.given c.args.body.now.lines c.requires.body
    c.in_ok-values.values c.as_slice.result.now c.as_slice-before.result.now c.as_slice-lines.result.now c.as_slice-lines.ensures c.in_ok-values.ensures c.as_slice.ensures c.as_slice-before.ensures

pub returns-in-Made : goal.returns-in-Made
returns-in-Made g c i over =
    let prog = g.V.View.prog_of c.args.view.now in
    let w = g.V.View.sight c.args.view.now in
    let name = made_name c.args.maker.now w.time in
    let ls = c.args.body.now.lines in
    let can = c.requires.body in
    let plans = plans_now prog w name c.args.given ls can c.in_ok-values.values c.as_slice.result.now c.as_slice-before.result.now c.as_slice-lines.result.now c.as_slice-lines.ensures c.in_ok-values.ensures c.as_slice.ensures c.as_slice-before.ensures in
    let values = values_now prog w name c.args.given ls can c.in_ok-values.values c.as_slice.result.now c.as_slice-before.result.now c.as_slice-lines.result.now c.as_slice-lines.ensures c.in_ok-values.ensures c.as_slice.ensures c.as_slice-before.ensures in
    let same : can.all ≡ over.all = same_Some can.all over.all (sym can.values.whole ∙ over.values) in
    let nodes = plans ∙ ap (λ (vs : List Val). plans_from name vs 0 (length c.args.given) ls) same ∙ sym over.nodes in
    let out : IsFirstOut prog w i.nodes (Made c.in-Made.nodes) = subst (λ (ds : List Plan). IsFirstOut prog w ds (Made c.in-Made.nodes)) nodes (subst (IsFirstOut prog w _) c.in-Made.is c.in_ok-nodes.ensures) in
    let last : c.as_slice-in-Made.result.now ≡ over.all = c.as_slice-in-Made.ensures ∙ sym c.as_slice.ensures ∙ values over.all over.values in
    let gives : Some c.in_ok-result-in-Made.result ≡ Some i.result
    = sym c.in_ok-result-in-Made.ensures ∙ ap (λ (vs : List Val). option_map (λ (e : Expr). eval e vs) c.args.body.now.give) last ∙ over.result in
    (out.0, out.1, same_Some c.in_ok-result-in-Made.result i.result gives)

pub returns : goal.returns
returns g c i over =
    let prog = g.V.View.prog_of c.args.view.now in
    let w = g.V.View.sight c.args.view.now in
    let name = made_name c.args.maker.now w.time in
    let ls = c.args.body.now.lines in
    let can = c.requires.body in
    let plans = plans_now prog w name c.args.given ls can c.in_ok-values.values c.as_slice.result.now c.as_slice-before.result.now c.as_slice-lines.result.now c.as_slice-lines.ensures c.in_ok-values.ensures c.as_slice.ensures c.as_slice-before.ensures in
    let same : can.all ≡ over.all = same_Some can.all over.all (sym can.values.whole ∙ over.values) in
    let nodes = plans ∙ ap (λ (vs : List Val). plans_from name vs 0 (length c.args.given) ls) same ∙ sym over.nodes in
    subst (λ (ds : List Plan). IsFirstOut prog w ds (Chain c.in-Chain.nodes c.in-Chain.chain)) nodes (subst (IsFirstOut prog w _) c.in-Chain.is c.in_ok-nodes.ensures)

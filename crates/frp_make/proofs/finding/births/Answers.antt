use Rattle.std.proofs.Common.{◌≡◌, List, map, subst}
use Rattle.std.specs.BTreeMap.{get}
use Rattle.frp_base.specs.Name.{name_cmp}
use Rattle.frp_graph.specs.declared.trace.Node.{Node}
use Rattle.frp_graph.specs.Births.{Plan}
use Rattle.frp_make.specs.declared.made.FirstOut.{FirstOut}
use Rattle.frp_make.specs.Making.{IsFirstOut}
use Rattle.frp_make.specs.Lines.{draft_of}
use Rattle.frp_make.specs.Firsts.{IsIndex}
use Rattle.frp_make.specs.Search.{state_of, AreGrown}
use Rattle.frp_make.specs.Told.{Tells}
use Rattle.frp_make.proofs.Items.{ok_follows}
use Rattle.frp_make.proofs.Steps.{starts}
use Rattle.frp_make.proofs.Outcome.{rows_inside, outcome}
use Rattle.frp_make.proofs.finding.births.Goals as goal

pub run-requires-clause-search : goal.run-requires-clause-search
run-requires-clause-search g c =
    let find = get name_cmp c.in_ok-index.index in
    let index : IsIndex c.args.drafts.items find = subst (λ (ns : List Node). IsIndex ns find) c.as_slice.ensures.value c.in_ok-index.ensures in
    starts (g.V.View.prog_of c.args.view.now) (g.V.View.sight c.args.view.now) find c.args.drafts.items (state_of c.in_ok-search.search) c.requires.drafts index c.in_ok-search.ensures

pub told-requires-clause-inside : goal.told-requires-clause-inside
told-requires-clause-inside g c =
    rows_inside (g.V.View.prog_of c.args.view.now) (g.V.View.sight c.args.view.now) c.requires.firsts (get name_cmp c.in_ok-index.index) (state_of c.run.new.self) c.in_ok-run.ensures.search

pub returns : goal.returns
returns g c =
    let prog = g.V.View.prog_of c.args.view.now in
    let w = g.V.View.sight c.args.view.now in
    let find = get name_cmp c.in_ok-index.index in
    let s = state_of c.run.new.self in
    let ends = c.in_ok-run.ensures in
    ok_follows c.told.result (Tells s) (λ (out : FirstOut). (plans : List Plan) → c.args.drafts.items ≡ map draft_of plans → IsFirstOut prog w plans out)
    (λ out t plans e. outcome prog w c.requires.firsts find s ends.search ends.done c.args.drafts.items c.requires.drafts (subst (λ (ns : List Node). AreGrown ns s.nodes) c.in_ok-search.ensures.nodes ends.grown) plans e out t)
    c.told.ensures

use Rattle.std.proofs.Common.{◌≡◌, [], List, Some, refl, sym, ap, ◌∙◌, subst}
use Rattle.frp_base.specs.declared.val.Val.{Val}
use Rattle.frp_base.specs.Name.{declared_name}
use Rattle.frp_graph.specs.declared.prog.Line3.{Line3}
use Rattle.frp_graph.specs.declared.prog.Prog.{Prog}
use Rattle.frp_graph.specs.Births.{Plan, values_from, plans_from, file_plans}
use Rattle.frp_make.specs.Making.{IsFirstOut}
use Rattle.frp_make.specs.Lines.{AreAll}
use Rattle.frp_make.specs.Bodies.{CanBeMade}
use Rattle.frp_make.proofs.Items.{ok_follows}
use Rattle.frp_make.proofs.Planned.{planned_now, plans_now}
use Rattle.frp_make.proofs.Instances.{file_can, planned}
use Rattle.frp_make.proofs.making.first_nodes.Goals as goal

pub values-requires : goal.values-requires
values-requires g c =
    let prog = g.V.View.prog_of c.args.view.now in
    let w = g.V.View.sight c.args.view.now in
    let can : CanBeMade prog w declared_name [] prog.body.lines = file_can prog w c.requires.program c.requires.time c.requires.empty in
    let lines : c.as_slice-lines.result.now ≡ prog.body.lines = c.as_slice-lines.ensures ∙ ap (λ (p : Prog). p.body.lines) c.program.ensures in
    (can.all, subst (λ (ls : List Line3). AreAll declared_name w.pre c.new.result ls can.all) (sym lines) (subst (λ (vs : List Val). AreAll declared_name w.pre vs prog.body.lines can.all) (sym c.new.ensures) can.values))

pub born-requires-clause-lines : goal.born-requires-clause-lines
born-requires-clause-lines g c =
    let prog = g.V.View.prog_of c.args.view.now in
    let w = g.V.View.sight c.args.view.now in
    let can : CanBeMade prog w declared_name [] prog.body.lines = file_can prog w c.requires.program c.requires.time c.requires.empty in
    let lines : c.as_slice-lines.result.now ≡ prog.body.lines = c.as_slice-lines.ensures ∙ ap (λ (p : Prog). p.body.lines) c.program.ensures in
    let values = subst (λ (vs : List Val). values_from declared_name w.pre 0 vs c.as_slice-lines.result.now ≡ Some c.in_ok-values.values) c.new.ensures c.in_ok-values.ensures in
    planned_now prog w declared_name [] prog.body.lines can c.in_ok-values.values c.as_slice.result.now [] c.as_slice-lines.result.now lines values c.as_slice.ensures refl

pub returns : goal.returns
returns g c =
    let prog = g.V.View.prog_of c.args.view.now in
    let w = g.V.View.sight c.args.view.now in
    let can : CanBeMade prog w declared_name [] prog.body.lines = file_can prog w c.requires.program c.requires.time c.requires.empty in
    let lines : c.as_slice-lines.result.now ≡ prog.body.lines = c.as_slice-lines.ensures ∙ ap (λ (p : Prog). p.body.lines) c.program.ensures in
    let values = subst (λ (vs : List Val). values_from declared_name w.pre 0 vs c.as_slice-lines.result.now ≡ Some c.in_ok-values.values) c.new.ensures c.in_ok-values.ensures in
    let plans : plans_from declared_name c.as_slice.result.now 0 0 c.as_slice-lines.result.now ≡ file_plans prog
    = plans_now prog w declared_name [] prog.body.lines can c.in_ok-values.values c.as_slice.result.now [] c.as_slice-lines.result.now lines values c.as_slice.ensures refl
    ∙ sym (planned prog w c.requires.program c.requires.time c.requires.empty can.all can.values.whole) in
    ok_follows c.born.result (IsFirstOut prog w (plans_from declared_name c.as_slice.result.now 0 0 c.as_slice-lines.result.now)) (IsFirstOut prog w (file_plans prog))
    (λ out h. subst (λ (ds : List Plan). IsFirstOut prog w ds out) plans h) c.born.ensures

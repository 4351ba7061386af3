use Rattle.std.proofs.Common.{◌≡◌, ℕ, ◌<◌, ◌∷◌, List, length, get_or, Option, Some, sym, ap, ◌∙◌, subst}
use Rattle.std.specs.Prelude.{slice_get, is_some}
use Rattle.std.proofs.lemmas.Option.{same_Some}
use Rattle.frp_base.specs.declared.name.Name.{Name}
use Rattle.frp_base.specs.declared.val.Val.{Val}
use Rattle.frp_base.specs.Name.{made_name}
use Rattle.frp_graph.specs.declared.prog.Prog.{Prog}
use Rattle.frp_graph.specs.declared.prog.Body.{Body}
use Rattle.frp_graph.specs.declared.trace.Node.{Node}
use Rattle.frp_graph.specs.declared.shape.Shape.TheVariants.{Execute}
use Rattle.frp_graph.specs.Births.{Instance}
use Rattle.frp_graph.specs.Roles.{Execution, execution}
use Rattle.frp_graph.proofs.Options.{index_is}
use Rattle.frp_make.specs.declared.made.MakeOut.{MakeOut}
use Rattle.frp_make.specs.Making.{instance_of, IsMakeOut}
use Rattle.frp_make.specs.Bodies.{CanBeMade, IsInstanceOver}
use Rattle.frp_make.proofs.Items.{ok_follows, get_inside}
use Rattle.frp_make.proofs.Instances.{ready_body}
use Rattle.frp_make.proofs.making.instance.Goals as goal

-- the body of a template, by its number
template_body : (templates slice : List Body) (k n : ℕ) (b body : Body) → slice ≡ templates → k ≡ n → b ≡ get_or slice k b → slice_get templates n ≡ Some body → b ≡ body
template_body templates slice k n b body e m at there = at ∙ (λ i. get_or (e i) (m i) b) ∙ index_is templates n b body there

-- the execution of the node that is found
same_execution : (o : Option Node) (x y : Node) (e : Execution) (s : Name) (k : ℕ) (kept : List Val) → Some x ≡ o → o ≡ Some y → execution y.shape ≡ Some e → x.shape ≡ Execute s k kept
    → record { source = s; template = k; kept = kept } ≡ e
same_execution o x y e s k kept found live is shape =
    let same : y ≡ x = same_Some y x (sym (found ∙ live)) in
    same_Some (record { source = s; template = k; kept = kept }) e (sym (ap execution shape) ∙ ap (λ (z : Node). execution z.shape) (sym same) ∙ is)

pub bounds-as_slice-template : goal.bounds-as_slice-template
bounds-as_slice-template g c =
    let prog = g.V.View.prog_of c.args.view.now in
    let w = g.V.View.sight c.args.view.now in
    let can = c.requires.execute in
    let ready = ready_body prog w c.requires.formed c.requires.firsts c.args.maker.now c.args.value.now can c.requires.fresh in
    let same = same_execution (w.node c.args.maker.now) c.in-Some.node.now can.node can.made c.in-Execute.s c.in-Execute.template c.in-Execute.kept c.in-Some.ensures can.live can.executes c.in-Execute.is in
    let templates : c.as_slice-in-Execute.result.now ≡ prog.templates = c.as_slice-in-Execute.ensures ∙ ap (λ (p : Prog). p.templates) c.program.ensures in
    let inside : can.made.template < length prog.templates = get_inside prog.templates can.made.template ready.body ready.is_template in
    subst (λ (bs : List Body). c.in-Execute.template < length bs) (sym templates) (subst (λ (e : Execution). e.template < length prog.templates) (sym same) inside)

pub of_template-requires-clause-body : goal.of_template-requires-clause-body
of_template-requires-clause-body g c =
    let prog = g.V.View.prog_of c.args.view.now in
    let w = g.V.View.sight c.args.view.now in
    let can = c.requires.execute in
    let ready = ready_body prog w c.requires.formed c.requires.firsts c.args.maker.now c.args.value.now can c.requires.fresh in
    let same = same_execution (w.node c.args.maker.now) c.in-Some.node.now can.node can.made c.in-Execute.s c.in-Execute.template c.in-Execute.kept c.in-Some.ensures can.live can.executes c.in-Execute.is in
    let templates : c.as_slice-in-Execute.result.now ≡ prog.templates = c.as_slice-in-Execute.ensures ∙ ap (λ (p : Prog). p.templates) c.program.ensures in
    let body = template_body prog.templates c.as_slice-in-Execute.result.now c.in-Execute.template can.made.template c.index-as_slice-template.result ready.body templates (ap (λ (e : Execution). e.template) same) c.index-as_slice-template.is ready.is_template in
    let given : c.in_ok-given-in-Execute.given ≡ c.args.value.now ∷ can.made.kept
    = c.in_ok-given-in-Execute.ensures ∙ ap (λ (vs : List Val). c.args.value.now ∷ vs) (c.as_slice.ensures ∙ ap (λ (e : Execution). e.kept) same) in
    subst (λ (b : Body). CanBeMade prog w (made_name c.args.maker.now w.time) c.in_ok-given-in-Execute.given b.lines) (sym body)
    (subst (λ (vs : List Val). CanBeMade prog w (made_name c.args.maker.now w.time) vs ready.body.lines) (sym given) ready.can_be)

pub of_template-requires-clause-gives : goal.of_template-requires-clause-gives
of_template-requires-clause-gives g c =
    let prog = g.V.View.prog_of c.args.view.now in
    let w = g.V.View.sight c.args.view.now in
    let can = c.requires.execute in
    let ready = ready_body prog w c.requires.formed c.requires.firsts c.args.maker.now c.args.value.now can c.requires.fresh in
    let same = same_execution (w.node c.args.maker.now) c.in-Some.node.now can.node can.made c.in-Execute.s c.in-Execute.template c.in-Execute.kept c.in-Some.ensures can.live can.executes c.in-Execute.is in
    let templates : c.as_slice-in-Execute.result.now ≡ prog.templates = c.as_slice-in-Execute.ensures ∙ ap (λ (p : Prog). p.templates) c.program.ensures in
    let body = template_body prog.templates c.as_slice-in-Execute.result.now c.in-Execute.template can.made.template c.index-as_slice-template.result ready.body templates (ap (λ (e : Execution). e.template) same) c.index-as_slice-template.is ready.is_template in
    ap (λ (b : Body). is_some b.give) body ∙ ready.gives

pub returns : goal.returns
returns g c =
    let prog = g.V.View.prog_of c.args.view.now in
    let w = g.V.View.sight c.args.view.now in
    let can = c.requires.execute in
    let ready = ready_body prog w c.requires.formed c.requires.firsts c.args.maker.now c.args.value.now can c.requires.fresh in
    let same = same_execution (w.node c.args.maker.now) c.in-Some.node.now can.node can.made c.in-Execute.s c.in-Execute.template c.in-Execute.kept c.in-Some.ensures can.live can.executes c.in-Execute.is in
    let templates : c.as_slice-in-Execute.result.now ≡ prog.templates = c.as_slice-in-Execute.ensures ∙ ap (λ (p : Prog). p.templates) c.program.ensures in
    let body = template_body prog.templates c.as_slice-in-Execute.result.now c.in-Execute.template can.made.template c.index-as_slice-template.result ready.body templates (ap (λ (e : Execution). e.template) same) c.index-as_slice-template.is ready.is_template in
    let given : c.in_ok-given-in-Execute.given ≡ c.args.value.now ∷ can.made.kept
    = c.in_ok-given-in-Execute.ensures ∙ ap (λ (vs : List Val). c.args.value.now ∷ vs) (c.as_slice.ensures ∙ ap (λ (e : Execution). e.kept) same) in
    let over : IsInstanceOver w c.args.maker.now c.in_ok-given-in-Execute.given c.index-as_slice-template.result ready.instance
    = subst (λ (b : Body). IsInstanceOver w c.args.maker.now c.in_ok-given-in-Execute.given b ready.instance) (sym body)
    (subst (λ (vs : List Val). IsInstanceOver w c.args.maker.now vs ready.body ready.instance) (sym given) ready.over) in
    ok_follows c.of_template.result (λ (out : MakeOut). (i : Instance) → IsInstanceOver w c.args.maker.now c.in_ok-given-in-Execute.given c.index-as_slice-template.result i → IsMakeOut prog w (Some i) out)
    (IsMakeOut prog w (instance_of prog w c.args.maker.now c.args.value.now))
    (λ out f. subst (λ (o : Option Instance). IsMakeOut prog w o out) (sym ready.is_made) (f ready.instance over))
    c.of_template.ensures

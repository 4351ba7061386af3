use Rattle.std.proofs.Common.{◌≡◌, ◌<◌, length, Some, sym, ◌∙◌, subst}
use Rattle.std.specs.Prelude.{slice_get}
use Rattle.std.specs.BTreeMap.{get}
use Rattle.frp_base.specs.Name.{name_cmp}
use Rattle.frp_graph.specs.declared.trace.Node.{Node}
use Rattle.frp_make.specs.Firsts.{awaited_in, IsReadable}
use Rattle.frp_make.specs.Search.{state_of}
use Rattle.frp_make.proofs.Items.{get_inside}
use Rattle.frp_make.proofs.Steps.{it, readable_here}
use Rattle.frp_make.proofs.search.Search.step.Goals as goal

pub awaited-requires-clause-place : goal.awaited-requires-clause-place
awaited-requires-clause-place g c =
    let i = it (g.V.View.prog_of c.args.view.now) (g.V.View.sight c.args.view.now) c.requires.firsts (get name_cmp c.args.index.now) (state_of c.args.self.now) c.args.place c.requires.search in
    subst (λ ns. c.args.place < length ns) (sym c.as_slice.ensures.value) (get_inside c.args.self.now.nodes.items c.args.place i.node i.here)

pub awaited-requires-clause-readable : goal.awaited-requires-clause-readable
awaited-requires-clause-readable g c =
    let w = g.V.View.sight c.args.view.now in
    let find = get name_cmp c.args.index.now in
    subst (λ ns. (x : Node) → slice_get ns c.args.place ≡ Some x → IsReadable w find ns x.shape) (sym c.as_slice.ensures.value)
    (readable_here (g.V.View.prog_of c.args.view.now) w c.requires.firsts find (state_of c.args.self.now) c.args.place c.requires.search)

pub wait-requires-clause-waits : goal.wait-requires-clause-waits
wait-requires-clause-waits g c =
    let w = g.V.View.sight c.args.view.now in
    let find = get name_cmp c.args.index.now in
    let i = it (g.V.View.prog_of c.args.view.now) w c.requires.firsts find (state_of c.args.self.now) c.args.place c.requires.search in
    let waits = subst (λ ns. (x : Node) → slice_get ns c.args.place ≡ Some x → c.awaited.result ≡ awaited_in w find ns x.shape) c.as_slice.ensures.value c.awaited.ensures in
    record { node = i.node; found = i.here; awaits = sym (waits i.node i.here) ∙ c.in-Some.is }

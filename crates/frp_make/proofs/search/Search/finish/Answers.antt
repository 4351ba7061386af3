use Rattle.std.proofs.Common.{◌≡◌, ◌<◌, ◌++◌, [], length, Option, Some, None, sym, ap, ◌∙◌, subst, arith}
use Rattle.std.specs.Prelude.{slice_get}
use Rattle.std.specs.BTreeMap.{get}
use Rattle.std.proofs.lemmas.List.{get_or_read}
use Rattle.frp_base.specs.declared.val.Val.{Val}
use Rattle.frp_base.specs.Name.{name_cmp}
use Rattle.frp_graph.specs.declared.trace.Node.{Node}
use Rattle.frp_graph.specs.FirstValues.{first_value}
use Rattle.frp_graph.proofs.Options.{index_is}
use Rattle.frp_order.specs.Rings.{row}
use Rattle.frp_make.specs.Making.{with_born}
use Rattle.frp_make.specs.Firsts.{IsReadable}
use Rattle.frp_make.specs.Search.{state_of}
use Rattle.frp_make.proofs.Items.{get_inside}
use Rattle.frp_make.proofs.Steps.{it, readable_here, it_inside_rows, finish_done}
use Rattle.frp_make.proofs.search.Search.finish.Goals as goal

pub first_value-requires-clause-place : goal.first_value-requires-clause-place
first_value-requires-clause-place g c =
    let i = it (g.V.View.prog_of c.args.view.now) (g.V.View.sight c.args.view.now) c.requires.firsts (get name_cmp c.args.index.now) (state_of c.args.self.now) c.args.place c.requires.search in
    subst (λ ns. c.args.place < length ns) (sym c.as_slice.ensures.value) (get_inside c.args.self.now.nodes.items c.args.place i.node i.here)

pub first_value-requires-clause-readable : goal.first_value-requires-clause-readable
first_value-requires-clause-readable g c =
    let w = g.V.View.sight c.args.view.now in
    let find = get name_cmp c.args.index.now in
    subst (λ ns. (x : Node) → slice_get ns c.args.place ≡ Some x → IsReadable w find ns x.shape) (sym c.as_slice.ensures.value)
    (readable_here (g.V.View.prog_of c.args.view.now) w c.requires.firsts find (state_of c.args.self.now) c.args.place c.requires.search)

pub index_mut-requires : goal.index_mut-requires
index_mut-requires g c =
    let i = it (g.V.View.prog_of c.args.view.now) (g.V.View.sight c.args.view.now) c.requires.firsts (get name_cmp c.args.index.now) (state_of c.args.self.now) c.args.place c.requires.search in
    let l : c.args.place < length c.args.self.now.nodes.items = get_inside c.args.self.now.nodes.items c.args.place i.node i.here in
    let k = c.args.self.now.nodes.ok.0 in
    omega arith

pub index-requires : goal.index-requires
index-requires g c =
    let l = it_inside_rows (g.V.View.prog_of c.args.view.now) (g.V.View.sight c.args.view.now) c.requires.firsts (get name_cmp c.args.index.now) (state_of c.args.self.now) c.args.place c.requires.search in
    let k = c.args.self.now.waiting.ok.0 in
    omega arith

pub index_mut-requires-2 : goal.index_mut-requires-2
index_mut-requires-2 g c =
    let l = it_inside_rows (g.V.View.prog_of c.args.view.now) (g.V.View.sight c.args.view.now) c.requires.firsts (get name_cmp c.args.index.now) (state_of c.args.self.now) c.args.place c.requires.search in
    let k = c.args.self.now.waiting.ok.0 in
    omega arith

pub returns : goal.returns
returns g c =
    let prog = g.V.View.prog_of c.args.view.now in
    let w = g.V.View.sight c.args.view.now in
    let find = get name_cmp c.args.index.now in
    let s = state_of c.args.self.now in
    let h = c.requires.search in
    let i = it prog w c.requires.firsts find s c.args.place h in
    let inside = it_inside_rows prog w c.requires.firsts find s c.args.place h in
    let values = subst (λ ns. (x : Node) → slice_get ns c.args.place ≡ Some x → c.in_ok-first.first ≡ first_value prog (with_born w ns) None x.shape) c.as_slice.ensures.value c.in_ok-first.ensures in
    let node : c.index_mut.result.now ≡ i.node = c.index_mut.ensures.value ∙ index_is s.nodes c.args.place c.index_mut.result.now i.node i.here in
    let first : Option Val = c.in_ok-first.first in
    let new : c.give.new.node ≡ record { name = i.node.name; shape = i.node.shape; ty = i.node.ty; first = first }
    = c.give.ensures ∙ ap (λ (x : Node). record { name = x.name; shape = x.shape; ty = x.ty; first = first }) node in
    let rest : c.as_slice-2.result.now ≡ row s.waiting c.args.place = c.as_slice-2.ensures ∙ get_or_read s.waiting c.args.place c.index.result.now inside c.index.ensures [] in
    let todo : c.extend_from_slice.new.self.items ≡ s.todo ++ row s.waiting c.args.place = c.in_ok-extend_from_slice.ensures.items ∙ ap (λ xs. s.todo ++ xs) rest in
    finish_done prog w c.requires.firsts find s c.args.place h first (values i.node i.here) (c.requires.ready i.node i.here) c.give.new.node new
    c.extend_from_slice.new.self.items c.new.result todo c.new.ensures

use Rattle.std.proofs.Common.{◌≤◌, length, sym, ap, ◌∙◌, arith, slice_set}
use Rattle.std.specs.Prelude.{option_and_then}
use Rattle.frp_store.specs.Undo.{set_before}
use Rattle.frp_store.specs.Closing.{held_before}
use Rattle.frp_store.proofs.Items.{updated_set, updated_past, get_past}
use Rattle.frp_store.proofs.writing.put_before.Goals as goal

pub returns-then-place-len-clause-held : goal.returns-then-place-len-clause-held
returns-then-place-len-clause-held c =
    let xs = c.args.held.now.items in
    let x = c.get_mut.result.now in
    ap (λ o. slice_set xs c.args.place (record x { before = o })) c.replace.ensures.after
    ∙ sym (updated_set c.args.place (set_before c.args.before) xs x c.get_mut.ensures.item)

pub returns-else-place-len-clause-value : goal.returns-else-place-len-clause-value
returns-else-place-len-clause-value c =
    let past : length c.args.held.now.items ≤ c.args.place = (let f = c.if-place-len.false in let n = c.len.ensures in omega arith) in
    sym (ap (option_and_then held_before) (get_past c.args.held.now.items c.args.place past))

pub returns-else-place-len-clause-held : goal.returns-else-place-len-clause-held
returns-else-place-len-clause-held c =
    let past : length c.args.held.now.items ≤ c.args.place = (let f = c.if-place-len.false in let n = c.len.ensures in omega arith) in
    sym (updated_past c.args.place (set_before c.args.before) c.args.held.now.items past)

use Rattle.std.proofs.Common.{◌<◌, ℕ, length, sym, subst, arith}
use Rattle.frp_order.specs.Rings.{IsOrder}
use Rattle.frp_order.specs.Search.{state_of}
use Rattle.frp_order.proofs.Whole.{is_order}
use Rattle.frp_order.proofs.search.sort.Goals as goal

pub returns : goal.returns
returns c =
    let s = state_of c.loop-root.search in
    let all = λ (p : ℕ) (h : p < length c.args.rows.now). c.loop-root.invariant.done p (let end = c.loop-root-test.false in omega arith) in
    subst (IsOrder c.args.rows.now) (sym c.into_order.ensures) (is_order c.args.rows.now s c.loop-root.invariant.search c.loop-root.invariant.path all)

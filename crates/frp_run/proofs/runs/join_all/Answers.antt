use Rattle.std.proofs.Common.{◌≡◌, [], take, sym, subst, arith}
use Rattle.std.proofs.lemmas.Grind.{common_steps}
use Rattle.frp_run.specs.Runs.{join_call, HaveJoined}
use Rattle.frp_run.proofs.Sending.{none_joined, joined_more, room_for_one}
use Rattle.frp_run.proofs.runs.join_all.Goals as goal

pub join-requires : goal.join-requires
join-requires c =
    room_for_one join_call c.args.core.now c.loop-node.core c.args.nodes.now c.loop-node.node-index c.loop-node-test.true c.requires c.loop-node.invariant.answered

pub loop-node-preserved : goal.loop-node-preserved
loop-node-preserved c =
    joined_more c.args.core.now c.loop-node.core c.join.new.core c.args.nodes.now c.loop-node.keys c.join.new.keys c.loop-node.node-index c.node-item.result
    c.loop-node-test.true c.node-item.is c.loop-node.invariant c.in_ok-join.ensures

pub loop-node-init : goal.loop-node-init
loop-node-init c = subst (HaveJoined c.args.core.now c.args.core.now []) (sym c.new-keys.ensures) (none_joined c.args.core.now)

pub returns : goal.returns
returns c =
    let e : take c.loop-node.node-index c.args.nodes.now ≡ c.args.nodes.now = grind (arith, common_steps) in
    subst (λ ns. HaveJoined c.args.core.now c.loop-node.core ns c.loop-node.keys) e c.loop-node.invariant

use Rattle.std.proofs.Common.{◌≡◌, ◌++◌, drop}
use Rattle.frp_file.proofs.file.copy_sends.Given as goal

abbrev pub invariant-loop-send : goal.invariant-loop-send
invariant-loop-send l = l.all ++ drop l.send-index l.sends ≡ l.fn.sends

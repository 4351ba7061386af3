use Rattle.std.proofs.Common.{◌≡◌, ◌++◌, drop}
use Rattle.frp_file.proofs.file.copy_senders.Given as goal

abbrev pub invariant-loop-sender : goal.invariant-loop-sender
invariant-loop-sender l = l.all ++ drop l.sender-index l.senders ≡ l.fn.senders

use Rattle.std.proofs.Common.{◌≡◌, drop}
use Rattle.std.specs.List.{list_all}
use Rattle.frp_type.specs.Core.{is_core_sender}
use Rattle.frp_type.proofs.core_files.are_core_senders.Given as goal

abbrev pub invariant-loop-s : goal.invariant-loop-s
invariant-loop-s l = list_all is_core_sender (drop l.s-index l.senders) ≡ list_all is_core_sender l.fn.senders

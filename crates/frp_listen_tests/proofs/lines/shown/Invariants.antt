use Rattle.frp_listen.specs.Listeners.{AreReached}
use Rattle.frp_listen_tests.proofs.lines.shown.Given as goal

abbrev pub invariant-loop-line : goal.invariant-loop-line
invariant-loop-line l = AreReached l.moments l.listeners

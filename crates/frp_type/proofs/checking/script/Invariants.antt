use Rattle.std.proofs.Common.{◌≡◌, ◌++◌, drop, map}
use Rattle.frp_type.specs.Faults.{all_sent}
use Rattle.frp_type.specs.Meaning.{sent_over}
use Rattle.frp_type.specs.States.{known_of}
use Rattle.frp_type.proofs.checking.script.Given as goal

abbrev pub invariant-loop-s : goal.invariant-loop-s
invariant-loop-s l = (all_sent (known_of l.state) (drop l.s-index l.sends) ≡ all_sent (known_of l.fn.state) l.fn.sends) × (l.facts ++ map (sent_over (known_of l.state) l.references) (drop l.s-index l.sends) ≡ map (sent_over (known_of l.fn.state) l.fn.references) l.fn.sends)

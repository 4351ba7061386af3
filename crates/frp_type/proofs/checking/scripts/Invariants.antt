use Rattle.std.proofs.Common.{◌≡◌, ◌++◌, drop, map}
use Rattle.frp_type.specs.Faults.{scripted}
use Rattle.frp_type.specs.Meaning.{sent_over}
use Rattle.frp_type.specs.States.{known_of}
use Rattle.frp_type.proofs.checking.scripts.Given as goal

abbrev pub invariant-loop-s : goal.invariant-loop-s
invariant-loop-s l = (scripted (known_of l.state) (drop l.s-index l.senders) ≡ scripted (known_of l.fn.state) l.fn.senders) × (l.scripts ++ map (λ x. map (sent_over (known_of l.state) l.references) x.sends) (drop l.s-index l.senders) ≡ map (λ x. map (sent_over (known_of l.fn.state) l.fn.references) x.sends) l.fn.senders)

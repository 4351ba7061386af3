use Rattle.std.proofs.Common.{◌≡◌, ◌++◌, drop, map}
use Rattle.frp_type.specs.Faults.{listened}
use Rattle.frp_type.specs.Meaning.{node_named}
use Rattle.frp_type.specs.States.{known_of}
use Rattle.frp_type.proofs.checking.listens.Given as goal

abbrev pub invariant-loop-l : goal.invariant-loop-l
invariant-loop-l l = (listened (known_of l.state) (drop l.l-index l.listens) ≡ listened (known_of l.fn.state) l.fn.listens) × (l.nodes ++ map (λ x. node_named (known_of l.state) x.name) (drop l.l-index l.listens) ≡ map (λ x. node_named (known_of l.fn.state) x.name) l.fn.listens)

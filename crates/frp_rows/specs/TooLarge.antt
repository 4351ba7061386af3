-- A file of more nodes than the limit, whose build is refused with nothing born:
-- (graph (sink a Int) (let h (hold 0 a))), in a room of one node
use Rattle.std.specs.Prelude.{[], ◌∷◌}
use Rattle.frp_graph.specs.declared.evidence.Evidence.{Evidence}
use Rattle.frp_graph.specs.declared.evidence.Why.TheVariants.{Full}
use Rattle.frp_graph.specs.declared.limits.Limits.{Limits}
use Rattle.frp_rows.specs.Writing.{item, moment, usual}

abbrev pub one : Limits
one = record usual { nodes = 1 }

abbrev pub evidence : Evidence
evidence = record { done = []; last = moment (0 ∷ []) []; ranks = []; level = 0; why = Full (item 1) 1 }

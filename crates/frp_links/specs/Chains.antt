-- A closed chain of a phase, or that there is none.
use Rattle.std.specs.Prelude.{◌≡◌, false, List, Option, Some, None, IsTrue, is_some}
use Rattle.frp_base.specs.declared.name.Name.{Name}
use Rattle.frp_graph.specs.declared.trace.Node.{Node}
use Rattle.frp_graph.specs.declared.evidence.Phase.{Phase}
use Rattle.frp_graph.specs.Trace.{Sight}
use Rattle.frp_graph.specs.Links.{is_linked, is_closed_chain}
use Rattle.frp_graph.specs.WellFormed.{IsWellFormed}
use Rattle.frp_graph.specs.declared.prog.Prog.{Prog}
use Rattle.frp_links.specs.References.{SwitchesRefer}

-- the live node of a name has that name
abbrev pub AreNamed : Sight → Type 0
AreNamed w = (n : Name) (x : Node) → w.node n ≡ Some x → x.name ≡ n

-- a live node has a value before exactly where it has a first value
abbrev pub HaveBefores : Sight → Type 0
HaveBefores w = (n : Name) (x : Node) → w.node n ≡ Some x → is_some (w.pre n) ≡ is_some x.first

-- in a well-formed graph names and switches are so
abbrev pub FormedGraphsRefer : Type 0
FormedGraphsRefer = (prog : Prog) (w : Sight) → IsWellFormed prog w → AreNamed w × SwitchesRefer w

abbrev pub IsChain : Sight → Phase → Option (List Name) → Type 0
IsChain w phase (Some names) = IsTrue (is_closed_chain (is_linked w phase) names)
IsChain w phase None = (names : List Name) → is_closed_chain (is_linked w phase) names ≡ false

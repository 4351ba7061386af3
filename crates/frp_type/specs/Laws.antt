-- What the definitions of the checker are worth.
use Rattle.std.specs.Prelude.{◌≡◌, IsTrue, Ok}
use Rattle.frp_file.specs.declared.file.File.{File}
use Rattle.frp_graph.specs.TypedProg.{IsTypedProg}
use Rattle.frp_type.specs.Core.{is_core}
use Rattle.frp_type.specs.Faults.{checked}
use Rattle.frp_type.specs.Known.{Known}
use Rattle.frp_type.specs.Meaning.{meaning}

-- The program of a file of core items without a fault is typed.
abbrev pub FaultlessIsTyped : Type 0
FaultlessIsTyped = (f : File) (k : Known) → IsTrue (is_core f) → checked f ≡ Ok k → IsTypedProg (meaning f).prog

-- What the expansion of a file keeps.
use Rattle.std.specs.Prelude.{◌≡◌, IsTrue}
use Rattle.frp_file.specs.declared.file.File.{File}
use Rattle.frp_sugar.specs.Derived.{is_core_file}
use Rattle.frp_sugar.specs.Expanding.{expanded}

-- no derived form is left
abbrev pub ExpandedIsCore : Type 0
ExpandedIsCore = (f : File) → IsTrue (is_core_file (expanded f))

-- a file without derived forms stands for itself
abbrev pub CoreStays : Type 0
CoreStays = (f : File) → IsTrue (is_core_file f) → expanded f ≡ f

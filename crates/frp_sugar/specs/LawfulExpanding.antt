-- What the expansion of a file keeps: the limits of its expressions, what is listened to, and the senders.
use Rattle.std.specs.Prelude.{◌≡◌, IsTrue}
use Rattle.frp_file.specs.declared.file.File.{File}
use Rattle.frp_file.specs.LawfulParts.{has_lawful_parts}
use Rattle.frp_sugar.specs.Expanding.{expanded}

-- the core file of a file with lawful expressions has lawful expressions
abbrev pub ExpandedIsLawful : Type 0
ExpandedIsLawful = (f : File) → IsTrue (has_lawful_parts f) → IsTrue (has_lawful_parts (expanded f))

-- a core file listens to what its file does
abbrev pub ListensStay : Type 0
ListensStay = (f : File) → (expanded f).listens ≡ f.listens

-- and it has the senders of its file
abbrev pub SendersStay : Type 0
SendersStay = (f : File) → (expanded f).senders ≡ f.senders

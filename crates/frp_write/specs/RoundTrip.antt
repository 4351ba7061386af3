-- A lawful file that is written is read again.
use Rattle.std.specs.Prelude.{◌≡◌, ℕ, false, List, IsTrue, Ok}
use Rattle.frp_lex.specs.declared.token.Token.{Token}
use Rattle.frp_lex.specs.Spelling.{kinds}
use Rattle.frp_lex.specs.Tokens.{tokens}
use Rattle.frp_file.specs.declared.file.File.{File}
use Rattle.frp_form.specs.declared.reading.Reading.{Reading}
use Rattle.frp_form.specs.File.{file_of}
use Rattle.frp_write.specs.Writing.{run_together, forms_of, canonical}
use Rattle.frp_write.specs.Lawful.{is_lawful_file}
use Rattle.frp_write.specs.Places.{unplaced}

-- reading that allows as many senders as a file may have
abbrev pub in_check : Reading
in_check = record { one_sender = false }

-- the tokens are read as a file that is this one, places apart
abbrev pub AreReadAs : File → List Token → Type 0
AreReadAs f ts = (end : ℕ) → (g : File) × (file_of end in_check ts ≡ Ok g) × (unplaced g ≡ unplaced f)

-- tokens of the kinds of a lawful file's forms, wherever they stand, are read as that file
abbrev pub WrittenIsRead : Type 0
WrittenIsRead = (f : File) (ts : List Token) → IsTrue (is_lawful_file f) → kinds ts ≡ run_together (forms_of f) → AreReadAs f ts

-- the canonical text of a lawful file has tokens, and they are read as that file
abbrev pub CanonicalIsRead : Type 0
CanonicalIsRead = (f : File) → IsTrue (is_lawful_file f) → (ts : List Token) × (tokens (canonical f) ≡ Ok ts) × AreReadAs f ts

-- lawful files of one canonical text are the same, places apart
abbrev pub CanonicalTells : Type 0
CanonicalTells = (f g : File) → IsTrue (is_lawful_file f) → IsTrue (is_lawful_file g) → canonical f ≡ canonical g → unplaced f ≡ unplaced g

-- what the tokens of an input are read as is lawful
abbrev pub ReadIsLawful : Type 0
ReadIsLawful = (bs : List ℕ) (ts : List Token) (end : ℕ) (how : Reading) (f : File) → tokens bs ≡ Ok ts → file_of end how ts ≡ Ok f → IsTrue (is_lawful_file f)

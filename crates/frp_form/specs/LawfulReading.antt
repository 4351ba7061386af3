-- What is known of a file that is read: its expressions are lawful where its tokens are, and it has no more of each thing than
-- its tokens or the grammar allow.
use Rattle.std.specs.Prelude.{◌≡◌, ℕ, ◌*◌, ◌≤◌, true, List, length, IsTrue, Ok}
use Rattle.std.specs.List.{AllByRecursion}
use Rattle.frp_lex.specs.declared.token.Token.{Token}
use Rattle.frp_lex.specs.Spelling.{kinds, are_lawful}
use Rattle.frp_lex.specs.Tokens.{tokens}
use Rattle.frp_file.specs.declared.file.File.{File}
use Rattle.frp_file.specs.LawfulParts.{has_lawful_parts}
use Rattle.frp_form.specs.declared.reading.Reading.{Reading}
use Rattle.frp_form.specs.File.{file_of}

-- lawful tokens are read as a file of lawful expressions
abbrev pub ReadHasLawfulParts : Type 0
ReadHasLawfulParts = (end : ℕ) (how : Reading) (ts : List Token) (f : File) → IsTrue (are_lawful (kinds ts)) → file_of end how ts ≡ Ok f → IsTrue (has_lawful_parts f)

-- each listen of a file that is read has four tokens of its own
abbrev pub ListensAreFew : Type 0
ListensAreFew = (end : ℕ) (how : Reading) (ts : List Token) (f : File) → file_of end how ts ≡ Ok f → 4 * length f.listens ≤ length ts

-- a file that is read has at most 16 senders
abbrev pub SendersAreFew : Type 0
SendersAreFew = (end : ℕ) (how : Reading) (ts : List Token) (f : File) → file_of end how ts ≡ Ok f → length f.senders ≤ 16

-- and at most one where no more are allowed
abbrev pub OneSenderIsRead : Type 0
OneSenderIsRead = (end : ℕ) (how : Reading) (ts : List Token) (f : File) → how.one_sender ≡ true → file_of end how ts ≡ Ok f → length f.senders ≤ 1

-- each of them has at most 4,096 sends
abbrev pub SendsAreFew : Type 0
SendsAreFew = (end : ℕ) (how : Reading) (ts : List Token) (f : File) → file_of end how ts ≡ Ok f → AllByRecursion (λ s. length s.sends ≤ 4096) f.senders

-- an input has no more tokens than bytes
abbrev pub TokensAreFew : Type 0
TokensAreFew = (bs : List ℕ) (ts : List Token) → tokens bs ≡ Ok ts → length ts ≤ length bs

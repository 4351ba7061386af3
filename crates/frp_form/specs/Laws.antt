-- What is read is of the grammar, and what is of the grammar is read.
use Rattle.std.specs.Prelude.{◌≡◌, ℕ, List, Ok}
use Rattle.frp_lex.specs.declared.token.Token.{Token}
use Rattle.frp_file.specs.declared.file.File.{File}
use Rattle.frp_form.specs.declared.reading.Reading.{Reading}
use Rattle.frp_form.specs.File.{file_of}
use Rattle.frp_form.specs.Grammar.{IsFile}

-- tokens that are read are the file that they are read as
abbrev pub ReadIsGrammar : Type 0
ReadIsGrammar = (end : ℕ) (how : Reading) (ts : List Token) (f : File) → file_of end how ts ≡ Ok f → IsFile how f ts

-- tokens that are a file are read as that file
abbrev pub GrammarIsRead : Type 0
GrammarIsRead = (end : ℕ) (how : Reading) (ts : List Token) (f : File) → IsFile how f ts → file_of end how ts ≡ Ok f

-- The lines that the program writes where it writes no output, and the table of names.
use Rattle.std.specs.Prelude.{ℕ, List, [], ◌∷◌, ◌++◌, codes}
use Rattle.std.specs.Fmt.{decimal}
use Rattle.frp_base.specs.Name.{name_text}
use Rattle.frp_base.specs.Ty.{ty_text}
use Rattle.frp_lex.specs.declared.fault.LexKind.{LexKind}
use Rattle.frp_lex.specs.declared.fault.LexKind.TheVariants as lex
use Rattle.frp_form.specs.declared.fault.FormKind.{FormKind}
use Rattle.frp_form.specs.declared.fault.FormKind.TheVariants as form
use Rattle.frp_write.specs.Writing.{canonical}
use Rattle.frp_expr.specs.declared.fault.TypeKind.{TypeKind}
use Rattle.frp_expr.specs.declared.fault.TypeKind.TheVariants as type
use Rattle.frp_file.specs.declared.file.File.{File}
use Rattle.frp_type.specs.declared.typed.Label.{Label}
use Rattle.frp_run.specs.declared.refused.Fault.{Fault}
use Rattle.frp_run.specs.declared.refused.Fault.TheVariants as f

-- the words of the kinds of faults

abbrev pub lex_word : LexKind → List ℕ
lex_word lex.Byte = codes "byte"
lex_word lex.Unclosed = codes "unclosed"
lex_word lex.LongText = codes "long-text"
lex_word lex.Number = codes "number"
lex_word lex.Name = codes "name"
lex_word lex.LongName = codes "long-name"

abbrev pub form_word : FormKind → List ℕ
form_word form.End = codes "end"
form_word form.Deep = codes "deep"
form_word form.Many = codes "many"
form_word form.Senders = codes "senders"
form_word form.Expected = codes "expected"

abbrev pub type_word : TypeKind → List ℕ
type_word type.Unknown = codes "unknown"
type_word type.Twice = codes "twice"
type_word type.Arity = codes "arity"
type_word type.Templates = codes "templates"
type_word type.Sample = codes "sample"
type_word type.Tied = codes "tied"
type_word type.Type = codes "type"
type_word type.Untied = codes "untied"

-- the place and the kind of a fault
abbrev pub place_and_kind : ℕ → List ℕ → List ℕ
place_and_kind place word = codes "refused text " ++ decimal place ++ codes " " ++ word ++ codes "\n"

abbrev pub fault_line : Fault → List ℕ
fault_line (f.Token x) = place_and_kind x.place (lex_word x.kind)
fault_line (f.Form x) = place_and_kind x.place (form_word x.kind)
fault_line (f.Type x) = place_and_kind x.place (type_word x.kind)

-- the table of the declared nodes: the name of each, its name in the file or its hidden name, and its type

abbrev pub label_line : Label → List ℕ
label_line l = codes "; " ++ name_text l.name ++ codes " " ++ l.text ++ codes " " ++ ty_text l.ty ++ codes "\n"

abbrev pub table : List Label → List ℕ
table [] = []
table (l ∷ ls) = label_line l ++ table ls

-- the canonical text of a file, and its table
abbrev pub file_and_table : File → List Label → List ℕ
file_and_table file labels = canonical file ++ table labels

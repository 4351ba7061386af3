-- What a text means, by three passes: its tokens, the file that these are, and what the file means. The first fault of the
-- earliest pass stops it. Before the third pass, a file that cannot be run yet is refused as unbuilt.
use Rattle.std.specs.Prelude.{ℕ, Bool, true, false, List, length, Result, Ok, Err, if◌then◌else◌}
use Rattle.std.specs.List.{list_all}
use Rattle.frp_lex.specs.Tokens.{tokens}
use Rattle.frp_file.specs.declared.file.File.{File}
use Rattle.frp_file.specs.declared.file.Decl.{Decl}
use Rattle.frp_file.specs.declared.file.Decl.TheVariants as d
use Rattle.frp_file.specs.declared.file.ItemForm.{ItemForm}
use Rattle.frp_file.specs.declared.file.ItemForm.TheVariants.{Sink, Let}
use Rattle.frp_file.specs.declared.file.ShapeForm.{ShapeForm}
use Rattle.frp_file.specs.declared.file.ShapeForm.TheVariants.{Never, Map, Filter, Hold}
use Rattle.frp_form.specs.declared.reading.Reading.{Reading}
use Rattle.frp_form.specs.File.{file_of}
use Rattle.frp_sugar.specs.Expanding.{expanded}
use Rattle.frp_type.specs.Faults.{checked}
use Rattle.frp_type.specs.Meaning.{meaning}
use Rattle.frp_type.specs.declared.typed.Typed.{Typed}
use Rattle.frp_run.specs.declared.modes.Mode.{Mode}
use Rattle.frp_run.specs.declared.modes.Mode.TheVariants.{Replay, Check}
use Rattle.frp_run.specs.declared.refused.Fault.{Fault}
use Rattle.frp_run.specs.declared.refused.Fault.TheVariants as f
use Rattle.frp_run.specs.declared.refused.Refused.{Refused}
use Rattle.frp_run.specs.declared.refused.Refused.TheVariants as r
use Rattle.frp_run.specs.declared.understood.Understood.{Understood}

-- what a pass comes to, or why the text is refused
abbrev pub TextOutcome : Type 0 → Type 0
TextOutcome A = Result A Refused

infixl 10 ◌>>=◌
abbrev pub ◌>>=◌ : {A B : Type 0} → TextOutcome A → (A → TextOutcome B) → TextOutcome B
(Ok x) >>= g = g x
(Err e) >>= g = Err e

-- a pass, whose first fault is one of the text
abbrev pub with_fault : {A E : Type 0} → (E → Fault) → Result A E → TextOutcome A
with_fault fault (Ok x) = Ok x
with_fault fault (Err e) = Err (r.Fault (fault e))

-- a replay has one sender at most
abbrev pub reading : Mode → Reading
reading Replay = record { one_sender = true }
reading Check = record { one_sender = false }

-- the first two passes: the file of a text
abbrev pub file_in : Mode → List ℕ → TextOutcome File
file_in mode bytes = with_fault f.Token (tokens bytes) >>= λ ts. with_fault f.Form (file_of (length bytes) (reading mode) ts)

-- Whether core items can be run yet: sinks and these four shapes, with functions, and no template.

abbrev pub is_built_form : ShapeForm → Bool
is_built_form (Never ty) = true
is_built_form (Map x s e) = true
is_built_form (Filter x s e) = true
is_built_form (Hold o s) = true
is_built_form _ = false

abbrev pub is_built_item : ItemForm → Bool
is_built_item (Sink n ty) = true
is_built_item (Let n shape) = is_built_form shape.form
is_built_item _ = false

abbrev pub is_built_decl : Decl → Bool
is_built_decl (d.Function x) = true
is_built_decl (d.Item i) = is_built_item i.form
is_built_decl (d.Template x) = false

abbrev pub is_built_file : File → Bool
is_built_file file = list_all is_built_decl file.graph.decls

-- the third pass: what a file of core items means
abbrev pub typed_file : File → TextOutcome Typed
typed_file core = if is_built_file core then (with_fault f.Type (checked core) >>= λ known. Ok (meaning core)) else Err r.Unbuilt

-- the file of a text, and what it means once its derived forms are replaced
abbrev pub understood : Mode → List ℕ → TextOutcome Understood
understood mode bytes = file_in mode bytes >>= λ file. typed_file (expanded file) >>= λ typed. Ok (record { file = file; typed = typed })

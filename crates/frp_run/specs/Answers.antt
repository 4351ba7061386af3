-- What the program answers: a status, and what it writes.
use Rattle.std.specs.Prelude.{◌≡◌, ◌<◌, ◌≤◌, ◌^◌, ◌==◌, take, ℕ, List, [], ◌∷◌, Option, Some, None, Ok, Err, IsTrue, IsSome, codes, length, if◌then◌else◌, ⊤}
use Rattle.std.specs.Str.{bytes_eq}
use Rattle.frp_io.specs.Outside.{Rose, Took, Gave}
use Rattle.frp_file.specs.declared.file.File.{File}
use Rattle.frp_graph.specs.declared.prog.Prog.{Prog}
use Rattle.frp_graph.specs.declared.trace.Moment.{Moment}
use Rattle.frp_graph.specs.declared.evidence.Evidence.{Evidence}
use Rattle.frp_history.specs.declared.history.Entry.{Entry}
use Rattle.frp_graph.specs.Births.{size_of}
use Rattle.frp_graph.specs.Limits.{program_limits}
use Rattle.frp_graph.specs.TypedProg.{IsTypedProg}
use Rattle.frp_history.specs.Legal.{IsLegal, is_full, IsRefusedBuild}
use Rattle.frp_history.specs.Sessions.{IsSession}
use Rattle.frp_report.specs.Report.{report_text}
use Rattle.frp_type.specs.declared.typed.Typed.{Typed}
use Rattle.frp_run.specs.Runs.{script_cmds}
use Rattle.frp_run.specs.Texts.{understood}
use Rattle.frp_run.specs.Lines.{fault_line, file_and_table}
use Rattle.frp_run.specs.declared.modes.Mode.{Mode}
use Rattle.frp_run.specs.declared.modes.Mode.TheVariants.{Replay, Check}
use Rattle.frp_run.specs.declared.refused.Fault.{Fault}
use Rattle.frp_run.specs.declared.refused.Refused.TheVariants as why
use Rattle.frp_run.specs.declared.understood.Understood.{Understood}
use Rattle.frp_run.specs.declared.answer.Refusal.{Refusal}
use Rattle.frp_run.specs.declared.answer.Refusal.TheVariants as r
use Rattle.frp_run.specs.declared.answer.Answer.{Answer}
use Rattle.frp_run.specs.declared.answer.Answer.TheVariants as a

-- the mode that the words ask for: they are one word
abbrev pub mode_word : List ℕ → Option Mode
mode_word w = if bytes_eq w (codes "replay") then Some Replay else if bytes_eq w (codes "check") then Some Check else None

abbrev pub mode_of : List (List ℕ) → Option Mode
mode_of (w ∷ []) = mode_word w
mode_of _ = None

-- The text is the report of a session of what was understood: the program is typed, and history and trace are legal together,
-- within the limits of the program.
pub record IsReportOf (t : Typed) (text : List ℕ) : Type 0 where
  pub entries : List Entry
  pub trace : List Moment
  pub is_typed : IsTypedProg t.prog
  pub is_session : IsSession t.listens (script_cmds t.scripts) entries
  pub is_legal : IsLegal t.prog program_limits entries trace
  pub is_report : text ≡ report_text entries trace

-- The text is the canonical text of the file with the table of its names; the program is typed, and has a trace that is legal
-- with the empty history.
pub record IsCheckOf (file : File) (t : Typed) (text : List ℕ) : Type 0 where
  pub trace : List Moment
  pub is_typed : IsTypedProg t.prog
  pub is_legal : IsLegal t.prog program_limits [] trace
  pub is_text : text ≡ file_and_table file t.labels

-- the text is what a mode writes of what was understood
abbrev pub IsOutputOf : Mode → Understood → List ℕ → Type 0
IsOutputOf Replay u text = IsReportOf u.typed text
IsOutputOf Check u text = IsCheckOf u.file u.typed text

-- a file has more nodes than the limit, and its build has true evidence of that
pub record IsTooLargeProg (prog : Prog) : Type 0 where
  pub too_large : program_limits.nodes < size_of prog.body.lines
  pub evidence : Evidence
  pub of_kind : IsTrue (is_full evidence.why)
  pub is_refused : IsRefusedBuild prog program_limits evidence

-- where the source tells its bytes, they were read to their end, are at most 1,048,576, and this holds of them
abbrev pub IfRead : Option (List ℕ) → Option (List ℕ) → (List ℕ → Type 0) → Type 0
IfRead None rest P = ⊤
IfRead (Some bytes) rest P = (rest ≡ Some []) × (length bytes ≤ 2 ^ 20) × P bytes

-- the source gave more bytes than this
pub record GaveMore (most : ℕ) (before after : Option (List ℕ)) : Type 0 where
  pub bytes : List ℕ
  pub taken : Took before after bytes
  pub more : most < length bytes

-- a mode is asked for, and where the source tells its bytes, this holds of the mode and them
abbrev pub HasRead : Option Mode → Option (List ℕ) → Option (List ℕ) → (Mode → List ℕ → Type 0) → Type 0
HasRead None before after P = ⊥
HasRead (Some mode) before after P = IfRead before after (P mode)

-- the status of a refusal, and its line
abbrev pub refusal_status : Refusal → ℕ
refusal_status r.Unbuilt = 1
refusal_status r.Usage = 2
refusal_status r.Read = 3
refusal_status r.Memory = 5
refusal_status r.Full = 6
refusal_status r.Size = 7

abbrev pub refusal_line : Refusal → List ℕ
refusal_line r.Unbuilt = codes "refused unbuilt\n"
refusal_line r.Usage = codes "refused usage\n"
refusal_line r.Read = codes "refused read\n"
refusal_line r.Memory = codes "refused memory\n"
refusal_line r.Full = codes "refused build 5\n"
refusal_line r.Size = codes "refused size\n"

abbrev pub status_of : Answer → ℕ
status_of (a.Output text) = 0
status_of (a.Faulty fault line) = 1
status_of (a.Refused refusal) = refusal_status refusal

abbrev pub answer_text : Answer → List ℕ
answer_text (a.Output text) = text
answer_text (a.Faulty fault line) = line
answer_text (a.Refused refusal) = refusal_line refusal

-- What is answered to an input that was read, in a mode.

abbrev pub IsOutput : List ℕ → Mode → List ℕ → Type 0
IsOutput text mode bytes = (u : Understood) × ((understood mode bytes ≡ Ok u) × (IsOutputOf mode u text))

abbrev pub IsFaultyText : Fault → Mode → List ℕ → Type 0
IsFaultyText fault mode bytes = understood mode bytes ≡ Err (why.Fault fault)

abbrev pub IsUnbuiltText : Mode → List ℕ → Type 0
IsUnbuiltText mode bytes = understood mode bytes ≡ Err why.Unbuilt

abbrev pub IsTooLargeText : Mode → List ℕ → Type 0
IsTooLargeText mode bytes = (u : Understood) × ((understood mode bytes ≡ Ok u) × (IsTooLargeProg u.typed.prog))

-- Want of memory is a free answer; usage, a source's failure and its size are answered before.
abbrev pub IsAnswerOf : Answer → Mode → List ℕ → Type 0
IsAnswerOf (a.Output text) mode bytes = IsOutput text mode bytes
IsAnswerOf (a.Faulty fault line) mode bytes = (line ≡ fault_line fault) × (IsFaultyText fault mode bytes)
IsAnswerOf (a.Refused r.Unbuilt) mode bytes = IsUnbuiltText mode bytes
IsAnswerOf (a.Refused r.Full) mode bytes = IsTooLargeText mode bytes
IsAnswerOf (a.Refused r.Memory) mode bytes = ⊤
IsAnswerOf (a.Refused _) mode bytes = ⊥

-- the line of a fault, and what a mode writes of what was understood, or want of memory
abbrev pub IsFaultyAs : Fault → Answer → Type 0
IsFaultyAs fault (a.Faulty found line) = (found ≡ fault) × (line ≡ fault_line fault)
IsFaultyAs fault (a.Refused r.Memory) = ⊤
IsFaultyAs fault _ = ⊥

abbrev pub IsOutputIn : Mode → Understood → Answer → Type 0
IsOutputIn mode u (a.Output text) = IsOutputOf mode u text
IsOutputIn mode u (a.Refused r.Full) = IsTooLargeProg u.typed.prog
IsOutputIn mode u (a.Refused r.Memory) = ⊤
IsOutputIn mode u _ = ⊥

-- What is answered where this mode is asked for: of what the source had left before and has left now, and of its counts of
-- faults.
abbrev pub IsAnswerTo : Option Mode → Option (List ℕ) → Option (List ℕ) → ℕ → ℕ → Answer → Type 0
IsAnswerTo asked before after faults now (a.Refused r.Usage) = (asked ≡ None) × (after ≡ before)
IsAnswerTo asked before after faults now (a.Refused r.Read) = (IsSome asked) × (Rose faults now)
IsAnswerTo asked before after faults now (a.Refused r.Size) = (IsSome asked) × (GaveMore (2 ^ 20) before after)
IsAnswerTo asked before after faults now (a.Refused r.Memory) = IsSome asked
IsAnswerTo asked before after faults now (a.Faulty fault line) = (line ≡ fault_line fault) × (HasRead asked before after (IsFaultyText fault))
IsAnswerTo asked before after faults now answer = HasRead asked before after (IsAnswerOf answer)

-- the line of a status that has one line
abbrev pub line_of : ℕ → Option (List ℕ)
line_of status =
    if status == 2 then Some (codes "refused usage\n")
    else if status == 3 then Some (codes "refused read\n")
    else if status == 5 then Some (codes "refused memory\n")
    else if status == 6 then Some (codes "refused build 5\n")
    else if status == 7 then Some (codes "refused size\n")
    else None

-- Status 1: the line of the input's first fault was written, or that of a file that cannot be run yet.
pub record IsRefusedAs (fault : Fault) (asked : Option Mode) (rest left held holds : Option (List ℕ)) : Type 0 where
  pub cause : HasRead asked rest left (IsFaultyText fault)
  pub line : Gave held holds (fault_line fault)

pub record IsRefusedUnbuilt (asked : Option Mode) (rest left held holds : Option (List ℕ)) : Type 0 where
  pub cause : HasRead asked rest left IsUnbuiltText
  pub line : Gave held holds (codes "refused unbuilt\n")

-- The source has a text that has a program, within the size, with no more nodes than the limit.
pub record HasProgram (mode : Mode) (before : Option (List ℕ)) : Type 0 where
  pub bytes : List ℕ
  pub source : Understood
  pub told : before ≡ Some bytes
  pub means : understood mode bytes ≡ Ok source
  pub is_small : length bytes ≤ 2 ^ 20
  pub few_nodes : size_of source.typed.prog.body.lines ≤ program_limits.nodes

-- what the sink holds more is the first of this text
pub record GavePart (before after : Option (List ℕ)) (text : List ℕ) : Type 0 where
  pub count : ℕ
  pub within : count ≤ length text
  pub given : Gave before after (take count text)

-- what the sink holds more is the first of what was to be written
pub record AnswersPart (asked : Option Mode) (rest left : Option (List ℕ)) (faults now : ℕ) (before after : Option (List ℕ)) : Type 0 where
  pub answer : Answer
  pub is_answer : IsAnswerTo asked rest left faults now answer
  pub part : GavePart before after (answer_text answer)

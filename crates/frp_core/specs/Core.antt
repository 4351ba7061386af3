-- A core: its program, its history and its trace, which are legal together.
use Rattle.std.specs.Prelude.{◌≡◌, ◌+◌, ◌<◌, List, [], ◌∷◌, ◌++◌, false, Option, Some, None, length, map, slice_get, IsTrue, IsSomeAnd, refl, ⊤}
use Rattle.std.specs.List.{AllByRecursion}
use Rattle.std.specs.Coded.{Coded, code_by, coded×, coded_list}
use Rattle.frp_base.specs.declared.time.Time.{Time}
use Rattle.frp_graph.specs.declared.prog.Prog.{Prog}
use Rattle.frp_graph.specs.declared.trace.Moment.{Moment}
use Rattle.frp_history.specs.declared.history.Key.{Key}
use Rattle.frp_history.specs.declared.history.Cmd.{Cmd}
use Rattle.frp_history.specs.declared.history.Cmd.TheVariants.{Send, Group, Join, Take, Leave}
use Rattle.frp_history.specs.declared.history.No.TheVariants.{UnknownNode}
use Rattle.frp_history.specs.declared.history.Reply.{Reply}
use Rattle.frp_history.specs.declared.history.Reply.TheVariants.{Accepted, Refused, Joined, Given, Left}
use Rattle.frp_history.specs.declared.history.Entry.{Entry}
use Rattle.frp_graph.specs.Trace.{live}
use Rattle.frp_graph.specs.Births.{build}
use Rattle.frp_history.specs.History.{is_accepted, accepted_sends, sends_of}
use Rattle.frp_history.specs.Legal.{IsReply, IsLegal}
use Rattle.frp_history.specs.Sessions.{Call}
use Rattle.frp_graph.specs.TypedProg.{IsTypedProg}
use Rattle.frp_graph.specs.Limits.{program_limits}
use Rattle.frp_core.specs.Small.{is_built, AreSmallFrom}
use Rattle.frp_core.specs.Nodes.{line_nodes}

-- a program, the history of the commands to it, and its trace
pub record State : Type 0 where
  pub prog : Prog
  pub entries : List Entry
  pub trace : List Moment

-- a state is stored as its parts
abbrev pub state_code : Coded Prog → Coded Entry → Coded Moment → Coded State
state_code prog entry moment =
    code_by (Prog × (List Entry × List Moment)) (coded× prog (coded× (coded_list entry) (coded_list moment))) (λ c. (c.prog, (c.entries, c.trace)))
    (λ p. record { prog = p.0; entries = p.1.0; trace = p.1.1 }) (λ _. refl)

-- the build, and the place of each accepted send
abbrev pub times_of : List Entry → List Time
times_of entries = build ∷ map (λ s. s.place ∷ []) (sends_of entries)

-- no command is a group
abbrev pub IsSingle : Cmd → Type 0
IsSingle (Send sink value) = ⊤
IsSingle (Group sends) = ⊥
IsSingle (Join node) = ⊤
IsSingle (Take key max) = ⊤
IsSingle (Leave key) = ⊤

-- a listener's slot is its place, and no listener takes
abbrev pub IsPlain : Reply → Type 0
IsPlain (Accepted moments) = ⊤
IsPlain (Refused refusal) = ⊤
IsPlain (Joined key) = key.slot ≡ key.place
IsPlain (Given items) = ⊥
IsPlain (Left items) = ⊤

abbrev pub IsPlainEntry : Entry → Type 0
IsPlainEntry e = IsSingle e.cmd × IsPlain e.reply

-- The program is typed and built, and its nodes are those of its file, in order; history and trace are legal together.
pub record IsCore (c : State) : Type 0 where
  pub typed : IsTypedProg c.prog
  pub built : IsTrue (is_built c.prog)
  pub nodes : live c.trace ≡ line_nodes [] c.prog.body.lines
  pub small : AreSmallFrom 0 (live c.trace)
  pub begun : IsSomeAnd (slice_get c.trace 0) (λ m. m.born ≡ live c.trace)
  pub times : map (λ m. m.time) c.trace ≡ times_of c.entries
  pub legal : IsLegal c.prog program_limits c.entries c.trace
  pub plain : AllByRecursion IsPlainEntry c.entries

-- the history is not full
abbrev pub HasRoom : State → Type 0
HasRoom c = length c.entries < program_limits.entries

-- with an entry more, and with an entry and a moment more
abbrev pub with_entry : State → Entry → State
with_entry c e = record { prog = c.prog; entries = c.entries ++ e ∷ []; trace = c.trace }

abbrev pub with_moment : State → Entry → Moment → State
with_moment c e m = record { prog = c.prog; entries = c.entries ++ e ∷ []; trace = c.trace ++ m ∷ [] }

-- The entry sends nothing, is plain, and its reply is as it must be after those before it.
pub record IsQuiet (c : State) (e : Entry) : Type 0 where
  pub unsent : accepted_sends (length c.entries + 1) e.cmd e.reply ≡ []
  pub plain : IsPlainEntry e
  pub reply : IsReply c.prog program_limits c.trace [] c.entries (length c.entries + 1) e.caller e.cmd e.reply

-- the reply to a join: the key of the listener, or that there is no such node
abbrev pub join_reply : Option Key → Reply
join_reply (Some key) = Joined key
join_reply None = Refused UnknownNode

-- the entry of a call with a reply
abbrev pub entry_of : Call → Reply → Entry
entry_of call reply = record { caller = call.caller; cmd = call.cmd; reply = reply }

-- An entry of this call was added, with some reply. The trace of before is the beginning of the new one, and is all of it
-- unless a send was accepted.
pub record HasAnswered (old new : State) (call : Call) : Type 0 where
  pub reply : Reply
  pub entries : new.entries ≡ old.entries ++ entry_of call reply ∷ []
  pub moments : List Moment
  pub trace : new.trace ≡ old.trace ++ moments
  pub quiet : is_accepted reply ≡ false → moments ≡ []

-- What the parts of a run add to a core: entries of calls, with their replies.
use Rattle.std.specs.Prelude.{◌≡◌, ◌+◌, ◌≤◌, ℕ, List, [], ◌∷◌, ◌++◌, length, map, IsTrue}
use Rattle.frp_base.specs.declared.name.Name.{Name}
use Rattle.frp_graph.specs.declared.trace.Fact.{Fact}
use Rattle.frp_history.specs.declared.history.Key.{Key}
use Rattle.frp_history.specs.declared.history.Cmd.{Cmd}
use Rattle.frp_history.specs.declared.history.Cmd.TheVariants.{Send, Join, Leave}
use Rattle.frp_history.specs.declared.history.Reply.{Reply}
use Rattle.frp_history.specs.declared.history.Entry.{Entry}
use Rattle.frp_history.specs.Sessions.{Call, calls, key_of, keys_of}
use Rattle.frp_graph.specs.Limits.{program_limits}
use Rattle.frp_core.specs.Core.{State, entry_of}
use Rattle.frp_core.specs.Small.{is_built}
use Rattle.frp_graph.specs.TypedProg.{IsTypedProg}
use Rattle.frp_type.specs.declared.typed.Typed.{Typed}
use Rattle.frp_run.specs.declared.modes.Mode.{Mode}
use Rattle.frp_run.specs.declared.modes.Mode.TheVariants.{Replay}
use Rattle.frp_run.specs.declared.understood.Understood.{Understood}

-- the commands of scripts of sends
abbrev pub send_cmd : Fact → Cmd
send_cmd f = Send f.node f.value

abbrev pub script_cmds : List (List Fact) → List (List Cmd)
script_cmds = map (map send_cmd)

-- what the first script sends, where there is one
abbrev pub first_script : List (List Fact) → List Fact
first_script [] = []
first_script (facts ∷ more) = facts

-- the joins of nodes by caller 0, the sends of facts by caller 1, and the leaves of keys by caller 0
abbrev pub join_call : Name → Call
join_call n = record { caller = 0; cmd = Join n }

abbrev pub send_call : Fact → Call
send_call f = record { caller = 1; cmd = send_cmd f }

abbrev pub leave_call : Key → Call
leave_call k = record { caller = 0; cmd = Leave k }

-- the history of a core may have so many entries more
abbrev pub HasRoomFor : ℕ → State → Type 0
HasRoomFor n c = length c.entries + n ≤ program_limits.entries

-- a join of this node was added to a core, and its key, where one was given, to these keys
pub record HasJoined (old new : State) (node : Name) (keys more : List Key) : Type 0 where
  pub reply : Reply
  pub entries : new.entries ≡ old.entries ++ entry_of (join_call node) reply ∷ []
  pub given : more ≡ keys ++ key_of reply
  pub program_stays : new.prog ≡ old.prog

-- entries of these calls were added to a core
pub record HaveAnswered (old new : State) (made : List Call) : Type 0 where
  pub more : List Entry
  pub entries : new.entries ≡ old.entries ++ more
  pub called : calls more ≡ made
  pub program_stays : new.prog ≡ old.prog

-- joins of these nodes were, and they were given these keys
pub record HaveJoined (old new : State) (nodes : List Name) (keys : List Key) : Type 0 where
  pub answered : HaveAnswered old new (map join_call nodes)
  pub given : keys_of answered.more ≡ keys

-- What is known of a file that was understood: its program is typed and built, in a replay it has one script at most, and the
-- calls of its session fit into a history.
pub record IsRunnableAs (mode : Mode) (t : Typed) : Type 0 where
  pub typed : IsTypedProg t.prog
  pub built : IsTrue (is_built t.prog)
  pub one_script : mode ≡ Replay → length t.scripts ≤ 1
  pub room : length t.listens + length (first_script t.scripts) + length t.listens ≤ program_limits.entries

abbrev pub IsRunnable : Mode → Understood → Type 0
IsRunnable mode u = IsRunnableAs mode u.typed

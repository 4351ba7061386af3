-- Histories: their places, and the sends that they accepted.
use Rattle.std.specs.Prelude.{ℕ, ◌+◌, zero, suc, Bool, true, false, List, [], ◌∷◌, ◌++◌, Option, None, slice_get, if◌then◌else◌}
use Rattle.frp_graph.specs.declared.trace.Fact.{Fact}
use Rattle.frp_graph.specs.declared.trace.Sent.{Sent}
use Rattle.frp_history.specs.declared.history.Cmd.{Cmd}
use Rattle.frp_history.specs.declared.history.Cmd.TheVariants.{Send, Group, Join, Take, Leave}
use Rattle.frp_history.specs.declared.history.Reply.{Reply}
use Rattle.frp_history.specs.declared.history.Reply.TheVariants.{Accepted, Refused, Joined, Given, Left}
use Rattle.frp_history.specs.declared.history.Entry.{Entry}

-- the entry at a place: the first has place 1
abbrev pub entry_at : List Entry → ℕ → Option Entry
entry_at entries zero = None
entry_at entries (suc k) = slice_get entries k

-- what a command sends, in order: a send is a group of one
abbrev pub sent_by : Cmd → List Fact
sent_by (Send sink value) = record { node = sink; value = value } ∷ []
sent_by (Group sends) = sends
sent_by (Join node) = []
sent_by (Take key max) = []
sent_by (Leave key) = []

abbrev pub is_accepted : Reply → Bool
is_accepted (Accepted moments) = true
is_accepted (Refused refusal) = false
is_accepted (Joined key) = false
is_accepted (Given items) = false
is_accepted (Left items) = false

-- the sends of a group at place k, of which the first has number i
abbrev pub sends_at : ℕ → ℕ → List Fact → List Sent
sends_at k i [] = []
sends_at k i (f ∷ fs) = record { place = k; part = i; sink = f.node; value = f.value } ∷ sends_at k (i + 1) fs

-- the accepted sends that a command at place k with this reply is
abbrev pub accepted_sends : ℕ → Cmd → Reply → List Sent
accepted_sends k cmd reply = if is_accepted reply then sends_at k 0 (sent_by cmd) else []

-- those of entries of which the first has place k
abbrev pub sends_from : ℕ → List Entry → List Sent
sends_from k [] = []
sends_from k (e ∷ es) = accepted_sends k e.cmd e.reply ++ sends_from (k + 1) es

-- the accepted sends of a history
abbrev pub sends_of : List Entry → List Sent
sends_of entries = sends_from 1 entries

-- The text of a report: the entries of a history by place, each with its reply, and then the moments of a trace, each with
-- its born nodes and its facts. A line ends with a line feed.
use Rattle.std.specs.Prelude.{ℕ, ◌+◌, List, [], ◌∷◌, ◌++◌, Option, Some, None, codes, length}
use Rattle.std.specs.Fmt.{decimal}
use Rattle.frp_base.specs.declared.name.Name.{Name}
use Rattle.frp_base.specs.declared.val.Val.{Val}
use Rattle.frp_base.specs.Time.{time_text}
use Rattle.frp_base.specs.Name.{name_text}
use Rattle.frp_base.specs.Val.{val_text}
use Rattle.frp_graph.specs.declared.shape.Shape.{Shape}
use Rattle.frp_graph.specs.declared.shape.Shape.TheVariants.{Sink, Never, Constant, Map, Filter, Filteropt, Merge, Snapshot, Split, Updates, Value, Loop, Hold, Mapc, Apply, Switchs, Switchc, Execute}
use Rattle.frp_graph.specs.declared.trace.Node.{Node}
use Rattle.frp_graph.specs.declared.trace.Fact.{Fact}
use Rattle.frp_graph.specs.declared.trace.Moment.{Moment}
use Rattle.frp_graph.specs.declared.evidence.Phase.{Phase}
use Rattle.frp_graph.specs.declared.evidence.Phase.TheVariants.{Birth, During, After}
use Rattle.frp_graph.specs.declared.evidence.Why.{Why}
use Rattle.frp_graph.specs.declared.evidence.Why.TheVariants.{Chain, Endless, Full}
use Rattle.frp_history.specs.declared.history.Delivered.{Delivered}
use Rattle.frp_history.specs.declared.history.Cmd.{Cmd}
use Rattle.frp_history.specs.declared.history.Cmd.TheVariants.{Send, Group, Join, Take, Leave}
use Rattle.frp_history.specs.declared.history.No.{No}
use Rattle.frp_history.specs.declared.history.No.TheVariants as no
use Rattle.frp_history.specs.declared.history.Reply.{Reply}
use Rattle.frp_history.specs.declared.history.Reply.TheVariants.{Accepted, Refused, Joined, Given, Left}
use Rattle.frp_history.specs.declared.history.Entry.{Entry}

-- a command, without its caller
abbrev pub cmd_text : Cmd → List ℕ
cmd_text (Send sink value) = codes "send " ++ name_text sink ++ codes " " ++ val_text value
cmd_text (Group sends) = codes "group " ++ decimal (length sends)
cmd_text (Join node) = codes "join " ++ name_text node
cmd_text (Take key max) = codes "take " ++ decimal key.place ++ codes " " ++ decimal max
cmd_text (Leave key) = codes "leave " ++ decimal key.place

-- names, each with a space before it
abbrev pub names_text : List Name → List ℕ
names_text [] = []
names_text (n ∷ ns) = codes " " ++ name_text n ++ names_text ns

abbrev pub phase_text : Phase → List ℕ
phase_text Birth = codes "birth"
phase_text During = codes "during"
phase_text After = codes "after"

-- a closed chain, with a space before it: its phase and its names
abbrev pub chain_text : Why → List ℕ
chain_text (Chain phase names) = codes " " ++ phase_text phase ++ names_text names
chain_text (Endless limit) = []
chain_text (Full node limit) = []

-- a refusal: its number, and the chain of a cyclic one
abbrev pub refusal_text : No → List ℕ
refusal_text no.UnknownSink = codes "refused 1"
refusal_text no.WrongType = codes "refused 2"
refusal_text (no.Cyclic e) = codes "refused 3" ++ chain_text e.why
refusal_text (no.Endless e) = codes "refused 4"
refusal_text (no.Full e) = codes "refused 5"
refusal_text no.UnknownNode = codes "refused 6"
refusal_text no.UnknownListener = codes "refused 7"
refusal_text no.NotYours = codes "refused 8"
refusal_text (no.Twice sink) = codes "refused 10"

-- a reply, as it stands in its entry's line
abbrev pub reply_text : Reply → List ℕ
reply_text (Accepted moments) = codes "accepted " ++ decimal moments
reply_text (Refused refusal) = refusal_text refusal
reply_text (Joined key) = codes "key " ++ decimal key.place
reply_text (Given items) = codes "gave " ++ decimal (length items)
reply_text (Left items) = codes "gave " ++ decimal (length items)

-- the line of an item that a listener was given, and the lines of items
abbrev pub item_line : Delivered → List ℕ
item_line d = codes "  " ++ time_text d.time ++ codes " " ++ val_text d.value ++ codes "\n"

abbrev pub delivered_lines : List Delivered → List ℕ
delivered_lines [] = []
delivered_lines (d ∷ ds) = item_line d ++ delivered_lines ds

-- the lines below an entry: the items that a listener was given
abbrev pub given_lines : Reply → List ℕ
given_lines (Given items) = delivered_lines items
given_lines (Left items) = delivered_lines items
given_lines (Accepted moments) = []
given_lines (Refused refusal) = []
given_lines (Joined key) = []

-- the line of a send of a group, the lines of such sends, and the lines below an entry: those of a group
abbrev pub sent_line : Fact → List ℕ
sent_line f = codes "  send " ++ name_text f.node ++ codes " " ++ val_text f.value ++ codes "\n"

abbrev pub send_lines : List Fact → List ℕ
send_lines [] = []
send_lines (f ∷ fs) = sent_line f ++ send_lines fs

abbrev pub sent_lines : Cmd → List ℕ
sent_lines (Send sink value) = []
sent_lines (Group sends) = send_lines sends
sent_lines (Join node) = []
sent_lines (Take key max) = []
sent_lines (Leave key) = []

-- the line of the entry at place k, and the lines of entries of which the first has place k
abbrev pub entry_line : ℕ → Entry → List ℕ
entry_line k e = decimal k ++ codes " " ++ decimal e.caller ++ codes " " ++ cmd_text e.cmd ++ codes " " ++ reply_text e.reply ++ codes "\n"

abbrev pub entry_lines : ℕ → List Entry → List ℕ
entry_lines k [] = []
entry_lines k (e ∷ es) = entry_line k e ++ sent_lines e.cmd ++ given_lines e.reply ++ entry_lines (k + 1) es

-- the word of a shape
abbrev pub shape_text : Shape → List ℕ
shape_text Sink = codes "sink"
shape_text Never = codes "never"
shape_text Constant = codes "constant"
shape_text (Map f s) = codes "map"
shape_text (Filter f s) = codes "filter"
shape_text (Filteropt s) = codes "filteropt"
shape_text (Merge f a b) = codes "merge"
shape_text (Snapshot f s c) = codes "snapshot"
shape_text (Split s) = codes "split"
shape_text (Updates c) = codes "updates"
shape_text (Value c) = codes "value"
shape_text (Loop to) = codes "loop"
shape_text (Hold s) = codes "hold"
shape_text (Mapc f c) = codes "mapc"
shape_text (Apply cf ca) = codes "apply"
shape_text (Switchs c) = codes "switchs"
shape_text (Switchc c) = codes "switchc"
shape_text (Execute s template kept) = codes "execute"

-- the first value of a node, where it has one, with a space before it
abbrev pub first_text : Option Val → List ℕ
first_text None = []
first_text (Some v) = codes " " ++ val_text v

-- the line of a born node, and the lines of born nodes
abbrev pub born_line : Node → List ℕ
born_line x = codes "  + " ++ name_text x.name ++ codes " " ++ shape_text x.shape ++ first_text x.first ++ codes "\n"

abbrev pub born_lines : List Node → List ℕ
born_lines [] = []
born_lines (x ∷ xs) = born_line x ++ born_lines xs

-- the line of a fact, and the lines of facts
abbrev pub fact_line : Fact → List ℕ
fact_line f = codes "  " ++ name_text f.node ++ codes " " ++ val_text f.value ++ codes "\n"

abbrev pub fact_lines : List Fact → List ℕ
fact_lines [] = []
fact_lines (f ∷ fs) = fact_line f ++ fact_lines fs

-- the line of a moment, and the lines of moments, each with its born nodes and then its facts
abbrev pub moment_line : Moment → List ℕ
moment_line m = codes "at " ++ time_text m.time ++ codes " born " ++ decimal (length m.born) ++ codes " fired " ++ decimal (length m.fired) ++ codes "\n"

abbrev pub moment_lines : List Moment → List ℕ
moment_lines [] = []
moment_lines (m ∷ ms) = moment_line m ++ born_lines m.born ++ fact_lines m.fired ++ moment_lines ms

-- the last line, with the number of entries
abbrev pub end_line : ℕ → List ℕ
end_line n = codes "end " ++ decimal n ++ codes "\n"

-- the report of a history and a trace
abbrev pub report_text : List Entry → List Moment → List ℕ
report_text entries trace = entry_lines 1 entries ++ moment_lines trace ++ end_line (length entries)

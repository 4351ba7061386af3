-- Which listeners are held after some entries of a history, and what they are still to be given.
use Rattle.std.specs.Prelude.{◌≡◌, ℕ, ◌+◌, Bool, true, false, ◌&&◌, ◌==◌, List, [], ◌∷◌, length, drop, Option, Some, None, is_some, IsTrue, if◌then◌else◌}
use Rattle.std.specs.List.{list_any}
use Rattle.frp_base.specs.declared.name.Name.{Name}
use Rattle.frp_graph.specs.declared.trace.Moment.{Moment}
use Rattle.frp_history.specs.declared.history.Key.{Key}
use Rattle.frp_history.specs.declared.history.Cmd.{Cmd}
use Rattle.frp_history.specs.declared.history.Cmd.TheVariants.{Send, Group, Join, Take, Leave}
use Rattle.frp_history.specs.declared.history.Reply.{Reply}
use Rattle.frp_history.specs.declared.history.Reply.TheVariants.{Accepted, Refused, Joined, Given, Left}
use Rattle.frp_history.specs.declared.history.Delivered.{Delivered}
use Rattle.frp_history.specs.declared.history.Entry.{Entry}
use Rattle.frp_history.specs.History.{entry_at}
use Rattle.frp_history.specs.Windows.{window}

-- who listens, and to which node
pub record Listener : Type 0 where
  pub caller : ℕ
  pub node : Name

abbrev pub key_eq : Key → Key → Bool
key_eq a b = a.slot == b.slot && a.place == b.place

-- whether a reply gives the key, and whether it is that of a leave; the items that a take is given
abbrev pub gives_key : Key → Reply → Bool
gives_key key (Joined given) = key_eq given key
gives_key key (Accepted moments) = false
gives_key key (Refused refusal) = false
gives_key key (Given items) = false
gives_key key (Left items) = false

abbrev pub ends_listening : Reply → Bool
ends_listening (Left items) = true
ends_listening (Accepted moments) = false
ends_listening (Refused refusal) = false
ends_listening (Joined given) = false
ends_listening (Given items) = false

abbrev pub items_taken : Reply → List Delivered
items_taken (Given items) = items
items_taken (Accepted moments) = []
items_taken (Refused refusal) = []
items_taken (Joined given) = []
items_taken (Left items) = []

-- the listener that a caller's command joined, where its reply gave the key
abbrev pub joined_by : Key → ℕ → Cmd → Reply → Option Listener
joined_by key caller (Join node) reply = if gives_key key reply then Some (record { caller = caller; node = node }) else None
joined_by key caller (Send sink value) reply = None
joined_by key caller (Group sends) reply = None
joined_by key caller (Take k max) reply = None
joined_by key caller (Leave k) reply = None

abbrev pub joined_in : Key → Option Entry → Option Listener
joined_in key None = None
joined_in key (Some e) = joined_by key e.caller e.cmd e.reply

-- whether a command and its reply are an accepted leave of the key
abbrev pub is_leave : Key → Cmd → Reply → Bool
is_leave key (Leave k) reply = ends_listening reply && key_eq k key
is_leave key (Send sink value) reply = false
is_leave key (Group sends) reply = false
is_leave key (Join node) reply = false
is_leave key (Take k max) reply = false

-- the listener that has a key after these entries: a join gave it, and no accepted leave has ended it
abbrev pub listener : List Entry → Key → Option Listener
listener entries key = if list_any (λ e. is_leave key e.cmd e.reply) entries then None else joined_in key (entry_at entries key.place)

-- the slot is that of no listener that is held
abbrev pub IsFreeSlot : List Entry → ℕ → Type 0
IsFreeSlot entries slot = (key : Key) → IsTrue (is_some (listener entries key)) → key.slot ≡ slot → ⊥

-- how many items the takes of a key gave
abbrev pub taken_by : Key → Cmd → Reply → ℕ
taken_by key (Take k max) reply = if key_eq k key then length (items_taken reply) else 0
taken_by key (Send sink value) reply = 0
taken_by key (Group sends) reply = 0
taken_by key (Join node) reply = 0
taken_by key (Leave k) reply = 0

abbrev pub taken_count : List Entry → Key → ℕ
taken_count [] key = 0
taken_count (e ∷ es) key = taken_by key e.cmd e.reply + taken_count es key

-- The items of its window after these moments that a listener was not given yet, after these entries.
abbrev pub rest_of : List Moment → List Entry → Key → Option Listener → List Delivered
rest_of trace entries key None = []
rest_of trace entries key (Some l) = drop (taken_count entries key) (window trace l.node key.place)

abbrev pub rest : List Moment → List Entry → Key → List Delivered
rest trace entries key = rest_of trace entries key (listener entries key)

-- A group of no sends, which has no moment, and then a send:
-- (graph (sink a Int) (let h (hold 0 a)))
use Rattle.std.specs.Prelude.{List, [], ◌∷◌}
use Rattle.frp_graph.specs.declared.trace.Moment.{Moment}
use Rattle.frp_history.specs.declared.history.Cmd.TheVariants as cmd
use Rattle.frp_history.specs.declared.history.Reply.TheVariants.{Accepted}
use Rattle.frp_history.specs.declared.history.Entry.{Entry}
use Rattle.frp_rows.specs.Writing.{num, fires, moment, sends, sends_all}
use Rattle.frp_rows.specs.Takes.{first}

abbrev pub trace : List Moment
trace = first ∷ moment (2 ∷ []) (fires 0 (num 3) ∷ fires 1 (num 3) ∷ []) ∷ []

abbrev pub entries : List Entry
entries = sends_all (cmd.Group []) (Accepted 0) ∷ sends 0 (num 3) (Accepted 1) ∷ []

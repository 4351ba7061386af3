-- A stream of optional values, of which the present ones are given:
-- (graph (sink a (Option Int)) (let s (filteropt a))) (listen s) (sender (send a (some 4)) (send a (none Int)))
use Rattle.std.specs.Prelude.{List, [], ◌∷◌}
use Rattle.frp_base.specs.declared.name.Name.{Name}
use Rattle.frp_base.specs.declared.ty.Ty.TheVariants as t
use Rattle.frp_base.specs.declared.val.Val.TheVariants as v
use Rattle.frp_expr.specs.declared.expr.Expr.TheVariants as ex
use Rattle.frp_graph.specs.declared.prog.Prog.{Prog}
use Rattle.frp_graph.specs.declared.prog.Line3.TheVariants as line
use Rattle.frp_graph.specs.declared.prog.LineShape.TheVariants as l
use Rattle.frp_graph.specs.declared.shape.Shape.TheVariants as s
use Rattle.frp_graph.specs.declared.trace.Moment.{Moment}
use Rattle.frp_history.specs.declared.history.Cmd.{Cmd}
use Rattle.frp_history.specs.declared.history.Entry.{Entry}
use Rattle.frp_history.specs.declared.history.Reply.TheVariants.{Accepted}
use Rattle.frp_rows.specs.Writing.{item, num, program, stream_node, fires, moment, listens, send, sends, leaves, gave}

abbrev pub prog : Prog
prog = program []
    (line.Node (t.Stream (t.Option t.Int)) l.Sink
    ∷ line.Node (t.Stream t.Int) (l.Filteropt (ex.Var 0))
    ∷ [])

abbrev pub first : Moment
first = record { time = 0 ∷ []; born = stream_node 0 (t.Option t.Int) s.Sink ∷ stream_node 1 t.Int (s.Filteropt (item 0)) ∷ []; fired = [] }

abbrev pub second : Moment
second = moment (2 ∷ []) (fires 0 (v.Present (num 4)) ∷ fires 1 (num 4) ∷ [])

abbrev pub third : Moment
third = moment (3 ∷ []) (fires 0 v.Absent ∷ [])

abbrev pub trace : List Moment
trace = first ∷ second ∷ third ∷ []

abbrev pub entries : List Entry
entries = listens 1 1
    ∷ sends 0 (v.Present (num 4)) (Accepted 1)
    ∷ sends 0 v.Absent (Accepted 1)
    ∷ leaves 1 (gave (2 ∷ []) 4 ∷ [])
    ∷ []

-- what the file listens to, and the script of its sender
abbrev pub listened : List Name
listened = item 1 ∷ []

abbrev pub script : List Cmd
script = send 0 (v.Present (num 4)) ∷ send 0 v.Absent ∷ []

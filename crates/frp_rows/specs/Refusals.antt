-- Commands that are refused, of two callers, in a history of at most eight entries:
-- (graph (sink a Int) (let h (hold 0 a)))
use Rattle.std.specs.Prelude.{ℕ, true, List, [], ◌∷◌}
use Rattle.frp_base.specs.declared.ty.Ty.TheVariants as t
use Rattle.frp_base.specs.declared.val.Val.TheVariants as v
use Rattle.frp_expr.specs.declared.expr.Expr.TheVariants as ex
use Rattle.frp_graph.specs.declared.prog.Prog.{Prog}
use Rattle.frp_graph.specs.declared.prog.Line3.TheVariants as line
use Rattle.frp_graph.specs.declared.prog.LineShape.TheVariants as l
use Rattle.frp_graph.specs.declared.shape.Shape.TheVariants as s
use Rattle.frp_graph.specs.declared.trace.Moment.{Moment}
use Rattle.frp_graph.specs.declared.limits.Limits.{Limits}
use Rattle.frp_history.specs.declared.history.Cmd.{Cmd}
use Rattle.frp_history.specs.declared.history.Cmd.TheVariants as cmd
use Rattle.frp_history.specs.declared.history.Reply.{Reply}
use Rattle.frp_history.specs.declared.history.Reply.TheVariants.{Refused, Joined, Left}
use Rattle.frp_history.specs.declared.history.No.TheVariants as no
use Rattle.frp_history.specs.declared.history.Entry.{Entry}
use Rattle.frp_rows.specs.Writing.{item, num, lit, program, stream_node, cell_node, usual, key, gave}

abbrev pub prog : Prog
prog = program [] (line.Node (t.Stream t.Int) l.Sink ∷ line.Node (t.Cell t.Int) (l.Hold (lit 0) (ex.Var 0)) ∷ [])

abbrev pub first : Moment
first = record { time = 0 ∷ []; born = stream_node 0 t.Int s.Sink ∷ cell_node 1 t.Int (s.Hold (item 0)) (num 0) ∷ []; fired = [] }

abbrev pub trace : List Moment
trace = first ∷ []

abbrev pub eight : Limits
eight = record usual { entries = 8 }

abbrev pub says : ℕ → Cmd → Reply → Entry
says caller c r = record { caller = caller; cmd = c; reply = r }

abbrev pub entries : List Entry
entries = says 1 (cmd.Send (item 1) (num 4)) (Refused no.UnknownSink)
    ∷ says 1 (cmd.Send (item 0) (v.Bool true)) (Refused no.WrongType)
    ∷ says 1 (cmd.Join (item 7)) (Refused no.UnknownNode)
    ∷ says 1 (cmd.Leave (record { slot = 0; place = 9 })) (Refused no.UnknownListener)
    ∷ says 1 (cmd.Join (item 1)) (Joined (key 5))
    ∷ says 2 (cmd.Take (key 5) 1) (Refused no.NotYours)
    ∷ says 1 (cmd.Leave (key 5)) (Left (gave (5 ∷ []) 0 ∷ []))
    ∷ says 1 (cmd.Take (key 5) 1) (Refused no.UnknownListener)
    ∷ []

-- Two listeners of a hold, of which one takes an item before it leaves:
-- (graph (sink a Int) (let h (hold 0 a)))
use Rattle.std.specs.Prelude.{ℕ, List, [], ◌∷◌}
use Rattle.frp_base.specs.declared.ty.Ty.TheVariants as t
use Rattle.frp_expr.specs.declared.expr.Expr.TheVariants as ex
use Rattle.frp_graph.specs.declared.prog.Prog.{Prog}
use Rattle.frp_graph.specs.declared.prog.Line3.TheVariants as line
use Rattle.frp_graph.specs.declared.prog.LineShape.TheVariants as l
use Rattle.frp_graph.specs.declared.shape.Shape.TheVariants as s
use Rattle.frp_graph.specs.declared.trace.Moment.{Moment}
use Rattle.frp_history.specs.declared.history.Cmd.{Cmd}
use Rattle.frp_history.specs.declared.history.Cmd.TheVariants as cmd
use Rattle.frp_history.specs.declared.history.Reply.{Reply}
use Rattle.frp_history.specs.declared.history.Reply.TheVariants.{Accepted, Joined, Given, Left}
use Rattle.frp_history.specs.declared.history.Entry.{Entry}
use Rattle.frp_rows.specs.Writing.{item, num, lit, program, stream_node, cell_node, fires, moment, key, gave}

abbrev pub prog : Prog
prog = program [] (line.Node (t.Stream t.Int) l.Sink ∷ line.Node (t.Cell t.Int) (l.Hold (lit 0) (ex.Var 0)) ∷ [])

abbrev pub first : Moment
first = record { time = 0 ∷ []; born = stream_node 0 t.Int s.Sink ∷ cell_node 1 t.Int (s.Hold (item 0)) (num 0) ∷ []; fired = [] }

abbrev pub trace : List Moment
trace = first
    ∷ moment (2 ∷ []) (fires 0 (num 1) ∷ fires 1 (num 1) ∷ [])
    ∷ moment (4 ∷ []) (fires 0 (num 2) ∷ fires 1 (num 2) ∷ [])
    ∷ []

abbrev pub says : ℕ → Cmd → Reply → Entry
says caller c r = record { caller = caller; cmd = c; reply = r }

abbrev pub entries : List Entry
entries = says 0 (cmd.Join (item 1)) (Joined (key 1))
    ∷ says 1 (cmd.Send (item 0) (num 1)) (Accepted 1)
    ∷ says 0 (cmd.Join (item 1)) (Joined (key 3))
    ∷ says 1 (cmd.Send (item 0) (num 2)) (Accepted 1)
    ∷ says 0 (cmd.Take (key 1) 1) (Given (gave (1 ∷ []) 0 ∷ []))
    ∷ says 0 (cmd.Leave (key 1)) (Left (gave (2 ∷ []) 1 ∷ gave (4 ∷ []) 2 ∷ []))
    ∷ says 0 (cmd.Leave (key 3)) (Left (gave (3 ∷ []) 1 ∷ gave (4 ∷ []) 2 ∷ []))
    ∷ []

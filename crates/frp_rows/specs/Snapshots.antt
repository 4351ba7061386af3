-- A snapshot of a hold:
-- (graph (sink a Int) (let h (hold 0 a)) (let s (snapshot x y a h y))) (listen s) (sender (send a 1) (send a 2))
use Rattle.std.specs.Prelude.{List, [], ◌∷◌}
use Rattle.frp_base.specs.declared.name.Name.{Name}
use Rattle.frp_base.specs.declared.ty.Ty.TheVariants as t
use Rattle.frp_expr.specs.declared.expr.Expr.TheVariants as ex
use Rattle.frp_graph.specs.declared.prog.Prog.{Prog}
use Rattle.frp_graph.specs.declared.prog.Line3.TheVariants as line
use Rattle.frp_graph.specs.declared.prog.LineShape.TheVariants as l
use Rattle.frp_graph.specs.declared.shape.Shape.TheVariants as s
use Rattle.frp_graph.specs.declared.trace.Moment.{Moment}
use Rattle.frp_history.specs.declared.history.Cmd.{Cmd}
use Rattle.frp_history.specs.declared.history.Entry.{Entry}
use Rattle.frp_history.specs.declared.history.Reply.TheVariants.{Accepted}
use Rattle.frp_rows.specs.Writing.{item, num, lit, program, line_code, lam, stream_node, cell_node, fires, moment, listens, send, sends, leaves, gave}

abbrev pub prog : Prog
prog = program (ex.Var 1 ∷ [])
    (line.Node (t.Stream t.Int) l.Sink
    ∷ line.Node (t.Cell t.Int) (l.Hold (lit 0) (ex.Var 0))
    ∷ line.Node (t.Stream t.Int) (l.Snapshot (line_code 0 []) (ex.Var 0) (ex.Var 1))
    ∷ [])

abbrev pub first : Moment
first = record {
  time = 0 ∷ [];
  born = stream_node 0 t.Int s.Sink
      ∷ cell_node 1 t.Int (s.Hold (item 0)) (num 0)
      ∷ stream_node 2 t.Int (s.Snapshot (lam 0 []) (item 0) (item 1))
      ∷ [];
  fired = [];
}

abbrev pub second : Moment
second = moment (2 ∷ []) (fires 0 (num 1) ∷ fires 1 (num 1) ∷ fires 2 (num 0) ∷ [])

abbrev pub third : Moment
third = moment (3 ∷ []) (fires 0 (num 2) ∷ fires 1 (num 2) ∷ fires 2 (num 1) ∷ [])

abbrev pub trace : List Moment
trace = first ∷ second ∷ third ∷ []

abbrev pub entries : List Entry
entries = listens 2 1
    ∷ sends 0 (num 1) (Accepted 1)
    ∷ sends 0 (num 2) (Accepted 1)
    ∷ leaves 1 (gave (2 ∷ []) 0 ∷ gave (3 ∷ []) 1 ∷ [])
    ∷ []

-- what the file listens to, and the script of its sender
abbrev pub listened : List Name
listened = item 2 ∷ []

abbrev pub script : List Cmd
script = send 0 (num 1) ∷ send 0 (num 2) ∷ []

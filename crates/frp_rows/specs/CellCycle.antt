-- A switch of cells that would follow itself:
-- (graph (sink k (Cell Int)) (let z (constant 7)) (let c (hold z k)) (let w (switchc c)) (let m (mapc x w (add x 1)))) (listen w)
-- (sender (send k m) (send k z))
use Rattle.std.specs.Prelude.{List, [], ◌∷◌}
use Rattle.frp_base.specs.declared.name.Name.{Name}
use Rattle.frp_base.specs.declared.ty.Ty.TheVariants as t
use Rattle.frp_expr.specs.declared.expr.Expr.TheVariants as ex
use Rattle.frp_graph.specs.declared.prog.Prog.{Prog}
use Rattle.frp_graph.specs.declared.prog.Line3.TheVariants as line
use Rattle.frp_graph.specs.declared.prog.LineShape.TheVariants as l
use Rattle.frp_graph.specs.declared.shape.Shape.TheVariants as s
use Rattle.frp_graph.specs.declared.trace.Moment.{Moment}
use Rattle.frp_history.specs.declared.history.Cmd.{Cmd}
use Rattle.frp_history.specs.declared.history.Entry.{Entry}
use Rattle.frp_history.specs.declared.history.Reply.TheVariants.{Accepted}
use Rattle.frp_rows.specs.Writing.{item, cell_val, num, lit, program, line_code, lam, stream_node, cell_node, fires, moment, listens, send, sends, leaves, gave}
use Rattle.frp_graph.specs.declared.evidence.Evidence.{Evidence}
use Rattle.frp_graph.specs.declared.evidence.Phase.TheVariants.{During}
use Rattle.frp_graph.specs.declared.evidence.Why.TheVariants.{Chain}
use Rattle.frp_history.specs.declared.history.Reply.TheVariants.{Refused}
use Rattle.frp_history.specs.declared.history.No.TheVariants.{Cyclic}
use Rattle.frp_rows.specs.Writing.{ranked}

abbrev pub prog : Prog
prog = program (ex.Add (ex.Var 0) (lit 1) ∷ [])
    (line.Node (t.Stream (t.Cell t.Int)) l.Sink
    ∷ line.Node (t.Cell t.Int) (l.Constant (lit 7))
    ∷ line.Node (t.Cell (t.Cell t.Int)) (l.Hold (ex.Var 1) (ex.Var 0))
    ∷ line.Node (t.Cell t.Int) (l.Switchc (ex.Var 2))
    ∷ line.Node (t.Cell t.Int) (l.Mapc (line_code 0 []) (ex.Var 3))
    ∷ [])

abbrev pub first : Moment
first = record {
  time = 0 ∷ [];
  born = stream_node 0 (t.Cell t.Int) s.Sink
      ∷ cell_node 1 t.Int s.Constant (num 7)
      ∷ cell_node 2 (t.Cell t.Int) (s.Hold (item 0)) (cell_val 1)
      ∷ cell_node 3 t.Int (s.Switchc (item 2)) (num 7)
      ∷ cell_node 4 t.Int (s.Mapc (lam 0 []) (item 3)) (num 8)
      ∷ [];
  fired = [];
}

abbrev pub trace : List Moment
trace = first
    ∷ moment (3 ∷ []) (fires 0 (cell_val 1) ∷ fires 2 (cell_val 1) ∷ fires 3 (num 7) ∷ fires 4 (num 8) ∷ [])
    ∷ []

-- The switch and the mapped cell depend on each other, where the outer cell, which is settled, steps to the mapped one.
abbrev pub evidence : Evidence
evidence = record {
  done = [];
  last = moment (2 ∷ []) (fires 0 (cell_val 4) ∷ fires 2 (cell_val 4) ∷ []);
  ranks = ranked 0 0 ∷ ranked 1 0 ∷ ranked 2 1 ∷ ranked 3 2 ∷ ranked 4 3 ∷ [];
  level = 2;
  why = Chain During (item 3 ∷ item 4 ∷ []);
}

abbrev pub entries : List Entry
entries = listens 3 1
    ∷ sends 0 (cell_val 4) (Refused (Cyclic evidence))
    ∷ sends 0 (cell_val 1) (Accepted 1)
    ∷ leaves 1 (gave (1 ∷ []) 7 ∷ gave (3 ∷ []) 7 ∷ [])
    ∷ []

-- what the file listens to, and the script of its sender
abbrev pub listened : List Name
listened = item 3 ∷ []

abbrev pub script : List Cmd
script = send 0 (cell_val 4) ∷ send 0 (cell_val 1) ∷ []

-- A switch of cells:
-- (graph (sink a Int) (let h (hold 1 a)) (let m (mapc x h (mul x 10))) (let z (constant 0)) (let k (map x a m)) (let c (hold z k))
-- (let w (switchc c))) (listen w) (sender (send a 5))
use Rattle.std.specs.Prelude.{List, [], ◌∷◌}
use Rattle.frp_base.specs.declared.name.Name.{Name}
use Rattle.frp_base.specs.declared.ty.Ty.TheVariants as t
use Rattle.frp_expr.specs.declared.expr.Expr.TheVariants as ex
use Rattle.frp_graph.specs.declared.prog.Prog.{Prog}
use Rattle.frp_graph.specs.declared.prog.Line3.TheVariants as line
use Rattle.frp_graph.specs.declared.prog.LineShape.TheVariants as l
use Rattle.frp_graph.specs.declared.shape.Shape.TheVariants as s
use Rattle.frp_graph.specs.declared.trace.Moment.{Moment}
use Rattle.frp_history.specs.declared.history.Cmd.{Cmd}
use Rattle.frp_history.specs.declared.history.Entry.{Entry}
use Rattle.frp_history.specs.declared.history.Reply.TheVariants.{Accepted}
use Rattle.frp_rows.specs.Writing.{item, cell_val, num, lit, program, line_code, lam, stream_node, cell_node, fires, moment, listens, send, sends, leaves, gave}

abbrev pub prog : Prog
prog = program (ex.Mul (ex.Var 0) (lit 10) ∷ ex.Var 0 ∷ [])
    (line.Node (t.Stream t.Int) l.Sink
    ∷ line.Node (t.Cell t.Int) (l.Hold (lit 1) (ex.Var 0))
    ∷ line.Node (t.Cell t.Int) (l.Mapc (line_code 0 []) (ex.Var 1))
    ∷ line.Node (t.Cell t.Int) (l.Constant (lit 0))
    ∷ line.Node (t.Stream (t.Cell t.Int)) (l.Map (line_code 1 (2 ∷ [])) (ex.Var 0))
    ∷ line.Node (t.Cell (t.Cell t.Int)) (l.Hold (ex.Var 3) (ex.Var 4))
    ∷ line.Node (t.Cell t.Int) (l.Switchc (ex.Var 5))
    ∷ [])

abbrev pub first : Moment
first = record {
  time = 0 ∷ [];
  born = stream_node 0 t.Int s.Sink
      ∷ cell_node 1 t.Int (s.Hold (item 0)) (num 1)
      ∷ cell_node 2 t.Int (s.Mapc (lam 0 []) (item 1)) (num 10)
      ∷ cell_node 3 t.Int s.Constant (num 0)
      ∷ stream_node 4 (t.Cell t.Int) (s.Map (lam 1 (cell_val 2 ∷ [])) (item 0))
      ∷ cell_node 5 (t.Cell t.Int) (s.Hold (item 4)) (cell_val 3)
      ∷ cell_node 6 t.Int (s.Switchc (item 5)) (num 0)
      ∷ [];
  fired = [];
}

-- here the outer cell steps to the mapped one, which steps too
abbrev pub second : Moment
second = moment (2 ∷ []) (fires 0 (num 5) ∷ fires 1 (num 5) ∷ fires 2 (num 50) ∷ fires 4 (cell_val 2) ∷ fires 5 (cell_val 2) ∷ fires 6 (num 50) ∷ [])

abbrev pub trace : List Moment
trace = first ∷ second ∷ []

abbrev pub entries : List Entry
entries = listens 6 1
    ∷ sends 0 (num 5) (Accepted 1)
    ∷ leaves 1 (gave (1 ∷ []) 0 ∷ gave (2 ∷ []) 50 ∷ [])
    ∷ []

-- what the file listens to, and the script of its sender
abbrev pub listened : List Name
listened = item 6 ∷ []

abbrev pub script : List Cmd
script = send 0 (num 5) ∷ []

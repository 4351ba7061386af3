-- A switch of cells whose old inner cell depends on one that depends on it anew:
-- (graph (sink k (Pair (Cell Int) (Cell Int))) (let z (constant 7)) (let f (map x k (first x))) (let c (hold z f)) (let w (switchc c))
-- (let m (mapc x w (add x 1))) (let i (map x k x)) (let g (map x i (second x))) (let d (hold m g)) (let v (switchc d))) (listen w)
-- (listen v) (sender (send k (pair v z)) (send k (pair m z)))
use Rattle.std.specs.Prelude.{List, [], ◌∷◌}
use Rattle.frp_base.specs.declared.name.Name.{Name}
use Rattle.frp_base.specs.declared.ty.Ty.TheVariants as t
use Rattle.frp_base.specs.declared.val.Val.TheVariants as v
use Rattle.frp_expr.specs.declared.expr.Expr.TheVariants as ex
use Rattle.frp_graph.specs.declared.prog.Prog.{Prog}
use Rattle.frp_graph.specs.declared.prog.Line3.TheVariants as line
use Rattle.frp_graph.specs.declared.prog.LineShape.TheVariants as l
use Rattle.frp_graph.specs.declared.shape.Shape.TheVariants as s
use Rattle.frp_graph.specs.declared.trace.Moment.{Moment}
use Rattle.frp_history.specs.declared.history.Cmd.{Cmd}
use Rattle.frp_history.specs.declared.history.Entry.{Entry}
use Rattle.frp_history.specs.declared.history.Reply.TheVariants.{Accepted}
use Rattle.frp_rows.specs.Writing.{item, cell_val, num, lit, program, line_code, lam, stream_node, cell_node, fires, moment, listens, send, sends, leaves, gave}
use Rattle.frp_graph.specs.declared.evidence.Evidence.{Evidence}
use Rattle.frp_graph.specs.declared.trace.Sent.{Sent}
use Rattle.frp_graph.specs.declared.evidence.Phase.TheVariants.{During}
use Rattle.frp_graph.specs.declared.evidence.Why.TheVariants.{Chain}
use Rattle.frp_history.specs.declared.history.Reply.TheVariants.{Refused}
use Rattle.frp_history.specs.declared.history.No.TheVariants.{Cyclic}
use Rattle.frp_rows.specs.Writing.{ranked}

abbrev pub prog : Prog
prog = program (ex.First (ex.Var 0) ∷ ex.Add (ex.Var 0) (lit 1) ∷ ex.Var 0 ∷ ex.Second (ex.Var 0) ∷ [])
    (line.Node (t.Stream (t.Pair (t.Cell t.Int) (t.Cell t.Int))) l.Sink
    ∷ line.Node (t.Cell t.Int) (l.Constant (lit 7))
    ∷ line.Node (t.Stream (t.Cell t.Int)) (l.Map (line_code 0 []) (ex.Var 0))
    ∷ line.Node (t.Cell (t.Cell t.Int)) (l.Hold (ex.Var 1) (ex.Var 2))
    ∷ line.Node (t.Cell t.Int) (l.Switchc (ex.Var 3))
    ∷ line.Node (t.Cell t.Int) (l.Mapc (line_code 1 []) (ex.Var 4))
    ∷ line.Node (t.Stream (t.Pair (t.Cell t.Int) (t.Cell t.Int))) (l.Map (line_code 2 []) (ex.Var 0))
    ∷ line.Node (t.Stream (t.Cell t.Int)) (l.Map (line_code 3 []) (ex.Var 6))
    ∷ line.Node (t.Cell (t.Cell t.Int)) (l.Hold (ex.Var 5) (ex.Var 7))
    ∷ line.Node (t.Cell t.Int) (l.Switchc (ex.Var 8))
    ∷ [])

abbrev pub first : Moment
first = record {
  time = 0 ∷ [];
  born = stream_node 0 (t.Pair (t.Cell t.Int) (t.Cell t.Int)) s.Sink
      ∷ cell_node 1 t.Int s.Constant (num 7)
      ∷ stream_node 2 (t.Cell t.Int) (s.Map (lam 0 []) (item 0))
      ∷ cell_node 3 (t.Cell t.Int) (s.Hold (item 2)) (cell_val 1)
      ∷ cell_node 4 t.Int (s.Switchc (item 3)) (num 7)
      ∷ cell_node 5 t.Int (s.Mapc (lam 1 []) (item 4)) (num 8)
      ∷ stream_node 6 (t.Pair (t.Cell t.Int) (t.Cell t.Int)) (s.Map (lam 2 []) (item 0))
      ∷ stream_node 7 (t.Cell t.Int) (s.Map (lam 3 []) (item 6))
      ∷ cell_node 8 (t.Cell t.Int) (s.Hold (item 7)) (cell_val 5)
      ∷ cell_node 9 t.Int (s.Switchc (item 8)) (num 8)
      ∷ [];
  fired = [];
}

-- The first switch turns to the second, whose old inner cell depends on the first, and which turns to the constant.
abbrev pub third : Moment
third = moment (3 ∷ [])
    (fires 0 (v.Pair (cell_val 9) (cell_val 1)) ∷ fires 2 (cell_val 9) ∷ fires 3 (cell_val 9) ∷ fires 4 (num 7) ∷ fires 5 (num 8)
    ∷ fires 6 (v.Pair (cell_val 9) (cell_val 1)) ∷ fires 7 (cell_val 1) ∷ fires 8 (cell_val 1) ∷ fires 9 (num 7) ∷ [])

abbrev pub trace : List Moment
trace = first ∷ third ∷ []

-- Evidence that would refuse the first send: a chain through the old inner cell of the second switch, whose own cell is not settled.
abbrev pub hasty : Evidence
hasty = record {
  done = [];
  last = moment (3 ∷ []) (fires 0 (v.Pair (cell_val 9) (cell_val 1)) ∷ fires 2 (cell_val 9) ∷ fires 3 (cell_val 9) ∷ []);
  ranks = ranked 0 0 ∷ ranked 1 0 ∷ ranked 2 1 ∷ ranked 3 2 ∷ ranked 4 3 ∷ ranked 5 3 ∷ ranked 6 3 ∷ ranked 7 3 ∷ ranked 8 3 ∷ ranked 9 3 ∷ [];
  level = 3;
  why = Chain During (item 4 ∷ item 9 ∷ item 5 ∷ []);
}

abbrev pub first_send : Sent
first_send = record { place = 3; part = 0; sink = item 0; value = v.Pair (cell_val 9) (cell_val 1) }

-- Then the first switch would turn to the mapped cell, which depends on it.
abbrev pub evidence : Evidence
evidence = record {
  done = [];
  last = moment (4 ∷ []) (fires 0 (v.Pair (cell_val 5) (cell_val 1)) ∷ fires 2 (cell_val 5) ∷ fires 3 (cell_val 5) ∷ []);
  ranks = ranked 0 0 ∷ ranked 1 0 ∷ ranked 2 1 ∷ ranked 3 2 ∷ ranked 4 3 ∷ ranked 5 3 ∷ ranked 6 3 ∷ ranked 7 3 ∷ ranked 8 3 ∷ ranked 9 3 ∷ [];
  level = 3;
  why = Chain During (item 4 ∷ item 5 ∷ []);
}

abbrev pub entries : List Entry
entries = listens 4 1
    ∷ listens 9 2
    ∷ sends 0 (v.Pair (cell_val 9) (cell_val 1)) (Accepted 1)
    ∷ sends 0 (v.Pair (cell_val 5) (cell_val 1)) (Refused (Cyclic evidence))
    ∷ leaves 1 (gave (1 ∷ []) 7 ∷ gave (3 ∷ []) 7 ∷ [])
    ∷ leaves 2 (gave (2 ∷ []) 8 ∷ gave (3 ∷ []) 7 ∷ [])
    ∷ []

-- what the file listens to, and the script of its sender
abbrev pub listened : List Name
listened = item 4 ∷ item 9 ∷ []

abbrev pub script : List Cmd
script = send 0 (v.Pair (cell_val 9) (cell_val 1)) ∷ send 0 (v.Pair (cell_val 5) (cell_val 1)) ∷ []

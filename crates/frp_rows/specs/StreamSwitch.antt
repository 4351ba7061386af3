-- A switch of streams:
-- (graph (sink a Int) (let p (map x a (add x 100))) (let q (map x a (add x 200))) (let k (map x a (if (lt x 2) p q)))
-- (let c (hold p k)) (let w (switchs c))) (listen w) (sender (send a 1) (send a 2) (send a 3))
use Rattle.std.specs.Prelude.{List, [], ◌∷◌}
use Rattle.frp_base.specs.declared.name.Name.{Name}
use Rattle.frp_base.specs.declared.ty.Ty.TheVariants as t
use Rattle.frp_expr.specs.declared.expr.Expr.TheVariants as ex
use Rattle.frp_graph.specs.declared.prog.Prog.{Prog}
use Rattle.frp_graph.specs.declared.prog.Line3.TheVariants as line
use Rattle.frp_graph.specs.declared.prog.LineShape.TheVariants as l
use Rattle.frp_graph.specs.declared.shape.Shape.TheVariants as s
use Rattle.frp_graph.specs.declared.trace.Moment.{Moment}
use Rattle.frp_history.specs.declared.history.Cmd.{Cmd}
use Rattle.frp_history.specs.declared.history.Entry.{Entry}
use Rattle.frp_history.specs.declared.history.Reply.TheVariants.{Accepted}
use Rattle.frp_rows.specs.Writing.{item, stream_val, num, lit, program, line_code, lam, stream_node, cell_node, fires, moment, listens, send, sends, leaves, gave}

abbrev pub prog : Prog
prog = program (ex.Add (ex.Var 0) (lit 100) ∷ ex.Add (ex.Var 0) (lit 200) ∷ ex.If (ex.Lt (ex.Var 2) (lit 2)) (ex.Var 0) (ex.Var 1) ∷ [])
    (line.Node (t.Stream t.Int) l.Sink
    ∷ line.Node (t.Stream t.Int) (l.Map (line_code 0 []) (ex.Var 0))
    ∷ line.Node (t.Stream t.Int) (l.Map (line_code 1 []) (ex.Var 0))
    ∷ line.Node (t.Stream (t.Stream t.Int)) (l.Map (line_code 2 (1 ∷ 2 ∷ [])) (ex.Var 0))
    ∷ line.Node (t.Cell (t.Stream t.Int)) (l.Hold (ex.Var 1) (ex.Var 3))
    ∷ line.Node (t.Stream t.Int) (l.Switchs (ex.Var 4))
    ∷ [])

abbrev pub first : Moment
first = record {
  time = 0 ∷ [];
  born = stream_node 0 t.Int s.Sink
      ∷ stream_node 1 t.Int (s.Map (lam 0 []) (item 0))
      ∷ stream_node 2 t.Int (s.Map (lam 1 []) (item 0))
      ∷ stream_node 3 (t.Stream t.Int) (s.Map (lam 2 (stream_val 1 ∷ stream_val 2 ∷ [])) (item 0))
      ∷ cell_node 4 (t.Stream t.Int) (s.Hold (item 3)) (stream_val 1)
      ∷ stream_node 5 t.Int (s.Switchs (item 4))
      ∷ [];
  fired = [];
}

abbrev pub second : Moment
second = moment (2 ∷ []) (fires 0 (num 1) ∷ fires 1 (num 101) ∷ fires 2 (num 201) ∷ fires 3 (stream_val 1) ∷ fires 4 (stream_val 1) ∷ fires 5 (num 101) ∷ [])

-- here the cell steps to the second stream
abbrev pub third : Moment
third = moment (3 ∷ []) (fires 0 (num 2) ∷ fires 1 (num 102) ∷ fires 2 (num 202) ∷ fires 3 (stream_val 2) ∷ fires 4 (stream_val 2) ∷ fires 5 (num 102) ∷ [])

abbrev pub trace : List Moment
trace = first ∷ second ∷ third
    ∷ moment (4 ∷ []) (fires 0 (num 3) ∷ fires 1 (num 103) ∷ fires 2 (num 203) ∷ fires 3 (stream_val 2) ∷ fires 4 (stream_val 2) ∷ fires 5 (num 203) ∷ [])
    ∷ []

abbrev pub entries : List Entry
entries = listens 5 1
    ∷ sends 0 (num 1) (Accepted 1)
    ∷ sends 0 (num 2) (Accepted 1)
    ∷ sends 0 (num 3) (Accepted 1)
    ∷ leaves 1 (gave (2 ∷ []) 101 ∷ gave (3 ∷ []) 102 ∷ gave (4 ∷ []) 203 ∷ [])
    ∷ []

-- what the file listens to, and the script of its sender
abbrev pub listened : List Name
listened = item 5 ∷ []

abbrev pub script : List Cmd
script = send 0 (num 1) ∷ send 0 (num 2) ∷ send 0 (num 3) ∷ []

-- A switch of streams that would follow itself after the time:
-- (graph (sink k (Stream Int)) (sink a Int) (let c (hold a k)) (let w (switchs c)) (let m (map x w (add x 1)))) (listen m)
-- (sender (send a 1) (send k m) (send a 2))
use Rattle.std.specs.Prelude.{List, [], ◌∷◌}
use Rattle.frp_base.specs.declared.name.Name.{Name}
use Rattle.frp_base.specs.declared.ty.Ty.TheVariants as t
use Rattle.frp_expr.specs.declared.expr.Expr.TheVariants as ex
use Rattle.frp_graph.specs.declared.prog.Prog.{Prog}
use Rattle.frp_graph.specs.declared.prog.Line3.TheVariants as line
use Rattle.frp_graph.specs.declared.prog.LineShape.TheVariants as l
use Rattle.frp_graph.specs.declared.shape.Shape.TheVariants as s
use Rattle.frp_graph.specs.declared.trace.Moment.{Moment}
use Rattle.frp_history.specs.declared.history.Cmd.{Cmd}
use Rattle.frp_history.specs.declared.history.Entry.{Entry}
use Rattle.frp_history.specs.declared.history.Reply.TheVariants.{Accepted}
use Rattle.frp_rows.specs.Writing.{item, stream_val, num, lit, program, line_code, lam, stream_node, cell_node, fires, moment, listens, send, sends, leaves, gave}
use Rattle.frp_graph.specs.declared.evidence.Evidence.{Evidence}
use Rattle.frp_graph.specs.declared.evidence.Phase.TheVariants.{After}
use Rattle.frp_graph.specs.declared.evidence.Why.TheVariants.{Chain}
use Rattle.frp_history.specs.declared.history.Reply.TheVariants.{Refused}
use Rattle.frp_history.specs.declared.history.No.TheVariants as no
use Rattle.frp_rows.specs.Writing.{ranked}

abbrev pub prog : Prog
prog = program (ex.Add (ex.Var 0) (lit 1) ∷ [])
    (line.Node (t.Stream (t.Stream t.Int)) l.Sink
    ∷ line.Node (t.Stream t.Int) l.Sink
    ∷ line.Node (t.Cell (t.Stream t.Int)) (l.Hold (ex.Var 1) (ex.Var 0))
    ∷ line.Node (t.Stream t.Int) (l.Switchs (ex.Var 2))
    ∷ line.Node (t.Stream t.Int) (l.Map (line_code 0 []) (ex.Var 3))
    ∷ [])

abbrev pub first : Moment
first = record {
  time = 0 ∷ [];
  born = stream_node 0 (t.Stream t.Int) s.Sink
      ∷ stream_node 1 t.Int s.Sink
      ∷ cell_node 2 (t.Stream t.Int) (s.Hold (item 0)) (stream_val 1)
      ∷ stream_node 3 t.Int (s.Switchs (item 2))
      ∷ stream_node 4 t.Int (s.Map (lam 0 []) (item 3))
      ∷ [];
  fired = [];
}

abbrev pub second : Moment
second = moment (2 ∷ []) (fires 1 (num 1) ∷ fires 3 (num 1) ∷ fires 4 (num 2) ∷ [])

abbrev pub trace : List Moment
trace = first ∷ second
    ∷ moment (4 ∷ []) (fires 1 (num 2) ∷ fires 3 (num 2) ∷ fires 4 (num 3) ∷ [])
    ∷ []

-- After the time, with every node settled, the switch and the map depend on each other.
abbrev pub evidence : Evidence
evidence = record {
  done = [];
  last = moment (3 ∷ []) (fires 0 (stream_val 4) ∷ fires 2 (stream_val 4) ∷ []);
  ranks = ranked 0 0 ∷ ranked 1 0 ∷ ranked 2 1 ∷ ranked 3 1 ∷ ranked 4 2 ∷ [];
  level = 3;
  why = Chain After (item 3 ∷ item 4 ∷ []);
}

abbrev pub entries : List Entry
entries = listens 4 1
    ∷ sends 1 (num 1) (Accepted 1)
    ∷ sends 0 (stream_val 4) (Refused (no.Cyclic evidence))
    ∷ sends 1 (num 2) (Accepted 1)
    ∷ leaves 1 (gave (2 ∷ []) 2 ∷ gave (4 ∷ []) 3 ∷ [])
    ∷ []

-- what the file listens to, and the script of its sender
abbrev pub listened : List Name
listened = item 4 ∷ []

abbrev pub script : List Cmd
script = send 1 (num 1) ∷ send 0 (stream_val 4) ∷ send 1 (num 2) ∷ []

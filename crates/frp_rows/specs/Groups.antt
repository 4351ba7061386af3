-- A group of sends, two of them to one sink that combines them, one that sends twice to a sink that doesn't, and a single send:
-- (graph (sink a Int x y (add x y)) (sink b Int) (let m (merge l r a b (sub l r)))) (listen m)
-- (sender (group (send a 1) (send a 2) (send b 10)) (group (send b 1) (send b 2)) (send b 4))
use Rattle.std.specs.Prelude.{List, [], ◌∷◌}
use Rattle.frp_base.specs.declared.name.Name.{Name}
use Rattle.frp_base.specs.declared.ty.Ty.TheVariants as t
use Rattle.frp_base.specs.declared.val.Val.{Val}
use Rattle.frp_base.specs.declared.val.Val.TheVariants as v
use Rattle.frp_expr.specs.declared.expr.Expr.TheVariants as ex
use Rattle.frp_graph.specs.declared.prog.Prog.{Prog}
use Rattle.frp_graph.specs.declared.prog.Line3.TheVariants as line
use Rattle.frp_graph.specs.declared.prog.LineShape.TheVariants as l
use Rattle.frp_graph.specs.declared.shape.Shape.TheVariants as s
use Rattle.frp_graph.specs.declared.trace.Moment.{Moment}
use Rattle.frp_history.specs.declared.history.Cmd.{Cmd}
use Rattle.frp_history.specs.declared.history.Entry.{Entry}
use Rattle.frp_history.specs.declared.history.Cmd.TheVariants as cmd
use Rattle.frp_history.specs.declared.history.Reply.TheVariants.{Accepted, Refused}
use Rattle.frp_history.specs.declared.history.No.TheVariants.{Twice}
use Rattle.std.specs.Prelude.{negsuc}
use Rattle.frp_rows.specs.Writing.{item, num, program, line_code, lam, stream_node, fires, moment, listens, send, sends, sends_all, leaves, gave}

abbrev pub prog : Prog
prog = record (program (ex.Sub (ex.Var 0) (ex.Var 1) ∷ ex.Add (ex.Var 0) (ex.Var 1) ∷ [])
    (line.Node (t.Stream t.Int) l.Sink
    ∷ line.Node (t.Stream t.Int) l.Sink
    ∷ line.Node (t.Stream t.Int) (l.Merge (line_code 0 []) (ex.Var 0) (ex.Var 1))
    ∷ [])) { joins = record { item = 0; code = 1 } ∷ [] }

abbrev pub first : Moment
first = record {
  time = 0 ∷ [];
  born = stream_node 0 t.Int s.Sink
      ∷ stream_node 1 t.Int s.Sink
      ∷ stream_node 2 t.Int (s.Merge (lam 0 []) (item 0) (item 1))
      ∷ [];
  fired = [];
}

-- 3 less 10
abbrev pub minus_seven : Val
minus_seven = v.Int (negsuc 6)

abbrev pub second : Moment
second = moment (2 ∷ []) (fires 0 (num 3) ∷ fires 1 (num 10) ∷ fires 2 minus_seven ∷ [])

abbrev pub trace : List Moment
trace = first ∷ second
    ∷ moment (4 ∷ []) (fires 1 (num 4) ∷ fires 2 (num 4) ∷ [])
    ∷ []

abbrev pub three : Cmd
three = cmd.Group (fires 0 (num 1) ∷ fires 0 (num 2) ∷ fires 1 (num 10) ∷ [])

abbrev pub twice : Cmd
twice = cmd.Group (fires 1 (num 1) ∷ fires 1 (num 2) ∷ [])

abbrev pub entries : List Entry
entries = listens 2 1
    ∷ sends_all three (Accepted 1)
    ∷ sends_all twice (Refused (Twice (item 1)))
    ∷ sends 1 (num 4) (Accepted 1)
    ∷ leaves 1 (record { time = 2 ∷ []; value = minus_seven } ∷ gave (4 ∷ []) 4 ∷ [])
    ∷ []

-- what the file listens to, and the script of its sender
abbrev pub listened : List Name
listened = item 2 ∷ []

abbrev pub script : List Cmd
script = three ∷ twice ∷ send 1 (num 4) ∷ []

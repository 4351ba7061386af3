-- A total through a loop:
-- (graph (sink a Int) (let l (loopc Int)) (let s (snapshot x y a l (add x y))) (let h (hold 0 s)) (tie l h)) (listen h)
-- (sender (send a 1) (send a 2) (send a 3))
use Rattle.std.specs.Prelude.{List, [], ◌∷◌}
use Rattle.frp_base.specs.declared.name.Name.{Name}
use Rattle.frp_base.specs.declared.ty.Ty.TheVariants as t
use Rattle.frp_expr.specs.declared.expr.Expr.TheVariants as ex
use Rattle.frp_graph.specs.declared.prog.Prog.{Prog}
use Rattle.frp_graph.specs.declared.prog.Line3.TheVariants as line
use Rattle.frp_graph.specs.declared.prog.LineShape.TheVariants as l
use Rattle.frp_graph.specs.declared.shape.Shape.TheVariants as s
use Rattle.frp_graph.specs.declared.trace.Moment.{Moment}
use Rattle.frp_history.specs.declared.history.Cmd.{Cmd}
use Rattle.frp_history.specs.declared.history.Entry.{Entry}
use Rattle.frp_history.specs.declared.history.Reply.TheVariants.{Accepted}
use Rattle.frp_rows.specs.Writing.{item, num, lit, program, line_code, lam, stream_node, cell_node, fires, moment, listens, send, sends, leaves, gave}

abbrev pub prog : Prog
prog = program (ex.Add (ex.Var 0) (ex.Var 1) ∷ [])
    (line.Node (t.Stream t.Int) l.Sink
    ∷ line.Node (t.Cell t.Int) (l.Loop 3)
    ∷ line.Node (t.Stream t.Int) (l.Snapshot (line_code 0 []) (ex.Var 0) (ex.Var 1))
    ∷ line.Node (t.Cell t.Int) (l.Hold (lit 0) (ex.Var 2))
    ∷ [])

abbrev pub trace : List Moment
trace = record {
  time = 0 ∷ [];
  born = stream_node 0 t.Int s.Sink
      ∷ cell_node 1 t.Int (s.Loop (item 3)) (num 0)
      ∷ stream_node 2 t.Int (s.Snapshot (lam 0 []) (item 0) (item 1))
      ∷ cell_node 3 t.Int (s.Hold (item 2)) (num 0)
      ∷ [];
  fired = [];
}
    ∷ moment (2 ∷ []) (fires 0 (num 1) ∷ fires 1 (num 1) ∷ fires 2 (num 1) ∷ fires 3 (num 1) ∷ [])
    ∷ moment (3 ∷ []) (fires 0 (num 2) ∷ fires 1 (num 3) ∷ fires 2 (num 3) ∷ fires 3 (num 3) ∷ [])
    ∷ moment (4 ∷ []) (fires 0 (num 3) ∷ fires 1 (num 6) ∷ fires 2 (num 6) ∷ fires 3 (num 6) ∷ [])
    ∷ []

abbrev pub entries : List Entry
entries = listens 3 1
    ∷ sends 0 (num 1) (Accepted 1)
    ∷ sends 0 (num 2) (Accepted 1)
    ∷ sends 0 (num 3) (Accepted 1)
    ∷ leaves 1 (gave (1 ∷ []) 0 ∷ gave (2 ∷ []) 1 ∷ gave (3 ∷ []) 3 ∷ gave (4 ∷ []) 6 ∷ [])
    ∷ []

-- what the file listens to, and the script of its sender
abbrev pub listened : List Name
listened = item 3 ∷ []

abbrev pub script : List Cmd
script = send 0 (num 1) ∷ send 0 (num 2) ∷ send 0 (num 3) ∷ []

-- Two splits that fire at the same child times:
-- (graph (sink a (List Int)) (let b (map x a (list 9))) (let p (split a)) (let q (split b)) (let m (merge x y p q (add x y))))
-- (listen m) (sender (send a (list 7 8)))
use Rattle.std.specs.Prelude.{List, [], ◌∷◌}
use Rattle.frp_base.specs.declared.name.Name.{Name}
use Rattle.frp_base.specs.declared.ty.Ty.TheVariants as t
use Rattle.frp_base.specs.declared.val.Val.TheVariants as v
use Rattle.frp_expr.specs.declared.expr.Expr.TheVariants as ex
use Rattle.frp_graph.specs.declared.prog.Prog.{Prog}
use Rattle.frp_graph.specs.declared.prog.Line3.TheVariants as line
use Rattle.frp_graph.specs.declared.prog.LineShape.TheVariants as l
use Rattle.frp_graph.specs.declared.shape.Shape.TheVariants as s
use Rattle.frp_graph.specs.declared.trace.Moment.{Moment}
use Rattle.frp_history.specs.declared.history.Cmd.{Cmd}
use Rattle.frp_history.specs.declared.history.Entry.{Entry}
use Rattle.frp_history.specs.declared.history.Reply.TheVariants.{Accepted}
use Rattle.frp_rows.specs.Writing.{item, num, lit, program, line_code, lam, stream_node, fires, moment, listens, send, sends, leaves, gave}

abbrev pub prog : Prog
prog = program (ex.List (lit 9 ∷ []) ∷ ex.Add (ex.Var 0) (ex.Var 1) ∷ [])
    (line.Node (t.Stream (t.List t.Int)) l.Sink
    ∷ line.Node (t.Stream (t.List t.Int)) (l.Map (line_code 0 []) (ex.Var 0))
    ∷ line.Node (t.Stream t.Int) (l.Split (ex.Var 0))
    ∷ line.Node (t.Stream t.Int) (l.Split (ex.Var 1))
    ∷ line.Node (t.Stream t.Int) (l.Merge (line_code 1 []) (ex.Var 2) (ex.Var 3))
    ∷ [])

abbrev pub first : Moment
first = record {
  time = 0 ∷ [];
  born = stream_node 0 (t.List t.Int) s.Sink
      ∷ stream_node 1 (t.List t.Int) (s.Map (lam 0 []) (item 0))
      ∷ stream_node 2 t.Int (s.Split (item 0))
      ∷ stream_node 3 t.Int (s.Split (item 1))
      ∷ stream_node 4 t.Int (s.Merge (lam 1 []) (item 2) (item 3))
      ∷ [];
  fired = [];
}

abbrev pub sent : Moment
sent = moment (2 ∷ []) (fires 0 (v.List (num 7 ∷ num 8 ∷ [])) ∷ fires 1 (v.List (num 9 ∷ [])) ∷ [])

abbrev pub both : Moment
both = moment (2 ∷ 0 ∷ []) (fires 2 (num 7) ∷ fires 3 (num 9) ∷ fires 4 (num 16) ∷ [])

abbrev pub trace : List Moment
trace = first ∷ sent ∷ both
    ∷ moment (2 ∷ 1 ∷ []) (fires 2 (num 8) ∷ fires 4 (num 8) ∷ [])
    ∷ []

abbrev pub entries : List Entry
entries = listens 4 1
    ∷ sends 0 (v.List (num 7 ∷ num 8 ∷ [])) (Accepted 3)
    ∷ leaves 1 (gave (2 ∷ 0 ∷ []) 16 ∷ gave (2 ∷ 1 ∷ []) 8 ∷ [])
    ∷ []

-- what the file listens to, and the script of its sender
abbrev pub listened : List Name
listened = item 4 ∷ []

abbrev pub script : List Cmd
script = send 0 (v.List (num 7 ∷ num 8 ∷ [])) ∷ []

-- A sink and a map of it:
-- (graph (sink a Int) (let b (map x a (add x 1)))) (listen b) (sender (send a 4))
use Rattle.std.specs.Prelude.{List, [], ◌∷◌}
use Rattle.frp_base.specs.declared.name.Name.{Name}
use Rattle.frp_base.specs.declared.ty.Ty.TheVariants as t
use Rattle.frp_expr.specs.declared.expr.Expr.TheVariants as ex
use Rattle.frp_graph.specs.declared.prog.Prog.{Prog}
use Rattle.frp_graph.specs.declared.prog.Line3.TheVariants as line
use Rattle.frp_graph.specs.declared.prog.LineShape.TheVariants as l
use Rattle.frp_graph.specs.declared.shape.Shape.TheVariants as s
use Rattle.frp_graph.specs.declared.trace.Moment.{Moment}
use Rattle.frp_history.specs.declared.history.Cmd.{Cmd}
use Rattle.frp_history.specs.declared.history.Entry.{Entry}
use Rattle.frp_history.specs.declared.history.Reply.TheVariants.{Accepted}
use Rattle.frp_rows.specs.Writing.{item, num, lit, program, line_code, lam, stream_node, fires, moment, listens, send, sends, leaves, gave}

abbrev pub prog : Prog
prog = program (ex.Add (ex.Var 0) (lit 1) ∷ [])
    (line.Node (t.Stream t.Int) l.Sink
    ∷ line.Node (t.Stream t.Int) (l.Map (line_code 0 []) (ex.Var 0))
    ∷ [])

abbrev pub trace : List Moment
trace = record {
  time = 0 ∷ [];
  born = stream_node 0 t.Int s.Sink
      ∷ stream_node 1 t.Int (s.Map (lam 0 []) (item 0))
      ∷ [];
  fired = [];
}
    ∷ moment (2 ∷ []) (fires 0 (num 4) ∷ fires 1 (num 5) ∷ [])
    ∷ []

abbrev pub entries : List Entry
entries = listens 1 1
    ∷ sends 0 (num 4) (Accepted 1)
    ∷ leaves 1 (gave (2 ∷ []) 5 ∷ [])
    ∷ []

-- what the file listens to, and the script of its sender
abbrev pub listened : List Name
listened = item 1 ∷ []

abbrev pub script : List Cmd
script = send 0 (num 4) ∷ []

-- A cell that would begin with its own first value:
-- (graph (sink a Int) (let l (loopc Int)) (let k (constant l)) (let w (switchc k)) (tie l w))
use Rattle.std.specs.Prelude.{[], ◌∷◌}
use Rattle.frp_base.specs.declared.ty.Ty.TheVariants as t
use Rattle.frp_expr.specs.declared.expr.Expr.TheVariants as ex
use Rattle.frp_graph.specs.declared.prog.Prog.{Prog}
use Rattle.frp_graph.specs.declared.prog.Line3.TheVariants as line
use Rattle.frp_graph.specs.declared.prog.LineShape.TheVariants as l
use Rattle.frp_graph.specs.declared.shape.Shape.TheVariants as s
use Rattle.frp_graph.specs.declared.trace.Moment.{Moment}
use Rattle.frp_rows.specs.Writing.{item, cell_val, program, stream_node, cell_node}
use Rattle.frp_graph.specs.declared.evidence.Evidence.{Evidence}
use Rattle.frp_graph.specs.declared.evidence.Phase.TheVariants.{Birth}
use Rattle.frp_graph.specs.declared.evidence.Why.TheVariants.{Chain}
use Rattle.frp_rows.specs.Writing.{ranked}
use Rattle.std.specs.Prelude.{ℕ, None}
use Rattle.frp_graph.specs.declared.shape.Shape.{Shape}
use Rattle.frp_graph.specs.declared.trace.Node.{Node}

abbrev pub prog : Prog
prog = program []
    (line.Node (t.Stream t.Int) l.Sink
    ∷ line.Node (t.Cell t.Int) (l.Loop 3)
    ∷ line.Node (t.Cell (t.Cell t.Int)) (l.Constant (ex.Var 1))
    ∷ line.Node (t.Cell t.Int) (l.Switchc (ex.Var 2))
    ∷ [])

-- a cell without a first value
abbrev pub missing : ℕ → Shape → Node
missing k shape = record { name = item k; shape = shape; ty = t.Cell t.Int; first = None }

abbrev pub last : Moment
last = record {
  time = 0 ∷ [];
  born = stream_node 0 t.Int s.Sink
      ∷ missing 1 (s.Loop (item 3))
      ∷ cell_node 2 (t.Cell t.Int) s.Constant (cell_val 1)
      ∷ missing 3 (s.Switchc (item 2))
      ∷ [];
  fired = [];
}

-- The loop and the switch have no first value.
abbrev pub evidence : Evidence
evidence = record {
  done = [];
  last = last;
  ranks = ranked 0 0 ∷ ranked 1 0 ∷ ranked 2 0 ∷ ranked 3 0 ∷ [];
  level = 0;
  why = Chain Birth (item 1 ∷ item 3 ∷ []);
}

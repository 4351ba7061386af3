-- A send of a value that names the node which its own transaction makes of it, so that the node's first value is any:
-- (graph (template t (p (Cell Int)) () (get v p) (let n (constant v)) (give v)) (sink a (Cell Int)) (let e (execute a t)))
use Rattle.std.specs.Prelude.{ℕ, List, [], ◌∷◌, Some, None}
use Rattle.frp_base.specs.declared.name.Name.{Name}
use Rattle.frp_base.specs.declared.ty.Ty.TheVariants as t
use Rattle.frp_base.specs.declared.val.Val.TheVariants as v
use Rattle.frp_expr.specs.declared.expr.Expr.TheVariants as ex
use Rattle.frp_graph.specs.declared.prog.Prog.{Prog}
use Rattle.frp_graph.specs.declared.prog.Line3.TheVariants as line
use Rattle.frp_graph.specs.declared.prog.LineShape.TheVariants as l
use Rattle.frp_graph.specs.declared.shape.Shape.TheVariants as s
use Rattle.frp_graph.specs.declared.trace.Moment.{Moment}
use Rattle.frp_base.specs.Name.{made_name}
use Rattle.frp_graph.specs.declared.prog.Body.{Body}
use Rattle.frp_graph.specs.declared.trace.Sent.{Sent}
use Rattle.frp_rows.specs.Writing.{item, num, stream_node, fires, sent_at}

abbrev pub keeping : Body
keeping = record {
  param = Some (t.Cell t.Int);
  kept = [];
  lines = line.Get (ex.Var 0) ∷ line.Node (t.Cell t.Int) (l.Constant (ex.Var 1)) ∷ [];
  give = Some (ex.Var 1);
}

abbrev pub prog : Prog
prog = record {
  codes = [];
  funs = [];
  templates = keeping ∷ [];
  joins = [];
  body = record {
    param = None;
    kept = [];
    give = None;
    lines = line.Node (t.Stream (t.Cell t.Int)) l.Sink ∷ line.Node (t.Stream t.Int) (l.Execute (ex.Var 0) 0 []) ∷ [];
  };
}

abbrev pub made : Name
made = made_name (item 1) (1 ∷ []) 0

abbrev pub tried : List Sent
tried = sent_at 1 0 (v.Cell made) ∷ []

abbrev pub first : Moment
first = record {
  time = 0 ∷ [];
  born = stream_node 0 (t.Cell t.Int) s.Sink ∷ stream_node 1 t.Int (s.Execute (item 0) 0 []) ∷ [];
  fired = [];
}

-- the trace in which the node that is made begins with this number
abbrev pub trace : ℕ → List Moment
trace n = first
    ∷ record {
      time = 1 ∷ [];
      born = record { name = made; shape = s.Constant; ty = t.Cell t.Int; first = Some (num n) } ∷ [];
      fired = fires 0 (v.Cell made) ∷ fires 1 (num n) ∷ [];
    }
    ∷ []

-- A build with child times: a split that is live at its own birth, where its source fires:
-- (graph (let c (constant (list 7 8))) (let v (value c)) (let p (split v)) (let h (hold 0 p))) (listen h)
use Rattle.std.specs.Prelude.{ℕ, List, [], ◌∷◌}
use Rattle.frp_base.specs.declared.name.Name.{Name}
use Rattle.frp_base.specs.declared.ty.Ty.TheVariants as t
use Rattle.frp_base.specs.declared.val.Val.{Val}
use Rattle.frp_base.specs.declared.val.Val.TheVariants as v
use Rattle.frp_expr.specs.declared.expr.Expr.TheVariants as ex
use Rattle.frp_graph.specs.declared.prog.Prog.{Prog}
use Rattle.frp_graph.specs.declared.prog.Line3.TheVariants as line
use Rattle.frp_graph.specs.declared.prog.LineShape.TheVariants as l
use Rattle.frp_graph.specs.declared.shape.Shape.TheVariants as s
use Rattle.frp_graph.specs.declared.trace.Moment.{Moment}
use Rattle.frp_graph.specs.declared.evidence.Evidence.{Evidence}
use Rattle.frp_graph.specs.declared.evidence.Why.TheVariants.{Endless}
use Rattle.frp_graph.specs.declared.limits.Limits.{Limits}
use Rattle.frp_history.specs.declared.history.Entry.{Entry}
use Rattle.frp_rows.specs.Writing.{item, num, lit, program, stream_node, cell_node, fires, moment, ranked, usual, listens, leaves, gave}

abbrev pub prog : Prog
prog = program []
    (line.Node (t.Cell (t.List t.Int)) (l.Constant (ex.List (lit 7 ∷ lit 8 ∷ [])))
    ∷ line.Node (t.Stream (t.List t.Int)) (l.Value (ex.Var 0))
    ∷ line.Node (t.Stream t.Int) (l.Split (ex.Var 1))
    ∷ line.Node (t.Cell t.Int) (l.Hold (lit 0) (ex.Var 2))
    ∷ [])

abbrev pub both : Val
both = v.List (num 7 ∷ num 8 ∷ [])

abbrev pub first : Moment
first = record {
  time = 0 ∷ [];
  born = cell_node 0 (t.List t.Int) s.Constant both
      ∷ stream_node 1 (t.List t.Int) (s.Value (item 0))
      ∷ stream_node 2 t.Int (s.Split (item 1))
      ∷ cell_node 3 t.Int (s.Hold (item 2)) (num 0)
      ∷ [];
  fired = fires 1 both ∷ [];
}

-- an item is given, at a child of the build
abbrev pub gives : ℕ → ℕ → Moment
gives i n = moment (0 ∷ i ∷ []) (fires 2 (num n) ∷ fires 3 (num n) ∷ [])

abbrev pub trace : List Moment
trace = first ∷ gives 0 7 ∷ gives 1 8 ∷ []

abbrev pub entries : List Entry
entries = listens 3 1 ∷ leaves 1 (gave (1 ∷ []) 8 ∷ []) ∷ []

-- what the file listens to
abbrev pub listened : List Name
listened = item 3 ∷ []

-- With at most two moments a transaction, the build is refused after two: the second item is still to be given.
abbrev pub two : Limits
two = record usual { moments = 2 }

abbrev pub evidence : Evidence
evidence = record {
  done = first ∷ [];
  last = gives 0 7;
  ranks = ranked 0 0 ∷ ranked 1 1 ∷ ranked 2 0 ∷ ranked 3 1 ∷ [];
  level = 2;
  why = Endless 2;
}

-- the same with a node above the level, which neither fires nor is linked to
abbrev pub unsettled : Evidence
unsettled = record evidence { ranks = ranked 0 0 ∷ ranked 1 2 ∷ ranked 2 0 ∷ ranked 3 1 ∷ [] }

-- Instances made after the build: a loop tied to an older cell that has stepped, and a split that is live at its own birth:
-- (graph (template t (p (List Int)) ((c (Cell Int)) (s (Stream (List Int)))) (let l (loopc Int)) (let q (split s)) (tie l c) (give l))
-- (sink a Int) (sink b (List Int)) (let h (hold 0 a)) (let e (execute b t h b))),
-- sent 4 to a, a list to b, and 5 to a, with a listener of the loop
use Rattle.std.specs.Prelude.{ℕ, List, [], ◌∷◌, Some, None}
use Rattle.frp_base.specs.declared.name.Name.{Name}
use Rattle.frp_base.specs.declared.ty.Ty.TheVariants as t
use Rattle.frp_base.specs.declared.val.Val.TheVariants as v
use Rattle.frp_expr.specs.declared.expr.Expr.TheVariants as ex
use Rattle.frp_graph.specs.declared.prog.Prog.{Prog}
use Rattle.frp_graph.specs.declared.prog.Line3.TheVariants as line
use Rattle.frp_graph.specs.declared.prog.LineShape.TheVariants as l
use Rattle.frp_graph.specs.declared.shape.Shape.TheVariants as s
use Rattle.frp_graph.specs.declared.trace.Moment.{Moment}
use Rattle.frp_history.specs.declared.history.Entry.{Entry}
use Rattle.frp_base.specs.Name.{made_name}
use Rattle.frp_graph.specs.declared.prog.Body.{Body}
use Rattle.frp_graph.specs.declared.trace.Fact.{Fact}
use Rattle.frp_history.specs.declared.history.Cmd.TheVariants as cmd
use Rattle.frp_history.specs.declared.history.Reply.TheVariants.{Accepted, Joined}
use Rattle.frp_rows.specs.Writing.{item, cell_val, stream_val, num, lit, stream_node, cell_node, fires, moment, key, sends, leaves, gave}

abbrev pub late : Body
late = record {
  param = Some (t.List t.Int);
  kept = t.Cell t.Int ∷ t.Stream (t.List t.Int) ∷ [];
  lines = line.Node (t.Cell t.Int) (l.Loop 1) ∷ line.Node (t.Stream t.Int) (l.Split (ex.Var 2)) ∷ [];
  give = Some (ex.Var 3);
}

abbrev pub prog : Prog
prog = record {
  codes = [];
  funs = [];
  templates = late ∷ [];
  joins = [];
  body = record {
    param = None;
    kept = [];
    give = None;
    lines = line.Node (t.Stream t.Int) l.Sink
        ∷ line.Node (t.Stream (t.List t.Int)) l.Sink
        ∷ line.Node (t.Cell t.Int) (l.Hold (lit 0) (ex.Var 0))
        ∷ line.Node (t.Stream (t.Cell t.Int)) (l.Execute (ex.Var 1) 0 (ex.Var 2 ∷ ex.Var 1 ∷ []))
        ∷ [];
  };
}

abbrev pub first : Moment
first = record {
  time = 0 ∷ [];
  born = stream_node 0 t.Int s.Sink
      ∷ stream_node 1 (t.List t.Int) s.Sink
      ∷ cell_node 2 t.Int (s.Hold (item 0)) (num 0)
      ∷ stream_node 3 (t.Cell t.Int) (s.Execute (item 1) 0 (cell_val 2 ∷ stream_val 1 ∷ []))
      ∷ [];
  fired = [];
}

-- the node k of the instance
abbrev pub made : ℕ → Name
made = made_name (item 3) (2 ∷ [])

abbrev pub made_fires : ℕ → ℕ → Fact
made_fires k n = record { node = made k; value = num n }

abbrev pub first_step : Moment
first_step = moment (1 ∷ []) (fires 0 (num 4) ∷ fires 2 (num 4) ∷ [])

-- The loop begins with the first value of the cell, which has stepped since.
abbrev pub born_late : Moment
born_late = record {
  time = 2 ∷ [];
  born = record { name = made 0; shape = s.Loop (item 2); ty = t.Cell t.Int; first = Some (num 0) }
      ∷ record { name = made 1; shape = s.Split (item 1); ty = t.Stream t.Int; first = None }
      ∷ [];
  fired = fires 1 (v.List (num 7 ∷ [])) ∷ fires 3 (v.Cell (made 0)) ∷ [];
}

-- The split gives the item of the time at which it was born.
abbrev pub given_late : Moment
given_late = moment (2 ∷ 0 ∷ []) (made_fires 1 7 ∷ [])

abbrev pub trace : List Moment
trace = first ∷ first_step ∷ born_late ∷ given_late
    ∷ moment (4 ∷ []) (fires 0 (num 5) ∷ fires 2 (num 5) ∷ made_fires 0 5 ∷ [])
    ∷ []

abbrev pub entries : List Entry
entries = sends 0 (num 4) (Accepted 1)
    ∷ sends 1 (v.List (num 7 ∷ [])) (Accepted 2)
    ∷ record { caller = 0; cmd = cmd.Join (made 0); reply = Joined (key 3) }
    ∷ sends 0 (num 5) (Accepted 1)
    ∷ leaves 3 (gave (3 ∷ []) 0 ∷ gave (4 ∷ []) 5 ∷ [])
    ∷ []

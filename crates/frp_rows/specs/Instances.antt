-- Templates: one makes a hold at each occurrence, one gets the value of a cell:
-- (graph (template t (p Int) ((s (Stream Int))) (let h (hold 0 s)) (give h)) (template u (p (Cell Int)) () (get v p) (give v))
-- (sink a Int) (let e (execute a t a)) (let g (execute e u)) (let n (constant 5)) (let c (hold n e)) (let w (switchc c)))
-- (listen g) (listen w) (sender (send a 4) (send a 6))
use Rattle.std.specs.Prelude.{List, [], ◌∷◌}
use Rattle.frp_base.specs.declared.ty.Ty.TheVariants as t
use Rattle.frp_base.specs.declared.val.Val.TheVariants as v
use Rattle.frp_expr.specs.declared.expr.Expr.TheVariants as ex
use Rattle.frp_graph.specs.declared.prog.Prog.{Prog}
use Rattle.frp_graph.specs.declared.prog.Line3.TheVariants as line
use Rattle.frp_graph.specs.declared.prog.LineShape.TheVariants as l
use Rattle.frp_graph.specs.declared.shape.Shape.TheVariants as s
use Rattle.frp_graph.specs.declared.trace.Moment.{Moment}
use Rattle.frp_history.specs.declared.history.Cmd.{Cmd}
use Rattle.frp_history.specs.declared.history.Entry.{Entry}
use Rattle.frp_history.specs.declared.history.Reply.TheVariants.{Accepted}
use Rattle.frp_rows.specs.Writing.{item, stream_val, cell_val, num, lit, stream_node, cell_node, fires, listens, send, sends, leaves, gave}
use Rattle.std.specs.Prelude.{ℕ, Some, None}
use Rattle.frp_base.specs.declared.name.Name.{Name}
use Rattle.frp_base.specs.Name.{made_name}
use Rattle.frp_graph.specs.declared.prog.Body.{Body}
use Rattle.frp_graph.specs.declared.trace.Node.{Node}
use Rattle.frp_graph.specs.declared.trace.Fact.{Fact}

abbrev pub holding : Body
holding = record { param = Some t.Int; kept = t.Stream t.Int ∷ []; lines = line.Node (t.Cell t.Int) (l.Hold (lit 0) (ex.Var 1)) ∷ []; give = Some (ex.Var 2) }

abbrev pub getting : Body
getting = record { param = Some (t.Cell t.Int); kept = []; lines = line.Get (ex.Var 0) ∷ []; give = Some (ex.Var 1) }

abbrev pub prog : Prog
prog = record {
  codes = [];
  funs = [];
  templates = holding ∷ getting ∷ [];
  joins = [];
  body = record {
    param = None;
    kept = [];
    give = None;
    lines = line.Node (t.Stream t.Int) l.Sink
        ∷ line.Node (t.Stream (t.Cell t.Int)) (l.Execute (ex.Var 0) 0 (ex.Var 0 ∷ []))
        ∷ line.Node (t.Stream t.Int) (l.Execute (ex.Var 1) 1 [])
        ∷ line.Node (t.Cell t.Int) (l.Constant (lit 5))
        ∷ line.Node (t.Cell (t.Cell t.Int)) (l.Hold (ex.Var 3) (ex.Var 1))
        ∷ line.Node (t.Cell t.Int) (l.Switchc (ex.Var 4))
        ∷ [];
  };
}

abbrev pub first : Moment
first = record {
  time = 0 ∷ [];
  born = stream_node 0 t.Int s.Sink
      ∷ stream_node 1 (t.Cell t.Int) (s.Execute (item 0) 0 (stream_val 0 ∷ []))
      ∷ stream_node 2 t.Int (s.Execute (item 1) 1 [])
      ∷ cell_node 3 t.Int s.Constant (num 5)
      ∷ cell_node 4 (t.Cell t.Int) (s.Hold (item 1)) (cell_val 3)
      ∷ cell_node 5 t.Int (s.Switchc (item 4)) (num 5)
      ∷ [];
  fired = [];
}

-- the hold that is made at the time of place k
abbrev pub made : ℕ → Name
made k = made_name (item 1) (k ∷ []) 0

abbrev pub born_at : ℕ → Node
born_at k = record { name = made k; shape = s.Hold (item 0); ty = t.Cell t.Int; first = Some (num 0) }

abbrev pub steps : ℕ → ℕ → Fact
steps k n = record { node = made k; value = num n }

abbrev pub third : Moment
third = record {
  time = 3 ∷ [];
  born = born_at 3 ∷ [];
  fired = fires 0 (num 4) ∷ fires 1 (v.Cell (made 3)) ∷ steps 3 4 ∷ fires 2 (num 0) ∷ fires 4 (v.Cell (made 3)) ∷ fires 5 (num 4) ∷ [];
}

abbrev pub trace : List Moment
trace = first ∷ third
    ∷ record {
      time = 4 ∷ [];
      born = born_at 4 ∷ [];
      fired = fires 0 (num 6) ∷ fires 1 (v.Cell (made 4)) ∷ steps 3 6 ∷ steps 4 6 ∷ fires 2 (num 0) ∷ fires 4 (v.Cell (made 4)) ∷ fires 5 (num 6) ∷ [];
    }
    ∷ []

abbrev pub entries : List Entry
entries = listens 2 1
    ∷ listens 5 2
    ∷ sends 0 (num 4) (Accepted 1)
    ∷ sends 0 (num 6) (Accepted 1)
    ∷ leaves 1 (gave (3 ∷ []) 0 ∷ gave (4 ∷ []) 0 ∷ [])
    ∷ leaves 2 (gave (2 ∷ []) 5 ∷ gave (3 ∷ []) 4 ∷ gave (4 ∷ []) 6 ∷ [])
    ∷ []

-- what the file listens to, and the script of its sender
abbrev pub listened : List Name
listened = item 2 ∷ item 5 ∷ []

abbrev pub script : List Cmd
script = send 0 (num 4) ∷ send 0 (num 6) ∷ []

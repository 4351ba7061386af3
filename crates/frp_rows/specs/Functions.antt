-- A function value applied, the value and the steps of a cell, and a stream that never fires:
-- (graph (fun f ((k Int)) (x Int) (add x k)) (sink a Int) (let h (hold 1 a)) (let m (mapc y h (close f y))) (let p (apply m h))
-- (let v (value h)) (let u (updates p)) (let n (never Int)) (let g (merge x y u n x))) (listen p) (listen v) (listen g)
-- (sender (send a 5))
use Rattle.std.specs.Prelude.{ℕ, List, [], ◌∷◌, None}
use Rattle.frp_base.specs.declared.name.Name.{Name}
use Rattle.frp_base.specs.declared.ty.Ty.TheVariants as t
use Rattle.frp_base.specs.declared.val.Val.{Val}
use Rattle.frp_base.specs.declared.val.Val.TheVariants as v
use Rattle.frp_expr.specs.declared.expr.Expr.TheVariants as ex
use Rattle.frp_graph.specs.declared.prog.Prog.{Prog}
use Rattle.frp_graph.specs.declared.prog.Line3.TheVariants as line
use Rattle.frp_graph.specs.declared.prog.LineShape.TheVariants as l
use Rattle.frp_graph.specs.declared.shape.Shape.TheVariants as s
use Rattle.frp_graph.specs.declared.trace.Moment.{Moment}
use Rattle.frp_history.specs.declared.history.Cmd.{Cmd}
use Rattle.frp_history.specs.declared.history.Entry.{Entry}
use Rattle.frp_history.specs.declared.history.Reply.TheVariants.{Accepted}
use Rattle.frp_rows.specs.Writing.{item, num, lit, line_code, lam, stream_node, cell_node, fires, moment, listens, send, sends, leaves, gave}

abbrev pub prog : Prog
prog = record {
  codes = ex.Close 0 (ex.Var 0 ∷ []) ∷ ex.Var 0 ∷ [];
  funs = record { kept = t.Int ∷ []; arg = t.Int; result = t.Int; e = ex.Add (ex.Var 1) (ex.Var 0) } ∷ [];
  templates = [];
  joins = [];
  body = record {
    param = None;
    kept = [];
    give = None;
    lines = line.Node (t.Stream t.Int) l.Sink
        ∷ line.Node (t.Cell t.Int) (l.Hold (lit 1) (ex.Var 0))
        ∷ line.Node (t.Cell (t.Fun t.Int t.Int)) (l.Mapc (line_code 0 []) (ex.Var 1))
        ∷ line.Node (t.Cell t.Int) (l.Apply (ex.Var 2) (ex.Var 1))
        ∷ line.Node (t.Stream t.Int) (l.Value (ex.Var 1))
        ∷ line.Node (t.Stream t.Int) (l.Updates (ex.Var 3))
        ∷ line.Node (t.Stream t.Int) l.Never
        ∷ line.Node (t.Stream t.Int) (l.Merge (line_code 1 []) (ex.Var 5) (ex.Var 6))
        ∷ [];
  };
}

-- the function value that adds a number
abbrev pub adds : ℕ → Val
adds n = v.Fun 0 (num n ∷ [])

-- the value of the hold fires at its birth
abbrev pub first : Moment
first = record {
  time = 0 ∷ [];
  born = stream_node 0 t.Int s.Sink
      ∷ cell_node 1 t.Int (s.Hold (item 0)) (num 1)
      ∷ cell_node 2 (t.Fun t.Int t.Int) (s.Mapc (lam 0 []) (item 1)) (adds 1)
      ∷ cell_node 3 t.Int (s.Apply (item 2) (item 1)) (num 2)
      ∷ stream_node 4 t.Int (s.Value (item 1))
      ∷ stream_node 5 t.Int (s.Updates (item 3))
      ∷ stream_node 6 t.Int s.Never
      ∷ stream_node 7 t.Int (s.Merge (lam 1 []) (item 5) (item 6))
      ∷ [];
  fired = fires 4 (num 1) ∷ [];
}

abbrev pub fourth : Moment
fourth = moment (4 ∷ [])
    (fires 0 (num 5) ∷ fires 1 (num 5) ∷ fires 2 (adds 5) ∷ fires 3 (num 10) ∷ fires 4 (num 5) ∷ fires 5 (num 10) ∷ fires 7 (num 10) ∷ [])

abbrev pub trace : List Moment
trace = first ∷ fourth ∷ []

abbrev pub entries : List Entry
entries = listens 3 1
    ∷ listens 4 2
    ∷ listens 7 3
    ∷ sends 0 (num 5) (Accepted 1)
    ∷ leaves 1 (gave (1 ∷ []) 2 ∷ gave (4 ∷ []) 10 ∷ [])
    ∷ leaves 2 (gave (4 ∷ []) 5 ∷ [])
    ∷ leaves 3 (gave (4 ∷ []) 10 ∷ [])
    ∷ []

-- what the file listens to, and the script of its sender
abbrev pub listened : List Name
listened = item 3 ∷ item 4 ∷ item 7 ∷ []

abbrev pub script : List Cmd
script = send 0 (num 5) ∷ []

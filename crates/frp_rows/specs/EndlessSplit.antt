-- A split that feeds itself, with at most four moments a transaction:
-- (graph (sink a Int) (let l (loops Int)) (let u (merge x y a l x)) (let f (filter x u (lt 0 x))) (let d (map x f (list (sub x 1))))
-- (let p (split d)) (tie l p) (let h (hold 9 u))), sent 4 and then 3
use Rattle.std.specs.Prelude.{List, [], ◌∷◌}
use Rattle.frp_base.specs.declared.name.Name.{Name}
use Rattle.frp_base.specs.declared.ty.Ty.TheVariants as t
use Rattle.frp_base.specs.declared.val.Val.TheVariants as v
use Rattle.frp_expr.specs.declared.expr.Expr.TheVariants as ex
use Rattle.frp_graph.specs.declared.prog.Prog.{Prog}
use Rattle.frp_graph.specs.declared.prog.Line3.TheVariants as line
use Rattle.frp_graph.specs.declared.prog.LineShape.TheVariants as l
use Rattle.frp_graph.specs.declared.shape.Shape.TheVariants as s
use Rattle.frp_graph.specs.declared.trace.Moment.{Moment}
use Rattle.frp_history.specs.declared.history.Cmd.{Cmd}
use Rattle.frp_history.specs.declared.history.Entry.{Entry}
use Rattle.frp_history.specs.declared.history.Reply.TheVariants.{Accepted}
use Rattle.frp_rows.specs.Writing.{item, num, lit, program, line_code, lam, stream_node, cell_node, fires, moment, send, sends}
use Rattle.frp_graph.specs.declared.evidence.Evidence.{Evidence}
use Rattle.frp_graph.specs.declared.evidence.Why.TheVariants.{Endless}
use Rattle.frp_history.specs.declared.history.Reply.TheVariants.{Refused}
use Rattle.frp_history.specs.declared.history.No.TheVariants as no
use Rattle.frp_graph.specs.declared.limits.Limits.{Limits}
use Rattle.frp_rows.specs.Writing.{ranked, usual}
use Rattle.std.specs.Prelude.{ℕ}
use Rattle.frp_base.specs.declared.time.Time.{Time}

abbrev pub prog : Prog
prog = program (ex.Var 0 ∷ ex.Lt (lit 0) (ex.Var 0) ∷ ex.List (ex.Sub (ex.Var 0) (lit 1) ∷ []) ∷ [])
    (line.Node (t.Stream t.Int) l.Sink
    ∷ line.Node (t.Stream t.Int) (l.Loop 5)
    ∷ line.Node (t.Stream t.Int) (l.Merge (line_code 0 []) (ex.Var 0) (ex.Var 1))
    ∷ line.Node (t.Stream t.Int) (l.Filter (line_code 1 []) (ex.Var 2))
    ∷ line.Node (t.Stream (t.List t.Int)) (l.Map (line_code 2 []) (ex.Var 3))
    ∷ line.Node (t.Stream t.Int) (l.Split (ex.Var 4))
    ∷ line.Node (t.Cell t.Int) (l.Hold (lit 9) (ex.Var 2))
    ∷ [])

abbrev pub few : Limits
few = record usual { moments = 4 }

abbrev pub first : Moment
first = record {
  time = 0 ∷ [];
  born = stream_node 0 t.Int s.Sink
      ∷ stream_node 1 t.Int (s.Loop (item 5))
      ∷ stream_node 2 t.Int (s.Merge (lam 0 []) (item 0) (item 1))
      ∷ stream_node 3 t.Int (s.Filter (lam 1 []) (item 2))
      ∷ stream_node 4 (t.List t.Int) (s.Map (lam 2 []) (item 3))
      ∷ stream_node 5 t.Int (s.Split (item 4))
      ∷ cell_node 6 t.Int (s.Hold (item 2)) (num 9)
      ∷ [];
  fired = [];
}

-- what happens of a number that is sent, and of one that is given by the split, with the next in the list; and of 0
abbrev pub of_sent : Time → ℕ → ℕ → Moment
of_sent u n next = moment u (fires 0 (num n) ∷ fires 2 (num n) ∷ fires 3 (num n) ∷ fires 4 (v.List (num next ∷ [])) ∷ fires 6 (num n) ∷ [])

abbrev pub of_given : Time → ℕ → ℕ → Moment
of_given u n next = moment u (fires 1 (num n) ∷ fires 2 (num n) ∷ fires 3 (num n) ∷ fires 4 (v.List (num next ∷ [])) ∷ fires 5 (num n) ∷ fires 6 (num n) ∷ [])

abbrev pub of_zero : Time → Moment
of_zero u = moment u (fires 1 (num 0) ∷ fires 2 (num 0) ∷ fires 5 (num 0) ∷ fires 6 (num 0) ∷ [])

abbrev pub trace : List Moment
trace = first ∷ of_sent (2 ∷ []) 3 2 ∷ of_given (2 ∷ 0 ∷ []) 2 1 ∷ of_given (2 ∷ 0 ∷ 0 ∷ []) 1 0 ∷ of_zero (2 ∷ 0 ∷ 0 ∷ 0 ∷ []) ∷ []

-- After four moments the list of one more is there.
abbrev pub evidence : Evidence
evidence = record {
  done = of_sent (1 ∷ []) 4 3 ∷ of_given (1 ∷ 0 ∷ []) 3 2 ∷ of_given (1 ∷ 0 ∷ 0 ∷ []) 2 1 ∷ [];
  last = of_given (1 ∷ 0 ∷ 0 ∷ 0 ∷ []) 1 0;
  ranks = ranked 0 0 ∷ ranked 1 1 ∷ ranked 2 2 ∷ ranked 3 3 ∷ ranked 4 4 ∷ ranked 5 0 ∷ ranked 6 3 ∷ [];
  level = 5;
  why = Endless 4;
}

abbrev pub entries : List Entry
entries = sends 0 (num 4) (Refused (no.Endless evidence))
    ∷ sends 0 (num 3) (Accepted 4)
    ∷ []

-- what the file listens to, and the script of its sender
abbrev pub listened : List Name
listened = []

abbrev pub script : List Cmd
script = send 0 (num 4) ∷ send 0 (num 3) ∷ []

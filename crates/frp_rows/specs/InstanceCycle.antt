-- An instance whose cells would begin with their own first values:
-- (graph (template t (p Int) () (let l (loopc Int)) (let m (mapc x l x)) (tie l m) (give p)) (sink a Int) (let e (execute a t)))
-- (sender (send a 1))
use Rattle.std.specs.Prelude.{ℕ, List, [], ◌∷◌, Some, None}
use Rattle.frp_base.specs.declared.name.Name.{Name}
use Rattle.frp_base.specs.declared.ty.Ty.TheVariants as t
use Rattle.frp_base.specs.declared.val.Val.{Val}
use Rattle.frp_expr.specs.declared.expr.Expr.TheVariants as ex
use Rattle.frp_graph.specs.declared.prog.Prog.{Prog}
use Rattle.frp_graph.specs.declared.prog.Line3.TheVariants as line
use Rattle.frp_graph.specs.declared.prog.LineShape.TheVariants as l
use Rattle.frp_graph.specs.declared.shape.Shape.TheVariants as s
use Rattle.frp_graph.specs.declared.trace.Moment.{Moment}
use Rattle.frp_history.specs.declared.history.Cmd.{Cmd}
use Rattle.frp_history.specs.declared.history.Entry.{Entry}
use Rattle.std.specs.Prelude.{Option}
use Rattle.frp_base.specs.Name.{made_name}
use Rattle.frp_graph.specs.declared.prog.Body.{Body}
use Rattle.frp_graph.specs.declared.trace.Node.{Node}
use Rattle.frp_graph.specs.declared.evidence.Evidence.{Evidence}
use Rattle.frp_graph.specs.declared.evidence.Ranked.{Ranked}
use Rattle.frp_graph.specs.declared.evidence.Phase.TheVariants.{Birth}
use Rattle.frp_graph.specs.declared.evidence.Why.TheVariants.{Chain, Full}
use Rattle.frp_graph.specs.declared.limits.Limits.{Limits}
use Rattle.frp_history.specs.declared.history.Reply.TheVariants.{Refused}
use Rattle.frp_history.specs.declared.history.No.TheVariants.{Cyclic}
use Rattle.frp_rows.specs.Writing.{item, num, line_code, lam, stream_node, fires, ranked, usual, send, sends}

abbrev pub looping : Body
looping = record {
  param = Some t.Int;
  kept = [];
  lines = line.Node (t.Cell t.Int) (l.Loop 2) ∷ line.Node (t.Cell t.Int) (l.Mapc (line_code 0 []) (ex.Var 1)) ∷ [];
  give = Some (ex.Var 0);
}

abbrev pub prog : Prog
prog = record {
  codes = ex.Var 0 ∷ [];
  funs = [];
  templates = looping ∷ [];
  joins = [];
  body = record {
    param = None;
    kept = [];
    give = None;
    lines = line.Node (t.Stream t.Int) l.Sink ∷ line.Node (t.Stream t.Int) (l.Execute (ex.Var 0) 0 []) ∷ [];
  };
}

abbrev pub first : Moment
first = record { time = 0 ∷ []; born = stream_node 0 t.Int s.Sink ∷ stream_node 1 t.Int (s.Execute (item 0) 0 []) ∷ []; fired = [] }

abbrev pub trace : List Moment
trace = first ∷ []

-- the node k of the instance of place 1, with this first value
abbrev pub made : ℕ → Name
made = made_name (item 1) (1 ∷ [])

abbrev pub loop : Option Val → Node
loop first = record { name = made 0; shape = s.Loop (made 1); ty = t.Cell t.Int; first = first }

abbrev pub mapped : Option Val → Node
mapped first = record { name = made 1; shape = s.Mapc (lam 0 []) (made 0); ty = t.Cell t.Int; first = first }

abbrev pub rank_made : ℕ → Ranked
rank_made k = record { node = made k; rank = 2 }

-- The loop and the mapped cell have no first value.
abbrev pub evidence : Evidence
evidence = record {
  done = [];
  last = record { time = 1 ∷ []; born = loop None ∷ mapped None ∷ []; fired = fires 0 (num 1) ∷ [] };
  ranks = ranked 0 0 ∷ ranked 1 1 ∷ rank_made 0 ∷ rank_made 1 ∷ [];
  level = 1;
  why = Chain Birth (made 0 ∷ made 1 ∷ []);
}

abbrev pub entries : List Entry
entries = sends 0 (num 1) (Refused (Cyclic evidence)) ∷ []

-- what the file listens to, and the script of its sender
abbrev pub listened : List Name
listened = []

abbrev pub script : List Cmd
script = send 0 (num 1) ∷ []

-- Evidence that is not true: the same, where the two cells have a first value.
abbrev pub begun : Evidence
begun = record evidence { last = record evidence.last { born = loop (Some (num 1)) ∷ mapped (Some (num 1)) ∷ [] } }

-- And half an instance born, in a room of three nodes, in which the other half is one too many.
abbrev pub small : Limits
small = record usual { nodes = 3 }

abbrev pub half : Evidence
half = record evidence {
  last = record evidence.last { born = loop None ∷ [] };
  ranks = ranked 0 0 ∷ ranked 1 1 ∷ rank_made 0 ∷ [];
  why = Full (item 1) 3;
}

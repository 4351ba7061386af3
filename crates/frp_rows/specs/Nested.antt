-- An execute that is born and makes an instance at one time:
-- (graph (template u (p Int) () (let n (constant p)) (give p)) (template t (p Int) ((s (Stream Int))) (let e (execute s u)) (give e))
-- (sink a Int) (let x (execute a t a))), sent 7
use Rattle.std.specs.Prelude.{List, [], ◌∷◌, Some, None}
use Rattle.frp_base.specs.declared.name.Name.{Name}
use Rattle.frp_base.specs.declared.ty.Ty.TheVariants as t
use Rattle.frp_base.specs.declared.val.Val.TheVariants as v
use Rattle.frp_base.specs.Name.{made_name}
use Rattle.frp_expr.specs.declared.expr.Expr.TheVariants as ex
use Rattle.frp_graph.specs.declared.prog.Body.{Body}
use Rattle.frp_graph.specs.declared.prog.Prog.{Prog}
use Rattle.frp_graph.specs.declared.prog.Line3.TheVariants as line
use Rattle.frp_graph.specs.declared.prog.LineShape.TheVariants as l
use Rattle.frp_graph.specs.declared.shape.Shape.TheVariants as s
use Rattle.frp_graph.specs.declared.trace.Node.{Node}
use Rattle.frp_graph.specs.declared.trace.Moment.{Moment}
use Rattle.frp_graph.specs.declared.trace.Sent.{Sent}
use Rattle.frp_history.specs.declared.history.Entry.{Entry}
use Rattle.frp_history.specs.declared.history.Reply.TheVariants.{Accepted}
use Rattle.frp_rows.specs.Writing.{item, stream_val, num, stream_node, fires, sent_at, sends}

abbrev pub inner : Body
inner = record { param = Some t.Int; kept = []; lines = line.Node (t.Cell t.Int) (l.Constant (ex.Var 0)) ∷ []; give = Some (ex.Var 0) }

abbrev pub outer : Body
outer = record {
  param = Some t.Int;
  kept = t.Stream t.Int ∷ [];
  lines = line.Node (t.Stream t.Int) (l.Execute (ex.Var 1) 0 []) ∷ [];
  give = Some (ex.Var 2);
}

abbrev pub prog : Prog
prog = record {
  codes = [];
  funs = [];
  templates = inner ∷ outer ∷ [];
  joins = [];
  body = record {
    param = None;
    kept = [];
    give = None;
    lines = line.Node (t.Stream t.Int) l.Sink ∷ line.Node (t.Stream (t.Stream t.Int)) (l.Execute (ex.Var 0) 1 (ex.Var 0 ∷ [])) ∷ [];
  };
}

abbrev pub first : Moment
first = record {
  time = 0 ∷ [];
  born = stream_node 0 t.Int s.Sink ∷ stream_node 1 (t.Stream t.Int) (s.Execute (item 0) 1 (stream_val 0 ∷ [])) ∷ [];
  fired = [];
}

-- the execute that is made, and the node that it makes
abbrev pub made : Name
made = made_name (item 1) (1 ∷ []) 0

abbrev pub execute : Node
execute = record { name = made; shape = s.Execute (item 0) 0 []; ty = t.Stream t.Int; first = None }

abbrev pub constant : Node
constant = record { name = made_name made (1 ∷ []) 0; shape = s.Constant; ty = t.Cell t.Int; first = Some (num 7) }

-- the moment of the send, where these nodes are born
abbrev pub with_born : List Node → Moment
with_born born = record {
  time = 1 ∷ [];
  born = born;
  fired = fires 0 (num 7) ∷ fires 1 (v.Stream made) ∷ record { node = made; value = num 7 } ∷ [];
}

abbrev pub trace : List Moment
trace = first ∷ with_born (execute ∷ constant ∷ []) ∷ []

abbrev pub entries : List Entry
entries = sends 0 (num 7) (Accepted 1) ∷ []

-- Traces that are not the program's: without the instance of the execute that is born, and with a node that nothing makes.
abbrev pub left_out : List Moment
left_out = first ∷ with_born (execute ∷ []) ∷ []

abbrev pub unmade : List Moment
unmade = first ∷ with_born (execute ∷ constant ∷ record constant { name = made_name made (1 ∷ []) 1 } ∷ []) ∷ []

abbrev pub sent : List Sent
sent = sent_at 1 0 (num 7) ∷ []

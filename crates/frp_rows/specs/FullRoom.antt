-- Instances past the limit on nodes:
-- (graph (template t (p Int) () (let n (constant p)) (give p)) (sink a Int) (let e (execute a t)) (let g (execute a t))),
-- in a room of six nodes, sent 1, 2 and 3
use Rattle.std.specs.Prelude.{List, [], ◌∷◌}
use Rattle.frp_base.specs.declared.name.Name.{Name}
use Rattle.frp_base.specs.declared.ty.Ty.TheVariants as t
use Rattle.frp_expr.specs.declared.expr.Expr.TheVariants as ex
use Rattle.frp_graph.specs.declared.prog.Prog.{Prog}
use Rattle.frp_graph.specs.declared.prog.Line3.TheVariants as line
use Rattle.frp_graph.specs.declared.prog.LineShape.TheVariants as l
use Rattle.frp_graph.specs.declared.shape.Shape.TheVariants as s
use Rattle.frp_graph.specs.declared.trace.Moment.{Moment}
use Rattle.frp_history.specs.declared.history.Cmd.{Cmd}
use Rattle.frp_history.specs.declared.history.Entry.{Entry}
use Rattle.frp_history.specs.declared.history.Reply.TheVariants.{Accepted}
use Rattle.frp_rows.specs.Writing.{item, num, stream_node, fires, send, sends}
use Rattle.frp_graph.specs.declared.evidence.Evidence.{Evidence}
use Rattle.frp_graph.specs.declared.evidence.Why.TheVariants.{Full}
use Rattle.frp_history.specs.declared.history.Reply.TheVariants.{Refused}
use Rattle.frp_history.specs.declared.history.No.TheVariants as no
use Rattle.frp_graph.specs.declared.limits.Limits.{Limits}
use Rattle.frp_graph.specs.declared.trace.Fact.{Fact}
use Rattle.frp_graph.specs.declared.trace.Sent.{Sent}
use Rattle.frp_rows.specs.Writing.{ranked, usual, sent_at}
use Rattle.std.specs.Prelude.{ℕ, Some, None}
use Rattle.frp_base.specs.Name.{made_name}
use Rattle.frp_graph.specs.declared.prog.Body.{Body}
use Rattle.frp_graph.specs.declared.trace.Node.{Node}
use Rattle.frp_graph.specs.declared.evidence.Ranked.{Ranked}

abbrev pub keeping : Body
keeping = record { param = Some t.Int; kept = []; lines = line.Node (t.Cell t.Int) (l.Constant (ex.Var 0)) ∷ []; give = Some (ex.Var 0) }

abbrev pub prog : Prog
prog = record {
  codes = [];
  funs = [];
  templates = keeping ∷ [];
  joins = [];
  body = record {
    param = None;
    kept = [];
    give = None;
    lines = line.Node (t.Stream t.Int) l.Sink
        ∷ line.Node (t.Stream t.Int) (l.Execute (ex.Var 0) 0 [])
        ∷ line.Node (t.Stream t.Int) (l.Execute (ex.Var 0) 0 [])
        ∷ [];
  };
}

abbrev pub small : Limits
small = record usual { nodes = 6 }

-- the node that execute k makes at the time of place p, of the value p
abbrev pub made : ℕ → ℕ → Node
made k p = record { name = made_name (item k) (p ∷ []) 0; shape = s.Constant; ty = t.Cell t.Int; first = Some (num p) }

abbrev pub first : Moment
first = record {
  time = 0 ∷ [];
  born = stream_node 0 t.Int s.Sink ∷ stream_node 1 t.Int (s.Execute (item 0) 0 []) ∷ stream_node 2 t.Int (s.Execute (item 0) 0 []) ∷ [];
  fired = [];
}

abbrev pub trace : List Moment
trace = first
    ∷ record { time = 1 ∷ []; born = made 1 1 ∷ made 2 1 ∷ []; fired = fires 0 (num 1) ∷ fires 1 (num 1) ∷ fires 2 (num 1) ∷ [] }
    ∷ []

abbrev pub rank_made : ℕ → ℕ → ℕ → Ranked
rank_made k p rank = record { node = made_name (item k) (p ∷ []) 0; rank = rank }

-- At place p the instance of the first execute is born, and that of the second would be one too many.
abbrev pub evidence : ℕ → Evidence
evidence p = record {
  done = [];
  last = record { time = p ∷ []; born = made 1 p ∷ []; fired = fires 0 (num p) ∷ [] };
  ranks = ranked 0 0 ∷ ranked 1 1 ∷ ranked 2 1 ∷ rank_made 1 1 0 ∷ rank_made 2 1 0 ∷ rank_made 1 p 2 ∷ [];
  level = 1;
  why = Full (item 2) 6;
}

-- Evidence that is not true, of place 2: with the fact of an execute, which is above the level; with both executes below the level,
-- of which the second can make its instance, which is not born; and of the first execute, whose instance is born.
abbrev pub with_facts : List Fact → Evidence
with_facts facts = record (evidence 2) { last = record (evidence 2).last { fired = fires 0 (num 2) ∷ facts } }

abbrev pub hasty_fact : Evidence
hasty_fact = with_facts (fires 1 (num 2) ∷ [])

abbrev pub skipped : Evidence
skipped = record (with_facts (fires 1 (num 2) ∷ fires 2 (num 2) ∷ [])) { level = 2 }

abbrev pub born_already : Evidence
born_already = record (evidence 2) { why = Full (item 1) 6 }

-- the sends of place 1, which was accepted, and of place 2
abbrev pub two_sends : List Sent
two_sends = sent_at 1 0 (num 1) ∷ sent_at 2 0 (num 2) ∷ []

abbrev pub entries : List Entry
entries = sends 0 (num 1) (Accepted 1)
    ∷ sends 0 (num 2) (Refused (no.Full (evidence 2)))
    ∷ sends 0 (num 3) (Refused (no.Full (evidence 3)))
    ∷ []

-- what the file listens to, and the script of its sender
abbrev pub listened : List Name
listened = []

abbrev pub script : List Cmd
script = send 0 (num 1) ∷ send 0 (num 2) ∷ send 0 (num 3) ∷ []

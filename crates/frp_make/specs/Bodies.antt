-- What a body needs so that its nodes can be made.
use Rattle.std.specs.Prelude.{◌≡◌, ℕ, ◌+◌, List, map, length, Some, option_map}
use Rattle.frp_base.specs.declared.name.Name.{Name}
use Rattle.frp_base.specs.declared.val.Val.{Val}
use Rattle.frp_base.specs.Name.{made_name}
use Rattle.frp_expr.specs.Eval.{eval}
use Rattle.frp_graph.specs.declared.prog.Body.{Body}
use Rattle.frp_graph.specs.declared.prog.Line3.{Line3}
use Rattle.frp_graph.specs.declared.prog.Prog.{Prog}
use Rattle.frp_graph.specs.Trace.{Sight}
use Rattle.frp_graph.specs.Births.{Instance, values_from, plans_from}
use Rattle.frp_make.specs.Lines.{draft_of, AreReady, AreAll}
use Rattle.frp_make.specs.Search.{AreDrafts}

-- lines are ready over all the values of their body, of which n stand before them, and the nodes that they make are drafts
pub record ArePlanned (prog : Prog) (w : Sight) (name : ℕ → Name) (all : List Val) (n : ℕ) (lines : List Line3) : Type 0 where
  pub ready : AreReady all n lines
  pub long : length all ≡ n + length lines
  pub drafts : AreDrafts prog w (map draft_of (plans_from name all 0 n lines))

-- a body has all its values, its lines are ready, and the nodes that they make are drafts
pub record CanBeMade (prog : Prog) (w : Sight) (name : ℕ → Name) (given : List Val) (lines : List Line3) : Type 0 where
  pub all : List Val
  pub values : AreAll name w.pre given lines all
  pub long : length all ≡ length given + length lines
  pub drafts : AreDrafts prog w (map draft_of (plans_from name all 0 (length given) lines))

-- the instance of a template's body over the values that it is given
pub record IsInstanceOver (w : Sight) (n : Name) (given : List Val) (body : Body) (i : Instance) : Type 0 where
  pub all : List Val
  pub values : values_from (made_name n w.time) w.pre 0 given body.lines ≡ Some all
  pub nodes : i.nodes ≡ plans_from (made_name n w.time) all 0 (length given) body.lines
  pub result : option_map (λ e. eval e all) body.give ≡ Some i.result

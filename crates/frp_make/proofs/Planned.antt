-- The lines of a body that can be made, over its values as they are found.
use Rattle.std.proofs.Common.{◌≡◌, ℕ, List, length, Some, sym, ◌∙◌, subst}
use Rattle.std.proofs.lemmas.Option.{same_Some}
use Rattle.frp_base.specs.declared.name.Name.{Name}
use Rattle.frp_base.specs.declared.val.Val.{Val}
use Rattle.frp_graph.specs.declared.prog.Prog.{Prog}
use Rattle.frp_graph.specs.declared.prog.Line3.{Line3}
use Rattle.frp_graph.specs.Trace.{Sight}
use Rattle.frp_graph.specs.Births.{values_from, plans_from}
use Rattle.frp_make.specs.Bodies.{ArePlanned, CanBeMade}

-- where the lines, the values before them, and the values that are found are these
module _ (prog : Prog) (w : Sight) (name : ℕ → Name) (given : List Val) (ls : List Line3) (can : CanBeMade prog w name given ls) (vs slice before : List Val) (lines : List Line3) (l : lines ≡ ls) (found : values_from name w.pre 0 given lines ≡ Some vs)
    (s : slice ≡ vs) (b : before ≡ given) where
  are_all : slice ≡ can.all
  are_all = s ∙ same_Some vs can.all (sym (subst (λ (xs : List Line3). values_from name w.pre 0 given xs ≡ Some vs) l found) ∙ can.values.whole)

  pub planned_now : ArePlanned prog w name slice (length before) lines
  planned_now =
      subst (λ (xs : List Line3). ArePlanned prog w name slice (length before) xs) (sym l)
      (subst (λ (ys : List Val). ArePlanned prog w name slice (length ys) ls) (sym b)
      (subst (λ (ys : List Val). ArePlanned prog w name ys (length given) ls) (sym are_all) (record { ready = can.values.ready; long = can.long; drafts = can.drafts })))

  pub plans_now : plans_from name slice 0 (length before) lines ≡ plans_from name can.all 0 (length given) ls
  plans_now = λ i. plans_from name (are_all i) 0 (length (b i)) (l i)

  -- the values are those of whoever has them all
  pub values_now : (all : List Val) → values_from name w.pre 0 given ls ≡ Some all → slice ≡ all
  values_now all e = are_all ∙ same_Some can.all all (sym can.values.whole ∙ e)

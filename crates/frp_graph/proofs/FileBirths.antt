-- What is born where no live node is an execute: at the build the nodes of the file, and later none.
use Rattle.std.proofs.Common.{◌≡◌, ℕ, ◌+◌, ◌<◌, true, false, List, [], ◌∷◌, map, Option, Some, None, refl, sym, ap, ◌∙◌, subst, arith}
use Rattle.std.specs.Prelude.{option_and_then, IsTrue}
use Rattle.std.specs.List.{AllByRecursion}
use Rattle.std.specs.List.Sorted.{IsStrictlySortedBy}
use Rattle.std.specs.declared.cmp.Ordering.TheVariants.{Less}
use Rattle.std.proofs.lemmas.Grind.{common_steps}
use Rattle.frp_base.specs.declared.name.Name.{Name}
use Rattle.frp_base.specs.declared.val.Val.{Val}
use Rattle.frp_base.specs.Time.{time_eq}
use Rattle.frp_base.specs.Name.{name_cmp, declared_name, maker}
use Rattle.frp_graph.specs.declared.prog.Prog.{Prog}
use Rattle.frp_graph.specs.declared.prog.Line3.{Line3}
use Rattle.frp_graph.specs.declared.prog.Line3.TheVariants as line
use Rattle.frp_graph.specs.declared.trace.Node.{Node}
use Rattle.frp_graph.specs.Trace.{Sight, Each}
use Rattle.frp_graph.specs.Roles.{Execution, execution}
use Rattle.frp_graph.specs.Births.{Plan, build, values_from, plans_from, file_plans, instance, plans_of, plans_by, plan_in, plan_as}
use Rattle.frp_graph.specs.FirstValues.{IsBornAs, AreBorn, AreExactly, are_all_born}
use Rattle.frp_graph.proofs.Lists.{time_eq-same}
use Rattle.frp_graph.proofs.InOrder.{born_in_order}

-- a node that is no execute makes none
pub makes_none : (prog : Prog) (w : Sight) (x : Node) → execution x.shape ≡ None → plans_by prog w x ≡ []
makes_none prog w x h = ap (λ (o : Option Execution). plans_of (option_and_then (λ e. option_and_then (instance prog w x.name e.template e.kept) (w.occ e.source)) o)) h

-- The names of the file's nodes are declared names, and rise.

pub declared_less : (j k : ℕ) → j < k → name_cmp (declared_name j) (declared_name k) ≡ Less
declared_less j k h = grind (arith, common_steps)

module _ (all : List Val) where
  all_after : (j k n : ℕ) (ls : List Line3) → j < k → AllByRecursion (λ y. name_cmp (declared_name j) y ≡ Less) (map (λ d. d.name) (plans_from declared_name all k n ls))
  all_after j k n [] h = tt
  all_after j k n (line.Node x shape ∷ ls) h = (declared_less j k h, all_after j (k + 1) (n + 1) ls (omega arith))
  all_after j k n (line.Get c ∷ ls) h = all_after j k (n + 1) ls h

  rise_from : (k n : ℕ) (ls : List Line3) → IsStrictlySortedBy name_cmp (map (λ d. d.name) (plans_from declared_name all k n ls))
  unfolding IsStrictlySortedBy
  rise_from k n [] = tt
  rise_from k n (line.Node x shape ∷ ls) = (all_after k (k + 1) (n + 1) ls (omega arith), rise_from (k + 1) (n + 1) ls)
  rise_from k n (line.Get c ∷ ls) = rise_from k (n + 1) ls

  unmade_from : (k n : ℕ) (ls : List Line3) → AllByRecursion (λ d. maker d.name ≡ None) (plans_from declared_name all k n ls)
  unmade_from k n [] = tt
  unmade_from k n (line.Node x shape ∷ ls) = (refl, unmade_from (k + 1) (n + 1) ls)
  unmade_from k n (line.Get c ∷ ls) = unmade_from k (n + 1) ls

module _ (prog : Prog) where
  -- the plans of the file, of all the values of its body
  abbrev planned : Option (List Val) → List Plan
  planned None = []
  planned (Some all) = plans_from declared_name all 0 0 prog.body.lines

  planned_rise : (o : Option (List Val)) → IsStrictlySortedBy name_cmp (map (λ d. d.name) (planned o))
  unfolding IsStrictlySortedBy
  planned_rise None = tt
  planned_rise (Some all) = rise_from all 0 0 prog.body.lines

  planned_unmade : (o : Option (List Val)) → AllByRecursion (λ d. maker d.name ≡ None) (planned o)
  planned_unmade None = tt
  planned_unmade (Some all) = unmade_from all 0 0 prog.body.lines

  pub file_rises : IsStrictlySortedBy name_cmp (map (λ d. d.name) (file_plans prog))
  file_rises = planned_rise (values_from declared_name (λ n. None) 0 [] prog.body.lines)

  pub file_unmade : AllByRecursion (λ d. maker d.name ≡ None) (file_plans prog)
  file_unmade = planned_unmade (values_from declared_name (λ n. None) 0 [] prog.body.lines)

-- what is born has the names that were planned
unmade_born : (prog : Prog) (w : Sight) (plans : List Plan) (born : List Node) → AllByRecursion (λ d. maker d.name ≡ None) plans → AreBorn prog w plans born → AllByRecursion (λ x. maker x.name ≡ None) born
unmade_born prog w [] [] u b = tt
unmade_born prog w (d ∷ ds) (x ∷ xs) u b = (ap maker b.0.made.name ∙ u.0, unmade_born prog w ds xs u.1 b.1)
unmade_born prog w [] (x ∷ xs) u b = absurd b
unmade_born prog w (d ∷ ds) [] u b = absurd b

-- Births.

module _ (prog : Prog) (w : Sight) where
  -- at the build what the file plans of a name is what is planned of it
  pub planned_by_file : (n : Name) → maker n ≡ None → time_eq w.time build ≡ true → plan_as prog w n ≡ plan_in (file_plans prog) n
  planned_by_file n m t = rw (m, t) refl

  each_planned : (born : List Node) → time_eq w.time build ≡ true → AllByRecursion (λ x. maker x.name ≡ None) born → AllByRecursion (λ x. IsBornAs prog w (plan_in (file_plans prog) x.name) x) born
      → AllByRecursion (λ x. IsBornAs prog w (plan_as prog w x.name) x) born
  each_planned [] t u b = tt
  each_planned (x ∷ xs) t u b = (subst (λ o. IsBornAs prog w o x) (sym (planned_by_file x.name u.0 t)) b.0, each_planned xs t u.1 b.1)

  module _ (none : Each w (λ x. execution x.shape ≡ None)) where
    -- whatever is born, that which the live nodes make is
    pub none_made : (born : List Node) → Each w (λ x. IsTrue (are_all_born born (plans_by prog w x)))
    none_made born n x e = subst (λ ds. IsTrue (are_all_born born ds)) (sym (makes_none prog w x (none n x e))) refl

    pub file_births : (born : List Node) → time_eq w.time build ≡ true → AreBorn prog w (file_plans prog) born → AreExactly prog w born
    file_births born t b =
        let r = born_in_order prog w (file_plans prog) born (file_rises prog) b in
        record { each_is_made = each_planned born t (unmade_born prog w (file_plans prog) born (file_unmade prog) b) r.each_is_planned; each_is_born = none_made born; file_is_born = λ e. r.each_is_born }

    pub no_births : time_eq w.time build ≡ false → AreExactly prog w []
    no_births t = record {
      each_is_made = tt;
      each_is_born = none_made [];
      file_is_born = λ e. absurd (let s : time_eq w.time build ≡ true = subst (λ u. time_eq u build ≡ true) (sym e) (time_eq-same build) in cc);
    }

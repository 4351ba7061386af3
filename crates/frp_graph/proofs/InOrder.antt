-- Nodes that are born one by one as they were planned are those of the plans.
use Rattle.std.proofs.Common.{◌≡◌, Bool, true, false, List, [], ◌∷◌, map, Option, Some, refl, sym, ap, ◌∙◌, subst}
use Rattle.std.specs.Prelude.{is_some, if◌then◌else◌}
use Rattle.std.specs.List.{AllByRecursion}
use Rattle.std.specs.List.Sorted.{IsStrictlySortedBy}
use Rattle.std.specs.declared.cmp.Ordering.TheVariants.{Less, Equal}
use Rattle.frp_base.specs.declared.name.Name.{Name}
use Rattle.frp_base.specs.Name.{name_eq, name_cmp}
use Rattle.frp_base.proofs.Booleans.{true_both, is_false}
use Rattle.frp_graph.specs.declared.prog.Prog.{Prog}
use Rattle.frp_graph.specs.declared.trace.Node.{Node}
use Rattle.frp_graph.specs.Trace.{Sight, node_in}
use Rattle.frp_graph.specs.Births.{Plan, plan_in}
use Rattle.frp_graph.specs.FirstValues.{IsBornAs, AreBorn, are_all_born}
use Rattle.frp_graph.specs.Laws.{AreThose}
use Rattle.frp_graph.proofs.Lists.{name_same, name_eq-same}
use Rattle.frp_graph.proofs.Order.{name_cmp-same}

-- a name that comes before those of some nodes is of none of them
not_planned : (n k : Name) (ds : List Plan) → AllByRecursion (λ j. name_cmp n j ≡ Less) (map (λ d. d.name) ds) → is_some (plan_in ds k) ≡ true → name_eq n k ≡ true → ⊥
not_planned n k [] h m e = absurd cc
not_planned n k (d ∷ ds) h m e = by (name_eq d.name k) refl m (λ r. not_planned n k ds h.1 r e) where
  by : (b : Bool) → name_eq d.name k ≡ b → is_some (if b then Some d else plan_in ds k) ≡ true → (is_some (plan_in ds k) ≡ true → ⊥) → ⊥
  by true f t r =
      let same : n ≡ d.name = name_same n k e ∙ sym (name_same d.name k f) in
      let less : name_cmp n n ≡ Less = ap (name_cmp n) same ∙ h.0 in
      let equal : name_cmp n n ≡ Equal = name_cmp-same n in
      cc
  by false f t r = r t

module _ (prog : Prog) (w : Sight) where
  all_planned : (all : List Plan) (ds : List Plan) (xs : List Node) → IsStrictlySortedBy name_cmp (map (λ d. d.name) ds) → AreBorn prog w ds xs
      → ((n : Name) → is_some (plan_in ds n) ≡ true → plan_in all n ≡ plan_in ds n) → AllByRecursion (λ x. IsBornAs prog w (plan_in all x.name) x) xs
  unfolding IsStrictlySortedBy
  all_planned all [] [] r h f = tt
  all_planned all (d ∷ ds) (x ∷ xs) r h f =
      let e : name_eq d.name x.name ≡ true = subst (λ (n : Name). name_eq d.name n ≡ true) (sym h.0.made.name) (name_eq-same d.name) in
      let here : plan_in (d ∷ ds) x.name ≡ Some d = rw e refl in
      let found : plan_in all x.name ≡ Some d = f x.name (ap is_some here) ∙ here in (
        subst (λ (o : Option Plan). IsBornAs prog w o x) (sym found) h.0,
        all_planned all ds xs r.1 h.1 (λ n m. let later : name_eq d.name n ≡ false = is_false (name_eq d.name n) (not_planned d.name n ds r.0 m) in f n (rw later m) ∙ rw later refl),
      )
  all_planned all [] (x ∷ xs) r h f = absurd h
  all_planned all (d ∷ ds) [] r h f = absurd h

  all_born : (all : List Node) (ds : List Plan) (xs : List Node) → AreBorn prog w ds xs
      → ((n : Name) → is_some (node_in xs n) ≡ true → is_some (node_in all n) ≡ true) → are_all_born all ds ≡ true
  all_born all [] [] h f = refl
  all_born all (d ∷ ds) (x ∷ xs) h f =
      let e : name_eq x.name d.name ≡ true = subst (λ (n : Name). name_eq x.name n ≡ true) h.0.made.name (name_eq-same x.name) in
      true_both _ _ (f d.name (rw e refl)) (all_born all ds xs h.1 (λ n m. f n (more (name_eq x.name n) n m)))
    where
      more : (b : Bool) (n : Name) → is_some (node_in xs n) ≡ true → is_some (if b then Some x else node_in xs n) ≡ true
      more true n m = refl
      more false n m = m
  all_born all [] (x ∷ xs) h f = absurd h
  all_born all (d ∷ ds) [] h f = absurd h

  pub born_in_order : (plans : List Plan) (born : List Node) → IsStrictlySortedBy name_cmp (map (λ d. d.name) plans) → AreBorn prog w plans born → AreThose prog w plans born
  born_in_order plans born r h = record { each_is_planned = all_planned plans plans born r h (λ n m. refl); each_is_born = all_born born plans born h (λ n m. m) }

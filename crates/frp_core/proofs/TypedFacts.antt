-- What fires in the graph of a built program, where its equations hold and what is sent is of its type, is of its node's type.
use Rattle.std.proofs.Common.{◌≡◌, ℕ, ◌+◌, ◌<◌, Bool, true, false, List, [], ◌∷◌, map, Option, Some, None, refl, sym, ap, ◌∙◌, subst, arith, inl, inr}
use Rattle.std.specs.Prelude.{is_some, option_and_then, if◌then◌else◌}
use Rattle.std.specs.List.{AllByRecursion, list_all}
use Rattle.std.specs.List.Sorted.{IsStrictlySortedBy}
use Rattle.std.proofs.lemmas.Bool.{cases_lt}
use Rattle.frp_base.specs.declared.name.Name.{Name}
use Rattle.frp_base.specs.declared.val.Val.{Val}
use Rattle.frp_base.specs.Name.{declared_name, name_cmp, name_eq}
use Rattle.frp_base.proofs.Booleans.{both_true, true_both}
use Rattle.frp_graph.specs.declared.trace.Node.{Node}
use Rattle.frp_graph.specs.declared.trace.Fact.{Fact}
use Rattle.frp_graph.specs.declared.trace.Sent.{Sent}
use Rattle.frp_graph.specs.declared.prog.Prog.{Prog}
use Rattle.frp_graph.specs.Trace.{Sight, Each, fact_in, node_in}
use Rattle.frp_graph.specs.Roles.{is_sink_shape}
use Rattle.frp_graph.specs.Births.{Plan, plans_by}
use Rattle.frp_graph.specs.Values.{type_among, fits_node}
use Rattle.frp_graph.specs.TypedProg.{IsTypedProg}
use Rattle.frp_graph.specs.Sends.{sent_in}
use Rattle.frp_graph.specs.Equations.{keep_if, row, MeetsEquation}
use Rattle.frp_graph.specs.WellFormed.{seen_fits, has_typed_first, is_typed_fact, Allows, IsWellFormed}
use Rattle.frp_graph.specs.Laws.{IsFact}
use Rattle.frp_history.specs.declared.history.No.TheVariants.{UnknownSink, WrongType}
use Rattle.frp_history.specs.Legal.{no_sink}
use Rattle.frp_graph.proofs.Lists.{name_same}
use Rattle.frp_graph.proofs.Nodes.{each_named, each_holds, each_passes}
use Rattle.frp_graph.proofs.Options.{some_there, then_some}
use Rattle.frp_graph.proofs.Values.{is_found}
use Rattle.frp_graph.proofs.FileBirths.{makes_none}
use Rattle.frp_graph.proofs.TypedSights.{fits_some}
use Rattle.frp_graph.proofs.TypedRows.{row_typed}
use Rattle.frp_core.specs.Small.{is_built, IsEarlier, IsSmall, AreSmallFrom}
use Rattle.frp_core.specs.Nodes.{line_nodes}
use Rattle.frp_core.specs.Engine.{sent_to}
use Rattle.frp_core.proofs.SmallShapes.{makes_nothing, row_small}
use Rattle.frp_core.proofs.WellTyped.{AreRight, nodes_small, nodes_found, nodes_right}

module _ (prog : Prog) (typed : IsTypedProg prog) (built : is_built prog ≡ true) (sends : List Sent) (w : Sight) (same : (n : Name) → w.node n ≡ node_in (line_nodes [] prog.body.lines) n)
    (above : (n : Name) → w.above n ≡ None) (sent : Each w (λ x. seen_fits prog w x (sent_in prog sends w.time x.name) ≡ true)) (equations : Each w (MeetsEquation prog sends w)) where
  abbrev nodes : List Node
  nodes = line_nodes [] prog.body.lines

  -- What is seen, without the occurrences that are not of their node's type, and without values before: it is well formed.

  abbrev fitting : Sight
  fitting = record { time = w.time; node = w.node; occ = λ n. option_and_then (λ x. keep_if (seen_fits prog w x (w.occ n)) (w.occ n)) (w.node n); pre = λ n. None; above = λ n. None }

  kept_fits : (x : Node) (o : Option Val) → seen_fits prog fitting x (keep_if (seen_fits prog w x o) o) ≡ true
  kept_fits x None = refl
  kept_fits x (Some v) = by (fits_node prog w.node x.ty v) refl where
    by : (b : Bool) → fits_node prog w.node x.ty v ≡ b → seen_fits prog fitting x (keep_if b (Some v)) ≡ true
    by true e = e
    by false e = refl

  right : AreRight prog fitting nodes
  right = nodes_right prog fitting typed built same

  well_formed : IsWellFormed prog fitting
  well_formed = record {
    program = typed;
    shapes = each_holds fitting nodes same (λ x. Allows prog fitting x.ty x.shape) right.allowed;
    named = each_named fitting nodes same;
    firsts = λ n x e. (both_true _ _ (each_passes fitting nodes same (has_typed_first prog fitting) right.firsts n x e)).0;
    befores = λ n x e. refl;
    occurrences = λ n x e. let here : w.node x.name ≡ Some x = ap w.node (each_named fitting nodes same n x e) ∙ e in rw here (kept_fits x (w.occ x.name));
    aboves = λ n x e. refl;
    only_live = λ n v e. ap is_some (then_some (λ x. keep_if (seen_fits prog w x (w.occ n)) (w.occ n)) (w.node n) v e).1;
  }

  -- So no occurrence is left out: that of each node is of its type, since those of earlier ones are.

  abbrev AreKept : ℕ → Type 0
  AreKept k = (n : Name) → IsEarlier k n → fitting.occ n ≡ w.occ n

  occ_fits : (k : ℕ) (x : Node) → x.name ≡ declared_name k → IsSmall k x.shape → w.node x.name ≡ Some x → AreKept k → seen_fits prog w x (w.occ x.name) ≡ true
  occ_fits k x e s f b =
      let none : plans_by prog fitting x ≡ [] = makes_none prog fitting x (makes_nothing x.shape s.0) in
      let live = subst (λ (ds : List Plan). AllByRecursion (λ d. type_among w.node d.name ≡ Some d.ty) ds) (sym none) tt in
      let r : w.occ x.name ≡ row prog sends fitting x x.shape
      = equations x.name x f ∙ row_small prog sends sends fitting w k x e s refl (λ n q. sym (b n q)) (λ n v q. absurd cc) above refl in
      subst (λ o. seen_fits prog w x o ≡ true) (sym r) (row_typed prog sends fitting well_formed x.name x f (sent x.name x f) live)

  kept_more : (k : ℕ) (x : Node) → x.name ≡ declared_name k → w.node x.name ≡ Some x → seen_fits prog w x (w.occ x.name) ≡ true → AreKept k → AreKept (k + 1)
  kept_more k x e f h b n i = elim (cases_lt i.0 k) [
    | inl l ↦ b n (i.0, (l, i.1.1))
    | inr l ↦
        let j : i.0 ≡ k = let d : i.0 < k + 1 = i.1.0 in omega arith in
        let here : fitting.occ x.name ≡ w.occ x.name = rw (f, h) refl in
        subst (λ (m : Name). fitting.occ m ≡ w.occ m) (e ∙ ap declared_name (sym j) ∙ sym i.1.1) here
  ]

  occs_fit : (k : ℕ) (xs : List Node) → AreSmallFrom k xs → AllByRecursion (λ x. w.node x.name ≡ Some x) xs → AreKept k → AllByRecursion (λ x. seen_fits prog w x (w.occ x.name) ≡ true) xs
  occs_fit k [] s f b = tt
  occs_fit k (x ∷ xs) s f b =
      let here = occ_fits k x s.0 s.1 f.0 b in
      (here, occs_fit (k + 1) xs s.2 f.1 (kept_more k x s.0 f.0 here b))

  each_fits : Each w (λ x. seen_fits prog w x (w.occ x.name) ≡ true)
  each_fits = each_holds w nodes same (λ x. seen_fits prog w x (w.occ x.name) ≡ true)
      (occs_fit 0 nodes (nodes_small prog w typed built same) (nodes_found prog w typed built same) (λ n e. absurd (let l : e.0 < 0 = e.1.0 in omega arith)))

  -- and so is each fact

  fact_fits : (f : Fact) → is_some (w.node f.node) ≡ true → w.occ f.node ≡ Some f.value → is_typed_fact prog w f ≡ true
  fact_fits f live e =
      let x = some_there (w.node f.node) live in
      let o : w.occ x.0.name ≡ Some f.value = ap w.occ (each_named w nodes same f.node x.0 x.1) ∙ e in
      rw x.1 (fits_some prog w x.0 (w.occ x.0.name) (each_fits f.node x.0 x.1) f.value o)

  facts_fit : (fs : List Fact) → AllByRecursion (λ f. is_some (w.node f.node) ≡ true) fs → ((f : Fact) → IsFact fs f.node f.value → w.occ f.node ≡ Some f.value) → list_all (is_typed_fact prog w) fs ≡ true
  facts_fit [] l h = refl
  facts_fit (f ∷ fs) l h = true_both _ _ (fact_fits f l.0 (h f (inl (refl, refl)))) (facts_fit fs l.1 (λ g i. h g (inr i)))

  pub typed_facts : (fs : List Fact) → ((n : Name) → w.occ n ≡ fact_in fs n) → AllByRecursion (λ f. is_some (w.node f.node) ≡ true) fs → IsStrictlySortedBy name_cmp (map (λ f. f.node) fs)
      → list_all (is_typed_fact prog w) fs ≡ true
  typed_facts fs o l r = facts_fit fs l (λ f i. o f.node ∙ is_found fs r f.node f.value i)

-- What is sent to a sink that takes it is of its type.

sink_fits : (prog : Prog) (node : Name → Option Node) (v : Val) (x : Node) → no_sink prog node v (Some x) ≡ None → fits_node prog node x.ty v ≡ true
sink_fits prog node v x h = neither (is_sink_shape x.shape) (fits_node prog node x.ty v) h where
  neither : (a b : Bool) → (if a then (if b then None else Some WrongType) else Some UnknownSink) ≡ None → b ≡ true
  neither true true h = refl
  neither true false h = absurd cc
  neither false b h = absurd cc

pub sent_fits : (prog : Prog) (w : Sight) (f : Fact) → no_sink prog w.node f.value (w.node f.node) ≡ None → (x : Node) → w.node x.name ≡ Some x → seen_fits prog w x (sent_to (Some f) x.name) ≡ true
sent_fits prog w f h x e = by (name_eq f.node x.name) refl where
  by : (b : Bool) → name_eq f.node x.name ≡ b → seen_fits prog w x (if b then Some f.value else None) ≡ true
  by true q = sink_fits prog w.node f.value x (ap (no_sink prog w.node f.value) (sym e ∙ ap w.node (sym (name_same f.node x.name q))) ∙ h)
  by false q = refl

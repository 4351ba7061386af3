-- The plans of the file and of instances: each has a name of its own, which tells its maker and its birth.
use Rattle.std.proofs.Common.{◌≡◌, ℕ, ◌+◌, ◌<◌, true, false, List, [], ◌∷◌, length, Option, Some, None, refl, sym, ap, ◌∙◌, subst, arith, map}
use Rattle.std.proofs.Common.{inl, inr}
use Rattle.std.specs.Prelude.{option_and_then}
use Rattle.std.specs.List.{AllByRecursion}
use Rattle.frp_base.specs.declared.name.Name.{Name}
use Rattle.frp_base.specs.declared.name.Stage.{Stage}
use Rattle.frp_base.specs.declared.time.Time.{Time}
use Rattle.frp_base.specs.declared.val.Val.{Val}
use Rattle.frp_base.specs.Name.{name_eq, declared_name, made_name, item_of}
use Rattle.frp_base.proofs.Booleans.{chosen, is_false}
use Rattle.frp_graph.specs.declared.prog.Prog.{Prog}
use Rattle.frp_graph.specs.declared.prog.Line3.{Line3}
use Rattle.frp_graph.specs.declared.prog.Line3.TheVariants as line
use Rattle.frp_graph.specs.declared.shape.Shape.{Shape}
use Rattle.frp_graph.specs.declared.trace.Node.{Node}
use Rattle.frp_graph.specs.Trace.{Sight}
use Rattle.frp_graph.specs.Roles.{Execution, execution}
use Rattle.frp_graph.specs.Births.{Plan, Instance, values_from, plans_from, file_plans, instance, instance_in, plans_of, plans_by, plan_in}
use Rattle.frp_graph.proofs.Lists.{name_same, name_eq-same}
use Rattle.frp_audit.proofs.Ranks.{In, Distinct}
use Rattle.frp_graph.proofs.Options.{then_some}
use Rattle.frp_graph.proofs.TypedBodies.{instance_parts}

-- what is found among plans is of the name, and what holds of each plan holds of it
pub plan_holds : (P : Plan → Type 0) (ds : List Plan) (n : Name) (d : Plan) → plan_in ds n ≡ Some d → AllByRecursion P ds → P d
plan_holds P [] n d e h = absurd cc
plan_holds P (c ∷ ds) n d e h = elim (chosen (name_eq c.name n) c d (plan_in ds n) e) [
  | inl f ↦ subst P f.1 h.0
  | inr r ↦ plan_holds P ds n d r.1 h.1
]

-- Each plan is found by its name, which is one of these.
pub record AreNamed (name : ℕ → Name) (ds : List Plan) : Type 0 where
  pub found : AllByRecursion (λ d. plan_in ds d.name ≡ Some d) ds
  pub named : AllByRecursion (λ d. (k : ℕ) × (d.name ≡ name k)) ds
  pub once : Distinct (map (λ d. d.name) ds)

module _ (name : ℕ → Name) (tells : (j k : ℕ) → j < k → name j ≡ name k → ⊥) (all : List Val) where
  later : (j k n : ℕ) (ls : List Line3) → j < k → AllByRecursion (λ d. name_eq (name j) d.name ≡ false) (plans_from name all k n ls)
  later j k n [] l = tt
  later j k n (line.Node x shape ∷ ls) l = (is_false (name_eq (name j) (name k)) (λ e. tells j k l (name_same (name j) (name k) e)), later j (k + 1) (n + 1) ls (omega arith))
  later j k n (line.Get c ∷ ls) l = later j k (n + 1) ls l

  still_found : (d : Plan) (ds cs : List Plan) → AllByRecursion (λ c. name_eq d.name c.name ≡ false) cs → AllByRecursion (λ c. plan_in ds c.name ≡ Some c) cs → AllByRecursion (λ c. plan_in (d ∷ ds) c.name ≡ Some c) cs
  still_found d ds [] h f = tt
  still_found d ds (c ∷ cs) h f = (rw (h.0) f.0, still_found d ds cs h.1 f.1)

  each_found : (k n : ℕ) (ls : List Line3) → AllByRecursion (λ d. plan_in (plans_from name all k n ls) d.name ≡ Some d) (plans_from name all k n ls)
  each_found k n [] = tt
  each_found k n (line.Node x shape ∷ ls) = (
    rw (name_eq-same (name k)) refl,
    still_found _ (plans_from name all (k + 1) (n + 1) ls) (plans_from name all (k + 1) (n + 1) ls) (later k (k + 1) (n + 1) ls (omega arith)) (each_found (k + 1) (n + 1) ls),
  )
  each_found k n (line.Get c ∷ ls) = each_found k (n + 1) ls

  each_named : (k n : ℕ) (ls : List Line3) → AllByRecursion (λ d. (k : ℕ) × (d.name ≡ name k)) (plans_from name all k n ls)
  each_named k n [] = tt
  each_named k n (line.Node x shape ∷ ls) = ((k, refl), each_named (k + 1) (n + 1) ls)
  each_named k n (line.Get c ∷ ls) = each_named k (n + 1) ls

  not_later : (n : Name) (ds : List Plan) → AllByRecursion (λ d. name_eq n d.name ≡ false) ds → In n (map (λ d. d.name) ds) → ⊥
  not_later n [] h i = i
  not_later n (d ∷ ds) h (inl e) = let t : name_eq n d.name ≡ true = subst (λ k. name_eq n k ≡ true) e (name_eq-same n) in let f : name_eq n d.name ≡ false = h.0 in cc
  not_later n (d ∷ ds) h (inr r) = not_later n ds h.1 r

  each_once : (k n : ℕ) (ls : List Line3) → Distinct (map (λ d. d.name) (plans_from name all k n ls))
  each_once k n [] = tt
  each_once k n (line.Node x shape ∷ ls) =
      (not_later (name k) (plans_from name all (k + 1) (n + 1) ls) (later k (k + 1) (n + 1) ls (omega arith)), each_once (k + 1) (n + 1) ls)
  each_once k n (line.Get c ∷ ls) = each_once k (n + 1) ls

  pub plans_named : (k n : ℕ) (ls : List Line3) → AreNamed name (plans_from name all k n ls)
  plans_named k n ls = record { found = each_found k n ls; named = each_named k n ls; once = each_once k n ls }

none_named : (name : ℕ → Name) → AreNamed name []
none_named name = record { found = tt; named = tt; once = tt }

-- The file's.

declared_tell : (j k : ℕ) → j < k → declared_name j ≡ declared_name k → ⊥
declared_tell j k l e = let same : j ≡ k = ap item_of e in omega arith

pub file_named : (prog : Prog) → AreNamed declared_name (file_plans prog)
file_named prog = by (values_from declared_name (λ n. None) 0 [] prog.body.lines) refl where
  by : (o : Option (List Val)) → values_from declared_name (λ n. None) 0 [] prog.body.lines ≡ o → AreNamed declared_name (file_plans prog)
  by None e = rw e (none_named declared_name)
  by (Some all) e = rw e (plans_named declared_name declared_tell all 0 0 prog.body.lines)

-- An instance's.

abbrev last_item : List Stage → ℕ
last_item [] = 0
last_item (s ∷ []) = s.item
last_item (s ∷ r ∷ ss) = last_item (r ∷ ss)

last_made : (n : Name) (t : Time) (k : ℕ) → last_item (made_name n t k) ≡ k
last_made [] t k = refl
last_made (s ∷ []) t k = refl
last_made (s ∷ r ∷ ss) t k = last_made (r ∷ ss) t k

made_tell : (n : Name) (t : Time) (j k : ℕ) → j < k → made_name n t j ≡ made_name n t k → ⊥
made_tell n t j k l e = let same : j ≡ k = sym (last_made n t j) ∙ ap last_item e ∙ last_made n t k in omega arith

-- what an instance is made of
pub record IsExecuted (prog : Prog) (w : Sight) (n : Name) (shape : Shape) (i : Instance) : Type 0 where
  pub call : Execution
  pub executes : execution shape ≡ Some call
  pub value : Val
  pub fires : w.occ call.source ≡ Some value
  pub makes : instance prog w n call.template call.kept value ≡ Some i

pub executed : (prog : Prog) (w : Sight) (n : Name) (shape : Shape) (i : Instance) → instance_in prog w n shape ≡ Some i → IsExecuted prog w n shape i
executed prog w n shape i h =
    let e = then_some (λ e. option_and_then (instance prog w n e.template e.kept) (w.occ e.source)) (execution shape) i h in
    let v = then_some (instance prog w n e.0.template e.0.kept) (w.occ e.0.source) i e.2 in
    record { call = e.0; executes = e.1; value = v.0; fires = v.1; makes = v.2 }

pub made_named : (prog : Prog) (w : Sight) (x : Node) → AreNamed (made_name x.name w.time) (plans_by prog w x)
made_named prog w x = by (instance_in prog w x.name x.shape) refl where
  by : (o : Option Instance) → instance_in prog w x.name x.shape ≡ o → AreNamed (made_name x.name w.time) (plans_of o)
  by None e = none_named (made_name x.name w.time)
  by (Some i) e =
      let m = executed prog w x.name x.shape i e in
      let p = instance_parts prog w x.name m.call.template m.call.kept m.value i m.makes in
      let named = plans_named (made_name x.name w.time) (made_tell x.name w.time) p.all 0 (length m.call.kept + 1) p.body.lines in
      subst (λ (i : Instance). AreNamed (made_name x.name w.time) i.nodes) (sym p.is) named

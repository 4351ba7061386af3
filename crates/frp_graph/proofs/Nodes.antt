-- Nodes that are found by name: what holds of each node of a list holds of each node of a sight that finds its nodes there.
use Rattle.std.proofs.Common.{◌≡◌, Bool, true, false, List, [], ◌∷◌, ◌++◌, Some, refl, sym, ap, ◌∙◌, subst}
use Rattle.std.proofs.Common.{inl, inr}
use Rattle.std.specs.Prelude.{if◌then◌else◌}
use Rattle.std.specs.List.{AllByRecursion, list_all}
use Rattle.frp_base.specs.declared.name.Name.{Name}
use Rattle.frp_base.specs.Name.{name_eq}
use Rattle.frp_graph.specs.declared.trace.Node.{Node}
use Rattle.frp_graph.specs.Trace.{Sight, Each, or_else, node_in}
use Rattle.frp_graph.proofs.Lists.{name_same, name_eq-same, node_found}
use Rattle.frp_base.proofs.Booleans.{chosen}

-- a node that is found is of the name, and what holds of each node of the list holds of it
pub found_named : (nodes : List Node) (n : Name) (x : Node) → node_in nodes n ≡ Some x → x.name ≡ n
found_named [] n x h = absurd cc
found_named (y ∷ nodes) n x h = elim (chosen (name_eq y.name n) y x (node_in nodes n) h) [
  | inl e ↦ ap (λ (z : Node). z.name) (sym e.1) ∙ name_same y.name n e.0
  | inr r ↦ found_named nodes n x r.1
]

pub found_holds : (P : Node → Type 0) (nodes : List Node) (n : Name) (x : Node) → node_in nodes n ≡ Some x → AllByRecursion P nodes → P x
found_holds P [] n x h p = absurd cc
found_holds P (y ∷ nodes) n x h p = elim (chosen (name_eq y.name n) y x (node_in nodes n) h) [
  | inl e ↦ subst P e.1 p.0
  | inr r ↦ found_holds P nodes n x r.1 p.1
]

-- the first node of a list is found by its name
pub found_first : (x : Node) (nodes : List Node) → node_in (x ∷ nodes) x.name ≡ Some x
found_first x nodes = rw (name_eq-same x.name) refl

-- where lists are joined, the nodes of the first come first
pub found_joined : (nodes more : List Node) (n : Name) → node_in (nodes ++ more) n ≡ or_else (node_in nodes n) (node_in more n)
found_joined [] more n = refl
found_joined (x ∷ nodes) more n = by (name_eq x.name n) (found_joined nodes more n) where
  by : (b : Bool) → node_in (nodes ++ more) n ≡ or_else (node_in nodes n) (node_in more n)
      → (if b then Some x else node_in (nodes ++ more) n) ≡ or_else (if b then Some x else node_in nodes n) (node_in more n)
  by true h = refl
  by false h = h

pub found_more : (nodes more : List Node) (n : Name) (x : Node) → node_in nodes n ≡ Some x → node_in (nodes ++ more) n ≡ Some x
found_more nodes more n x h = found_joined nodes more n ∙ ap (λ o. or_else o (node_in more n)) h

-- Sights that find their nodes in a list.
module _ (w : Sight) (nodes : List Node) (same : (n : Name) → w.node n ≡ node_in nodes n) where
  pub each_named : (n : Name) (x : Node) → w.node n ≡ Some x → x.name ≡ n
  each_named n x e = found_named nodes n x (sym (same n) ∙ e)

  pub each_holds : (P : Node → Type 0) → AllByRecursion P nodes → Each w P
  each_holds P p n x e = found_holds P nodes n x (sym (same n) ∙ e) p

  pub each_passes : (q : Node → Bool) → list_all q nodes ≡ true → Each w (λ x. q x ≡ true)
  each_passes q h n x e = (node_found q nodes n x (sym (same n) ∙ e) h).1

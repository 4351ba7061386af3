-- Nodes by their names, where each is that of the item after the one before.
use Rattle.std.proofs.Common.{◌≡◌, ℕ, ◌+◌, ◌<◌, ◌≤◌, false, List, [], ◌∷◌, ◌++◌, length, Some, sym, ap, ◌∙◌, subst, arith}
use Rattle.std.specs.List.{AllByRecursion}
use Rattle.frp_base.specs.declared.name.Name.{Name}
use Rattle.frp_base.specs.Name.{declared_name, item_of, name_eq}
use Rattle.frp_graph.specs.declared.trace.Node.{Node}
use Rattle.frp_graph.specs.Trace.{node_in}
use Rattle.frp_graph.proofs.Lists.{name_same}
use Rattle.frp_graph.proofs.Nodes.{found_first, found_holds}
use Rattle.frp_base.proofs.Booleans.{is_false}
use Rattle.frp_core.specs.Small.{IsSmall, AreSmallFrom}

-- declared names of different items differ
pub declared_differs : (n : Name) (a b : ℕ) → n ≡ declared_name a → (a ≡ b → ⊥) → name_eq n (declared_name b) ≡ false
declared_differs n a b e h = is_false (name_eq n (declared_name b)) (λ d. h (ap item_of (sym e ∙ name_same n (declared_name b) d)))

-- a node of an item below this one reads nodes of earlier items
pub record IsItem (end : ℕ) (x : Node) : Type 0 where
  pub item : ℕ
  pub before : item < end
  pub named : x.name ≡ declared_name item
  pub small : IsSmall item x.shape

each_item : (end k : ℕ) (xs : List Node) → k + length xs ≤ end → AreSmallFrom k xs → AllByRecursion (IsItem end) xs
each_item end k [] l s = tt
each_item end k (x ∷ xs) l s = (record { item = k; before = omega arith; named = s.0; small = s.1 }, each_item end (k + 1) xs (omega arith) s.2)

pub found : (nodes : List Node) (n : Name) (x : Node) → AreSmallFrom 0 nodes → node_in nodes n ≡ Some x → IsItem (length nodes) x
found nodes n x s h = found_holds (IsItem (length nodes)) nodes n x h (each_item (length nodes) 0 nodes (omega arith) s)

-- nodes of items after that of the first are found behind it
found_behind : (a k : ℕ) (y : Node) (nodes xs : List Node) → y.name ≡ declared_name a → a < k → AreSmallFrom k xs → AllByRecursion (λ x. node_in nodes x.name ≡ Some x) xs
    → AllByRecursion (λ x. node_in (y ∷ nodes) x.name ≡ Some x) xs
found_behind a k y nodes [] e l s f = tt
found_behind a k y nodes (x ∷ xs) e l s f =
    let d : name_eq y.name x.name ≡ false = subst (λ (m : Name). name_eq y.name m ≡ false) (sym s.0) (declared_differs y.name a k e (λ q. absurd (omega arith))) in
    (rw d f.0, found_behind a (k + 1) y nodes xs e (omega arith) s.2 f.1)

-- each node is found
pub each_found : (k : ℕ) (xs : List Node) → AreSmallFrom k xs → AllByRecursion (λ x. node_in xs x.name ≡ Some x) xs
each_found k [] s = tt
each_found k (x ∷ xs) s = (found_first x xs, found_behind k (k + 1) x xs xs s.0 (omega arith) s.2 (each_found (k + 1) xs s.2))

-- one node more
pub small_joined : (k end : ℕ) (xs : List Node) (y : Node) → end ≡ k + length xs → AreSmallFrom k xs → y.name ≡ declared_name end → IsSmall end y.shape → AreSmallFrom k (xs ++ y ∷ [])
small_joined k end [] y l s n h = let e : end ≡ k = omega arith in (n ∙ ap declared_name e, subst (λ j. IsSmall j y.shape) e h, tt)
small_joined k end (x ∷ xs) y l s n h = (s.0, s.1, small_joined (k + 1) end xs y (omega arith) s.2 n h)

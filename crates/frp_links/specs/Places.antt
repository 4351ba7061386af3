-- Places of live nodes, which are their numbers in a view's order, and the links between places.
use Rattle.std.specs.Prelude.{◌≡◌, ◌<◌, ℕ, false, List, [], ◌∷◌, ◌++◌, length, map, Option, Some, IsTrue, is_some, slice_get, slice_index_or, option_map, unwrap_or}
use Rattle.std.specs.Option.{option_to_list}
use Rattle.std.specs.Ordering.{is_lt}
use Rattle.frp_base.specs.declared.name.Name.{Name}
use Rattle.frp_base.specs.Name.{name_cmp}
use Rattle.frp_graph.specs.declared.trace.Node.{Node}
use Rattle.frp_graph.specs.declared.evidence.Phase.{Phase}
use Rattle.frp_graph.specs.Trace.{Sight}
use Rattle.frp_graph.specs.Links.{links}

-- each name that has a place is that of the node there, and each node's name has one
pub record IsIndex (nodes : List Node) (find : Name → Option ℕ) : Type 0 where
  pub found : (n : Name) (i : ℕ) → find n ≡ Some i → (x : Node) × (slice_get nodes i ≡ Some x) × (x.name ≡ n)
  pub all : (i : ℕ) (x : Node) → slice_get nodes i ≡ Some x → IsTrue (is_some (find x.name))

-- the places of the names that have one
abbrev pub places_of : (Name → Option ℕ) → List Name → List ℕ
places_of find [] = []
places_of find (n ∷ ns) = option_to_list (find n) ++ places_of find ns

-- for each node the places of those to which it is linked
abbrev pub rows_of : Sight → Phase → (Name → Option ℕ) → List Node → List (List ℕ)
rows_of w phase find nodes = map (λ x. places_of find (links w phase x)) nodes

abbrev pub name_at : List Node → ℕ → Name
name_at nodes p = unwrap_or (option_map (λ x. x.name) (slice_get nodes p)) []

-- no name is less than the one of this number
abbrev pub IsLeast : List Name → ℕ → Type 0
IsLeast names i = (k : ℕ) → k < length names → is_lt (name_cmp (slice_index_or names k []) (slice_index_or names i [])) ≡ false

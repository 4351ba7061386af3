-- The nodes that depend on one.
use Rattle.std.specs.Prelude.{ℕ, Bool, false, ◌||◌, ◌==◌, ◌+◌, List, [], ◌∷◌, Option, Some, None, not, is_some, slice_get, if◌then◌else◌}
use Rattle.std.specs.List.{list_any}
use Rattle.frp_base.specs.declared.name.Name.{Name}
use Rattle.frp_base.specs.Name.{name_eq}
use Rattle.frp_graph.specs.declared.trace.Node.{Node}
use Rattle.frp_graph.specs.declared.shape.Shape.{Shape}
use Rattle.frp_graph.specs.declared.shape.Shape.TheVariants.{Sink, Never, Constant, Map, Filter, Filteropt, Merge, Snapshot, Split, Updates, Value, Loop, Hold, Mapc, Apply, Switchs, Switchc, Execute}
use Rattle.frp_store.specs.State.{State, place_in}

-- The node that a shape watches: the own cell of a switch of streams, and the source of a split. A shape has no link to it, but turns to
-- another node once it has stepped, or has later moments once it has fired.
abbrev pub watched : Shape → List Name
watched (Switchs c) = c ∷ []
watched (Switchc c) = []
watched Sink = []
watched Never = []
watched Constant = []
watched (Map f s) = []
watched (Filter f s) = []
watched (Filteropt s) = []
watched (Merge f a b) = []
watched (Snapshot f s c) = []
watched (Split s) = s ∷ []
watched (Updates c) = []
watched (Value c) = []
watched (Loop to) = []
watched (Hold s) = []
watched (Mapc f c) = []
watched (Apply cf ca) = []
watched (Execute s template kept) = []

-- The links that a shape has whatever a cell's value: the fixed ones, of which a switch of cells has one, to its own cell. (`fixed_links`
-- has all but that one.)
abbrev pub own_links : Shape → List Name
own_links Sink = []
own_links Never = []
own_links Constant = []
own_links (Map f s) = s ∷ []
own_links (Filter f s) = s ∷ []
own_links (Filteropt s) = s ∷ []
own_links (Merge f a b) = a ∷ b ∷ []
own_links (Snapshot f s c) = s ∷ []
own_links (Split s) = []
own_links (Updates c) = c ∷ []
own_links (Value c) = c ∷ []
own_links (Loop to) = to ∷ []
own_links (Hold s) = s ∷ []
own_links (Mapc f c) = c ∷ []
own_links (Apply cf ca) = cf ∷ ca ∷ []
own_links (Switchs c) = []
own_links (Switchc c) = c ∷ []
own_links (Execute s template kept) = s ∷ []

abbrev pub is_linked_to : Shape → Name → Bool
is_linked_to shape n = list_any (λ m. name_eq m n) (own_links shape)

abbrev pub is_watching : Shape → Name → Bool
is_watching shape n = list_any (λ m. name_eq m n) (watched shape)

abbrev pub is_turned_to : Option ℕ → ℕ → Bool
is_turned_to None p = false
is_turned_to (Some q) p = q == p

-- the places, counted from this one, of the nodes that are linked to the node of this name, or turned to its place
abbrev pub dependents_from : ℕ → List Node → List (Option ℕ) → Name → ℕ → List ℕ
dependents_from i [] ts n p = []
dependents_from i (x ∷ xs) [] n p = []
dependents_from i (x ∷ xs) (t ∷ ts) n p =
    if is_linked_to x.shape n || is_turned_to t p then i ∷ dependents_from (i + 1) xs ts n p else dependents_from (i + 1) xs ts n p

abbrev pub dependents_at : State → Option Node → ℕ → List ℕ
dependents_at s None p = []
dependents_at s (Some x) p = dependents_from 0 s.nodes s.targets x.name p

-- the places of the nodes that depend on the one of a place, each once, by rising place
abbrev pub dependents_of : State → ℕ → List ℕ
dependents_of s p = dependents_at s (slice_get s.nodes p) p

-- the places, counted from this one, of the nodes that watch the node of this name
abbrev pub watchers_from : ℕ → List Node → Name → List ℕ
watchers_from i [] n = []
watchers_from i (x ∷ xs) n = if is_watching x.shape n then i ∷ watchers_from (i + 1) xs n else watchers_from (i + 1) xs n

abbrev pub watchers_at : State → Option Node → List ℕ
watchers_at s None = []
watchers_at s (Some x) = watchers_from 0 s.nodes x.name

-- the places of the nodes that watch the one of a place, each once, by rising place
abbrev pub watchers_of : State → ℕ → List ℕ
watchers_of s p = watchers_at s (slice_get s.nodes p)

-- whether there is a name, but of none of these nodes
abbrev pub is_unknown : List Node → Option Name → Bool
is_unknown nodes None = false
is_unknown nodes (Some n) = not (is_some (place_in nodes n))

-- whether a shape is linked to a name of none of these nodes
abbrev pub wants : List Node → Shape → Bool
wants nodes shape =
    is_unknown nodes (slice_get (own_links shape) 0) || is_unknown nodes (slice_get (own_links shape) 1) || is_unknown nodes (slice_get (watched shape) 0)

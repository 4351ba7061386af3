-- How far a search for first values has come: the nodes, the places of cells to look at, and for each place those of the cells
-- that wait for the first value there.
use Rattle.std.specs.Prelude.{◌≡◌, ℕ, Bool, true, false, ◌<◌, ◌+◌, not, ◌&&◌, ◌==◌, List, [], ◌∷◌, ◌++◌, Option, Some, None, IsTrue, is_some, length, replicate, slice_set, slice_get, if◌then◌else◌, zero, suc}
use Rattle.std.specs.List.{AllByRecursion, sum_by}
use Rattle.frp_base.specs.declared.name.Name.{Name}
use Rattle.frp_base.specs.declared.val.Val.{Val}
use Rattle.frp_graph.specs.declared.trace.Node.{Node}
use Rattle.frp_graph.specs.declared.prog.Prog.{Prog}
use Rattle.frp_graph.specs.declared.shape.Shape.{Shape}
use Rattle.frp_graph.specs.declared.shape.Shape.TheVariants.{Sink, Never, Constant, Map, Filter, Filteropt, Merge, Snapshot, Split, Updates, Value, Loop, Hold, Mapc, Apply, Switchs, Switchc, Execute}
use Rattle.frp_graph.specs.declared.evidence.Phase.TheVariants.{Birth}
use Rattle.frp_graph.specs.Trace.{Sight, Each, node_in, post_in}
use Rattle.frp_graph.specs.FirstValues.{first_value}
use Rattle.frp_graph.specs.Links.{birth_links, is_new, is_linked}
use Rattle.frp_graph.specs.TypedProg.{is_cell}
use Rattle.frp_graph.specs.WellFormed.{IsWellFormed}
use Rattle.frp_order.specs.Rings.{row}
use Rattle.frp_make.specs.declared.search.Search.{Search}
use Rattle.frp_make.specs.Making.{with_born}
use Rattle.frp_make.specs.Firsts.{IsIndex, AreApart, awaited_in}

-- Links.

-- whether one of these nodes has a link of Birth to another
abbrev pub is_linked_among : Sight → List Node → Name → Name → Bool
is_linked_among w nodes a b = is_some (node_in nodes a) && is_some (node_in nodes b) && is_linked (with_born w nodes) Birth a b

-- the links of Birth of the live nodes lead to live ones
abbrev pub LinksLive : Sight → Type 0
LinksLive w = Each w (λ x. AllByRecursion (λ n. IsTrue (is_some (w.node n))) (birth_links w (post_in w) x.shape))

-- Cells without a first value.

abbrev pub is_missing : Node → Bool
is_missing x = is_cell x.ty && not (is_some x.first)

-- the places of those among these nodes, of which the first is at a place
abbrev pub missing_from : ℕ → List Node → List ℕ
missing_from p [] = []
missing_from p (x ∷ xs) = if is_missing x then p ∷ missing_from (p + 1) xs else missing_from (p + 1) xs

abbrev pub missing_among : List Node → List ℕ
missing_among nodes = missing_from 0 nodes

abbrev pub one_if : Bool → ℕ
one_if true = 1
one_if false = 0

-- how often a place stands among places
abbrev pub count : ℕ → List ℕ → ℕ
count p places = sum_by (λ q. one_if (q == p)) places

-- how often the node at a place is one of those
abbrev pub missing_of : Option Node → ℕ
missing_of None = 0
missing_of (Some x) = one_if (is_missing x)

abbrev pub missing_at : List Node → ℕ → ℕ
missing_at nodes p = missing_of (slice_get nodes p)

-- What a search holds.

pub record State : Type 0 where
  pub nodes : List Node
  pub todo : List ℕ
  pub waiting : List (List ℕ)

abbrev pub state_of : Search → State
state_of s = record { nodes = s.nodes.items; todo = s.todo.items; waiting = s.waiting.items }

-- nothing is found yet
pub record IsUnsettled (drafts : List Node) (s : State) : Type 0 where
  pub nodes : s.nodes ≡ drafts
  pub todo : s.todo ≡ missing_among drafts
  pub waiting : s.waiting ≡ replicate (length drafts) []

-- a place comes to those to look at; a cell waits for another; a first value is found
abbrev pub pushed : State → ℕ → State
pushed s p = record s { todo = s.todo ++ p ∷ [] }

abbrev pub with_waiting : State → ℕ → ℕ → State
with_waiting s p q = record s { waiting = slice_set s.waiting q (row s.waiting q ++ p ∷ []) }

abbrev pub with_node : State → ℕ → Node → State
with_node s p x = record { nodes = slice_set s.nodes p x; todo = s.todo ++ row s.waiting p; waiting = slice_set s.waiting p [] }

-- what is left to do: how many places are to be looked at or wait, and then how many are to be looked at
abbrev pub left : State → ℕ
left s = length s.todo + sum_by length s.waiting

abbrev pub triangle : ℕ → ℕ
triangle zero = 0
triangle (suc n) = triangle n + suc n

abbrev pub work : State → ℕ
work s = triangle (left s) + length s.todo

-- What stands.

-- whether a line gives the first value of a node of this shape
abbrev pub has_given : Shape → Bool
has_given Constant = true
has_given (Hold s) = true
has_given Sink = false
has_given Never = false
has_given (Map f s) = false
has_given (Filter f s) = false
has_given (Filteropt s) = false
has_given (Merge f a b) = false
has_given (Snapshot f s c) = false
has_given (Split s) = false
has_given (Updates c) = false
has_given (Value c) = false
has_given (Loop to) = false
has_given (Mapc f c) = false
has_given (Apply cf ca) = false
has_given (Switchs c) = false
has_given (Switchc c) = false
has_given (Execute s template kept) = false

-- The nodes, with the first values that are found so far: they are new, well formed beside the live ones, those values are their
-- own, and a node that has one has links of Birth only to others that have theirs, of lower rank.
pub record Stands (prog : Prog) (w : Sight) (find : Name → Option ℕ) (nodes : List Node) : Type 0 where
  pub index : IsIndex nodes find
  pub formed : IsWellFormed prog (with_born w nodes)
  pub new : (p : ℕ) (x : Node) → slice_get nodes p ≡ Some x → is_new w x.name ≡ true
  pub given : (p : ℕ) (x : Node) → slice_get nodes p ≡ Some x → has_given x.shape ≡ true → is_some x.first ≡ true
  pub own : (p : ℕ) (x : Node) (v : Val) → slice_get nodes p ≡ Some x → x.first ≡ Some v → first_value prog (with_born w nodes) (Some v) x.shape ≡ Some v
  pub rank : ℕ → ℕ
  pub back : (p q : ℕ) (x y : Node) → slice_get nodes p ≡ Some x → slice_get nodes q ≡ Some y → is_some x.first ≡ true
      → is_linked_among w nodes x.name y.name ≡ true → (is_some y.first ≡ true) × (rank q < rank p)

-- the node at a place waits for the first value at another
pub record Awaits (w : Sight) (find : Name → Option ℕ) (nodes : List Node) (p q : ℕ) : Type 0 where
  pub node : Node
  pub found : slice_get nodes p ≡ Some node
  pub awaits : awaited_in w find nodes node.shape ≡ Some q

-- Each cell without a first value is to be looked at, or waits for another, once.
pub record IsSearch (prog : Prog) (w : Sight) (find : Name → Option ℕ) (s : State) : Type 0 where
  pub stands : Stands prog w find s.nodes
  pub rows : length s.waiting ≡ length s.nodes
  pub placed : (p : ℕ) → count p s.todo + sum_by (count p) s.waiting ≡ missing_at s.nodes p
  pub waits : (p q : ℕ) → 0 < count p (row s.waiting q) → Awaits w find s.nodes p q

-- a node is another one but for its first value, which stays where it is there
pub record IsGrown (x y : Node) : Type 0 where
  pub name : y.name ≡ x.name
  pub shape : y.shape ≡ x.shape
  pub ty : y.ty ≡ x.ty
  pub first : (v : Val) → x.first ≡ Some v → y.first ≡ Some v

abbrev pub AreGrown : List Node → List Node → Type 0
AreGrown old new = (length new ≡ length old) × ((p : ℕ) (x : Node) → slice_get old p ≡ Some x → (y : Node) × (slice_get new p ≡ Some y) × IsGrown x y)

-- a step of a search, and all of it
pub record GoesOn (prog : Prog) (w : Sight) (find : Name → Option ℕ) (old new : State) : Type 0 where
  pub search : IsSearch prog w find new
  pub grown : AreGrown old.nodes new.nodes
  pub less : work new < work old

pub record Ends (prog : Prog) (w : Sight) (find : Name → Option ℕ) (old new : State) : Type 0 where
  pub search : IsSearch prog w find new
  pub grown : AreGrown old.nodes new.nodes
  pub done : new.todo ≡ []

-- Nodes before their first values are looked for: they are new, well formed beside the live ones, whose links lead to live ones, and
-- have a first value where it is given.
pub record AreDrafts (prog : Prog) (w : Sight) (nodes : List Node) : Type 0 where
  pub apart : AreApart nodes
  pub formed : IsWellFormed prog (with_born w nodes)
  pub new : (p : ℕ) (x : Node) → slice_get nodes p ≡ Some x → is_new w x.name ≡ true
  pub given : (p : ℕ) (x : Node) → slice_get nodes p ≡ Some x → is_some x.first ≡ has_given x.shape
  pub fresh : (p : ℕ) (x : Node) → slice_get nodes p ≡ Some x → w.node x.name ≡ None
  pub older : LinksLive w

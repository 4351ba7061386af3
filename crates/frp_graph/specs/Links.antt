-- Links from a node to those on which it depends at a time, by phase, and closed chains of them.
use Rattle.std.specs.Prelude.{◌≡◌, Bool, true, false, not, ◌&&◌, List, [], ◌∷◌, ◌++◌, filter, Option, Some, None, if◌then◌else◌}
use Rattle.std.specs.List.{list_any, list_all}
use Rattle.std.specs.Option.{option_to_list}
use Rattle.std.specs.Ordering.{is_lt}
use Rattle.frp_base.specs.declared.name.Name.{Name}
use Rattle.frp_base.specs.declared.val.Val.{Val}
use Rattle.frp_base.specs.Time.{time_eq}
use Rattle.frp_base.specs.Name.{name_eq, name_cmp, birth, maker}
use Rattle.frp_graph.specs.declared.trace.Node.{Node}
use Rattle.frp_graph.specs.declared.shape.Shape.{Shape}
use Rattle.frp_graph.specs.declared.shape.Shape.TheVariants.{Sink, Never, Constant, Map, Filter, Filteropt, Merge, Snapshot, Split, Updates, Value, Loop, Hold, Mapc, Apply, Switchs, Switchc, Execute}
use Rattle.frp_graph.specs.declared.evidence.Phase.{Phase}
use Rattle.frp_graph.specs.declared.evidence.Phase.TheVariants.{Birth, During, After}
use Rattle.frp_graph.specs.Trace.{Sight, post_in}
use Rattle.frp_graph.specs.Applied.{target}
use Rattle.frp_graph.specs.TypedProg.{is_cell}

-- Links.

-- the node that a cell's value refers to, where it has one
abbrev pub targets : Option Val → List Name
targets None = []
targets (Some v) = target v ∷ []

-- the nodes that a shape names
abbrev pub operands : Shape → List Name
operands Sink = []
operands Never = []
operands Constant = []
operands (Map f s) = s ∷ []
operands (Filter f s) = s ∷ []
operands (Filteropt s) = s ∷ []
operands (Merge f a b) = a ∷ b ∷ []
operands (Snapshot f s c) = s ∷ c ∷ []
operands (Split s) = s ∷ []
operands (Updates c) = c ∷ []
operands (Value c) = c ∷ []
operands (Loop to) = to ∷ []
operands (Hold s) = s ∷ []
operands (Mapc f c) = c ∷ []
operands (Apply cf ca) = cf ∷ ca ∷ []
operands (Switchs c) = c ∷ []
operands (Switchc c) = c ∷ []
operands (Execute s template kept) = s ∷ []

-- the fixed links, which are of the phases During and After
abbrev pub fixed_links : Shape → List Name
fixed_links Sink = []
fixed_links Never = []
fixed_links Constant = []
fixed_links (Map f s) = s ∷ []
fixed_links (Filter f s) = s ∷ []
fixed_links (Filteropt s) = s ∷ []
fixed_links (Merge f a b) = a ∷ b ∷ []
fixed_links (Snapshot f s c) = s ∷ []
fixed_links (Split s) = []
fixed_links (Updates c) = c ∷ []
fixed_links (Value c) = c ∷ []
fixed_links (Loop to) = to ∷ []
fixed_links (Hold s) = s ∷ []
fixed_links (Mapc f c) = c ∷ []
fixed_links (Apply cf ca) = cf ∷ ca ∷ []
fixed_links (Switchs c) = []
fixed_links (Switchc c) = []
fixed_links (Execute s template kept) = s ∷ []

-- whether a node was born at the time of the sight, and is a cell
abbrev pub is_new : Sight → Name → Bool
is_new w n = time_eq (birth n) w.time

abbrev pub is_new_cell : Sight → Option Node → Bool
is_new_cell w None = false
is_new_cell w (Some x) = is_new w x.name && is_cell x.ty

-- The links of live nodes, seen so, where a cell's value after is this; some of those values may not be known. The links
-- that a cell chooses come beside the fixed ones.
module _ (w : Sight) (after : Name → Option Val) where
  abbrev pub during_links : Shape → List Name
  during_links (Switchs c) = targets (w.pre c)
  during_links (Switchc c) = c ∷ targets (after c)
  during_links s = fixed_links s

  abbrev pub after_links : Shape → List Name
  after_links (Switchs c) = targets (after c)
  after_links (Switchc c) = c ∷ targets (after c)
  after_links s = fixed_links s

  abbrev pub birth_links : Shape → List Name
  birth_links (Mapc f c) = c ∷ []
  birth_links (Apply cf ca) = cf ∷ ca ∷ []
  birth_links (Loop to) = to ∷ []
  birth_links (Switchc c) = c ∷ targets (w.pre c)
  birth_links Sink = []
  birth_links Never = []
  birth_links Constant = []
  birth_links (Map f s) = []
  birth_links (Filter f s) = []
  birth_links (Filteropt s) = []
  birth_links (Merge f a b) = []
  birth_links (Snapshot f s c) = []
  birth_links (Split s) = []
  birth_links (Updates c) = []
  birth_links (Value c) = []
  birth_links (Hold s) = []
  birth_links (Switchs c) = []
  birth_links (Execute s template kept) = []

  -- a node that is born has During a link to its maker too; the links of Birth are among cells that are born
  abbrev pub links_by : Phase → Node → List Name
  links_by During x = during_links x.shape ++ (if is_new w x.name then option_to_list (maker x.name) else [])
  links_by After x = after_links x.shape
  links_by Birth x = if is_new_cell w (Some x) then filter (λ n. is_new_cell w (w.node n)) (birth_links x.shape) else []

  abbrev pub links_from : Phase → Option Node → List Name
  links_from phase None = []
  links_from phase (Some x) = links_by phase x

  -- whether the node of the first name is linked to the second
  abbrev pub is_linked_by : Phase → Name → Name → Bool
  is_linked_by phase from to = list_any (λ n. name_eq n to) (links_from phase (w.node from))

-- the links of a node, by all that is seen
abbrev pub links : Sight → Phase → Node → List Name
links w = links_by w (post_in w)

abbrev pub is_linked : Sight → Phase → Name → Name → Bool
is_linked w = is_linked_by w (post_in w)

-- Closed chains.

-- the first of these names, or the one that comes after them
abbrev pub first_or : List Name → Name → Name
first_or [] end = end
first_or (n ∷ ns) end = n

-- whether each of these names is linked to the next, and the last to the one that comes after them
abbrev pub is_path : (Name → Name → Bool) → List Name → Name → Bool
is_path linked [] end = true
is_path linked (n ∷ ns) end = linked n (first_or ns end) && is_path linked ns end

abbrev pub are_distinct : List Name → Bool
are_distinct [] = true
are_distinct (n ∷ ns) = list_all (λ k. not (name_eq n k)) ns && are_distinct ns

-- distinct names, the least first, each linked to the next and the last to the first
abbrev pub is_closed_chain : (Name → Name → Bool) → List Name → Bool
is_closed_chain linked [] = false
is_closed_chain linked (n ∷ ns) = are_distinct (n ∷ ns) && list_all (λ k. is_lt (name_cmp n k)) ns && is_path linked (n ∷ ns) n

-- no phase has a closed chain
abbrev pub IsChainless : Sight → Type 0
IsChainless w = (phase : Phase) (names : List Name) → is_closed_chain (is_linked w phase) names ≡ false

-- The nodes of a graph, by their places, as the ground of what stands.
use Rattle.std.specs.Prelude.{ℕ, ◌+◌, nat_lt, Bool, true, false, ◌&&◌, ◌||◌, List, [], ◌∷◌, ◌++◌, length, Option, Some, None, is_some, option_map, option_and_then, slice_get, if◌then◌else◌}
use Rattle.std.specs.Option.{option_to_list}
use Rattle.std.specs.List.{list_any}
use Rattle.frp_base.specs.declared.name.Name.{Name}
use Rattle.frp_base.specs.declared.val.Val.{Val}
use Rattle.frp_base.specs.Time.{parent_and_number}
use Rattle.frp_base.specs.Name.{name_eq, birth}
use Rattle.frp_graph.specs.declared.trace.Node.{Node}
use Rattle.frp_graph.specs.declared.trace.Sent.{Sent}
use Rattle.frp_graph.specs.declared.prog.Prog.{Prog}
use Rattle.frp_graph.specs.declared.shape.Shape.{Shape}
use Rattle.frp_graph.specs.declared.shape.Shape.TheVariants.{Sink, Never, Constant, Map, Filter, Filteropt, Merge, Snapshot, Split, Updates, Value, Loop, Hold, Mapc, Apply, Switchs, Switchc, Execute}
use Rattle.frp_graph.specs.declared.evidence.Phase.TheVariants.{During}
use Rattle.frp_graph.specs.Trace.{Sight, post_in}
use Rattle.frp_graph.specs.Applied.{target}
use Rattle.frp_graph.specs.Roles.{is_sink_shape, split_source}
use Rattle.frp_graph.specs.Sends.{is_sent_to}
use Rattle.frp_graph.specs.Equations.{split_item, row}
use Rattle.frp_graph.specs.Links.{is_new, links_by}
use Rattle.frp_moment.specs.Stands.{Facts, Ground}

-- the place of a name, where it has one
abbrev pub place_from : ℕ → List Name → Name → Option ℕ
place_from i [] n = None
place_from i (k ∷ ks) n = if name_eq k n then Some i else place_from (i + 1) ks n

abbrev pub place_in : List Name → Name → Option ℕ
place_in names n = place_from 0 names n

-- the places of names that have one
abbrev pub places_of : List Name → List Name → List ℕ
places_of names [] = []
places_of names (n ∷ ns) = option_to_list (place_in names n) ++ places_of names ns

-- what is seen where these nodes have fired
abbrev pub with_facts : Sight → List Name → Facts → Sight
with_facts w names f = record { time = w.time; node = w.node; occ = λ n. option_and_then f (place_in names n); pre = w.pre; above = w.above }

-- the cell of a switch of cells
abbrev pub own_cell : Shape → Option Name
own_cell (Switchc c) = Some c
own_cell Sink = None
own_cell Never = None
own_cell Constant = None
own_cell (Map f s) = None
own_cell (Filter f s) = None
own_cell (Filteropt s) = None
own_cell (Merge f a b) = None
own_cell (Snapshot f s c) = None
own_cell (Split s) = None
own_cell (Updates c) = None
own_cell (Value c) = None
own_cell (Loop to) = None
own_cell (Hold s) = None
own_cell (Mapc f c) = None
own_cell (Apply cf ca) = None
own_cell (Switchs c) = None
own_cell (Execute s template kept) = None

-- the links of During that a node has whatever fires: all but the one to the cell that a switch's cell holds after
abbrev pub firm_links : Sight → Node → List Name
firm_links w x = links_by w (λ c. None) During x

-- the cell that a switch of cells follows, as things stand
abbrev pub inner_link : Sight → Shape → Option Name
inner_link w s = option_map target (option_and_then (post_in w) (own_cell s))

-- whether a split of this source has an item to give
abbrev pub has_item : Sight → Node → Option Name → Bool
has_item w x None = false
has_item w x (Some s) = is_some (split_item w s (birth x.name) (parent_and_number w.time))

-- whether a node may fire though no link of it does: it is new, is sent to, or has an item to give
abbrev pub starts : List Sent → Sight → Node → Bool
starts sends w x = is_new w x.name || ((is_sink_shape x.shape && list_any (is_sent_to w.time x.name) sends) || has_item w x (split_source x.shape))

module _ (prog : Prog) (sends : List Sent) (w : Sight) (names : List Name) where
  -- the node at a place
  abbrev pub node_at : ℕ → Option Node
  node_at p = option_and_then w.node (slice_get names p)

  abbrev pub started_at : Option Node → Bool
  started_at None = false
  started_at (Some x) = starts sends w x

  abbrev pub firm_at : Option Node → List ℕ
  firm_at None = []
  firm_at (Some x) = places_of names (firm_links w x)

  abbrev pub row_by : Facts → Option Node → Option Val
  row_by f o = option_and_then (λ x. row prog sends (with_facts w names f) x x.shape) o

  abbrev pub inner_by : Facts → Option Node → Option ℕ
  inner_by f o = option_and_then (λ x. option_and_then (place_in names) (inner_link (with_facts w names f) x.shape)) o

  abbrev pub ground : Ground
  ground = record {
    live = λ p. nat_lt p (length names);
    started = λ p. started_at (node_at p);
    row = λ f p. row_by f (node_at p);
    firm = λ p. firm_at (node_at p);
    inner = λ f p. inner_by f (node_at p);
  }

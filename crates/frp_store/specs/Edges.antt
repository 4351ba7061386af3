-- What is kept of the nodes that depend on one.
use Rattle.std.specs.Prelude.{◌≡◌, ℕ, Bool, false, ◌<◌, ◌≤◌, ◌||◌, ◌&&◌, ◌==◌, List, Option, Some, None, option_and_then, length, slice_get, IsTrue, if◌then◌else◌, ⊤}
use Rattle.std.specs.List.{AllByRecursion}
use Rattle.std.specs.BTreeMap.{BTreeMap, get}
use Rattle.frp_base.specs.declared.name.Name.{Name}
use Rattle.frp_base.specs.Name.{name_eq, name_cmp, item_of}
use Rattle.frp_graph.specs.declared.trace.Node.{Node}
use Rattle.frp_store.specs.declared.edges.Dependents.{Dependents}
use Rattle.frp_store.specs.declared.edges.Edges.{Edges}
use Rattle.frp_store.specs.declared.held.Held.{Held}
use Rattle.frp_store.specs.Items.{updated}
use Rattle.frp_store.specs.Lists.{nodes_of}
use Rattle.frp_store.specs.Closing.{at, held_target}
use Rattle.frp_store.specs.Places.{PlaceList, ArePlaces, IsRising, has, with_place, without_place}
use Rattle.frp_store.specs.State.{place_in}
use Rattle.frp_store.specs.Dependents.{own_links, watched, is_linked_to, is_watching, is_turned_to, wants}

abbrev pub with_at : ℕ → PlaceList → PlaceList
with_at p l = record l { items = with_place p l.items }

abbrev pub without_at : ℕ → PlaceList → PlaceList
without_at p l = record l { items = without_place p l.items }

-- the lists, once the node of a place depends on another one, or no more
abbrev pub joined : Option ℕ → ℕ → List Dependents → List Dependents
joined None p ds = ds
joined (Some e) p ds = updated e (λ (d : Dependents). record d { nodes = with_at p d.nodes }) ds

abbrev pub left : Option ℕ → ℕ → List Dependents → List Dependents
left None p ds = ds
left (Some e) p ds = updated e (λ (d : Dependents). record d { nodes = without_at p d.nodes }) ds

-- the lists, once the node of a place watches another one, or no more
abbrev pub joined_watcher : Option ℕ → ℕ → List Dependents → List Dependents
joined_watcher None p ds = ds
joined_watcher (Some e) p ds = updated e (λ (d : Dependents). record d { watchers = with_at p d.watchers }) ds

abbrev pub left_watcher : Option ℕ → ℕ → List Dependents → List Dependents
left_watcher None p ds = ds
left_watcher (Some e) p ds = updated e (λ (d : Dependents). record d { watchers = without_at p d.watchers }) ds

-- there is room for a place among the dependents of a node
abbrev pub HasRoomFor : Option ℕ → ℕ → List Dependents → Type 0
HasRoomFor None p ds = ⊤
HasRoomFor (Some e) p ds = (d : Dependents) → slice_get ds e ≡ Some d → length (with_place p d.nodes.items) ≤ d.nodes.room

abbrev pub HasRoomForWatcher : Option ℕ → ℕ → List Dependents → Type 0
HasRoomForWatcher None p ds = ⊤
HasRoomForWatcher (Some e) p ds = (d : Dependents) → slice_get ds e ≡ Some d → length (with_place p d.watchers.items) ≤ d.watchers.room

-- there is room for one more
abbrev pub HasSpare : Option ℕ → List Dependents → Type 0
HasSpare None ds = ⊤
HasSpare (Some e) ds = (d : Dependents) → slice_get ds e ≡ Some d → length d.nodes.items < d.nodes.room

abbrev pub HasSpareForWatcher : Option ℕ → List Dependents → Type 0
HasSpareForWatcher None ds = ⊤
HasSpareForWatcher (Some e) ds = (d : Dependents) → slice_get ds e ≡ Some d → length d.watchers.items < d.watchers.room

-- the same places, with room for as many or more
pub record IsRoomierThan (c d : Dependents) : Type 0 where
  pub nodes : d.nodes.items ≡ c.nodes.items
  pub watchers : d.watchers.items ≡ c.watchers.items
  pub room : c.nodes.room ≤ d.nodes.room
  pub watcher_room : c.watchers.room ≤ d.watchers.room

pub record IsRoomier (old new : List Dependents) : Type 0 where
  pub count : length new ≡ length old
  pub each : (e : ℕ) (d : Dependents) → slice_get new e ≡ Some d → (c : Dependents) × (slice_get old e ≡ Some c) × IsRoomierThan c d

-- whether a node, by its shape or as it is turned, depends on that of a place; and whether it watches it
abbrev pub depends_on : Option Node → Option Node → Option (Option ℕ) → ℕ → Bool
depends_on None x t e = false
depends_on (Some y) None t e = false
depends_on (Some y) (Some x) None e = false
depends_on (Some y) (Some x) (Some t) e = is_linked_to x.shape y.name || is_turned_to t e

abbrev pub watches_on : Option Node → Option Node → Bool
watches_on None x = false
watches_on (Some y) None = false
watches_on (Some y) (Some x) = is_watching x.shape y.name

abbrev pub depends : List Node → List (Option ℕ) → ℕ → ℕ → Bool
depends nodes targets e p = depends_on (slice_get nodes e) (slice_get nodes p) (slice_get targets p) e

abbrev pub watches : List Node → ℕ → ℕ → Bool
watches nodes e p = watches_on (slice_get nodes e) (slice_get nodes p)

-- whether a node, by its shape alone, depends on another
abbrev pub linked_by : Option Node → Option Node → Bool
linked_by None x = false
linked_by (Some y) None = false
linked_by (Some y) (Some x) = is_linked_to x.shape y.name

-- the place to which the node of a place was turned, if it does not depend on that node by its shape too
abbrev pub unlinked : List Node → ℕ → Option ℕ → Option ℕ
unlinked nodes p None = None
unlinked nodes p (Some e) = if linked_by (slice_get nodes e) (slice_get nodes p) then None else Some e

-- the lists, once the node of a place is turned to none
abbrev pub unturned : List Held → ℕ → List Dependents → List Dependents
unturned held p ds = left (unlinked (nodes_of held) p (at held_target held p)) p ds

-- the place of a name, if any, and of those to which a shape is linked
abbrev pub end_at : List Node → Option Name → Option ℕ
end_at nodes n = option_and_then (λ m. place_in nodes m) n

-- the lists, once the node of a place is filed where it is linked to, and once it is no more
abbrev pub filed : List Node → Node → ℕ → List Dependents → List Dependents
filed nodes x p ds =
    joined_watcher (end_at nodes (slice_get (watched x.shape) 0)) p
    (joined (end_at nodes (slice_get (own_links x.shape) 1)) p (joined (end_at nodes (slice_get (own_links x.shape) 0)) p ds))

abbrev pub unfiled : List Node → Node → ℕ → List Dependents → List Dependents
unfiled nodes x p ds =
    left_watcher (end_at nodes (slice_get (watched x.shape) 0)) p
    (left (end_at nodes (slice_get (own_links x.shape) 1)) p (left (end_at nodes (slice_get (own_links x.shape) 0)) p ds))

-- there is room to file a node where it is linked to
pub record HasRoomToFile (nodes : List Node) (x : Node) (p : ℕ) (ds : List Dependents) : Type 0 where
  pub first : HasRoomFor (end_at nodes (slice_get (own_links x.shape) 0)) p ds
  pub second : HasRoomFor (end_at nodes (slice_get (own_links x.shape) 1)) p (joined (end_at nodes (slice_get (own_links x.shape) 0)) p ds)
  pub watching : HasRoomForWatcher (end_at nodes (slice_get (watched x.shape) 0)) p
      (joined (end_at nodes (slice_get (own_links x.shape) 1)) p (joined (end_at nodes (slice_get (own_links x.shape) 0)) p ds))

-- and room for one more in each list
pub record HasSpareToFile (nodes : List Node) (x : Node) (ds : List Dependents) : Type 0 where
  pub first : HasSpare (end_at nodes (slice_get (own_links x.shape) 0)) ds
  pub second : HasSpare (end_at nodes (slice_get (own_links x.shape) 1)) ds
  pub watching : HasSpareForWatcher (end_at nodes (slice_get (watched x.shape) 0)) ds

-- whether the node of a place is linked to a name, and whether it watches the node of that name
abbrev pub links_to : Option Node → Name → Bool
links_to None n = false
links_to (Some x) n = is_linked_to x.shape n

abbrev pub watches_by : Option Node → Name → Bool
watches_by None n = false
watches_by (Some x) n = is_watching x.shape n

-- those of these places whose nodes were linked to a name before its node was live, with room for one more
pub record AreLinkedBefore (xs : List Node) (wanting : List ℕ) (n : Name) (d : Dependents) : Type 0 where
  pub nodes : ArePlaces d.nodes.items (λ p. has wanting p && links_to (slice_get xs p) n)
  pub watchers : ArePlaces d.watchers.items (λ p. has wanting p && watches_by (slice_get xs p) n)
  pub spare : length d.nodes.items < d.nodes.room
  pub watcher_spare : length d.watchers.items < d.watchers.room

-- the index, once a name has a place
abbrev pub HasEntered : BTreeMap Name ℕ → BTreeMap Name ℕ → Name → ℕ → Type 0
HasEntered old new n p = (m : Name) → get name_cmp new m ≡ (if name_eq n m then (if item_of n == p then None else Some p) else get name_cmp old m)

-- the index, once the name of a place is live no more
abbrev pub HasForgotten : BTreeMap Name ℕ → BTreeMap Name ℕ → Name → ℕ → Type 0
HasForgotten old new n p = (m : Name) → get name_cmp new m ≡ (if item_of n == p then get name_cmp old m else (if name_eq n m then None else get name_cmp old m))

-- the index has each place that is not the number of the name's item
abbrev pub IsIndexed : BTreeMap Name ℕ → Name → Option ℕ → Type 0
IsIndexed index n None = get name_cmp index n ≡ None
IsIndexed index n (Some p) = get name_cmp index n ≡ (if item_of n == p then None else Some p)

-- by place, the dependents of nodes that are turned like this
pub record AreListed (ds : List Dependents) (xs : List Node) (targets : List (Option ℕ)) : Type 0 where
  pub count : length ds ≡ length xs
  pub nodes : (e : ℕ) (d : Dependents) → slice_get ds e ≡ Some d → ArePlaces d.nodes.items (depends xs targets e)
  pub watchers : (e : ℕ) (d : Dependents) → slice_get ds e ≡ Some d → ArePlaces d.watchers.items (watches xs e)
  pub fits : (e : ℕ) (d : Dependents) → slice_get ds e ≡ Some d → length d.nodes.items ≤ d.nodes.room

-- what is kept of nodes that are turned like this
pub record AreLinked (edges : Edges) (nodes : List Node) (targets : List (Option ℕ)) : Type 0 where
  pub listed : AreListed edges.lists.items nodes targets
  pub indexed : (n : Name) → IsIndexed edges.index n (place_in nodes n)
  pub inside : AllByRecursion (λ p. p < length nodes) edges.wanting.items
  pub rising : IsRising edges.wanting.items

-- a node that has a link to a name of no live node is among those that want one
abbrev pub IsWanted : List ℕ → List Node → Type 0
IsWanted wanting nodes = (p : ℕ) (x : Node) → slice_get nodes p ≡ Some x → IsTrue (wants nodes x.shape) → IsTrue (has wanting p)

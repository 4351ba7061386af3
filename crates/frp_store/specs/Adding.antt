-- A node more.
use Rattle.std.specs.Prelude.{◌≡◌, ℕ, ◌<◌, ◌≤◌, Option, None, length, is_some, vec_len, vec_capacity, IsTrue}
use Rattle.std.specs.BTreeMap.{BTreeMap}
use Rattle.frp_base.specs.declared.name.Name.{Name}
use Rattle.frp_base.specs.declared.val.Val.{Val}
use Rattle.frp_graph.specs.declared.trace.Node.{Node}
use Rattle.frp_store.specs.declared.edges.Dependents.{Dependents}
use Rattle.frp_store.specs.declared.tables.Tables.{Tables}
use Rattle.frp_store.specs.State.{place_in}
use Rattle.frp_store.specs.Lists.{lists_of, nodes_of}
use Rattle.frp_store.specs.Edges.{HasEntered, HasSpareToFile, AreLinkedBefore}
use Rattle.frp_store.specs.Kept.{AreKept}

-- all memory is there for a node, but for its name in the index
pub record IsPrepared (x : Node) (t : Tables) : Type 0 where
  pub held : 1 ≤ t.held.spare
  pub lists : 1 ≤ t.edges.lists.spare
  pub wanting : length t.edges.wanting.items < t.edges.wanting.room
  pub changes : vec_len t.changes < vec_capacity t.changes
  pub ends : HasSpareToFile (nodes_of t.held.items) x t.edges.lists.items

-- the node, with what is kept beside it, can be put: its name was entered into the index that tables had
pub record IsReady (x : Node) (value : Option Val) (d : Dependents) (t : Tables) : Type 0 where
  pub index : BTreeMap Name ℕ
  pub kept : AreKept t.changes.items (lists_of t) (record t.edges { index = index })
  pub entered : HasEntered index t.edges.index x.name (length t.held.items)
  pub begun : IsTrue (is_some t.begun)
  pub new : place_in (nodes_of t.held.items) x.name ≡ None
  pub before : value ≡ x.first
  pub linked : AreLinkedBefore (nodes_of t.held.items) t.edges.wanting.items x.name d
  pub prepared : IsPrepared x t

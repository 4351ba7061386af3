-- The lists of one node, as they are written.
use Rattle.std.proofs.Common.{◌≡◌, ℕ, List, Some, sym, ap, ◌∙◌}
use Rattle.std.specs.Prelude.{slice_get, slice_set}
use Rattle.frp_store.specs.declared.edges.Dependents.{Dependents}
use Rattle.frp_store.specs.Places.{PlaceList, with_place, without_place}
use Rattle.frp_store.specs.Edges.{joined, left, joined_watcher, left_watcher}
use Rattle.frp_store.proofs.Items.{updated_set}

list_is : (l m : PlaceList) (items : List ℕ) → m.items ≡ items → m.room ≡ l.room → m ≡ (record l { items = items })
list_is l m items a b = ap (λ i. record m { items = i }) a ∙ ap (λ r. record { items = items; room = r }) b

pub joined_is : (ds : List Dependents) (e p : ℕ) (d : Dependents) (m : PlaceList) → slice_get ds e ≡ Some d → m.items ≡ with_place p d.nodes.items → m.room ≡ d.nodes.room
    → slice_set ds e (record d { nodes = m }) ≡ joined (Some e) p ds
joined_is ds e p d m g a b =
    ap (λ n. slice_set ds e (record d { nodes = n })) (list_is d.nodes m (with_place p d.nodes.items) a b)
    ∙ sym (updated_set e (λ (c : Dependents). record c { nodes = record c.nodes { items = with_place p c.nodes.items } }) ds d g)

pub left_is : (ds : List Dependents) (e p : ℕ) (d : Dependents) (m : PlaceList) → slice_get ds e ≡ Some d → m.items ≡ without_place p d.nodes.items → m.room ≡ d.nodes.room
    → slice_set ds e (record d { nodes = m }) ≡ left (Some e) p ds
left_is ds e p d m g a b =
    ap (λ n. slice_set ds e (record d { nodes = n })) (list_is d.nodes m (without_place p d.nodes.items) a b)
    ∙ sym (updated_set e (λ (c : Dependents). record c { nodes = record c.nodes { items = without_place p c.nodes.items } }) ds d g)

pub joined_watcher_is : (ds : List Dependents) (e p : ℕ) (d : Dependents) (m : PlaceList) → slice_get ds e ≡ Some d → m.items ≡ with_place p d.watchers.items → m.room ≡ d.watchers.room
    → slice_set ds e (record d { watchers = m }) ≡ joined_watcher (Some e) p ds
joined_watcher_is ds e p d m g a b =
    ap (λ n. slice_set ds e (record d { watchers = n })) (list_is d.watchers m (with_place p d.watchers.items) a b)
    ∙ sym (updated_set e (λ (c : Dependents). record c { watchers = record c.watchers { items = with_place p c.watchers.items } }) ds d g)

pub left_watcher_is : (ds : List Dependents) (e p : ℕ) (d : Dependents) (m : PlaceList) → slice_get ds e ≡ Some d → m.items ≡ without_place p d.watchers.items → m.room ≡ d.watchers.room
    → slice_set ds e (record d { watchers = m }) ≡ left_watcher (Some e) p ds
left_watcher_is ds e p d m g a b =
    ap (λ n. slice_set ds e (record d { watchers = n })) (list_is d.watchers m (without_place p d.watchers.items) a b)
    ∙ sym (updated_set e (λ (c : Dependents). record c { watchers = record c.watchers { items = without_place p c.watchers.items } }) ds d g)

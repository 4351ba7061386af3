-- The links of small nodes lead to earlier nodes, so that no phase has a closed chain; and none of them is an execute.
use Rattle.std.proofs.Common.{◌≡◌, ℕ, ◌<◌, true, List, [], ◌∷◌, length, Option, Some, None, refl, sym, ap, ◌∙◌, arith, inl, inr}
use Rattle.std.specs.List.{AllByRecursion, list_any}
use Rattle.frp_base.specs.declared.name.Name.{Name}
use Rattle.frp_base.specs.declared.val.Val.{Val}
use Rattle.frp_base.specs.Name.{item_of, name_eq}
use Rattle.frp_graph.specs.declared.trace.Node.{Node}
use Rattle.frp_graph.specs.declared.evidence.Phase.{Phase}
use Rattle.frp_graph.specs.Roles.{execution}
use Rattle.frp_graph.specs.Trace.{Sight, Each, node_in, post_in}
use Rattle.frp_graph.specs.Links.{links_by, links_from, is_linked_by, is_linked, IsChainless}
use Rattle.frp_graph.proofs.Lists.{name_same}
use Rattle.frp_graph.proofs.Nodes.{each_named}
use Rattle.frp_graph.proofs.Chains.{LeadsLower, no_chain}
use Rattle.frp_base.proofs.Booleans.{either_true}
use Rattle.frp_core.specs.Small.{IsEarlier, AreSmallFrom}
use Rattle.frp_core.proofs.SmallShapes.{links_earlier, makes_nothing}
use Rattle.frp_core.proofs.Found.{IsItem, found}

leads : (b : Name) (k : ℕ) (ns : List Name) → AllByRecursion (IsEarlier k) ns → list_any (λ n. name_eq n b) ns ≡ true → item_of b < k
leads b k [] h t = absurd cc
leads b k (n ∷ ns) h t = elim (either_true (name_eq n b) (list_any (λ n. name_eq n b) ns) t) [
  | inl e ↦
      let l : h.0.0 < k = h.0.1.0 in
      let q : item_of b ≡ h.0.0 = ap item_of (sym (name_same n b e) ∙ h.0.1.1) in
      omega arith
  | inr r ↦ leads b k ns h.1 r
]

module _ (w : Sight) (nodes : List Node) (same : (n : Name) → w.node n ≡ node_in nodes n) (small : AreSmallFrom 0 nodes) where
  item_here : (n : Name) (x : Node) → w.node n ≡ Some x → IsItem (length nodes) x
  item_here n x e = found nodes n x small (sym (same n) ∙ e)

  -- the items of linked nodes fall
  lower : (after : Name → Option Val) (phase : Phase) → LeadsLower (is_linked_by w after phase) item_of
  lower after phase a b h = from (w.node a) refl h where
    from : (o : Option Node) → w.node a ≡ o → list_any (λ n. name_eq n b) (links_from w after phase o) ≡ true → item_of b < item_of a
    from None e h = absurd cc
    from (Some x) e h =
        let f = item_here a x e in
        let l : item_of b < f.item = leads b f.item (links_by w after phase x) (links_earlier w after phase x f.item f.named f.small) h in
        let i : item_of a ≡ f.item = ap item_of (sym (each_named w nodes same a x e) ∙ f.named) in
        omega arith

  pub chainless : IsChainless w
  chainless = λ phase names. no_chain (is_linked w phase) item_of (lower (post_in w) phase) names

  pub no_execute : Each w (λ x. execution x.shape ≡ None)
  no_execute n x e = makes_nothing x.shape (item_here n x e).small.0

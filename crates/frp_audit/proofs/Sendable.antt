-- What could be sent before some moments could be sent before these and more.
use Rattle.std.proofs.Common.{◌≡◌, ℕ, true, List, [], ◌∷◌, ◌++◌, Option, Some, None, refl, sym, ap, ◌∙◌, subst}
use Rattle.std.specs.Prelude.{option_map}
use Rattle.std.specs.Ordering.{is_lt}
use Rattle.std.proofs.lemmas.List.Elements.{filter-append}
use Rattle.frp_base.specs.declared.name.Name.{Name}
use Rattle.frp_base.specs.declared.val.Val.{Val}
use Rattle.frp_base.specs.Time.{time_cmp}
use Rattle.frp_base.proofs.Booleans.{both_true, true_both}
use Rattle.frp_base.proofs.Lists.{all_follow}
use Rattle.frp_graph.specs.declared.prog.Prog.{Prog}
use Rattle.frp_graph.specs.declared.trace.Node.{Node}
use Rattle.frp_graph.specs.declared.trace.Moment.{Moment}
use Rattle.frp_graph.specs.declared.trace.Sent.{Sent}
use Rattle.frp_graph.specs.Trace.{node_in, live, moments_before}
use Rattle.frp_graph.specs.Roles.{is_sink_shape}
use Rattle.frp_graph.specs.Sends.{takes, node_before, AreSendable}
use Rattle.frp_graph.specs.Values.{type_among, fits_node}
use Rattle.frp_graph.specs.ShapeLaws.{Stays}
use Rattle.frp_graph.proofs.Before.{live_append}
use Rattle.frp_graph.proofs.Nodes.{found_more}
use Rattle.frp_graph.proofs.Options.{mapped_some}
use Rattle.frp_audit.proofs.Seen.{fits_more}
use Rattle.frp_audit.proofs.Pasts.{older}

module _ (prog : Prog) (before rest : List Moment) where
  -- the nodes before a place are still there
  nodes_more : (k : ℕ) (n : Name) (x : Node) → node_before before k n ≡ Some x → node_before (before ++ rest) k n ≡ Some x
  nodes_more k n x h =
      let few : List Moment = moments_before (k ∷ []) before in
      let more : List Moment = moments_before (k ∷ []) rest in
      let all : live (moments_before (k ∷ []) (before ++ rest)) ≡ live few ++ live more
      = ap live (filter-append (λ m. is_lt (time_cmp m.time (k ∷ []))) before rest) ∙ live_append few more in
      ap (λ xs. node_in xs n) all ∙ found_more (live few) (live more) n x h

  types_stay : (k : ℕ) → Stays (type_among (node_before before k)) (type_among (node_before (before ++ rest) k))
  types_stay k n a h =
      let x = mapped_some (λ (z : Node). z.ty) (node_before before k n) a h in
      ap (λ o. option_map (λ (z : Node). z.ty) o) (nodes_more k n x.0 x.1) ∙ ap Some x.2

  takes_more : (k : ℕ) (v : Val) (n : Name) (o : Option Node) → node_before before k n ≡ o
      → takes prog (node_before before k) v o ≡ true
      → takes prog (node_before (before ++ rest) k) v (node_before (before ++ rest) k n) ≡ true
  takes_more k v n None e h = absurd cc
  takes_more k v n (Some x) e h =
      let p = both_true (is_sink_shape x.shape) (fits_node prog (node_before before k) x.ty v) h in
      let fits : fits_node prog (node_before (before ++ rest) k) x.ty v ≡ true
      = fits_more prog (older (moments_before (k ∷ []) before) (k ∷ [])) (older (moments_before (k ∷ []) (before ++ rest)) (k ∷ [])) (types_stay k) x.ty v p.1 in
      subst (λ (o : Option Node). takes prog (node_before (before ++ rest) k) v o ≡ true) (sym (nodes_more k n x e)) (true_both (is_sink_shape x.shape) _ p.0 fits)

  pub sendable_more : (sends : List Sent) → AreSendable prog sends before → AreSendable prog sends (before ++ rest)
  sendable_more sends h =
      all_follow (λ s. takes prog (node_before before s.place) s.value (node_before before s.place s.sink) ≡ true)
      (λ s. takes prog (node_before (before ++ rest) s.place) s.value (node_before (before ++ rest) s.place s.sink) ≡ true)
      (λ s t. takes_more s.place s.value s.sink (node_before before s.place s.sink) refl t) sends h

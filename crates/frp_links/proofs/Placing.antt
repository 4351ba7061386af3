-- Links between places are those between the nodes there.
use Rattle.std.proofs.Common.{◌≡◌, ℕ, ◌<◌, true, false, List, [], ◌∷◌, ◌++◌, length, get_or, Option, Some, None, suc, zero, refl, sym, ap, ◌∙◌, subst, arith, inl, inr}
use Rattle.std.specs.Prelude.{◌||◌, slice_get, is_some}
use Rattle.std.specs.Option.{option_to_list}
use Rattle.std.specs.List.{list_any}
use Rattle.std.proofs.lemmas.Bool.{cases_lt}
use Rattle.std.proofs.lemmas.List.{get_or_past, length-map}
use Rattle.frp_base.specs.declared.name.Name.{Name}
use Rattle.frp_base.specs.Name.{name_eq}
use Rattle.frp_base.proofs.Booleans.{either_true, or_more}
use Rattle.frp_graph.specs.declared.trace.Node.{Node}
use Rattle.frp_graph.specs.declared.evidence.Phase.{Phase}
use Rattle.frp_graph.specs.Trace.{Sight, post_in}
use Rattle.frp_graph.specs.Views.{AreLive}
use Rattle.frp_graph.specs.Links.{links, links_from, is_linked, is_closed_chain}
use Rattle.frp_graph.proofs.Lists.{name_same, name_eq-same}
use Rattle.frp_graph.proofs.Chains.{LeadsLower, no_chain}
use Rattle.frp_order.specs.Rings.{row, IsLinked, IsOrder}
use Rattle.frp_links.specs.Chains.{AreNamed}
use Rattle.frp_links.specs.Places.{IsIndex, places_of, rows_of}
use Rattle.frp_links.proofs.Lists.{found_at, found_inside, map_found, all_found}

-- a name among names
abbrev pub IsAmong : Name → List Name → Type 0
IsAmong n ns = list_any (λ k. name_eq k n) ns ≡ true

module _ (find : Name → Option ℕ) where
  -- a name whose place is that of an index
  pub record Placed (ns : List Name) (p : ℕ) : Type 0 where
    pub name : Name
    pub among : IsAmong name ns
    pub place : find name ≡ Some p

  later : (n : Name) (ns : List Name) (p : ℕ) → Placed ns p → Placed (n ∷ ns) p
  later n ns p r = record { name = r.name; among = or_more (name_eq n r.name) (list_any (λ k. name_eq k r.name) ns) r.among; place = r.place }

  pub place_named : (ns : List Name) (i : ℕ) → i < length (places_of find ns) → Placed ns (get_or (places_of find ns) i 0)
  place_named [] i h = absurd (omega arith)
  place_named (n ∷ ns) i h = by (find n) refl (place_named ns) i h where
    by : (o : Option ℕ) → find n ≡ o → ((i : ℕ) → i < length (places_of find ns) → Placed ns (get_or (places_of find ns) i 0)) → (i : ℕ) → i < length (option_to_list o ++ places_of find ns) → Placed (n ∷ ns) (get_or (option_to_list o ++ places_of find ns) i 0)
    by None e rest i h = later n ns _ (rest i h)
    by (Some p) e rest zero h = record { name = n; among = ap (λ b. b || list_any (λ k. name_eq k n) ns) (name_eq-same n); place = e }
    by (Some p) e rest (suc i) h = later n ns _ (rest i (omega arith))

  pub named_place : (ns : List Name) (n : Name) (p : ℕ) → IsAmong n ns → find n ≡ Some p → (i : ℕ) × (i < length (places_of find ns)) × (get_or (places_of find ns) i 0 ≡ p)
  named_place [] n p a e = absurd cc
  named_place (k ∷ ns) n p a e = elim (either_true (name_eq k n) (list_any (λ j. name_eq j n) ns) a) [
    | inl s ↦ subst (λ o. (i : ℕ) × (i < length (option_to_list o ++ places_of find ns)) × (get_or (option_to_list o ++ places_of find ns) i 0 ≡ p)) (sym (ap find (name_same k n s) ∙ e)) (0, omega arith, refl)
    | inr r ↦ by (find k) (named_place ns n p r e)
  ] where
    by : (o : Option ℕ) → (i : ℕ) × (i < length (places_of find ns)) × (get_or (places_of find ns) i 0 ≡ p)
        → (i : ℕ) × (i < length (option_to_list o ++ places_of find ns)) × (get_or (option_to_list o ++ places_of find ns) i 0 ≡ p)
    by None r = r
    by (Some q) (i, l, s) = (suc i, omega arith, s)

module _ (w : Sight) (phase : Phase) (nodes : List Node) (find : Name → Option ℕ) (by_name : AreNamed w) (live : AreLive w nodes) (index : IsIndex nodes find) where
  abbrev rows : List (List ℕ)
  rows = rows_of w phase find nodes

  pub rows_length : length rows ≡ length nodes
  rows_length = length-map nodes (λ x. places_of find (links w phase x))

  row_of : (a : ℕ) (x : Node) → slice_get nodes a ≡ Some x → row rows a ≡ places_of find (links w phase x)
  row_of a x e = map_found (λ y. places_of find (links w phase y)) nodes a x [] e

  pub in_rows : (a b : ℕ) → IsLinked rows a b → a < length nodes
  in_rows a b (i, l, e) = elim (cases_lt a (length rows)) [
    | inl h ↦ subst (λ n. a < n) rows_length h
    | inr h ↦ let z : row rows a ≡ [] = get_or_past rows a [] h in let y : length (row rows a) ≡ 0 = ap length z in absurd (omega arith)
  ]

  pub is_live : (a : ℕ) (x : Node) → slice_get nodes a ≡ Some x → w.node x.name ≡ Some x
  is_live a x e = all_found (λ y. w.node y.name ≡ Some y) nodes a x live.live e

  -- nodes at linked places are linked
  pub record Linked (a b : ℕ) : Type 0 where
    pub from : Node
    pub to : Node
    pub from_at : slice_get nodes a ≡ Some from
    pub to_at : slice_get nodes b ≡ Some to
    pub linked : is_linked w phase from.name to.name ≡ true

  pub nodes_linked : (a b : ℕ) → IsLinked rows a b → Linked a b
  nodes_linked a b (i, l, e) =
      let x = found_at nodes a (in_rows a b (i, l, e)) in
      let r = row_of a x.0 x.1 in
      let p : Placed find (links w phase x.0) (get_or (places_of find (links w phase x.0)) i 0) = place_named find (links w phase x.0) i (subst (λ ps. i < length ps) r l) in
      let at : find p.name ≡ Some b = p.place ∙ ap Some (ap (λ ps. get_or ps i 0) (sym r) ∙ e) in
      let y = index.found p.name b at in
      record {
        from = x.0;
        to = y.0;
        from_at = x.1;
        to_at = y.1;
        linked = subst (λ o. IsAmong y.0.name (links_from w (post_in w) phase o)) (sym (is_live a x.0 x.1)) (subst (λ n. IsAmong n (links w phase x.0)) (sym y.2) p.among);
      }

  pub links_inside : (a b : ℕ) → IsLinked rows a b → b < length rows
  links_inside a b l = let k = nodes_linked a b l in subst (λ n. b < n) (sym rows_length) (found_inside nodes b k.to k.to_at)

  some_of : (o : Option ℕ) → is_some o ≡ true → (p : ℕ) × (o ≡ Some p)
  some_of None h = absurd cc
  some_of (Some p) h = (p, refl)

  -- the place of a live node
  placed_at : (a : Name) (x : Node) → w.node a ≡ Some x → (p : ℕ) × (find a ≡ Some p) × (slice_get nodes p ≡ Some x)
  placed_at a x e =
      let i = live.each a x e in
      let same : x.name ≡ a = by_name a x e in
      let p = some_of (find a) (subst (λ n. is_some (find n) ≡ true) same (index.all i.0 x i.1)) in
      let y = index.found a p.0 p.1 in
      let both : Some y.0 ≡ Some x = sym (is_live p.0 y.0 y.1) ∙ ap w.node y.2 ∙ e in
      (p.0, p.1, y.1 ∙ both)

  -- Where the places are in order, there is no closed chain.
  module _ (order : List ℕ) (ordered : IsOrder rows order) where
    abbrev rank_at : Option ℕ → ℕ
    rank_at None = 0
    rank_at (Some p) = suc (ordered.number p)

    abbrev rank : Name → ℕ
    rank n = rank_at (find n)

    lower_at : (x : Node) (p : ℕ) → slice_get nodes p ≡ Some x → (b : Name) → IsAmong b (links w phase x) → (o : Option ℕ) → find b ≡ o → rank_at o < suc (ordered.number p)
    lower_at x p at b h None e = omega arith
    lower_at x p at b h (Some q) e =
        let k = named_place find (links w phase x) b q h e in
        let r = row_of p x at in
        let l : IsLinked rows p q = (k.0, subst (λ ps. k.0 < length ps) (sym r) k.1, ap (λ ps. get_or ps k.0 0) r ∙ k.2) in
        let d : ordered.number q < ordered.number p = ordered.back p q l in
        omega arith

    lower : LeadsLower (is_linked w phase) rank
    lower a b h = by (w.node a) refl h where
      by : (o : Option Node) → w.node a ≡ o → IsAmong b (links_from w (post_in w) phase o) → rank b < rank a
      by None e h = absurd cc
      by (Some x) e h = let k = placed_at a x e in subst (λ o. rank_at (find b) < rank_at o) (sym k.1) (lower_at x k.0 k.2 b h (find b) refl)

    pub chainless : (names : List Name) → is_closed_chain (is_linked w phase) names ≡ false
    chainless = no_chain (is_linked w phase) rank lower

-- A ring of places is one of the names of the nodes there.
use Rattle.std.proofs.Common.{◌≡◌, ℕ, ◌<◌, ◌+◌, ◌-◌, true, List, [], length, get_or, map, Option, Some, suc, sym, ap, ◌∙◌, subst, arith, inl, inr}
use Rattle.std.specs.Prelude.{slice_get, option_map, unwrap_or}
use Rattle.std.proofs.lemmas.Bool.{cases_lt}
use Rattle.std.proofs.lemmas.List.{get_or-map, length-map}
use Rattle.frp_base.specs.declared.name.Name.{Name}
use Rattle.frp_graph.specs.declared.trace.Node.{Node}
use Rattle.frp_graph.specs.declared.evidence.Phase.{Phase}
use Rattle.frp_graph.specs.Trace.{Sight}
use Rattle.frp_graph.specs.Views.{AreLive}
use Rattle.frp_graph.specs.Links.{is_linked}
use Rattle.frp_order.specs.Rings.{IsLinked, IsRing}
use Rattle.frp_links.specs.Chains.{AreNamed}
use Rattle.frp_links.specs.Places.{IsIndex, rows_of, name_at}
use Rattle.frp_links.proofs.Lists.{AreOnce, by_index_distinct, found_at, map_found}
use Rattle.frp_links.proofs.Turning.{IsNameRing}
use Rattle.frp_links.proofs.Placing.{nodes_linked, Linked, in_rows}

module _ (w : Sight) (phase : Phase) (nodes : List Node) (find : Name → Option ℕ) (by_name : AreNamed w) (live : AreLive w nodes) (index : IsIndex nodes find)
    (ring : List ℕ) (closed : IsRing (rows_of w phase find nodes) ring) where
  abbrev pub names : List Name
  names = map (name_at nodes) ring

  pub names_length : length names ≡ length ring
  names_length = length-map ring (name_at nodes)

  named : (p : ℕ) (x : Node) → slice_get nodes p ≡ Some x → name_at nodes p ≡ x.name
  named p x e = ap (λ o. unwrap_or (option_map (λ (y : Node). y.name) o) []) e

  name_of : (i : ℕ) → i < length ring → get_or names i [] ≡ name_at nodes (get_or ring i 0)
  name_of i h = get_or-map (name_at nodes) ring i 0 [] h

  pub in_nodes : (i : ℕ) → i < length ring → get_or ring i 0 < length nodes
  in_nodes i h = elim (cases_lt (i + 1) (length ring)) [
    | inl l ↦ in_rows w phase nodes find by_name live index _ _ (closed.next i l)
    | inr l ↦ let e : length ring - 1 ≡ i = omega arith in subst (λ j. get_or ring j 0 < length nodes) e (in_rows w phase nodes find by_name live index _ _ closed.round)
  ]

  same_place : (p q : ℕ) → p < length nodes → q < length nodes → name_at nodes p ≡ name_at nodes q → p ≡ q
  same_place p q h k e =
      let x = found_at nodes p h in
      let y = found_at nodes q k in
      let at_p : get_or (map (λ (z : Node). z.name) nodes) p [] ≡ x.0.name = map_found (λ (z : Node). z.name) nodes p x.0 [] x.1 in
      let at_q : get_or (map (λ (z : Node). z.name) nodes) q [] ≡ y.0.name = map_found (λ (z : Node). z.name) nodes q y.0 [] y.1 in
      let l = length-map nodes (λ (z : Node). z.name) in
      by_index_distinct (map (λ (z : Node). z.name) nodes) live.once p q (subst (λ n. p < n) (sym l) h) (subst (λ n. q < n) (sym l) k)
      (at_p ∙ sym (named p x.0 x.1) ∙ e ∙ named q y.0 y.1 ∙ sym at_q)

  once : AreOnce names
  once i j h k e =
      let a : i < length ring = subst (λ n. i < n) names_length h in
      let b : j < length ring = subst (λ n. j < n) names_length k in
      closed.once i j a b (same_place (get_or ring i 0) (get_or ring j 0) (in_nodes i a) (in_nodes j b) (sym (name_of i a) ∙ e ∙ name_of j b))

  linked_at : (i j : ℕ) → i < length ring → j < length ring → IsLinked (rows_of w phase find nodes) (get_or ring i 0) (get_or ring j 0)
      → is_linked w phase (get_or names i []) (get_or names j []) ≡ true
  linked_at i j h k l =
      let r : Linked w phase nodes find by_name live index (get_or ring i 0) (get_or ring j 0) = nodes_linked w phase nodes find by_name live index (get_or ring i 0) (get_or ring j 0) l in
      let from : get_or names i [] ≡ r.from.name = name_of i h ∙ named (get_or ring i 0) r.from r.from_at in
      let to : get_or names j [] ≡ r.to.name = name_of j k ∙ named (get_or ring j 0) r.to r.to_at in
      subst (λ n. is_linked w phase n (get_or names j []) ≡ true) (sym from) (subst (λ n. is_linked w phase r.from.name n ≡ true) (sym to) r.linked)

  pub name_ring : IsNameRing (is_linked w phase) names
  name_ring = record {
    once = once;
    next = λ i h.
        let l : suc i < length ring = subst (λ n. suc i < n) names_length h in
        let e : i + 1 ≡ suc i = omega arith in
        linked_at i (suc i) (omega arith) l (subst (λ m. IsLinked (rows_of w phase find nodes) (get_or ring i 0) (get_or ring m 0)) e (closed.next i (omega arith)));
    round =
        let s = closed.some in
        subst (λ n. is_linked w phase (get_or names (n - 1) []) (get_or names 0 []) ≡ true) (sym names_length) (linked_at (length ring - 1) 0 (omega arith) s closed.round);
  }

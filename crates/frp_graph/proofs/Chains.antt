-- Where ranks fall along links there is no closed chain.
use Rattle.std.proofs.Common.{◌≡◌, ℕ, ◌<◌, Bool, true, false, List, [], ◌∷◌, refl, sym, arith}
use Rattle.std.specs.Prelude.{◌&&◌}
use Rattle.std.specs.List.{list_all}
use Rattle.std.specs.Ordering.{is_lt}
use Rattle.frp_base.specs.declared.name.Name.{Name}
use Rattle.frp_base.specs.Name.{name_cmp}
use Rattle.frp_base.proofs.Booleans.{both_true}
use Rattle.frp_graph.specs.Links.{is_path, are_distinct, is_closed_chain}

abbrev pub LeadsLower : (Name → Name → Bool) → (Name → ℕ) → Type 0
LeadsLower linked rank = (a b : Name) → linked a b ≡ true → rank b < rank a

module _ (linked : Name → Name → Bool) (rank : Name → ℕ) (lower : LeadsLower linked rank) where
  -- what a chain's test says of its path
  path_in : (n : Name) (ns : List Name) → is_closed_chain linked (n ∷ ns) ≡ true → is_path linked (n ∷ ns) n ≡ true
  path_in n ns h = (both_true (are_distinct (n ∷ ns) && list_all (λ k. is_lt (name_cmp n k)) ns) (is_path linked (n ∷ ns) n) h).1

  -- ranks fall along a path
  pub path_falls : (n : Name) (ns : List Name) (end : Name) → is_path linked (n ∷ ns) end ≡ true → rank end < rank n
  path_falls n [] end h = lower n end (both_true (linked n end) true h).0
  path_falls n (k ∷ ns) end h =
      let parts = both_true (linked n k) (is_path linked (k ∷ ns) end) h in
      let first : rank k < rank n = lower n k parts.0 in
      let rest : rank end < rank k = path_falls k ns end parts.1 in
      omega arith

  none_closed : (c : Bool) (names : List Name) → is_closed_chain linked names ≡ c → c ≡ false
  none_closed false names h = refl
  none_closed true [] h = sym h
  none_closed true (n ∷ ns) h =
      let falls : rank n < rank n = path_falls n ns n (path_in n ns h) in
      absurd (omega arith)

  pub no_chain : (names : List Name) → is_closed_chain linked names ≡ false
  no_chain names = none_closed (is_closed_chain linked names) names refl

-- Laws of links that lead to lower ranks.
use Rattle.std.specs.Prelude.{◌≡◌, ℕ, Bool, true, false, ◌<◌, ◌≤◌, ◌+◌, List, [], ◌∷◌, ◌++◌, length, slice_index, nat_lt, take, drop, map, if◌then◌else◌}
use Rattle.frp_rank.specs.Chain.{is_closed_chain, is_path, first_or, with_link}
use Rattle.frp_rank.specs.Order.{LeadsLower, KeepsOrder}

-- where links lead to lower ranks there is no closed chain
abbrev pub NoChainWhereLower : Type 0
NoChainWhereLower = (linked : ℕ → ℕ → Bool) (rank : ℕ → ℕ) → LeadsLower linked rank → (c : List ℕ) → is_closed_chain linked c ≡ false

-- the ranks with those of marked places raised by one number
abbrev pub lifted : (ℕ → ℕ) → (ℕ → Bool) → ℕ → ℕ → ℕ
lifted rank marked by p = if marked p then rank p + by else rank p

-- a set of places rises by one number: where it has each place that is linked to one of it too closely, links still lead lower, and so does the new link
abbrev pub LiftKeepsLower : Type 0
LiftKeepsLower = (linked : ℕ → ℕ → Bool) (rank : ℕ → ℕ) (marked : ℕ → Bool) (from to by : ℕ)
    → LeadsLower linked rank
    → ((a b : ℕ) → linked a b ≡ true → marked b ≡ true → rank a ≤ rank b + by → marked a ≡ true)
    → marked from ≡ true → marked to ≡ false → rank to < rank from + by
    → LeadsLower (with_link linked from to) (lifted rank marked by)

-- how many ranks are lower
abbrev pub lower_count : List ℕ → ℕ → ℕ
lower_count [] r = 0
lower_count (q ∷ qs) r = if nat_lt q r then 1 + lower_count qs r else lower_count qs r

-- each rank replaced by the number of places that stand lower
abbrev pub renumbered : List ℕ → List ℕ
renumbered ranks = map (lower_count ranks) ranks

-- ranks that are renumbered keep their order
abbrev pub RenumberingKeeps : Type 0
RenumberingKeeps = (ranks : List ℕ) → KeepsOrder ranks (renumbered ranks)

-- a path along falling ranks that a link closes is a closed chain once it is turned to begin with its least place
abbrev pub TurnedIsClosed : Type 0
TurnedIsClosed = (linked : ℕ → ℕ → Bool) (rank : ℕ → ℕ) (from to i : ℕ) (ns : List ℕ) → LeadsLower linked rank
    → is_path linked ns from ≡ true → first_or ns from ≡ to → i < length (ns ++ from ∷ [])
    → ((k : ℕ) → k < length (ns ++ from ∷ []) → slice_index (ns ++ from ∷ []) i ≤ slice_index (ns ++ from ∷ []) k)
    → is_closed_chain (with_link linked from to) (drop i (ns ++ from ∷ []) ++ take i (ns ++ from ∷ [])) ≡ true

-- Links between places, paths along them, and closed chains.
use Rattle.std.specs.Prelude.{◌≡◌, ℕ, Bool, true, false, ◌==◌, ◌&&◌, not, nat_lt, List, [], ◌∷◌, map, if◌then◌else◌}
use Rattle.std.specs.List.{list_any, list_all}
use Rattle.frp_base.specs.declared.place.Place.{Place}

-- a link from one place to another
pub record Link : Type 0 where
  pub from : ℕ
  pub to : ℕ

-- whether one of the links leads from the one place to the other
abbrev pub is_linked : List Link → ℕ → ℕ → Bool
is_linked [] a b = false
is_linked (l ∷ ls) a b = if l.from == a && l.to == b then true else is_linked ls a b

-- the links with one more, and without one
abbrev pub with_link : (ℕ → ℕ → Bool) → ℕ → ℕ → ℕ → ℕ → Bool
with_link linked from to a b = if from == a && to == b then true else linked a b

abbrev pub without_link : (ℕ → ℕ → Bool) → ℕ → ℕ → ℕ → ℕ → Bool
without_link linked from to a b = if from == a && to == b then false else linked a b

-- the first of a list, or what comes after it
abbrev pub first_or : List ℕ → ℕ → ℕ
first_or [] end = end
first_or (n ∷ ns) end = n

-- whether each is linked to the next, and the last to what comes after it
abbrev pub is_path : (ℕ → ℕ → Bool) → List ℕ → ℕ → Bool
is_path linked [] end = true
is_path linked (n ∷ ns) end = if linked n (first_or ns end) then is_path linked ns end else false

-- a path along the links from one place to another
abbrev pub LeadsTo : List Link → ℕ → ℕ → Type 0
LeadsTo links a b = (ns : List ℕ) × (is_path (is_linked links) (a ∷ ns) b ≡ true)

abbrev pub are_distinct : List ℕ → Bool
are_distinct [] = true
are_distinct (n ∷ ns) = if list_any (λ k. k == n) ns then false else are_distinct ns

-- distinct places, the least first, each linked to the next and the last to the first
abbrev pub is_closed_chain : (ℕ → ℕ → Bool) → List ℕ → Bool
is_closed_chain linked [] = false
is_closed_chain linked (n ∷ ns) =
    if are_distinct (n ∷ ns) then (if list_all (λ k. nat_lt n k) ns then is_path linked (n ∷ ns) n else false) else false

-- the numbers of places
abbrev pub numbers : List Place → List ℕ
numbers = map (λ (p : Place). p.0)

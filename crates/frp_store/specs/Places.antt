-- Lists of places, by rising number.
use Rattle.std.specs.Prelude.{◌≡◌, ℕ, ◌<◌, ◌==◌, Bool, List, [], ◌∷◌, Option, Some, None, false, map, suc, nat_lt, if◌then◌else◌, refl, ⊤}
use Rattle.std.specs.List.{AllByRecursion, list_any}
use Rattle.std.specs.Coded.{Coded, code_by, coded×, coded_ℕ, coded_list}
use Rattle.frp_base.specs.declared.place.Place.{Place}

abbrev pub number_of : Place → ℕ
number_of p = p.0

abbrev pub numbers : List Place → List ℕ
numbers places = map number_of places

-- the numbers of places, and for how many there is room
pub record PlaceList : Type 0 where
  pub items : List ℕ
  pub room : ℕ

abbrev pub place_list_code : Coded PlaceList
place_list_code = code_by (List ℕ × ℕ) (coded× (coded_list coded_ℕ) coded_ℕ) (λ l. (l.items, l.room)) (λ p. record { items = p.0; room = p.1 }) (λ _. refl)

-- each is below those after it
abbrev pub IsRising : List ℕ → Type 0
IsRising [] = ⊤
IsRising (p ∷ ps) = AllByRecursion (λ q. p < q) ps × IsRising ps

abbrev pub has : List ℕ → ℕ → Bool
has ps p = list_any (λ q. q == p) ps

-- rising places with one more, and with one fewer
abbrev pub with_place : ℕ → List ℕ → List ℕ
with_place p [] = p ∷ []
with_place p (q ∷ qs) = if nat_lt q p then q ∷ with_place p qs else (if q == p then q ∷ qs else p ∷ q ∷ qs)

abbrev pub without_place : ℕ → List ℕ → List ℕ
without_place p [] = []
without_place p (q ∷ qs) = if nat_lt q p then q ∷ without_place p qs else (if q == p then qs else q ∷ qs)

-- how many stand before the first that is not below a place
abbrev pub count_below : ℕ → List ℕ → ℕ
count_below p [] = 0
count_below p (q ∷ qs) = if nat_lt q p then suc (count_below p qs) else 0

-- whether it is the number of a place
abbrev pub is_number : Option ℕ → ℕ → Bool
is_number None p = false
is_number (Some q) p = q == p

-- these places, by rising number, are those that pass a test
pub record ArePlaces (ps : List ℕ) (test : ℕ → Bool) : Type 0 where
  pub rising : IsRising ps
  pub those : (p : ℕ) → has ps p ≡ test p

-- Due times, and which of them comes next.
use Rattle.std.specs.Prelude.{ℕ, ◌≡◌, ◌⊎◌, Bool, false, List, [], ◌∷◌, ◌++◌, map, Contains, ⊤}
use Rattle.std.specs.List.{AllByRecursion, range_with_len}
use Rattle.std.specs.declared.cmp.Ordering.TheVariants.{Less}
use Rattle.frp_base.specs.Time.{time_cmp}

-- what contracts see of an agenda: the present time, the due times after it in rising order, and whether the children
-- of the present time were made due
pub record Schedule : Type 0 where
  pub present : List ℕ
  pub due : List (List ℕ)
  pub pushed : Bool

-- the children of a time, from that of number 0 on
abbrev pub children : List ℕ → ℕ → List (List ℕ)
children t n = map (λ i. t ++ i ∷ []) (range_with_len 0 n)

-- one of these times, and none of them is before it
abbrev pub IsLeast : List ℕ → List (List ℕ) → Type 0
IsLeast t ts = Contains ts t × ((u : List ℕ) → Contains ts u → (t ≡ u) ⊎ (time_cmp t u ≡ Less))

abbrev pub moved_to : Schedule → List (List ℕ) → Schedule
moved_to s [] = s
moved_to s (t ∷ ts) = record { present = t; due = ts; pushed = false }

-- the first due time becomes the present one and is due no more; where nothing is due, all is as it was
abbrev pub moved : Schedule → Schedule
moved s = moved_to s s.due

-- all children of t come before u
abbrev pub ChildrenBefore : List ℕ → List ℕ → Type 0
ChildrenBefore t u = (i : ℕ) → time_cmp (t ++ i ∷ []) u ≡ Less

-- each of these times, and all its children, come before the next one
abbrev pub AreSpread : List (List ℕ) → Type 0
AreSpread [] = ⊤
AreSpread (t ∷ ts) = AllByRecursion (ChildrenBefore t) ts × AreSpread ts

-- the due times are spread and come after the present one; until its children are made due, they come after those too
pub record IsInOrder (present : List ℕ) (due : List (List ℕ)) (pushed : Bool) : Type 0 where
  pub spread : AreSpread due
  pub after : AllByRecursion (λ u. time_cmp present u ≡ Less) due
  pub room : pushed ≡ false → AllByRecursion (ChildrenBefore present) due

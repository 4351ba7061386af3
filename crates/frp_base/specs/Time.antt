-- Times: lists of numbers, in lexicographic order with a prefix first.
use Rattle.std.specs.Prelude.{ℕ, Bool, ◌==◌, List, [], ◌∷◌, ◌++◌, Option, Some, None, option_map, if◌then◌else◌}
use Rattle.std.specs.Fmt.{decimal}
use Rattle.std.specs.Ordering.{nat_cmp, is_gt}
use Rattle.std.specs.declared.cmp.Ordering.{Ordering}
use Rattle.std.specs.Cmp.Lexicographic.{slice_cmp}
use lib.Pointwise.{pointwise}

-- whether two times are one
abbrev pub time_eq : List ℕ → List ℕ → Bool
time_eq = pointwise ◌==◌

-- number by number from the left, and where one time is the beginning of the other, the shorter one first
abbrev pub time_cmp : List ℕ → List ℕ → Ordering
time_cmp = slice_cmp nat_cmp

-- a time of two numbers or more is a child: its parent, and its number among the children, from 0
abbrev pub parent_and_number : List ℕ → Option (List ℕ × ℕ)
parent_and_number [] = None
parent_and_number (n ∷ []) = None
parent_and_number (n ∷ i ∷ []) = Some (n ∷ [], i)
parent_and_number (n ∷ m ∷ i ∷ t) = option_map (λ (p : List ℕ × ℕ). (n ∷ p.0, p.1)) (parent_and_number (m ∷ i ∷ t))

-- the number of a child, where its parent is no earlier than a time
abbrev pub number_since : List ℕ → Option (List ℕ × ℕ) → Option ℕ
number_since start None = None
number_since start (Some p) = if is_gt (time_cmp start p.0) then None else Some p.1

-- the time whose child a time is; a time of one number has none
abbrev pub parent : List ℕ → Option (List ℕ)
parent t = option_map (λ (p : List ℕ × ℕ). p.0) (parent_and_number t)

-- each number with a comma before it
abbrev pub more_numbers : List ℕ → List ℕ
more_numbers [] = []
more_numbers (n ∷ ns) = 44 ∷ decimal n ++ more_numbers ns

-- as [3,0,1]
abbrev pub time_text : List ℕ → List ℕ
time_text [] = []
time_text (n ∷ ns) = 91 ∷ decimal n ++ more_numbers ns ++ 93 ∷ []

-- Names of nodes: lists of stages, each a time and the number of an item, in lexicographic order with a prefix first.
use Rattle.std.specs.Prelude.{ℕ, Bool, ◌&&◌, ◌==◌, List, [], ◌∷◌, ◌++◌, length, take, Option, Some, None}
use Rattle.std.specs.Fmt.{decimal}
use Rattle.std.specs.Ordering.{ordering_then, nat_cmp}
use Rattle.std.specs.declared.cmp.Ordering.{Ordering}
use Rattle.std.specs.Cmp.Lexicographic.{slice_cmp}
use lib.Pointwise.{pointwise}
use Rattle.frp_base.specs.declared.name.Stage.{Stage}
use Rattle.frp_base.specs.Time.{time_eq, time_cmp, time_text}

-- whether two stages, and two names, are one
abbrev pub stage_eq : Stage → Stage → Bool
stage_eq a b = time_eq a.time b.time && a.item == b.item

abbrev pub name_eq : List Stage → List Stage → Bool
name_eq = pointwise stage_eq

-- stages by their times and then by their items; names stage by stage, a beginning first
abbrev pub stage_cmp : Stage → Stage → Ordering
stage_cmp a b = ordering_then (time_cmp a.time b.time) (nat_cmp a.item b.item)

abbrev pub name_cmp : List Stage → List Stage → Ordering
name_cmp = slice_cmp stage_cmp

-- the name of item k of the file: it is born at the time of the build
abbrev pub declared_name : ℕ → List Stage
declared_name k = record { time = 0 ∷ []; item = k } ∷ []

-- the name of the node that item k of the body of n's node makes at time t
abbrev pub made_name : List Stage → List ℕ → ℕ → List Stage
made_name n t k = n ++ record { time = t; item = k } ∷ []

-- the name of the node that made it: the stages before the last; a declared name has none
abbrev pub maker : List Stage → Option (List Stage)
maker [] = None
maker (s ∷ []) = None
maker (s ∷ r ∷ ss) = Some (s ∷ take (length ss) (r ∷ ss))

-- the number of the item, of a declared name
abbrev pub item_of : List Stage → ℕ
item_of [] = 0
item_of (s ∷ ss) = s.item

-- the time of the last stage, where the stages after a first one at t are these
abbrev pub birth_after : List ℕ → List Stage → List ℕ
birth_after t [] = t
birth_after t (s ∷ ss) = birth_after s.time ss

-- when the node of a name was born: the time of its last stage
abbrev pub birth : List Stage → List ℕ
birth n = birth_after [] n

-- each stage after the first
abbrev pub more_stages : List Stage → List ℕ
more_stages [] = []
more_stages (s ∷ ss) = 47 ∷ time_text s.time ++ 46 ∷ decimal s.item ++ more_stages ss

-- as #2 for an item of the file, and #2/[3].0 for a node that it made
abbrev pub name_text : List Stage → List ℕ
name_text [] = []
name_text (s ∷ ss) = 35 ∷ decimal s.item ++ more_stages ss

-- The laws of the orders of times and of names, how children and made names stand to what they were made of, and what
-- their texts tell.
use Rattle.std.specs.Prelude.{◌≡◌, ◌↔◌, ◌⊎◌, ℕ, ◌<◌, ◌^◌, List, [], ◌∷◌, ◌++◌, length, Some, ⊤}
use Rattle.std.specs.List.{AllByRecursion}
use Rattle.std.specs.declared.cmp.Ordering.{Ordering}
use Rattle.std.specs.declared.cmp.Ordering.TheVariants.{Less, Equal, Greater}
use Rattle.frp_base.specs.declared.name.Stage.{Stage}
use Rattle.frp_base.specs.Time.{parent_and_number, time_text}
use Rattle.frp_base.specs.Name.{made_name, maker, birth, name_text}

-- equal exactly where the two are one
abbrev pub EqualIsSame : {A : Type 0} → (A → A → Ordering) → Type 0
EqualIsSame {A} cmp = (a b : A) → (cmp a b ≡ Equal) ↔ (a ≡ b)

-- one is before the other exactly where the other is after the one
abbrev pub Reverses : {A : Type 0} → (A → A → Ordering) → Type 0
Reverses {A} cmp = (a b : A) → (cmp a b ≡ Less) ↔ (cmp b a ≡ Greater)

-- what is before one that is before a third is before the third
abbrev pub IsTransitive : {A : Type 0} → (A → A → Ordering) → Type 0
IsTransitive {A} cmp = (a b c : A) → cmp a b ≡ Less → cmp b c ≡ Less → cmp a c ≡ Less

-- of two, the one is before, or they are one, or the other is before
abbrev pub IsTotal : {A : Type 0} → (A → A → Ordering) → Type 0
IsTotal {A} cmp = (a b : A) → (cmp a b ≡ Less) ⊎ ((a ≡ b) ⊎ (cmp b a ≡ Less))

-- a list comes before the longer ones that it begins
abbrev pub BeginningsFirst : {A : Type 0} → (List A → List A → Ordering) → Type 0
BeginningsFirst {A} cmp = (xs : List A) (y : A) (ys : List A) → cmp xs (xs ++ y ∷ ys) ≡ Less

-- the child of number i of a time t has the parent t and the number i
abbrev pub ChildrenHaveParents : Type 0
ChildrenHaveParents = (t : List ℕ) (i : ℕ) → 0 < length t → parent_and_number (t ++ i ∷ []) ≡ Some (t, i)

-- a name that is made of a name n has the maker n
abbrev pub MadeNamesHaveMakers : Type 0
MadeNamesHaveMakers = (n : List Stage) (t : List ℕ) (k : ℕ) → 0 < length n → maker (made_name n t k) ≡ Some n

-- a name that is made at a time t is born at t
abbrev pub MadeNamesAreBorn : Type 0
MadeNamesAreBorn = (n : List Stage) (t : List ℕ) (k : ℕ) → birth (made_name n t k) ≡ t

-- each number is below 2 ^ 64, as those of every `Time` are
abbrev pub AreHeld : List ℕ → Type 0
AreHeld = AllByRecursion (λ n. n < 2 ^ 64)

-- and so is each number of each stage, as in every `Name`
abbrev pub AreStagesHeld : List Stage → Type 0
AreStagesHeld = AllByRecursion (λ s. AreHeld s.time × s.item < 2 ^ 64)

-- times of one text are one
abbrev pub TimeTextsTell : Type 0
TimeTextsTell = (s t : List ℕ) → AreHeld s → AreHeld t → time_text s ≡ time_text t → s ≡ t

-- the first stage, whose time is not in the text, is at the time of the build, as that of a declared name is
abbrev pub BeginsAtBuild : List Stage → Type 0
BeginsAtBuild [] = ⊤
BeginsAtBuild (s ∷ ss) = s.time ≡ 0 ∷ []

-- names of one text that begin with an item of the file are one
abbrev pub NameTextsTell : Type 0
NameTextsTell = (n m : List Stage) → BeginsAtBuild n → BeginsAtBuild m → AreStagesHeld n → AreStagesHeld m → name_text n ≡ name_text m → n ≡ m

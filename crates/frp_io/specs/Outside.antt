-- when the outside may be blamed for a failure, and which bytes pass
use Rattle.std.specs.Prelude.{◌≡◌, ℕ, ◌+◌, ◌-◌, ◌^◌, ◌≤◌, ◌↔◌, min, List, [], ◌++◌, Option, Some, None, Result, OnErr, IsSomeAnd, ⊤}

-- a count after one more, which stands still at its type's last value
abbrev pub next_count : ℕ → ℕ
next_count n = min (n + 1) (2 ^ 64 - 1)

-- a count rose, or stands at its last value, 2 ^ 64 - 1
abbrev pub Rose : ℕ → ℕ → Type 0
Rose before now = next_count before ≤ now

-- the count of faults never falls, and an error comes only where it rose
pub record HasCause {T E : Type 0} (before now : ℕ) (result : Result T E) : Type 0 where
  pub later : before ≤ now
  pub failed : OnErr result (Rose before now)

-- the bytes came off the front of the rest, where it is told
abbrev pub Took : Option (List ℕ) → Option (List ℕ) → List ℕ → Type 0
Took None now bytes = now ≡ None
Took (Some before) now bytes = IsSomeAnd now (λ left. before ≡ bytes ++ left)

-- nothing is left, where the rest is told
abbrev pub Ended : Option (List ℕ) → Type 0
Ended None = ⊤
Ended (Some rest) = rest ≡ []

-- a read takes nothing exactly where nothing is left, where the rest is told
abbrev pub ZeroAtEnd : Option (List ℕ) → ℕ → Type 0
ZeroAtEnd None n = ⊤
ZeroAtEnd (Some rest) n = (n ≡ 0) ↔ (rest ≡ [])

-- the bytes came after what was held, where it is told
abbrev pub Gave : Option (List ℕ) → Option (List ℕ) → List ℕ → Type 0
Gave None now bytes = now ≡ None
Gave (Some held) now bytes = now ≡ Some (held ++ bytes)

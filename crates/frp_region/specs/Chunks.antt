-- How the items of a region lie in chunks of one size, each full before the next one begins.
use Rattle.std.specs.Prelude.{ℕ, ◌≡◌, ◌-◌, List, [], ◌∷◌, length, min}
use Rattle.std.specs.List.{flat_map}

-- how many items a chunk holds
abbrev pub chunk_size : ℕ
chunk_size = 64

-- the items of the chunks, joined
abbrev pub chunk_items : {T : Type 0} → List (List T) → List T
chunk_items = flat_map (λ chunk. chunk)

-- these chunks hold this many items, and only full ones stand before one that is not
abbrev pub ArePacked : {T : Type 0} → List (List T) → ℕ → Type 0
ArePacked [] count = count ≡ 0
ArePacked (chunk ∷ chunks) count = (length chunk ≡ min chunk_size count) × ArePacked chunks (count - chunk_size)

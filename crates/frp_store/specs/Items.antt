-- Items of lists.
use Rattle.std.specs.Prelude.{ℕ, List, [], ◌∷◌, ◌-◌, zero, suc, Option, slice_get, length, take}

-- the item of a place is changed, where there is one
abbrev pub updated : {A : Type 0} → ℕ → (A → A) → List A → List A
updated p f [] = []
updated zero f (x ∷ xs) = f x ∷ xs
updated (suc p) f (x ∷ xs) = x ∷ updated p f xs

-- the list without its last item
abbrev pub but_last : {A : Type 0} → List A → List A
but_last xs = take (length xs - 1) xs

abbrev pub last_of : {A : Type 0} → List A → Option A
last_of xs = slice_get xs (length xs - 1)

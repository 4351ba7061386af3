-- A state may be taken modulo 2^31 before it steps.
use Rattle.std.proofs.Common.{◌≡◌, ℕ, ◌+◌, ◌*◌, ◌%◌, ◌∙◌, sym}
use Rattle.std.proofs.lemmas.Nat.{mul-mod_first}
use Rattle.std.proofs.Math.Nat.{mod-add-mod}
use Rattle.frp_gen.specs.Generated.{next_state}

pub linear-mod : (x a b m : ℕ) → (x % m * a + b) % m ≡ (x * a + b) % m
linear-mod x a b m =
    sym (mod-add-mod (x % m * a) m b) ∙ rw (mul-mod_first x a m) (mod-add-mod (x * a) m b)

pub next_state_of_remainder : (x : ℕ) → (x % 2147483648 * 1103515245 + 12345) % 2147483648 ≡ next_state x
next_state_of_remainder x = linear-mod x 1103515245 12345 2147483648

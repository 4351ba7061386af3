-- Runs of bytes that pass a test.
use Rattle.std.proofs.Common.{◌≡◌, ℕ, suc, ◌+◌, Bool, true, false, List, [], ◌∷◌, ◌++◌, length, take, drop, refl, arith}
use Rattle.std.specs.Prelude.{not}
use Rattle.std.specs.List.{list_all, prefix_len}
use Rattle.frp_base.proofs.Booleans.{both_true, true_both, not_true}

-- the first of these bytes doesn't pass, where there is one
abbrev pub ends : (ℕ → Bool) → List ℕ → Bool
ends p [] = true
ends p (b ∷ bs) = not (p b)

-- a run ends where what follows doesn't pass
pub run : (p : ℕ → Bool) (xs rest : List ℕ) → list_all p xs ≡ true → ends p rest ≡ true → prefix_len p (xs ++ rest) ≡ length xs
run p [] [] h e = refl
run p [] (b ∷ rest) h e = rw (not_true (p b) e) refl
run p (x ∷ xs) rest h e =
    let q = both_true (p x) (list_all p xs) h in
    rw q.0 (let k : prefix_len p (xs ++ rest) ≡ length xs = run p xs rest q.1 e in omega arith)

-- all pass a test that another test implies
pub all_pass : (p q : ℕ → Bool) → ((b : ℕ) → p b ≡ true → q b ≡ true) → (xs : List ℕ) → list_all p xs ≡ true → list_all q xs ≡ true
all_pass p q more [] h = refl
all_pass p q more (x ∷ xs) h = let r = both_true (p x) (list_all p xs) h in true_both (q x) (list_all q xs) (more x r.0) (all_pass p q more xs r.1)

-- ---- the longest run

run_passes_by : (p : ℕ → Bool) (x : ℕ) (xs : List ℕ) (b : Bool) → p x ≡ b → list_all p (take (prefix_len p xs) xs) ≡ true → list_all p (take (prefix_len p (x ∷ xs)) (x ∷ xs)) ≡ true
run_passes_by p x xs true h ih = rw h (let e : 1 + prefix_len p xs ≡ suc (prefix_len p xs) = omega arith in rw e (true_both (p x) (list_all p (take (prefix_len p xs) xs)) h ih))
run_passes_by p x xs false h ih = rw h refl

run_ends_by : (p : ℕ → Bool) (x : ℕ) (xs : List ℕ) (b : Bool) → p x ≡ b → ends p (drop (prefix_len p xs) xs) ≡ true → ends p (drop (prefix_len p (x ∷ xs)) (x ∷ xs)) ≡ true
run_ends_by p x xs true h ih = rw h (let e : 1 + prefix_len p xs ≡ suc (prefix_len p xs) = omega arith in rw e ih)
run_ends_by p x xs false h ih = rw h (rw h refl)

pub run_passes : (p : ℕ → Bool) (xs : List ℕ) → list_all p (take (prefix_len p xs) xs) ≡ true
run_passes p [] = refl
run_passes p (x ∷ xs) = run_passes_by p x xs (p x) refl (run_passes p xs)

pub run_ends : (p : ℕ → Bool) (xs : List ℕ) → ends p (drop (prefix_len p xs) xs) ≡ true
run_ends p [] = refl
run_ends p (x ∷ xs) = run_ends_by p x xs (p x) refl (run_ends p xs)

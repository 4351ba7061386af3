-- A child's time is its parent's with its number at the end.
use Rattle.std.proofs.Common.{◌≡◌, ℕ, suc, [], ◌∷◌, ◌++◌, length, Option, Some, None, sym, ap, ◌∙◌, arith, length-append}
use Rattle.std.specs.Prelude.{option_map}
use Rattle.frp_base.specs.declared.time.Time.{Time}
use Rattle.frp_base.specs.Time.{parent_and_number}
use Rattle.frp_graph.specs.Moments.{is_of_transaction}

longer : (n : ℕ) (t u : Time) (i : ℕ) (p : Option (Time × ℕ)) → ((v : Time) → p ≡ Some (v, i) → t ≡ v ++ i ∷ [])
    → option_map {U = Time × ℕ} (λ (q : Time × ℕ). (n ∷ q.0, q.1)) p ≡ Some (u, i) → n ∷ t ≡ u ++ i ∷ []
longer n t u i None f h = absurd cc
longer n t u i (Some q) f h =
    let e : ◌≡◌ {A = Time × ℕ} (n ∷ q.0, q.1) (u, i) = cc in
    let first : n ∷ q.0 ≡ u = ap (λ (p : Time × ℕ). p.0) e in
    let last : q.1 ≡ i = ap (λ (p : Time × ℕ). p.1) e in
    ap (λ r. n ∷ r) (f q.0 (ap (λ (j : ℕ). Some (q.0, j)) last)) ∙ ap (λ (v : Time). v ++ i ∷ []) first

pub child_is : (t u : Time) (i : ℕ) → parent_and_number t ≡ Some (u, i) → t ≡ u ++ i ∷ []
child_is [] u i h = absurd cc
child_is (n ∷ []) u i h = absurd cc
child_is (n ∷ k ∷ []) u i h =
    let e : ◌≡◌ {A = Time × ℕ} (n ∷ [], k) (u, i) = cc in
    ap (λ (p : Time × ℕ). p.0 ++ p.1 ∷ []) e
child_is (n ∷ m ∷ k ∷ t) u i h = longer n (m ∷ k ∷ t) u i (parent_and_number (m ∷ k ∷ t)) (λ v. child_is (m ∷ k ∷ t) v i) h

-- a parent has the first number of its child
parent_in : (n : ℕ) (u : Time) (i : ℕ) (p : Option (Time × ℕ)) → option_map {U = Time × ℕ} (λ (q : Time × ℕ). (n ∷ q.0, q.1)) p ≡ Some (u, i) → (r : Time) × (u ≡ n ∷ r)
parent_in n u i None h = absurd cc
parent_in n u i (Some q) h =
    let e : ◌≡◌ {A = Time × ℕ} (n ∷ q.0, q.1) (u, i) = cc in
    (q.0, sym (ap (λ (p : Time × ℕ). p.0) e))

pub parent_begins : (n : ℕ) (t u : Time) (i : ℕ) → parent_and_number (n ∷ t) ≡ Some (u, i) → (r : Time) × (u ≡ n ∷ r)
parent_begins n [] u i h = absurd cc
parent_begins n (k ∷ []) u i h =
    let e : ◌≡◌ {A = Time × ℕ} (n ∷ [], k) (u, i) = cc in
    ([], sym (ap (λ (p : Time × ℕ). p.0) e))
parent_begins n (m ∷ k ∷ t) u i h = parent_in n u i (parent_and_number (m ∷ k ∷ t)) h

-- a child is of its parent's transaction, and one number longer
pub child_of : (k : ℕ) (t u : Time) (i : ℕ) → parent_and_number t ≡ Some (u, i) → (is_of_transaction k t ≡ is_of_transaction k u) × (length t ≡ suc (length u))
child_of k [] u i h = absurd cc
child_of k (n ∷ t) u i h =
    let b = parent_begins n t u i h in
    let c = child_is (n ∷ t) u i h in
    (ap (is_of_transaction k) (sym b.1), ap length c ∙ simp length-append (omega arith))

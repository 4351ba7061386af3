-- Paths along links that lead lower.
use Rattle.std.proofs.Common.{◌≡◌, ℕ, ◌<◌, ◌≤◌, Bool, true, false, cond, List, [], ◌∷◌, ◌++◌, length, get_or, take, drop, suc, zero, refl, sym, ap, ◌∙◌, arith, inl, inr, ◌⊎◌}
use mathlib.Core.Bool.{true≢false}
use Rattle.frp_base.specs.declared.place.Place.{Place}
use Rattle.frp_base.proofs.Booleans.{is_false}
use Rattle.frp_rank.specs.Chain.{first_or, is_path, is_closed_chain, numbers}
use Rattle.frp_rank.specs.Order.{LeadsLower}
use Rattle.frp_rank.specs.Laws.{NoChainWhereLower}

-- what a test of two parts that came out true says of them, and one more part keeps what is true
pub if_parts : (b c : Bool) → cond b c false ≡ true → (b ≡ true) × (c ≡ true)
if_parts true c h = (refl, h)
if_parts false c h = absurd (true≢false (sym h))

pub if_more : (b c : Bool) → c ≡ true → cond b true c ≡ true
if_more true c h = refl
if_more false c h = h

-- along a path the rank falls
pub path_falls : (linked : ℕ → ℕ → Bool) (rank : ℕ → ℕ) → LeadsLower linked rank → (ns : List ℕ) (end : ℕ) → is_path linked ns end ≡ true → rank end ≤ rank (first_or ns end)
path_falls linked rank low [] end h = omega arith
path_falls linked rank low (n ∷ ns) end h =
    let b = if_parts _ _ h in
    let down : rank (first_or ns end) < rank n = low n (first_or ns end) b.0 in
    let rest : rank end ≤ rank (first_or ns end) = path_falls linked rank low ns end b.1 in
    omega arith

closed_falls : (linked : ℕ → ℕ → Bool) (rank : ℕ → ℕ) → LeadsLower linked rank → (c : List ℕ) → is_closed_chain linked c ≡ true → ⊥
closed_falls linked rank low [] h = true≢false (sym h)
closed_falls linked rank low (n ∷ ns) h =
    let p : (linked n (first_or ns n) ≡ true) × (is_path linked ns n ≡ true) = if_parts _ _ (if_parts _ _ (if_parts _ _ h).1).1 in
    let down : rank (first_or ns n) < rank n = low n (first_or ns n) p.0 in
    let rest : rank n ≤ rank (first_or ns n) = path_falls linked rank low ns n p.1 in
    omega arith

pub chainless : NoChainWhereLower
chainless linked rank low c = is_false _ (closed_falls linked rank low c)

-- a path and one more step
pub path_more : (linked : ℕ → ℕ → Bool) (ns : List ℕ) (at to : ℕ) → is_path linked ns at ≡ true → linked at to ≡ true → is_path linked (ns ++ at ∷ []) to ≡ true
path_more linked [] at to h l = ap (λ b. cond b true false) l
path_more linked (n ∷ []) at to h l = let p = if_parts (linked n at) true h in ap (λ b. cond b (cond (linked at to) true false) false) p.0 ∙ ap (λ b. cond b true false) l
path_more linked (n ∷ k ∷ ns) at to h l = let p = if_parts (linked n k) (is_path linked (k ∷ ns) at) h in ap (λ b. cond b (is_path linked (k ∷ (ns ++ at ∷ [])) to) false) p.0 ∙ path_more linked (k ∷ ns) at to p.1 l

pub first_more : (ns : List ℕ) (at to : ℕ) → first_or (ns ++ at ∷ []) to ≡ first_or ns at
first_more [] at to = refl
first_more (n ∷ ns) at to = refl

-- The numbers of places.

pub numbers_push : (ps : List Place) (p : Place) → numbers (ps ++ p ∷ []) ≡ numbers ps ++ p.0 ∷ []
numbers_push [] p = refl
numbers_push (q ∷ qs) p = ap (λ ns. q.0 ∷ ns) (numbers_push qs p)

pub numbers_append : (ps qs : List Place) → numbers (ps ++ qs) ≡ numbers ps ++ numbers qs
numbers_append [] qs = refl
numbers_append (p ∷ ps) qs = ap (λ ns. p.0 ∷ ns) (numbers_append ps qs)

pub numbers_take : (i : ℕ) (ps : List Place) → numbers (take i ps) ≡ take i (numbers ps)
numbers_take zero ps = refl
numbers_take (suc i) [] = refl
numbers_take (suc i) (p ∷ ps) = ap (λ ns. p.0 ∷ ns) (numbers_take i ps)

pub numbers_drop : (i : ℕ) (ps : List Place) → numbers (drop i ps) ≡ drop i (numbers ps)
numbers_drop zero ps = refl
numbers_drop (suc i) [] = refl
numbers_drop (suc i) (p ∷ ps) = numbers_drop i ps

pub numbers_length : (ps : List Place) → length (numbers ps) ≡ length ps
numbers_length [] = refl
numbers_length (p ∷ ps) = ap suc (numbers_length ps)

pub numbers_at : (ps : List Place) (i : ℕ) (d : Place) → i < length ps → get_or (numbers ps) i 0 ≡ (get_or ps i d).0
numbers_at [] i d h = absurd (omega arith)
numbers_at (p ∷ ps) zero d h = refl
numbers_at (p ∷ ps) (suc i) d h = numbers_at ps i d (omega arith)

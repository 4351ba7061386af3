-- Ranks that are written.
use Rattle.std.proofs.Common.{◌≡◌, ℕ, ◌+◌, ◌<◌, ◌≤◌, ◌^◌, Bool, true, false, cond, eqb, leb, List, [], ◌∷◌, ◌++◌, append_assoc, length, length-append, get_or, get_or-set_other, set, drop, map, suc, zero, refl, sym, ap, ◌∙◌, subst, arith, inl, inr, ◌⊎◌}
use mathlib.Core.Bool.{true≢false}
use Rattle.std.proofs.Math.Seq.{drop-cons}
use Rattle.std.specs.List.{list_any, AllByRecursion}
use Rattle.std.proofs.lemmas.List.{get_or-set_same, get_or-map}
use Rattle.std.proofs.lemmas.List.Folds.{list_any_at}
use Rattle.std.proofs.lemmas.Grind.{common_steps}
use Rattle.std.proofs.lemmas.Bool.{cases_eq, cases_lt}
use Rattle.std.proofs.lemmas.Bool.Decides.{nat_tests}
use Rattle.frp_base.proofs.Booleans.{bool_cases}
use Rattle.frp_rank.specs.declared.visit.Visit.{Visit}
use Rattle.frp_rank.specs.declared.write.Write.{Write}
use Rattle.frp_rank.specs.Order.{has_high}
use Rattle.frp_rank.specs.Laws.{lower_count, lifted, renumbered}
use Rattle.frp_rank.specs.Search.{has_visit, visit_at, no_visit}
use Rattle.frp_rank.specs.Plans.{written, map_index, risen_writes, lower_writes, has_high_write, AreInside}

pub map_index_step : (f : ℕ → ℕ → Write) (i : ℕ) (rs : List ℕ) (d : ℕ) → i < length rs → map_index f i (drop i rs) ≡ f i (get_or rs i d) ∷ map_index f (i + 1) (drop (i + 1) rs)
map_index_step f i rs d h = let e : suc i ≡ i + 1 = omega arith in ap (map_index f i) (drop-cons rs i d h) ∙ ap (λ n. f i (get_or rs i d) ∷ map_index f (i + 1) (drop n rs)) e

pub written_length : (ranks : List ℕ) (ws : List Write) → length (written ranks ws) ≡ length ranks
written_length ranks [] = refl
written_length ranks (w ∷ ws) = let e = written_length (set ranks w.place w.rank) ws in grind (arith, common_steps, e)

-- whether the place is written
abbrev has_write : List Write → ℕ → Bool
has_write ws p = list_any (λ (w : Write). eqb w.place p) ws

written_other : (ranks : List ℕ) (ws : List Write) (p : ℕ) → has_write ws p ≡ false → get_or (written ranks ws) p 0 ≡ get_or ranks p 0
written_other ranks [] p h = refl
written_other ranks (w ∷ ws) p h = elim (cases_eq w.place p) [
  | inl e ↦ absurd (grind (arith, nat_tests))
  | inr e ↦ written_other (set ranks w.place w.rank) ws p (grind (arith, nat_tests)) ∙ get_or-set_other ranks w.place p w.rank 0 (λ q. e (sym q))
]

written_same : (ranks : List ℕ) (ws : List Write) (p v : ℕ) → p < length ranks → has_write ws p ≡ true → AllByRecursion (λ (w : Write). w.place ≡ p → w.rank ≡ v) ws → get_or (written ranks ws) p 0 ≡ v
written_same ranks [] p v l h a = absurd (true≢false (sym h))
written_same ranks (w ∷ ws) p v l h a = elim (bool_cases (has_write ws p)) [
  | inl t ↦ written_same (set ranks w.place w.rank) ws p v (grind (arith, common_steps)) t a.1
  | inr f ↦ elim (cases_eq w.place p) [
    | inl e ↦ written_other (set ranks w.place w.rank) ws p f ∙ rw e (get_or-set_same ranks p w.rank 0 l) ∙ a.0 e
    | inr e ↦ absurd (grind (arith, nat_tests, f))
  ]
]

-- The visited places rise.

risen_has : (ranks : List ℕ) (by : ℕ) (visits : List Visit) (p : ℕ) → has_write (risen_writes ranks by visits) p ≡ has_visit visits p
risen_has ranks by [] p = refl
risen_has ranks by (v ∷ vs) p = let e = risen_has ranks by vs p in elim (cases_eq v.place p) [ inl q ↦ grind (arith, nat_tests) | inr q ↦ grind (arith, nat_tests, e) ]

risen_each : (ranks : List ℕ) (by : ℕ) (visits : List Visit) (p : ℕ) → AllByRecursion (λ (w : Write). w.place ≡ p → w.rank ≡ get_or ranks p 0 + by) (risen_writes ranks by visits)
risen_each ranks by [] p = tt
risen_each ranks by (v ∷ vs) p = (λ e. ap (λ q. get_or ranks q 0 + by) e, risen_each ranks by vs p)

pub risen_at : (ranks : List ℕ) (by : ℕ) (visits : List Visit) → ((q : ℕ) → has_visit visits q ≡ true → q < length ranks) → (p : ℕ)
    → get_or (written ranks (risen_writes ranks by visits)) p 0 ≡ lifted (λ q. get_or ranks q 0) (has_visit visits) by p
risen_at ranks by visits inside p = elim (bool_cases (has_visit visits p)) [
  | inl t ↦ rw t (written_same ranks (risen_writes ranks by visits) p (get_or ranks p 0 + by) (inside p t) (risen_has ranks by visits p ∙ t) (risen_each ranks by visits p))
  | inr f ↦ rw f (written_other ranks (risen_writes ranks by visits) p (risen_has ranks by visits p ∙ f))
]

pub risen_high : (ranks : List ℕ) (by : ℕ) (visits : List Visit) → has_high_write (risen_writes ranks by visits) ≡ true → (p : ℕ) × (has_visit visits p ≡ true) × (2 ^ 32 ≤ get_or ranks p 0 + by)
risen_high ranks by [] h = absurd (true≢false (sym h))
risen_high ranks by (v ∷ vs) h = elim (cases_lt (get_or ranks v.place 0 + by) (2 ^ 32)) [
  | inr l ↦ (v.place, grind (arith, nat_tests), l)
  | inl l ↦ let r : (p : ℕ) × (has_visit vs p ≡ true) × (2 ^ 32 ≤ get_or ranks p 0 + by) = risen_high ranks by vs (grind (arith, nat_tests)) in (r.0, (let e = r.1 in elim (cases_eq v.place r.0) [ inl q ↦ grind (arith, nat_tests) | inr q ↦ grind (arith, nat_tests, e) ]), r.2)
]

pub risen_low : (ranks : List ℕ) (by : ℕ) (visits : List Visit) → has_high_write (risen_writes ranks by visits) ≡ false → (p : ℕ) → has_visit visits p ≡ true → get_or ranks p 0 + by < 2 ^ 32
risen_low ranks by [] h p e = absurd (true≢false (sym e))
risen_low ranks by (v ∷ vs) h p e = elim (cases_lt (get_or ranks v.place 0 + by) (2 ^ 32)) [
  | inr l ↦ absurd (grind (arith, nat_tests))
  | inl l ↦ elim (cases_eq v.place p) [ inl q ↦ subst (λ t. get_or ranks t 0 + by < 2 ^ 32) q l | inr q ↦ risen_low ranks by vs (grind (arith, nat_tests)) p (grind (arith, nat_tests)) ]
]

pub high_at : (ranks : List ℕ) (p : ℕ) → p < length ranks → 2 ^ 32 ≤ get_or ranks p 0 → has_high ranks ≡ true
high_at ranks p h l = list_any_at (λ r. leb (2 ^ 32) r) ranks p 0 h (grind (arith, nat_tests))

-- All ranks are written anew.

set_seam : (xs ys : List ℕ) (y v : ℕ) → set (xs ++ y ∷ ys) (length xs) v ≡ (xs ++ v ∷ []) ++ ys
set_seam [] ys y v = refl
set_seam (x ∷ xs) ys y v = ap (λ l. x ∷ l) (set_seam xs ys y v)

written_all : (h : ℕ → ℕ) (xs ys rs : List ℕ) → length ys ≡ length rs → written (xs ++ ys) (map_index (λ i r. record { place = i; rank = h r }) (length xs) rs) ≡ xs ++ map h rs
written_all h xs [] [] e = refl
written_all h xs [] (r ∷ rs) e = absurd (omega arith)
written_all h xs (y ∷ ys) [] e = absurd (omega arith)
written_all h xs (y ∷ ys) (r ∷ rs) e =
    let n : length xs + 1 ≡ length (xs ++ h r ∷ []) = sym (length-append xs (h r ∷ [])) in
    ap (λ l. written l (map_index (λ i r. record { place = i; rank = h r }) (length xs + 1) rs)) (set_seam xs ys y (h r))
    ∙ ap (λ k. written ((xs ++ h r ∷ []) ++ ys) (map_index (λ i r. record { place = i; rank = h r }) k rs)) n
    ∙ written_all h (xs ++ h r ∷ []) ys rs (omega arith)
    ∙ append_assoc xs (h r ∷ []) (map h rs)

pub written_anew : (ranks raised : List ℕ) → length ranks ≡ length raised → written ranks (lower_writes raised) ≡ renumbered raised
written_anew ranks raised h = written_all (lower_count raised) [] ranks raised h

-- Each is for a place.

map_index_length : (f : ℕ → ℕ → Write) (i : ℕ) (rs : List ℕ) → length (map_index f i rs) ≡ length rs
map_index_length f i [] = refl
map_index_length f i (r ∷ rs) = ap suc (map_index_length f (i + 1) rs)

lower_place : (h : ℕ → ℕ) (i : ℕ) (rs : List ℕ) (k : ℕ) (d : Write) → k < length rs → (get_or (map_index (λ j r. record { place = j; rank = h r }) i rs) k d).place ≡ i + k
lower_place h i [] k d l = absurd (omega arith)
lower_place h i (r ∷ rs) zero d l = omega arith
lower_place h i (r ∷ rs) (suc k) d l = lower_place h (i + 1) rs k d (omega arith) ∙ omega arith

pub lower_inside : (raised : List ℕ) → AreInside (lower_writes raised) (length raised)
lower_inside raised k d h =
    let l : k < length raised = omega (arith, map_index_length (λ j r. record { place = j; rank = lower_count raised r }) 0 raised) in
    omega (arith, lower_place (lower_count raised) 0 raised k d l)

pub risen_inside : (ranks : List ℕ) (by n : ℕ) (visits : List Visit) → ((j : ℕ) → j < length visits → (visit_at visits j).place < n) → AreInside (risen_writes ranks by visits) n
risen_inside ranks by n visits h k d l =
    let m : k < length visits = (let e : length (risen_writes ranks by visits) ≡ length visits = grind (arith, common_steps) in omega arith) in
    rw (get_or-map (λ (v : Visit). record { place = v.place; rank = get_or ranks v.place 0 + by }) visits k no_visit d m) (h k m)

pub risen_step : (ranks : List ℕ) (by i : ℕ) (visits : List Visit) → i < length visits
    → risen_writes ranks by (drop i visits) ≡ (record { place = (visit_at visits i).place; rank = get_or ranks (visit_at visits i).place 0 + by }) ∷ risen_writes ranks by (drop (i + 1) visits)
risen_step ranks by i visits h = let e : suc i ≡ i + 1 = omega arith in ap (risen_writes ranks by) (drop-cons visits i no_visit h) ∙ ap (λ n. (record { place = (visit_at visits i).place; rank = get_or ranks (visit_at visits i).place 0 + by }) ∷ risen_writes ranks by (drop n visits)) e

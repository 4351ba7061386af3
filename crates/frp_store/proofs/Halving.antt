-- What is sought by halves in a list that rises strictly.
use Rattle.std.proofs.Common.{◌≡◌, ℕ, ◌<◌, List, [], ◌∷◌, Some, map, zero, suc, sym, ap, ◌∙◌, subst, arith}
use Rattle.std.specs.Prelude.{slice_get}
use Rattle.std.specs.List.{AllByRecursion}
use Rattle.std.specs.List.Sorted.{IsStrictlySortedBy}
use Rattle.std.specs.declared.cmp.Ordering.{Ordering}
use Rattle.std.specs.declared.cmp.Ordering.TheVariants.{Less, Equal, Greater}
use Rattle.frp_base.specs.Laws.{Reverses}

later : {X K : Type 0} (cmp : K → K → Ordering) (key : X → K) (t : K) (xs : List X) (i : ℕ) (x : X) → AllByRecursion (λ u. cmp t u ≡ Less) (map key xs) → slice_get xs i ≡ Some x
    → cmp t (key x) ≡ Less
later cmp key t [] i x a e = absurd cc
later cmp key t (y ∷ xs) zero x a e = let same : y ≡ x = cc in subst (λ z. cmp t (key z) ≡ Less) same a.0
later cmp key t (y ∷ xs) (suc i) x a e = later cmp key t xs i x a.1 e

-- of two items, the one of the lower number comes first
ordered : {X K : Type 0} (cmp : K → K → Ordering) (key : X → K) (xs : List X) (i k : ℕ) (x y : X) → IsStrictlySortedBy cmp (map key xs) → slice_get xs i ≡ Some x → slice_get xs k ≡ Some y
    → i < k → cmp (key x) (key y) ≡ Less
unfolding IsStrictlySortedBy
ordered cmp key [] i k x y s e f l = absurd cc
ordered cmp key (z ∷ xs) i zero x y s e f l = absurd (omega arith)
ordered cmp key (z ∷ xs) zero (suc k) x y s e f l =
    let same : z ≡ x = cc in
    ap (λ w. cmp (key w) (key y)) (sym same) ∙ later cmp key (key z) xs k y s.0 f
ordered cmp key (z ∷ xs) (suc i) (suc k) x y s e f l = ordered cmp key xs i k x y s.1 e f (omega arith)

same_number : {X : Type 0} (xs : List X) (i k : ℕ) (x y : X) → slice_get xs i ≡ Some x → slice_get xs k ≡ Some y → i ≡ k → x ≡ y
same_number xs i k x y e f h = let both : Some x ≡ Some y = sym e ∙ ap (slice_get xs) h ∙ f in cc

-- an item of a key stands after each whose key comes before it
pub stands_after : {X K : Type 0} (cmp : K → K → Ordering) (key : X → K) → ((t : K) → cmp t t ≡ Equal) → Reverses cmp
    → (xs : List X) (i k : ℕ) (x y : X) (t : K) → IsStrictlySortedBy cmp (map key xs) → slice_get xs i ≡ Some x → cmp (key x) t ≡ Less → slice_get xs k ≡ Some y → key y ≡ t → i < k
stands_after cmp key tie flip xs i k x y t s e l f h =
    let no_tie : i ≡ k → ⊥ = (λ q.
    let z : cmp t t ≡ Less = ap (λ u. cmp u t) (sym (ap key (same_number xs i k x y e f q) ∙ h)) ∙ l in
    let w : cmp t t ≡ Equal = tie t in
    absurd cc) in
    let no_less : k < i → ⊥ = (λ q.
    let z : cmp t (key x) ≡ Less = ap (λ u. cmp u (key x)) (sym h) ∙ ordered cmp key xs k i y x s f e q in
    let w : cmp (key x) t ≡ Greater = (flip t (key x)).0 z in
    absurd cc) in
    grind arith

-- and before each whose key comes after it
pub stands_before : {X K : Type 0} (cmp : K → K → Ordering) (key : X → K) → ((t : K) → cmp t t ≡ Equal) → Reverses cmp
    → (xs : List X) (i k : ℕ) (x y : X) (t : K) → IsStrictlySortedBy cmp (map key xs) → slice_get xs i ≡ Some x → cmp (key x) t ≡ Greater → slice_get xs k ≡ Some y → key y ≡ t → k < i
stands_before cmp key tie flip xs i k x y t s e l f h =
    let no_tie : i ≡ k → ⊥ = (λ q.
    let z : cmp t t ≡ Greater = ap (λ u. cmp u t) (sym (ap key (same_number xs i k x y e f q) ∙ h)) ∙ l in
    let w : cmp t t ≡ Equal = tie t in
    absurd cc) in
    let no_more : i < k → ⊥ = (λ q.
    let z : cmp (key x) t ≡ Less = ap (cmp (key x)) (sym h) ∙ ordered cmp key xs i k x y s e f q in
    absurd cc) in
    grind arith

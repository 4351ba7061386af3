-- Moments by their times.
use Rattle.std.proofs.Common.{◌≡◌, ℕ, ◌<◌, ◌≤◌, ◌+◌, ◌-◌, ◌/◌, Bool, true, false, List, [], ◌∷◌, Some, None, map, zero, suc, refl, sym, ap, ◌∙◌, subst, arith, inl, inr}
use Rattle.std.specs.Prelude.{if◌then◌else◌, slice_get}
use Rattle.std.specs.List.{AllByRecursion}
use Rattle.std.specs.List.Sorted.{IsStrictlySortedBy}
use Rattle.std.specs.declared.cmp.Ordering.TheVariants.{Less, Equal, Greater}
use Rattle.frp_base.specs.declared.time.Time.{Time}
use Rattle.frp_base.specs.Time.{time_cmp, time_eq}
use Rattle.frp_graph.specs.declared.trace.Moment.{Moment}
use Rattle.frp_graph.specs.declared.trace.Fact.{Fact}
use Rattle.frp_graph.specs.Laws.{IsFact}
use Rattle.frp_graph.specs.Trace.{moment_at, fact_in}
use Rattle.frp_base.specs.declared.name.Name.{Name}
use Rattle.frp_base.specs.Name.{name_eq, name_cmp}
use Rattle.frp_base.proofs.OrderLemmas.{time_cmp-equal, time_cmp-reversed, name_cmp-equal, name_cmp-reversed}
use Rattle.frp_graph.proofs.Lists.{time_same, time_eq-same, name_same}
use Rattle.frp_graph.proofs.Values.{is_found}
use Rattle.frp_store.proofs.Halving.{stands_after, stands_before}
use Rattle.frp_graph.proofs.Order.{time_cmp-same, name_cmp-same}

-- the times of moments
abbrev pub times : List Moment → List Time
times ms = map (λ (m : Moment). m.time) ms

later_at : (t : Time) (ms : List Moment) (i : ℕ) (m : Moment) → AllByRecursion (λ u. time_cmp t u ≡ Less) (times ms) → slice_get ms i ≡ Some m → time_cmp t m.time ≡ Less
later_at t [] i m a e = absurd cc
later_at t (l ∷ ms) zero m a e = let same : l ≡ m = cc in subst (λ (k : Moment). time_cmp t k.time ≡ Less) same a.0
later_at t (l ∷ ms) (suc i) m a e = later_at t ms i m a.1 e

-- the number in the middle
pub middle : (low high n : ℕ) → low < high → high ≤ n → (low ≤ low + (high - low) / 2) × ((low + (high - low) / 2 < high) × (low + (high - low) / 2 < n))
middle low high n l h = (omega arith, (omega arith, omega arith))

-- where times rise, the moment of a number is the one at its time
pub moment_numbered : (ms : List Moment) (i : ℕ) (m : Moment) (t : Time) → IsStrictlySortedBy time_cmp (times ms) → slice_get ms i ≡ Some m → time_eq m.time t ≡ true → moment_at ms t ≡ Some m
unfolding IsStrictlySortedBy
moment_numbered [] i m t s e h = absurd cc
moment_numbered (l ∷ ms) zero m t s e h = let same : l ≡ m = cc in let q : time_eq l.time t ≡ true = rw same h in rw q (ap (λ k. Some k) same)
moment_numbered (l ∷ ms) (suc i) m t s e h = by (time_eq l.time t) refl (moment_numbered ms i m t s.1 e h) where
  by : (b : Bool) → time_eq l.time t ≡ b → moment_at ms t ≡ Some m → (if b then Some l else moment_at ms t) ≡ Some m
  by true q f =
      let one : l.time ≡ m.time = time_same l.time t q ∙ sym (time_same m.time t h) in
      let less : time_cmp l.time l.time ≡ Less = ap (time_cmp l.time) one ∙ later_at l.time ms i m s.0 e in
      let equal : time_cmp l.time l.time ≡ Equal = time_cmp-same l.time in
      absurd cc
  by false q f = f

pub only_after : (ms : List Moment) (i k : ℕ) (m p : Moment) (t : Time) → IsStrictlySortedBy time_cmp (times ms) → slice_get ms i ≡ Some m → time_cmp m.time t ≡ Less
    → slice_get ms k ≡ Some p → time_eq p.time t ≡ true → i < k
only_after ms i k m p t s e l f h =
    stands_after time_cmp (λ (z : Moment). z.time) time_cmp-same time_cmp-reversed ms i k m p t s e l f (time_same p.time t h)

pub only_before : (ms : List Moment) (i k : ℕ) (m p : Moment) (t : Time) → IsStrictlySortedBy time_cmp (times ms) → slice_get ms i ≡ Some m → time_cmp m.time t ≡ Greater
    → slice_get ms k ≡ Some p → time_eq p.time t ≡ true → k < i
only_before ms i k m p t s e l f h =
    stands_before time_cmp (λ (z : Moment). z.time) time_cmp-same time_cmp-reversed ms i k m p t s e l f (time_same p.time t h)

-- where no moment is of the time, none is found at it
pub none_at : (ms : List Moment) (t : Time) → ((k : ℕ) (p : Moment) → slice_get ms k ≡ Some p → time_eq p.time t ≡ true → ⊥) → moment_at ms t ≡ None
none_at [] t f = refl
none_at (m ∷ ms) t f = by (time_eq m.time t) refl (none_at ms t (λ k p e h. f (suc k) p e h)) where
  by : (b : Bool) → time_eq m.time t ≡ b → moment_at ms t ≡ None → (if b then Some m else moment_at ms t) ≡ None
  by true q h = absurd (f zero m refl q)
  by false q h = h

pub at_equal : (t u : Time) → time_cmp t u ≡ Equal → time_eq t u ≡ true
at_equal t u e = ap (time_eq t) (sym ((time_cmp-equal t u).0 e)) ∙ time_eq-same t

-- The same of facts, by name.

pub fact_after : (fs : List Fact) (i k : ℕ) (f g : Fact) (n : Name) → IsStrictlySortedBy name_cmp (map (λ (z : Fact). z.node) fs) → slice_get fs i ≡ Some f → name_cmp f.node n ≡ Less
    → slice_get fs k ≡ Some g → name_eq g.node n ≡ true → i < k
fact_after fs i k f g n s e l d h =
    stands_after name_cmp (λ (z : Fact). z.node) name_cmp-same name_cmp-reversed fs i k f g n s e l d (name_same g.node n h)

pub fact_before : (fs : List Fact) (i k : ℕ) (f g : Fact) (n : Name) → IsStrictlySortedBy name_cmp (map (λ (z : Fact). z.node) fs) → slice_get fs i ≡ Some f
    → name_cmp f.node n ≡ Greater → slice_get fs k ≡ Some g → name_eq g.node n ≡ true → k < i
fact_before fs i k f g n s e l d h =
    stands_before name_cmp (λ (z : Fact). z.node) name_cmp-same name_cmp-reversed fs i k f g n s e l d (name_same g.node n h)

pub no_fact_of : (fs : List Fact) (n : Name) → ((k : ℕ) (g : Fact) → slice_get fs k ≡ Some g → name_eq g.node n ≡ true → ⊥) → fact_in fs n ≡ None
no_fact_of [] n f = refl
no_fact_of (g ∷ fs) n f = by (name_eq g.node n) refl (no_fact_of fs n (λ k h e. f (suc k) h e)) where
  by : (b : Bool) → name_eq g.node n ≡ b → fact_in fs n ≡ None → (if b then Some g.value else fact_in fs n) ≡ None
  by true q h = absurd (f zero g refl q)
  by false q h = h

fact_there : (fs : List Fact) (i : ℕ) (f : Fact) (n : Name) → slice_get fs i ≡ Some f → f.node ≡ n → IsFact fs n f.value
fact_there [] i f n e s = absurd cc
fact_there (g ∷ fs) zero f n e s = let same : g ≡ f = cc in inl (ap (λ (z : Fact). z.node) same ∙ s, ap (λ (z : Fact). z.value) same)
fact_there (g ∷ fs) (suc i) f n e s = inr (fact_there fs i f n e s)

pub fact_numbered : (fs : List Fact) (i : ℕ) (f : Fact) (n : Name) → IsStrictlySortedBy name_cmp (map (λ (z : Fact). z.node) fs) → slice_get fs i ≡ Some f → name_cmp f.node n ≡ Equal
    → fact_in fs n ≡ Some f.value
fact_numbered fs i f n s e h = is_found fs s n f.value (fact_there fs i f n e ((name_cmp-equal f.node n).0 h))

-- an item of a list, each of which has a property
pub all_got : {A : Type 0} (P : A → Type 0) (xs : List A) (i : ℕ) (x : A) → AllByRecursion P xs → slice_get xs i ≡ Some x → P x
all_got P [] i x a e = absurd cc
all_got P (y ∷ xs) zero x a e = let same : y ≡ x = cc in subst P same a.0
all_got P (y ∷ xs) (suc i) x a e = all_got P xs i x a.1 e

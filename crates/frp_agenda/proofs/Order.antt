-- how children stand to later times, and what is kept as the agenda moves and as children are made due
use Rattle.std.proofs.Common.{◌≡◌, ◌⊎◌, ℕ, ◌+◌, ◌-◌, ◌<◌, ◌≤◌, zero, suc, List, [], ◌∷◌, ◌++◌, map, reverse, refl, ap, ◌∙◌, inl, inr, subst, arith, false, true, Bool}
use Rattle.std.specs.Prelude.{Contains}
use Rattle.std.specs.List.{AllByRecursion, range_with_len}
use Rattle.std.specs.Ordering.{nat_cmp}
use Rattle.std.specs.declared.cmp.Ordering.TheVariants.{Less}
use Rattle.std.proofs.lemmas.Cmp.{nat_cmp_total, tied_itself}
use Rattle.std.proofs.lemmas.List.{reverse-append}
use Rattle.frp_base.specs.Time.{time_cmp}
use Rattle.frp_base.proofs.OrderLemmas.{time_cmp-transitive, time_cmp-beginnings}
use Rattle.frp_base.proofs.Lists.{all_both, all_follow}
use Rattle.frp_agenda.specs.Due.{children, IsLeast, ChildrenBefore, AreSpread, IsInOrder}

-- the front of a reversed list is its last item
pub reverse_pushed : {T : Type 0} (xs : List T) (x : T) → reverse (xs ++ x ∷ []) ≡ x ∷ reverse xs
reverse_pushed xs x = reverse-append xs (x ∷ [])

-- one child more before those from number i on
pub child_before : (t : List ℕ) (i n : ℕ) → 0 < i → i ≤ n
    → map (λ (k : ℕ). t ++ k ∷ []) (range_with_len (i - 1) (n - (i - 1))) ≡ (t ++ (i - 1) ∷ []) ∷ map (λ (k : ℕ). t ++ k ∷ []) (range_with_len i (n - i))
child_before t i n l m =
    let more : n - (i - 1) ≡ suc (n - i) = omega arith in
    let next : i - 1 + 1 ≡ i = omega arith in
    ap (λ k. map (λ (k : ℕ). t ++ k ∷ []) (range_with_len (i - 1) k)) more ∙ ap (λ k. (t ++ (i - 1) ∷ []) ∷ map (λ (k : ℕ). t ++ k ∷ []) (range_with_len k (n - i))) next

less : (i j : ℕ) → i < j → nat_cmp i j ≡ Less
less i j l = grind (arith, l)

-- the children of an earlier child come before a later child
pub child_first : (t : List ℕ) (i j m : ℕ) → i < j → time_cmp ((t ++ i ∷ []) ++ m ∷ []) (t ++ j ∷ []) ≡ Less
child_first [] i j m l = rw (less i j l) refl
child_first (x ∷ t) i j m l = rw (tied_itself nat_cmp_total x) (child_first t i j m l)

-- a time comes before what its children come before
pub before_too : (t u : List ℕ) → ChildrenBefore t u → time_cmp t u ≡ Less
before_too t u h = time_cmp-transitive t (t ++ 0 ∷ []) u (time_cmp-beginnings t 0 []) (h 0)

-- and so does a child with its own children
pub child_spread : (t u : List ℕ) (i : ℕ) → ChildrenBefore t u → ChildrenBefore (t ++ i ∷ []) u
child_spread t u i h m = time_cmp-transitive _ (t ++ suc i ∷ []) u (child_first t i (suc i) m (omega arith)) (h (suc i))

-- the children from that of number a on come after the children of an earlier child
later_children : (t : List ℕ) (i a n : ℕ) → i < a → AllByRecursion (ChildrenBefore (t ++ i ∷ [])) (map (λ (k : ℕ). t ++ k ∷ []) (range_with_len a n))
later_children t i a zero l = tt
later_children t i a (suc n) l = (λ m. child_first t i a m l, later_children t i (a + 1) n (omega (arith, l)))

-- children before later times that are spread
spread_children : (t : List ℕ) (a n : ℕ) (due : List (List ℕ)) → AreSpread due → AllByRecursion (ChildrenBefore t) due
    → AreSpread (map (λ (k : ℕ). t ++ k ∷ []) (range_with_len a n) ++ due)
spread_children t a zero due s h = s
spread_children t a (suc n) due s h = (
  all_both (ChildrenBefore (t ++ a ∷ [])) (map (λ (k : ℕ). t ++ k ∷ []) (range_with_len (a + 1) n)) due
      (later_children t a (a + 1) n (omega arith)) (all_follow (ChildrenBefore t) (ChildrenBefore (t ++ a ∷ [])) (λ u k. child_spread t u a k) due h),
  spread_children t (a + 1) n due s h,
)

-- a time comes before its children
before_children : (t : List ℕ) (a n : ℕ) → AllByRecursion (λ u. time_cmp t u ≡ Less) (map (λ (k : ℕ). t ++ k ∷ []) (range_with_len a n))
before_children t a zero = tt
before_children t a (suc n) = (time_cmp-beginnings t a [], before_children t (a + 1) n)

-- the children of the present time are made due
pub in_order_pushed : (t : List ℕ) (n : ℕ) (due : List (List ℕ)) → IsInOrder t due false → IsInOrder t (children t n ++ due) true
in_order_pushed t n due h = record {
  spread = spread_children t 0 n due h.spread (h.room refl);
  after = all_both (λ u. time_cmp t u ≡ Less) (children t n) due (before_children t 0 n) h.after;
  room = λ e. absurd (cc);
}

-- the first due time becomes the present one
pub in_order_moved : (t u : List ℕ) (due : List (List ℕ)) (pushed : Bool) → IsInOrder t (u ∷ due) pushed → IsInOrder u due false
in_order_moved t u due pushed h = record {
  spread = h.spread.1;
  after = all_follow (ChildrenBefore u) (λ v. time_cmp u v ≡ Less) (λ v k. before_too u v k) due h.spread.0;
  room = λ e. h.spread.0;
}

-- a time before whose later times its children come is before each of them
least_spread : (t : List ℕ) (due : List (List ℕ)) → AllByRecursion (ChildrenBefore t) due → (u : List ℕ) → Contains due u → time_cmp t u ≡ Less
least_spread t [] h u (k, l, e) = absurd (omega (arith, l))
least_spread t (d ∷ ds) h u (zero, l, e) = before_too t u (subst (ChildrenBefore t) e h.0)
least_spread t (d ∷ ds) h u (suc k, l, e) = least_spread t ds h.1 u (k, omega (arith, l), e)

least_first : (u : List ℕ) (due : List (List ℕ)) → AllByRecursion (ChildrenBefore u) due → (v : List ℕ) → Contains (u ∷ due) v → (u ≡ v) ⊎ (time_cmp u v ≡ Less)
least_first u due h v (zero, l, e) = inl e
least_first u due h v (suc k, l, e) = inr (least_spread u due h v (k, omega (arith, l), e))

-- the first due time is the least one
pub first_is_least : (t u : List ℕ) (due : List (List ℕ)) (pushed : Bool) → IsInOrder t (u ∷ due) pushed → IsLeast u (u ∷ due)
first_is_least t u due pushed h = ((0, omega arith, refl), least_first u due h.spread.0)

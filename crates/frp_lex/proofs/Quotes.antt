-- A text is read as it is spelled.
use Rattle.std.proofs.Common.{◌≡◌, ℕ, ◌+◌, Bool, true, false, List, [], ◌∷◌, ◌++◌, length, Some, None, refl, sym, ap, ◌∙◌, arith}
use Rattle.std.specs.Prelude.{◌==◌, if◌then◌else◌}
use Rattle.std.proofs.lemmas.Grind.{common_steps}
use Rattle.std.specs.List.{list_all}
use Rattle.frp_base.specs.Val.{escaped}
use Rattle.frp_base.proofs.Booleans.{both_true, true_both}
use Rattle.frp_lex.specs.Bytes.{is_in_text, is_escaped}
use Rattle.frp_lex.specs.Quoted.{closing_quote, first_bad, unescaped}

closes_by : (n b : ℕ) (t rest : List ℕ) (q s : Bool) → (b == 34) ≡ q → (b == 92) ≡ s → ((m : ℕ) → closing_quote false m (escaped t ++ 34 ∷ rest) ≡ Some (m + length (escaped t)))
    → closing_quote false n (escaped (b ∷ t) ++ 34 ∷ rest) ≡ Some (n + length (escaped (b ∷ t)))
closes_by n b t rest true s e d ih = rw e (ih (n + 1 + 1) ∙ ap Some (omega arith))
closes_by n b t rest false true e d ih = rw (e, d) (ih (n + 1 + 1) ∙ ap Some (omega arith))
closes_by n b t rest false false e d ih = rw (e, d) (rw (e, d) (ih (n + 1) ∙ ap Some (omega arith)))

pub closes : (n : ℕ) (t rest : List ℕ) → closing_quote false n (escaped t ++ 34 ∷ rest) ≡ Some (n + length (escaped t))
closes n [] rest = ap Some (omega arith)
closes n (b ∷ t) rest = closes_by n b t rest (b == 34) (b == 92) refl refl (λ m. closes m t rest)

unescapes_by : (b : ℕ) (t : List ℕ) (q s : Bool) → (b == 34) ≡ q → (b == 92) ≡ s → unescaped false (escaped t) ≡ t → unescaped false (escaped (b ∷ t)) ≡ b ∷ t
unescapes_by b t true s e d ih = rw e (ap (λ x. b ∷ x) ih)
unescapes_by b t false true e d ih = rw (e, d) (ap (λ x. b ∷ x) ih)
unescapes_by b t false false e d ih = rw (e, d) (rw d (ap (λ x. b ∷ x) ih))

pub unescapes : (t : List ℕ) → unescaped false (escaped t) ≡ t
unescapes [] = refl
unescapes (b ∷ t) = unescapes_by b t (b == 34) (b == 92) refl refl (unescapes t)

good_by : (n b : ℕ) (t : List ℕ) (q s : Bool) → (b == 34) ≡ q → (b == 92) ≡ s → is_in_text b ≡ true → ((m : ℕ) → first_bad false m (escaped t) ≡ None) → first_bad false n (escaped (b ∷ t)) ≡ None
good_by n b t true s e d p ih = rw (e, e) (ih (n + 1 + 1))
good_by n b t false true e d p ih = rw (e, d) (rw (e, d) (ih (n + 1 + 1)))
good_by n b t false false e d p ih = rw (e, d) (rw (p, d) (ih (n + 1)))

pub good : (n : ℕ) (t : List ℕ) → list_all is_in_text t ≡ true → first_bad false n (escaped t) ≡ None
good n [] h = refl
good n (b ∷ t) h = let p = both_true (is_in_text b) (list_all is_in_text t) h in good_by n b t (b == 34) (b == 92) refl refl p.0 (λ m. good m t p.1)

-- ---- a text is spelled as it is read

-- no quote without a backslash, and a byte behind each backslash
abbrev pub is_inside : Bool → List ℕ → Bool
is_inside true [] = false
is_inside false [] = true
is_inside true (b ∷ bs) = is_inside false bs
is_inside false (b ∷ bs) = if b == 34 then false else is_inside (b == 92) bs

-- the bytes are what stands inside, a quote and more, and the number of those inside counts on from n to m
pub record Closed (e : Bool) (n m : ℕ) (bs : List ℕ) : Type 0 where
  pub inside : List ℕ
  pub rest : List ℕ
  pub parts : bs ≡ inside ++ 34 ∷ rest
  pub counted : m ≡ n + length inside
  pub is : is_inside e inside ≡ true

closed_more : (e d : Bool) (n m b : ℕ) (bs : List ℕ) → ((inside : List ℕ) → is_inside e inside ≡ true → is_inside d (b ∷ inside) ≡ true) → Closed e (n + 1) m bs → Closed d n m (b ∷ bs)
closed_more e d n m b bs step c = record { inside = b ∷ c.inside; rest = c.rest; parts = ap (λ (x : List ℕ). b ∷ x) c.parts; counted = (let k = c.counted in omega arith); is = step c.inside c.is }

closed_by : (n m b : ℕ) (bs : List ℕ) (q : Bool) → (b == 34) ≡ q → closing_quote false n (b ∷ bs) ≡ Some m → (closing_quote (b == 92) (n + 1) bs ≡ Some m → Closed (b == 92) (n + 1) m bs) → Closed false n m (b ∷ bs)
closed_by n m b bs true e h ih =
    let is : b ≡ 34 = grind (arith, common_steps) in
    let k : n ≡ m = let f = rw e at h in cc in
    record { inside = []; rest = bs; parts = ap (λ (c : ℕ). c ∷ bs) is; counted = omega arith; is = refl }
closed_by n m b bs false e h ih = closed_more (b == 92) false n m b bs (λ inside i. rw e i) (ih (rw e at h))

closed_none : (e : Bool) (n m : ℕ) → closing_quote e n [] ≡ Some m → ⊥
closed_none true n m h = cc
closed_none false n m h = cc

pub closed : (e : Bool) (n m : ℕ) (bs : List ℕ) → closing_quote e n bs ≡ Some m → Closed e n m bs
closed e n m [] h = absurd (closed_none e n m h)
closed true n m (b ∷ bs) h = closed_more false true n m b bs (λ inside i. i) (closed false (n + 1) m bs h)
closed false n m (b ∷ bs) h = closed_by n m b bs (b == 34) refl h (closed (b == 92) (n + 1) m bs)

-- the backslash that stands before the bytes, where one does
abbrev pub marked : Bool → List ℕ → List ℕ
marked true bs = 92 ∷ bs
marked false bs = bs

-- what stands inside is the value with its escapes, and the value has only bytes of texts
abbrev IsValue : Bool → List ℕ → Type 0
IsValue e inside = (escaped (unescaped e inside) ≡ marked e inside) × (list_all is_in_text (unescaped e inside) ≡ true)

escaped_in_text : (b : ℕ) → is_escaped b ≡ true → is_in_text b ≡ true
escaped_in_text b h = grind (arith, common_steps)

behind_mark : (n b : ℕ) (bs : List ℕ) (q : Bool) → is_escaped b ≡ q → first_bad true n (b ∷ bs) ≡ None → (first_bad false (n + 1) bs ≡ None → IsValue false bs) → IsValue true (b ∷ bs)
behind_mark n b bs true e h ih =
    let v = ih (rw e at h) in
    (rw e (ap (λ (x : List ℕ). 92 ∷ b ∷ x) v.0), true_both (is_in_text b) (list_all is_in_text (unescaped false bs)) (escaped_in_text b e) v.1)
behind_mark n b bs false e h ih = absurd (let f = rw e at h in cc)

plain_by : (b : ℕ) (bs : List ℕ) (s : Bool) → (b == 34) ≡ false → (b == 92) ≡ s → is_in_text b ≡ true → IsValue s bs → IsValue false (b ∷ bs)
plain_by b bs true q e p v =
    let is : b ≡ 92 = grind (arith, common_steps) in
    (rw e (v.0 ∙ ap (λ (c : ℕ). c ∷ bs) (sym is)), rw e v.1)
plain_by b bs false q e p v =
    (rw e (rw (q, e) (ap (λ (x : List ℕ). b ∷ x) v.0)), rw e (true_both (is_in_text b) (list_all is_in_text (unescaped false bs)) p v.1))

value_by : (n b : ℕ) (bs : List ℕ) (p q : Bool) → is_in_text b ≡ p → (b == 34) ≡ q → is_inside false (b ∷ bs) ≡ true → first_bad false n (b ∷ bs) ≡ None
    → ((s : Bool) → is_inside s bs ≡ true → first_bad s (n + 1) bs ≡ None → IsValue s bs) → IsValue false (b ∷ bs)
value_by n b bs true true p q i h ih = absurd (let f = rw q at i in cc)
value_by n b bs true false p q i h ih = plain_by b bs (b == 92) q refl p (ih (b == 92) (rw q at i) (rw p at h))
value_by n b bs false q p e i h ih = absurd (let f = rw p at h in cc)

pub is_value : (e : Bool) (n : ℕ) (inside : List ℕ) → is_inside e inside ≡ true → first_bad e n inside ≡ None → IsValue e inside
is_value true n [] i h = absurd cc
is_value false n [] i h = (refl, refl)
is_value true n (b ∷ bs) i h = behind_mark n b bs (is_escaped b) refl h (is_value false (n + 1) bs i)
is_value false n (b ∷ bs) i h = value_by n b bs (is_in_text b) (b == 34) refl refl i h (λ s. is_value s (n + 1) bs)

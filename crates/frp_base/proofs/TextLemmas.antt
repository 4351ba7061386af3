-- the texts of two times are different, and those of two names
use Rattle.std.proofs.Common.{◌≡◌, ℕ, ◌<◌, ◌≤◌, ◌^◌, List, [], ◌∷◌, ◌++◌, refl, ap, sym, ◌∙◌, subst, append_assoc, arith}
use Rattle.std.specs.Prelude.{⊤}
use Rattle.std.specs.Char.{digit_value}
use Rattle.std.specs.Fmt.{decimal}
use Rattle.std.specs.Str.Parse.{AllDigits}
use Rattle.std.proofs.lemmas.Fmt.{decimal_is_IsNumeral, decimal_injective}
use Rattle.frp_base.specs.declared.name.Stage.{Stage}
use Rattle.frp_base.specs.Time.{more_numbers, time_text}
use Rattle.frp_base.specs.Name.{more_stages}
use Rattle.frp_base.specs.Laws.{AreHeld, AreStagesHeld, TimeTextsTell, NameTextsTell}

first_same : (a b : ℕ) (xs ys : List ℕ) → a ∷ xs ≡ b ∷ ys → a ≡ b
first_same a b xs ys e = cc

rest_same : (a b : ℕ) (xs ys : List ℕ) → a ∷ xs ≡ b ∷ ys → xs ≡ ys
rest_same a b xs ys e = cc

-- no digit stands first
abbrev NoDigit : List ℕ → Type 0
NoDigit [] = ⊤
NoDigit (c ∷ cs) = 10 ≤ digit_value c

-- digits end where no digit follows
digits_end : (ds es xs ys : List ℕ) → AllDigits 10 ds → AllDigits 10 es → NoDigit xs → NoDigit ys → ds ++ xs ≡ es ++ ys → (ds ≡ es) × (xs ≡ ys)
digits_end [] [] xs ys a b p q e = (refl, e)
digits_end [] (c ∷ es) xs ys a b p q e = let h : 10 ≤ digit_value c = subst NoDigit e p in let k : digit_value c < 10 = b.0 in absurd (omega arith)
digits_end (d ∷ ds) [] xs ys a b p q e = let h : 10 ≤ digit_value d = subst NoDigit (sym e) q in let k : digit_value d < 10 = a.0 in absurd (omega arith)
digits_end (d ∷ ds) (c ∷ es) xs ys a b p q e =
    let r = digits_end ds es xs ys a.1 b.1 p q (rest_same d c (ds ++ xs) (es ++ ys) e) in
    let f : d ≡ c = first_same d c (ds ++ xs) (es ++ ys) e in
    ((λ i. f i ∷ r.0 i), r.1)

number_ends : (m n : ℕ) (xs ys : List ℕ) → m < 2 ^ 64 → n < 2 ^ 64 → NoDigit xs → NoDigit ys → decimal m ++ xs ≡ decimal n ++ ys → (m ≡ n) × (xs ≡ ys)
number_ends m n xs ys h k p q e =
    let r = digits_end (decimal m) (decimal n) xs ys (decimal_is_IsNumeral m h).0.1 (decimal_is_IsNumeral n k).0.1 p q e in
    (decimal_injective m n h k r.0, r.1)

-- numbers end where a bracket follows

no_digit_first : (ns xs : List ℕ) → NoDigit (more_numbers ns ++ 93 ∷ xs)
no_digit_first [] xs = omega arith
no_digit_first (n ∷ ns) xs = omega arith

numbers_end : (ns ms xs ys : List ℕ) → AreHeld ns → AreHeld ms → more_numbers ns ++ 93 ∷ xs ≡ more_numbers ms ++ 93 ∷ ys → (ns ≡ ms) × (xs ≡ ys)
numbers_end [] [] xs ys h k e = (refl, rest_same 93 93 xs ys e)
numbers_end [] (m ∷ ms) xs ys h k e = let f : ◌≡◌ {A = ℕ} 93 44 = first_same 93 44 _ _ e in absurd (omega arith)
numbers_end (n ∷ ns) [] xs ys h k e = let f : ◌≡◌ {A = ℕ} 44 93 = first_same 44 93 _ _ e in absurd (omega arith)
numbers_end (n ∷ ns) (m ∷ ms) xs ys h k e =
    let f : decimal n ++ (more_numbers ns ++ 93 ∷ xs) ≡ decimal m ++ (more_numbers ms ++ 93 ∷ ys)
    = sym (append_assoc (decimal n) (more_numbers ns) (93 ∷ xs)) ∙ rest_same 44 44 _ _ e ∙ append_assoc (decimal m) (more_numbers ms) (93 ∷ ys) in
    let r = number_ends n m _ _ h.0 k.0 (no_digit_first ns xs) (no_digit_first ms ys) f in
    let s = numbers_end ns ms xs ys h.1 k.1 r.1 in
    ((λ i. r.0 i ∷ s.0 i), s.1)

-- the text of a time, with a text after it
time_text-append : (n : ℕ) (ns xs : List ℕ) → time_text (n ∷ ns) ++ xs ≡ 91 ∷ (decimal n ++ (more_numbers ns ++ 93 ∷ xs))
time_text-append n ns xs = ap (λ (ys : List ℕ). 91 ∷ ys) (append_assoc (decimal n ++ more_numbers ns) (93 ∷ []) xs ∙ append_assoc (decimal n) (more_numbers ns) (93 ∷ xs))

time_ends : (n m : ℕ) (ns ms xs ys : List ℕ) → AreHeld (n ∷ ns) → AreHeld (m ∷ ms) → time_text (n ∷ ns) ++ xs ≡ time_text (m ∷ ms) ++ ys → (n ∷ ns ≡ m ∷ ms) × (xs ≡ ys)
time_ends n m ns ms xs ys h k e =
    let f : decimal n ++ (more_numbers ns ++ 93 ∷ xs) ≡ decimal m ++ (more_numbers ms ++ 93 ∷ ys)
    = rest_same 91 91 _ _ (sym (time_text-append n ns xs) ∙ e ∙ time_text-append m ms ys) in
    let r = number_ends n m _ _ h.0 k.0 (no_digit_first ns xs) (no_digit_first ms ys) f in
    let s = numbers_end ns ms xs ys h.1 k.1 r.1 in
    ((λ i. r.0 i ∷ s.0 i), s.1)

pub time_text-tells : TimeTextsTell
time_text-tells [] [] h k e = refl
time_text-tells [] (m ∷ ms) h k e = absurd (cc)
time_text-tells (n ∷ ns) [] h k e = absurd (cc)
time_text-tells (n ∷ ns) (m ∷ ms) h k e = (time_ends n m ns ms [] [] h k (ap (λ (ys : List ℕ). ys ++ []) e)).0

-- the text of a time ends where a dot follows
stage_ends : (s t xs ys : List ℕ) → AreHeld s → AreHeld t → time_text s ++ 46 ∷ xs ≡ time_text t ++ 46 ∷ ys → (s ≡ t) × (xs ≡ ys)
stage_ends [] [] xs ys h k e = (refl, rest_same 46 46 xs ys e)
stage_ends [] (m ∷ ms) xs ys h k e = let f : ◌≡◌ {A = ℕ} 46 91 = first_same 46 91 xs (decimal m ++ (more_numbers ms ++ 93 ∷ (46 ∷ ys))) (e ∙ time_text-append m ms (46 ∷ ys)) in absurd (omega arith)
stage_ends (n ∷ ns) [] xs ys h k e = let f : ◌≡◌ {A = ℕ} 91 46 = first_same 91 46 (decimal n ++ (more_numbers ns ++ 93 ∷ (46 ∷ xs))) ys (sym (time_text-append n ns (46 ∷ xs)) ∙ e) in absurd (omega arith)
stage_ends (n ∷ ns) (m ∷ ms) xs ys h k e = let r = time_ends n m ns ms (46 ∷ xs) (46 ∷ ys) h k e in (r.0, rest_same 46 46 xs ys r.1)

no_digit_stages : (ss : List Stage) → NoDigit (more_stages ss)
no_digit_stages [] = tt
no_digit_stages (s ∷ ss) = omega arith

stages_tell : (ss rs : List Stage) → AreStagesHeld ss → AreStagesHeld rs → more_stages ss ≡ more_stages rs → ss ≡ rs
stages_tell [] [] h k e = refl
stages_tell [] (r ∷ rs) h k e = absurd (cc)
stages_tell (s ∷ ss) [] h k e = absurd (cc)
stages_tell (s ∷ ss) (r ∷ rs) h k e =
    let d : time_text s.time ++ 46 ∷ (decimal s.item ++ more_stages ss) ≡ time_text r.time ++ 46 ∷ (decimal r.item ++ more_stages rs)
    = sym (append_assoc (time_text s.time) (46 ∷ decimal s.item) (more_stages ss)) ∙ rest_same 47 47 _ _ e ∙ append_assoc (time_text r.time) (46 ∷ decimal r.item) (more_stages rs) in
    let f = stage_ends s.time r.time (decimal s.item ++ more_stages ss) (decimal r.item ++ more_stages rs) h.0.0 k.0.0 d in
    let g = number_ends s.item r.item (more_stages ss) (more_stages rs) h.0.1 k.0.1 (no_digit_stages ss) (no_digit_stages rs) f.1 in
    let t = stages_tell ss rs h.1 k.1 g.1 in
    λ i. record { time = f.0 i; item = g.0 i } ∷ t i

pub name_text-tells : NameTextsTell
name_text-tells [] [] p q h k e = refl
name_text-tells [] (r ∷ rs) p q h k e = absurd (cc)
name_text-tells (s ∷ ss) [] p q h k e = absurd (cc)
name_text-tells (s ∷ ss) (r ∷ rs) p q h k e =
    let g = number_ends s.item r.item (more_stages ss) (more_stages rs) h.0.1 k.0.1 (no_digit_stages ss) (no_digit_stages rs) (rest_same 35 35 _ _ e) in
    let t = stages_tell ss rs h.1 k.1 g.1 in
    let f : s.time ≡ r.time = p ∙ sym q in
    λ i. record { time = f i; item = g.0 i } ∷ t i

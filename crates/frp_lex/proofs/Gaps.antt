-- Blanks and comments are passed over.
use Rattle.std.proofs.Common.{◌≡◌, ℕ, suc, ◌+◌, ◌-◌, Bool, true, false, List, [], ◌∷◌, ◌++◌, length, Option, Some, refl, sym, ap, ◌∙◌, add-zero, arith}
use Rattle.std.specs.Prelude.{◌==◌, if◌then◌else◌}
use Rattle.std.specs.List.{prefix_len}
use Rattle.std.proofs.lemmas.Grind.{common_steps}
use Rattle.frp_lex.specs.Bytes.{is_blank, is_in_comment}
use Rattle.frp_lex.specs.Tokens.{tokens_from, front}
use Rattle.frp_lex.specs.Written.{comment_after}
use Rattle.frp_lex.proofs.Spelled.{all_of}

-- how many bytes are left of a comment that goes on
abbrev pub left : Bool → List ℕ → ℕ
left comment bs = if comment then prefix_len is_in_comment bs else 0

blank_read : (at b : ℕ) (bs : List ℕ) → is_blank b ≡ true → tokens_from 0 at (b ∷ bs) ≡ tokens_from 0 (at + 1) bs
unfolding front
blank_read at b bs h = rw h (all_of (tokens_from 0 (at + 1) bs))

comment_read : (at b : ℕ) (bs : List ℕ) → is_blank b ≡ false → (b == 59) ≡ true → tokens_from 0 at (b ∷ bs) ≡ tokens_from (prefix_len is_in_comment bs) (at + 1) bs
unfolding front
comment_read at b bs h e =
    let n : 1 + prefix_len is_in_comment bs - 1 ≡ prefix_len is_in_comment bs = omega arith in
    rw (h, e) (rw n (all_of (tokens_from (prefix_len is_in_comment bs) (at + 1) bs)))

semicolon_no_blank : (b : ℕ) → (b == 59) ≡ true → is_blank b ≡ false
semicolon_no_blank b h = grind (arith, common_steps)

feed_is_blank : (b : ℕ) → (b == 10) ≡ true → is_blank b ≡ true
feed_is_blank b h = grind (arith, common_steps)

-- reading on behind a gap, whether a comment goes on before it and behind it
abbrev pub IsPassedOver : Bool → Bool → List ℕ → Type 0
IsPassedOver c d g = (rest : List ℕ) (at : ℕ) → tokens_from (left c (g ++ rest)) at (g ++ rest) ≡ tokens_from (left d rest) (at + length g) rest

one_more : (n at : ℕ) (g rest : List ℕ) → tokens_from n (at + 1 + length g) rest ≡ tokens_from n (at + suc (length g)) rest
one_more n at g rest = let e : at + 1 + length g ≡ at + suc (length g) = omega arith in ap (λ k. tokens_from n k rest) e

in_comment_by : (d : Bool) (b : ℕ) (g : List ℕ) (q : Bool) → (b == 10) ≡ q → comment_after true (b ∷ g) ≡ Some d → ((c : Bool) → comment_after c g ≡ Some d → IsPassedOver c d g) → IsPassedOver true d (b ∷ g)
in_comment_by d b g true e h ih = λ rest at. rw e (blank_read at b (g ++ rest) (feed_is_blank b e) ∙ ih false (rw e at h) rest (at + 1) ∙ one_more (left d rest) at g rest)
in_comment_by d b g false e h ih = λ rest at.
    let n : 1 + prefix_len is_in_comment (g ++ rest) ≡ suc (prefix_len is_in_comment (g ++ rest)) = omega arith in
    rw e (rw n (ih true (rw e at h) rest (at + 1) ∙ one_more (left d rest) at g rest))

outside_by : (d : Bool) (b : ℕ) (g : List ℕ) (q s : Bool) → (b == 59) ≡ q → is_blank b ≡ s → comment_after false (b ∷ g) ≡ Some d → ((c : Bool) → comment_after c g ≡ Some d → IsPassedOver c d g) → IsPassedOver false d (b ∷ g)
outside_by d b g true s e f h ih = λ rest at. comment_read at b (g ++ rest) (semicolon_no_blank b e) e ∙ ih true (rw e at h) rest (at + 1) ∙ one_more (left d rest) at g rest
outside_by d b g false true e f h ih = λ rest at. blank_read at b (g ++ rest) f ∙ ih false (rw (e, f) at h) rest (at + 1) ∙ one_more (left d rest) at g rest
outside_by d b g false false e f h ih = absurd (let i = rw (e, f) at h in cc)

nothing_passed : (c d : Bool) → comment_after c [] ≡ Some d → IsPassedOver c d []
nothing_passed true true h = λ rest at. ap (λ k. tokens_from (left true rest) k rest) (sym (add-zero at))
nothing_passed false false h = λ rest at. ap (λ k. tokens_from 0 k rest) (sym (add-zero at))
nothing_passed true false h = absurd (let i : ◌≡◌ {A = Option Bool} (Some true) (Some false) = h in cc)
nothing_passed false true h = absurd (let i : ◌≡◌ {A = Option Bool} (Some false) (Some true) = h in cc)

pub passed_over : (c d : Bool) (g : List ℕ) → comment_after c g ≡ Some d → IsPassedOver c d g
passed_over c d [] h = nothing_passed c d h
passed_over true d (b ∷ g) h = in_comment_by d b g (b == 10) refl h (λ c. passed_over c d g)
passed_over false d (b ∷ g) h = outside_by d b g (b == 59) (is_blank b) refl refl h (λ c. passed_over c d g)

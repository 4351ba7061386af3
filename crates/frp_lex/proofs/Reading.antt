-- Reading one piece after the other, as a loop does.
use Rattle.std.proofs.Common.{◌≡◌, ℕ, zero, suc, ◌-◌, ◌+◌, ◌≤◌, List, [], ◌∷◌, ◌++◌, length, drop, Option, Some, None, Ok, Err, refl, sym, ap, ◌∙◌, append_assoc, add-zero, arith, rules}
use Rattle.std.proofs.lemmas.List.{drop-drop}
use Rattle.std.specs.Prelude.{slice_index}
use Rattle.frp_lex.specs.declared.fault.LexStop.{LexStop}
use Rattle.frp_lex.specs.declared.fault.LexStop.TheVariants as stop
use Rattle.frp_lex.specs.declared.token.Kind.{Kind}
use Rattle.frp_lex.specs.declared.token.Token.{Token}
use Rattle.frp_lex.specs.Gives.{LexOutcome, ◌>>=◌, LexStops}
use Rattle.frp_lex.specs.Tokens.{Piece, front, token_at, put, added, tokens_from, tokens}

-- what was read before, and what is still read
abbrev pub behind : List Token → LexOutcome (List Token) → LexOutcome (List Token)
behind before read = read >>= λ x. Ok (before ++ x)

-- inside a piece, nothing is read
pub from_left : (left at : ℕ) (bs : List ℕ) → tokens_from left at bs ≡ tokens_from 0 (at + left) (drop left bs)
from_left zero at bs = rw add-zero refl
from_left (suc left) at [] = refl
from_left (suc left) at (b ∷ bs) = from_left left (at + 1) bs ∙ (let e : at + 1 + left ≡ at + suc left = omega arith in ap (λ k. tokens_from 0 k (drop left bs)) e)

regroup : (before : List Token) (at : ℕ) (o : Option Kind) (read : LexOutcome (List Token)) → behind before (read >>= λ more. Ok (put at o more)) ≡ behind (added before at o) read
regroup before at None (Ok x) = refl
regroup before at (Some kind) (Ok x) = ap Ok (sym (append_assoc before (token_at at kind ∷ []) x))
regroup before at None (Err f) = refl
regroup before at (Some kind) (Err f) = refl

-- the piece at the front is read, and then what follows it
pub one_piece : (at : ℕ) (bs : List ℕ) (c : Piece) → 1 ≤ length bs → 1 ≤ c.1 → front at (slice_index bs 0) (drop 1 bs) ≡ Ok c → tokens_from 0 at bs ≡ (tokens_from 0 (at + c.1) (drop c.1 bs) >>= λ more. Ok (put at c.0 more))
one_piece at [] c some moves e = absurd (omega arith)
one_piece at (b ∷ bs) (o, zero) some moves e = absurd (omega arith)
one_piece at (b ∷ bs) (o, suc n) some moves e =
    let p : at + 1 + n ≡ at + suc n = omega arith in
    let q : tokens_from n (at + 1) bs ≡ tokens_from 0 (at + suc n) (drop n bs) = from_left n (at + 1) bs ∙ ap (λ k. tokens_from 0 k (drop n bs)) p in
    let k : suc n - 1 ≡ n = omega arith in
    let first : tokens_from 0 at (b ∷ bs) ≡ (tokens_from n (at + 1) bs >>= λ more. Ok (put at o more)) = rw e (ap (λ i. tokens_from i (at + 1) bs >>= λ more. Ok (put at o more)) k) in
    first ∙ ap (λ (r : LexOutcome (List Token)). r >>= λ more. Ok (put at o more)) q

pub goes_on : (before : List Token) (at : ℕ) (bytes : List ℕ) (c : Piece) (total : LexOutcome (List Token)) → 1 ≤ length (drop at bytes) → 1 ≤ c.1 → front at (slice_index (drop at bytes) 0) (drop 1 (drop at bytes)) ≡ Ok c
    → behind before (tokens_from 0 at (drop at bytes)) ≡ total → behind (added before at c.0) (tokens_from 0 (at + c.1) (drop (at + c.1) bytes)) ≡ total
goes_on before at bytes c total some moves e so_far =
    let one = one_piece at (drop at bytes) c some moves e in
    let d : drop c.1 (drop at bytes) ≡ drop (at + c.1) bytes = search (rules, drop-drop) in
    let step : behind before (tokens_from 0 at (drop at bytes)) ≡ behind (added before at c.0) (tokens_from 0 (at + c.1) (drop (at + c.1) bytes)) =
    ap (behind before) one ∙ regroup before at c.0 (tokens_from 0 (at + c.1) (drop c.1 (drop at bytes))) ∙ ap (λ bs. behind (added before at c.0) (tokens_from 0 (at + c.1) bs)) d in
    sym step ∙ so_far

fails_first : (e : LexStop) (before : List Token) (at : ℕ) (bs : List ℕ) → 1 ≤ length bs → LexStops e (front at (slice_index bs 0) (drop 1 bs)) → LexStops e (behind before (tokens_from 0 at bs))
fails_first stop.Memory before at bs some h = tt
fails_first (stop.Fault f) before at [] some h = absurd (omega arith)
fails_first (stop.Fault f) before at (b ∷ bs) some h = rw h refl

pub fails : (e : LexStop) (before : List Token) (at : ℕ) (bs : List ℕ) (total : LexOutcome (List Token)) → 1 ≤ length bs → LexStops e (front at (slice_index bs 0) (drop 1 bs)) → behind before (tokens_from 0 at bs) ≡ total → LexStops e total
fails e before at bs total some h so_far = rw (← so_far) (fails_first e before at bs some h)

pub begins : (bytes : List ℕ) → behind [] (tokens_from 0 0 bytes) ≡ tokens bytes
unfolding tokens
begins bytes = elim (tokens_from 0 0 bytes) as (λ r. behind [] r ≡ r) [ Ok x ↦ refl | Err f ↦ refl ]

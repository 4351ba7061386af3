-- An input has no more tokens than bytes.
use Rattle.std.proofs.Common.{◌≡◌, ℕ, zero, suc, ◌+◌, ◌-◌, ◌≤◌, List, [], ◌∷◌, length, Option, Some, None, Ok, Err, refl, ap, arith}
use Rattle.frp_lex.specs.declared.token.Kind.{Kind}
use Rattle.frp_lex.specs.declared.token.Token.{Token}
use Rattle.frp_lex.specs.Gives.{LexOutcome, ◌>>=◌}
use Rattle.frp_lex.specs.Tokens.{Piece, front, put, tokens_from, tokens}
use Rattle.frp_form.specs.LawfulReading.{TokensAreFew}

tokens_or : List Token → LexOutcome (List Token) → List Token
tokens_or d (Ok ts) = ts
tokens_or d (Err e) = d

-- at most one token is put before others
put_length : (at : ℕ) (o : Option Kind) (ts : List Token) → length (put at o ts) ≤ suc (length ts)
put_length at None ts = omega arith
put_length at (Some kind) ts = omega arith

-- a step that comes to tokens comes to no more than one more than those behind it
abbrev AtMost : ℕ → LexOutcome (List Token) → Type 0
AtMost n r = (ts : List Token) → r ≡ Ok ts → length ts ≤ n

ok_most : (n : ℕ) (us : List Token) → length us ≤ n → AtMost n (Ok us)
unfolding tokens_or
ok_most n us le ts h = let e : length us ≡ length ts = ap (λ r. length (tokens_or [] r)) h in omega arith

one_more : (n at : ℕ) (o : Option Kind) (r : LexOutcome (List Token)) → AtMost n r → AtMost (suc n) (r >>= λ us. Ok (put at o us))
one_more n at o (Ok us) few ts h =
    let le : length us ≤ n = few us refl in
    ok_most (suc n) (put at o us) (let p = put_length at o us in omega arith) ts h
one_more n at o (Err e) few ts h = absurd cc

by_front : (at : ℕ) (bs : List ℕ) → ((left at : ℕ) → AtMost (length bs) (tokens_from left at bs)) → (r : LexOutcome Piece) → AtMost (suc (length bs)) (r >>= λ piece. tokens_from (piece.1 - 1) (at + 1) bs >>= λ us. Ok (put at piece.0 us))
by_front at bs ih (Ok piece) ts h = one_more (length bs) at piece.0 (tokens_from (piece.1 - 1) (at + 1) bs) (ih (piece.1 - 1) (at + 1)) ts h
by_front at bs ih (Err f) ts h = absurd cc

from_most : (left at : ℕ) (bs : List ℕ) → AtMost (length bs) (tokens_from left at bs)
from_most left at [] ts h = ok_most 0 [] (omega arith) ts h
from_most (suc left) at (b ∷ bs) ts h = let le = from_most left (at + 1) bs ts h in omega arith
from_most zero at (b ∷ bs) ts h = by_front at bs (λ left at. from_most left at bs) (front at b bs) ts h

pub tokens_are_few_lem : TokensAreFew
unfolding tokens
tokens_are_few_lem bs ts h = from_most 0 0 bs ts h

-- What is spelled is lexed.
use Rattle.std.proofs.Common.{◌≡◌, ℕ, ◌+◌, Bool, true, false, List, [], ◌∷◌, ◌++◌, length, Some, Ok, Err, refl, ap, ◌∙◌, append_assoc, length-append, arith}
use Rattle.std.specs.Prelude.{if◌then◌else◌}
use Rattle.std.proofs.Math.Seq.{drop-append_seam}
use Rattle.frp_base.proofs.Booleans.{both_true}
use Rattle.frp_lex.specs.declared.token.Kind.{Kind}
use Rattle.frp_lex.specs.declared.token.Kind.TheVariants as k
use Rattle.frp_lex.specs.declared.token.Token.{Token}
use Rattle.frp_lex.specs.Gives.{LexOutcome, ◌>>=◌}
use Rattle.frp_lex.specs.Tokens.{token_at, tokens_from, tokens, front}
use Rattle.frp_lex.specs.Spelling.{spelled, is_left, are_tight, gap, spelled_after, kinds_read, is_lawful_token, are_lawful}
use Rattle.frp_lex.specs.Written.{ends_atom, is_parted}
use Rattle.frp_lex.specs.Laws.{SpelledIsLexed}
use Rattle.frp_lex.proofs.Reading.{one_piece}
use Rattle.frp_lex.proofs.Fronts.{kind_read, kind_some}

-- the token at the front is read, and then what follows it
pub token_read : (kind : Kind) → is_lawful_token kind ≡ true → (at : ℕ) (rest : List ℕ) → is_parted kind rest ≡ true
    → tokens_from 0 at (spelled kind ++ rest) ≡ (tokens_from 0 (at + length (spelled kind)) rest >>= λ more. Ok (token_at at kind ∷ more))
token_read kind h at rest p =
    let some = kind_some kind h in
    one_piece at (spelled kind ++ rest) (Some kind, length (spelled kind)) (omega (arith, length-append (spelled kind) rest)) some (kind_read kind h at rest p)
    ∙ ap (λ bs. tokens_from 0 (at + length (spelled kind)) bs >>= λ more. Ok (token_at at kind ∷ more)) (drop-append_seam (spelled kind) rest)

pub all_of : (r : LexOutcome (List Token)) → (r >>= λ more. Ok more) ≡ r
all_of (Ok ts) = refl
all_of (Err f) = refl

-- a space is passed over
space_read : (at : ℕ) (rest : List ℕ) → tokens_from 0 at (32 ∷ rest) ≡ tokens_from 0 (at + 1) rest
unfolding front
space_read at rest = all_of (tokens_from 0 (at + 1) rest)

atom_parted : (t : Kind) (us : List Kind) → is_left t ≡ false → ends_atom (spelled_after t us) ≡ true
atom_parted t [] h = refl
atom_parted t (k.Left ∷ us) h = rw h refl
atom_parted t (k.Right ∷ us) h = rw h refl
atom_parted t (k.Name u ∷ us) h = rw h refl
atom_parted t (k.Word u ∷ us) h = rw h refl
atom_parted t (k.Num u ∷ us) h = rw h refl
atom_parted t (k.Str u ∷ us) h = rw h refl

-- an atom's spelling is parted from what follows it on the line
pub line_parted : (t : Kind) (us : List Kind) → is_parted t (spelled_after t us) ≡ true
line_parted k.Left us = refl
line_parted k.Right us = refl
line_parted (k.Name t) us = atom_parted (k.Name t) us refl
line_parted (k.Word t) us = atom_parted (k.Word t) us refl
line_parted (k.Num t) us = atom_parted (k.Num t) us refl
line_parted (k.Str t) us = refl

kinds_more : (t : Kind) (at : ℕ) (r : LexOutcome (List Token)) (us : List Kind) → kinds_read r ≡ Ok us → kinds_read (r >>= λ more. Ok (token_at at t ∷ more)) ≡ Ok (t ∷ us)
kinds_more t at (Ok ts) us h = ap (λ r. r >>= λ more. Ok (t ∷ more)) h
kinds_more t at (Err f) us h = absurd cc

first_read : (t : Kind) (us : List Kind) → is_lawful_token t ≡ true → ((at : ℕ) → kinds_read (tokens_from 0 at (spelled_after t us)) ≡ Ok us) → (at : ℕ) → kinds_read (tokens_from 0 at (spelled t ++ spelled_after t us)) ≡ Ok (t ∷ us)
first_read t us h ih at = ap kinds_read (token_read t h at (spelled_after t us) (line_parted t us)) ∙ kinds_more t at (tokens_from 0 (at + length (spelled t)) (spelled_after t us)) us (ih (at + length (spelled t)))

gap_read : (tight : Bool) (at : ℕ) (rest : List ℕ) (us : List Kind) → ((at : ℕ) → kinds_read (tokens_from 0 at rest) ≡ Ok us) → kinds_read (tokens_from 0 at ((if tight then [] else 32 ∷ []) ++ rest)) ≡ Ok us
gap_read true at rest us h = h at
gap_read false at rest us h = ap kinds_read (space_read at rest) ∙ h (at + 1)

after_read : (t : Kind) (us : List Kind) → are_lawful us ≡ true → (at : ℕ) → kinds_read (tokens_from 0 at (spelled_after t us)) ≡ Ok us
after_read t [] h at = refl
after_read t (u ∷ us) h at =
    let p = both_true (is_lawful_token u) (are_lawful us) h in
    rw (append_assoc (gap t u) (spelled u) (spelled_after u us)) (gap_read (are_tight t u) at (spelled u ++ spelled_after u us) (u ∷ us) (first_read u us p.0 (after_read u us p.1)))

pub spelled_is_lexed_lem : SpelledIsLexed
unfolding tokens
spelled_is_lexed_lem [] h = refl
spelled_is_lexed_lem (t ∷ ts) h = let p = both_true (is_lawful_token t) (are_lawful ts) h in first_read t ts p.0 (after_read t ts p.1) 0

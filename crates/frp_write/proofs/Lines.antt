-- Lines of spelled tokens are lexed as those tokens.
use Rattle.std.proofs.Common.{◌≡◌, ℕ, ◌+◌, Bool, true, false, List, [], ◌∷◌, ◌++◌, length, Ok, Err, refl, sym, ap, ◌∙◌, subst, append_assoc}
use Rattle.std.specs.Prelude.{if◌then◌else◌}
use Rattle.std.specs.List.{list_all}
use Rattle.frp_lex.specs.declared.token.Kind.{Kind}
use Rattle.frp_lex.specs.declared.token.Kind.TheVariants as k
use Rattle.frp_lex.specs.declared.token.Token.{Token}
use Rattle.frp_lex.specs.Gives.{LexOutcome, ◌>>=◌}
use Rattle.frp_lex.specs.Tokens.{token_at, tokens_from, tokens, front}
use Rattle.frp_lex.specs.Spelling.{spelled, are_tight, gap, spelled_after, spelling, kinds_read, is_lawful_token, are_lawful}
use Rattle.frp_lex.specs.Written.{ends_atom, is_parted}
use Rattle.frp_lex.proofs.Spelled.{token_read, line_parted, all_of}
use Rattle.frp_base.proofs.Booleans.{both_true}
use Rattle.frp_write.specs.Writing.{Kinds, run_together, lines}

-- wherever the bytes stand, they are lexed as tokens of these kinds
abbrev Lexed : List ℕ → Kinds → Type 0
Lexed bs ks = (at : ℕ) → kinds_read (tokens_from 0 at bs) ≡ Ok ks

-- a line feed and a space are passed over

feed_lexed : (bs : List ℕ) (ks : Kinds) → Lexed bs ks → Lexed (10 ∷ bs) ks
unfolding front
feed_lexed bs ks h at = ap kinds_read (all_of (tokens_from 0 (at + 1) bs)) ∙ h (at + 1)

space_lexed : (bs : List ℕ) (ks : Kinds) → Lexed bs ks → Lexed (32 ∷ bs) ks
unfolding front
space_lexed bs ks h at = ap kinds_read (all_of (tokens_from 0 (at + 1) bs)) ∙ h (at + 1)

gap_lexed : (tight : Bool) (bs : List ℕ) (ks : Kinds) → Lexed bs ks → Lexed ((if tight then [] else 32 ∷ []) ++ bs) ks
gap_lexed true bs ks h = h
gap_lexed false bs ks h = space_lexed bs ks h

ends_more : (cs bs : List ℕ) → ends_atom cs ≡ true → ends_atom (cs ++ 10 ∷ bs) ≡ true
ends_more [] bs h = refl
ends_more (c ∷ cs) bs h = h

-- what is parted from the rest of its line is so from the lines behind it
parted_more : (t : Kind) (cs bs : List ℕ) → is_parted t cs ≡ true → is_parted t (cs ++ 10 ∷ bs) ≡ true
parted_more k.Left cs bs h = refl
parted_more k.Right cs bs h = refl
parted_more (k.Name t) cs bs h = ends_more cs bs h
parted_more (k.Word t) cs bs h = ends_more cs bs h
parted_more (k.Num t) cs bs h = ends_more cs bs h
parted_more (k.Str t) cs bs h = refl

kinds_more : (t : Kind) (at : ℕ) (r : LexOutcome (List Token)) (us : Kinds) → kinds_read r ≡ Ok us → kinds_read (r >>= λ more. Ok (token_at at t ∷ more)) ≡ Ok (t ∷ us)
kinds_more t at (Ok ts) us h = ap (λ (r : LexOutcome Kinds). r >>= λ more. Ok (t ∷ more)) h
kinds_more t at (Err f) us h = absurd cc

-- a token, where what follows it is lexed
token_lexed : (t : Kind) (us : Kinds) (bs : List ℕ) (ks : Kinds) → is_lawful_token t ≡ true → Lexed (spelled_after t us ++ 10 ∷ bs) ks → Lexed (spelled t ++ (spelled_after t us ++ 10 ∷ bs)) (t ∷ ks)
token_lexed t us bs ks h r at =
    let rest : List ℕ = spelled_after t us ++ 10 ∷ bs in
    ap kinds_read (token_read t h at rest (parted_more t (spelled_after t us) bs (line_parted t us))) ∙ kinds_more t at (tokens_from 0 (at + length (spelled t)) rest) ks (r (at + length (spelled t)))

after_lexed : (t : Kind) (us : Kinds) (bs : List ℕ) (ks : Kinds) → are_lawful us ≡ true → Lexed bs ks → Lexed (spelled_after t us ++ 10 ∷ bs) (us ++ ks)
after_lexed t [] bs ks h r = feed_lexed bs ks r
after_lexed t (u ∷ us) bs ks h r =
    let p = both_true (is_lawful_token u) (are_lawful us) h in
    subst (λ (l : List ℕ). Lexed l (u ∷ us ++ ks)) (sym (append_assoc (gap t u ++ spelled u) (spelled_after u us) (10 ∷ bs) ∙ append_assoc (gap t u) (spelled u) (spelled_after u us ++ 10 ∷ bs)))
    (gap_lexed (are_tight t u) (spelled u ++ (spelled_after u us ++ 10 ∷ bs)) (u ∷ us ++ ks) (token_lexed u us bs (us ++ ks) p.0 (after_lexed u us bs ks p.1 r)))

line_lexed : (us : Kinds) (bs : List ℕ) (ks : Kinds) → are_lawful us ≡ true → Lexed bs ks → Lexed (spelling us ++ 10 ∷ bs) (us ++ ks)
line_lexed [] bs ks h r = feed_lexed bs ks r
line_lexed (t ∷ us) bs ks h r =
    let p = both_true (is_lawful_token t) (are_lawful us) h in
    rw (append_assoc (spelled t) (spelled_after t us) (10 ∷ bs)) (token_lexed t us bs (us ++ ks) p.0 (after_lexed t us bs ks p.1 r))

lines_lexed : (forms : List Kinds) → list_all are_lawful forms ≡ true → Lexed (lines forms) (run_together forms)
lines_lexed [] h = λ at. refl
lines_lexed (us ∷ forms) h =
    let p = both_true (are_lawful us) (list_all are_lawful forms) h in
    line_lexed us (lines forms) (run_together forms) p.0 (lines_lexed forms p.1)

-- lines of lawful tokens are lexed as those tokens
pub lines_are_lexed : (forms : List Kinds) → list_all are_lawful forms ≡ true → kinds_read (tokens (lines forms)) ≡ Ok (run_together forms)
unfolding tokens
lines_are_lexed forms h = lines_lexed forms h 0

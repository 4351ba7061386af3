-- What is lexed has one canonical line.
use Rattle.std.proofs.Common.{◌≡◌, ℕ, ◌+◌, true, List, length, [], ◌∷◌, Ok, Err, refl, sym, ap, ◌∙◌, subst}
use Rattle.frp_base.proofs.Booleans.{true_both}
use Rattle.frp_lex.specs.declared.token.Kind.{Kind}
use Rattle.frp_lex.specs.declared.token.Token.{Token}
use Rattle.frp_lex.specs.Gives.{LexOutcome, ◌>>=◌}
use Rattle.frp_lex.specs.Tokens.{tokens}
use Rattle.frp_lex.specs.Spelling.{spelled, spelling, kinds, kinds_read, is_lawful_token, are_lawful}
use Rattle.frp_lex.specs.Written.{IsLastGap, AreTokens}
use Rattle.frp_lex.specs.Laws.{LexedIsLawful, LexedIsSpelled, canonical_line, CanonicalStays, SpellingTells}
use Rattle.frp_lex.proofs.Spelled.{spelled_is_lexed_lem}
use Rattle.frp_lex.proofs.Written.{lexed_is_written_lem}

written_lawful : (at : ℕ) (ts : List Token) (bs : List ℕ) → AreTokens (λ at rest. IsLastGap rest) at ts bs → are_lawful (kinds ts) ≡ true
written_lawful at [] bs h = refl
written_lawful at (t ∷ ts) bs h = true_both (is_lawful_token t.kind) (are_lawful (kinds ts)) h.lawful (written_lawful (t.at + length (spelled t.kind)) ts h.rest h.more)

pub lexed_is_lawful_lem : LexedIsLawful
lexed_is_lawful_lem bs ts h = written_lawful 0 ts bs ((lexed_is_written_lem bs ts).0 h)

pub lexed_is_spelled_lem : LexedIsSpelled
lexed_is_spelled_lem bs ts h = spelled_is_lexed_lem (kinds ts) (lexed_is_lawful_lem bs ts h)

stays_by : (bs line : List ℕ) (r : LexOutcome (List Token)) → tokens bs ≡ r → (kinds_read r >>= λ ks. Ok (spelling ks)) ≡ Ok line → canonical_line line ≡ Ok line
stays_by bs line (Ok ts) e h =
    let is : spelling (kinds ts) ≡ line = cc in
    subst (λ x. canonical_line x ≡ Ok x) is (ap (λ (r : LexOutcome (List Kind)). r >>= λ ks. Ok (spelling ks)) (lexed_is_spelled_lem bs ts e))
stays_by bs line (Err f) e h = absurd cc

pub canonical_stays_lem : CanonicalStays
canonical_stays_lem bs line h = stays_by bs line (tokens bs) refl h

pub spelling_tells_lem : SpellingTells
spelling_tells_lem ks js h i e =
    let p : ◌≡◌ {A = LexOutcome (List Kind)} (Ok ks) (Ok js) = sym (spelled_is_lexed_lem ks h) ∙ ap (λ bs. kinds_read (tokens bs)) e ∙ spelled_is_lexed_lem js i in
    cc

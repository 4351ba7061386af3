-- Tokens of given kinds are taken apart as the kinds are.
use Rattle.std.proofs.Common.{◌≡◌, ℕ, List, [], ◌∷◌, ◌++◌, refl, sym, ap, subst}
use Rattle.frp_lex.specs.declared.token.Kind.{Kind}
use Rattle.frp_lex.specs.declared.token.Kind.TheVariants as k
use Rattle.frp_lex.specs.declared.token.Token.{Token}
use Rattle.frp_lex.specs.Spelling.{kinds}
use Rattle.frp_write.specs.Writing.{Kinds, form}
use Rattle.frp_form.specs.Grammar.{left_at, right_at, name_at}

abbrev pub token : ℕ → Kind → Token
token a kind = record { at = a; kind = kind }

-- the first token
pub one : (P : List Token → Type 0) (kind : Kind) (ks : Kinds) → ((a : ℕ) (us : List Token) → kinds us ≡ ks → P (token a kind ∷ us)) → (ts : List Token) → kinds ts ≡ kind ∷ ks → P ts
one P kind ks go [] h = absurd cc
one P kind ks go (t ∷ ts) h =
    let e : t.kind ≡ kind = cc in
    let d : kinds ts ≡ ks = cc in
    subst (λ (q : Kind). P (token t.at q ∷ ts)) (sym e) (go t.at ts d)

-- the last token
pub ending : (P : List Token → Type 0) (kind : Kind) → ((a : ℕ) → P (token a kind ∷ [])) → (ts : List Token) → kinds ts ≡ kind ∷ [] → P ts
ending P kind go = one P kind [] last where
  last : (a : ℕ) (us : List Token) → kinds us ≡ [] → P (token a kind ∷ us)
  last a [] h = go a
  last a (u ∷ us) h = absurd cc

-- the first part
pub part : (P : List Token → Type 0) (ks js : Kinds) → ((us vs : List Token) → kinds us ≡ ks → kinds vs ≡ js → P (us ++ vs)) → (ts : List Token) → kinds ts ≡ ks ++ js → P ts
part P [] js go ts h = go [] ts refl h
part P (kind ∷ ks) js go ts h =
    one P kind (ks ++ js) (λ a us e. part (λ vs. P (token a kind ∷ vs)) ks js (λ xs vs p q. go (token a kind ∷ xs) vs (ap (λ (l : Kinds). kind ∷ l) p) q) us e) ts h

-- what a form begins with
pub opening : (P : List Token → Type 0) (word : List ℕ) (ks : Kinds) → ((a b : ℕ) (us : List Token) → kinds us ≡ ks ++ k.Right ∷ [] → P (left_at a ∷ name_at b word ∷ us)) → (ts : List Token) → kinds ts ≡ form word ks → P ts
opening P word ks go ts h =
    one P k.Left (k.Name word ∷ ks ++ k.Right ∷ []) (λ a us e. one (λ vs. P (left_at a ∷ vs)) (k.Name word) (ks ++ k.Right ∷ []) (λ b vs d. go a b vs d) us e) ts h

-- the last part and the right parenthesis
pub closing : (P : List Token → Type 0) (ks : Kinds) → ((us : List Token) (c : ℕ) → kinds us ≡ ks → P (us ++ right_at c ∷ [])) → (ts : List Token) → kinds ts ≡ ks ++ k.Right ∷ [] → P ts
closing P ks go ts h = part P ks (k.Right ∷ []) (λ us vs p q. ending (λ ws. P (us ++ ws)) k.Right (λ c. go us c p) vs q) ts h

-- two parts and the right parenthesis
pub closing_two : (P : List Token → Type 0) (ks js : Kinds) → ((us vs : List Token) (c : ℕ) → kinds us ≡ ks → kinds vs ≡ js → P (us ++ vs ++ right_at c ∷ [])) → (ts : List Token) → kinds ts ≡ (ks ++ js) ++ k.Right ∷ [] → P ts
closing_two P ks js go ts h = closing P (ks ++ js) (λ ws c g. part (λ vs. P (vs ++ right_at c ∷ [])) ks js (λ us vs p q. go us vs c p q) ws g) ts h

-- three parts and the right parenthesis
pub closing_three : (P : List Token → Type 0) (ks js ls : Kinds) → ((us vs ws : List Token) (c : ℕ) → kinds us ≡ ks → kinds vs ≡ js → kinds ws ≡ ls → P (us ++ vs ++ ws ++ right_at c ∷ [])) → (ts : List Token) → kinds ts ≡ (ks ++ js ++ ls) ++ k.Right ∷ [] → P ts
closing_three P ks js ls go ts h =
    closing_two P (ks ++ js) ls (λ xs ws c g r. part (λ vs. P (vs ++ ws ++ right_at c ∷ [])) ks js (λ us vs p q. go us vs ws c p q r) xs g) ts h

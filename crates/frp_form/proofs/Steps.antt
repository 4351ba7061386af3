-- Steps of reading against the grammar.
use Rattle.std.proofs.Common.{◌≡◌, ℕ, Bool, true, false, List, [], ◌∷◌, ◌++◌, Option, Some, None, Ok, Err, refl, sym, ap, ◌∙◌, subst, append_assoc}
use Rattle.std.specs.Prelude.{if◌then◌else◌}
use Rattle.std.specs.Str.{bytes_eq}
use Rattle.std.proofs.lemmas.Slice.Eq.{bytes_eq-Decides}
use Rattle.frp_expr.specs.declared.raw.Spot.{Spot}
use Rattle.frp_lex.specs.declared.token.Kind.{Kind}
use Rattle.frp_lex.specs.declared.token.Kind.TheVariants as k
use Rattle.frp_lex.specs.declared.token.Token.{Token}
use Rattle.frp_form.specs.Gives.{FormOutcome, Parser, ◌>>=◌}
use Rattle.frp_form.specs.Tokens.{unexpected, left, right, word, opened, spot, two_names, is_literal, head, head_is}
use Rattle.frp_form.specs.Grammar.{left_at, right_at, name_at, name_of, IsUser}

-- ---- outcomes

abbrev pub Says : {A : Type 0} → FormOutcome A → A → Type 0
Says r x = r ≡ Ok x

ok_or : {A : Type 0} → A → FormOutcome A → A
ok_or d (Ok x) = x
ok_or d (Err e) = d

pub ok_of : {A : Type 0} (x y : A) → Says (Ok x) y → x ≡ y
unfolding ok_or
ok_of x y h = ap (ok_or x) h

-- where two steps come to something, so does the first, and then the second
pub bind_ok : {A B : Type 0} (r : FormOutcome A) (f : A → FormOutcome B) (y : B) → Says (r >>= f) y → (x : A) × (r ≡ Ok x) × (f x ≡ Ok y)
bind_ok (Ok x) f y h = (x, refl, h)
bind_ok (Err e) f y h = absurd cc

-- ---- tokens that begin with something

-- the tokens are a front and a rest
pub record Splits (ts front rest : List Token) : Type 0 where
  pub is : ts ≡ front ++ rest

-- the tokens are what is x, and then the rest
pub record Begins {A : Type 0} (Is : A → List Token → Type 0) (x : A) (ts rest : List Token) : Type 0 where
  pub front : List Token
  pub parts : Splits ts front rest
  pub is : Is x front

-- what is read is of the grammar
abbrev pub Sound : {A : Type 0} → Parser A → (A → List Token → Type 0) → Type 0
Sound {A} read Is = (ts : List Token) (x : A × List Token) → read ts ≡ Ok x → Begins Is x.0 ts x.1

-- what is of the grammar is read, whatever follows
abbrev pub Complete : {A : Type 0} → Parser A → (A → List Token → Type 0) → Type 0
Complete {A} read Is = (x : A) (ts rest : List Token) → Is x ts → read (ts ++ rest) ≡ Ok (x, rest)

pub made : {A : Type 0} {Is : A → List Token → Type 0} {x : A} {ts front rest : List Token} → Splits ts front rest → Is x front → Begins Is x ts rest
made {front = front} s h = record { front = front; parts = s; is = h }

pub ends_with : {A : Type 0} (Is : A → List Token → Type 0) (ts : List Token) (x y : A × List Token) → Says (Ok x) y → Begins Is x.0 ts x.1 → Begins Is y.0 ts y.1
ends_with Is ts x y h b = subst (λ z. Begins Is z.0 ts z.1) (ok_of x y h) b

-- one part behind another
pub both : {ts front us more vs : List Token} → Splits ts front us → Splits us more vs → Splits ts (front ++ more) vs
both {front = front} {more = more} {vs = vs} s t = record { is = s.is ∙ ap (λ l. front ++ l) t.is ∙ sym (append_assoc front more vs) }

-- a token behind a part
pub and_one : {ts front us vs : List Token} {t : Token} → Splits ts front us → us ≡ t ∷ vs → Splits ts (front ++ t ∷ []) vs
and_one {front = front} {vs = vs} {t = t} s h = record { is = s.is ∙ ap (λ l. front ++ l) h ∙ sym (append_assoc front (t ∷ []) vs) }

-- a token before a part
pub one_and : {ts us front vs : List Token} {t : Token} → ts ≡ t ∷ us → Splits us front vs → Splits ts (t ∷ front) vs
one_and {t = t} h s = record { is = h ∙ ap (λ l. t ∷ l) s.is }

-- one token
pub one : {ts rest : List Token} {t : Token} → ts ≡ t ∷ rest → Splits ts (t ∷ []) rest
one h = record { is = h }

-- the left parenthesis and the head word before a part
pub inside : {t u : Token} {ts front rest : List Token} → Splits ts front rest → Splits (t ∷ u ∷ ts) (t ∷ u ∷ front) rest
inside {t} {u} s = record { is = ap (λ l. t ∷ u ∷ l) s.is }

pub moved : {ts front us vs : List Token} → Splits ts front us → us ≡ vs → Splits ts front vs
moved {front = front} s h = record { is = s.is ∙ ap (λ l. front ++ l) h }

-- parts one behind the other, the last one before all that follows
pub flat : (a b rest : List Token) → (a ++ b) ++ rest ≡ a ++ (b ++ rest)
flat a b rest = append_assoc a b rest

pub flat₂ : (a b c rest : List Token) → ((a ++ b) ++ c) ++ rest ≡ a ++ (b ++ (c ++ rest))
flat₂ a b c rest = flat (a ++ b) c rest ∙ flat a b (c ++ rest)

pub flat₃ : (a b c d rest : List Token) → (((a ++ b) ++ c) ++ d) ++ rest ≡ a ++ (b ++ (c ++ (d ++ rest)))
flat₃ a b c d rest = flat ((a ++ b) ++ c) d rest ∙ flat₂ a b c (d ++ rest)

pub flat₄ : (a b c d e rest : List Token) → ((((a ++ b) ++ c) ++ d) ++ e) ++ rest ≡ a ++ (b ++ (c ++ (d ++ (e ++ rest))))
flat₄ a b c d e rest = flat (((a ++ b) ++ c) ++ d) e rest ∙ flat₃ a b c d (e ++ rest)

pub flat₅ : (a b c d e f rest : List Token) → (((((a ++ b) ++ c) ++ d) ++ e) ++ f) ++ rest ≡ a ++ (b ++ (c ++ (d ++ (e ++ (f ++ rest)))))
flat₅ a b c d e f rest = flat ((((a ++ b) ++ c) ++ d) ++ e) f rest ∙ flat₄ a b c d e (f ++ rest)

-- ---- steps over tokens

abbrev token : ℕ → Kind → Token
token a kind = record { at = a; kind = kind }

left_by : (end a : ℕ) (kind : Kind) (ts : List Token) (x : ℕ × List Token) → left end (token a kind ∷ ts) ≡ Ok x → token a kind ∷ ts ≡ left_at x.0 ∷ x.1
unfolding left
left_by end a k.Left ts x h = subst (λ (y : ℕ × List Token). left_at a ∷ ts ≡ left_at y.0 ∷ y.1) (ok_of (a, ts) x h) refl
left_by end a _ ts x h = absurd cc

pub left_sound : (end : ℕ) (ts : List Token) (x : ℕ × List Token) → left end ts ≡ Ok x → ts ≡ left_at x.0 ∷ x.1
unfolding left
left_sound end [] x h = absurd cc
left_sound end (t ∷ ts) x h = left_by end t.at t.kind ts x h

right_by : (end a : ℕ) (kind : Kind) (ts rest : List Token) → right end (token a kind ∷ ts) ≡ Ok rest → token a kind ∷ ts ≡ right_at a ∷ rest
unfolding right
right_by end a k.Right ts rest h = ap (λ l. right_at a ∷ l) (ok_of ts rest h)
right_by end a _ ts rest h = absurd cc

pub right_sound : (end : ℕ) (ts rest : List Token) → right end ts ≡ Ok rest → (c : ℕ) × (ts ≡ right_at c ∷ rest)
unfolding right
right_sound end [] rest h = absurd cc
right_sound end (t ∷ ts) rest h = (t.at, right_by end t.at t.kind ts rest h)

word_when : (end a : ℕ) (w n : List ℕ) (ts rest : List Token) (q : Bool) → bytes_eq n w ≡ q → Says (if q then Ok ts else Err (unexpected end (name_at a n ∷ ts))) rest → name_at a n ∷ ts ≡ name_at a w ∷ rest
word_when end a w n ts rest true e h = ap (λ l. name_at a n ∷ l) (ok_of ts rest h) ∙ ap (λ m. name_at a m ∷ rest) ((bytes_eq-Decides n w).0 e)
word_when end a w n ts rest false e h = absurd cc

word_by : (end a : ℕ) (w : List ℕ) (kind : Kind) (ts rest : List Token) → word end w (token a kind ∷ ts) ≡ Ok rest → token a kind ∷ ts ≡ name_at a w ∷ rest
unfolding word
word_by end a w (k.Name n) ts rest h = word_when end a w n ts rest (bytes_eq n w) refl h
word_by end a w _ ts rest h = absurd cc

word_sound : (end : ℕ) (w : List ℕ) (ts rest : List Token) → word end w ts ≡ Ok rest → (b : ℕ) × (ts ≡ name_at b w ∷ rest)
unfolding word
word_sound end w [] rest h = absurd cc
word_sound end w (t ∷ ts) rest h = (t.at, word_by end t.at w t.kind ts rest h)

pub opened_sound : (end : ℕ) (w : List ℕ) (ts : List Token) (x : ℕ × List Token) → opened end w ts ≡ Ok x → (b : ℕ) × (ts ≡ left_at x.0 ∷ name_at b w ∷ x.1)
unfolding opened
opened_sound end w ts x h =
    let p = bind_ok (left end ts) _ _ h in
    let q = bind_ok (word end w p.0.1) _ _ p.2 in
    let b = word_sound end w p.0.1 q.0 q.1 in
    subst (λ (y : ℕ × List Token). (b : ℕ) × (ts ≡ left_at y.0 ∷ name_at b w ∷ y.1)) (ok_of (p.0.0, q.0) x q.2) (b.0, left_sound end ts p.0 p.1 ∙ ap (λ l. left_at p.0.0 ∷ l) b.1)

spot_when : (end a : ℕ) (n : List ℕ) (ts : List Token) (x : Spot × List Token) (q : Bool) → is_literal n ≡ q → Says (if q then Err (unexpected end (name_at a n ∷ ts)) else Ok (record { at = a; text = n }, ts)) x
    → (name_at a n ∷ ts ≡ name_of x.0 ∷ x.1) × IsUser x.0
spot_when end a n ts x true e h = absurd cc
spot_when end a n ts x false e h =
    let y : Spot × List Token = (record { at = a; text = n }, ts) in
    subst (λ (z : Spot × List Token). (name_at a n ∷ ts ≡ name_of z.0 ∷ z.1) × IsUser z.0) (ok_of y x h) (refl, e)

spot_kind : (end a : ℕ) (kind : Kind) (ts : List Token) (x : Spot × List Token) → spot end (token a kind ∷ ts) ≡ Ok x → (token a kind ∷ ts ≡ name_of x.0 ∷ x.1) × IsUser x.0
unfolding spot
spot_kind end a (k.Name n) ts x h = spot_when end a n ts x (is_literal n) refl h
spot_kind end a _ ts x h = absurd cc

pub spot_sound : (end : ℕ) (ts : List Token) (x : Spot × List Token) → spot end ts ≡ Ok x → (ts ≡ name_of x.0 ∷ x.1) × IsUser x.0
unfolding spot
spot_sound end [] x h = absurd cc
spot_sound end (t ∷ ts) x h = spot_kind end t.at t.kind ts x h

pub spot_read : (end : ℕ) (x : Spot) (rest : List Token) → IsUser x → spot end (name_of x ∷ rest) ≡ Ok (x, rest)
unfolding spot
spot_read end x rest h = rw h refl

pub two_sound : (end : ℕ) (ts : List Token) (x : (Spot × Spot) × List Token) → two_names end ts ≡ Ok x → (ts ≡ name_of x.0.0 ∷ name_of x.0.1 ∷ x.1) × IsUser x.0.0 × IsUser x.0.1
unfolding two_names
two_sound end ts x h =
    let p = bind_ok (spot end ts) _ _ h in
    let q = bind_ok (spot end p.0.1) _ _ p.2 in
    let v = spot_sound end ts p.0 p.1 in
    let w = spot_sound end p.0.1 q.0 q.1 in
    let y : (Spot × Spot) × List Token = ((p.0.0, q.0.0), q.0.1) in
    subst (λ (z : (Spot × Spot) × List Token). (ts ≡ name_of z.0.0 ∷ name_of z.0.1 ∷ z.1) × IsUser z.0.0 × IsUser z.0.1) (ok_of y x q.2) (v.0 ∙ ap (λ l. name_of p.0.0 ∷ l) w.0, v.1, w.1)

pub two_read : (end : ℕ) (x y : Spot) (rest : List Token) → IsUser x → IsUser y → two_names end (name_of x ∷ name_of y ∷ rest) ≡ Ok ((x, y), rest)
unfolding two_names
two_read end x y rest h g = rw (spot_read end x (name_of y ∷ rest) h, spot_read end y rest g) refl

-- ---- head words

-- the tokens begin with a name of this meaning
pub record BeginsWithHead {H : Type 0} (meaning : List ℕ → Option H) (op : H) (ts rest : List Token) : Type 0 where
  pub place : ℕ
  pub name : List ℕ
  pub parts : ts ≡ name_at place name ∷ rest
  pub means : meaning name ≡ Some op

head_when : {H : Type 0} (end a : ℕ) (meaning : List ℕ → Option H) (n : List ℕ) (ts : List Token) (x : H × List Token) (o : Option H) → meaning n ≡ o → head_is end (name_at a n ∷ ts) ts o ≡ Ok x → BeginsWithHead meaning x.0 (name_at a n ∷ ts) x.1
head_when end a meaning n ts x (Some op) e h = subst (λ z. BeginsWithHead meaning z.0 (name_at a n ∷ ts) z.1) (ok_of (op, ts) x h) (record { place = a; name = n; parts = refl; means = e })
head_when end a meaning n ts x None e h = absurd cc

head_kind : {H : Type 0} (end a : ℕ) (meaning : List ℕ → Option H) (kind : Kind) (ts : List Token) (x : H × List Token) → head end meaning (token a kind ∷ ts) ≡ Ok x → BeginsWithHead meaning x.0 (token a kind ∷ ts) x.1
unfolding head
head_kind end a meaning (k.Name n) ts x h = head_when end a meaning n ts x (meaning n) refl h
head_kind end a meaning _ ts x h = absurd cc

pub head_sound : {H : Type 0} (end : ℕ) (meaning : List ℕ → Option H) (ts : List Token) (x : H × List Token) → head end meaning ts ≡ Ok x → BeginsWithHead meaning x.0 ts x.1
unfolding head
head_sound end meaning [] x h = absurd cc
head_sound end meaning (t ∷ ts) x h = head_kind end t.at meaning t.kind ts x h

pub head_read : {H : Type 0} (end b : ℕ) (meaning : List ℕ → Option H) (n : List ℕ) (op : H) (rest : List Token) → meaning n ≡ Some op → head end meaning (name_at b n ∷ rest) ≡ Ok (op, rest)
unfolding head
head_read end b meaning n op rest h = ap (λ o. head_is end (name_at b n ∷ rest) rest o) h

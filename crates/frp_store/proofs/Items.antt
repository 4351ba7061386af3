-- Items of lists that change.
use Rattle.std.proofs.Common.{◌≡◌, ◌⊎◌, ℕ, ◌<◌, ◌≤◌, ◌-◌, ◌++◌, List, [], ◌∷◌, Some, None, map, take, length, length-append, zero, suc, refl, sym, ap, ◌∙◌, arith, inl, inr}
use Rattle.std.specs.Prelude.{slice_get, slice_set}
use Rattle.std.proofs.lemmas.List.{take-append-le}
use Rattle.std.proofs.Math.Seq.{take-length}
use Rattle.frp_store.specs.Items.{updated, but_last, last_of}

-- An item that is changed.

pub length_updated : {A : Type 0} (p : ℕ) (f : A → A) (xs : List A) → length (updated p f xs) ≡ length xs
length_updated p f [] = refl
length_updated zero f (x ∷ xs) = refl
length_updated (suc p) f (x ∷ xs) = ap suc (length_updated p f xs)

pub updated_set : {A : Type 0} (p : ℕ) (f : A → A) (xs : List A) (x : A) → slice_get xs p ≡ Some x → updated p f xs ≡ slice_set xs p (f x)
updated_set p f [] x e = absurd cc
updated_set zero f (y ∷ xs) x e = let s : y ≡ x = cc in ap (λ z. f z ∷ xs) s
updated_set (suc p) f (y ∷ xs) x e = ap (λ l. y ∷ l) (updated_set p f xs x e)

pub updated_past : {A : Type 0} (p : ℕ) (f : A → A) (xs : List A) → length xs ≤ p → updated p f xs ≡ xs
updated_past p f [] l = refl
updated_past zero f (x ∷ xs) l = absurd (omega arith)
updated_past (suc p) f (x ∷ xs) l = ap (λ ys. x ∷ ys) (updated_past p f xs (omega arith))

pub updated_same : {A : Type 0} (p : ℕ) (f : A → A) (xs : List A) (x : A) → slice_get xs p ≡ Some x → f x ≡ x → updated p f xs ≡ xs
updated_same p f [] x e h = refl
updated_same zero f (y ∷ xs) x e h = let s : y ≡ x = cc in ap (λ z. z ∷ xs) (ap f s ∙ h ∙ sym s)
updated_same (suc p) f (y ∷ xs) x e h = ap (λ l. y ∷ l) (updated_same p f xs x e h)

pub updated_twice : {A : Type 0} (p : ℕ) (f g : A → A) (xs : List A) → updated p f (updated p g xs) ≡ updated p (λ x. f (g x)) xs
updated_twice p f g [] = refl
updated_twice zero f g (x ∷ xs) = refl
updated_twice (suc p) f g (x ∷ xs) = ap (λ l. x ∷ l) (updated_twice p f g xs)

-- one change that undoes another
pub updated_back : {A : Type 0} (p : ℕ) (f g : A → A) (xs : List A) (x : A) → slice_get xs p ≡ Some x → f (g x) ≡ x → updated p f (updated p g xs) ≡ xs
updated_back p f g xs x e h = updated_twice p f g xs ∙ updated_same p (λ y. f (g y)) xs x e h

-- what is read after a change
pub updated_cases : {A : Type 0} (p q : ℕ) (f : A → A) (xs : List A) (z : A) → slice_get (updated p f xs) q ≡ Some z
    → ((q ≡ p) × (x : A) × (slice_get xs q ≡ Some x) × (z ≡ f x)) ⊎ ((q ≡ p → ⊥) × (slice_get xs q ≡ Some z))
updated_cases p q f [] z e = absurd cc
updated_cases zero zero f (x ∷ xs) z e = inl (refl, x, refl, cc)
updated_cases zero (suc q) f (x ∷ xs) z e = inr ((λ h. omega arith), e)
updated_cases (suc p) zero f (x ∷ xs) z e = inr ((λ h. omega arith), e)
updated_cases (suc p) (suc q) f (x ∷ xs) z e = elim (updated_cases p q f xs z e) [
  | inl h ↦ inl (ap suc h.0, h.1, h.2, h.3)
  | inr h ↦ inr ((λ k. h.0 (omega arith)), h.1)
]

pub get_updated : {A : Type 0} (p : ℕ) (f : A → A) (xs : List A) (x : A) → slice_get xs p ≡ Some x → slice_get (updated p f xs) p ≡ Some (f x)
get_updated p f [] x e = absurd cc
get_updated zero f (y ∷ xs) x e = let s : y ≡ x = cc in ap (λ z. Some (f z)) s
get_updated (suc p) f (y ∷ xs) x e = get_updated p f xs x e

pub get_updated_other : {A : Type 0} (p q : ℕ) (f : A → A) (xs : List A) → (q ≡ p → ⊥) → slice_get (updated p f xs) q ≡ slice_get xs q
get_updated_other p q f [] d = refl
get_updated_other zero zero f (x ∷ xs) d = absurd (d refl)
get_updated_other zero (suc q) f (x ∷ xs) d = refl
get_updated_other (suc p) zero f (x ∷ xs) d = refl
get_updated_other (suc p) (suc q) f (x ∷ xs) d = get_updated_other p q f xs (λ e. d (ap suc e))

-- what a list is mapped to, once an item is changed
pub map_updated_kept : {A B : Type 0} (m : A → B) (p : ℕ) (f : A → A) (xs : List A) → ((x : A) → m (f x) ≡ m x) → map m (updated p f xs) ≡ map m xs
map_updated_kept m p f [] h = refl
map_updated_kept m zero f (x ∷ xs) h = ap (λ b. b ∷ map m xs) (h x)
map_updated_kept m (suc p) f (x ∷ xs) h = ap (λ l. m x ∷ l) (map_updated_kept m p f xs h)

pub map_updated_set : {A B : Type 0} (m : A → B) (p : ℕ) (f : A → A) (xs : List A) (b : B) → ((x : A) → m (f x) ≡ b) → map m (updated p f xs) ≡ slice_set (map m xs) p b
map_updated_set m p f [] b h = refl
map_updated_set m zero f (x ∷ xs) b h = ap (λ c. c ∷ map m xs) (h x)
map_updated_set m (suc p) f (x ∷ xs) b h = ap (λ l. m x ∷ l) (map_updated_set m p f xs b h)

-- one change before a map and another after it
pub map_updated : {A B : Type 0} (m : A → B) (p : ℕ) (f : A → A) (g : B → B) (xs : List A) (x : A) → slice_get xs p ≡ Some x → g (m (f x)) ≡ m x
    → updated p g (map m (updated p f xs)) ≡ map m xs
map_updated m p f g [] x e h = refl
map_updated m zero f g (y ∷ xs) x e h = let s : y ≡ x = cc in ap (λ b. b ∷ map m xs) (ap (λ z. g (m (f z))) s ∙ h ∙ sym (ap m s))
map_updated m (suc p) f g (y ∷ xs) x e h = ap (λ l. m y ∷ l) (map_updated m p f g xs x e h)

pub map_updated_same : {A B : Type 0} (m : A → B) (p : ℕ) (f : A → A) (xs : List A) (x : A) → slice_get xs p ≡ Some x → m (f x) ≡ m x → map m (updated p f xs) ≡ map m xs
map_updated_same m p f [] x e h = refl
map_updated_same m zero f (y ∷ xs) x e h = let s : y ≡ x = cc in ap (λ b. b ∷ map m xs) (ap (λ z. m (f z)) s ∙ h ∙ sym (ap m s))
map_updated_same m (suc p) f (y ∷ xs) x e h = ap (λ l. m y ∷ l) (map_updated_same m p f xs x e h)

-- An item more.

pub but_last_pushed : {A : Type 0} (xs : List A) (x : A) → but_last (xs ++ x ∷ []) ≡ xs
but_last_pushed xs x =
    let n : length (xs ++ x ∷ []) - 1 ≡ length xs = (let e = length-append xs (x ∷ []) in omega arith) in
    ap (λ k. take k (xs ++ x ∷ [])) n ∙ take-append-le (length xs) xs (x ∷ []) (omega arith) ∙ take-length xs

pub get_pushed : {A : Type 0} (xs : List A) (x : A) → slice_get (xs ++ x ∷ []) (length xs) ≡ Some x
get_pushed [] x = refl
get_pushed (y ∷ xs) x = get_pushed xs x

pub last_pushed : {A : Type 0} (xs : List A) (x : A) → last_of (xs ++ x ∷ []) ≡ Some x
last_pushed xs x =
    let n : length (xs ++ x ∷ []) - 1 ≡ length xs = (let e = length-append xs (x ∷ []) in omega arith) in
    ap (slice_get (xs ++ x ∷ [])) n ∙ get_pushed xs x

pub get_more : {A : Type 0} (xs ys : List A) (p : ℕ) (x : A) → slice_get xs p ≡ Some x → slice_get (xs ++ ys) p ≡ Some x
get_more [] ys p x e = absurd cc
get_more (y ∷ xs) ys zero x e = e
get_more (y ∷ xs) ys (suc p) x e = get_more xs ys p x e

pub pushed_cases : {A : Type 0} (xs : List A) (x z : A) (p : ℕ) → slice_get (xs ++ x ∷ []) p ≡ Some z → (slice_get xs p ≡ Some z) ⊎ ((p ≡ length xs) × (z ≡ x))
pushed_cases [] x z zero e = inr (refl, cc)
pushed_cases [] x z (suc p) e = absurd cc
pushed_cases (y ∷ xs) x z zero e = inl e
pushed_cases (y ∷ xs) x z (suc p) e = elim (pushed_cases xs x z p e) [
  | inl h ↦ inl h
  | inr h ↦ inr (ap suc h.0, h.1)
]

pub get_past : {A : Type 0} (xs : List A) (p : ℕ) → length xs ≤ p → slice_get xs p ≡ None
get_past [] p l = refl
get_past (x ∷ xs) zero l = absurd (omega arith)
get_past (x ∷ xs) (suc p) l = get_past xs p (omega arith)

-- where there is an item within a list
pub got : {A : Type 0} (xs : List A) (p : ℕ) → p < length xs → (x : A) × (slice_get xs p ≡ Some x)
got [] p l = absurd (omega arith)
got (x ∷ xs) zero l = (x, refl)
got (x ∷ xs) (suc p) l = got xs p (omega arith)

-- a list that is not empty has a last item
pub snoc : {A : Type 0} (xs : List A) → 0 < length xs → (ys : List A) × (y : A) × (xs ≡ ys ++ y ∷ [])
snoc [] l = absurd (omega arith)
snoc (x ∷ []) l = ([], x, refl)
snoc (x ∷ y ∷ xs) l = let s = snoc (y ∷ xs) (omega arith) in (x ∷ s.0, s.1, ap (λ l. x ∷ l) s.2)

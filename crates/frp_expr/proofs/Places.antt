-- Where a name is found among names.
use Rattle.std.proofs.Common.{◌≡◌, ℕ, zero, suc, ◌+◌, ◌<◌, ◌≤◌, Bool, true, false, List, [], ◌∷◌, ◌++◌, length, map, take, get_or, Option, Some, None, refl, sym, ap, ◌∙◌, subst, arith}
use Rattle.std.specs.Prelude.{slice_get, IfSome, unwrap_or, option_map, MatchOption, if◌then◌else◌}
use Rattle.std.proofs.lemmas.List.{take_more, take_all, map-append, length-map, length-take-le, length-append, get_or-append-add}
use Rattle.std.proofs.Math.ListN.{get_or-append}
use Rattle.std.proofs.lemmas.Option.{slice_get_past, slice_get-get_or, slice_get-map}
use Rattle.frp_base.specs.declared.text.Text.{Text}
use Rattle.frp_expr.specs.Scope.{text_eq, or_here, place_of, number_of, Named, Fun, names_of, types_of, fun_names}

-- the last of more names is the last of those behind, or else of those in front
abbrev pub behind : Option ℕ → ℕ → Option ℕ → Option ℕ
behind (Some j) n front = Some (n + j)
behind None n front = front

or_here_behind : (b : Option ℕ) (n : ℕ) (f : Option ℕ) (here : Bool) → or_here (behind b n f) here ≡ behind b (suc n) (or_here f here)
or_here_behind (Some j) n f here = ap Some (omega arith)
or_here_behind None n f here = refl

none_in_front : (b : Option ℕ) → b ≡ behind b 0 None
none_in_front (Some j) = ap Some (omega arith)
none_in_front None = refl

pub place_of-append : (x : Text) (ns bs : List Text) → place_of x (ns ++ bs) ≡ behind (place_of x bs) (length ns) (place_of x ns)
place_of-append x [] bs = none_in_front (place_of x bs)
place_of-append x (n ∷ ns) bs = rw (place_of-append x ns bs) (or_here_behind (place_of x bs) (length ns) (place_of x ns) (text_eq n x))

last_here : (here : Bool) (n i : ℕ) (f : Option ℕ) → n ≡ i → behind (or_here None here) n f ≡ (if here then Some i else f)
last_here true n i f e = ap Some (omega arith)
last_here false n i f e = refl

-- one name more
pub place_more : {A : Type 0} (f : A → Text) (x : Text) (ns : List A) (i : ℕ) (d : A) → i < length ns
    → place_of x (map f (take (i + 1) ns)) ≡ (if text_eq (f (get_or ns i d)) x then Some i else place_of x (map f (take i ns)))
place_more f x ns i d h =
    let e : length (map f (take i ns)) ≡ i = length-map (take i ns) f ∙ length-take-le i ns (omega arith) in
    ap (λ ms. place_of x (map f ms)) (take_more ns i d h) ∙ ap (place_of x) (map-append f (take i ns) (get_or ns i d ∷ []))
    ∙ place_of-append x (map f (take i ns)) (f (get_or ns i d) ∷ []) ∙ last_here (text_eq (f (get_or ns i d)) x) _ i _ e

or_here_within : (p : Option ℕ) (n : ℕ) (here : Bool) → IfSome p (λ i. i < n) → IfSome (or_here p here) (λ i. i < suc n)
or_here_within (Some i) n here h = omega arith
or_here_within None n true h = omega arith
or_here_within None n false h = tt

-- a name is found within the names
pub places_within : (x : Text) (ns : List Text) → IfSome (place_of x ns) (λ i. i < length ns)
places_within x [] = tt
places_within x (n ∷ ns) = or_here_within (place_of x ns) (length ns) (text_eq n x) (places_within x ns)

-- what is found among one more
pub found_more : {A : Type 0} (f : A → Text) (x : Text) (ns : List A) (i : ℕ) (n : A) (here : Bool) (found new : Option ℕ) → i < length ns → here ≡ text_eq (f n) x → n ≡ get_or ns i n
    → place_of x (map f (take i ns)) ≡ found → new ≡ (if here then Some i else found) → place_of x (map f (take (i + 1) ns)) ≡ new
found_more f x ns i n here found new h e is p q = place_more f x ns i n h ∙ rw (← is, ← e, p, q) refl

-- among all
pub found_all : {A : Type 0} (f : A → Text) (x : Text) (ns : List A) (i : ℕ) (found : Option ℕ) → length ns ≤ i → place_of x (map f (take i ns)) ≡ found → place_of x (map f ns) ≡ found
found_all f x ns i found h p = sym (ap (λ ms. place_of x (map f ms)) (take_all i ns h)) ∙ p

pub found_within : {A : Type 0} (f : A → Text) (x : Text) (ns : List A) (found : Option ℕ) → place_of x (map f ns) ≡ found → IfSome found (λ i. i < length ns)
found_within f x ns found p = subst (λ (o : Option ℕ). IfSome o (λ i. i < length ns)) p (subst (λ (n : ℕ). IfSome (place_of x (map f ns)) (λ i. i < n)) (length-map ns f) (places_within x (map f ns)))

-- names in scope, and then those that are bound
place_both : (x : Text) (ns bs : List Named) → place_of x (names_of (ns ++ bs)) ≡ behind (place_of x (names_of bs)) (length ns) (place_of x (names_of ns))
place_both x ns bs = ap (place_of x) (map-append (λ (n : Named). n.0) ns bs) ∙ place_of-append x (names_of ns) (names_of bs) ∙ ap (λ n. behind (place_of x (names_of bs)) n (place_of x (names_of ns))) (length-map ns (λ (n : Named). n.0))

number_both : (x : Text) (ns bs : List Named) (p q : Option ℕ) → place_of x (names_of bs) ≡ p → place_of x (names_of ns) ≡ q → number_of x (names_of (ns ++ bs)) ≡ unwrap_or (behind p (length ns) q) (length (names_of (ns ++ bs)))
number_both x ns bs p q e f = rw (place_both x ns bs, e, f) refl

type_at : (ns : List Named) (i : ℕ) (d : Named) → i < length ns → slice_get (types_of ns) i ≡ Some (get_or ns i d).1
type_at ns i d h = slice_get-map (λ (n : Named). n.1) ns i ∙ ap (option_map (λ (n : Named). n.1)) (slice_get-get_or ns i d h)

pub in_bound : (x : Text) (ns bs : List Named) (j : ℕ) (d : Named) → place_of x (names_of bs) ≡ Some j → j < length bs
    → (number_of x (names_of (ns ++ bs)) ≡ length ns + j) × (slice_get (types_of (ns ++ bs)) (length ns + j) ≡ Some (get_or bs j d).1)
in_bound x ns bs j d e h = (
  number_both x ns bs (Some j) (place_of x (names_of ns)) e refl,
  type_at (ns ++ bs) (length ns + j) d (rw (length-append ns bs) (omega arith)) ∙ ap (λ (n : Named). Some n.1) (get_or-append-add ns bs j d),
)

pub in_scope : (x : Text) (ns bs : List Named) (i : ℕ) (d : Named) → place_of x (names_of bs) ≡ None → place_of x (names_of ns) ≡ Some i → i < length ns
    → (number_of x (names_of (ns ++ bs)) ≡ i) × (slice_get (types_of (ns ++ bs)) i ≡ Some (get_or ns i d).1)
in_scope x ns bs i d e f h = (
  number_both x ns bs None (Some i) e f,
  type_at (ns ++ bs) i d (rw (length-append ns bs) (omega arith)) ∙ ap (λ (n : Named). Some n.1) (get_or-append ns bs d i h),
)

pub in_neither : (x : Text) (ns bs : List Named) → place_of x (names_of bs) ≡ None → place_of x (names_of ns) ≡ None → slice_get (types_of (ns ++ bs)) (number_of x (names_of (ns ++ bs))) ≡ None
in_neither x ns bs e f =
    let l : length (names_of (ns ++ bs)) ≡ length (types_of (ns ++ bs)) = length-map (ns ++ bs) (λ (n : Named). n.0) ∙ sym (length-map (ns ++ bs) (λ (n : Named). n.1)) in
    ap (slice_get (types_of (ns ++ bs))) (number_both x ns bs None None e f) ∙ slice_get_past (types_of (ns ++ bs)) (length (names_of (ns ++ bs))) (omega (arith, l))

abbrev pub FunFound : Text → List Fun → Option ℕ → Type 0
FunFound x fs found = MatchOption found (slice_get fs (number_of x (fun_names fs)) ≡ None) (λ i. (number_of x (fun_names fs) ≡ i) × (i < length fs))

-- a function is found within the functions, or is none of them
pub fun_found : (x : Text) (fs : List Fun) (found : Option ℕ) → place_of x (fun_names fs) ≡ found → FunFound x fs found
fun_found x fs (Some i) p = (rw p refl, found_within (λ (f : Fun). f.0) x fs (Some i) p)
fun_found x fs None p =
    ap (λ (o : Option ℕ). slice_get fs (unwrap_or o (length (fun_names fs)))) p ∙ slice_get_past fs (length (fun_names fs)) (omega (arith, length-map fs (λ (f : Fun). f.0)))

-- among names alone
map-same : (ns : List Text) → map (λ (n : Text). n) ns ≡ ns
map-same [] = refl
map-same (n ∷ ns) = ap (λ ms. n ∷ ms) (map-same ns)

pub text_more : (x : Text) (ns : List Text) (i : ℕ) (n : Text) (here : Bool) (found new : Option ℕ) → i < length ns → here ≡ text_eq n x → n ≡ get_or ns i n
    → place_of x (take i ns) ≡ found → new ≡ (if here then Some i else found) → place_of x (take (i + 1) ns) ≡ new
text_more x ns i n here found new h e is p q =
    ap (place_of x) (sym (map-same (take (i + 1) ns))) ∙ found_more (λ (n : Text). n) x ns i n here found new h e is (ap (place_of x) (map-same (take i ns)) ∙ p) q

pub text_all : (x : Text) (ns : List Text) (i : ℕ) (found : Option ℕ) → length ns ≤ i → place_of x (take i ns) ≡ found → place_of x ns ≡ found
text_all x ns i found h p = sym (ap (place_of x) (take_all i ns h)) ∙ p

pub text_within : (x : Text) (ns : List Text) (found : Option ℕ) → place_of x ns ≡ found → IfSome found (λ i. i < length ns)
text_within x ns found p = subst (λ (o : Option ℕ). IfSome o (λ i. i < length ns)) p (places_within x ns)

-- the number that a name stands for, among names in scope and those that are bound
number_among : (x : Text) (ns : List Named) (bs : List Text) (p q : Option ℕ) → place_of x bs ≡ p → place_of x (names_of ns) ≡ q
    → number_of x (names_of ns ++ bs) ≡ unwrap_or (behind p (length ns) q) (length ns + length bs)
number_among x ns bs p q e f =
    (λ i. unwrap_or (place_of-append x (names_of ns) bs i) (length-append (names_of ns) bs i))
    ∙ rw (e, f, length-map ns (λ (n : Named). n.0)) refl

pub number_bound : (x : Text) (ns : List Named) (bs : List Text) (j : ℕ) → place_of x bs ≡ Some j → number_of x (names_of ns ++ bs) ≡ length ns + j
number_bound x ns bs j e = number_among x ns bs (Some j) (place_of x (names_of ns)) e refl

pub number_scope : (x : Text) (ns : List Named) (bs : List Text) (i : ℕ) → place_of x bs ≡ None → place_of x (names_of ns) ≡ Some i → number_of x (names_of ns ++ bs) ≡ i
number_scope x ns bs i e f = number_among x ns bs None (Some i) e f

pub number_neither : (x : Text) (ns : List Named) (bs : List Text) → place_of x bs ≡ None → place_of x (names_of ns) ≡ None → number_of x (names_of ns ++ bs) ≡ length ns + length bs
number_neither x ns bs e f = number_among x ns bs None None e f

no_past : (fs : List Fun) (i : ℕ) → i < length fs → slice_get fs i ≡ None → ⊥
no_past [] i h q = omega arith
no_past (f ∷ fs) zero h q = cc
no_past (f ∷ fs) (suc i) h q = no_past fs i (omega arith) q

pub past_functions : (x : Text) (fs : List Fun) → slice_get fs (number_of x (fun_names fs)) ≡ None → number_of x (fun_names fs) ≡ length fs
past_functions x fs e = by_place (place_of x (fun_names fs)) refl where
  by_place : (o : Option ℕ) → place_of x (fun_names fs) ≡ o → number_of x (fun_names fs) ≡ length fs
  by_place None p = ap (λ (o : Option ℕ). unwrap_or o (length (fun_names fs))) p ∙ length-map fs (λ (f : Fun). f.0)
  by_place (Some i) p =
      let h : i < length fs = found_within (λ (f : Fun). f.0) x fs (Some i) p in
      let q : slice_get fs i ≡ None = sym (ap (λ (o : Option ℕ). slice_get fs (unwrap_or o (length (fun_names fs)))) p) ∙ e in
      absurd (no_past fs i h q)

-- A search at its start and at its end.
use Rattle.std.proofs.Common.{◌≡◌, ℕ, ◌<◌, ◌≤◌, ◌+◌, true, false, List, [], ◌∷◌, length, get_or, replicate, suc, zero, refl, sym, ap, ◌∙◌, subst, arith, inl, inr}
use Rattle.std.proofs.lemmas.Bool.{cases_lt}
use Rattle.std.proofs.lemmas.List.{get_or_past, get_or-replicate, length-replicate}
use Rattle.std.proofs.lemmas.List.Sums.{sum_by-cons}
use Rattle.frp_order.specs.declared.mark.Mark.{Mark}
use Rattle.frp_order.specs.declared.mark.Mark.TheVariants.{Unseen, Open, Done}
use Rattle.frp_order.specs.Rings.{row, IsLinked, IsOrder}
use Rattle.frp_order.specs.Search.{is_unseen, is_done, mark_at, State, one_unseen, unseen, unmet, IsSearch}
use Rattle.frp_order.proofs.Marks.{mark_inside, done_number, seen_not_open}

-- Nothing is met at first.

all_unseen : (n p : ℕ) → mark_at (replicate n Unseen) p ≡ Unseen
all_unseen n p = elim (cases_lt p n) [
  | inl h ↦ get_or-replicate n p Unseen Unseen h
  | inr h ↦ get_or_past (replicate n Unseen) p Unseen (subst (λ m. m ≤ p) (sym (length-replicate n Unseen)) h)
]

count_unseen : (n : ℕ) → unseen (replicate n Unseen) ≡ n
count_unseen zero = refl
count_unseen (suc n) =
    let e = count_unseen n in
    let step : unseen (replicate (suc n) Unseen) ≡ 1 + unseen (replicate n Unseen) = sum_by-cons one_unseen Unseen (replicate n Unseen) in
    omega arith

pub starts : (rows : List (List ℕ)) (n : ℕ) → n ≡ length rows → IsSearch rows (unmet n)
starts rows n e = record {
  marked = length-replicate n Unseen ∙ e;
  total = let c = count_unseen n in omega arith;
  opens = λ j h. absurd (omega arith);
  opened = λ p j h. absurd (let k : Unseen ≡ Open j = sym (all_unseen n p) ∙ h in cc);
  passed = λ j h. absurd (omega arith);
  leads = λ j h. absurd (omega arith);
  placed = λ p k h. absurd (let j : Unseen ≡ Done k = sym (all_unseen n p) ∙ h in cc);
  numbered = λ k h. absurd (omega arith);
  back = λ p q k h l. absurd (let j : Unseen ≡ Done k = sym (all_unseen n p) ∙ h in cc);
}

-- Where the path has come to its end, a place that was met is done with.
pub met_is_done : (rows : List (List ℕ)) (s : State) → IsSearch rows s → s.path ≡ [] → (p : ℕ) → is_unseen (mark_at s.marks p) ≡ false → is_done (mark_at s.marks p) ≡ true
met_is_done rows s search e p h =
    seen_not_open (mark_at s.marks p) h (λ j o. let l : j < length s.path = (search.opened p j o).0 in let z : length s.path ≡ 0 = ap length e in absurd (omega arith))

-- Where all places are done with, they are in order.

none_unseen : (marks : List Mark) → ((p : ℕ) → p < length marks → is_done (mark_at marks p) ≡ true) → unseen marks ≡ 0
none_unseen [] f = refl
none_unseen (m ∷ marks) f =
    let rest : unseen marks ≡ 0 = none_unseen marks (λ p h. f (suc p) (omega arith)) in
    let here : m ≡ Done (done_number m (f 0 (omega arith))).0 = (done_number m (f 0 (omega arith))).1 in
    let none : one_unseen m ≡ 0 = ap one_unseen here in
    let step : unseen (m ∷ marks) ≡ one_unseen m + unseen marks = sum_by-cons one_unseen m marks in
    omega arith

abbrev pub number_of : Mark → ℕ
number_of Unseen = 0
number_of (Open j) = 0
number_of (Done k) = k

module _ (rows : List (List ℕ)) (s : State) (search : IsSearch rows s) (path : s.path ≡ []) (all : (p : ℕ) → p < length rows → is_done (mark_at s.marks p) ≡ true) where
  abbrev number : ℕ → ℕ
  number p = number_of (mark_at s.marks p)

  numbers : (p : ℕ) → p < length rows → mark_at s.marks p ≡ Done (number p)
  numbers p h = let d = done_number (mark_at s.marks p) (all p h) in d.1 ∙ ap Done (ap number_of (sym d.1))

  in_rows : (p q : ℕ) → IsLinked rows p q → p < length rows
  in_rows p q (i, a, e) = elim (cases_lt p (length rows)) [
    | inl h ↦ h
    | inr h ↦ let z : row rows p ≡ [] = get_or_past rows p [] h in let l : length (row rows p) ≡ 0 = ap length z in absurd (omega arith)
  ]

  pub is_order : IsOrder rows s.order
  is_order = record {
    number = number;
    whole =
        let u : unseen s.marks ≡ 0 = none_unseen s.marks (λ p h. all p (subst (λ n. p < n) search.marked h)) in
        let l : length s.path ≡ 0 = ap length path in
        let t = search.total in
        omega arith;
    placed = λ p h. search.placed p (number p) (numbers p h);
    numbered = λ i h.
        let d = search.numbered i h in
        (subst (λ n. get_or s.order i 0 < n) search.marked (mark_inside s.marks (get_or s.order i 0) (λ e. let j : Unseen ≡ Done i = sym e ∙ d in cc)), ap number_of d);
    back = λ a b l.
        let o = search.back a b (number a) (numbers a (in_rows a b l)) l in
        let e : number b ≡ o.0 = ap number_of o.1 in
        subst (λ m. m < number a) (sym e) o.2;
  }

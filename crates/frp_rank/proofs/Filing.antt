-- Edges and the links that they are.
use Rattle.std.proofs.Common.{◌≡◌, ◌≢◌, ℕ, ◌+◌, ◌<◌, ◌≤◌, Bool, true, false, cond, eqb, ◌&&◌, List, [], ◌∷◌, ◌++◌, length, get_or, set, suc, zero, refl, sym, ap, ◌∙◌, subst, arith, inl, inr, ◌⊎◌, Some}
use mathlib.Core.Bool.{true≢false}
use Rattle.std.specs.List.{slice_get}
use Rattle.std.proofs.lemmas.Option.{get_or_from_slice_get, slice_get_within}
use Rattle.std.proofs.lemmas.Grind.{common_steps}
use Rattle.std.proofs.lemmas.Bool.{cases_eq}
use Rattle.std.proofs.lemmas.Bool.Decides.{nat_tests}
use Rattle.frp_base.proofs.Booleans.{bool_cases}
use Rattle.frp_rank.specs.declared.edge.Edge.{Edge}
use Rattle.frp_rank.specs.Chain.{Link, is_linked}
use Rattle.frp_rank.specs.Graph.{live_links, no_edge, edge_at, start_of, end_of, latest}
use Rattle.frp_rank.proofs.Paths.{if_more}

-- The last edge of a place, and the one before it.

pub latest_le : (key : ℕ → ℕ) (n k : ℕ) → latest key n k ≤ n
latest_le key zero k = omega arith
latest_le key (suc n) k = let e = latest_le key n k in elim (cases_eq (key n) k) [ inl p ↦ grind (arith, nat_tests) | inr p ↦ grind (arith, nat_tests, e) ]

pub latest_fixed : (key : ℕ → ℕ) (n k : ℕ) → latest key (latest key n k) k ≡ latest key n k
latest_fixed key zero k = refl
latest_fixed key (suc n) k = let e = latest_fixed key n k in elim (cases_eq (key n) k) [ inl p ↦ grind (arith, nat_tests) | inr p ↦ grind (arith, nat_tests, e) ]

pub latest_has : (key : ℕ → ℕ) (n k : ℕ) → latest key (suc n) k ≡ suc n → key n ≡ k
latest_has key n k h = elim (cases_eq (key n) k) [ inl p ↦ p | inr p ↦ let e = latest_le key n k in absurd (grind (arith, nat_tests, e)) ]

pub latest_none : (key : ℕ → ℕ) (n k i : ℕ) → latest key n k ≤ i → i < n → key i ≢ k
latest_none key zero k i h l = absurd (omega arith)
latest_none key (suc n) k i h l = λ e. elim (cases_eq (key n) k) [
  | inl p ↦ absurd (grind (arith, nat_tests))
  | inr p ↦ elim (cases_eq i n) [ inl q ↦ p (subst (λ t. key t ≡ k) q e) | inr q ↦ latest_none key n k i (grind (arith, nat_tests)) (omega arith) e ]
]

-- only the keys below n count
pub latest_same : (key other : ℕ → ℕ) (n k : ℕ) → ((i : ℕ) → i < n → key i ≡ other i) → latest key n k ≡ latest other n k
latest_same key other zero k h = refl
latest_same key other (suc n) k h =
    let e : latest key n k ≡ latest other n k = latest_same key other n k (λ i l. h i (omega arith)) in
    let f : key n ≡ other n = h n (omega arith) in
    ap (λ t. cond (eqb t k) (suc n) (latest key n k)) f ∙ ap (λ t. cond (eqb (other n) k) (suc n) t) e

-- Links of live edges.

pub read_edge : (edges : List Edge) (i : ℕ) (e : Edge) → slice_get edges i ≡ Some e → edge_at edges i ≡ e
read_edge edges i e h = get_or_from_slice_get edges i e no_edge h

-- the links with those of one edge more
head_linked : (x : Edge) (ls : List Link) (a b : ℕ) → is_linked (cond x.live ((record { from = x.from; to = x.to }) ∷ ls) ls) a b ≡ cond (x.live && (eqb x.from a && eqb x.to b)) true (is_linked ls a b)
head_linked x ls a b = elim (bool_cases x.live) [ inl t ↦ rw t refl | inr f ↦ rw f refl ]

-- a live edge is a link
pub linked_edge : (edges : List Edge) (i : ℕ) → i < length edges → (edge_at edges i).live ≡ true → is_linked (live_links edges) (start_of edges i) (end_of edges i) ≡ true
linked_edge [] i h l = absurd (omega arith)
linked_edge (e ∷ es) zero h l = head_linked e (live_links es) e.from e.to ∙ grind (arith, nat_tests, l)
linked_edge (e ∷ es) (suc i) h l = head_linked e (live_links es) (start_of es i) (end_of es i) ∙ if_more (e.live && (eqb e.from (start_of es i) && eqb e.to (end_of es i))) (is_linked (live_links es) (start_of es i) (end_of es i)) (linked_edge es i (omega arith) l)

-- A walk over the edges of one place, from the last to the first.

-- the edge before stands lower, is found in the same way, and none of this place stands between
pub record Steps (key : ℕ → ℕ) (at before k : ℕ) : Type 0 where
  pub lower : before < at
  pub last : latest key before k ≡ before
  pub none : (i : ℕ) → before ≤ i → i < at → key i ≡ k → i + 1 ≡ at

pub steps : (key : ℕ → ℕ) (n k : ℕ) → latest key (suc n) k ≡ suc n → Steps key (suc n) (latest key n k) k
steps key n k h = record {
  lower = let e = latest_le key n k in omega arith;
  last = latest_fixed key n k;
  none = λ i a b e. elim (cases_eq i n) [ inl q ↦ omega arith | inr q ↦ absurd (latest_none key n k i a (omega arith) e) ];
}

pub steps_from : (key : ℕ → ℕ) (at m k : ℕ) → at ≡ suc m → latest key at k ≡ at → (key m ≡ k) × Steps key at (latest key m k) k
steps_from key at m k e h =
    let f : latest key (suc m) k ≡ suc m = subst (λ t. latest key t k ≡ t) e h in
    (latest_has key m k f, subst (λ t. Steps key t (latest key m k) k) (sym e) (steps key m k f))

-- An element that is read by an index.

pub read_at : {X : Type 0} (xs : List X) (i : ℕ) (d x : X) → i < length xs → x ≡ get_or xs i x → get_or xs i d ≡ x
read_at [] i d x h e = absurd (omega arith)
read_at (y ∷ ys) zero d x h e = sym e
read_at (y ∷ ys) (suc i) d x h e = read_at ys i d x (omega arith) e

-- the number of a live edge between two places
abbrev pub LiveEdge : List Edge → ℕ → ℕ → Type 0
LiveEdge edges a b = (i : ℕ) × (i < length edges) × ((edge_at edges i).live ≡ true) × (start_of edges i ≡ a) × (end_of edges i ≡ b)

later_edge : (e : Edge) (es : List Edge) (a b : ℕ) → LiveEdge es a b → LiveEdge (e ∷ es) a b
later_edge e es a b r = (suc r.0, omega (arith, r.1), r.2, r.3, r.4)

first_edge : (e : Edge) (es : List Edge) (a b : ℕ) → (is_linked (live_links es) a b ≡ true → LiveEdge es a b)
    → cond (e.live && (eqb e.from a && eqb e.to b)) true (is_linked (live_links es) a b) ≡ true → (e.live ≡ true) ⊎ (e.live ≡ false) → (e.from ≡ a) ⊎ (e.from ≢ a) → (e.to ≡ b) ⊎ (e.to ≢ b) → LiveEdge (e ∷ es) a b
first_edge e es a b f k (inl t) (inl p) (inl q) = (0, omega arith, t, p, q)
first_edge e es a b f k (inl t) (inl p) (inr q) = later_edge e es a b (f (grind (arith, nat_tests, k)))
first_edge e es a b f k (inl t) (inr p) q = later_edge e es a b (f (grind (arith, nat_tests, k)))
first_edge e es a b f k (inr t) p q = later_edge e es a b (f (grind (arith, nat_tests, k, t)))

-- a link is that of a live edge
pub edge_of_link : (edges : List Edge) (a b : ℕ) → is_linked (live_links edges) a b ≡ true → LiveEdge edges a b
edge_of_link [] a b h = absurd (true≢false (sym h))
edge_of_link (e ∷ es) a b h = first_edge e es a b (edge_of_link es a b) (sym (head_linked e (live_links es) a b) ∙ h) (bool_cases e.live) (cases_eq e.from a) (cases_eq e.to b)

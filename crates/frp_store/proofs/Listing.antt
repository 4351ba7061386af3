-- What is kept of the nodes that depend on one.
use Rattle.std.proofs.Common.{◌≡◌, ℕ, ◌<◌, ◌≤◌, ◌+◌, Bool, true, false, List, [], ◌∷◌, Option, Some, None, length, zero, suc, refl, sym, ap, ◌∙◌, subst, arith}
use Rattle.std.specs.Prelude.{◌==◌, ◌||◌, slice_get, if◌then◌else◌}
use Rattle.std.specs.List.{AllByRecursion}
use Rattle.std.specs.Bool.{Decides}
use Rattle.std.specs.Cmp.{unsigned_Decides}
use Rattle.frp_base.specs.declared.name.Name.{Name}
use Rattle.frp_graph.specs.declared.trace.Node.{Node}
use Rattle.frp_store.specs.declared.edges.Dependents.{Dependents}
use Rattle.frp_store.specs.State.{State}
use Rattle.frp_store.specs.Lists.{Lists, state_in, nodes_of, targets_of}
use Rattle.frp_store.specs.Places.{IsRising, ArePlaces, has}
use Rattle.frp_store.specs.Dependents.{is_linked_to, is_watching, is_turned_to, dependents_from, dependents_at, dependents_of, watchers_from, watchers_at, watchers_of}
use Rattle.frp_store.specs.Edges.{AreListed, IsRoomier, depends, depends_on, watches, watches_on}
use Rattle.frp_store.specs.Kept.{HasRoom}
use Rattle.frp_store.proofs.Rising.{places_same, none_above}

-- Those that are counted from a place on.

above : (b i : ℕ) (xs : List Node) (ts : List (Option ℕ)) (n : Name) (p : ℕ) → b < i → AllByRecursion (λ q. b < q) (dependents_from i xs ts n p)
above b i [] ts n p l = tt
above b i (x ∷ xs) [] n p l = tt
above b i (x ∷ xs) (t ∷ ts) n p l = by (is_linked_to x.shape n || is_turned_to t p) (above b (i + 1) xs ts n p (omega arith)) where
  by : (c : Bool) → AllByRecursion (λ q. b < q) (dependents_from (i + 1) xs ts n p)
      → AllByRecursion (λ q. b < q) (if c then i ∷ dependents_from (i + 1) xs ts n p else dependents_from (i + 1) xs ts n p)
  by true h = (l, h)
  by false h = h

from_rising : (i : ℕ) (xs : List Node) (ts : List (Option ℕ)) (n : Name) (p : ℕ) → IsRising (dependents_from i xs ts n p)
from_rising i [] ts n p = tt
from_rising i (x ∷ xs) [] n p = tt
from_rising i (x ∷ xs) (t ∷ ts) n p = by (is_linked_to x.shape n || is_turned_to t p) (from_rising (i + 1) xs ts n p) where
  by : (c : Bool) → IsRising (dependents_from (i + 1) xs ts n p) → IsRising (if c then i ∷ dependents_from (i + 1) xs ts n p else dependents_from (i + 1) xs ts n p)
  by true h = (above i (i + 1) xs ts n p (omega arith), h)
  by false h = h

-- whether a node, turned like this, depends on that of a name and place
abbrev test_on : Option Node → Option (Option ℕ) → Name → ℕ → Bool
test_on None t n p = false
test_on (Some x) None n p = false
test_on (Some x) (Some t) n p = is_linked_to x.shape n || is_turned_to t p

not_same : (a b : ℕ) → (a ≡ b → ⊥) → a == b ≡ false
not_same a b d = by (a == b) (unsigned_Decides a b) where
  by : (c : Bool) → Decides c (a ≡ b) → c ≡ false
  by true e = absurd (d (e.0 refl))
  by false e = refl

is_same : (a b : ℕ) → a ≡ b → a == b ≡ true
is_same a b h = (unsigned_Decides a b).1 h

from_has : (i : ℕ) (xs : List Node) (ts : List (Option ℕ)) (n : Name) (p k : ℕ) → has (dependents_from i xs ts n p) (i + k) ≡ test_on (slice_get xs k) (slice_get ts k) n p
from_has i [] ts n p k = refl
from_has i (x ∷ xs) [] n p zero = refl
from_has i (x ∷ xs) [] n p (suc k) = by (slice_get xs k) where
  by : (o : Option Node) → false ≡ test_on o (slice_get {X = Option ℕ} [] (suc k)) n p
  by None = refl
  by (Some y) = refl
from_has i (x ∷ xs) (t ∷ ts) n p zero = by (is_linked_to x.shape n || is_turned_to t p) where
  later : has (dependents_from (i + 1) xs ts n p) (i + 0) ≡ false
  later = none_above (i + 0) (dependents_from (i + 1) xs ts n p) (above (i + 0) (i + 1) xs ts n p (omega arith))

  by : (c : Bool) → has (if c then i ∷ dependents_from (i + 1) xs ts n p else dependents_from (i + 1) xs ts n p) (i + 0) ≡ c
  by true = rw (is_same i (i + 0) (omega arith)) refl
  by false = later
from_has i (x ∷ xs) (t ∷ ts) n p (suc k) =
    by (is_linked_to x.shape n || is_turned_to t p) (let e : i + suc k ≡ (i + 1) + k = omega arith in ap (has (dependents_from (i + 1) xs ts n p)) e ∙ from_has (i + 1) xs ts n p k)
  where
    by : (c : Bool) → has (dependents_from (i + 1) xs ts n p) (i + suc k) ≡ test_on (slice_get xs k) (slice_get ts k) n p → has (if c then i ∷ dependents_from (i + 1) xs ts n p else dependents_from (i + 1) xs ts n p) (i + suc k) ≡ test_on (slice_get xs k) (slice_get ts k) n p
    by true later = rw (not_same i (i + suc k) (λ e. omega arith)) later
    by false later = later

zero_more : (p : ℕ) → p ≡ 0 + p
zero_more p = omega arith

-- the dependents of a place are those that depend on its node
pub dependents_are : (s : State) (e : ℕ) → ArePlaces (dependents_of s e) (depends s.nodes s.targets e)
dependents_are s e = by (slice_get s.nodes e) refl where
  tests : (y : Node) (x : Option Node) (t : Option (Option ℕ)) → test_on x t y.name e ≡ depends_on (Some y) x t e
  tests y None t = refl
  tests y (Some x) None = refl
  tests y (Some x) (Some t) = refl

  by : (o : Option Node) → slice_get s.nodes e ≡ o → ArePlaces (dependents_of s e) (depends s.nodes s.targets e)
  by None q = record {
    rising = subst (λ o. IsRising (dependents_at s o e)) (sym q) tt;
    those = λ p. ap (λ o. has (dependents_at s o e) p) q ∙ sym (ap (λ o. depends_on o (slice_get s.nodes p) (slice_get s.targets p) e) q);
  }
  by (Some y) q = record {
    rising = subst (λ o. IsRising (dependents_at s o e)) (sym q) (from_rising 0 s.nodes s.targets y.name e);
    those = λ p.
        ap (λ o. has (dependents_at s o e) p) q ∙ ap (has (dependents_from 0 s.nodes s.targets y.name e)) (zero_more p) ∙ from_has 0 s.nodes s.targets y.name e p ∙ tests y (slice_get s.nodes p) (slice_get s.targets p)
        ∙ sym (ap (λ o. depends_on o (slice_get s.nodes p) (slice_get s.targets p) e) q);
  }

-- The same of those that watch it.

watcher_above : (b i : ℕ) (xs : List Node) (n : Name) → b < i → AllByRecursion (λ q. b < q) (watchers_from i xs n)
watcher_above b i [] n l = tt
watcher_above b i (x ∷ xs) n l = by (is_watching x.shape n) (watcher_above b (i + 1) xs n (omega arith)) where
  by : (c : Bool) → AllByRecursion (λ q. b < q) (watchers_from (i + 1) xs n) → AllByRecursion (λ q. b < q) (if c then i ∷ watchers_from (i + 1) xs n else watchers_from (i + 1) xs n)
  by true h = (l, h)
  by false h = h

watcher_rising : (i : ℕ) (xs : List Node) (n : Name) → IsRising (watchers_from i xs n)
watcher_rising i [] n = tt
watcher_rising i (x ∷ xs) n = by (is_watching x.shape n) (watcher_rising (i + 1) xs n) where
  by : (c : Bool) → IsRising (watchers_from (i + 1) xs n) → IsRising (if c then i ∷ watchers_from (i + 1) xs n else watchers_from (i + 1) xs n)
  by true h = (watcher_above i (i + 1) xs n (omega arith), h)
  by false h = h

abbrev watcher_on : Option Node → Name → Bool
watcher_on None n = false
watcher_on (Some x) n = is_watching x.shape n

watcher_has : (i : ℕ) (xs : List Node) (n : Name) (k : ℕ) → has (watchers_from i xs n) (i + k) ≡ watcher_on (slice_get xs k) n
watcher_has i [] n k = refl
watcher_has i (x ∷ xs) n zero = by (is_watching x.shape n) where
  later : has (watchers_from (i + 1) xs n) (i + 0) ≡ false
  later = none_above (i + 0) (watchers_from (i + 1) xs n) (watcher_above (i + 0) (i + 1) xs n (omega arith))

  by : (c : Bool) → has (if c then i ∷ watchers_from (i + 1) xs n else watchers_from (i + 1) xs n) (i + 0) ≡ c
  by true = rw (is_same i (i + 0) (omega arith)) refl
  by false = later
watcher_has i (x ∷ xs) n (suc k) =
    by (is_watching x.shape n) (let e : i + suc k ≡ (i + 1) + k = omega arith in ap (has (watchers_from (i + 1) xs n)) e ∙ watcher_has (i + 1) xs n k)
  where
    by : (c : Bool) → has (watchers_from (i + 1) xs n) (i + suc k) ≡ watcher_on (slice_get xs k) n → has (if c then i ∷ watchers_from (i + 1) xs n else watchers_from (i + 1) xs n) (i + suc k) ≡ watcher_on (slice_get xs k) n
    by true later = rw (not_same i (i + suc k) (λ e. omega arith)) later
    by false later = later

pub watchers_are : (s : State) (e : ℕ) → ArePlaces (watchers_of s e) (watches s.nodes e)
watchers_are s e = by (slice_get s.nodes e) refl where
  tests : (y : Node) (x : Option Node) → watcher_on x y.name ≡ watches_on (Some y) x
  tests y None = refl
  tests y (Some x) = refl

  by : (o : Option Node) → slice_get s.nodes e ≡ o → ArePlaces (watchers_of s e) (watches s.nodes e)
  by None q = record {
    rising = subst (λ o. IsRising (watchers_at s o)) (sym q) tt;
    those = λ p. ap (λ o. has (watchers_at s o) p) q ∙ sym (ap (λ o. watches_on o (slice_get s.nodes p)) q);
  }
  by (Some y) q = record {
    rising = subst (λ o. IsRising (watchers_at s o)) (sym q) (watcher_rising 0 s.nodes y.name);
    those = λ p. ap (λ o. has (watchers_at s o) p) q ∙ ap (has (watchers_from 0 s.nodes y.name)) (zero_more p) ∙ watcher_has 0 s.nodes y.name p ∙ tests y (slice_get s.nodes p) ∙ sym (ap (λ o. watches_on o (slice_get s.nodes p)) q);
  }

-- Room.

pub room_now : (ds : List Dependents) (l : Lists) → AreListed ds (nodes_of l.held) (targets_of l.held) → HasRoom ds l
room_now ds l k e d g =
    let same : dependents_of (state_in l) e ≡ d.nodes.items =
    places_same (dependents_of (state_in l) e) d.nodes.items (depends (nodes_of l.held) (targets_of l.held) e) (dependents_are (state_in l) e) (k.nodes e d g) in
    subst (λ ps. length ps ≤ d.nodes.room) (sym same) (k.fits e d g)

pub room_roomier : (ds es : List Dependents) (l : Lists) → IsRoomier ds es → HasRoom ds l → HasRoom es l
room_roomier ds es l r k e d g = let c = r.each e d g in let h = k e c.0 c.1 in let m = c.2.room in omega arith

pub listed_roomier : (ds es : List Dependents) (nodes : List Node) (targets : List (Option ℕ)) → IsRoomier ds es → AreListed ds nodes targets → AreListed es nodes targets
listed_roomier ds es nodes targets r k = record {
  count = r.count ∙ k.count;
  nodes = λ e d g. let c = r.each e d g in subst (λ ps. ArePlaces ps (depends nodes targets e)) (sym c.2.nodes) (k.nodes e c.0 c.1);
  watchers = λ e d g. let c = r.each e d g in subst (λ ps. ArePlaces ps (watches nodes e)) (sym c.2.watchers) (k.watchers e c.0 c.1);
  fits = λ e d g. let c = r.each e d g in let m = c.2.room in subst (λ ps. length ps ≤ d.nodes.room) (sym c.2.nodes) (let f = k.fits e c.0 c.1 in omega arith);
}

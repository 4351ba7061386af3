-- Times and names that are the same, and what is found in lists.
use Rattle.std.proofs.Common.{◌≡◌, ◌⊎◌, ℕ, zero, suc, ◌<◌, Bool, true, false, List, [], ◌∷◌, ◌++◌, length, Option, Some, refl, sym, subst, arith}
use Rattle.std.proofs.Common.{inl, inr}
use Rattle.std.specs.Prelude.{◌||◌, slice_get, if◌then◌else◌}
use Rattle.std.specs.List.{AllByRecursion, list_any, list_all}
use Rattle.std.specs.Cmp.{unsigned_Decides}
use lib.Pointwise.{pointwise_decides}
use Rattle.frp_base.specs.declared.time.Time.{Time}
use Rattle.frp_base.specs.declared.name.Name.{Name}
use Rattle.frp_base.specs.Time.{time_eq}
use Rattle.frp_base.specs.Name.{name_eq}
use Rattle.frp_base.proofs.NameLemmas.{name_decides}
use Rattle.frp_base.proofs.Booleans.{both_true, chosen, either_true}
use Rattle.frp_graph.specs.declared.trace.Node.{Node}
use Rattle.frp_graph.specs.declared.trace.Moment.{Moment}
use Rattle.frp_graph.specs.Trace.{node_in, moment_at}

-- Times and names.

pub time_same : (a b : Time) → time_eq a b ≡ true → a ≡ b
time_same a b h = (pointwise_decides unsigned_Decides a b).0 h

pub time_eq-same : (a : Time) → time_eq a a ≡ true
time_eq-same a = (pointwise_decides unsigned_Decides a a).1 refl

pub name_same : (a b : Name) → name_eq a b ≡ true → a ≡ b
name_same a b h = (name_decides a b).0 h

pub name_eq-same : (a : Name) → name_eq a a ≡ true
name_eq-same a = (name_decides a a).1 refl

-- Items.

-- an item at which a test holds, of which another test holds too
pub any_of : {A : Type 0} (p q : A → Bool) (xs : List A) → list_any p xs ≡ true → list_all q xs ≡ true → (x : A) × ((p x ≡ true) × (q x ≡ true))
any_of p q [] h k = absurd cc
any_of p q (x ∷ xs) h k =
    let both = both_true (q x) (list_all q xs) k in
    elim (either_true (p x) (list_any p xs) h) [ inl e ↦ (x, (e, both.0)) | inr r ↦ any_of p q xs r both.1 ]

-- the node that is found is of the name, and what holds of each holds of it
pub node_found : (q : Node → Bool) (xs : List Node) (n : Name) (x : Node) → node_in xs n ≡ Some x → list_all q xs ≡ true → (x.name ≡ n) × (q x ≡ true)
node_found q [] n x h k = absurd cc
node_found q (y ∷ xs) n x h k =
    let both = both_true (q y) (list_all q xs) k in
    elim (chosen (name_eq y.name n) y x (node_in xs n) h) [
      | inl e ↦ subst (λ (z : Node). (z.name ≡ n) × (q z ≡ true)) e.1 (name_same y.name n e.0, both.0)
      | inr r ↦ node_found q xs n x r.1 both.1
    ]

pub moment_found : (q : Moment → Bool) (ms : List Moment) (t : Time) (m : Moment) → moment_at ms t ≡ Some m → list_all q ms ≡ true → (m.time ≡ t) × (q m ≡ true)
moment_found q [] t m h k = absurd cc
moment_found q (l ∷ ms) t m h k =
    let both = both_true (q l) (list_all q ms) k in
    elim (chosen (time_eq l.time t) l m (moment_at ms t) h) [
      | inl e ↦ subst (λ (z : Moment). (z.time ≡ t) × (q z ≡ true)) e.1 (time_same l.time t e.0, both.0)
      | inr r ↦ moment_found q ms t m r.1 both.1
    ]

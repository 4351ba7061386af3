-- Names in lists: rising names are distinct, and what is found by name is in the list.
use Rattle.std.proofs.Common.{◌≡◌, ◌⊎◌, Bool, true, false, List, [], ◌∷◌, ◌++◌, map, Some, refl, ap, ◌∙◌, subst}
use Rattle.std.proofs.Common.{inl, inr}
use Rattle.std.specs.Prelude.{if◌then◌else◌}
use Rattle.std.specs.List.{AllByRecursion}
use Rattle.std.specs.List.Sorted.{IsStrictlySortedBy}
use Rattle.std.specs.declared.cmp.Ordering.TheVariants.{Less, Equal}
use Rattle.frp_base.specs.declared.name.Name.{Name}
use Rattle.frp_base.specs.Name.{name_eq, name_cmp}
use Rattle.frp_graph.specs.declared.trace.Node.{Node}
use Rattle.frp_graph.specs.Trace.{node_in}
use Rattle.frp_graph.proofs.Lists.{name_eq-same}
use Rattle.frp_graph.proofs.Order.{name_cmp-same}
use Rattle.frp_audit.proofs.Ranks.{In, Distinct}

not_before : (n : Name) (ns : List Name) → AllByRecursion (λ k. name_cmp n k ≡ Less) ns → In n ns → ⊥
not_before n [] h i = i
not_before n (k ∷ ks) h (inl e) = let l : name_cmp n n ≡ Less = ap (name_cmp n) e ∙ h.0 in let q : name_cmp n n ≡ Equal = name_cmp-same n in cc
not_before n (k ∷ ks) h (inr r) = not_before n ks h.1 r

pub rising_distinct : (ns : List Name) → IsStrictlySortedBy name_cmp ns → Distinct ns
unfolding IsStrictlySortedBy
rising_distinct [] h = tt
rising_distinct (n ∷ ns) h = (not_before n ns h.0, rising_distinct ns h.1)

pub in_either : (n : Name) (xs ys : List Name) → In n (xs ++ ys) → In n xs ⊎ In n ys
in_either n [] ys h = inr h
in_either n (x ∷ xs) ys (inl e) = inl (inl e)
in_either n (x ∷ xs) ys (inr r) = elim (in_either n xs ys r) [ inl a ↦ inl (inr a) | inr b ↦ inr b ]

pub distinct_join : (xs ys : List Name) → Distinct xs → Distinct ys → ((n : Name) → In n xs → In n ys → ⊥) → Distinct (xs ++ ys)
distinct_join [] ys a b f = b
distinct_join (x ∷ xs) ys a b f = (
  λ h. elim (in_either x xs ys h) [ inl l ↦ a.0 l | inr r ↦ f x (inl refl) r ],
  distinct_join xs ys a.1 b (λ n l r. f n (inr l) r),
)

-- a name of the list is found
pub found_in : (xs : List Node) (n : Name) → In n (map (λ x. x.name) xs) → (x : Node) × (node_in xs n ≡ Some x)
found_in [] n h = absurd h
found_in (x ∷ xs) n h = by (name_eq x.name n) refl h (found_in xs n) where
  by : (b : Bool) → name_eq x.name n ≡ b → In n (map (λ x. x.name) (x ∷ xs)) → (In n (map (λ x. x.name) xs) → (y : Node) × (node_in xs n ≡ Some y))
      → (y : Node) × ((if b then Some x else node_in xs n) ≡ Some y)
  by true e h more = (x, refl)
  by false e (inr r) more = more r
  by false e (inl s) more = absurd (let t : name_eq x.name n ≡ true = subst (λ k. name_eq k n ≡ true) s (name_eq-same n) in cc)

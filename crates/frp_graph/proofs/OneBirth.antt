-- What is born at a time is determined by what is seen then.
use Rattle.std.proofs.Common.{◌≡◌, Bool, true, false, List, [], ◌∷◌, map, Option, Some, None, refl, sym, ap, ◌∙◌, subst}
use Rattle.std.proofs.Common.{inl, inr}
use Rattle.std.specs.Prelude.{is_some, option_and_then, if◌then◌else◌}
use Rattle.std.specs.List.{AllByRecursion, list_all}
use Rattle.std.specs.List.Sorted.{IsStrictlySortedBy}
use Rattle.std.specs.declared.cmp.Ordering.TheVariants.{Less, Equal}
use Rattle.frp_base.specs.declared.name.Name.{Name}
use Rattle.frp_base.specs.Time.{time_eq}
use Rattle.frp_base.specs.Name.{name_eq, name_cmp, maker}
use Rattle.frp_base.proofs.OrderLemmas.{name_cmp-total, name_cmp-transitive}
use Rattle.frp_base.proofs.Booleans.{both_true, chosen, is_false}
use Rattle.frp_graph.specs.declared.prog.Prog.{Prog}
use Rattle.frp_graph.specs.declared.trace.Node.{Node}
use Rattle.frp_graph.specs.Trace.{Sight, node_in}
use Rattle.frp_graph.specs.Births.{Plan, build, file_plans, plans_by, plan_in, plan_as}
use Rattle.frp_graph.specs.FirstValues.{IsBornAs, AreExactly, are_all_born}
use Rattle.frp_graph.proofs.Lists.{name_same, name_eq-same, time_same}
use Rattle.frp_graph.proofs.Order.{name_cmp-same}
use Rattle.frp_graph.proofs.Nodes.{found_named, found_holds, found_first}
use Rattle.frp_graph.proofs.Options.{some_there, test_some}

-- Options.

given_next : {A B : Type 0} (f : A → Option B) (o : Option A) (b : B) → option_and_then f o ≡ Some b → (a : A) × ((o ≡ Some a) × (f a ≡ Some b))
given_next f None b h = absurd cc
given_next f (Some a) b h = (a, (refl, h))

-- Lists of nodes by rising name, in which the same nodes are found.

-- what is found among nodes of later names is of a later name
found_later : (n k : Name) (xs : List Node) (x : Node) → AllByRecursion (λ j. name_cmp n j ≡ Less) (map (λ y. y.name) xs) → node_in xs k ≡ Some x → name_cmp n k ≡ Less
found_later n k [] x h e = absurd cc
found_later n k (y ∷ xs) x h e = elim (chosen (name_eq y.name k) y x (node_in xs k) e) [
  | inl t ↦ subst (λ j. name_cmp n j ≡ Less) (name_same y.name k t.0) h.0
  | inr r ↦ found_later n k xs x h.1 r.1
]

never_less : (n k : Name) → n ≡ k → name_cmp n k ≡ Less → ⊥
never_less n k e l = let s : name_cmp n n ≡ Less = subst (λ j. name_cmp n j ≡ Less) (sym e) l in let q : name_cmp n n ≡ Equal = name_cmp-same n in cc

-- a name before the first of rising names is of none of the nodes
none_before : (n : Name) (y : Node) (ys : List Node) (x : Node) → AllByRecursion (λ j. name_cmp y.name j ≡ Less) (map (λ z. z.name) ys) → name_cmp n y.name ≡ Less → node_in (y ∷ ys) n ≡ Some x → ⊥
none_before n y ys x h l e = elim (chosen (name_eq y.name n) y x (node_in ys n) e) [
  | inl t ↦ never_less n y.name (sym (name_same y.name n t.0)) l
  | inr r ↦ never_less n n refl (name_cmp-transitive n y.name n l (found_later y.name n ys x h r.1))
]

-- what is found beyond the first is found among all, and the other way
found_next : (y : Node) (ys : List Node) (n : Name) → name_cmp y.name n ≡ Less → node_in (y ∷ ys) n ≡ node_in ys n
found_next y ys n l = let f : name_eq y.name n ≡ false = is_false (name_eq y.name n) (λ t. never_less y.name n (name_same y.name n t) l) in rw f refl

abbrev AreIn : List Node → List Node → Type 0
AreIn xs ys = (n : Name) (x : Node) → node_in xs n ≡ Some x → node_in ys n ≡ Some x

module _ (x y : Node) (xs ys : List Node) (rx : AllByRecursion (λ j. name_cmp x.name j ≡ Less) (map (λ z. z.name) xs)) (ry : AllByRecursion (λ j. name_cmp y.name j ≡ Less) (map (λ z. z.name) ys)) where
  first_same : AreIn (x ∷ xs) (y ∷ ys) → AreIn (y ∷ ys) (x ∷ xs) → x ≡ y
  first_same to back = elim (name_cmp-total x.name y.name) [
    | inl l ↦ absurd (none_before x.name y ys x ry l (to x.name x (found_first x xs)))
    | inr o ↦ elim o [
      | inl e ↦
          let f : name_eq y.name x.name ≡ true = subst (λ n. name_eq y.name n ≡ true) (sym e) (name_eq-same y.name) in
          let there : node_in (y ∷ ys) x.name ≡ Some y = rw f refl in
          let here : node_in (y ∷ ys) x.name ≡ Some x = to x.name x (found_first x xs) in
          let both : ◌≡◌ {A = Option Node} (Some x) (Some y) = sym here ∙ there in
          cc
      | inr g ↦ absurd (none_before y.name x xs y rx g (back y.name y (found_first y ys)))
    ]
  ]

  rest_in : x ≡ y → AreIn (x ∷ xs) (y ∷ ys) → AreIn xs ys
  rest_in e to n z h =
      let l : name_cmp x.name n ≡ Less = found_later x.name n xs z rx h in
      let k : name_cmp y.name n ≡ Less = subst (λ (u : Node). name_cmp u.name n ≡ Less) e l in
      sym (found_next y ys n k) ∙ to n z (found_next x xs n l ∙ h)

same_nodes : (xs ys : List Node) → IsStrictlySortedBy name_cmp (map (λ x. x.name) xs) → IsStrictlySortedBy name_cmp (map (λ x. x.name) ys) → AreIn xs ys → AreIn ys xs → xs ≡ ys
unfolding IsStrictlySortedBy
same_nodes [] [] r s to back = refl
same_nodes [] (y ∷ ys) r s to back = let h = back y.name y (found_first y ys) in absurd cc
same_nodes (x ∷ xs) [] r s to back = let h = to x.name x (found_first x xs) in absurd cc
same_nodes (x ∷ xs) (y ∷ ys) r s to back =
    let e = first_same x y xs ys r.0 s.0 to back in
    let rest = same_nodes xs ys r.1 s.1 (rest_in x y xs ys r.0 s.0 e to) (rest_in y x ys xs s.0 r.0 (sym e) back) in
    (λ i. e i ∷ rest i)

-- Births.

plan_found : (q : Plan → Bool) (ds : List Plan) (n : Name) (d : Plan) → plan_in ds n ≡ Some d → list_all q ds ≡ true → (d.name ≡ n) × (q d ≡ true)
plan_found q [] n d h k = absurd cc
plan_found q (c ∷ ds) n d h k =
    let both = both_true (q c) (list_all q ds) k in
    elim (chosen (name_eq c.name n) c d (plan_in ds n) h) [
      | inl e ↦ subst (λ (z : Plan). (z.name ≡ n) × (q z ≡ true)) e.1 (name_same c.name n e.0, both.0)
      | inr r ↦ plan_found q ds n d r.1 both.1
    ]

module _ (prog : Prog) (w : Sight) where
  -- two nodes that are born as one plan are one
  one_node : (o : Option Plan) (x y : Node) → IsBornAs prog w o x → IsBornAs prog w o y → x ≡ y
  one_node None x y a b = absurd a
  one_node (Some d) x y a b = λ i. record {
    name = (a.made.name ∙ sym b.made.name) i;
    shape = (a.made.shape ∙ sym b.made.shape) i;
    ty = (a.made.ty ∙ sym b.made.ty) i;
    first = (a.first ∙ sym b.first) i;
  }

  is_planned : (o : Option Plan) (x : Node) → IsBornAs prog w o x → (d : Plan) × (o ≡ Some d)
  is_planned None x h = absurd h
  is_planned (Some d) x h = (d, refl)

  -- what is planned of a name, by its maker
  abbrev planned_by : Name → Option Name → Option Plan
  planned_by n None = if time_eq w.time build then plan_in (file_plans prog) n else None
  planned_by n (Some e) = option_and_then (λ x. plan_in (plans_by prog w x) n) (w.node e)

  module _ (born : List Node) (all : AreExactly prog w born) where
    is_there : (ds : List Plan) (n : Name) (d : Plan) → plan_in ds n ≡ Some d → are_all_born born ds ≡ true → is_some (node_in born n) ≡ true
    is_there ds n d h k = let f = plan_found (λ c. is_some (node_in born c.name)) ds n d h k in subst (λ m. is_some (node_in born m) ≡ true) f.0 f.1

    -- what is planned is born
    planned_there : (n : Name) (o : Option Name) (d : Plan) → planned_by n o ≡ Some d → is_some (node_in born n) ≡ true
    planned_there n None d h = let k = test_some (time_eq w.time build) (plan_in (file_plans prog) n) d h in is_there (file_plans prog) n d k.1 (all.file_is_born (time_same w.time build k.0))
    planned_there n (Some e) d h =
        let g = given_next (λ x. plan_in (plans_by prog w x) n) (w.node e) d h in
        is_there (plans_by prog w g.0) n d g.1.1 (all.each_is_born e g.0 g.1.0)

    -- what is born is as is planned of its name
    as_planned : (n : Name) (x : Node) → node_in born n ≡ Some x → IsBornAs prog w (plan_as prog w n) x
    as_planned n x h = subst (λ m. IsBornAs prog w (plan_as prog w m) x) (found_named born n x h) (found_holds (λ x. IsBornAs prog w (plan_as prog w x.name) x) born n x h all.each_is_made)

  born_in : (born others : List Node) → AreExactly prog w born → AreExactly prog w others → AreIn born others
  born_in born others a b n x h =
      let p = as_planned born a n x h in
      let d = is_planned (plan_as prog w n) x p in
      let y = some_there (node_in others n) (planned_there others b n (maker n) d.0 d.1) in
      y.1 ∙ ap Some (one_node (plan_as prog w n) y.0 x (as_planned others b n y.0 y.1) p)

pub births_are_one : (prog : Prog) (w : Sight) (born others : List Node) → IsStrictlySortedBy name_cmp (map (λ x. x.name) born) → IsStrictlySortedBy name_cmp (map (λ x. x.name) others)
    → AreExactly prog w born → AreExactly prog w others → born ≡ others
births_are_one prog w born others r s a b = same_nodes born others r s (born_in prog w born others a b) (born_in prog w others born b a)

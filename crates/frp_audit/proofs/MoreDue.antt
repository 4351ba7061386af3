-- What is due by the moments of true evidence is due in each trace that goes on from the moments before: at the last time the same
-- streams fire, and the same splits are live.
use Rattle.std.proofs.Common.{◌≡◌, ℕ, ◌<◌, Bool, true, false, List, [], ◌∷◌, ◌++◌, map, length, Option, Some, None, refl, sym, ap, ◌∙◌, subst, arith, append_assoc}
use Rattle.std.proofs.Common.{inl, inr}
use Rattle.std.specs.Prelude.{not, ◌||◌, nat_lt, option_and_then, if◌then◌else◌}
use Rattle.std.specs.List.{AllByRecursion, list_any}
use Rattle.std.specs.Ordering.{is_gt}
use Rattle.std.specs.declared.cmp.Ordering.TheVariants.{Less, Equal, Greater}
use Rattle.std.proofs.lemmas.Bool.Decides.{nat_tests}
use Rattle.frp_base.specs.declared.name.Name.{Name}
use Rattle.frp_base.specs.declared.time.Time.{Time}
use Rattle.frp_base.specs.declared.val.Val.{Val, out-Val}
use Rattle.frp_base.specs.Time.{time_eq, time_cmp, parent_and_number}
use Rattle.frp_base.specs.Name.{name_eq}
use Rattle.frp_base.proofs.Booleans.{either_true, or_more, chosen, is_false}
use Rattle.frp_base.proofs.Lists.{all_both}
use Rattle.frp_base.proofs.OrderLemmas.{time_cmp-reversed}
use Rattle.frp_expr.specs.Parts.{items_in}
use Rattle.frp_graph.specs.declared.trace.Node.{Node}
use Rattle.frp_graph.specs.declared.trace.Moment.{Moment}
use Rattle.frp_graph.specs.declared.trace.Sent.{Sent}
use Rattle.frp_graph.specs.declared.shape.Shape.{Shape}
use Rattle.frp_graph.specs.Trace.{node_in, live, moment_at, occ}
use Rattle.frp_graph.specs.Roles.{split_source}
use Rattle.frp_graph.specs.Births.{build}
use Rattle.frp_graph.specs.Moments.{items_to_split, live_at, splits_at, is_child_due, is_due}
use Rattle.frp_graph.proofs.Before.{filter_each, filter_apart}
use Rattle.frp_graph.proofs.Lists.{time_same, name_same, name_eq-same}
use Rattle.frp_graph.proofs.Order.{time_cmp-same}
use Rattle.frp_audit.proofs.Ranks.{In, Distinct}
use Rattle.frp_audit.proofs.Pasts.{Earlier}
use Rattle.frp_audit.proofs.Dues.{Later, later_more, splits_same, at_next}
use Rattle.frp_audit.proofs.Settled.{named_in}

-- Nodes of a list: one at which a test holds is found by its name, where no name is of two, and one that is found is of the list.

any_named : (q : Node → Bool) (xs : List Node) → Distinct (map (λ x. x.name) xs) → list_any q xs ≡ true
    → (x : Node) × (node_in xs x.name ≡ Some x) × (q x ≡ true)
any_named q [] d h = absurd cc
any_named q (y ∷ ys) d h = elim (either_true (q y) (list_any q ys) h) [
  | inl a ↦ (let same : name_eq y.name y.name ≡ true = name_eq-same y.name in (y, rw same refl, a))
  | inr b ↦
      let r = any_named q ys d.1 b in
      let apart : name_eq y.name r.0.name ≡ false = is_false (name_eq y.name r.0.name) (λ s.
      d.0 (subst (λ (n : Name). In n (map (λ x. x.name) ys)) (sym (name_same y.name r.0.name s)) (named_in ys r.0.name r.0 r.1))) in
      (r.0, rw apart r.1, r.2)
]

named_any : (q : Node → Bool) (xs : List Node) (n : Name) (x : Node) → node_in xs n ≡ Some x → q x ≡ true → list_any q xs ≡ true
named_any q [] n x h t = absurd cc
named_any q (y ∷ ys) n x h t = elim (chosen (name_eq y.name n) y x (node_in ys n) h) [
  | inl f ↦ (let holds : q y ≡ true = ap q f.1 ∙ t in ap (λ b. b || list_any q ys) holds)
  | inr r ↦ or_more (q y) (list_any q ys) (named_any q ys n x r.1 t)
]

-- Moments of a list.

at_some : (t : Time) (ms rest : List Moment) (m : Moment) → moment_at ms t ≡ Some m → moment_at (ms ++ rest) t ≡ Some m
at_some t [] rest m h = absurd cc
at_some t (k ∷ ks) rest m h = by (time_eq k.time t) h (at_some t ks rest m) where
  by : (b : Bool) → (if b then Some k else moment_at ks t) ≡ Some m → (moment_at ks t ≡ Some m → moment_at (ks ++ rest) t ≡ Some m)
      → (if b then Some k else moment_at (ks ++ rest) t) ≡ Some m
  by true h f = h
  by false h f = f h

-- one that is found is earlier, as each is
found_earlier : (t u : Time) (ms : List Moment) (m : Moment) → Earlier u ms → moment_at ms t ≡ Some m → time_cmp t u ≡ Less
found_earlier t u [] m e h = absurd cc
found_earlier t u (k ∷ ks) m e h = elim (chosen (time_eq k.time t) k m (moment_at ks t) h) [
  | inl f ↦ subst (λ r. time_cmp r u ≡ Less) (time_same k.time t f.0) e.0
  | inr r ↦ found_earlier t u ks m e.1 r.1
]

until_all : (u : Time) (ms : List Moment) → Earlier u ms → AllByRecursion (λ m. not (is_gt (time_cmp m.time u)) ≡ true) ms
until_all u [] h = tt
until_all u (m ∷ ms) h = let l : time_cmp m.time u ≡ Less = h.0 in (rw l refl, until_all u ms h.1)

until_later : (u : Time) (ms : List Moment) → Later u ms → AllByRecursion (λ m. not (is_gt (time_cmp m.time u)) ≡ false) ms
until_later u [] h = tt
until_later u (m ∷ ms) h = let g : time_cmp m.time u ≡ Greater = (time_cmp-reversed u m.time).0 h.0 in (rw g refl, until_later u ms h.1)

-- what is live at the time of a moment is what is live after it
live_then : (past later : List Moment) (m : Moment) (u : Time) → m.time ≡ u → Earlier u past → Later u later
    → live_at (past ++ m ∷ later) u ≡ live (past ++ m ∷ [])
live_then past later m u is earlier after =
    let self : time_cmp m.time u ≡ Equal = subst (λ t. time_cmp m.time t ≡ Equal) is (time_cmp-same m.time) in
    let here : AllByRecursion (λ k. not (is_gt (time_cmp k.time u)) ≡ true) (past ++ m ∷ [])
    = all_both _ past (m ∷ []) (until_all u past earlier) (rw self refl, tt) in
    let apart = filter_apart (λ k. not (is_gt (time_cmp k.time u))) (past ++ m ∷ []) later (until_later u later after) in
    let whole = filter_each (λ k. not (is_gt (time_cmp k.time u))) (past ++ m ∷ []) here in
    ap (λ ms. live_at ms u) (sym (append_assoc past (m ∷ []) later)) ∙ ap live (apart ∙ whole)

or_follow : (a b c d : Bool) → (c ≡ true → d ≡ true) → a || b || c ≡ true → a || b || d ≡ true
or_follow true b c d f h = refl
or_follow false true c d f h = refl
or_follow false false c d f h = f h

pub none_less : (i : ℕ) → nat_lt i 0 ≡ true → ⊥
none_less i h = let l : i < 0 = grind (arith, nat_tests) in omega arith

-- Two moments at one time after the same moments, of which the second has the nodes of the first, and fires where it fires.
module _ (past later : List Moment) (m last : Moment) (same : m.time ≡ last.time) (earlier : Earlier last.time past) (after : Later m.time later)
    (once : Distinct (map (λ x. x.name) (live (past ++ last ∷ []))))
    (nodes : (n : Name) (x : Node) → node_in (live (past ++ last ∷ [])) n ≡ Some x → (y : Node) × (node_in (live (past ++ m ∷ [])) n ≡ Some y) × (y.shape ≡ x.shape))
    (fires : (n : Name) (v : Val) → occ last n ≡ Some v → occ m n ≡ Some v) where
  items_same : (i : ℕ) (s : Shape) → nat_lt i (items_to_split last s) ≡ true → nat_lt i (items_to_split m s) ≡ true
  items_same i s = by (split_source s) where
    count : Option Val → ℕ
    count None = 0
    count (Some v) = length (items_in (out-Val v))

    by_occ : (n : Name) (o : Option Val) → occ last n ≡ o → nat_lt i (count o) ≡ true → nat_lt i (count (occ m n)) ≡ true
    by_occ n None e h = absurd (none_less i h)
    by_occ n (Some v) e h = rw (fires n v e) h

    by : (o : Option Name) → nat_lt i (count (option_and_then (occ last) o)) ≡ true → nat_lt i (count (option_and_then (occ m) o)) ≡ true
    by None h = absurd (none_less i h)
    by (Some n) h = by_occ n (occ last n) refl h

  earlier_m : Earlier m.time past
  earlier_m = subst (λ t. Earlier t past) (sym same) earlier

  -- at the last time
  splits_now : (i : ℕ) → splits_at (past ++ last ∷ []) last.time i (Some last) ≡ true → splits_at (past ++ m ∷ later) last.time i (Some m) ≡ true
  splits_now i h =
      let own : live_at (past ++ last ∷ []) last.time ≡ live (past ++ last ∷ []) = live_then past [] last last.time refl earlier tt in
      let other : live_at (past ++ m ∷ later) last.time ≡ live (past ++ m ∷ [])
      = live_then past later m last.time same earlier (subst (λ t. Later t later) same after) in
      let any = subst (λ (xs : List Node). list_any (λ x. nat_lt i (items_to_split last x.shape)) xs ≡ true) own h in
      let x = any_named (λ x. nat_lt i (items_to_split last x.shape)) (live (past ++ last ∷ [])) once any in
      let y = nodes x.0.name x.0 x.1 in
      let holds : nat_lt i (items_to_split m y.0.shape) ≡ true
      = items_same i y.0.shape (subst (λ (s : Shape). nat_lt i (items_to_split last s) ≡ true) (sym y.2) x.2) in
      subst (λ (xs : List Node). list_any (λ x. nat_lt i (items_to_split m x.shape)) xs ≡ true) (sym other)
      (named_any (λ x. nat_lt i (items_to_split m x.shape)) (live (past ++ m ∷ [])) x.0.name y.0 y.1 holds)

  -- at an earlier time
  splits_before : (u : Time) (i : ℕ) (k : Moment) → moment_at past u ≡ Some k → splits_at (past ++ last ∷ []) u i (Some k) ≡ true
      → splits_at (past ++ m ∷ later) u i (Some k) ≡ true
  splits_before u i k e h =
      let l : time_cmp u last.time ≡ Less = found_earlier u last.time past k earlier e in
      let lm : time_cmp u m.time ≡ Less = found_earlier u m.time past k earlier_m e in
      splits_same past (m ∷ later) u i (lm, later_more u m.time later lm after) (Some k) ∙ sym (splits_same past (last ∷ []) u i (l, tt) (Some k)) ∙ h

  child_too : (o : Option (Time × ℕ)) → is_child_due (past ++ last ∷ []) o ≡ true → is_child_due (past ++ m ∷ later) o ≡ true
  child_too None h = absurd cc
  child_too (Some p) h = by (moment_at past p.0) refl where
    now : moment_at past p.0 ≡ None → (b : Bool) → time_eq last.time p.0 ≡ b → is_child_due (past ++ m ∷ later) (Some p) ≡ true
    now none true t =
        let is : last.time ≡ p.0 = time_same last.time p.0 t in
        let own : moment_at (past ++ last ∷ []) p.0 ≡ Some last = at_next p.0 past (last ∷ []) none ∙ rw t refl in
        let t_m : time_eq m.time p.0 ≡ true = ap (λ r. time_eq r p.0) same ∙ t in
        let other : moment_at (past ++ m ∷ later) p.0 ≡ Some m = at_next p.0 past (m ∷ later) none ∙ rw t_m refl in
        let g : splits_at (past ++ last ∷ []) p.0 p.1 (Some last) ≡ true
        = subst (λ (o : Option Moment). splits_at (past ++ last ∷ []) p.0 p.1 o ≡ true) own h in
        let g_now : splits_at (past ++ last ∷ []) last.time p.1 (Some last) ≡ true
        = subst (λ (r : Time). splits_at (past ++ last ∷ []) r p.1 (Some last) ≡ true) (sym is) g in
        let k : splits_at (past ++ m ∷ later) p.0 p.1 (Some m) ≡ true
        = subst (λ (r : Time). splits_at (past ++ m ∷ later) r p.1 (Some m) ≡ true) is (splits_now p.1 g_now) in
        subst (λ (o : Option Moment). splits_at (past ++ m ∷ later) p.0 p.1 o ≡ true) (sym other) k
    now none false t =
        let own : moment_at (past ++ last ∷ []) p.0 ≡ None = at_next p.0 past (last ∷ []) none ∙ rw t refl in
        absurd (let no : false ≡ true = subst (λ (o : Option Moment). splits_at (past ++ last ∷ []) p.0 p.1 o ≡ true) own h in cc)

    by : (o : Option Moment) → moment_at past p.0 ≡ o → is_child_due (past ++ m ∷ later) (Some p) ≡ true
    by None none = now none (time_eq last.time p.0) refl
    by (Some k) e =
        let g = subst (λ (o : Option Moment). splits_at (past ++ last ∷ []) p.0 p.1 o ≡ true) (at_some p.0 past (last ∷ []) k e) h in
        subst (λ (o : Option Moment). splits_at (past ++ m ∷ later) p.0 p.1 o ≡ true) (sym (at_some p.0 past (m ∷ later) k e)) (splits_before p.0 p.1 k e g)

  pub due_too : (sends : List Sent) (t : Time) → is_due sends (past ++ last ∷ []) t ≡ true → is_due sends (past ++ m ∷ later) t ≡ true
  due_too sends t h =
      or_follow (time_eq build t) (list_any (λ s. time_eq (s.place ∷ []) t) sends) (is_child_due (past ++ last ∷ []) (parent_and_number t)) (is_child_due (past ++ m ∷ later) (parent_and_number t))
      (child_too (parent_and_number t)) h

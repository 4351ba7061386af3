-- For given sends there is only one trace that meets the rules.
use Rattle.std.proofs.Common.{◌≡◌, ℕ, Bool, true, false, List, [], ◌∷◌, ◌++◌, map, Option, Some, None, refl, sym, ap, ◌∙◌, subst, append_assoc}
use Rattle.std.proofs.Common.{inl, inr}
use Rattle.std.specs.Prelude.{is_some}
use Rattle.std.specs.List.Sorted.{IsStrictlySortedBy}
use Rattle.frp_base.specs.declared.name.Name.{Name}
use Rattle.frp_base.specs.declared.time.Time.{Time}
use Rattle.frp_base.specs.declared.val.Val.{Val}
use Rattle.frp_base.specs.Time.{time_eq, time_cmp}
use Rattle.frp_base.specs.Name.{birth}
use Rattle.frp_base.proofs.Booleans.{both_true}
use Rattle.frp_base.proofs.Lists.{all_follow}
use Rattle.frp_base.proofs.OrderLemmas.{time_cmp-total}
use Rattle.frp_graph.specs.declared.prog.Prog.{Prog}
use Rattle.frp_graph.specs.declared.trace.Node.{Node}
use Rattle.frp_graph.specs.declared.trace.Moment.{Moment}
use Rattle.frp_graph.specs.declared.trace.Sent.{Sent}
use Rattle.frp_graph.specs.Trace.{Sight, node_in, live, moment_at, moments_before, occ, sight_of}
use Rattle.frp_graph.specs.Links.{is_new}
use Rattle.frp_graph.specs.Moments.{AtEach, IsMoment, is_due}
use Rattle.frp_graph.specs.Sends.{takes, node_before, sent_in, AreSendable}
use Rattle.frp_graph.specs.Sound.{IsSoundAfter}
use Rattle.frp_graph.specs.TypedProg.{IsTypedProg}
use Rattle.frp_graph.specs.Values.{fits_node}
use Rattle.frp_graph.proofs.Lists.{time_same}
use Rattle.frp_audit.specs.Laws.{IsSoundTrace, OneTrace}
use Rattle.frp_audit.proofs.Sides.{Extends, IsSame}
use Rattle.frp_audit.proofs.Agreeing.{IsWhole}
use Rattle.frp_audit.proofs.Rising.{one_born, one_fired}
use Rattle.frp_audit.proofs.Joined.{IsTaken, sent_taken}
use Rattle.frp_audit.proofs.Pasts.{Earlier, older, IsPast, moment_extends, same_node_new, none_born_old}
use Rattle.frp_audit.proofs.Settled.{cells, whole, node_same, occ_same}
use Rattle.frp_audit.proofs.Grown.{none_past, one_more}
use Rattle.frp_audit.proofs.Dues.{Later, later_more, go_on_together, rise_parts, before_first}

-- What is sent at a time is of its type among the nodes before it.
abbrev pub AreSent : Prog → List Sent → List Moment → Time → Type 0
AreSent prog sends past t = (n : Name) (v : Val) → sent_in prog sends t n ≡ Some v → (x : Node) × (node_in (live past) n ≡ Some x) × (fits_node prog (node_in (live past)) x.ty v ≡ true)

module _ (prog : Prog) (typed : IsTypedProg prog) (sends : List Sent) (a : List Moment) (sendable : AreSendable prog sends a) where
  taken : (node : Name → Option Node) (v : Val) (o : Option Node) → takes prog node v o ≡ true → (x : Node) × (o ≡ Some x) × (fits_node prog node x.ty v ≡ true)
  taken node v None h = absurd cc
  taken node v (Some x) h = (x, refl, (both_true _ _ h).1)

  module _ (past ms : List Moment) (m : Moment) (is_past : IsPast prog past) (is : past ++ m ∷ ms ≡ a) (earlier : Earlier m.time past) (later : Later m.time ms) where
    before : (k : ℕ) → time_eq m.time (k ∷ []) ≡ true → node_before a k ≡ node_in (live past)
    before k e =
        ap (λ ks. node_in (live ks))
        (ap (λ t. moments_before t a) (sym (time_same m.time (k ∷ []) e)) ∙ ap (moments_before m.time) (sym is) ∙ before_first past ms m earlier later)

    each_taken : (s : Sent) → takes prog (node_before a s.place) s.value (node_before a s.place s.sink) ≡ true → time_eq m.time (s.place ∷ []) ≡ true
        → IsTaken prog typed (older past m.time) is_past.of_file s.sink s.value
    each_taken s h e = taken (node_in (live past)) s.value (node_in (live past) s.sink) (subst (λ (node : Name → Option Node). takes prog node s.value (node s.sink) ≡ true) (before s.place e) h)

    pub sent_typed : AreSent prog sends past m.time
    sent_typed n v e =
        sent_taken prog typed (older past m.time) is_past.of_file m.time sends
        (all_follow (λ s. takes prog (node_before a s.place) s.value (node_before a s.place s.sink) ≡ true) _ each_taken sends sendable) n v e

-- Two moments at one time after the same moments.

module _ (prog : Prog) (typed : IsTypedProg prog) (sends : List Sent) (past : List Moment) (is_past : IsPast prog past) where
  pub record IsNext (m : Moment) : Type 0 where
    pub earlier : Earlier m.time past
    pub happens : IsMoment prog sends past m
    pub sound : IsSoundAfter prog past m
    pub sent : AreSent prog sends past m.time

  module _ (m k : Moment) (one : IsNext m) (two : IsNext k) (time : m.time ≡ k.time) where
    abbrev w : Sight
    w = sight_of past m

    abbrev u : Sight
    u = sight_of past k

    ew : Extends (older past m.time) w
    ew = moment_extends prog past is_past m one.earlier sends one.happens

    eu : Extends (older past m.time) u
    eu = subst (λ t. Extends (older past t) u) (sym time) (moment_extends prog past is_past k two.earlier sends two.happens)

    whole_u : IsWhole prog sends u
    whole_u = whole prog typed sends past is_past k two.earlier two.happens two.sound

    pub there : (n : Name) (x : Node) → w.node n ≡ Some x → IsSame x (u.node n)
    there n x e = node_same prog typed sends past is_past m one.earlier one.happens one.sound one.sent u eu whole_u n x e

    pub fires : (n : Name) (x : Node) → w.node n ≡ Some x → u.occ n ≡ w.occ n
    fires n x e = occ_same prog typed sends past is_past m one.earlier one.happens one.sound one.sent u eu whole_u n x e

    pub unfired : (n : Name) → w.node n ≡ None → w.occ n ≡ None
    unfired n e = by (w.occ n) refl where
      by : (o : Option Val) → w.occ n ≡ o → o ≡ None
      by None q = refl
      by (Some v) q = absurd (let x = ew.only_live n v q in let both : ◌≡◌ {A = Option Node} (Some x.0) None = sym x.1 ∙ e in cc)

  module _ (m k : Moment) (one : IsNext m) (two : IsNext k) (time : m.time ≡ k.time) where
    same_first : (o p : Option Val) → ((v : Val) → o ≡ Some v → p ≡ Some v) → ((v : Val) → p ≡ Some v → o ≡ Some v) → o ≡ p
    same_first (Some v) p f g = sym (f v refl)
    same_first None None f g = refl
    same_first None (Some v) f g = g v refl

    one_node : (n : Name) (x y : Node) → (sight_of past m).node n ≡ Some x → (sight_of past k).node n ≡ Some y → x ≡ y
    one_node n x y e f =
        let s = there m k one two time n x e in
        let r = there k m two one (sym time) n y f in
        let sy : ◌≡◌ {A = Option Node} (Some s.node) (Some y) = sym s.found ∙ f in
        let rx : ◌≡◌ {A = Option Node} (Some r.node) (Some x) = sym r.found ∙ e in
        let is_y : s.node ≡ y = cc in
        let is_x : r.node ≡ x = cc in
        let to : (v : Val) → x.first ≡ Some v → y.first ≡ Some v = λ v p. ap (λ (z : Node). z.first) (sym is_y) ∙ s.first (cells prog typed sends past is_past m one.earlier one.happens one.sound n x v e p) v p in
        let back : (v : Val) → y.first ≡ Some v → x.first ≡ Some v = λ v p. ap (λ (z : Node). z.first) (sym is_x) ∙ r.first (cells prog typed sends past is_past k two.earlier two.happens two.sound n y v f p) v p in
        let name : x.name ≡ y.name = sym s.name ∙ ap (λ (z : Node). z.name) is_y in
        let shape : x.shape ≡ y.shape = sym s.shape ∙ ap (λ (z : Node). z.shape) is_y in
        let ty : x.ty ≡ y.ty = sym s.ty ∙ ap (λ (z : Node). z.ty) is_y in
        let first : x.first ≡ y.first = same_first x.first y.first to back in
        λ i. record { name = name i; shape = shape i; ty = ty i; first = first i }

    same_node : (n : Name) → (sight_of past m).node n ≡ (sight_of past k).node n
    same_node n = by ((sight_of past m).node n) ((sight_of past k).node n) refl refl where
      by : (o p : Option Node) → (sight_of past m).node n ≡ o → (sight_of past k).node n ≡ p → o ≡ p
      by (Some x) (Some y) e f = ap Some (one_node n x y e f)
      by None None e f = refl
      by (Some x) None e f = absurd (let s = there m k one two time n x e in let both : ◌≡◌ {A = Option Node} (Some s.node) None = sym s.found ∙ f in cc)
      by None (Some y) e f = absurd (let s = there k m two one (sym time) n y f in let both : ◌≡◌ {A = Option Node} (Some s.node) None = sym s.found ∙ e in cc)

    same_born : (n : Name) → node_in m.born n ≡ node_in k.born n
    same_born n = by (is_new (sight_of past m) n) refl where
      new_too : is_new (sight_of past k) n ≡ is_new (sight_of past m) n
      new_too = ap (time_eq (birth n)) (sym time)

      by : (b : Bool) → is_new (sight_of past m) n ≡ b → node_in m.born n ≡ node_in k.born n
      by true e =
          sym (same_node_new prog past is_past m one.earlier sends one.happens n e) ∙ same_node n
          ∙ same_node_new prog past is_past k two.earlier sends two.happens n (new_too ∙ e)
      by false e =
          none_born_old prog past is_past m one.earlier sends one.happens n e
          ∙ sym (none_born_old prog past is_past k two.earlier sends two.happens n (new_too ∙ e))

    same_occ : (n : Name) → occ m n ≡ occ k n
    same_occ n = by ((sight_of past m).node n) refl where
      by : (o : Option Node) → (sight_of past m).node n ≡ o → occ m n ≡ occ k n
      by (Some x) e = sym (fires m k one two time n x e)
      by None e = unfired m k one two time n e ∙ sym (unfired k m two one (sym time) n (sym (same_node n) ∙ e))

    pub one_moment : m ≡ k
    one_moment =
        let born : m.born ≡ k.born = one_born m.born k.born one.happens.born_rise two.happens.born_rise same_born in
        let fired : m.fired ≡ k.fired = one_fired m.fired k.fired one.happens.fired_rise two.happens.fired_rise same_occ in
        λ i. record { time = time i; born = born i; fired = fired i }

-- Two traces, which begin with the same moments.

module _ (prog : Prog) (typed : IsTypedProg prog) (sends : List Sent) (a b : List Moment) (sa : IsSoundTrace prog sends a) (sb : IsSoundTrace prog sends b) (sendable : AreSendable prog sends a) where
  abbrev Rising : List Moment → Type 0
  Rising ms = IsStrictlySortedBy time_cmp (map (λ m. m.time) ms)

  -- what is left of the one and of the other
  pub record AreLeft (past ms ks : List Moment) : Type 0 where
    pub is_past : IsPast prog past
    pub own : past ++ ms ≡ a
    pub other : past ++ ks ≡ b
    pub moments : AtEach (IsMoment prog sends) past ms
    pub sound : AtEach (IsSoundAfter prog) past ms
    pub moments_too : AtEach (IsMoment prog sends) past ks
    pub sound_too : AtEach (IsSoundAfter prog) past ks

  due_own : (past ms : List Moment) → past ++ ms ≡ a → (t : Time) → is_some (moment_at (past ++ ms) t) ≡ is_due sends (past ++ ms) t
  due_own past ms e = subst (λ (ks : List Moment). (t : Time) → is_some (moment_at ks t) ≡ is_due sends ks t) (sym e) sa.is_trace.due

  due_other : (past ks : List Moment) → past ++ ks ≡ b → (t : Time) → is_some (moment_at (past ++ ks) t) ≡ is_due sends (past ++ ks) t
  due_other past ks e = subst (λ (ks : List Moment). (t : Time) → is_some (moment_at ks t) ≡ is_due sends ks t) (sym e) sb.is_trace.due

  module _ (past ms : List Moment) (m : Moment) (is : past ++ m ∷ ms ≡ a) where
    parts_own : Earlier m.time past × Later m.time ms
    parts_own = rise_parts past ms m (subst Rising (sym is) sa.is_trace.rising)

  module _ (past ks : List Moment) (k : Moment) (is : past ++ k ∷ ks ≡ b) where
    parts_other : Earlier k.time past × Later k.time ks
    parts_other = rise_parts past ks k (subst Rising (sym is) sb.is_trace.rising)

  same_time : (past ms ks : List Moment) (m k : Moment) → past ++ m ∷ ms ≡ a → past ++ k ∷ ks ≡ b → m.time ≡ k.time
  same_time past ms ks m k e f =
      let p = parts_own past ms m e in
      let q = parts_other past ks k f in
      elim (time_cmp-total m.time k.time) [
        | inl l ↦ absurd (go_on_together sends past ms (k ∷ ks) m (due_own past (m ∷ ms) e) (due_other past (k ∷ ks) f) p.0 p.1 (l, later_more m.time k.time ks l q.1))
        | inr (inl s) ↦ s
        | inr (inr g) ↦ absurd (go_on_together sends past ks (m ∷ ms) k (due_other past (k ∷ ks) f) (due_own past (m ∷ ms) e) q.0 q.1 (g, later_more k.time m.time ms g p.1))
      ]

  left_same : (past ms ks : List Moment) → AreLeft past ms ks → ms ≡ ks
  left_same past [] [] h = refl
  left_same past (m ∷ ms) [] h =
      let p = parts_own past ms m h.own in
      absurd (go_on_together sends past ms [] m (due_own past (m ∷ ms) h.own) (due_other past [] h.other) p.0 p.1 tt)
  left_same past [] (k ∷ ks) h =
      let q = parts_other past ks k h.other in
      absurd (go_on_together sends past ks [] k (due_other past (k ∷ ks) h.other) (due_own past [] h.own) q.0 q.1 tt)
  left_same past (m ∷ ms) (k ∷ ks) h =
      let p = parts_own past ms m h.own in
      let q = parts_other past ks k h.other in
      let time = same_time past ms ks m k h.own h.other in
      let sent = sent_typed prog typed sends a sendable past ms m h.is_past h.own p.0 p.1 in
      let one : IsNext prog typed sends past h.is_past m = record { earlier = p.0; happens = h.moments.0; sound = h.sound.0; sent = sent } in
      let sent_too : AreSent prog sends past k.time = subst (AreSent prog sends past) time sent in
      let two : IsNext prog typed sends past h.is_past k = record { earlier = q.0; happens = h.moments_too.0; sound = h.sound_too.0; sent = sent_too } in
      let same : m ≡ k = one_moment prog typed sends past h.is_past m k one two time in
      let rest = left_same (past ++ m ∷ []) ms ks (record {
        is_past = one_more prog typed sends past h.is_past m p.0 h.moments.0 h.sound.0 sent;
        own = append_assoc past (m ∷ []) ms ∙ h.own;
        other = ap (λ (j : Moment). (past ++ j ∷ []) ++ ks) same ∙ append_assoc past (k ∷ []) ks ∙ h.other;
        moments = h.moments.1;
        sound = h.sound.1;
        moments_too = subst (λ (j : Moment). AtEach (IsMoment prog sends) (past ++ j ∷ []) ks) (sym same) h.moments_too.1;
        sound_too = subst (λ (j : Moment). AtEach (IsSoundAfter prog) (past ++ j ∷ []) ks) (sym same) h.sound_too.1;
      }) in
      (λ i. same i ∷ rest i)

pub one_trace : OneTrace
one_trace prog sends a b typed sa sb sendable =
    left_same prog typed sends a b sa sb sendable [] a b (record {
      is_past = none_past prog typed;
      own = refl;
      other = refl;
      moments = sa.is_trace.moments;
      sound = sa.sound;
      moments_too = sb.is_trace.moments;
      sound_too = sb.sound;
    })

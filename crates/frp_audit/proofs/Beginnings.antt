-- Moments that are those of the program until a time are the beginning of each trace that the program has, and where the time is
-- due the trace goes on at it.
use Rattle.std.proofs.Common.{◌≡◌, true, false, List, [], ◌∷◌, ◌++◌, map, Option, Some, None, refl, sym, ap, ◌∙◌, subst, append_assoc, append-nil}
use Rattle.std.proofs.Common.{inl, inr}
use Rattle.std.specs.Prelude.{◌&&◌, is_some}
use Rattle.std.specs.List.Sorted.{IsStrictlySortedBy}
use Rattle.std.specs.Ordering.{is_lt}
use Rattle.std.specs.declared.cmp.Ordering.TheVariants.{Less, Equal}
use Rattle.frp_base.specs.declared.time.Time.{Time}
use Rattle.frp_base.specs.Time.{time_cmp}
use Rattle.frp_base.proofs.Booleans.{both_true, true_both}
use Rattle.frp_base.proofs.OrderLemmas.{time_cmp-transitive, time_cmp-total}
use Rattle.frp_graph.specs.declared.prog.Prog.{Prog}
use Rattle.frp_graph.specs.declared.trace.Moment.{Moment}
use Rattle.frp_graph.specs.declared.trace.Sent.{Sent}
use Rattle.frp_graph.specs.Trace.{moment_at}
use Rattle.frp_graph.specs.Moments.{AtEach, IsMoment, is_due}
use Rattle.frp_graph.specs.Sound.{IsSoundAfter}
use Rattle.frp_graph.specs.TypedProg.{IsTypedProg}
use Rattle.frp_graph.proofs.Lists.{time_eq-same}
use Rattle.frp_graph.proofs.Order.{lt_less, time_cmp-same}
use Rattle.frp_audit.specs.Laws.{IsSoundTrace}
use Rattle.frp_audit.proofs.Pasts.{Earlier, IsPast}
use Rattle.frp_audit.proofs.Grown.{none_past, one_more}
use Rattle.frp_audit.proofs.Dues.{Later, later_more, due_same, at_next, none_at, none_earlier, rise_parts}
use Rattle.frp_audit.proofs.OneTrace.{AreSent, IsNext, one_moment}

-- A moment is due where the one list goes on with it: the other can't go on later.
go_on_at : (sends : List Sent) (past ms rest : List Moment) (m : Moment)
    → is_due sends (past ++ m ∷ ms) m.time ≡ true
    → (is_due sends (past ++ rest) m.time ≡ true → is_some (moment_at (past ++ rest) m.time) ≡ true)
    → Earlier m.time past → Later m.time ms → Later m.time rest → ⊥
go_on_at sends past ms rest m due other earlier later after =
    let none : moment_at past m.time ≡ None = none_earlier m.time past earlier in
    let own = due_same past (m ∷ ms) sends m.time (λ u l. (l, later_more u m.time ms l later)) in
    let theirs = due_same past rest sends m.time (λ u l. later_more u m.time rest l after) in
    let there : is_some (moment_at (past ++ rest) m.time) ≡ true = other (theirs ∙ sym own ∙ due) in
    let not_there : moment_at (past ++ rest) m.time ≡ None = at_next m.time past rest none ∙ none_at m.time rest after in
    let no : is_some (moment_at (past ++ rest) m.time) ≡ false = ap is_some not_there in
    cc

-- a moment of a list is found at its time
pub found_at : (past ms : List Moment) (m : Moment) → Earlier m.time past → is_some (moment_at (past ++ m ∷ ms) m.time) ≡ true
found_at past ms m h =
    let first : moment_at (m ∷ ms) m.time ≡ Some m = rw (time_eq-same m.time) refl in
    ap is_some (at_next m.time past (m ∷ ms) (none_earlier m.time past h) ∙ first)

-- These moments are those that the program has before a time.
pub record AreUntil (prog : Prog) (sends : List Sent) (t : Time) (ms : List Moment) : Type 0 where
  pub rising : IsStrictlySortedBy time_cmp (map (λ m. m.time) ms)
  pub due : (s : Time) → is_some (moment_at ms s) ≡ (is_due sends ms s && is_lt (time_cmp s t))
  pub moments : AtEach (IsMoment prog sends) [] ms
  pub sound : AtEach (IsSoundAfter prog) [] ms

-- These moments are those that the program has before a time, and perhaps later ones.
pub record AreFrom (prog : Prog) (sends : List Sent) (t : Time) (ms : List Moment) : Type 0 where
  pub rising : IsStrictlySortedBy time_cmp (map (λ m. m.time) ms)
  pub due : (s : Time) → is_some (moment_at ms s) ≡ true → is_due sends ms s ≡ true
  pub has : (s : Time) → time_cmp s t ≡ Less → is_due sends ms s ≡ true → is_some (moment_at ms s) ≡ true
  pub moments : AtEach (IsMoment prog sends) [] ms
  pub sound : AtEach (IsSoundAfter prog) [] ms

-- so are those of a whole trace, and those until a later time
pub trace_from : (prog : Prog) (sends : List Sent) (t : Time) (trace : List Moment) → IsSoundTrace prog sends trace → AreFrom prog sends t trace
trace_from prog sends t trace whole = record {
  rising = whole.is_trace.rising;
  due = λ s h. sym (whole.is_trace.due s) ∙ h;
  has = λ s l d. whole.is_trace.due s ∙ d;
  moments = whole.is_trace.moments;
  sound = whole.sound;
}

pub until_from : (prog : Prog) (sends : List Sent) (t u : Time) (ms : List Moment) → AreUntil prog sends u ms → ((s : Time) → time_cmp s t ≡ Less → time_cmp s u ≡ Less) → AreFrom prog sends t ms
until_from prog sends t u ms until less = record {
  rising = until.rising;
  due = λ s h. (both_true (is_due sends ms s) (is_lt (time_cmp s u)) (sym (until.due s) ∙ h)).0;
  has = λ s l d. until.due s ∙ true_both (is_due sends ms s) (is_lt (time_cmp s u)) d (ap is_lt (less s l));
  moments = until.moments;
  sound = until.sound;
}

module _ (prog : Prog) (typed : IsTypedProg prog) (sends : List Sent) (t : Time) (trace few : List Moment) (whole : AreFrom prog sends t trace) (until : AreUntil prog sends t few)
    (sent : (past ms : List Moment) (m : Moment) → IsPast prog past → past ++ m ∷ ms ≡ trace → Earlier m.time past → Later m.time ms → AreSent prog sends past m.time) where
  abbrev Rising : List Moment → Type 0
  Rising ms = IsStrictlySortedBy time_cmp (map (λ m. m.time) ms)

  record AreLeft (past ms ks : List Moment) : Type 0 where
    is_past : IsPast prog past
    own : past ++ ms ≡ trace
    other : past ++ ks ≡ few
    moments : AtEach (IsMoment prog sends) past ms
    sound : AtEach (IsSoundAfter prog) past ms
    moments_too : AtEach (IsMoment prog sends) past ks
    sound_too : AtEach (IsSoundAfter prog) past ks

  parts_own : (past ms : List Moment) (m : Moment) → past ++ m ∷ ms ≡ trace → Earlier m.time past × Later m.time ms
  parts_own past ms m is = rise_parts past ms m (subst Rising (sym is) whole.rising)

  parts_other : (past ks : List Moment) (k : Moment) → past ++ k ∷ ks ≡ few → Earlier k.time past × Later k.time ks
  parts_other past ks k is = rise_parts past ks k (subst Rising (sym is) until.rising)

  -- a moment of the trace is due in it, and what is due in it has a moment
  due_own : (past ms : List Moment) (m : Moment) → past ++ m ∷ ms ≡ trace → is_due sends (past ++ m ∷ ms) m.time ≡ true
  due_own past ms m is = subst (λ (ks : List Moment). is_some (moment_at ks m.time) ≡ true → is_due sends ks m.time ≡ true) (sym is) (whole.due m.time) (found_at past ms m (parts_own past ms m is).0)

  has_own : (past ms : List Moment) (s : Time) → past ++ ms ≡ trace → time_cmp s t ≡ Less → is_due sends (past ++ ms) s ≡ true → is_some (moment_at (past ++ ms) s) ≡ true
  has_own past ms s is l = subst (λ (ks : List Moment). is_due sends ks s ≡ true → is_some (moment_at ks s) ≡ true) (sym is) (whole.has s l)

  -- and so it is of the others before t
  other_due : (past ks : List Moment) (k : Moment) → past ++ k ∷ ks ≡ few → (is_due sends (past ++ k ∷ ks) k.time ≡ true) × (time_cmp k.time t ≡ Less)
  other_due past ks k is =
      let e = subst (λ (ms : List Moment). is_some (moment_at ms k.time) ≡ (is_due sends ms k.time && is_lt (time_cmp k.time t))) (sym is) (until.due k.time) in
      let p = both_true _ _ (sym e ∙ found_at past ks k (parts_other past ks k is).0) in
      (p.0, lt_less (time_cmp k.time t) p.1)

  has_other : (past ks : List Moment) (s : Time) → past ++ ks ≡ few → time_cmp s t ≡ Less → is_due sends (past ++ ks) s ≡ true → is_some (moment_at (past ++ ks) s) ≡ true
  has_other past ks s is l d =
      subst (λ (ms : List Moment). is_some (moment_at ms s) ≡ (is_due sends ms s && is_lt (time_cmp s t))) (sym is) (until.due s)
      ∙ true_both _ _ d (ap is_lt l)

  same_time : (past ms ks : List Moment) (m k : Moment) → past ++ m ∷ ms ≡ trace → past ++ k ∷ ks ≡ few → m.time ≡ k.time
  same_time past ms ks m k e f =
      let p = parts_own past ms m e in
      let q = parts_other past ks k f in
      let d = other_due past ks k f in
      elim (time_cmp-total m.time k.time) [
        | inl l ↦
            absurd (go_on_at sends past ms (k ∷ ks) m (due_own past ms m e) (has_other past (k ∷ ks) m.time f (time_cmp-transitive m.time k.time t l d.1))
            p.0 p.1 (l, later_more m.time k.time ks l q.1))
        | inr (inl s) ↦ s
        | inr (inr g) ↦
            absurd (go_on_at sends past ks (m ∷ ms) k d.0 (has_own past (m ∷ ms) k.time e d.1) q.0 q.1 (g, later_more k.time m.time ms g p.1))
      ]

  -- The trace begins with these moments, and they are past.
  pub record Begins (ms ks : List Moment) : Type 0 where
    pub rest : List Moment
    pub is : ms ≡ ks ++ rest
    pub is_past : IsPast prog few

  begins_from : (past ms ks : List Moment) → AreLeft past ms ks → Begins ms ks
  begins_from past ms [] h =
      record { rest = ms; is = refl; is_past = subst (λ (ks : List Moment). IsPast prog ks) (sym (append-nil past) ∙ h.other) h.is_past }
  begins_from past [] (k ∷ ks) h =
      let q = parts_other past ks k h.other in
      let d = other_due past ks k h.other in
      absurd (go_on_at sends past ks [] k d.0 (has_own past [] k.time h.own d.1) q.0 q.1 tt)
  begins_from past (m ∷ ms) (k ∷ ks) h =
      let p = parts_own past ms m h.own in
      let q = parts_other past ks k h.other in
      let time = same_time past ms ks m k h.own h.other in
      let sent_m = sent past ms m h.is_past h.own p.0 p.1 in
      let sent_k : AreSent prog sends past k.time = subst (AreSent prog sends past) time sent_m in
      let one : IsNext prog typed sends past h.is_past m = record { earlier = p.0; happens = h.moments.0; sound = h.sound.0; sent = sent_m } in
      let two : IsNext prog typed sends past h.is_past k = record { earlier = q.0; happens = h.moments_too.0; sound = h.sound_too.0; sent = sent_k } in
      let same : m ≡ k = one_moment prog typed sends past h.is_past m k one two time in
      let more = begins_from (past ++ m ∷ []) ms ks (record {
        is_past = one_more prog typed sends past h.is_past m p.0 h.moments.0 h.sound.0 sent_m;
        own = append_assoc past (m ∷ []) ms ∙ h.own;
        other = ap (λ (j : Moment). (past ++ j ∷ []) ++ ks) same ∙ append_assoc past (k ∷ []) ks ∙ h.other;
        moments = h.moments.1;
        sound = h.sound.1;
        moments_too = subst (λ (j : Moment). AtEach (IsMoment prog sends) (past ++ j ∷ []) ks) (sym same) h.moments_too.1;
        sound_too = subst (λ (j : Moment). AtEach (IsSoundAfter prog) (past ++ j ∷ []) ks) (sym same) h.sound_too.1;
      }) in
      record { rest = more.rest; is = λ i. same i ∷ more.is i; is_past = more.is_past }

  pub begins : Begins trace few
  begins = begins_from [] trace few (record {
    is_past = none_past prog typed;
    own = refl;
    other = refl;
    moments = whole.moments;
    sound = whole.sound;
    moments_too = until.moments;
    sound_too = until.sound;
  })

  -- Where t is due after them, the trace goes on with a moment at t.
  pub record GoesOn : Type 0 where
    pub moment : Moment
    pub later : List Moment
    pub is : trace ≡ few ++ moment ∷ later
    pub at : moment.time ≡ t
    pub is_past : IsPast prog few

  not_yet : is_some (moment_at few t) ≡ true → ⊥
  not_yet h =
      let p = both_true (is_due sends few t) (is_lt (time_cmp t t)) (sym (until.due t) ∙ h) in
      let l : time_cmp t t ≡ Less = lt_less (time_cmp t t) p.1 in
      let e : time_cmp t t ≡ Equal = time_cmp-same t in
      cc

  module _ (at_t : is_due sends trace t ≡ true → is_some (moment_at trace t) ≡ true) where
    has_at : (rest : List Moment) → trace ≡ few ++ rest → is_due sends (few ++ rest) t ≡ true → is_some (moment_at (few ++ rest) t) ≡ true
    has_at rest is = subst (λ (ks : List Moment). is_due sends ks t ≡ true → is_some (moment_at ks t) ≡ true) is at_t

    goes_on_with : (rest : List Moment) → trace ≡ few ++ rest → IsPast prog few → is_due sends few t ≡ true → GoesOn
    goes_on_with [] is past due =
        let same : few ++ [] ≡ few = append-nil few in
        absurd (not_yet (subst (λ (ks : List Moment). is_some (moment_at ks t) ≡ true) same (has_at [] is (subst (λ (ks : List Moment). is_due sends ks t ≡ true) (sym same) due))))
    goes_on_with (m ∷ ms) is past due =
        let p = parts_own few ms m (sym is) in
        elim (time_cmp-total m.time t) [
          | inl l ↦ absurd (go_on_at sends few ms [] m (due_own few ms m (sym is)) (has_other few [] m.time (append-nil few) l) p.0 p.1 tt)
          | inr (inl e) ↦ record { moment = m; later = ms; is = is; at = e; is_past = past }
          | inr (inr g) ↦
              let own = due_same few (m ∷ ms) sends t (λ u l. (time_cmp-transitive u t m.time l g, later_more u m.time ms (time_cmp-transitive u t m.time l g) p.1)) in
              let there = has_at (m ∷ ms) is (own ∙ due) in
              absurd (by (moment_at few t) refl there g p.1)
        ]
      where
        by : (o : Option Moment) → moment_at few t ≡ o → is_some (moment_at (few ++ m ∷ ms) t) ≡ true → time_cmp t m.time ≡ Less → Later m.time ms → ⊥
        by (Some k) e h g l = not_yet (ap is_some e)
        by None e h g l =
            let none : moment_at (few ++ m ∷ ms) t ≡ None = at_next t few (m ∷ ms) e ∙ none_at t (m ∷ ms) (g, later_more t m.time ms g l) in
            let no : is_some (moment_at (few ++ m ∷ ms) t) ≡ false = ap is_some none in
            cc

    pub goes_on : is_due sends few t ≡ true → GoesOn
    goes_on due = let b = begins in goes_on_with b.rest b.is b.is_past due

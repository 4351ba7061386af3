-- Of a transaction there is one verdict.
use Rattle.std.proofs.Common.{◌≡◌, ◌⊎◌, ℕ, suc, ◌+◌, ◌<◌, ◌≤◌, true, false, List, [], ◌∷◌, ◌++◌, map, length, refl, sym, ap, ◌∙◌, subst, arith, append_assoc, append-nil, length-append}
use Rattle.std.proofs.Common.{inl, inr}
use Rattle.std.specs.Prelude.{is_some}
use Rattle.std.specs.List.{list_all}
use Rattle.std.specs.List.Sorted.{IsStrictlySortedBy}
use Rattle.std.specs.Ordering.{is_lt}
use Rattle.std.specs.declared.cmp.Ordering.TheVariants.{Less}
use Rattle.frp_base.specs.declared.time.Time.{Time}
use Rattle.frp_base.specs.Time.{time_cmp}
use Rattle.frp_base.proofs.Booleans.{both_true, true_both}
use Rattle.frp_base.proofs.OrderLemmas.{time_cmp-transitive, time_cmp-total}
use Rattle.frp_graph.specs.declared.prog.Prog.{Prog}
use Rattle.frp_graph.specs.declared.limits.Limits.{Limits}
use Rattle.frp_graph.specs.declared.trace.Moment.{Moment}
use Rattle.frp_graph.specs.declared.trace.Sent.{Sent}
use Rattle.frp_graph.specs.declared.evidence.Evidence.{Evidence}
use Rattle.frp_graph.specs.declared.evidence.Why.{Why}
use Rattle.frp_graph.specs.declared.evidence.Why.TheVariants.{Chain, Endless, Full}
use Rattle.frp_graph.specs.Trace.{live, moment_at, sight_of}
use Rattle.frp_graph.specs.Births.{build, file_plans}
use Rattle.frp_graph.specs.Evidence.{is_below, Shows, IsEndless, MeetsRules}
use Rattle.frp_graph.specs.Links.{IsChainless}
use Rattle.frp_graph.specs.Moments.{AtEach, IsMoment, is_due, is_of_transaction}
use Rattle.frp_graph.specs.Sends.{AreSendable}
use Rattle.frp_graph.specs.Sound.{IsSoundAfter}
use Rattle.frp_graph.specs.TypedProg.{IsTypedProg}
use Rattle.frp_graph.proofs.Before.{before_first}
use Rattle.frp_graph.proofs.Order.{lt_less}
use Rattle.frp_audit.specs.Laws.{is_chain, is_endless, is_full, EvidenceExcludes, EndlessByAll}
use Rattle.frp_audit.proofs.Pasts.{Earlier, IsPast}
use Rattle.frp_audit.proofs.OneTrace.{AreSent, sent_typed}
use Rattle.frp_audit.proofs.Dues.{Later, rise_parts}
use Rattle.frp_audit.proofs.Beginnings.{AreUntil, AreFrom, Begins, GoesOn, found_at, until_from, begins, goes_on}
use Rattle.frp_audit.proofs.Excluded.{reached_until, each_at, chains_exclude}
use Rattle.frp_audit.proofs.NoRoom.{live_more, full_excludes}
use Rattle.frp_audit.proofs.MoreDue.{none_less}
use Rattle.frp_audit.proofs.NoEnd.{endless_excludes}
use Rattle.frp_audit.proofs.TooMany.{file_room}
use Rattle.frp_audit.proofs.Ended as ended
use Rattle.frp_audit.proofs.Only.{only_endless}
use Rattle.frp_audit.proofs.Sendable.{sendable_more}

-- each moment until a time is before it
until_earlier : (prog : Prog) (sends : List Sent) (t : Time) (ms : List Moment) → AreUntil prog sends t ms → Earlier t ms
until_earlier prog sends t ms until = from [] ms refl where
  from : (front rest : List Moment) → front ++ rest ≡ ms → Earlier t rest
  from front [] is = tt
  from front (m ∷ rest) is =
      let p = rise_parts front rest m (subst (λ (ks : List Moment). IsStrictlySortedBy time_cmp (map (λ m. m.time) ks)) (sym is) until.rising) in
      let found : is_some (moment_at (front ++ m ∷ rest) m.time) ≡ true = found_at front rest m p.0 in
      let there : is_some (moment_at ms m.time) ≡ true = subst (λ (ks : List Moment). is_some (moment_at ks m.time) ≡ true) is found in
      let both = both_true (is_due sends ms m.time) (is_lt (time_cmp m.time t)) (sym (until.due m.time) ∙ there) in
      (lt_less (time_cmp m.time t) both.1, from (front ++ m ∷ []) rest (append_assoc front (m ∷ []) rest ∙ is))

-- Two pieces of evidence over the same moments, of which the one shows that the transaction is endless.
module _ (prog : Prog) (typed : IsTypedProg prog) (limits : Limits) (sends : List Sent) (k : ℕ) (before : List Moment) (sendable : AreSendable prog sends before)
    (e f : Evidence) (own : MeetsRules prog limits sends k (before ++ e.done) e) (other : MeetsRules prog limits sends k (before ++ f.done) f) (limit : ℕ)
    (shows : IsEndless prog sends (sight_of (before ++ e.done) e.last) e.last (is_below e.ranks e.level) limits k (before ++ e.done) e.done limit) where
  abbrev past : List Moment
  past = before ++ e.done

  abbrev theirs : List Moment
  theirs = before ++ f.done

  until : AreUntil prog sends e.last.time past
  until = reached_until prog limits sends k past e own

  until_too : AreUntil prog sends f.last.time theirs
  until_too = reached_until prog limits sends k theirs f other

  sent : (ms later : List Moment) (m : Moment) → IsPast prog ms → ms ++ m ∷ later ≡ past → Earlier m.time ms → Later m.time later
      → AreSent prog sends ms m.time
  sent ms later m is_past is a b = sent_typed prog typed sends past (sendable_more prog before e.done sends sendable) ms later m is_past is a b

  sent_too : (ms later : List Moment) (m : Moment) → IsPast prog ms → ms ++ m ∷ later ≡ theirs → Earlier m.time ms → Later m.time later
      → AreSent prog sends ms m.time
  sent_too ms later m is_past is a b = sent_typed prog typed sends theirs (sendable_more prog before f.done sends sendable) ms later m is_past is a b

  -- The other's last time is later: then it has more moments than there are to be.
  later_one : time_cmp e.last.time f.last.time ≡ Less → ⊥
  later_one l =
      let from : AreFrom prog sends e.last.time theirs
      = until_from prog sends e.last.time f.last.time theirs until_too (λ s a. time_cmp-transitive s e.last.time f.last.time a l) in
      let n : GoesOn prog typed sends e.last.time theirs past from until sent_too
      = goes_on prog typed sends e.last.time theirs past from until sent_too
      (λ d. until_too.due e.last.time ∙ true_both (is_due sends theirs e.last.time) (is_lt (time_cmp e.last.time f.last.time)) d (ap is_lt l)) own.reached.last_due in
      let whole : length (before ++ f.done) ≡ length ((before ++ e.done) ++ n.moment ∷ n.later) = ap length n.is in
      let a : length (before ++ f.done) ≡ length before + length f.done = simp length-append refl in
      let b : length ((before ++ e.done) ++ n.moment ∷ n.later) ≡ (length before + length e.done) + length (n.moment ∷ n.later)
      = simp length-append refl in
      let c : length (n.moment ∷ n.later) ≡ suc (length n.later) = refl in
      let room = other.reached.room in
      let is_limit = shows.is_limit in
      let settled = shows.settled in
      omega arith

  -- It is earlier: then the one has a moment there.
  earlier_one : time_cmp f.last.time e.last.time ≡ Less → is_endless f.why ≡ true
  earlier_one l =
      let from : AreFrom prog sends f.last.time past
      = until_from prog sends f.last.time e.last.time past until (λ s a. time_cmp-transitive s f.last.time e.last.time a l) in
      let n : GoesOn prog typed sends f.last.time past theirs from until_too sent
      = goes_on prog typed sends f.last.time past theirs from until_too sent
      (λ d. until.due f.last.time ∙ true_both (is_due sends past f.last.time) (is_lt (time_cmp f.last.time e.last.time)) d (ap is_lt l)) other.reached.last_due in
      let p
      = rise_parts theirs n.later n.moment (subst (λ (ms : List Moment). IsStrictlySortedBy time_cmp (map (λ m. m.time) ms)) n.is until.rising) in
      let happens : IsMoment prog sends theirs n.moment
      = each_at (IsMoment prog sends) theirs n.later n.moment (subst (λ (ms : List Moment). AtEach (IsMoment prog sends) [] ms) n.is until.moments) in
      let sound : IsSoundAfter prog theirs n.moment
      = each_at (IsSoundAfter prog) theirs n.later n.moment (subst (λ (ms : List Moment). AtEach (IsSoundAfter prog) [] ms) n.is until.sound) in
      let more = live_more theirs n.later n.moment in
      let same : length (live past) ≡ length (live (theirs ++ n.moment ∷ n.later)) = ap (λ (ms : List Moment). length (live ms)) n.is in
      let few : length (live past) ≤ limits.nodes = own.reached.within.nodes in
      only_endless prog typed limits sends k theirs f other n.is_past n.moment n.at p.0 happens sound.chainless
      (sent theirs n.later n.moment n.is_past (sym n.is) p.0 p.1) (omega arith)

  -- It is the same: then so are the moments before it, and the one's last time is settled.
  no_rest : (few many rest back : List Moment) → many ≡ few ++ rest → few ≡ many ++ back → few ≡ many
  no_rest few many [] back e f = sym (e ∙ append-nil few)
  no_rest few many (m ∷ ms) back e f =
      let a : length many ≡ length (few ++ m ∷ ms) = ap length e in
      let b : length (few ++ m ∷ ms) ≡ length few + length (m ∷ ms) = simp length-append refl in
      let c : length (m ∷ ms) ≡ suc (length ms) = refl in
      let d : length few ≡ length (many ++ back) = ap length f in
      let g : length (many ++ back) ≡ length many + length back = simp length-append refl in
      absurd (omega arith)

  same_one : e.last.time ≡ f.last.time → is_endless f.why ≡ true
  same_one time =
      let until_e : AreUntil prog sends f.last.time past = subst (λ t. AreUntil prog sends t past) time until in
      let from : AreFrom prog sends f.last.time past = until_from prog sends f.last.time f.last.time past until_e (λ s a. a) in
      let from_too : AreFrom prog sends f.last.time theirs = until_from prog sends f.last.time f.last.time theirs until_too (λ s a. a) in
      let a : Begins prog typed sends f.last.time past theirs from until_too sent past theirs
      = begins prog typed sends f.last.time past theirs from until_too sent in
      let b : Begins prog typed sends f.last.time theirs past from_too until_e sent_too theirs past
      = begins prog typed sends f.last.time theirs past from_too until_e sent_too in
      let same : theirs ≡ past = no_rest theirs past a.rest b.rest a.is b.is in
      let earlier : Earlier e.last.time past = until_earlier prog sends e.last.time past until in
      let is_past : IsPast prog past = b.is_past in
      let happens : IsMoment prog sends past e.last = ended.happens prog typed limits sends k past e own is_past earlier limit shows in
      let sent_last : AreSent prog sends past e.last.time
      = sent_typed prog typed sends (past ++ e.last ∷ [])
      (subst (λ (ms : List Moment). AreSendable prog sends ms) (sym (append_assoc before e.done (e.last ∷ []))) (sendable_more prog before (e.done ++ e.last ∷ []) sends sendable))
      past [] e.last is_past refl earlier tt in
      only_endless prog typed limits sends k theirs f other a.is_past e.last time
      (subst (λ (ms : List Moment). Earlier e.last.time ms) (sym same) earlier)
      (subst (λ (ms : List Moment). IsMoment prog sends ms e.last) (sym same) happens)
      (subst (λ (ms : List Moment). IsChainless (sight_of ms e.last)) (sym same) shows.chainless)
      (subst (λ (ms : List Moment). AreSent prog sends ms e.last.time) (sym same) sent_last)
      (subst (λ (ms : List Moment). length (live (ms ++ e.last ∷ [])) ≤ limits.nodes) (sym same) shows.few_nodes)

  pub endless_both : is_endless f.why ≡ true
  endless_both = elim (time_cmp-total e.last.time f.last.time) [
    | inl l ↦ absurd (later_one l)
    | inr (inl s) ↦ same_one s
    | inr (inr g) ↦ earlier_one g
  ]

-- No file is too large of whose build more moments than the limit are shown.
module _ (prog : Prog) (limits : Limits) (sends : List Sent) (k : ℕ) (past : List Moment) (e : Evidence) (own : MeetsRules prog limits sends k past e)
    (of_build : k ≡ 0) (large : limits.nodes < length (file_plans prog)) where
  has_build : is_lt (time_cmp build e.last.time) ≡ true → ⊥
  has_build l =
      let fits = file_room prog sends past own.reached.moments (own.reached.due build ∙ l) in
      let few : length (live past) ≤ limits.nodes = own.reached.within.nodes in
      omega arith

  is_build : e.last.time ≡ build → ⊥
  is_build is =
      let fits : length (file_plans prog) ≤ limits.nodes = own.births.file_fits is in
      omega arith

  last_of : (done : List Moment) → list_all (λ m. is_of_transaction k m.time) (done ++ e.last ∷ []) ≡ true → is_of_transaction k e.last.time ≡ true
  last_of [] h = (both_true (is_of_transaction k e.last.time) true h).0
  last_of (m ∷ ms) h = last_of ms (both_true (is_of_transaction k m.time) (list_all (λ m. is_of_transaction k m.time) (ms ++ e.last ∷ [])) h).1

  -- no time of a transaction is before the build
  none_sooner : (t : Time) → is_of_transaction k t ≡ true → time_cmp t build ≡ Less → ⊥
  none_sooner [] of l = absurd cc
  none_sooner (n ∷ t) of l = none_less n (sym (before_first n 0 t) ∙ ap is_lt l)

  pub none_large : ⊥
  none_large = elim (time_cmp-total build e.last.time) [
    | inl l ↦ has_build (ap is_lt l)
    | inr (inl s) ↦ is_build (sym s)
    | inr (inr g) ↦ none_sooner e.last.time (last_of e.done own.reached.of_this) g
  ]

each_why : (y : Why) → (is_chain y ≡ true) ⊎ (is_endless y ≡ true) ⊎ (is_full y ≡ true)
each_why (Chain phase names) = inl refl
each_why (Endless limit) = inr (inl refl)
each_why (Full node limit) = inr (inr refl)

-- what evidence of an end of moments shows
shown_end : (prog : Prog) (limits : Limits) (sends : List Sent) (k : ℕ) (past : List Moment) (e : Evidence) (rules : MeetsRules prog limits sends k past e) → is_endless e.why ≡ true
    → (limit : ℕ) × IsEndless prog sends (sight_of past e.last) e.last (is_below e.ranks e.level) limits k past e.done limit
shown_end prog limits sends k past e rules h = by e.why h rules.cause where
  by : (y : Why) → is_endless y ≡ true → Shows prog sends (sight_of past e.last) e.last (is_below e.ranks e.level) limits k past e.done y
      → (limit : ℕ) × IsEndless prog sends (sight_of past e.last) e.last (is_below e.ranks e.level) limits k past e.done limit
  by (Endless limit) h shows = (limit, shows)
  by (Chain phase names) h shows = absurd cc
  by (Full node limit) h shows = absurd cc

pub evidence_excludes : EvidenceExcludes
evidence_excludes prog limits sends k before moments e typed shown sendable whole keeps = elim (each_why e.why) [
  | inl c ↦ chains_exclude prog limits sends k before moments e typed shown c sendable whole
  | inr (inl n) ↦ endless_excludes prog limits sends k before moments e typed shown n sendable whole keeps
  | inr (inr f) ↦ full_excludes prog limits sends k before moments e typed shown f sendable whole keeps
]

pub endless_by_all : EndlessByAll
endless_by_all prog limits sends k before e f typed sendable own other endless = elim own [
  | inl large ↦ (let none : is_endless e.why ≡ false = ap is_endless large.cause in absurd cc)
  | inr rules ↦
      let s = shown_end prog limits sends k (before ++ e.done) e rules endless in
      elim other [
        | inl large ↦ absurd (none_large prog limits sends k (before ++ e.done) e rules large.of_build large.too_many)
        | inr theirs ↦ endless_both prog typed limits sends k before sendable e f rules theirs s.0 s.1
      ]
]

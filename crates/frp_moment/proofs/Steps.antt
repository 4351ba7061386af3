-- The ways of change.
use Rattle.std.proofs.Common.{◌≡◌, ◌≢◌, ℕ, ◌<◌, ◌≤◌, eqb, leb, Bool, true, false, cond, not, ◌&&◌, ◌||◌, None, ◌⊎◌, inl, inr, refl, sym, ap, ◌∙◌, subst, arith, eq-eqb}
use mathlib.Core.Bool.{true≢false}
use Rattle.std.proofs.lemmas.Bool.{cases_eq}
use Rattle.std.proofs.lemmas.Bool.Decides.{nat_tests}
use Rattle.frp_base.proofs.Booleans.{either_true, or_true, bool_cases, is_false}
use Rattle.frp_rank.specs.Order.{LeadsLower}
use Rattle.frp_moment.specs.Stands.{is_among, is_place, Ground, is_link, IsGround, State, holds, Stands, Takes, TakingKeeps, Loosens, LooseningKeeps, Tightens, TighteningKeeps, Births, BirthKeeps, EndSettles, EvidenceShows}

holds_link : (a l b : Bool) → l ≡ false → (a || (not l && b)) ≡ (a || b)
holds_link a l b e = ap (λ k. a || (not k && b)) e

is_le : (a b : ℕ) → a ≤ b → leb a b ≡ true
is_le a b h = grind (arith, nat_tests)

le_is : (a b : ℕ) → leb a b ≡ true → a ≤ b
le_is a b h = grind (arith, nat_tests)

le_not : (a b : ℕ) → leb a b ≡ false → b < a
le_not a b h = grind (arith, nat_tests)

-- links of a node that isn't loose are kept, so they lead lower
module _ (g : Ground) (s : State) (st : Stands g s) (x : ℕ) (l : g.live x ≡ true) (tight : s.loose x ≡ false) where
  pub link_kept : (n : ℕ) → is_link g s.facts x n ≡ s.kept x n
  link_kept n = sym (holds_link (is_among (g.firm x) n) (s.loose x) (is_place (g.inner s.facts x) n) tight) ∙ sym (st.links x n l)

  pub link_lower : (n : ℕ) → is_link g s.facts x n ≡ true → s.rank n < s.rank x
  link_lower n h = st.lower x n (sym (link_kept n) ∙ h)

  pub link_live : (n : ℕ) → is_link g s.facts x n ≡ true → g.live n ≡ true
  link_live n h = st.inside x n l (sym (link_kept n) ∙ h)

module _ (g : Ground) (s : State) (r : ℕ) (batch : ℕ → Bool) (next : State) (o : IsGround g) (st : Stands g s) (t : Takes g s r batch next) where
  fresh : (x : ℕ) → batch x ≡ true → next.facts x ≡ g.row s.facts x
  fresh x b = t.facts x ∙ ap (λ c. cond c (g.row s.facts x) (s.facts x)) b

  stay : (x : ℕ) → batch x ≡ false → next.facts x ≡ s.facts x
  stay x b = t.facts x ∙ ap (λ c. cond c (g.row s.facts x) (s.facts x)) b

  low : (x : ℕ) → s.rank x < r → s.facts x ≡ next.facts x
  low x h = elim (bool_cases (batch x)) [
    | inl b ↦ let e = (t.queued x b).1 in absurd (omega arith)
    | inr b ↦ sym (stay x b)
  ]

  tight : (x : ℕ) → g.live x ≡ true → next.known x ≡ true → s.loose x ≡ false
  tight x l k = is_false _ (λ h. true≢false (sym k ∙ t.loose x l h))

  rank_low : (x : ℕ) → g.live x ≡ true → next.known x ≡ true → s.rank x ≤ r
  rank_low x l k = le_is _ _ (sym (t.known x l) ∙ k)

  same_row : (x : ℕ) → g.live x ≡ true → next.known x ≡ true → g.row s.facts x ≡ g.row next.facts x
  same_row x l k = o.row_reads s.facts next.facts x (λ n h.
      let d = link_lower g s st x l (tight x l k) n h in
      let e = rank_low x l k in
      low n (omega arith))

  -- a node that is known now and wasn't queued has the occurrence of its row
  old_row : (x : ℕ) → g.live x ≡ true → batch x ≡ false → next.known x ≡ true → s.facts x ≡ g.row s.facts x
  old_row x l b k = elim (bool_cases (s.known x)) [
    | inl h ↦ st.meets x l h
    | inr h ↦
        let q : s.queued x ≡ false = is_false _ (λ q. let e = t.least x q in let f = rank_low x l k in let z : s.rank x ≡ r = omega arith in true≢false (sym (t.all x q z) ∙ b)) in
        st.silent x l h ∙ sym (o.row_none s.facts x (st.calm x l h q) (λ n m. st.quiet x n l h q m))
  ]

  meets : (x : ℕ) → g.live x ≡ true → next.known x ≡ true → next.facts x ≡ g.row next.facts x
  meets x l k = elim (bool_cases (batch x)) [
    | inl b ↦ fresh x b ∙ same_row x l k
    | inr b ↦ stay x b ∙ old_row x l b k ∙ same_row x l k
  ]

  batch_known : (x : ℕ) → batch x ≡ true → next.known x ≡ true
  batch_known x b = let q = t.queued x b in t.known x (st.queued_live x q.0) ∙ is_le _ _ (let e = q.1 in omega arith)

  still : (x : ℕ) → g.live x ≡ true → next.known x ≡ false → s.known x ≡ false
  still x l k = is_false _ (λ h. let e = t.above x l h in true≢false (sym (t.known x l ∙ is_le _ _ e) ∙ k))

  unbatched : (x : ℕ) → next.known x ≡ false → batch x ≡ false
  unbatched x k = is_false _ (λ b. true≢false (sym (batch_known x b) ∙ k))

  silent : (x : ℕ) → g.live x ≡ true → next.known x ≡ false → next.facts x ≡ None
  silent x l k = stay x (unbatched x k) ∙ st.silent x l (still x l k)

  only_live : (x : ℕ) → g.live x ≡ false → next.facts x ≡ None
  only_live x l = stay x (is_false _ (λ b. true≢false (sym (st.queued_live x (t.queued x b).0) ∙ l))) ∙ st.only_live x l

  down : (n m : ℕ) → g.live n ≡ true → g.live m ≡ true → next.known n ≡ true → next.rank m ≤ next.rank n → next.known m ≡ true
  down n m ln l k h = t.known m l ∙ is_le _ _ (let e = rank_low n ln k in let a = t.same_rank m in let b = t.same_rank n in omega arith)

  links : (x n : ℕ) → g.live x ≡ true → next.kept x n ≡ holds g next x n
  links x n l = t.same_kept x n ∙ st.links x n l ∙ elim (bool_cases (s.loose x)) [
    | inl h ↦ loosely h
    | inr h ↦ ap (λ w. is_among (g.firm x) n || (not (s.loose x) && is_place w n)) (sym (t.turned x l h)) ∙ ap (λ w. is_among (g.firm x) n || (not w && is_place (g.inner next.facts x) n)) (sym (t.same_loose x))
  ]
    where
      loosely : s.loose x ≡ true → holds g s x n ≡ holds g next x n
      loosely h = ap (λ w. is_among (g.firm x) n || (not w && is_place (g.inner s.facts x) n)) h ∙ ap (λ w. is_among (g.firm x) n || (not w && is_place (g.inner next.facts x) n)) (sym (t.same_loose x ∙ h))

  was_calm : (x : ℕ) → next.known x ≡ false → next.queued x ≡ false → s.queued x ≡ false
  was_calm x k q = is_false _ (λ h. elim (bool_cases (batch x)) [
    | inl b ↦ true≢false (sym (batch_known x b) ∙ k)
    | inr b ↦ true≢false (sym (t.stays x h b) ∙ q)
  ])

  -- the links of a node that isn't woken have not fired
  module _ (x : ℕ) (l : g.live x ≡ true) (k : next.known x ≡ false) (q : next.queued x ≡ false) where
    before : (n : ℕ) → is_link g s.facts x n ≡ true → next.facts n ≡ None
    before n h = elim (bool_cases (batch n)) [
      | inl b ↦ fresh n b ∙ t.wakes x n l k b h q
      | inr b ↦ stay n b ∙ st.quiet x n l (still x l k) (was_calm x k q) h
    ]

    was : (n : ℕ) → is_link g s.facts x n ≡ true → s.facts n ≡ None
    was n h = st.quiet x n l (still x l k) (was_calm x k q) h

    firm_link : (n : ℕ) → is_among (g.firm x) n ≡ true → is_link g s.facts x n ≡ true
    firm_link n h = ap (λ b. b || is_place (g.inner s.facts x) n) h

    pub same_inner : g.inner next.facts x ≡ g.inner s.facts x
    same_inner = o.inner_reads next.facts s.facts x (λ n h. before n (firm_link n h) ∙ sym (was n (firm_link n h)))

    quiet : (n : ℕ) → is_link g next.facts x n ≡ true → next.facts n ≡ None
    quiet n h = before n (ap (λ w. is_among (g.firm x) n || is_place w n) (sym same_inner) ∙ h)

  pub stands_taken : Stands g next
  stands_taken = record {
    meets = meets;
    silent = silent;
    only_live = only_live;
    down = down;
    lower = λ a b h. subst (λ z. z < next.rank a) (sym (t.same_rank b)) (subst (λ z. s.rank b < z) (sym (t.same_rank a)) (st.lower a b (sym (t.same_kept a b) ∙ h)));
    inside = λ x n l h. st.inside x n l (sym (t.same_kept x n) ∙ h);
    links = links;
    loose_new = λ x l h. t.loose x l (sym (t.same_loose x) ∙ h);
    queued_live = t.next_live;
    queued_new = t.next_new;
    calm = λ x l k q. st.calm x l (still x l k) (was_calm x k q);
    quiet = λ x n l k q h. quiet x l k q n h;
  }

pub taking_keeps : TakingKeeps
taking_keeps g s r batch next o st t = stands_taken g s r batch next o st t

-- ranks, kept links and loose nodes may change, where facts, known and queued nodes stay
module _ (g : Ground) (s : State) (next : State) (o : IsGround g) (st : Stands g s) (f : (x : ℕ) → next.facts x ≡ s.facts x)
    (e : (x : ℕ) → g.live x ≡ true → next.known x ≡ s.known x) (q : (x : ℕ) → next.queued x ≡ s.queued x) where
  inner_stays : (x : ℕ) → g.inner next.facts x ≡ g.inner s.facts x
  inner_stays x = o.inner_reads next.facts s.facts x (λ n h. f n)

  link_stays : (x n : ℕ) → is_link g next.facts x n ≡ is_link g s.facts x n
  link_stays x n = ap (λ w. is_among (g.firm x) n || is_place w n) (inner_stays x)

  row_stays : (x : ℕ) → g.row s.facts x ≡ g.row next.facts x
  row_stays x = o.row_reads s.facts next.facts x (λ n h. sym (f n))

  changed : LeadsLower next.kept next.rank
      → ((k m : ℕ) → g.live k ≡ true → g.live m ≡ true → next.known k ≡ true → next.rank m ≤ next.rank k → next.known m ≡ true)
      → ((x n : ℕ) → g.live x ≡ true → next.kept x n ≡ true → g.live n ≡ true)
      → ((x n : ℕ) → g.live x ≡ true → next.kept x n ≡ holds g next x n)
      → ((x : ℕ) → g.live x ≡ true → next.loose x ≡ true → next.known x ≡ false) → Stands g next
  changed lower down inside links loose = record {
    meets = λ x l k. f x ∙ st.meets x l (sym (e x l) ∙ k) ∙ row_stays x;
    silent = λ n l k. f n ∙ st.silent n l (sym (e n l) ∙ k);
    only_live = λ n l. f n ∙ st.only_live n l;
    down = down;
    lower = lower;
    inside = inside;
    links = links;
    loose_new = loose;
    queued_live = λ x h. st.queued_live x (sym (q x) ∙ h);
    queued_new = λ x h. e x (st.queued_live x (sym (q x) ∙ h)) ∙ st.queued_new x (sym (q x) ∙ h);
    calm = λ x l k u. st.calm x l (sym (e x l) ∙ k) (sym (q x) ∙ u);
    quiet = λ x n l k u h. f n ∙ st.quiet x n l (sym (e x l) ∙ k) (sym (q x) ∙ u) (sym (link_stays x n) ∙ h);
  }

-- tables of tests
drop_table : (f q : Bool) → cond (q && not f) false (f || q) ≡ f
drop_table true true = refl
drop_table true false = refl
drop_table false true = refl
drop_table false false = refl

drop_loose : (f q l : Bool) → l ≡ true → f ≡ (f || (not l && q))
drop_loose true q l e = refl
drop_loose false q l e = sym (ap (λ w. not w && q) e)

raise_table : (f q l : Bool) → cond q true (f || (not l && q)) ≡ (f || q)
raise_table true true l = refl
raise_table true false l = refl
raise_table false true l = refl
raise_table false false true = refl
raise_table false false false = refl

module _ (g : Ground) (s : State) (y : ℕ) (next : State) (o : IsGround g) (st : Stands g s) (t : Loosens g s y next) where
  kept_was : (x k : ℕ) → next.kept x k ≡ true → s.kept x k ≡ true
  kept_was x k h = only_was _ _ (sym (t.kept x k) ∙ h)
    where
      only_was : (b c : Bool) → cond b false c ≡ true → c ≡ true
      only_was true c h = absurd (true≢false (sym h))
      only_was false c h = h

  loose_y : next.loose y ≡ true
  loose_y = t.loose y ∙ ap (λ w. cond w true (s.loose y)) (eq-eqb y y refl)

  its : (k : ℕ) → next.kept y k ≡ is_among (g.firm y) k
  its k =
      let was : s.kept y k ≡ (is_among (g.firm y) k || is_place (g.inner s.facts y) k) = st.links y k t.lives ∙ ap (λ w. is_among (g.firm y) k || (not w && is_place (g.inner s.facts y) k)) t.tight in
      t.kept y k ∙ ap (λ w. cond (w && (is_place (g.inner s.facts y) k && not (is_among (g.firm y) k))) false (s.kept y k)) (eq-eqb y y refl)
      ∙ ap (λ w. cond (is_place (g.inner s.facts y) k && not (is_among (g.firm y) k)) false w) was ∙ drop_table (is_among (g.firm y) k) (is_place (g.inner s.facts y) k)

  others : (x k : ℕ) → y ≢ x → next.kept x k ≡ s.kept x k
  others x k d = t.kept x k ∙ grind (arith, nat_tests)

  links_loosened : (x k : ℕ) → g.live x ≡ true → next.kept x k ≡ holds g next x k
  links_loosened x k l = elim (cases_eq y x) [
    | inl p ↦ subst (λ z. next.kept z k ≡ holds g next z k) p (its k ∙ drop_loose (is_among (g.firm y) k) (is_place (g.inner next.facts y) k) (next.loose y) loose_y)
    | inr p ↦ others x k p ∙ st.links x k l ∙ ap (λ w. is_among (g.firm x) k || (not (s.loose x) && is_place w k)) (sym (inner_stays g s next o st t.same_facts (λ z m. t.same_known z) t.same_queued x))
        ∙ ap (λ w. is_among (g.firm x) k || (not w && is_place (g.inner next.facts x) k)) (sym (t.loose x ∙ grind (arith, nat_tests)))
  ]

  stands_loosened : Stands g next
  stands_loosened = changed g s next o st t.same_facts (λ z m. t.same_known z) t.same_queued
      (λ a b h. let d = st.lower a b (kept_was a b h) in let p = t.same_rank a in let q = t.same_rank b in omega arith)
      (λ k m lk lm h r. t.same_known m ∙ st.down k m lk lm (sym (t.same_known k) ∙ h) (let p = t.same_rank k in let q = t.same_rank m in omega arith))
      (λ x k l h. st.inside x k l (kept_was x k h))
      links_loosened
      (λ x l h. t.same_known x ∙ elim (cases_eq y x) [
        | inl p ↦ subst (λ z. s.known z ≡ false) p t.unknown
        | inr p ↦ st.loose_new x l (sym (t.loose x ∙ grind (arith, nat_tests)) ∙ h)
      ])

pub loosening_keeps : LooseningKeeps
loosening_keeps g s y next o st t = stands_loosened g s y next o st t

module _ (g : Ground) (s : State) (y : ℕ) (next : State) (o : IsGround g) (st : Stands g s) (t : Tightens g s y next) where
  kept_new : (x k : ℕ) → next.kept x k ≡ true → (s.kept x k ≡ true) ⊎ ((y ≡ x) × (is_place (g.inner s.facts y) k ≡ true))
  kept_new x k h = elim (cases_eq y x) [
    | inl p ↦ elim (bool_cases (is_place (g.inner s.facts y) k)) [ inl q ↦ inr (p, q) | inr q ↦ inl (sym (t.kept x k ∙ ap (λ w. cond (eqb y x && w) true (s.kept x k)) q ∙ no_more (eqb y x) (s.kept x k)) ∙ h) ]
    | inr p ↦ inl (sym (t.kept x k ∙ grind (arith, nat_tests)) ∙ h)
  ]
    where
      no_more : (a b : Bool) → cond (a && false) true b ≡ b
      no_more true b = refl
      no_more false b = refl

  tight_y : next.loose y ≡ false
  tight_y = t.loose y ∙ ap (λ w. cond w false (s.loose y)) (eq-eqb y y refl)

  its_tight : (k : ℕ) → next.kept y k ≡ (is_among (g.firm y) k || is_place (g.inner s.facts y) k)
  its_tight k = t.kept y k ∙ ap (λ w. cond (w && is_place (g.inner s.facts y) k) true (s.kept y k)) (eq-eqb y y refl)
      ∙ ap (λ w. cond (is_place (g.inner s.facts y) k) true w) (st.links y k t.lives) ∙ raise_table (is_among (g.firm y) k) (is_place (g.inner s.facts y) k) (s.loose y)

  links_tightened : (x k : ℕ) → g.live x ≡ true → next.kept x k ≡ holds g next x k
  links_tightened x k l = elim (cases_eq y x) [
    | inl p ↦ subst (λ z. next.kept z k ≡ holds g next z k) p (its_tight k ∙ sym (ap (λ w. is_among (g.firm y) k || (not w && is_place (g.inner next.facts y) k)) tight_y
        ∙ ap (λ w. is_among (g.firm y) k || is_place w k) (inner_stays g s next o st t.same_facts t.same_known t.same_queued y)))
    | inr p ↦ t.kept x k ∙ grind (arith, nat_tests) ∙ st.links x k l ∙ ap (λ w. is_among (g.firm x) k || (not (s.loose x) && is_place w k)) (sym (inner_stays g s next o st t.same_facts t.same_known t.same_queued x))
        ∙ ap (λ w. is_among (g.firm x) k || (not w && is_place (g.inner next.facts x) k)) (sym (t.loose x ∙ grind (arith, nat_tests)))
  ]

  stands_tightened : Stands g next
  stands_tightened = changed g s next o st t.same_facts t.same_known t.same_queued t.lower t.down
      (λ x k l h. elim (kept_new x k h) [ inl w ↦ st.inside x k l w | inr w ↦ t.end_lives k w.1 ])
      links_tightened
      (λ x l h. elim (cases_eq y x) [
        | inl p ↦ absurd (true≢false (sym h ∙ subst (λ z. next.loose z ≡ false) p tight_y))
        | inr p ↦ t.same_known x l ∙ st.loose_new x l (sym (t.loose x ∙ grind (arith, nat_tests)) ∙ h)
      ])

pub tightening_keeps : TighteningKeeps
tightening_keeps g s y next o st t = stands_tightened g s y next o st t

module _ (g more : Ground) (s : State) (new : ℕ → Bool) (next : State) (o : IsGround g) (om : IsGround more) (st : Stands g s) (t : Births g more s new next) where
  who : (x : ℕ) → more.live x ≡ true → (new x ≡ true) ⊎ (g.live x ≡ true)
  who x l = either_true (new x) (g.live x) (sym (t.live x) ∙ l)

  lives_on : (x : ℕ) → g.live x ≡ true → more.live x ≡ true
  lives_on x l = t.live x ∙ ap (λ b. new x || b) l ∙ or_true (new x)

  not_before : (x : ℕ) → more.live x ≡ false → g.live x ≡ false
  not_before x l = is_false _ (λ k. true≢false (sym (lives_on x k) ∙ l))

  dead_new : (x : ℕ) → new x ≡ true → g.live x ≡ false
  dead_new x n = is_false _ (λ l. true≢false (sym n ∙ t.dead x l))

  inner_on : (x : ℕ) → g.live x ≡ true → more.inner next.facts x ≡ g.inner s.facts x
  inner_on x l = om.inner_reads next.facts s.facts x (λ n h. t.same_facts n) ∙ t.inners x l

  link_on : (x n : ℕ) → g.live x ≡ true → is_link more next.facts x n ≡ is_link g s.facts x n
  link_on x n l = ap (λ w. w || is_place (more.inner next.facts x) n) (t.firms x n l) ∙ ap (λ w. is_among (g.firm x) n || is_place w n) (inner_on x l)

  row_on : (x : ℕ) → g.live x ≡ true → s.known x ≡ true → g.row s.facts x ≡ more.row next.facts x
  row_on x l k = sym (t.rows x l k) ∙ om.row_reads s.facts next.facts x (λ n h. sym (t.same_facts n))

  queued_new_x : (x : ℕ) → new x ≡ true → next.queued x ≡ true
  queued_new_x x n = t.queued x ∙ ap (λ b. b || s.queued x) n

  queued_x : (x : ℕ) → g.live x ≡ true → next.queued x ≡ s.queued x
  queued_x x l = t.queued x ∙ ap (λ b. b || s.queued x) (t.dead x l)

  stands_born : Stands more next
  stands_born = record {
    meets = λ x l k. elim (who x l) [
      | inl p ↦ absurd (true≢false (sym k ∙ t.unknown x p))
      | inr w ↦ t.same_facts x ∙ st.meets x w (sym (t.same_known x w) ∙ k) ∙ row_on x w (sym (t.same_known x w) ∙ k)
    ];
    silent = λ x l k. t.same_facts x ∙ elim (who x l) [
      | inl p ↦ st.only_live x (dead_new x p)
      | inr w ↦ st.silent x w (sym (t.same_known x w) ∙ k)
    ];
    only_live = λ x l. t.same_facts x ∙ st.only_live x (not_before x l);
    down = t.down;
    lower = t.lower;
    inside = λ x n l h. elim (who x l) [
      | inl p ↦ t.its_inside x n p h
      | inr w ↦ lives_on n (st.inside x n w (sym (t.same_kept x n w) ∙ h))
    ];
    links = λ x n l. elim (who x l) [
      | inl p ↦ t.its_links x n p
      | inr w ↦ t.same_kept x n w ∙ st.links x n w ∙ ap (λ b. b || (not (s.loose x) && is_place (g.inner s.facts x) n)) (sym (t.firms x n w))
          ∙ ap (λ b. is_among (more.firm x) n || (not (s.loose x) && is_place b n)) (sym (inner_on x w)) ∙ ap (λ b. is_among (more.firm x) n || (not b && is_place (more.inner next.facts x) n)) (sym (t.loose x w))
    ];
    loose_new = λ x l h. elim (who x l) [
      | inl p ↦ t.unknown x p
      | inr w ↦ t.same_known x w ∙ st.loose_new x w (sym (t.loose x w) ∙ h)
    ];
    queued_live = λ x h. elim (either_true (new x) (s.queued x) (sym (t.queued x) ∙ h)) [
      | inl p ↦ t.live x ∙ ap (λ b. b || g.live x) p
      | inr q ↦ lives_on x (st.queued_live x q)
    ];
    queued_new = λ x h. elim (either_true (new x) (s.queued x) (sym (t.queued x) ∙ h)) [
      | inl p ↦ t.unknown x p
      | inr q ↦ t.same_known x (st.queued_live x q) ∙ st.queued_new x q
    ];
    calm = λ x l k q. elim (who x l) [
      | inl p ↦ absurd (true≢false (sym (queued_new_x x p) ∙ q))
      | inr w ↦ t.starts x w ∙ st.calm x w (sym (t.same_known x w) ∙ k) (sym (queued_x x w) ∙ q)
    ];
    quiet = λ x n l k q h. t.same_facts n ∙ elim (who x l) [
      | inl p ↦ absurd (true≢false (sym (queued_new_x x p) ∙ q))
      | inr w ↦ st.quiet x n w (sym (t.same_known x w) ∙ k) (sym (queued_x x w) ∙ q) (sym (link_on x n w) ∙ h)
    ];
  }

pub birth_keeps : BirthKeeps
birth_keeps g more s new next o om st t = stands_born g more s new next o om st t

pub end_settles : EndSettles
end_settles g s o st q u = record {
  meets = λ x l. elim (bool_cases (s.known x)) [
    | inl k ↦ st.meets x l k
    | inr k ↦ st.silent x l k ∙ sym (o.row_none s.facts x (st.calm x l k (q x)) (λ n h. st.quiet x n l k (q x) h))
  ];
  links = λ x n l. st.links x n l ∙ ap (λ w. is_among (g.firm x) n || (not w && is_place (g.inner s.facts x) n)) (u x);
  lower = st.lower;
}

pub evidence_shows : EvidenceShows
evidence_shows g s st = record {
  meets = st.meets;
  below = λ x k l. st.silent x l k;
  lower = λ x n l k h. link_lower g s st x l (is_false _ (λ w. true≢false (sym k ∙ st.loose_new x l w))) n h;
}

-- Two sights at one time over the same older nodes agree on all that is known of the one: by rank, first the nodes that are made,
-- then what fires.
use Rattle.std.proofs.Common.{◌≡◌, ℕ, zero, suc, ◌<◌, ◌≤◌, Bool, true, false, List, [], ◌∷◌, Option, Some, None, refl, sym, ap, ◌∙◌, subst, arith}
use Rattle.std.proofs.Common.{inl, inr}
use Rattle.std.specs.Prelude.{not, ◌||◌, nat_lt, option_and_then, if◌then◌else◌}
use Rattle.std.specs.Option.{option_to_list}
use Rattle.std.specs.List.{AllByRecursion}
use Rattle.std.proofs.lemmas.Bool.Decides.{nat_tests}
use Rattle.frp_base.specs.declared.name.Name.{Name}
use Rattle.frp_base.specs.declared.val.Val.{Val}
use Rattle.frp_base.specs.Time.{time_eq}
use Rattle.frp_base.specs.Name.{birth, maker, made_name, declared_name}
use Rattle.frp_base.proofs.Booleans.{either_true, or_more, is_true, is_false}
use Rattle.frp_base.proofs.Lists.{all_follow, all_back}
use Rattle.frp_base.proofs.NameLemmas.{made_names_have_makers}
use Rattle.frp_graph.specs.declared.prog.Prog.{Prog}
use Rattle.frp_graph.specs.declared.trace.Node.{Node}
use Rattle.frp_graph.specs.declared.trace.Sent.{Sent}
use Rattle.frp_graph.specs.declared.evidence.Phase.TheVariants.{Birth, During}
use Rattle.frp_graph.specs.Trace.{Sight, post_in}
use Rattle.frp_graph.specs.Births.{Plan, build, file_plans, plans_of, plans_by, plan_in}
use Rattle.frp_graph.specs.Sends.{sent_in}
use Rattle.frp_graph.specs.Equations.{MeetsEquation}
use Rattle.frp_graph.specs.Evidence.{has_reads}
use Rattle.frp_graph.specs.Links.{during_links, is_new, links, is_linked}
use Rattle.frp_graph.specs.TypedProg.{IsTypedProg}
use Rattle.frp_graph.specs.Values.{type_among}
use Rattle.frp_graph.specs.WellFormed.{IsWellFormed}
use Rattle.frp_graph.specs.ShapeLaws.{Stays}
use Rattle.frp_graph.proofs.Lists.{time_same}
use Rattle.frp_graph.proofs.Allowed.{allowed_stays}
use Rattle.frp_graph.proofs.Options.{test_some, then_some, mapped_some}
use Rattle.frp_graph.proofs.TypedSights.{Fits, fits_some, cell_some, some_fits}
use Rattle.frp_audit.proofs.Ranks.{Low}
use Rattle.frp_audit.proofs.Seen.{fits_more, cell_more, Within, seen, type_seen, IsRight, formed_seen}
use Rattle.frp_audit.proofs.Sides.{Extends, IsSame, holds, Agrees}
use Rattle.frp_audit.proofs.Plans.{made_named}
use Rattle.frp_audit.proofs.Firsts.{IsPlanned, agrees_made}
use Rattle.frp_audit.proofs.Firing.{IsDue, IsReady, own_made, other_made, agrees_more}
use Rattle.frp_audit.proofs.Makers.{AreMade, AreAllMade, IsFound, instance_found, executed_planned, file_planned}

-- Tests of numbers.

lt_test : (a b : ℕ) → a < b → nat_lt a b ≡ true
lt_test a b h = grind (arith, nat_tests)

test_lt : (a b : ℕ) → nat_lt a b ≡ true → a < b
test_lt a b h = grind (arith, nat_tests)

test_ge : (a b : ℕ) → nat_lt a b ≡ false → b ≤ a
test_ge a b h = grind (arith, nat_tests)

-- What one sight owes: its nodes' links of During fall in rank, their equations hold and what they make is there, below; and its
-- first values are of cells that no closed chain of Birth holds up.
pub record IsSide (prog : Prog) (sends : List Sent) (w : Sight) (rank : Name → ℕ) (Below : Name → Type 0) : Type 0 where
  pub made : AreMade prog w
  pub lows : (n : Name) (x : Node) (v : Val) → w.node n ≡ Some x → x.first ≡ Some v → (k : ℕ) × Low (is_linked w Birth) k n
  pub lower : (n : Name) (x : Node) → w.node n ≡ Some x → Below n → AllByRecursion (λ m. rank m < rank n) (links w During x)
  pub equations : (n : Name) (x : Node) → w.node n ≡ Some x → Below n → MeetsEquation prog sends w x
  pub there : (n : Name) (x : Node) → w.node n ≡ Some x → Below n → AllByRecursion (λ d. (y : Node) × (w.node d.name ≡ Some y)) (plans_by prog w x)
  pub reads : (n : Name) (x : Node) (shown fired : Name → Bool) → w.node n ≡ Some x → Below n → shown n ≡ true
      → AllByRecursion (λ m. fired m ≡ true) (links w During x) → IsWellFormed prog (seen w shown (holds w) fired) → has_reads prog (seen w shown (holds w) fired) x x.shape ≡ true

-- and what the other owes: all that is made is there, and each equation holds
pub record IsWhole (prog : Prog) (sends : List Sent) (u : Sight) : Type 0 where
  pub made : AreAllMade prog u
  pub equations : (n : Name) (y : Node) → u.node n ≡ Some y → MeetsEquation prog sends u y

module _ (prog : Prog) (typed : IsTypedProg prog) (sends : List Sent) (old w u : Sight) (ew : Extends old w) (eu : Extends old u) (rank : Name → ℕ) (Below : Name → Type 0)
    (formed : IsWellFormed prog old) (side : IsSide prog sends w rank Below) (whole : IsWhole prog sends u)
    (sent : (n : Name) (v : Val) → sent_in prog sends old.time n ≡ Some v → (x : Node) × (old.node n ≡ Some x) × Fits prog old x.ty v) where
  -- Shown are the older nodes, those of the file, and those whose maker has a lower rank; fired have those of lower ranks.

  abbrev pub by_maker : ℕ → Option Name → Bool
  by_maker r None = true
  by_maker r (Some e) = nat_lt (rank e) r

  abbrev pub is_old : Name → Bool
  is_old n = not (is_new w n)

  abbrev pub shown : ℕ → Name → Bool
  shown r n = is_old n || by_maker r (maker n)

  abbrev pub fired : ℕ → Name → Bool
  fired r n = nat_lt (rank n) r

  abbrev AgreesAt : ℕ → ℕ → Type 0
  AgreesAt a b = Agrees prog w u (shown a) (fired b)

  pub old_shown : (r : ℕ) (n : Name) → is_new w n ≡ false → shown r n ≡ true
  old_shown r n e = rw e refl

  new_is : (r : ℕ) (n : Name) → shown r n ≡ false → is_new w n ≡ true
  new_is r n e = is_true (is_new w n) (λ f. let s = old_shown r n f in cc)

  pub shown_by : (r : ℕ) (n : Name) (o : Option Name) → maker n ≡ o → by_maker r o ≡ true → shown r n ≡ true
  shown_by r n o e h = or_more (is_old n) _ (ap (by_maker r) e ∙ h)

  by_more : (r : ℕ) (o : Option Name) → by_maker r o ≡ true → by_maker (suc r) o ≡ true
  by_more r None h = refl
  by_more r (Some e) h = let l : rank e < r = test_lt (rank e) r h in lt_test (rank e) (suc r) (omega arith)

  shown_more : (r : ℕ) → Within (shown r) (shown (suc r))
  shown_more r n h = elim (either_true (is_old n) (by_maker r (maker n)) h) [
    | inl e ↦ ap (λ b. b || by_maker (suc r) (maker n)) e
    | inr m ↦ or_more (is_old n) _ (by_more r (maker n) m)
  ]

  -- The older nodes.

  old_is : (n : Name) (x : Node) → old.node n ≡ Some x → is_new w n ≡ false
  old_is n x e = is_false (is_new w n) (λ h. let none = ew.none_older n h in let both : ◌≡◌ {A = Option Node} None (Some x) = sym none ∙ e in cc)

  old_types : (few kept also : Name → Bool) → ((n : Name) → is_new w n ≡ false → few n ≡ true) → Stays (type_among old.node) (type_among (seen w few kept also).node)
  old_types few kept also f n a e =
      let x = mapped_some (λ (z : Node). z.ty) (old.node n) a e in
      let o = old_is n x.0 x.1 in
      type_seen w few kept also n x.0 (f n o) (ew.older n o ∙ x.1) ∙ ap Some x.2

  module _ (n : Name) (x : Node) (o : is_old n ≡ true) (live : w.node n ≡ Some x) where
    not_new : is_new w n ≡ false
    not_new = is_false (is_new w n) (λ h. let f : is_old n ≡ false = rw h refl in cc)

    in_old : old.node n ≡ Some x
    in_old = sym (ew.older n not_new) ∙ live

    named_old : x.name ≡ n
    named_old = ew.named n x live

    types_old : Stays (type_among old.node) (type_among (seen w is_old (holds w) (fired 0)).node)
    types_old = old_types is_old (holds w) (fired 0) (λ m e. rw e refl)

    old_right : IsRight prog w is_old (holds w) (fired 0) n x
    old_right = record {
      allowed = allowed_stays prog old (seen w is_old (holds w) (fired 0)) types_old x.ty x.shape (formed.shapes n x in_old);
      first = λ k v p. cell_more prog old (seen w is_old (holds w) (fired 0)) types_old x.ty v (cell_some prog old x x.first (formed.firsts n x in_old) v p);
      before = λ k v p. cell_more prog old (seen w is_old (holds w) (fired 0)) types_old x.ty v
          (cell_some prog old x (old.pre x.name) (formed.befores n x in_old) v (ap old.pre named_old ∙ sym (ew.older_pre n not_new) ∙ p));
      occurs = λ f v p. absurd (let l = test_lt (rank n) 0 f in omega arith);
      above = λ v p. fits_more prog old (seen w is_old (holds w) (fired 0)) types_old x.ty v
          (fits_some prog old x (old.above x.name) (formed.aboves n x in_old) v (ap old.above named_old ∙ sym (ew.above n) ∙ p));
    }

    old_same : IsSame x (u.node n)
    old_same = record {
      node = x;
      found = eu.older n (ap (time_eq (birth n)) (eu.time ∙ sym ew.time) ∙ not_new) ∙ in_old;
      name = refl;
      shape = refl;
      ty = refl;
      first = λ c v e. e;
    }

  agrees_old : Agrees prog w u is_old (fired 0)
  agrees_old = record {
    formed = formed_seen prog w is_old (holds w) (fired 0) ew.named old_right typed (λ n v f e. absurd (let l = test_lt (rank n) 0 f in omega arith));
    same = old_same;
    occs = λ n x f e. absurd (let l = test_lt (rank n) 0 f in omega arith);
    within = λ n x f e. absurd (let l = test_lt (rank n) 0 f in omega arith);
  }

  -- The nodes of the file.

  from_file : (n : Name) (x : Node) → is_old n ≡ false → shown 0 n ≡ true → w.node n ≡ Some x → (maker n ≡ None) × (w.time ≡ build)
  from_file n x o s live = by (maker n) refl where
    new : is_new w n ≡ true
    new = is_true (is_new w n) (λ f. let t : is_old n ≡ true = rw f refl in cc)

    by : (m : Option Name) → maker n ≡ m → (maker n ≡ None) × (w.time ≡ build)
    by None e =
        let p = side.made.plan n x live new in
        let q : (if time_eq w.time build then plan_in (file_plans prog) n else None) ≡ Some p.0 = rw e at p.1 in
        (e, time_same w.time build (test_some (time_eq w.time build) (plan_in (file_plans prog) n) p.0 q).0)
    by (Some m) e =
        let t : by_maker 0 (maker n) ≡ true = rw o at s in
        let l : nat_lt (rank m) 0 ≡ true = rw e at t in
        let less = test_lt (rank m) 0 l in
        absurd (omega arith)

  agrees_file : AgreesAt 0 0
  agrees_file =
      agrees_made prog typed old w u ew eu is_old (shown 0) (fired 0) within_first olds_first agrees_old planned_first side.lows
    where
      within_first : Within is_old (shown 0)
      within_first n h = ap (λ b. b || by_maker 0 (maker n)) h

      olds_first : (n : Name) → is_new w n ≡ false → is_old n ≡ true
      olds_first n e = rw e refl

      planned_first : (n : Name) (x : Node) → is_old n ≡ false → shown 0 n ≡ true → w.node n ≡ Some x
          → IsPlanned prog typed old w u ew eu is_old (shown 0) (fired 0) within_first olds_first agrees_old n x
      planned_first n x o s live =
          let f = from_file n x o s live in
          file_planned prog typed sends old w u ew eu side.made whole.made is_old (shown 0) (fired 0) within_first olds_first agrees_old
          (λ k. shown_by 0 (declared_name k) None refl refl) n x live (is_true (is_new w n) (λ e. let t = olds_first n e in cc)) f.0 f.1

  -- A node of rank r.

  maker_is : (n : Name) (x : Node) (m : Name) → w.node n ≡ Some x → is_new w n ≡ true → maker n ≡ Some m → (z : Node) × (w.node m ≡ Some z)
  maker_is n x m live new e =
      let p = side.made.plan n x live new in
      let q : option_and_then (λ x. plan_in (plans_by prog w x) n) (w.node m) ≡ Some p.0 = rw e at p.1 in
      let z = then_some (λ x. plan_in (plans_by prog w x) n) (w.node m) p.0 q in
      (z.0, z.1)

  module _ (r : ℕ) (n : Name) (x : Node) (live : w.node n ≡ Some x) (is_rank : rank n ≡ r) (below : Below n) where
    links_fired : AllByRecursion (λ m. fired r m ≡ true) (links w During x)
    links_fired = all_follow (λ m. rank m < rank n) (λ m. fired r m ≡ true) (λ m l. lt_test (rank m) r (omega arith)) (links w During x) (side.lower n x live below)

    -- its maker is linked to, where it is new
    maker_lower : (m : Name) → is_new w n ≡ true → maker n ≡ Some m → fired r m ≡ true
    maker_lower m new e =
        let name : x.name ≡ n = ew.named n x live in
        let own : is_new w x.name ≡ true = ap (is_new w) name ∙ new in
        let is : maker x.name ≡ Some m = ap maker name ∙ e in
        let tail = all_back (λ m. fired r m ≡ true) (during_links w (post_in w) x.shape) (if is_new w x.name then option_to_list (maker x.name) else []) links_fired in
        let one : AllByRecursion (λ m. fired r m ≡ true) (m ∷ []) = rw (own, is) at tail in
        one.0

    is_shown : shown r n ≡ true
    is_shown = by (is_new w n) refl where
      made : (o : Option Name) → is_new w n ≡ true → maker n ≡ o → shown r n ≡ true
      made None new e = shown_by r n None e refl
      made (Some m) new e = shown_by r n (Some m) e (maker_lower m new e)

      by : (b : Bool) → is_new w n ≡ b → shown r n ≡ true
      by true new = made (maker n) new refl
      by false e = old_shown r n e

    due : (a : ℕ) (more : Name → Bool) (agrees : AgreesAt a r) → shown a n ≡ true → IsDue prog typed sends old w u ew eu (shown a) (fired r) more agrees n x
    due a more agrees s = record {
      is_shown = s;
      links_fired = links_fired;
      maker_there = λ m new e. maker_is n x m live new e;
      reads = side.reads n x (shown a) (fired r) live below s links_fired agrees.formed;
    }

    -- what it makes is shown next
    made_shown : (k : ℕ) → shown (suc r) (made_name x.name w.time k) ≡ true
    made_shown k =
        let name : x.name ≡ n = ew.named n x live in
        let is = made_names_have_makers x.name w.time k (ew.nonempty x.name x (ap w.node name ∙ live)) in
        let same : rank x.name ≡ r = ap rank name ∙ is_rank in
        shown_by (suc r) (made_name x.name w.time k) (Some x.name) is (lt_test (rank x.name) (suc r) (omega arith))

  -- From rank to rank.

  module _ (r : ℕ) (agrees : AgreesAt r r) (belows : (n : Name) → rank n < suc r → Below n) where
    -- whose maker has rank r
    by_rank : (n : Name) (x : Node) → shown r n ≡ false → shown (suc r) n ≡ true → w.node n ≡ Some x → (m : Name) × (maker n ≡ Some m) × (rank m ≡ r)
    by_rank n x f s live = by (maker n) refl where
      not_old : is_old n ≡ false
      not_old = let h = new_is r n f in rw h refl

      by : (o : Option Name) → maker n ≡ o → (m : Name) × (maker n ≡ Some m) × (rank m ≡ r)
      by None e = absurd (let t = shown_by r n None e refl in cc)
      by (Some m) e =
          let not_yet : nat_lt (rank m) r ≡ false = is_false (nat_lt (rank m) r) (λ t. let s = shown_by r n (Some m) e t in cc) in
          let q : by_maker (suc r) (maker n) ≡ true = rw not_old at s in
          let now : nat_lt (rank m) (suc r) ≡ true = rw e at q in
          let least = test_ge (rank m) r not_yet in
          let most = test_lt (rank m) (suc r) now in
          (m, e, omega arith)

    planned_next : (n : Name) (x : Node) → shown r n ≡ false → shown (suc r) n ≡ true → w.node n ≡ Some x
        → IsPlanned prog typed old w u ew eu (shown r) (shown (suc r)) (fired r) (shown_more r) (old_shown r) agrees n x
    planned_next n x f s live =
        let new = new_is r n f in
        let m = by_rank n x f s live in
        let z = maker_is n x m.0 live new m.1 in
        let below = belows m.0 (omega arith) in
        let by_due = due r m.0 z.0 z.1 m.2 below r (shown (suc r)) agrees (is_shown r m.0 z.0 z.1 m.2 below) in
        executed_planned prog typed sends old w u ew eu side.made whole.made (shown r) (shown (suc r)) (fired r) (shown_more r) (old_shown r) agrees m.0 z.0 z.1
        (is_shown r m.0 z.0 z.1 m.2 below) (own_made prog typed sends old w u ew eu (shown r) (fired r) (shown (suc r)) agrees m.0 z.0 z.1 by_due)
        (other_made prog typed sends old w u ew eu (shown r) (fired r) (shown (suc r)) agrees m.0 z.0 z.1 by_due)
        (side.there m.0 z.0 z.1 below) (made_shown r m.0 z.0 z.1 m.2 below) n x live new m.1

    born_next : AgreesAt (suc r) r
    born_next = agrees_made prog typed old w u ew eu (shown r) (shown (suc r)) (fired r) (shown_more r) (old_shown r) agrees planned_next side.lows

    rank_is : (n : Name) → fired r n ≡ false → fired (suc r) n ≡ true → rank n ≡ r
    rank_is n f m =
        let least = test_ge (rank n) r f in
        let most = test_lt (rank n) (suc r) m in
        omega arith

    module _ (n : Name) (x : Node) (live : w.node n ≡ Some x) (of : rank n ≡ r) where
      under : Below n
      under = belows n (omega arith)

      here : shown (suc r) n ≡ true
      here = shown_more r n (is_shown r n x live of under)

      is_due : IsDue prog typed sends old w u ew eu (shown (suc r)) (fired r) (fired (suc r)) born_next n x
      is_due = due r n x live of under (suc r) (fired (suc r)) born_next here

      abbrev part : Sight
      part = seen w (shown (suc r)) (holds w) (fired r)

      all_live : (ds : List Plan) → AllByRecursion (IsFound prog w ew.named side.made) ds → AllByRecursion (λ d. (k : ℕ) × (d.name ≡ made_name x.name w.time k)) ds
          → AllByRecursion (λ d. type_among part.node d.name ≡ Some d.ty) ds
      all_live [] f m = tt
      all_live (d ∷ ds) f m = (
        type_seen w (shown (suc r)) (holds w) (fired r) d.name f.0.node (ap (shown (suc r)) m.0.1 ∙ made_shown r n x live of under m.0.0) f.0.found ∙ ap Some f.0.ty,
        all_live ds f.1 m.1,
      )

      own_live : AllByRecursion (λ d. type_among part.node d.name ≡ Some d.ty) (plans_by prog w x)
      own_live = all_live (plans_by prog w x) (instance_found prog w ew.named side.made n x live (ew.nonempty n x live) (side.there n x live under)) (made_named prog w x).named

      -- what is sent to it is of its type
      sent_fits : (v : Val) → sent_in prog sends part.time x.name ≡ Some v → Fits prog part x.ty v
      sent_fits v e =
          let s = sent x.name v (ap (λ t. sent_in prog sends t x.name) (sym ew.time) ∙ e) in
          let name = ew.named n x live in
          let o = old_is x.name s.0 s.1 in
          let both : ◌≡◌ {A = Option Node} (Some s.0) (Some x) = sym s.1 ∙ sym (ew.older x.name o) ∙ ap w.node name ∙ live in
          let same : s.0 ≡ x = cc in
          fits_more prog old part (old_types (shown (suc r)) (holds w) (fired r) (old_shown (suc r))) x.ty v (subst (λ (z : Node). Fits prog old z.ty v) same s.2)

      is_ready : IsReady prog typed sends old w u ew eu (shown (suc r)) (fired r) (fired (suc r)) born_next n x
      is_ready = record {
        is_due = is_due;
        equation = side.equations n x live under;
        other = whole.equations n;
        plans_live = subst (λ ds. AllByRecursion (λ d. type_among part.node d.name ≡ Some d.ty) ds)
            (ap plans_of (own_made prog typed sends old w u ew eu (shown (suc r)) (fired r) (fired (suc r)) born_next n x live is_due)) own_live;
        sent = some_fits prog part x (sent_in prog sends part.time x.name) sent_fits;
      }

    fired_next : AgreesAt (suc r) (suc r)
    fired_next =
        agrees_more prog typed sends old w u ew eu (shown (suc r)) (fired r) (fired (suc r)) born_next
        (λ n x f m live. is_ready n x live (rank_is n f m))

  pub agrees_at : (r : ℕ) → ((n : Name) → rank n < r → Below n) → AgreesAt r r
  agrees_at zero b = agrees_file
  agrees_at (suc r) b = fired_next r (agrees_at r (λ n l. b n (omega arith))) b

-- Tests by which evidence that is written out is seen to be true.
use Rattle.std.proofs.Common.{◌≡◌, inl, inr, ℕ, suc, ◌<◌, ◌≤◌, Bool, true, false, List, [], ◌∷◌, ◌++◌, Some, arith}
use Rattle.std.specs.Prelude.{not, ◌&&◌, ◌||◌, nat_le, IsTrue, is_some, map, length, ⊤}
use Rattle.std.specs.List.{AllByRecursion, list_all}
use Rattle.std.specs.Ordering.{is_lt}
use Rattle.std.proofs.lemmas.Bool.Decides.{nat_tests}
use Rattle.frp_base.specs.declared.name.Name.{Name}
use Rattle.frp_base.specs.Time.{time_eq, time_cmp}
use Rattle.frp_base.specs.Name.{name_cmp}
use Rattle.frp_base.proofs.Booleans.{both_true}
use Rattle.frp_graph.specs.declared.trace.Node.{Node}
use Rattle.frp_graph.specs.declared.trace.Moment.{Moment}
use Rattle.frp_graph.specs.declared.trace.Fact.{Fact}
use Rattle.frp_graph.specs.declared.trace.Sent.{Sent}
use Rattle.frp_graph.specs.declared.prog.Prog.{Prog}
use Rattle.frp_graph.specs.declared.limits.Limits.{Limits}
use Rattle.frp_graph.specs.declared.evidence.Phase.TheVariants.{During}
use Rattle.frp_graph.specs.declared.evidence.Ranked.{Ranked}
use Rattle.frp_graph.specs.declared.evidence.Evidence.{Evidence}
use Rattle.frp_graph.specs.Trace.{Sight, Each, node_in, sight_of, live}
use Rattle.frp_graph.specs.Equations.{MeetsEquation}
use Rattle.frp_graph.specs.Births.{build, file_plans, plan_as}
use Rattle.frp_graph.specs.FirstValues.{IsMadeAs, are_all_born}
use Rattle.frp_graph.specs.Moments.{AtEach, is_due, is_of_transaction}
use Rattle.frp_graph.specs.Links.{links, are_distinct}
use Rattle.frp_graph.specs.Evidence.{IsTrueEvidence, MeetsRules, IsReached, AreRanked, IsSettled, AreWhole, AreAllBelow, rank_in, can_make, is_whole, is_of_whole, has_reads}
use Rattle.frp_rows.proofs.Traces.{is_rising, rises, covers, are_due, due_until, Shown, moment_rises, moments, are_sound, sound, within, each_in, each_true, all_true, asked, at_build}

-- the moments up to the last time of the evidence are lawful by these tests, and by what is shown of each
pub reached : (prog : Prog) (limits : Limits) (sends : List Sent) (k : ℕ) (past done : List Moment) (last : Moment) (rank : List Moment → Name → ℕ)
    → is_rising time_cmp (map (λ m. m.time) past) && list_all moment_rises past ≡ true
    → covers (λ t. is_lt (time_cmp t last.time)) sends past ≡ true → are_due (λ t. is_lt (time_cmp t last.time)) sends past ≡ true
    → AtEach (Shown prog sends) [] past → are_sound prog rank [] past ≡ true → length past ≤ limits.moments → length (live past) ≤ limits.nodes
    → is_due sends past last.time ≡ true → list_all (λ m. is_of_transaction k m.time) (done ++ last ∷ []) ≡ true → length done < limits.moments
    → IsReached prog limits sends k past done last
reached prog limits sends k past done last rank r c d h s m n l o f =
    let two = both_true (is_rising time_cmp (map (λ (m : Moment). m.time) past)) (list_all moment_rises past) r in
    record {
      rising = rises time_cmp _ two.0;
      due = due_until (λ t. is_lt (time_cmp t last.time)) sends past c d;
      moments = moments prog sends [] past two.1 h;
      sound = sound prog rank [] past s;
      within = within limits past m n;
      last_due = l;
      of_this = o;
      room = f;
    }

-- it is asked for where a test holds
abbrev pub Where : Bool → Type 0 → Type 0
Where true P = P
Where false P = ⊤

where_true : (b : Bool) (P : Type 0) → Where b P → b ≡ true → P
where_true true P h e = h
where_true false P h e = absurd cc

-- The last time is seen after these moments.
module _ (past : List Moment) (last : Moment) where
  abbrev w : Sight
  w = sight_of past last

  abbrev nodes : List Node
  nodes = live (past ++ last ∷ [])

  -- what a test tells of each live node that is below the level
  pub each_below : (below q : Node → Bool) → list_all (λ x. not (below x) || q x) nodes ≡ true → (n : Name) (x : Node) → w.node n ≡ Some x → below x ≡ true → q x ≡ true
  each_below below q h n x e = asked (below x) (q x) (each_true (λ x. not (below x) || q x) nodes h n x e)

  pub ranked : (ranks : List Ranked) → are_distinct (map (λ r. r.node) ranks) ≡ true → list_all (λ x. is_some (rank_in ranks x.name)) nodes ≡ true
      → list_all (λ r. is_some (node_in nodes r.node)) ranks ≡ true → AreRanked w ranks
  ranked ranks o e l = record {
    once = o;
    each_live = each_true (λ x. is_some (rank_in ranks x.name)) nodes e;
    only_live = all_true (λ (r : Ranked). is_some (node_in nodes r.node)) ranks l;
  }

  module _ (prog : Prog) (sends : List Sent) (below : Name → Bool) where
    pub settled : (lower : Name → Name → Bool) → list_all (λ x. not (below x.name) || list_all (lower x.name) (links w During x)) nodes ≡ true
        → AllByRecursion (λ x. Where (below x.name) (MeetsEquation prog sends w x)) nodes → list_all (λ f. below f.node) last.fired ≡ true
        → is_rising name_cmp (map (λ f. f.node) last.fired) ≡ true → IsSettled prog sends w last below lower
    settled lower l h f r = record {
      links_lower = λ n x e b. all_true (lower x.name) (links w During x) (each_below (λ x. below x.name) (λ x. list_all (lower x.name) (links w During x)) l n x e b);
      equations = λ n x e. where_true (below x.name) (MeetsEquation prog sends w x) (each_in (λ x. Where (below x.name) (MeetsEquation prog sends w x)) nodes h n x e);
      facts_below = all_true (λ (f : Fact). below f.node) last.fired f;
      fired_rise = rises name_cmp _ r;
    }

    pub reads : list_all (λ x. not (below x.name) || has_reads prog w x x.shape) nodes ≡ true → Each w (λ x. IsTrue (below x.name) → IsTrue (has_reads prog w x x.shape))
    reads = each_below (λ x. below x.name) (λ x. has_reads prog w x x.shape)

    pub all_below : list_all (λ x. below x.name) nodes ≡ true → AreAllBelow prog sends w last below
    all_below = each_true (λ x. below x.name) nodes

    fits_at : (limits : Limits) → nat_le (length (file_plans prog)) limits.nodes ≡ true → length (file_plans prog) ≤ limits.nodes
    fits_at limits h = grind (arith, nat_tests)

    -- what is born is whole, by these tests, and by what is shown of each node that is born
    pub whole : (limits : Limits) → AllByRecursion (λ x. IsMadeAs (plan_as prog w x.name) x) last.born
        → list_all (λ x. is_of_whole prog sends w last below x.name) last.born ≡ true
        → list_all (λ x. not (below x.name) || (not (can_make prog sends w last below x) || is_whole prog sends w last below x)) nodes ≡ true
        → not (time_eq last.time build) || (are_all_born last.born (file_plans prog) && nat_le (length (file_plans prog)) limits.nodes) ≡ true
        → is_rising name_cmp (map (λ x. x.name) last.born) ≡ true → AreWhole prog sends w last below limits
    whole limits c o t f r = record {
      consists = c;
      whole = all_true (λ (x : Node). is_of_whole prog sends w last below x.name) last.born o;
      those_below = λ n x e b. asked (can_make prog sends w last below x) (is_whole prog sends w last below x)
          (each_below (λ x. below x.name) (λ x. not (can_make prog sends w last below x) || is_whole prog sends w last below x) t n x e b);
      file = λ e. (both_true (are_all_born last.born (file_plans prog)) (nat_le (length (file_plans prog)) limits.nodes) (at_build last.time _ f e)).0;
      file_fits = λ e. fits_at limits (both_true (are_all_born last.born (file_plans prog)) (nat_le (length (file_plans prog)) limits.nodes) (at_build last.time _ f e)).1;
      born_rise = rises name_cmp _ r;
    }

-- Refused readings.

-- evidence of a later transaction than the build meets the six rules
pub rules_of : {prog : Prog} {limits : Limits} {sends : List Sent} {trace : List Moment} {e : Evidence} (k : ℕ) → IsTrueEvidence prog limits sends (suc k) trace e
    → MeetsRules prog limits sends (suc k) (trace ++ e.done) e
rules_of k (inl t) = absurd (let z = t.of_build in omega (arith, z))
rules_of k (inr m) = m

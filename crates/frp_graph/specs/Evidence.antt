-- Evidence: what shows that a transaction is refused. It is true where its six rules hold, of which each is a record below.
-- Rules 2 to 6 are of what is seen at the last time, of the nodes that are below the level, and of the cause.
use Rattle.std.specs.Prelude.{◌≡◌, ◌⊎◌, ℕ, ◌+◌, ◌<◌, ◌≤◌, nat_lt, Bool, true, false, not, ◌&&◌, ◌||◌, List, [], ◌∷◌, ◌++◌, map, length, Option, Some, None, IsTrue, is_some, if◌then◌else◌}
use Rattle.std.specs.List.{AllByRecursion, list_all}
use Rattle.std.specs.List.Sorted.{IsStrictlySortedBy}
use Rattle.std.specs.Ordering.{is_lt}
use Rattle.frp_base.specs.declared.time.Time.{Time}
use Rattle.frp_base.specs.declared.name.Name.{Name}
use Rattle.frp_base.specs.declared.val.Val.{Val}
use Rattle.frp_base.specs.Time.{time_eq, time_cmp}
use Rattle.frp_base.specs.Name.{name_eq, name_cmp, birth, maker, declared_name}
use Rattle.frp_graph.specs.declared.trace.Node.{Node}
use Rattle.frp_graph.specs.declared.trace.Moment.{Moment}
use Rattle.frp_graph.specs.declared.trace.Sent.{Sent}
use Rattle.frp_graph.specs.declared.prog.Prog.{Prog}
use Rattle.frp_graph.specs.declared.shape.Shape.{Shape}
use Rattle.frp_graph.specs.declared.shape.Shape.TheVariants.{Sink, Never, Constant, Map, Filter, Filteropt, Merge, Snapshot, Split, Updates, Value, Loop, Hold, Mapc, Apply, Switchs, Switchc, Execute}
use Rattle.frp_graph.specs.declared.evidence.Phase.{Phase}
use Rattle.frp_graph.specs.declared.evidence.Phase.TheVariants.{Birth, During, After}
use Rattle.frp_graph.specs.declared.evidence.Why.{Why}
use Rattle.frp_graph.specs.declared.evidence.Why.TheVariants.{Chain, Endless, Full}
use Rattle.frp_graph.specs.declared.evidence.Ranked.{Ranked}
use Rattle.frp_graph.specs.declared.evidence.Evidence.{Evidence}
use Rattle.frp_graph.specs.declared.limits.Limits.{Limits}
use Rattle.frp_graph.specs.Trace.{Sight, Each, live, moment_at, sight_of, post_in}
use Rattle.frp_graph.specs.Applied.{target}
use Rattle.frp_graph.specs.Roles.{Execution, execution}
use Rattle.frp_graph.specs.Births.{build, Plan, Instance, instance_in, file_plans, plan_as}
use Rattle.frp_graph.specs.Equations.{MeetsEquation}
use Rattle.frp_graph.specs.FirstValues.{first_value, IsMadeAs, are_all_born}
use Rattle.frp_graph.specs.Moments.{is_due, is_of_transaction, AtEach, IsMoment}
use Rattle.frp_graph.specs.Sound.{IsSoundAfter, KeepsLimits}
use Rattle.frp_graph.specs.Links.{links, is_linked, is_linked_by, is_path, are_distinct, is_closed_chain, IsChainless}

-- Rule 1. The moments before the transaction, with those that it finished, are those that the program has until the last time,
-- with no closed chain and within the limits; the last time is due, and has room among the moments.
pub record IsReached (prog : Prog) (limits : Limits) (sends : List Sent) (k : ℕ) (past done : List Moment) (last : Moment) : Type 0 where
  pub rising : IsStrictlySortedBy time_cmp (map (λ m. m.time) past)
  pub due : (t : Time) → is_some (moment_at past t) ≡ (is_due sends past t && is_lt (time_cmp t last.time))
  pub moments : AtEach (IsMoment prog sends) [] past
  pub sound : AtEach (IsSoundAfter prog) [] past
  pub within : KeepsLimits limits past
  pub last_due : IsTrue (is_due sends past last.time)
  pub of_this : IsTrue (list_all (λ m. is_of_transaction k m.time) (done ++ last ∷ []))
  pub room : length done < limits.moments

-- Ranks and the level.

-- the rank of a node
abbrev pub rank_in : List Ranked → Name → Option ℕ
rank_in [] n = None
rank_in (r ∷ rs) n = if name_eq r.node n then Some r.rank else rank_in rs n

abbrev pub has_lower_rank : Option ℕ → ℕ → Bool
has_lower_rank None level = false
has_lower_rank (Some rank) level = nat_lt rank level

-- whether a node is below a level: its rank is less
abbrev pub is_below : List Ranked → ℕ → Name → Bool
is_below ranks level n = has_lower_rank (rank_in ranks n) level

-- whether the second node has a lower rank than the first
abbrev pub ranks_lower : List Ranked → Name → Name → Bool
ranks_lower ranks n k = is_lower_than (rank_in ranks n) where
  is_lower_than : Option ℕ → Bool
  is_lower_than None = false
  is_lower_than (Some rank) = has_lower_rank (rank_in ranks k) rank

-- Rule 2. There is one rank for each live node.
pub record AreRanked (w : Sight) (ranks : List Ranked) : Type 0 where
  pub once : IsTrue (are_distinct (map (λ r. r.node) ranks))
  pub each_live : Each w (λ x. IsTrue (is_some (rank_in ranks x.name)))
  pub only_live : AllByRecursion (λ r. IsTrue (is_some (w.node r.node))) ranks

-- Rule 5 asks that no missing value is read: the value before of each cell that the row of a node of this shape reads is there.
abbrev pub has_reads : Prog → Sight → Node → Shape → Bool
has_reads prog w x (Snapshot f s c) = not (is_some (w.occ s)) || is_some (w.pre c)
has_reads prog w x (Value c) = not (time_eq (birth x.name) w.time) || is_some (post_in w c)
has_reads prog w x (Apply cf ca) = not (is_some (w.occ cf) || is_some (w.occ ca)) || (is_some (post_in w cf) && is_some (post_in w ca))
has_reads prog w x (Switchs c) = is_some (w.pre c)
has_reads prog w x (Switchc c) = inner_is_there (post_in w c) where
  inner_is_there : Option Val → Bool
  inner_is_there None = false
  inner_is_there (Some d) = not (is_some (w.occ c) || is_some (w.occ (target d))) || is_some (post_in w (target d))
has_reads prog w x (Execute s template kept) = not (is_some (w.occ s)) || is_some (instance_in prog w x.name (Execute s template kept))
has_reads prog w x Sink = true
has_reads prog w x Never = true
has_reads prog w x Constant = true
has_reads prog w x (Map f s) = true
has_reads prog w x (Filter f s) = true
has_reads prog w x (Filteropt s) = true
has_reads prog w x (Merge f a b) = true
has_reads prog w x (Split s) = true
has_reads prog w x (Updates c) = true
has_reads prog w x (Loop to) = true
has_reads prog w x (Hold s) = true
has_reads prog w x (Mapc f c) = true

-- a cell is on a closed chain, or leads to one by links: as each name of the chain, it leads to the chain's first
pub record LeadsToChain (linked : Name → Name → Bool) (n : Name) : Type 0 where
  pub first : Name
  pub others : List Name
  pub closed : is_closed_chain linked (first ∷ others) ≡ true
  pub way : List Name
  pub leads : is_path linked (n ∷ way) first ≡ true

-- a node on or before a closed chain of Birth has no first value, and another has that of its shape
pub record HasFirst (prog : Prog) (w : Sight) (d : Plan) (x : Node) : Type 0 where
  pub missing : LeadsToChain (is_linked w Birth) x.name → x.first ≡ None
  pub there : (LeadsToChain (is_linked w Birth) x.name → ⊥) → x.first ≡ first_value prog w d.given d.shape

abbrev pub HasFirstAs : Prog → Sight → Option Plan → Node → Type 0
HasFirstAs prog w None x = ⊥
HasFirstAs prog w (Some d) x = HasFirst prog w d x

abbrev pub is_birth_chain : Why → Bool
is_birth_chain (Chain Birth names) = true
is_birth_chain (Chain During names) = false
is_birth_chain (Chain After names) = false
is_birth_chain (Endless limit) = false
is_birth_chain (Full node limit) = false

-- What is seen at the last time is w, and these nodes are below the level.
module _ (prog : Prog) (sends : List Sent) (w : Sight) (last : Moment) (below : Name → Bool) where
  -- Rule 3. A node below the level has links of During to lower ranks only, and its equation holds; only such nodes fire.
  pub record IsSettled (lower : Name → Name → Bool) : Type 0 where
    pub links_lower : Each w (λ x. IsTrue (below x.name) → AllByRecursion (λ n. IsTrue (lower x.name n)) (links w During x))
    pub equations : Each w (λ x. IsTrue (below x.name) → MeetsEquation prog sends w x)
    pub facts_below : AllByRecursion (λ f. IsTrue (below f.node)) last.fired
    pub fired_rise : IsStrictlySortedBy name_cmp (map (λ f. f.node) last.fired)

  -- whether a node is an execute whose source is below the level and fires
  abbrev pub can_make : Node → Bool
  can_make x = is_ready (execution x.shape) where
    is_ready : Option Execution → Bool
    is_ready None = false
    is_ready (Some e) = below e.source && is_some (w.occ e.source)

  -- whether the instance that a node makes is there, and is born
  abbrev pub is_whole : Node → Bool
  is_whole x = is_born_whole (instance_in prog w x.name x.shape) where
    is_born_whole : Option Instance → Bool
    is_born_whole None = false
    is_born_whole (Some i) = are_all_born last.born i.nodes

  -- whether the maker of a node, where it has one, can make and has made its whole instance
  abbrev pub is_of_whole : Name → Bool
  is_of_whole n = by (maker n) where
    made_whole : Option Node → Bool
    made_whole None = false
    made_whole (Some x) = can_make x && is_whole x

    by : Option Name → Bool
    by None = true
    by (Some e) = made_whole (w.node e)

  -- Rule 4. What is born consists of whole instances; that of each execute below the level which can make one is among them,
  -- and so are the nodes of the file at the build, where the limit lets them.
  pub record AreWhole (limits : Limits) : Type 0 where
    pub consists : AllByRecursion (λ x. IsMadeAs (plan_as prog w x.name) x) last.born
    pub whole : AllByRecursion (λ x. IsTrue (is_of_whole x.name)) last.born
    pub those_below : Each w (λ x. IsTrue (below x.name) → IsTrue (can_make x) → IsTrue (is_whole x))
    pub file : w.time ≡ build → IsTrue (are_all_born last.born (file_plans prog))
    pub file_fits : w.time ≡ build → length (file_plans prog) ≤ limits.nodes
    pub born_rise : IsStrictlySortedBy name_cmp (map (λ x. x.name) last.born)

  -- Rule 5. First values are there but on and before closed chains of Birth, of which there are none where the cause is another;
  -- no equation below the level reads a missing one. (Nor has an instance that is born: there is none where a cell that is got
  -- has no value.)
  pub record AreFirst (why : Why) : Type 0 where
    pub firsts : AllByRecursion (λ x. HasFirstAs prog w (plan_as prog w x.name) x) last.born
    pub chainless : is_birth_chain why ≡ false → (names : List Name) → is_closed_chain (is_linked w Birth) names ≡ false
    pub no_missing_read : Each w (λ x. IsTrue (below x.name) → IsTrue (has_reads prog w x x.shape))

  -- Rule 6. The cause is one of three.

  -- each live node is below the level
  abbrev pub AreAllBelow : Type 0
  AreAllBelow = Each w (λ x. IsTrue (below x.name))

  -- a cell's value after, where the cell is below the level
  abbrev pub post_below : Name → Option Val
  post_below c = if below c then post_in w c else None

  -- the names are a closed chain of the phase, by links that are settled
  pub record IsChain (phase : Phase) (names : List Name) : Type 0 where
    pub closed : is_closed_chain (is_linked_by w post_below phase) names ≡ true
    pub all_below : phase ≡ After → AreAllBelow

  -- as many moments as the limit are settled, and one more is due
  pub record IsEndless (limits : Limits) (k : ℕ) (past done : List Moment) (limit : ℕ) : Type 0 where
    pub is_limit : limit ≡ limits.moments
    pub all_below : AreAllBelow
    pub few_nodes : length (live (past ++ last ∷ [])) ≤ limits.nodes
    pub chainless : IsChainless w
    pub settled : length done + 1 ≡ limit
    pub more : Time
    pub of_this : IsTrue (is_of_transaction k more)
    pub more_due : IsTrue (is_due sends (past ++ last ∷ []) more)
    pub more_new : moment_at (past ++ last ∷ []) more ≡ None

  -- a live execute can make an instance that is not born, with which there are more nodes than the limit; there are `count`
  -- live nodes
  pub record IsFull (limits : Limits) (count : ℕ) (node : Name) (limit : ℕ) : Type 0 where
    pub is_limit : limit ≡ limits.nodes
    pub execute : Node
    pub is_live : w.node node ≡ Some execute
    pub makes : IsTrue (can_make execute)
    pub instance : Instance
    pub is_instance : instance_in prog w execute.name execute.shape ≡ Some instance
    pub unborn : are_all_born last.born instance.nodes ≡ false
    pub too_many : limit < count + length instance.nodes

  abbrev pub Shows : Limits → ℕ → List Moment → List Moment → Why → Type 0
  Shows limits k past done (Chain phase names) = IsChain phase names
  Shows limits k past done (Endless limit) = IsEndless limits k past done limit
  Shows limits k past done (Full node limit) = IsFull limits (length (live (past ++ last ∷ []))) node limit

-- The six rules, where `past` are the moments before the last time.
pub record MeetsRules (prog : Prog) (limits : Limits) (sends : List Sent) (k : ℕ) (past : List Moment) (e : Evidence) : Type 0 where
  pub reached : IsReached prog limits sends k past e.done e.last
  pub ranked : AreRanked (sight_of past e.last) e.ranks
  pub settled : IsSettled prog sends (sight_of past e.last) e.last (is_below e.ranks e.level) (ranks_lower e.ranks)
  pub births : AreWhole prog sends (sight_of past e.last) e.last (is_below e.ranks e.level) limits
  pub firsts : AreFirst prog sends (sight_of past e.last) e.last (is_below e.ranks e.level) e.why
  pub cause : Shows prog sends (sight_of past e.last) e.last (is_below e.ranks e.level) limits k past e.done e.why

-- The case of the build: the file's body alone makes more nodes than the limit. Then nothing is born, and the cause is the first
-- item that there is no room for.
pub record IsTooLarge (prog : Prog) (limits : Limits) (k : ℕ) (trace : List Moment) (e : Evidence) : Type 0 where
  pub of_build : k ≡ 0
  pub first_moment : trace ++ e.done ≡ []
  pub nothing : e.last ≡ record { time = build; born = []; fired = [] }
  pub no_ranks : e.ranks ≡ []
  pub too_many : limits.nodes < length (file_plans prog)
  pub cause : e.why ≡ Full (declared_name limits.nodes) limits.nodes
  pub room : 0 < limits.moments

-- The evidence is true of transaction k, after the moments of this trace, where the sends include its own.
abbrev pub IsTrueEvidence : Prog → Limits → List Sent → ℕ → List Moment → Evidence → Type 0
IsTrueEvidence prog limits sends k trace e = IsTooLarge prog limits k trace e ⊎ MeetsRules prog limits sends k (trace ++ e.done) e

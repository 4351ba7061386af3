-- Laws that show that the definitions of traces and values mean what they should.
use Rattle.std.specs.Prelude.{◌≡◌, ◌⊎◌, ◌↔◌, ◌==◌, not, ◌&&◌, ℕ, Bool, false, List, [], ◌∷◌, ◌++◌, map, Some, None, is_some, option_and_then, IsTrue}
use Rattle.std.specs.List.{AllByRecursion, list_any}
use Rattle.std.specs.List.Sorted.{IsStrictlySortedBy}
use Rattle.frp_base.specs.declared.time.Time.{Time}
use Rattle.frp_base.specs.declared.name.Name.{Name}
use Rattle.frp_base.specs.declared.val.Val.{Val}
use Rattle.frp_graph.specs.declared.trace.Node.{Node}
use Rattle.frp_graph.specs.declared.trace.Fact.{Fact}
use Rattle.frp_graph.specs.declared.trace.Moment.{Moment}
use Rattle.frp_graph.specs.declared.trace.Sent.{Sent}
use Rattle.frp_graph.specs.declared.prog.Prog.{Prog}
use Rattle.frp_base.specs.Time.{time_eq, time_cmp}
use Rattle.frp_base.specs.Name.{name_eq, name_cmp}
use Rattle.frp_graph.specs.Trace.{Sight, node_first, node_in, occ, pre, post, moment_at, value_after}
use Rattle.frp_graph.specs.Applied.{call}
use Rattle.frp_graph.specs.Sends.{join_of, sent_in}
use Rattle.frp_graph.specs.Births.{Plan, plan_in}
use Rattle.frp_graph.specs.FirstValues.{IsBornAs, AreExactly, AreBorn, are_all_born}
use Rattle.frp_graph.specs.Moments.{IsTrace, IsMoment, AtEach, is_due, is_of_transaction, transaction, moments_of}
use Rattle.frp_graph.specs.Links.{is_path, are_distinct, is_closed_chain}

-- among these facts is one of the node with this value
abbrev pub IsFact : List Fact → Name → Val → Type 0
IsFact [] n v = ⊥
IsFact (f ∷ fs) n v = ((f.node ≡ n) × (f.value ≡ v)) ⊎ IsFact fs n v

-- somewhere in the trace the node fires at the time with this value
abbrev pub Occurs : List Moment → Name → Time → Val → Type 0
Occurs [] n t v = ⊥
Occurs (m ∷ ms) n t v = ((m.time ≡ t) × IsFact m.fired n v) ⊎ Occurs ms n t v

-- A node has at most one occurrence at a time.
abbrev pub OneOccurrence : Type 0
OneOccurrence = (prog : Prog) (sends : List Sent) (trace : List Moment) → IsTrace prog sends trace
    → (n : Name) (t : Time) (v w : Val) → Occurs trace n t v → Occurs trace n t w → v ≡ w

-- A node's occurrence at a moment is the value of its facts there, so these have one value.
abbrev pub FactsAreFound : Type 0
FactsAreFound = (m : Moment) → IsStrictlySortedBy name_cmp (map (λ f. f.node) m.fired) → (n : Name) (v : Val) → IsFact m.fired n v ↔ (occ m n ≡ Some v)

-- A cell's values before and after a moment differ exactly where it steps to another value.
abbrev pub StepsTellApart : Type 0
StepsTellApart = (past : List Moment) (m : Moment) (c : Name)
    → (pre past m c ≡ post past m c → ⊥) ↔ ((v : Val) × (occ m c ≡ Some v) × (pre past m c ≡ Some v → ⊥))

-- A cell's value before a moment depends on no occurrence or step at that moment.
abbrev pub BeforeIsStrict : Type 0
BeforeIsStrict = (past : List Moment) (m k : Moment) (c : Name) → m.born ≡ k.born → pre past m c ≡ pre past k c

-- Whether a moment is one that the program has depends on it and on those before, and on no later one.
abbrev pub EarlierMomentsStay : Type 0
EarlierMomentsStay = (prog : Prog) (sends : List Sent) (trace : List Moment) (m : Moment)
    → AtEach (IsMoment prog sends) [] (trace ++ m ∷ []) ↔ (AtEach (IsMoment prog sends) [] trace × IsMoment prog sends trace m)

-- A transaction's moments are exactly its due times, in order.
abbrev pub TransactionsAreDue : Type 0
TransactionsAreDue = (prog : Prog) (sends : List Sent) (trace : List Moment) → IsTrace prog sends trace → (k : ℕ)
    → IsStrictlySortedBy time_cmp (map (λ m. m.time) (transaction k trace))
    × ((t : Time) → is_some (moment_at (transaction k trace) t) ≡ (is_due sends trace t && is_of_transaction k t))

-- A place that is not the build's and of no send has no moments.
abbrev pub NoneUnsent : Type 0
NoneUnsent = (prog : Prog) (sends : List Sent) (trace : List Moment) → IsTrace prog sends trace → (k : ℕ)
    → (k ≡ 0 → ⊥) → list_any (λ s. s.place == k) sends ≡ false → moments_of k trace ≡ 0

-- The nodes that are born are those of these plans: each is born as one of them is planned, and each of them is born.
pub record AreThose (prog : Prog) (w : Sight) (plans : List Plan) (born : List Node) : Type 0 where
  pub each_is_planned : AllByRecursion (λ x. IsBornAs prog w (plan_in plans x.name) x) born
  pub each_is_born : IsTrue (are_all_born born plans)

-- Nodes that are born one by one as they were planned, by rising name, are those of the plans.
abbrev pub BornInOrder : Type 0
BornInOrder = (prog : Prog) (w : Sight) (plans : List Plan) (born : List Node)
    → IsStrictlySortedBy name_cmp (map (λ d. d.name) plans) → AreBorn prog w plans born → AreThose prog w plans born

-- What is born at a time is determined by what is seen then.
abbrev pub BirthsAreOne : Type 0
BirthsAreOne = (prog : Prog) (w : Sight) (born others : List Node)
    → IsStrictlySortedBy name_cmp (map (λ x. x.name) born) → IsStrictlySortedBy name_cmp (map (λ x. x.name) others)
    → AreExactly prog w born → AreExactly prog w others → born ≡ others

-- A node that is never born with a first value has no value, whatever it fires: so a stream has none.
abbrev pub StreamsHaveNoValue : Type 0
StreamsHaveNoValue = (trace : List Moment) (n : Name)
    → AllByRecursion (λ m. option_and_then node_first (node_in m.born n) ≡ None) trace → value_after trace n ≡ None

-- whether a send is to this sink, at this time
abbrev pub is_sent_at : Time → Name → Sent → Bool
is_sent_at t n s = time_eq t (s.place ∷ []) && name_eq s.sink n

-- What one more send changes of what a sink has: the first that is sent to it at a time is what it has then; a later one is
-- combined with what the earlier ones gave, by the sink's expression; elsewhere nothing changes.
pub record IsCombined (prog : Prog) (sends : List Sent) (s : Sent) : Type 0 where
  pub first : AllByRecursion (λ r. IsTrue (not (is_sent_at (s.place ∷ []) s.sink r))) sends
      → sent_in prog (sends ++ s ∷ []) (s.place ∷ []) s.sink ≡ Some s.value
  pub later : (v : Val) (code : ℕ) → sent_in prog sends (s.place ∷ []) s.sink ≡ Some v → join_of prog s.sink ≡ Some code
      → sent_in prog (sends ++ s ∷ []) (s.place ∷ []) s.sink ≡ Some (call prog (record { code = code; kept = [] }) (v ∷ s.value ∷ []))
  pub elsewhere : (t : Time) (n : Name) → IsTrue (not (is_sent_at t n s)) → sent_in prog (sends ++ s ∷ []) t n ≡ sent_in prog sends t n

abbrev pub SendsAreCombined : Type 0
SendsAreCombined = (prog : Prog) (sends : List Sent) (s : Sent) → IsCombined prog sends s

-- a list with its end put before its beginning
pub record IsTurn (names turned : List Name) : Type 0 where
  pub front : List Name
  pub back : List Name
  pub parts : names ≡ front ++ back
  pub put : turned ≡ back ++ front

-- distinct names, each linked to the next and the last to the first
abbrev pub is_ring : (Name → Name → Bool) → List Name → Bool
is_ring linked [] = false
is_ring linked (n ∷ ns) = are_distinct (n ∷ ns) && is_path linked (n ∷ ns) n

-- Such names may be turned to begin with the least, and then they are a closed chain, and one list.
pub record TurnsToChain (linked : Name → Name → Bool) (ring : List Name) : Type 0 where
  pub chain : List Name
  pub turns : IsTurn ring chain
  pub closed : IsTrue (is_closed_chain linked chain)
  pub one : (others : List Name) → IsTurn ring others → IsTrue (is_closed_chain linked others) → others ≡ chain

abbrev pub RingsTurn : Type 0
RingsTurn = (linked : Name → Name → Bool) (ring : List Name) → IsTrue (is_ring linked ring) → TurnsToChain linked ring

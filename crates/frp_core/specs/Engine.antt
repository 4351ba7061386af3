-- What the plain engine makes of a moment: an occurrence or none for each node, in the order of the nodes.
use Rattle.std.specs.Prelude.{◌≡◌, ℕ, List, [], ◌∷◌, ◌++◌, Option, Some, None, option_and_then, slice_get, if◌then◌else◌, ⊤}
use Rattle.frp_base.specs.declared.name.Name.{Name}
use Rattle.frp_base.specs.declared.val.Val.{Val}
use Rattle.frp_base.specs.Name.{name_eq, item_of}
use Rattle.frp_graph.specs.declared.trace.Node.{Node}
use Rattle.frp_graph.specs.declared.trace.Fact.{Fact}
use Rattle.frp_graph.specs.declared.trace.Sent.{Sent}
use Rattle.frp_graph.specs.declared.prog.Prog.{Prog}
use Rattle.frp_graph.specs.Trace.{Sight}
use Rattle.frp_graph.specs.Equations.{row}

-- the send at a place, where there is one
abbrev pub sends_of_fact : ℕ → Option Fact → List Sent
sends_of_fact place None = []
sends_of_fact place (Some f) = record { place = place; part = 0; sink = f.node; value = f.value } ∷ []

-- what is sent to the node of a name
abbrev pub sent_to : Option Fact → Name → Option Val
sent_to None n = None
sent_to (Some f) n = if name_eq f.node n then Some f.value else None

-- the occurrence of a declared node, by the number of its item
abbrev pub occ_at : List (Option Val) → Name → Option Val
occ_at occs n = option_and_then (λ (o : Option Val). o) (slice_get occs (item_of n))

-- what is seen of these occurrences at the time of a place
abbrev pub sees : ℕ → List (Option Val) → Sight
sees place occs = record { time = place ∷ []; node = λ n. None; occ = occ_at occs; pre = λ n. None; above = λ n. None }

-- each node's occurrence is the one of its row, where the occurrences before it are seen
abbrev pub AreSettled : Prog → ℕ → Option Fact → List (Option Val) → List Node → List (Option Val) → Type 0
AreSettled prog place sent before [] [] = ⊤
AreSettled prog place sent before (x ∷ xs) (o ∷ os) = (o ≡ row prog (sends_of_fact place sent) (sees place before) x x.shape) × (AreSettled prog place sent (before ++ o ∷ []) xs os)
AreSettled prog place sent before _ _ = ⊥

-- the facts of the nodes that have an occurrence
abbrev pub facts_of : List Node → List (Option Val) → List Fact
facts_of (x ∷ xs) (Some v ∷ os) = record { node = x.name; value = v } ∷ facts_of xs os
facts_of (x ∷ xs) (None ∷ os) = facts_of xs os
facts_of _ _ = []

-- these are the facts of these nodes at the moment
pub record AreFacts (prog : Prog) (nodes : List Node) (place : ℕ) (sent : Option Fact) (facts : List Fact) : Type 0 where
  pub occs : List (Option Val)
  pub settled : AreSettled prog place sent [] nodes occs
  pub fired : facts ≡ facts_of nodes occs

-- The end of a moment.
use Rattle.std.specs.Prelude.{◌≡◌, ℕ, true, List, [], ◌∷◌, ◌++◌, Option, Some, None, is_some, option_and_then, map, slice_get, length, IsTrue, ⊤}
use Rattle.frp_base.specs.declared.name.Name.{Name}
use Rattle.frp_base.specs.declared.val.Val.{Val}
use Rattle.frp_graph.specs.declared.trace.Fact.{Fact}
use Rattle.frp_graph.specs.declared.trace.Moment.{Moment}
use Rattle.frp_graph.specs.Trace.{fact_in, stepped}
use Rattle.frp_graph.specs.Links.{are_distinct}
use Rattle.frp_store.specs.declared.held.Held.{Held}
use Rattle.frp_store.specs.declared.held.Step.{Step}
use Rattle.frp_store.specs.declared.held.Closing.{Closing}
use Rattle.frp_store.specs.State.{occ_in}
use Rattle.frp_store.specs.Lists.{Lists, nodes_of}
use Rattle.frp_store.specs.Items.{updated}
use Rattle.frp_store.specs.Undo.{set_occ, set_before, unwritten}

-- the occurrence of a name
abbrev pub occ_of : List Held → Name → Option Val
occ_of held n = occ_in (nodes_of held) (map (λ (h : Held). h.occ) held) n

-- the occurrence and the value before at a place
abbrev pub held_occ : Held → Option Val
held_occ h = h.occ

abbrev pub held_before : Held → Option Val
held_before h = h.before

abbrev pub held_target : Held → Option ℕ
held_target h = h.target

abbrev pub at : {A : Type 0} → (Held → Option A) → List Held → ℕ → Option A
at f held p = option_and_then f (slice_get held p)

-- without occurrence; a cell with one has stepped to it
abbrev pub silenced : List Held → List Held
silenced held = map (set_occ None) held

abbrev pub closed : Held → Held
closed h = record h { before = stepped h.before h.occ; occ = None }

abbrev pub closed_all : List Held → List Held
closed_all held = map closed held

-- of a cell, its occurrence
abbrev pub cell_step : Option Val → Option Val → Option Val
cell_step None o = None
cell_step (Some b) o = o

-- what the end of a moment takes of a node that has an occurrence
abbrev pub IsPrepared : Option Held → Closing → Type 0
IsPrepared None c = ⊥
IsPrepared (Some h) c = (c.name ≡ h.node.name) × (IsTrue (is_some h.occ) → c.after ≡ cell_step h.before h.occ)

abbrev pub ArePrepared : List Held → List ℕ → List Closing → Type 0
ArePrepared held [] [] = ⊤
ArePrepared held [] (c ∷ cs) = ⊥
ArePrepared held (p ∷ ps) [] = ⊥
ArePrepared held (p ∷ ps) (c ∷ cs) = IsPrepared (slice_get held p) c × ArePrepared held ps cs

-- the fact of an occurrence
abbrev pub facts_from : Name → Option Val → List Fact
facts_from n None = []
facts_from n (Some v) = record { node = n; value = v } ∷ []

-- a cell's step to a value, by the value that it had
abbrev pub steps_from : ℕ → Option Val → Option Val → List Step
steps_from p None before = []
steps_from p (Some v) None = []
steps_from p (Some v) (Some b) = record { place = p; value = b } ∷ []

-- the cell of a place, if any, has stepped to a value, if any
abbrev pub stepped_at : ℕ → Option Val → List Held → List Held
stepped_at p None held = held
stepped_at p (Some v) held = updated p (set_before (Some v)) held

-- what is taken of a place, by its occurrence
abbrev pub taken_at : ℕ → Option Val → Option Val → List Held → List Held
taken_at p None after held = held
taken_at p (Some v) after held = stepped_at p after held

abbrev pub taken_steps : ℕ → Option Val → Option Val → Option Val → List Step
taken_steps p None after before = []
taken_steps p (Some v) after before = steps_from p after before

-- the nodes' occurrences are facts now, and the steps of the cells can be undone
pub record HasClosed (old new : List Held) (fs : List Fact) (ss : List Step) : Type 0 where
  pub held : new ≡ closed_all old
  pub facts : (n : Name) → fact_in fs n ≡ occ_of old n
  pub once : are_distinct (map (λ (f : Fact). f.node) fs) ≡ true
  pub steps : unwritten ss new ≡ silenced old

-- a moment is over, and stands in the trace
abbrev pub ended_lists : Moment → Lists → Lists
ended_lists m l = record { past = l.past ++ m ∷ []; begun = None; above = None; first = length l.held; held = l.held; fired = [] }

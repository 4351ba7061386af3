-- What contracts see of a store: the trace, the moment that is begun, and by place the live nodes, their occurrences and where they
-- are turned.
use Rattle.std.specs.Prelude.{ℕ, List, [], ◌∷◌, ◌-◌, zero, suc, Option, Some, None, option_map, option_and_then, length, map, drop, slice_get, if◌then◌else◌, refl}
use Rattle.std.specs.Coded.{Coded, code_by, coded×, coded_ℕ, coded_list, coded_option}
use Rattle.frp_base.specs.declared.time.Time.{Time}
use Rattle.frp_base.specs.declared.name.Name.{Name}
use Rattle.frp_base.specs.declared.val.Val.{Val}
use Rattle.frp_base.specs.Name.{name_eq}
use Rattle.frp_graph.specs.declared.prog.Prog.{Prog}
use Rattle.frp_graph.specs.declared.trace.Node.{Node}
use Rattle.frp_graph.specs.declared.trace.Moment.{Moment}
use Rattle.frp_graph.specs.Trace.{Sight, node_in, node_first, or_else, value_after, occ_above}

-- The moments that ended; the time of the moment that is begun; how many nodes were live before it, all of them where none is begun;
-- and by place the live nodes, their occurrences at the begun moment, and the places to which they were turned last.
pub record State : Type 0 where
  pub past : List Moment
  pub begun : Option Time
  pub first : ℕ
  pub nodes : List Node
  pub occs : List (Option Val)
  pub targets : List (Option ℕ)

-- a program, and its graph as it is and as it was at the last commit
pub record Versions : Type 0 where
  pub prog : Prog
  pub now : State
  pub base : State

-- they are stored as their parts
abbrev pub state_code : Coded Moment → Coded Node → Coded Val → Coded State
state_code moment node value =
    code_by (List Moment × (Option Time × (ℕ × (List Node × (List (Option Val) × List (Option ℕ))))))
    (coded× (coded_list moment) (coded× (coded_option (coded_list coded_ℕ)) (coded× coded_ℕ (coded× (coded_list node) (coded× (coded_list (coded_option value)) (coded_list (coded_option coded_ℕ)))))))
    (λ s. (s.past, (s.begun, (s.first, (s.nodes, (s.occs, s.targets))))))
    (λ p. record { past = p.0; begun = p.1.0; first = p.1.1.0; nodes = p.1.1.1.0; occs = p.1.1.1.1.0; targets = p.1.1.1.1.1 })
    (λ _. refl)

abbrev pub versions_code : Coded Prog → Coded State → Coded Versions
versions_code prog state =
    code_by (Prog × (State × State)) (coded× prog (coded× state state)) (λ v. (v.prog, (v.now, v.base)))
    (λ p. record { prog = p.0; now = p.1.0; base = p.1.1 }) (λ _. refl)

-- without nodes and moments
abbrev pub no_state : State
no_state = record { past = []; begun = None; first = 0; nodes = []; occs = []; targets = [] }

-- the names of nodes
abbrev pub names : List Node → List Name
names nodes = map (λ (x : Node). x.name) nodes

-- the number of the first of these nodes that has this name
abbrev pub place_in : List Node → Name → Option ℕ
place_in [] n = None
place_in (x ∷ xs) n = if name_eq x.name n then Some zero else option_map suc (place_in xs n)

-- the occurrence at the place of a name
abbrev pub occ_in : List Node → List (Option Val) → Name → Option Val
occ_in [] os n = None
occ_in (x ∷ xs) [] n = None
occ_in (x ∷ xs) (o ∷ os) n = if name_eq x.name n then o else occ_in xs os n

-- the moment that ended last
abbrev pub last_moment : List Moment → Option Moment
last_moment ms = slice_get ms (length ms - 1)

-- the time that is begun, else that of the last moment, else that of the build
abbrev pub time_by : Option Time → Option Moment → Time
time_by (Some t) m = t
time_by None (Some m) = m.time
time_by None None = 0 ∷ []

-- the nodes that were born since the moment was begun
abbrev pub births : State → List Node
births s = drop s.first s.nodes

-- a cell's value before: its first value where it was born since the moment was begun, else that after the moments that ended
abbrev pub pre_in : State → Name → Option Val
pre_in s n = or_else (option_and_then node_first (node_in (births s) n)) (value_after s.past n)

-- the occurrence at the parent of the time that is begun
abbrev pub above_in : Option Time → List Moment → Name → Option Val
above_in None past n = None
above_in (Some t) past n = occ_above past t n

-- what a store shows: at the begun moment, or where none is begun after the last one
abbrev pub sight : State → Sight
sight s = record {
  time = time_by s.begun (last_moment s.past);
  node = node_in s.nodes;
  occ = occ_in s.nodes s.occs;
  pre = pre_in s;
  above = above_in s.begun s.past;
}

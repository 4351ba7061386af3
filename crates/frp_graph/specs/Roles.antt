-- What a node does beside following its links, by its shape: an input takes what is sent, a split gives the items of a list at
-- moments of their own, and an execute makes nodes. Beside a line's role, a loop is tied to a node.
use Rattle.std.specs.Prelude.{ℕ, Bool, true, false, List, Option, Some, None}
use Rattle.frp_base.specs.declared.name.Name.{Name}
use Rattle.frp_base.specs.declared.val.Val.{Val}
use Rattle.frp_graph.specs.declared.prog.LineShape.{LineShape}
use Rattle.frp_graph.specs.declared.prog.LineShape.TheVariants as l
use Rattle.frp_graph.specs.declared.shape.Shape.{Shape}
use Rattle.frp_graph.specs.declared.shape.Shape.TheVariants.{Sink, Never, Constant, Map, Filter, Filteropt, Merge, Snapshot, Split, Updates, Value, Loop, Hold, Mapc, Apply, Switchs, Switchc, Execute}

-- What an execute is: the stream at whose occurrences it makes instances of a template, with these kept values.
pub record Execution : Type 0 where
  pub source : Name
  pub template : ℕ
  pub kept : List Val

pub data Role : Type 0 where
  Input : Role
  Splits : Name → Role
  Executes : Execution → Role
  Follows : Role

abbrev pub role : Shape → Role
role Sink = Input
role (Split s) = Splits s
role (Execute s template kept) = Executes (record { source = s; template = template; kept = kept })
role Never = Follows
role Constant = Follows
role (Map f s) = Follows
role (Filter f s) = Follows
role (Filteropt s) = Follows
role (Merge f a b) = Follows
role (Snapshot f s c) = Follows
role (Updates c) = Follows
role (Value c) = Follows
role (Loop to) = Follows
role (Hold s) = Follows
role (Mapc f c) = Follows
role (Apply cf ca) = Follows
role (Switchs c) = Follows
role (Switchc c) = Follows

pub data LineRole : Type 0 where
  OfInput : LineRole
  OfLoop : ℕ → LineRole
  OfExecute : ℕ → LineRole
  OfOther : LineRole

abbrev pub line_role : LineShape → LineRole
line_role l.Sink = OfInput
line_role (l.Loop to) = OfLoop to
line_role (l.Execute s template kept) = OfExecute template
line_role l.Never = OfOther
line_role (l.Constant o) = OfOther
line_role (l.Map f s) = OfOther
line_role (l.Filter f s) = OfOther
line_role (l.Filteropt s) = OfOther
line_role (l.Merge f a b) = OfOther
line_role (l.Snapshot f s c) = OfOther
line_role (l.Split s) = OfOther
line_role (l.Updates c) = OfOther
line_role (l.Value c) = OfOther
line_role (l.Hold o s) = OfOther
line_role (l.Mapc f c) = OfOther
line_role (l.Apply cf ca) = OfOther
line_role (l.Switchs c) = OfOther
line_role (l.Switchc c) = OfOther

-- Each role's part, where the role is the one.

abbrev pub is_input : Role → Bool
is_input Input = true
is_input (Splits s) = false
is_input (Executes e) = false
is_input Follows = false

abbrev pub split_of : Role → Option Name
split_of Input = None
split_of (Splits s) = Some s
split_of (Executes e) = None
split_of Follows = None

abbrev pub execution_of : Role → Option Execution
execution_of Input = None
execution_of (Splits s) = None
execution_of (Executes e) = Some e
execution_of Follows = None

abbrev pub is_input_line : LineRole → Bool
is_input_line OfInput = true
is_input_line (OfLoop to) = false
is_input_line (OfExecute k) = false
is_input_line OfOther = false

abbrev pub tied_in : LineRole → Option ℕ
tied_in OfInput = None
tied_in (OfLoop to) = Some to
tied_in (OfExecute k) = None
tied_in OfOther = None

abbrev pub template_in : LineRole → Option ℕ
template_in OfInput = None
template_in (OfLoop to) = None
template_in (OfExecute k) = Some k
template_in OfOther = None

-- the same of a shape: whether its node is an input, the stream whose items it splits, and what it executes
abbrev pub is_sink_shape : Shape → Bool
is_sink_shape shape = is_input (role shape)

abbrev pub split_source : Shape → Option Name
split_source shape = split_of (role shape)

abbrev pub execution : Shape → Option Execution
execution shape = execution_of (role shape)

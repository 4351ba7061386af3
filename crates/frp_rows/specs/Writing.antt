-- Short ways to write down programs, traces and histories.
use Rattle.std.specs.Prelude.{ℕ, pos, List, [], Some, None}
use Rattle.frp_base.specs.declared.time.Time.{Time}
use Rattle.frp_base.specs.declared.name.Name.{Name}
use Rattle.frp_base.specs.declared.ty.Ty.{Ty}
use Rattle.frp_base.specs.declared.ty.Ty.TheVariants as t
use Rattle.frp_base.specs.declared.val.Val.{Val}
use Rattle.frp_base.specs.declared.val.Val.TheVariants as v
use Rattle.frp_base.specs.Name.{declared_name}
use Rattle.frp_expr.specs.declared.expr.Expr.{Expr}
use Rattle.frp_expr.specs.declared.expr.Expr.TheVariants as ex
use Rattle.frp_graph.specs.declared.prog.Prog.{Prog}
use Rattle.frp_graph.specs.declared.prog.Line3.{Line3}
use Rattle.frp_graph.specs.declared.prog.LineLam.{LineLam}
use Rattle.frp_graph.specs.declared.shape.Lam.{Lam}
use Rattle.frp_graph.specs.declared.shape.Shape.{Shape}
use Rattle.frp_graph.specs.declared.trace.Node.{Node}
use Rattle.frp_graph.specs.declared.trace.Fact.{Fact}
use Rattle.frp_graph.specs.declared.trace.Moment.{Moment}
use Rattle.frp_graph.specs.declared.trace.Sent.{Sent}
use Rattle.frp_graph.specs.declared.evidence.Ranked.{Ranked}
use Rattle.frp_graph.specs.declared.limits.Limits.{Limits}
use Rattle.frp_history.specs.declared.history.Key.{Key}
use Rattle.frp_history.specs.declared.history.Cmd.{Cmd}
use Rattle.frp_history.specs.declared.history.Cmd.TheVariants as cmd
use Rattle.frp_history.specs.declared.history.Reply.{Reply}
use Rattle.frp_history.specs.declared.history.Reply.TheVariants as reply
use Rattle.frp_history.specs.declared.history.Delivered.{Delivered}
use Rattle.frp_history.specs.declared.history.Entry.{Entry}

-- item k of the file, by its name, and a reference to it
abbrev pub item : ℕ → Name
item = declared_name

abbrev pub stream_val : ℕ → Val
stream_val k = v.Stream (item k)

abbrev pub cell_val : ℕ → Val
cell_val k = v.Cell (item k)

-- a number as a value, and as an expression
abbrev pub num : ℕ → Val
num n = v.Int (pos n)

abbrev pub lit : ℕ → Expr
lit n = ex.Int (pos n)

-- a program of these expressions and lines, without functions and templates
abbrev pub program : List Expr → List Line3 → Prog
program codes lines =
    record { codes = codes; funs = []; templates = []; body = record { param = None; kept = []; lines = lines; give = None }; joins = [] }

-- an expression of the program, by its number, over these values of the body, by their positions; and with kept values
abbrev pub line_code : ℕ → List ℕ → LineLam
line_code k kept = record { code = k; kept = kept }

abbrev pub lam : ℕ → List Val → Lam
lam k kept = record { code = k; kept = kept }

-- a stream and a cell of the file, by its item
abbrev pub stream_node : ℕ → Ty → Shape → Node
stream_node k a shape = record { name = item k; shape = shape; ty = t.Stream a; first = None }

abbrev pub cell_node : ℕ → Ty → Shape → Val → Node
cell_node k a shape v = record { name = item k; shape = shape; ty = t.Cell a; first = Some v }

-- a node of the file fires
abbrev pub fires : ℕ → Val → Fact
fires k v = record { node = item k; value = v }

-- a moment at which nothing is born
abbrev pub moment : Time → List Fact → Moment
moment u fired = record { time = u; born = []; fired = fired }

-- the rank of an item
abbrev pub ranked : ℕ → ℕ → Ranked
ranked k rank = record { node = item k; rank = rank }

-- what is sent to an item by the command at a place
abbrev pub sent_at : ℕ → ℕ → Val → Sent
sent_at place k v = record { place = place; part = 0; sink = item k; value = v }

-- the limits of the program
abbrev pub usual : Limits
usual = record { moments = 4096; nodes = 65536; entries = 1000000; senders = 16; workers = 16; sends = 4096 }

-- Entries: caller 0 listens, to an item of the file from this place on; caller 1 sends to an item; caller 0 leaves with the key of a
-- place, and is given these items.

abbrev pub key : ℕ → Key
key place = record { slot = place; place = place }

abbrev pub listens : ℕ → ℕ → Entry
listens k place = record { caller = 0; cmd = cmd.Join (item k); reply = reply.Joined (key place) }

abbrev pub send : ℕ → Val → Cmd
send k v = cmd.Send (item k) v

abbrev pub sends_all : Cmd → Reply → Entry
sends_all c r = record { caller = 1; cmd = c; reply = r }

abbrev pub sends : ℕ → Val → Reply → Entry
sends k v r = sends_all (send k v) r

abbrev pub leaves : ℕ → List Delivered → Entry
leaves place items = record { caller = 0; cmd = cmd.Leave (key place); reply = reply.Left items }

abbrev pub gave : Time → ℕ → Delivered
gave u n = record { time = u; value = num n }

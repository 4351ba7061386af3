-- The first fault of a file: of its declarations in order, then a loop that is not tied, then of its listens and its senders.
use Rattle.std.specs.Prelude.{List, [], ◌∷◌, Ok, Err}
use Rattle.frp_expr.specs.Raw.{ExprOutcome, ◌>>=◌, typing}
use Rattle.frp_expr.specs.declared.fault.TypeKind.TheVariants as kind
use Rattle.frp_file.specs.declared.file.File.{File}
use Rattle.frp_file.specs.declared.file.Listen.{Listen}
use Rattle.frp_file.specs.declared.file.RawSend.{RawSend}
use Rattle.frp_file.specs.declared.file.Sender.{Sender}
use Rattle.frp_type.specs.Known.{Known, nothing, named, all_declared}
use Rattle.frp_type.specs.declared.state.Loop.{Loop}

-- the first loop that is not tied
abbrev pub all_tied : List Loop → ExprOutcome (Unit {0})
all_tied [] = Ok tt
all_tied (l ∷ ls) = Err (record { place = l.at; kind = kind.Untied })

module _ (k : Known) where
  abbrev pub listened : List Listen → ExprOutcome (Unit {0})
  listened [] = Ok tt
  listened (l ∷ ls) = do
    _ ← named k l.name
    listened ls

  abbrev pub all_sent : List RawSend → ExprOutcome (Unit {0})
  all_sent [] = Ok tt
  all_sent (s ∷ ss) = do
    _ ← named k s.name
    _ ← typing k.funs s.value k.names
    all_sent ss

  abbrev pub scripted : List Sender → ExprOutcome (Unit {0})
  scripted [] = Ok tt
  scripted (s ∷ ss) = do
    _ ← all_sent s.sends
    scripted ss

-- what is known of a file without a fault, or its first fault
abbrev pub checked : File → ExprOutcome Known
checked f = do
  k ← all_declared nothing f.graph.decls
  _ ← all_tied k.loops
  _ ← listened k f.listens
  _ ← scripted k f.senders
  Ok k

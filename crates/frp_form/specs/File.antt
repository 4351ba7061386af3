-- The file of a list of tokens, or its first fault.
use Rattle.std.specs.Prelude.{ℕ, if◌then◌else◌, List, [], ◌∷◌, codes, Option, Some, None, Ok}
use Rattle.frp_lex.specs.declared.token.Token.{Token}
use Rattle.frp_file.specs.declared.file.File.{File}
use Rattle.frp_file.specs.declared.file.Graph.{Graph}
use Rattle.frp_file.specs.declared.file.Listen.{Listen}
use Rattle.frp_file.specs.declared.file.Sender.{Sender}
use Rattle.frp_file.specs.declared.file.RawSend.{RawSend}
use Rattle.frp_form.specs.declared.fault.FormKind.TheVariants as kind
use Rattle.frp_form.specs.declared.over.Over.TheVariants as o
use Rattle.frp_form.specs.declared.reading.Reading.{Reading}
use Rattle.frp_form.specs.Gives.{FormOutcome, Parser, ◌>>=◌}
use Rattle.frp_form.specs.Tokens.{right, spot, opened, begins, after_right}
use Rattle.frp_form.specs.Lists.{items, many, over_at}
use Rattle.frp_form.specs.Exprs.{whole_expr}
use Rattle.frp_form.specs.Decls.{decl}

-- the listens end where no listen begins
abbrev pub after_listens : List Token → Option (List Token)
after_listens ts = if begins (codes "listen") ts then None else Some ts

-- the senders end where the input does
abbrev pub at_end : List Token → Option (List Token)
at_end [] = Some []
at_end (t ∷ ts) = None

module _ (end : ℕ) where
  unfoldable pub graph : Parser Graph
  graph ts = do
    at ← opened end (codes "graph") ts
    decls ← many end after_right (decl end) at.1
    Ok (record { at = at.0; decls = decls.0 }, decls.1)

  unfoldable pub listen : Parser Listen
  listen ts = do
    at ← opened end (codes "listen") ts
    name ← spot end at.1
    after ← right end name.1
    Ok (record { at = at.0; name = name.0 }, after)

  unfoldable pub send : Parser RawSend
  send ts = do
    at ← opened end (codes "send") ts
    name ← spot end at.1
    value ← whole_expr end name.1
    after ← right end value.1
    Ok (record { at = at.0; name = name.0; value = value.0 }, after)

  -- at most 4,096 sends
  unfoldable pub sends : Parser (List RawSend)
  sends = items after_right (over_at end o.Send) send 4096

  unfoldable pub sender : Parser Sender
  sender ts = do
    at ← opened end (codes "sender") ts
    all ← sends at.1
    Ok (record { at = at.0; sends = all.0 }, all.1)

  -- at most 16 senders, or 1 where one alone is allowed
  unfoldable pub senders : Reading → Parser (List Sender)
  senders how =
      if how.one_sender then items at_end (over_at end (o.Sender kind.Senders)) sender 1
      else items at_end (over_at end (o.Sender kind.Many)) sender 16

  -- a file, which ends with the tokens
  unfoldable pub file_of : Reading → List Token → FormOutcome File
  file_of how ts = do
    g ← graph ts
    listens ← many end after_listens listen g.1
    all ← senders how listens.1
    Ok (record { graph = g.0; listens = listens.0; senders = all.0 })

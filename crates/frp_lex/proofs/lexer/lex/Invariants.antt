use Rattle.std.proofs.Common.{◌≡◌, ◌-◌, ◌≤◌, length, drop}
use Rattle.frp_lex.specs.Tokens.{tokens, tokens_from}
use Rattle.frp_lex.proofs.Reading.{behind}
use Rattle.frp_lex.proofs.lexer.lex.Given as goal

abbrev pub invariant-loop-at : goal.invariant-loop-at
invariant-loop-at l = record { so_far : behind l.tokens (tokens_from 0 l.at (drop l.at l.bytes)) ≡ tokens l.bytes; within : l.at ≤ length l.bytes }

abbrev pub decreases-loop-at : goal.decreases-loop-at
decreases-loop-at l = length l.bytes - l.at

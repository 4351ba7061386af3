use Rattle.std.proofs.Common.{◌≡◌, ◌++◌, drop}
use Rattle.frp_lex.specs.Spelling.{spelled_after, spelling, kinds}
use Rattle.frp_lex.proofs.speller.spell.Given as goal

-- what is written so far, and what follows the last token written
abbrev pub invariant-loop-token : goal.invariant-loop-token
invariant-loop-token l = l.line ++ spelled_after l.before (kinds (drop l.token-index l.rest)) ≡ spelling (kinds l.fn.tokens)

use Rattle.std.proofs.Common.{◌≡◌, drop, map}
use Rattle.std.specs.Prelude.{string_bytes}
use Rattle.frp_words.specs.Steps.{start, walked}
use Rattle.frp_words.proofs.parser.walk.Given as goal

-- the words that are left lead from here to where all words lead from the start
abbrev pub invariant-loop-word : goal.invariant-loop-word
invariant-loop-word l =
    walked l.state (map string_bytes (drop l.word-index l.words)) ≡ walked start (map string_bytes l.fn.words)

use Rattle.std.proofs.Common.{◌≡◌, ◌++◌}
use Rattle.std.specs.Vec.Iter.{into_iter_items}
use Rattle.frp_lex.specs.Spelling.{kinds}
use Rattle.frp_write.proofs.file.tokens_of.Given as goal

-- what is read so far, and what is left
abbrev pub invariant-loop-kind : goal.invariant-loop-kind
invariant-loop-kind l = goal.iterator-loop-kind.can_next l.kind-iterator
    × goal.iterator-loop-kind.is_finite l.kind-iterator
    × (kinds l.tokens ++ into_iter_items l.kind-iterator ≡ l.fn.kinds)

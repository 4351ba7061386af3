use Rattle.std.proofs.Common.{◌≡◌, [], ◌∷◌, ◌++◌}
use Rattle.std.specs.Str.Iter.{chars_rest}
use Rattle.frp_base.specs.Val.{escaped}
use Rattle.frp_base.proofs.val.show_text.Given as goal

-- what is written so far, what is left and the quote are the whole
abbrev pub invariant-loop-c : goal.invariant-loop-c
invariant-loop-c l = l.out ++ escaped (chars_rest l.c-iterator) ++ 34 ∷ [] ≡ l.fn.out ++ 34 ∷ escaped l.fn.text ++ 34 ∷ []

use Rattle.std.proofs.Common.{◌≡◌, ◌≤◌, ℕ, List, true, sym, subst, length}
use Rattle.std.specs.Prelude.{nat_lt}
use Rattle.std.specs.List.{list_all}
use Rattle.std.proofs.lemmas.List.{take_all}
use Rattle.frp_expr.specs.Operators.{cut}
use Rattle.frp_expr.proofs.operators.shortened.Goals as goal

-- a short text of small bytes is not cut
whole : (t : List ℕ) → true ≡ list_all (λ b. nat_lt b 128) t → length t ≤ 1024 → t ≡ cut t
whole t small short = rw (sym small) (sym (take_all 1024 t short))

pub returns-then-as_str-le-MOST : goal.returns-then-as_str-le-MOST
returns-then-as_str-le-MOST c =
    whole c.args.all
    (subst (λ (t : List ℕ). true ≡ list_all (λ b. nat_lt b 128) t) c.as_str.ensures c.if-not-is_ascii.ensures)
    (subst (λ (t : List ℕ). length t ≤ 1024) c.as_str-2.ensures c.if-as_str-le-MOST.true)

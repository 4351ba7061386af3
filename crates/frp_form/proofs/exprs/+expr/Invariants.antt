use Rattle.std.proofs.Common.{◌≡◌, ◌+◌, ◌-◌, ◌*◌}
use Rattle.frp_form.specs.Lists.{behind}
use Rattle.frp_form.specs.Exprs.{expr_at, expr_list}
use Rattle.frp_form.proofs.exprs.+expr.Given as goal

abbrev pub decreases-expr : goal.decreases-expr
decreases-expr l = 5 * l.room

abbrev pub decreases-expr_list : goal.decreases-expr_list
decreases-expr_list l = 5 * l.room + 1

abbrev pub decreases-unary : goal.decreases-unary
decreases-unary l = 5 * l.room + 1

abbrev pub decreases-binary : goal.decreases-binary
decreases-binary l = 5 * l.room + 1

abbrev pub decreases-ternary : goal.decreases-ternary
decreases-ternary l = 5 * l.room + 1

abbrev pub decreases-let_of : goal.decreases-let_of
decreases-let_of l = 5 * l.room + 1

abbrev pub decreases-list_of : goal.decreases-list_of
decreases-list_of l = 5 * l.room + 2

abbrev pub decreases-close_of : goal.decreases-close_of
decreases-close_of l = 5 * l.room + 2

abbrev pub decreases-parts : goal.decreases-parts
decreases-parts l = 5 * l.room + 3

abbrev pub decreases-form : goal.decreases-form
decreases-form l = 5 * l.room + 4

abbrev pub invariant-expr_list-loop : goal.invariant-expr_list-loop
invariant-expr_list-loop l = behind l.all (expr_list l.end (expr_at l.end l.room) (l.limit - l.counter) l.rest) ≡ behind l.fn.found (expr_list l.end (expr_at l.end l.room) l.limit l.tokens)

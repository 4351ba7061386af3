use Rattle.std.proofs.Common.{◌+◌, ◌*◌}
use Rattle.frp_form.proofs.types.+ty.Given as goal

abbrev pub decreases-ty : goal.decreases-ty
decreases-ty l = 3 * l.room

abbrev pub decreases-ty_form : goal.decreases-ty_form
decreases-ty_form l = 3 * l.room + 2

abbrev pub decreases-ty_parts : goal.decreases-ty_parts
decreases-ty_parts l = 3 * l.room + 1

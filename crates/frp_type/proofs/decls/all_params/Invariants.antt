use Rattle.std.proofs.Common.{◌≡◌, drop}
use Rattle.frp_type.specs.Known.{params}
use Rattle.frp_type.proofs.decls.all_params.Given as goal

abbrev pub invariant-loop-p : goal.invariant-loop-p
invariant-loop-p l = params l.names (drop l.p-index l.ps) ≡ params l.fn.names l.fn.ps

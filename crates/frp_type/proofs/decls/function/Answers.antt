use Rattle.std.proofs.Common.{subst}
use Rattle.frp_expr.specs.Gives.{ExprGives}
use Rattle.frp_file.specs.declared.file.Function.{Function}
use Rattle.frp_type.specs.Known.{fun_known}
use Rattle.frp_type.specs.States.{known_of}
use Rattle.frp_type.proofs.decls.function.Goals as goal

pub returns-clause-known : goal.returns-clause-known
returns-clause-known c = subst (λ (f : Function). ExprGives (λ _. known_of c.defined.new.state) c.defined.result (fun_known (known_of c.args.state.now) f)) (λ i. record { at = c.args.f.now.at; name = c.args.f.now.name; kept = c.as_slice.ensures i; arg = c.get.ensures i; e = c.get-2.ensures i }) c.defined.ensures.known

use Rattle.std.proofs.Common.{◌∙◌, length}
use Rattle.frp_expr.specs.Uses.{noting}
use Rattle.frp_expr.proofs.Answering.{fault_found, typing_found}
use Rattle.frp_expr.proofs.answer.type_of.Goals as goal

pub returns-in-Err-clause-fault : goal.returns-in-Err-clause-fault
returns-in-Err-clause-fault c = λ f q. fault_found c.args.scope.now c.args.raw.now c.new.result c.in-Err.stop f c.new.ensures c.requires.lawful c.in-Err.ensures.ty cc

pub returns-clause-typing : goal.returns-clause-typing
returns-clause-typing c =
    typing_found c.args.scope.now c.args.raw.now c.new.result c.new-2.result (record { expr = c.in_ok-expr.expr; ty = c.in-Ok.ty; used = c.note_uses.new.used }) c.new.ensures c.new-2.ensures c.requires.lawful
    c.in-Ok.ensures.ty c.in_ok-expr.ensures.expr (c.in_ok-note_uses.ensures ∙ (λ i. noting (length (c.as_slice.ensures i)) c.in_ok-expr.expr (c.new-used.ensures i)))

use Rattle.frp_history.proofs.Sendable as sendable
use Rattle.frp_history.proofs.laws.sends_are_sendable.Goals as goal

pub returns : goal.returns
returns c = λ prog limits entries trace legal. sendable.sends_are_sendable prog limits trace entries legal.replies

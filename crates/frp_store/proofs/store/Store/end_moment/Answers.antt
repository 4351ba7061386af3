use Rattle.std.proofs.Common.{subst}
use Rattle.frp_store.specs.State.{Versions}
use Rattle.frp_store.specs.Calls.{Ends}
use Rattle.frp_store.specs.Kept.{state_of}
use Rattle.frp_store.proofs.Seeing.{shows_end, on_ok}
use Rattle.frp_store.proofs.store.Store.end_moment.Goals as goal

pub returns-clause-shown : goal.returns-clause-shown
returns-clause-shown c =
    on_ok c.end_moment.result _ _
    (λ e. shows_end c.args.self.now.now (state_of c.end_moment.new.self) (subst (λ (v : Versions). Ends v.now (state_of c.end_moment.new.self)) c.self.view_is e)) c.end_moment.ensures.now

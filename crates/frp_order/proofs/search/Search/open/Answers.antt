use Rattle.std.proofs.Common.{◌≡◌, length, ◌∙◌}
use Rattle.frp_order.specs.Search.{state_of}
use Rattle.frp_order.proofs.Steps.{opening, opened_met}
use Rattle.frp_order.proofs.search.Search.open.Goals as goal

pub returns-clause-goes : goal.returns-clause-goes
returns-clause-goes c =
    let s = state_of c.args.self.now in
    let made = opening c.args.rows.now s c.requires.search c.args.place c.requires.place c.requires.new c.requires.leads in
    let count : c.len-at.result ≡ length s.path = c.len-at.ensures ∙ c.args.self.now.path.ok.0 in
    rw (c.in_ok-push.ensures.items, count) made

pub returns-clause-met : goal.returns-clause-met
returns-clause-met c =
    let s = state_of c.args.self.now in
    let count : c.len-at.result ≡ length s.path = c.len-at.ensures ∙ c.args.self.now.path.ok.0 in
    rw count (opened_met c.args.rows.now s c.requires.search c.args.place c.requires.place c.requires.new c.requires.leads)

use Rattle.frp_links_tests.proofs.shown.shown_chain.Goals as goal

pub chain-requires-clause-switches : goal.chain-requires-clause-switches
chain-requires-clause-switches c = c.can_read.ensures.switches c.if-not-can_read.false

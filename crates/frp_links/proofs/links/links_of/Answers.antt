use Rattle.frp_links.proofs.links.links_of.Goals as goal

pub during-requires-clause-switch : goal.during-requires-clause-switch
during-requires-clause-switch g c = c.requires.switches c.args.node.now.name c.args.node.now c.requires.live

pub after_links-requires-clause-switch : goal.after_links-requires-clause-switch
after_links-requires-clause-switch g c = c.requires.switches c.args.node.now.name c.args.node.now c.requires.live

pub birth-requires-clause-switch : goal.birth-requires-clause-switch
birth-requires-clause-switch g c = c.requires.switches c.args.node.now.name c.args.node.now c.requires.live

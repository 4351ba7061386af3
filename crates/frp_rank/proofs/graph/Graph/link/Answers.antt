use Rattle.std.proofs.Common.{◌≡◌, ◌<◌, Some, length, ap, ◌∙◌, subst}
use Rattle.frp_rank.specs.Chain.{is_linked, with_link}
use Rattle.frp_rank.specs.Graph.{live_links, start_of, end_of, Finds}
use Rattle.frp_rank.proofs.Linking.{links_with}
use Rattle.frp_rank.proofs.graph.Graph.link.Goals as goal

pub returns-in-Some-clause-links : goal.returns-in-Some-clause-links
returns-in-Some-clause-links c = λ a b.
    let s = c.args.self.now in
    let es = s.edges.items in
    let number = c.in-Some.number in
    let found : Finds es c.args.from c.args.to (Some number) = subst (Finds es c.args.from c.args.to) c.in-Some.is c.requires.found in
    ap (λ l. is_linked (live_links l) a b) c.set_live.ensures.edges ∙ links_with es number (length s.ranks.items) found.0 c.requires.kept.now.filed a b
    ∙ ap (λ x. with_link (is_linked (live_links es)) x (end_of es number) a b) found.1 ∙ ap (λ x. with_link (is_linked (live_links es)) c.args.from x a b) found.2

use Rattle.std.proofs.Common.{◌≡◌, Some, None, length, ap, ◌∙◌}
use Rattle.frp_rank.specs.Chain.{is_linked, without_link}
use Rattle.frp_rank.specs.Graph.{live_links, start_of, end_of, Finds}
use Rattle.frp_rank.proofs.Linking.{links_without, without_absent, unfound, dead}
use Rattle.frp_rank.proofs.graph.Graph.unlink.Goals as goal

pub returns-in_ok-drop_link-clause-links : goal.returns-in_ok-drop_link-clause-links
returns-in_ok-drop_link-clause-links c = λ a b.
    let s = c.args.self.now in
    let es = s.edges.items in
    let number = c.in-Some.number in
    let found : Finds es c.args.from c.args.to (Some number) = c.in-Some.ensures in
    ap (λ l. is_linked (live_links l) a b) c.in_ok-drop_link.ensures.edges ∙ links_without es number (length s.ranks.items) found.0 c.requires.kept.now.filed a b
    ∙ ap (λ x. without_link (is_linked (live_links es)) x (end_of es number) a b) found.1 ∙ ap (λ x. without_link (is_linked (live_links es)) c.args.from x a b) found.2

pub returns-in_ok-drop_link-clause-absent : goal.returns-in_ok-drop_link-clause-absent
returns-in_ok-drop_link-clause-absent c = λ h. c.in_ok-drop_link.ensures.absent (dead c.args.self.now.edges.items c.args.from c.args.to c.in-Some.number c.in-Some.ensures h)

pub returns-in_default-clause-links : goal.returns-in_default-clause-links
returns-in_default-clause-links c = λ a b.
    let es = c.args.self.now.edges.items in
    let none : Finds es c.args.from c.args.to None = c.in_default.ensures in
    without_absent (is_linked (live_links es)) c.args.from c.args.to a b (unfound es c.args.from c.args.to none)

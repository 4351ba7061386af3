use Rattle.std.proofs.Common.{◌≡◌, ◌<◌, ◌≤◌, true, length, length-set, get_or, set, take, refl, sym, ap, ◌∙◌, subst, arith}
use Rattle.frp_rank.specs.declared.edge.Edge.{Edge}
use Rattle.frp_rank.specs.Graph.{edge_at, with_live, base_of, IsSound}
use Rattle.frp_rank.proofs.Undoing.{pushed_base, written_back}
use Rattle.frp_rank.proofs.Filing.{read_edge}
use Rattle.frp_rank.proofs.Linking.{live_sound, kept_again}
use Rattle.frp_rank.proofs.graph.Graph.set_live.Goals as goal

pub returns-clause-base : goal.returns-clause-base
returns-clause-base c =
    let s = c.args.self.now in
    pushed_base s.changes.items _ _ _ _ c.push_reserved.ensures.items
    (ap (λ l. record { ranks = take s.places.length s.ranks.items; last_in = take s.places.length s.last_in.items; last_out = take s.places.length s.last_out.items; edges = l }) (written_back s.links.length c.args.number s.edges.items c.with_live.result _ c.get-edge.ensures))

pub returns-clause-edges : goal.returns-clause-edges
returns-clause-edges c =
    let s = c.args.self.now in
    ap (set s.edges.items c.args.number) (c.with_live.ensures ∙ ap (λ (e : Edge). record e { live = c.args.live }) (sym (read_edge s.edges.items c.args.number _ c.get-edge.ensures)))

pub returns-clause-kept : goal.returns-clause-kept
returns-clause-kept c =
    let s = c.args.self.now in
    let sound = live_sound s.edges.items c.args.number c.args.live c.requires.number s.ranks.items s.last_in.items s.last_out.items c.requires.kept.now c.requires.lower in
    kept_again s (record s { edges = record { items = set s.edges.items c.args.number c.with_live.result; spare = s.edges.spare }; changes = c.push_reserved.new.self }) c.requires.kept
    (subst (λ l. IsSound (record { ranks = s.ranks.items; last_in = s.last_in.items; last_out = s.last_out.items; edges = l })) (sym (returns-clause-edges c)) sound)
    (returns-clause-base c) refl refl (omega arith) (omega (arith, length-set s.edges.items c.args.number c.with_live.result)) c.requires.kept.slots

use Rattle.std.proofs.Common.{◌≡◌, ◌≤◌, ◌++◌, ◌∷◌, ◌+◌, [], ℕ, true, length, length-append, set, take, refl, sym, ap, ◌∙◌, subst, arith}
use Rattle.std.proofs.lemmas.List.{take-append-le}
use Rattle.std.proofs.lemmas.Option.{get_or_from_slice_get}
use Rattle.frp_rank.specs.declared.edge.Edge.{Edge}
use Rattle.frp_rank.specs.declared.graph.Graph.{Graph}
use Rattle.frp_rank.specs.Graph.{net_of, base_of, undo_all, live_links, start_of, end_of, latest, IsSound}
use Rattle.frp_rank.specs.Chain.{is_linked}
use Rattle.frp_rank.proofs.Linking.{more_sound, links_more, kept_again, net_path}
use Rattle.frp_rank.proofs.graph.Graph.put_edge.Goals as goal

edges : (c : goal.After-write_last_out) → c.write_last_out.new.self.edges.items ≡ c.args.self.now.edges.items ++ (record { from = c.args.from; to = c.args.to; live = true; earlier_in = c.get.result.now; earlier_out = c.get-2.result.now }) ∷ []
edges c = ap (λ (g : Graph). g.edges.items) c.write_last_out.ensures.rest ∙ ap (λ (g : Graph). g.edges.items) c.write_last_in.ensures.rest ∙ c.put.ensures.items

-- the edge lies past the mark
base_put : (c : goal.After-write_last_out) → base_of (record c.args.self.now { edges = c.put.new.self }) ≡ base_of c.args.self.now
base_put c =
    let s = c.args.self.now in
    ap (λ l. undo_all s.changes.items (record { ranks = take s.places.length s.ranks.items; last_in = take s.places.length s.last_in.items; last_out = take s.places.length s.last_out.items; edges = l }))
    (ap (take s.links.length) c.put.ensures.items ∙ take-append-le s.links.length s.edges.items _ c.requires.kept.links)

pub returns-clause-kept : goal.returns-clause-kept
returns-clause-kept c =
    let s = c.args.self.now in
    let h = c.write_last_out.new.self in
    let e : Edge = record { from = c.args.from; to = c.args.to; live = true; earlier_in = c.get.result.now; earlier_out = c.get-2.result.now } in
    let in_rest = c.write_last_in.ensures.rest in
    let out_rest = c.write_last_out.ensures.rest in
    let ranks : h.ranks.items ≡ s.ranks.items = ap (λ (g : Graph). g.ranks.items) out_rest ∙ ap (λ (g : Graph). g.ranks.items) in_rest in
    let slots : h.slots.items ≡ s.slots.items = ap (λ (g : Graph). g.slots.items) out_rest ∙ ap (λ (g : Graph). g.slots.items) in_rest in
    let count : c.len-last.result ≡ length s.edges.items + 1 = c.len-last.ensures ∙ ap length c.put.ensures.items ∙ length-append s.edges.items (e ∷ []) in
    let last_in : h.last_in.items ≡ set s.last_in.items c.args.to (length s.edges.items + 1) =
    ap (λ (g : Graph). g.last_in.items) out_rest ∙ c.write_last_in.ensures.last_in ∙ ap (set s.last_in.items c.args.to) count in
    let last_out : h.last_out.items ≡ set s.last_out.items c.args.from (length s.edges.items + 1) =
    c.write_last_out.ensures.last_out ∙ ap (λ l. set l c.args.from c.len-last.result) (ap (λ (g : Graph). g.last_out.items) in_rest) ∙ ap (set s.last_out.items c.args.from) count in
    let now = c.requires.kept.now in
    let ins : c.get.result.now ≡ latest (end_of s.edges.items) (length s.edges.items) c.args.to = sym (get_or_from_slice_get s.last_in.items c.args.to _ 0 c.get.ensures) ∙ now.last_in c.args.to c.requires.to in
    let outs : c.get-2.result.now ≡ latest (start_of s.edges.items) (length s.edges.items) c.args.from = sym (get_or_from_slice_get s.last_out.items c.args.from _ 0 c.get-2.ensures) ∙ now.last_out c.args.from c.requires.from in
    let sound = more_sound s.edges.items e (length s.ranks.items) now.filed c.requires.from c.requires.to c.requires.new ins outs s.ranks.items s.last_in.items s.last_out.items refl now c.requires.lower in
    kept_again s h c.requires.kept (subst IsSound (sym (net_path (net_of h) _ _ _ _ ranks last_in last_out (edges c))) sound)
    (c.write_last_out.ensures.base ∙ c.write_last_in.ensures.base ∙ base_put c)
    (ap (λ (g : Graph). g.places) out_rest ∙ ap (λ (g : Graph). g.places) in_rest) (ap (λ (g : Graph). g.links) out_rest ∙ ap (λ (g : Graph). g.links) in_rest)
    (omega (arith, ap length ranks)) (omega (arith, ap length (edges c), length-append s.edges.items (e ∷ []))) (ap length slots ∙ c.requires.kept.slots ∙ ap length (sym ranks))

pub returns-clause-links : goal.returns-clause-links
returns-clause-links c = λ a b.
    let s = c.args.self.now in
    ap (λ l. is_linked (live_links l) a b) (edges c) ∙ links_more s.edges.items (record { from = c.args.from; to = c.args.to; live = true; earlier_in = c.get.result.now; earlier_out = c.get-2.result.now }) a b refl

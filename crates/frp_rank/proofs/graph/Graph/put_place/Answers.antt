use Rattle.std.proofs.Common.{◌≡◌, ◌≤◌, ◌+◌, ◌++◌, ◌∷◌, [], length, length-append, take, refl, sym, ap, ◌∙◌, subst, arith}
use Rattle.std.proofs.lemmas.List.{take-append-le}
use Rattle.frp_rank.specs.Graph.{net_of, base_of, cut_to, undo_all, IsSound}
use Rattle.frp_rank.proofs.Linking.{place_sound, kept_again, net_path}
use Rattle.frp_rank.proofs.graph.Graph.put_place.Goals as goal

pub returns-clause-base : goal.returns-clause-base
returns-clause-base c =
    let s = c.args.self.now in
    let p = s.places.length in
    let kept = c.requires.kept in
    let l = kept.places in
    let ins : p ≤ length s.last_in.items = omega (arith, l, kept.now.in_length) in
    let outs : p ≤ length s.last_out.items = omega (arith, l, kept.now.out_length) in
    ap (undo_all s.changes.items)
    (net_path _ (take p s.ranks.items) (take p s.last_in.items) (take p s.last_out.items) (take s.links.length s.edges.items)
    (ap (take p) c.put-4.ensures.items ∙ take-append-le p s.ranks.items _ l)
    (ap (take p) c.put.ensures.items ∙ take-append-le p s.last_in.items _ ins)
    (ap (take p) c.put-2.ensures.items ∙ take-append-le p s.last_out.items _ outs)
    refl)

pub returns-clause-kept : goal.returns-clause-kept
returns-clause-kept c =
    let s = c.args.self.now in
    let kept = c.requires.kept in
    let ranks = c.put-4.ensures.items in
    let count : length c.put-4.new.self.items ≡ length s.ranks.items + 1 = ap length ranks ∙ length-append s.ranks.items (0 ∷ []) in
    let slots : length c.put-3.new.self.items ≡ length s.slots.items + 1 = ap length c.put-3.ensures.items ∙ length-append s.slots.items (0 ∷ []) in
    kept_again s (record s { ranks = c.put-4.new.self; last_in = c.put.new.self; last_out = c.put-2.new.self; slots = c.put-3.new.self }) kept
    (subst IsSound (sym (net_path _ _ _ _ _ ranks c.put.ensures.items c.put-2.ensures.items refl)) (place_sound (net_of s) kept.now c.requires.few))
    (returns-clause-base c) refl refl (omega arith) (omega arith) (let e = kept.slots in omega arith)

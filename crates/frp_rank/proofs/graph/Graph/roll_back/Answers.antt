use Rattle.std.proofs.Common.{◌≡◌, ◌≤◌, ◌-◌, ◌++◌, take, List, [], length, refl, sym, ap, ◌∙◌, subst, arith, vec_len}
use Rattle.std.proofs.lemmas.List.{length-take-le}
use Rattle.frp_rank.specs.declared.change.Change.{Change}
use Rattle.frp_rank.specs.declared.graph.Graph.{Graph}
use Rattle.frp_rank.specs.Graph.{Net, net_of, base_of, undo_all, cut_to, IsSound}
use Rattle.frp_rank.proofs.Undoing.{popped_base, undone_ranks, undone_edges, cut_whole}
use Rattle.frp_rank.proofs.Linking.{net_path}
use Rattle.frp_rank.proofs.graph.Graph.roll_back.Goals as goal

pub loop-change-init : goal.loop-change-init
loop-change-init c = record {
  base = ap (undo_all c.args.self.now.changes.items) (net_path _ _ _ _ _ c.cut.ensures.items c.cut-2.ensures.items c.cut-3.ensures.items c.cut-5.ensures.items);
  places = refl;
  links = refl;
  slots = ap length c.cut-4.ensures.items ∙ length-take-le c.args.self.now.places.length c.args.self.now.slots.items (let l = c.requires.kept.places in let e = c.requires.kept.slots in omega arith);
}

pub loop-change-preserved : goal.loop-change-preserved
loop-change-preserved c = record {
  base =
      ap (λ v. undo_all v.items (net_of c.undo.new.self)) c.undo.ensures.changes
      ∙ popped_base c.loop-change.self.changes.items c.pop.new.self.items c.in-Some.change (net_of c.loop-change.self) (net_of c.undo.new.self) c.in-Some.ensures.items (sym c.undo.ensures.now)
      ∙ c.loop-change.invariant.base;
  places = c.undo.ensures.places ∙ c.loop-change.invariant.places;
  links = c.undo.ensures.links ∙ c.loop-change.invariant.links;
  slots = ap (λ r. length r.items) c.undo.ensures.slots ∙ c.loop-change.invariant.slots;
}

-- no change is left
empty : (c : goal.In_default) → c.pop.new.self.items ≡ []
empty c = let z : vec_len c.loop-change.self.changes - 1 ≡ 0 = (let e = c.in_default.ensures.cases.0 in omega arith) in c.in_default.ensures.rest ∙ ap (λ n. take n c.loop-change.self.changes.items) z

-- what stands is what was at the last commit
back : (c : goal.In_default) → net_of c.loop-change.self ≡ base_of c.args.self.now
back c =
    let none : c.loop-change.self.changes.items ≡ [] = c.in_default.ensures.items ∙ ap (λ l. l ++ []) (empty c) in
    ap (λ l. undo_all l (net_of c.loop-change.self)) (sym none) ∙ c.loop-change.invariant.base

count_ranks : (c : goal.In_default) → length c.loop-change.self.ranks.items ≡ c.loop-change.self.places.length
count_ranks c =
    let s = c.args.self.now in
    ap (λ (n : Net). length n.ranks) (back c) ∙ undone_ranks s.changes.items _ ∙ length-take-le s.places.length s.ranks.items c.requires.kept.places ∙ ap (λ m. m.length) (sym c.loop-change.invariant.places)

count_edges : (c : goal.In_default) → length c.loop-change.self.edges.items ≡ c.loop-change.self.links.length
count_edges c =
    let s = c.args.self.now in
    ap (λ (n : Net). length n.edges) (back c) ∙ undone_edges s.changes.items _ ∙ length-take-le s.links.length s.edges.items c.requires.kept.links ∙ ap (λ m. m.length) (sym c.loop-change.invariant.links)

cut_back : (c : goal.In_default) → undo_all c.pop.new.self.items (cut_to c.loop-change.self.places.length c.loop-change.self.links.length (net_of c.loop-change.self)) ≡ base_of c.args.self.now
cut_back c =
    let l = c.loop-change.self in
    let sound : IsSound (net_of l) = subst IsSound (sym (back c)) c.requires.kept.base in
    ap (λ cs. undo_all cs (cut_to l.places.length l.links.length (net_of l))) (empty c)
    ∙ cut_whole (net_of l) l.places.length l.links.length (count_ranks c) (sound.in_length ∙ count_ranks c) (sound.out_length ∙ count_ranks c) (count_edges c) ∙ back c

pub returns-clause-now : goal.returns-clause-now
returns-clause-now c = back c

pub returns-clause-base : goal.returns-clause-base
returns-clause-base c = cut_back c

pub returns-clause-kept : goal.returns-clause-kept
returns-clause-kept c = record {
  now = subst IsSound (sym (back c)) c.requires.kept.base;
  base = subst IsSound (sym (cut_back c)) c.requires.kept.base;
  places = let e = count_ranks c in omega arith;
  links = let e = count_edges c in omega arith;
  slots = c.loop-change.invariant.slots ∙ ap (λ m. m.length) (sym c.loop-change.invariant.places) ∙ sym (count_ranks c);
}

use Rattle.std.proofs.Common.{◌≡◌, ◌<◌, ◌-◌, ◌+◌, ◌∙◌, length, suc, sym, ap, subst, inl, inr, arith}
use Rattle.std.proofs.lemmas.Bool.{cases_lt}
use Rattle.std.proofs.lemmas.Option.{get_or_from_slice_get}
use Rattle.frp_rank.specs.declared.edge.Edge.{Edge}
use Rattle.frp_rank.specs.Graph.{edge_at, start_of, end_of, latest}
use Rattle.frp_rank.proofs.Filing.{latest_le, latest_fixed, latest_none, read_edge, Steps, steps_from}
use Rattle.frp_rank.proofs.graph.Graph.find.Goals as goal

pub loop-at-init : goal.loop-at-init
loop-at-init c =
    let es = c.args.self.now.edges.items in
    let now = c.requires.kept.now in
    let inside : c.args.from < length c.args.self.now.ranks.items = (let h = c.if-from-len.false in let e = now.out_length in omega (arith, c.len.ensures)) in
    let at : c.get-at.result.now ≡ latest (start_of es) (length es) c.args.from = sym (get_or_from_slice_get c.args.self.now.last_out.items c.args.from _ 0 c.get-at.ensures) ∙ now.last_out c.args.from inside in
    rw at (record {
      inside = latest_le (start_of es) (length es) c.args.from;
      last = latest_fixed (start_of es) (length es) c.args.from;
      none = λ i a b e. absurd (latest_none (start_of es) (length es) c.args.from i a b e);
    })

-- the edge before the one that was read
stepped : (c : goal.Else-edge-to) → Steps (start_of c.args.self.now.edges.items) c.loop-at.at c.get-edge.result.now.earlier_out c.args.from
stepped c =
    let es = c.args.self.now.edges.items in
    let positive : c.loop-at.at ≡ suc (c.loop-at.at - 1) = (let h = c.loop-at-test.true in omega arith) in
    let step = steps_from (start_of es) c.loop-at.at (c.loop-at.at - 1) c.args.from positive c.loop-at.invariant.last in
    let e : edge_at es (c.loop-at.at - 1) ≡ c.get-edge.result.now = read_edge es (c.loop-at.at - 1) _ c.get-edge.ensures in
    let inside : c.loop-at.at - 1 < length es = (let i = c.loop-at.invariant.inside in omega arith) in
    let before : c.get-edge.result.now.earlier_out ≡ latest (start_of es) (c.loop-at.at - 1) c.args.from =
    ap (λ (x : Edge). x.earlier_out) (sym e) ∙ c.requires.kept.now.filed.earlier_out (c.loop-at.at - 1) inside ∙ ap (latest (start_of es) (c.loop-at.at - 1)) step.0 in
    subst (λ t. Steps (start_of es) c.loop-at.at t c.args.from) (sym before) step.1

pub loop-at-smaller : goal.loop-at-smaller
loop-at-smaller c = (stepped c).lower

pub loop-at-preserved : goal.loop-at-preserved
loop-at-preserved c =
    let es = c.args.self.now.edges.items in
    record {
      inside = let l = (stepped c).lower in let i = c.loop-at.invariant.inside in omega arith;
      last = (stepped c).last;
      none = λ i a b e t. elim (cases_lt i c.loop-at.at) [
        | inl l ↦
            let n : i + 1 ≡ c.loop-at.at = (stepped c).none i a l e in
            let q : i ≡ c.loop-at.at - 1 = omega arith in
            c.if-edge-to.false (ap (λ (x : Edge). x.to) (sym (read_edge es (c.loop-at.at - 1) _ c.get-edge.ensures)) ∙ ap (end_of es) (sym q) ∙ t)
        | inr l ↦ c.loop-at.invariant.none i l b e t
      ];
    }

pub returns-then-edge-to : goal.returns-then-edge-to
returns-then-edge-to c =
    let es = c.args.self.now.edges.items in
    let positive : c.loop-at.at ≡ suc (c.loop-at.at - 1) = (let h = c.loop-at-test.true in omega arith) in
    let inside : c.loop-at.at - 1 < length es = (let h = c.loop-at-test.true in let i = c.loop-at.invariant.inside in omega arith) in
    (inside, (steps_from (start_of es) c.loop-at.at (c.loop-at.at - 1) c.args.from positive c.loop-at.invariant.last).0, ap (λ (x : Edge). x.to) (read_edge es (c.loop-at.at - 1) _ c.get-edge.ensures) ∙ c.if-edge-to.true)

use Rattle.std.proofs.Common.{◌≡◌, ◌+◌, ◌∷◌, ◌++◌, [], List, length, take, map, sym, ap, ◌∙◌, subst, arith}
use Rattle.std.specs.Option.{option_copied}
use Rattle.std.proofs.lemmas.List.{length-map, length-take-le, take_more, map-append}
use Rattle.frp_graph.specs.declared.prog.Line3.{Line3}
use Rattle.frp_graph.specs.Births.{Plan, size_of, plans_from}
use Rattle.frp_graph.proofs.Instances.{plans_size}
use Rattle.frp_make.specs.Lines.{name_by, draft_of, AreReady}
use Rattle.frp_make.proofs.Values.{ready_at, plans_append}
use Rattle.frp_make.proofs.body.drafts.Goals as goal

pub add_draft-requires-clause-ready : goal.add_draft-requires-clause-ready
add_draft-requires-clause-ready g c =
    let line : Line3 = c.index-lines-i.result in
    subst (λ (l : Line3). AreReady c.args.all.now (c.args.given + c.loop-i.i) (l ∷ [])) (sym c.index-lines-i.is) (ready_at c.args.all.now c.args.given c.loop-i.i c.args.lines.now line c.requires.ready c.loop-i-test.true)

pub loop-i-preserved : goal.loop-i-preserved
loop-i-preserved g c =
    let name = name_by (option_copied c.args.maker) (g.V.View.sight c.args.view.now).time in
    let all = c.args.all.now in
    let given = c.args.given in
    let i = c.loop-i.i in
    let ls = c.args.lines.now in
    let line : Line3 = c.index-lines-i.result in
    let front : List Line3 = take i ls in
    let before : List Plan = plans_from name all 0 given front in
    let long : length front ≡ i = let h = c.loop-i-test.true in length-take-le i ls (omega arith) in
    let count : length c.loop-i.nodes.items ≡ 0 + size_of front
    = ap length c.loop-i.invariant ∙ length-map before draft_of ∙ plans_size name all 0 given front ∙ (let z : size_of front ≡ 0 + size_of front = omega arith in z) in
    let here : plans_from name all (length c.loop-i.nodes.items) (given + i) (line ∷ []) ≡ plans_from name all (0 + size_of front) (given + length front) (line ∷ [])
    = λ k. plans_from name all (count k) (given + sym long k) (line ∷ []) in
    let more : take (i + 1) ls ≡ front ++ line ∷ [] = take_more ls i line c.loop-i-test.true ∙ ap (λ (l : Line3). front ++ l ∷ []) (sym c.index-lines-i.is) in
    let all_plans : plans_from name all 0 given (take (i + 1) ls) ≡ before ++ plans_from name all (0 + size_of front) (given + length front) (line ∷ [])
    = ap (plans_from name all 0 given) more ∙ plans_append name all 0 given front (line ∷ []) in
    c.in_ok-add_draft.ensures
    ∙ (λ k. c.loop-i.invariant k ++ map draft_of (here k))
    ∙ sym (ap (map draft_of) all_plans ∙ map-append draft_of before (plans_from name all (0 + size_of front) (given + length front) (line ∷ [])))

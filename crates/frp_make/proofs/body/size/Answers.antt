use Rattle.std.proofs.Common.{◌≡◌, ◌+◌, ◌∷◌, ◌++◌, [], take, sym, ap, ◌∙◌, arith}
use Rattle.std.proofs.lemmas.List.{take_more}
use Rattle.frp_graph.specs.declared.prog.Line3.{Line3}
use Rattle.frp_graph.specs.Births.{size_of}
use Rattle.frp_make.proofs.Values.{one_at_most, size_append}
use Rattle.frp_make.proofs.body.size.Goals as goal

pub loop-line-preserved : goal.loop-line-preserved
loop-line-preserved c =
    let ls = c.args.lines.now in
    let i = c.loop-line.line-index in
    let line : Line3 = c.line-item.result in
    let more : take (i + 1) ls ≡ take i ls ++ line ∷ [] = take_more ls i line c.loop-line-test.true ∙ ap (λ (l : Line3). take i ls ++ l ∷ []) (sym c.line-item.is) in
    let all : size_of (take (i + 1) ls) ≡ size_of (take i ls) + size_of (line ∷ []) = ap size_of more ∙ size_append (take i ls) (line ∷ []) in
    let a = c.nodes_of-size.ensures in
    let b = one_at_most line in
    let sum = c.loop-line.invariant.sum in
    let few = c.loop-line.invariant.few in
    record { sum = omega arith; few = omega arith }

use Rattle.std.proofs.Common.{◌≡◌, ◌+◌, ◌∷◌, ◌++◌, [], List, drop, Some, sym, ap, ◌∙◌, subst, arith}
use Rattle.std.specs.Option.{option_copied}
use Rattle.std.proofs.lemmas.List.{drop_more, drop_all}
use Rattle.frp_base.specs.declared.val.Val.{Val}
use Rattle.frp_graph.specs.declared.prog.Line3.{Line3}
use Rattle.frp_make.specs.Lines.{name_by, value_of, HasValue}
use Rattle.frp_make.proofs.Values.{Going, one_at_most, next_value, next_going}
use Rattle.frp_make.proofs.body.values.Goals as goal

pub value-requires : goal.value-requires
value-requires g c =
    let name = name_by (option_copied c.args.maker) (g.V.View.sight c.args.view.now).time in
    let pre = (g.V.View.sight c.args.view.now).pre in
    let ls = c.args.lines.now in
    let i = c.loop-line.line-index in
    let line : Line3 = c.line-item.result in
    let left : drop i ls ≡ line ∷ drop (i + 1) ls = drop_more ls i line c.loop-line-test.true ∙ ap (λ (l : Line3). l ∷ drop (i + 1) ls) (sym c.line-item.is) in
    let going = subst (λ (xs : List Line3). Going name pre c.loop-line.made c.loop-line.values xs c.requires.0) left (c.loop-line.invariant.going c.requires.0 c.requires.1) in
    subst (λ (vs : List Val). HasValue pre vs line) (sym c.as_slice.ensures) (next_value name pre c.loop-line.made c.loop-line.values line (drop (i + 1) ls) c.requires.0 going)

pub loop-line-preserved : goal.loop-line-preserved
loop-line-preserved g c =
    let name = name_by (option_copied c.args.maker) (g.V.View.sight c.args.view.now).time in
    let pre = (g.V.View.sight c.args.view.now).pre in
    let ls = c.args.lines.now in
    let i = c.loop-line.line-index in
    let line : Line3 = c.line-item.result in
    let rest : List Line3 = drop (i + 1) ls in
    let made = c.loop-line.made in
    let vs : List Val = c.loop-line.values in
    let v : Val = c.in_ok-value.field-0 in
    let left : drop i ls ≡ line ∷ rest = drop_more ls i line c.loop-line-test.true ∙ ap (λ (l : Line3). l ∷ rest) (sym c.line-item.is) in
    let value : value_of name pre made vs line ≡ Some v = subst (λ (ws : List Val). value_of name pre made ws line ≡ Some v) c.as_slice.ensures c.in_ok-value.ensures in
    record {
      few = let a = one_at_most line in let b = c.nodes_of.ensures in let d = c.loop-line.invariant.few in omega arith;
      going = λ all are.
          let going = subst (λ (xs : List Line3). Going name pre made vs xs all) left (c.loop-line.invariant.going all are) in
          subst (λ (ws : List Val). Going name pre (made + c.nodes_of.result) ws rest all) (sym c.in_ok-add.ensures.ok)
          (subst (λ m. Going name pre (made + m) (vs ++ v ∷ []) rest all) (sym c.nodes_of.ensures) (next_going name pre made vs line rest all v going value));
    }

pub returns : goal.returns
returns g c =
    let name = name_by (option_copied c.args.maker) (g.V.View.sight c.args.view.now).time in
    let pre = (g.V.View.sight c.args.view.now).pre in
    let ls = c.args.lines.now in
    let none : drop c.loop-line.line-index ls ≡ [] = drop_all c.loop-line.line-index ls c.loop-line-test.false in
    let going = subst (λ (xs : List Line3). Going name pre c.loop-line.made c.loop-line.values xs c.requires.0) none (c.loop-line.invariant.going c.requires.0 c.requires.1) in
    c.requires.1.whole ∙ sym going.rest

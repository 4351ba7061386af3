use Rattle.std.proofs.Common.{◌≡◌, ◌<◌, ◌+◌, ◌++◌, ◌∷◌, [], length, length-append, take, vec_len, sym, ap, ◌∙◌, subst, arith}
use Rattle.std.specs.Prelude.{slice_index_or}
use Rattle.std.proofs.lemmas.List.{take_more}
use Rattle.std.proofs.Math.Seq.{take-length}
use Rattle.frp_store.proofs.Taking.{IsClosing, closing_first, closing_step, has_closed, prepared_length, no_items, take_none}
use Rattle.frp_store.proofs.closing.take_occs.Goals as goal

pub loop-closing-init : goal.loop-closing-init
loop-closing-init c =
    let fired = c.args.fired.now in
    let start = c.args.held.now.items in
    let facts = c.args.facts.now in
    let steps = c.args.steps.now in
    let closings = c.args.closings in
    let many : vec_len closings ≡ length fired = closings.ok.0 ∙ prepared_length start fired closings.items c.requires.prepared in
    let all : take (vec_len closings) fired ≡ fired = ap (λ n. take n fired) many ∙ take-length fired in
    record {
      closing = subst (λ ps. IsClosing start start ps closings.items facts.items steps.items) (sym all)
          (closing_first start fired closings.items facts.items steps.items c.requires.no_facts c.requires.no_steps c.requires.prepared c.requires.listed);
      inside = (let m = many in omega arith);
      facts_fit = (let n : vec_len facts ≡ 0 = facts.ok.0 ∙ ap length c.requires.no_facts in let f = c.requires.facts_fit in omega arith);
      steps_fit = (let n : vec_len steps ≡ 0 = steps.ok.0 ∙ ap length c.requires.no_steps in let f = c.requires.steps_fit in omega arith);
    }

pub loop-closing-preserved : goal.loop-closing-preserved
loop-closing-preserved c =
    let fired = c.args.fired.now in
    let start = c.args.held.now.items in
    let l = c.loop-closing in
    let new = c.pop.new.self in
    let closing = c.in-Some.closing in
    let e : l.closings.items ≡ new.items ++ closing ∷ [] = c.in-Some.ensures.items in
    let n : vec_len l.closings ≡ vec_len new + 1 =
    (let a = l.closings.ok.0 in let b = new.ok.0 in let d = ap length e ∙ length-append new.items (closing ∷ []) in omega arith) in
    let i = vec_len new in
    let inside : i < length fired = (let w = l.invariant.inside in omega arith) in
    let taken : take (vec_len l.closings) fired ≡ take i fired ++ slice_index_or fired c.len.result 0 ∷ [] =
    ap (λ m. take m fired) n ∙ take_more fired i 0 inside ∙ ap (λ m. take i fired ++ slice_index_or fired m 0 ∷ []) (sym c.len.ensures) in
    record {
      closing = closing_step start l.held.items c.take_occ.new.held.items fired (vec_len l.closings) i (slice_index_or fired c.len.result 0) l.closings.items new.items closing
          l.facts.items c.take_occ.new.facts.items l.steps.items c.take_occ.new.steps.items c.requires.distinct taken e c.take_occ.ensures.held c.take_occ.ensures.facts c.take_occ.ensures.steps l.invariant.closing;
      inside = (let w = inside in omega arith);
      facts_fit = (let w = l.invariant.facts_fit in let r = c.take_occ.ensures.facts_room.0 in let q = c.take_occ.ensures.facts_room.1 in omega arith);
      steps_fit = (let w = l.invariant.steps_fit in let r = c.take_occ.ensures.steps_room.0 in let q = c.take_occ.ensures.steps_room.1 in omega arith);
    }

pub returns : goal.returns
returns c =
    let start = c.args.held.now.items in
    let fired = c.args.fired.now in
    let l = c.loop-closing in
    let z : vec_len l.closings ≡ 0 = c.in_default.ensures.cases.0 in
    let none : l.closings.items ≡ [] = no_items l.closings.items (sym l.closings.ok.0 ∙ z) in
    let left : take (vec_len l.closings) fired ≡ [] = ap (λ n. take n fired) z ∙ take_none fired in
    has_closed start l.held.items l.facts.items l.steps.items
    (subst (λ ps. IsClosing start l.held.items ps [] l.facts.items l.steps.items) left
    (subst (λ cs. IsClosing start l.held.items (take (vec_len l.closings) fired) cs l.facts.items l.steps.items) none l.invariant.closing))

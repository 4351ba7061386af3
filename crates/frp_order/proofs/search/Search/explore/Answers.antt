use Rattle.std.proofs.Common.{◌≡◌, false, [], length, arith}
use Rattle.std.proofs.lemmas.Bool.Decides.{nat_tests}
use Rattle.std.proofs.lemmas.List.{nil_from_length}
use Rattle.frp_order.specs.Search.{is_unseen, mark_at, state_of}
use Rattle.frp_order.proofs.Steps.{keeps_refl}
use Rattle.frp_order.proofs.Whole.{met_is_done}
use Rattle.frp_order.proofs.search.Search.explore.Goals as goal

pub returns-then-not-is_unseen : goal.returns-then-not-is_unseen
returns-then-not-is_unseen c =
    let s = state_of c.args.self.now in
    let met : is_unseen (mark_at s.marks c.args.root) ≡ false = grind (arith, nat_tests, c.is_unseen.ensures, c.if-not-is_unseen.true) in
    (c.requires.search, c.requires.start, keeps_refl s, met_is_done c.args.rows.now s c.requires.search c.requires.start c.args.root met)

pub loop-alloc-init : goal.loop-alloc-init
loop-alloc-init c = record { search = c.in_ok-open.ensures.goes.search; keeps = c.in_ok-open.ensures.goes.keeps; met = c.in_ok-open.ensures.met }

pub returns : goal.returns
returns c =
    let s = state_of c.loop-alloc.self in
    let ok = c.loop-alloc.self.path.ok.0 in
    let none : length s.path ≡ 0 = grind (arith, nat_tests, c.is_empty.ensures, c.loop-alloc-test.false, ok) in
    let empty : s.path ≡ [] = nil_from_length s.path none in
    (c.loop-alloc.invariant.search, empty, c.loop-alloc.invariant.keeps, met_is_done c.args.rows.now s c.loop-alloc.invariant.search empty c.args.root c.loop-alloc.invariant.met)

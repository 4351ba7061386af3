use Rattle.std.proofs.Common.{◌≡◌, true, false, length, sym, ap, ◌∙◌, subst, arith}
use Rattle.frp_rank.specs.Laws.{renumbered}
use Rattle.frp_rank.specs.Search.{has_visit, searched}
use Rattle.frp_rank.specs.Plans.{written, risen_writes, lower_writes, has_high_write, FitsOrder, AreInside}
use Rattle.frp_rank.proofs.Writing.{written_length, written_anew, lower_inside, risen_inside}
use Rattle.frp_rank.proofs.Rising.{fits_low, fits_high}
use Rattle.frp_rank.proofs.search.Search.plan.Goals as goal

pub renumbered-requires : goal.renumbered-requires
renumbered-requires c =
    let s = c.args.self.now in
    let visits = c.in_ok-visits.visits.items in
    let writes = c.as_slice-then-has_high_write.ensures.value ∙ c.in_ok-writes.ensures ∙ ap (risen_writes s.ranks.now.items s.by) c.as_slice-2.ensures.value in
    record { inside = rw writes (risen_inside s.ranks.now.items s.by (length s.ranks.now.items) visits c.in_ok-visits.ensures.search.inside) }

pub returns-then-has_high_write-clause-plan : goal.returns-then-has_high_write-clause-plan
returns-then-has_high_write-clause-plan c =
    let s = c.args.self.now in
    let ranks = s.ranks.now.items in
    let visits = c.in_ok-visits.visits.items in
    let clear : has_visit visits c.args.to ≡ false = sym (rw c.as_slice.ensures.value at c.is_visited.ensures) ∙ c.if-is_visited.false in
    let writes : c.in_ok-writes.writes.items ≡ risen_writes ranks s.by visits = c.in_ok-writes.ensures ∙ ap (risen_writes ranks s.by) c.as_slice-2.ensures.value in
    let high : has_high_write (risen_writes ranks s.by visits) ≡ true = ap has_high_write (sym (c.as_slice-3.ensures.value ∙ writes)) ∙ sym c.has_high_write.ensures ∙ c.if-has_high_write.true in
    let raised = written ranks (risen_writes ranks s.by visits) in
    let new : c.in_ok-writes-2.writes.items ≡ lower_writes raised = c.in_ok-writes-2.ensures ∙ ap (λ ws. lower_writes (written ranks ws)) (c.as_slice-then-has_high_write.ensures.value ∙ writes) in
    let same : length raised ≡ length ranks = written_length ranks (risen_writes ranks s.by visits) in
    let fits : FitsOrder (searched s) s.from c.args.to (renumbered raised) =
    fits_high s c.reach.new.slots.items visits c.args.to c.requires.able c.in_ok-visits.ensures.search c.in_ok-visits.ensures.met clear c.requires.to c.requires.higher high in
    (rw new (subst (AreInside (lower_writes raised)) same (lower_inside raised)), rw new (subst (FitsOrder (searched s) s.from c.args.to) (sym (written_anew ranks raised (sym same))) fits))

pub returns-clause-plan : goal.returns-clause-plan
returns-clause-plan c =
    let s = c.args.self.now in
    let ranks = s.ranks.now.items in
    let visits = c.in_ok-visits.visits.items in
    let clear : has_visit visits c.args.to ≡ false = sym (rw c.as_slice.ensures.value at c.is_visited.ensures) ∙ c.if-is_visited.false in
    let writes : c.in_ok-writes.writes.items ≡ risen_writes ranks s.by visits = c.in_ok-writes.ensures ∙ ap (risen_writes ranks s.by) c.as_slice-2.ensures.value in
    let low : has_high_write (risen_writes ranks s.by visits) ≡ false = ap has_high_write (sym (c.as_slice-3.ensures.value ∙ writes)) ∙ sym c.has_high_write.ensures ∙ c.if-has_high_write.false in (
      rw writes (risen_inside ranks s.by (length ranks) visits c.in_ok-visits.ensures.search.inside),
      rw writes (fits_low s c.reach.new.slots.items visits c.args.to c.requires.able c.in_ok-visits.ensures.search c.in_ok-visits.ensures.met clear c.requires.to c.requires.higher low),
    )

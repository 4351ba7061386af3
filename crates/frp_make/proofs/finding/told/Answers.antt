use Rattle.std.proofs.Common.{◌<◌, ℕ, List, length, sym, ap, ◌∙◌, subst}
use Rattle.std.specs.Prelude.{slice_index}
use Rattle.frp_order.specs.declared.found.Found.TheVariants.{Ring}
use Rattle.frp_order.specs.Rings.{AreInside}
use Rattle.frp_order.specs.Found.{IsFound}
use Rattle.frp_make.proofs.Outcome.{ring_inside}
use Rattle.frp_make.proofs.finding.told.Goals as goal

pub sort-requires : goal.sort-requires
sort-requires c = subst AreInside (sym c.as_slice.ensures.value) c.requires.inside

pub names_back-requires : goal.names_back-requires
names_back-requires c =
    let rows = c.args.search.waiting.items in
    let found : IsFound rows (Ring c.in-Ring.ring) = subst (λ (r : List (List ℕ)). IsFound r (Ring c.in-Ring.ring)) c.as_slice.ensures.value (subst (IsFound c.as_slice.result.now) c.in-Ring.is c.in_ok-sort.ensures) in
    let inside = ring_inside rows c.in-Ring.ring c.requires.inside found in
    subst (λ ps. (i : ℕ) → i < length ps → slice_index ps i < length c.as_slice-in-Ring.result.now) (sym c.as_slice-in-Ring-2.ensures)
    (λ i l. subst (λ n. slice_index c.in-Ring.ring i < n) (c.requires.rows ∙ ap length (sym c.as_slice-in-Ring.ensures.value)) (inside i l))

use Rattle.std.proofs.Common.{◌≡◌, ◌<◌, length, sym, ◌∙◌, subst, arith}
use Rattle.std.proofs.lemmas.List.{get_or_read}
use Rattle.frp_order.specs.declared.mark.Mark.TheVariants.{Unseen, Open}
use Rattle.frp_order.specs.Search.{mark_at, state_of}
use Rattle.frp_order.proofs.Steps.{at_path, ring_closes}
use Rattle.frp_order.proofs.search.Search.follow.Goals as goal

open_here : (c : goal.In-Open) → mark_at c.args.self.now.marks.items c.args.to ≡ Open c.in-Open.at
open_here c =
    let s = state_of c.args.self.now in
    let inside : c.args.to < length s.marks = subst (λ n. c.args.to < n) (sym c.requires.search.marked) c.requires.to in
    sym (get_or_read s.marks c.args.to c.index.result.now inside c.index.ensures Unseen) ∙ c.in-Open.is

pub places_from-requires : goal.places_from-requires
places_from-requires c =
    let s = state_of c.args.self.now in
    let h : c.in-Open.at < length s.path = at_path c.args.rows.now s c.requires.search c.args.to c.in-Open.at c.requires.path (open_here c) c.requires.leads in
    omega arith

pub returns-in_ok-places_from-in-Open : goal.returns-in_ok-places_from-in-Open
returns-in_ok-places_from-in-Open c =
    let s = state_of c.args.self.now in
    let inside : c.args.to < length s.marks = subst (λ n. c.args.to < n) (sym c.requires.search.marked) c.requires.to in
    let here : mark_at s.marks c.args.to ≡ Open c.in-Open.at = sym (get_or_read s.marks c.args.to c.index.result.now inside c.index.ensures Unseen) ∙ c.in-Open.is in
    rw (c.in_ok-places_from-in-Open.ensures) (ring_closes c.args.rows.now s c.requires.search c.args.to c.in-Open.at c.requires.path here c.requires.leads)

use Rattle.std.proofs.Common.{◌≡◌, ◌∷◌, ◌++◌, [], Some, None, map, sym, ap, ◌∙◌, subst}
use Rattle.std.specs.Prelude.{slice_get, is_some}
use Rattle.frp_store.specs.declared.change.Change.TheVariants.{Occurred}
use Rattle.frp_store.specs.declared.held.Held.{Held}
use Rattle.frp_store.specs.declared.tables.Tables.{Tables}
use Rattle.frp_store.specs.Lists.{Lists, lists_of, state_in}
use Rattle.frp_store.specs.Calls.{with_occ}
use Rattle.frp_store.specs.Kept.{AreKept}
use Rattle.frp_store.specs.Undo.{undo_all}
use Rattle.frp_store.proofs.Undoing.{pushed_base}
use Rattle.frp_store.proofs.Keeping.{occurred_again, occurred_base, occurred_state}
use Rattle.frp_store.proofs.tables.Tables.fire.Goals as goal

-- the room that was made changes nothing else
same : (c : goal.After-push_reserved-2) → lists_of c.reserve_occurrence.new.self ≡ lists_of c.args.self.now
same c =
    ap lists_of c.reserve_occurrence.ensures.rest ∙ ap (λ fs. record (lists_of c.args.self.now) { fired = fs }) c.reserve_occurrence.ensures.fired

-- the change that undoes the call
grown : (c : goal.After-push_reserved-2) → c.push_reserved-2.new.self.items ≡ c.args.self.now.changes.items ++ Occurred c.args.place ∷ []
grown c = c.push_reserved-2.ensures.items ∙ ap (λ l. l ++ Occurred c.args.place ∷ []) c.reserve_occurrence.ensures.changes

free : (c : goal.After-push_reserved-2) → slice_get (map (λ (h : Held). h.occ) c.reserve_occurrence.new.self.held.items) c.args.place ≡ Some None
free c = ap (λ (l : Lists). slice_get (map (λ (h : Held). h.occ) l.held) c.args.place) (same c) ∙ c.requires.free

pub returns-clause-kept : goal.returns-clause-kept
returns-clause-kept c =
    let s = c.args.self.now in
    let t = c.reserve_occurrence.new.self in
    let kept : AreKept s.changes.items (lists_of t) t.edges =
    subst (AreKept s.changes.items (lists_of t)) (sym (ap (λ (z : Tables). z.edges) c.reserve_occurrence.ensures.rest))
    (subst (λ l. AreKept s.changes.items l s.edges) (sym (same c)) c.requires.kept) in
    occurred_again s.changes.items _ (lists_of t) t.edges c.args.place c.args.value _ _ (grown c) c.write_occ.ensures c.push_reserved.ensures.items kept
    (ap (λ (l : Lists). is_some l.begun) (same c) ∙ c.requires.begun) (free c)

pub returns-clause-now : goal.returns-clause-now
returns-clause-now c =
    occurred_state (lists_of c.reserve_occurrence.new.self) c.args.place c.args.value _ c.push_reserved.new.self.items c.write_occ.ensures
    ∙ ap (λ l. with_occ c.args.place (Some c.args.value) (state_in l)) (same c)

pub returns-clause-base : goal.returns-clause-base
returns-clause-base c =
    let s = c.args.self.now in
    let l = lists_of c.reserve_occurrence.new.self in
    ap state_in (pushed_base s.changes.items _ (Occurred c.args.place) _ l (grown c)
    (occurred_base l c.args.place c.args.value _ _ c.write_occ.ensures c.push_reserved.ensures.items (free c)))
    ∙ ap (λ i. state_in (undo_all s.changes.items i)) (same c)

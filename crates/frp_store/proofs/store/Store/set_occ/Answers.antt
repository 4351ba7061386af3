use Rattle.std.proofs.Common.{sym, ap, ◌∙◌, subst}
use Rattle.std.specs.Prelude.{slice_get}
use Rattle.frp_store.specs.State.{State, Versions, sight}
use Rattle.frp_store.specs.Calls.{with_occ}
use Rattle.frp_store.specs.Seen.{IsAligned, ShowsOcc}
use Rattle.frp_store.specs.Lists.{lists_of}
use Rattle.frp_store.proofs.Keeping.{sound_now}
use Rattle.frp_store.proofs.Seeing.{sound_aligned, shows_occ, on_ok}
use Rattle.frp_store.proofs.store.Store.set_occ.Goals as goal

pub returns-clause-shown : goal.returns-clause-shown
returns-clause-shown c =
    let t = c.self.inside.tables in
    let s = c.args.self.now.now in
    let a = subst (λ (v : Versions). IsAligned v.now) c.self.view_is (sound_aligned (lists_of t) (sound_now t.changes.items (lists_of t) t.edges c.self.invariant.1)) in
    on_ok c.set_occ.result _ _
    (λ e. subst (λ (n : State). ShowsOcc (slice_get s.nodes c.args.p.0) c.args.v (sight s) (sight n))
    (sym (e ∙ ap (λ (v : Versions). with_occ c.args.p.0 c.args.v v.now) c.self.view_is)) (shows_occ s c.args.p.0 c.args.v a)) c.set_occ.ensures.now

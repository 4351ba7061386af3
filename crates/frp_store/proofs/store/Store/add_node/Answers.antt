use Rattle.std.proofs.Common.{sym, ap, ◌∙◌, subst}
use Rattle.std.specs.Prelude.{OnOk}
use Rattle.frp_store.specs.State.{State, Versions, sight}
use Rattle.frp_store.specs.Calls.{added}
use Rattle.frp_store.specs.Seen.{IsAligned, ShowsNode}
use Rattle.frp_store.specs.Lists.{lists_of}
use Rattle.frp_store.specs.Kept.{state_of}
use Rattle.frp_store.proofs.Keeping.{sound_now}
use Rattle.frp_store.proofs.Seeing.{sound_aligned, shows_node}
use Rattle.frp_store.proofs.store.Store.add_node.Goals as goal
use Rattle.frp_store.proofs.store.Store.add_node.Goals.{in-Ok, in-Err}

pub returns-clause-shown : goal.returns-clause-shown
returns-clause-shown c =
    let t = c.self.inside.tables in
    let s = c.args.self.now.now in
    let a = subst (λ (v : Versions). IsAligned v.now) c.self.view_is (sound_aligned (lists_of t) (sound_now t.changes.items (lists_of t) t.edges c.self.invariant.1)) in
    elim c.match-add.branch [
      | in-Ok w ↦ subst (λ r. OnOk r (ShowsNode c.args.n (sight s) (sight (state_of c.add.new.self)))) (sym w.result-is)
          (subst (λ (n : State). ShowsNode c.args.n (sight s) (sight n)) (sym (w.in-Ok.ensures.now ∙ ap (λ (v : Versions). added c.args.n v.now) c.self.view_is)) (shows_node s c.args.n a c.requires.new))
      | in-Err w ↦ subst (λ r. OnOk r (ShowsNode c.args.n (sight s) (sight (state_of c.add.new.self)))) (sym w.result-is) tt
    ]

use Rattle.std.proofs.Common.{◌≡◌, ◌-◌, [], Some, take, vec_len, refl, sym, ap, ◌∙◌, subst}
use Rattle.frp_store.specs.Items.{but_last}
use Rattle.frp_store.specs.declared.change.Change.TheVariants.{Ended}
use Rattle.frp_store.specs.declared.tables.Tables.{Tables}
use Rattle.frp_store.specs.State.{last_moment}
use Rattle.frp_store.specs.Lists.{Lists, lists_of, nodes_of, targets_of}
use Rattle.frp_store.specs.Undo.{reopened, given, unwritten}
use Rattle.frp_store.specs.Kept.{AreKept, IsFindable}
use Rattle.frp_store.proofs.Items.{last_pushed, but_last_pushed}
use Rattle.frp_store.proofs.Keeping.{findable_now, kept_behind}
use Rattle.frp_store.proofs.Taking.{no_items, take_empty}
use Rattle.frp_store.proofs.Reopening.{unwritten_nodes, reopened_nodes, reopened_targets}
use Rattle.frp_store.proofs.tables.Tables.reopen.Goals as goal

-- what holds of the nodes while facts are given back
pub give_back-requires : goal.give_back-requires
give_back-requires c =
    let s = c.args.self.now in
    let found = findable_now _ (lists_of s) s.edges c.requires.kept in
    record {
      findable = subst (λ ns. IsFindable ns c.step_back.new.self.edges.index) (sym (ap nodes_of c.step_back.ensures.held ∙ unwritten_nodes c.args.steps.items s.held.items))
          (subst (λ (t : Tables). IsFindable (nodes_of s.held.items) t.edges.index) (sym c.step_back.ensures.rest) found);
    }

pub returns-in-Some-clause-lists : goal.returns-in-Some-clause-lists
returns-in-Some-clause-lists c =
    let s = c.args.self.now in
    let m = c.in-Some.moment in
    let fired = c.args.fired.items in
    let last : last_moment s.past.items ≡ Some m = ap last_moment c.in-Some.ensures.items ∙ last_pushed c.pop.new.self.items m in
    let held = given m.fired (unwritten c.args.steps.items s.held.items) in
    let there : c.give_back.new.self.held.items ≡ held =
    c.give_back.ensures.held ∙ ap (λ fs. given fs c.step_back.new.self.held.items) c.into_vec.ensures ∙ ap (given m.fired) c.step_back.ensures.held in
    let past : c.pop.new.self.items ≡ but_last s.past.items = sym (ap but_last c.in-Some.ensures.items ∙ but_last_pushed c.pop.new.self.items m) in
    ap lists_of (c.give_back.ensures.rest ∙ ap (λ (t : Tables). record t { held = c.give_back.new.self.held }) c.step_back.ensures.rest)
    ∙ ap (λ hs. record { past = c.pop.new.self.items; begun = Some m.time; above = c.args.above; first = c.args.first; held = hs; fired = fired }) there
    ∙ ap (λ ms. record { past = ms; begun = Some m.time; above = c.args.above; first = c.args.first; held = held; fired = fired }) past
    ∙ ap (λ o. reopened o fired c.args.steps.items c.args.above c.args.first (lists_of s)) (sym last)

pub returns-in-Some-clause-kept : goal.returns-in-Some-clause-kept
returns-in-Some-clause-kept c =
    let s = c.args.self.now in
    let new = c.give_back.new.self in
    let l = lists_of s in
    let lists = returns-in-Some-clause-lists c in
    let rest = c.give_back.ensures.rest ∙ ap (λ (t : Tables). record t { held = new.held }) c.step_back.ensures.rest in
    let kept : AreKept s.changes.items (lists_of new) s.edges =
    kept_behind s.changes.items (Ended c.args.fired c.args.steps c.args.above c.args.first) l (lists_of new) s.edges c.requires.kept lists
    (ap (λ (i : Lists). nodes_of i.held) lists ∙ reopened_nodes (last_moment l.past) c.args.fired.items c.args.steps.items c.args.above c.args.first l)
    (ap (λ (i : Lists). targets_of i.held) lists ∙ reopened_targets (last_moment l.past) c.args.fired.items c.args.steps.items c.args.above c.args.first l) in
    subst (λ e. AreKept new.changes.items (lists_of new) e) (sym (ap (λ (t : Tables). t.edges) rest))
    (subst (λ cs. AreKept cs (lists_of new) s.edges) (sym (ap (λ (t : Tables). t.changes.items) rest)) kept)

pub returns-in_default-clause-kept : goal.returns-in_default-clause-kept
returns-in_default-clause-kept c =
    let s = c.args.self.now in
    let l = lists_of s in
    let none : s.past.items ≡ [] = no_items s.past.items (sym s.past.ok.0 ∙ c.in_default.ensures.cases.0) in
    let left : c.pop.new.self.items ≡ s.past.items = c.in_default.ensures.rest ∙ ap (take (vec_len s.past - 1)) none ∙ take_empty (vec_len s.past - 1) ∙ sym none in
    subst (λ ps. AreKept s.changes.items (record l { past = ps }) s.edges) (sym left)
    (kept_behind s.changes.items (Ended c.args.fired c.args.steps c.args.above c.args.first) l l s.edges c.requires.kept
    (ap (λ ps. reopened (last_moment ps) c.args.fired.items c.args.steps.items c.args.above c.args.first l) (sym none)) refl refl)

use Rattle.std.proofs.Common.{◌≡◌, ◌∙◌, ◌+◌, ◌-◌, length, take, sym, ap, subst, arith}
use Rattle.frp_store.specs.declared.edges.Edges.{Edges}
use Rattle.frp_store.specs.declared.tables.Tables.{Tables}
use Rattle.frp_store.specs.Lists.{lists_of}
use Rattle.frp_store.specs.Kept.{AreKept}
use Rattle.frp_store.proofs.Rewiring.{aim_inside}
use Rattle.frp_store.proofs.Growing.{last_sound, last_findable, last_none, last_length, last_kept}
use Rattle.frp_store.proofs.tables.Tables.remove_last.Goals as goal

pub unfile-requires-clause-findable : goal.unfile-requires-clause-findable
unfile-requires-clause-findable c = let s = c.args.self.now in last_findable s s.changes.items c.requires.kept

pub unfile-requires-clause-target : goal.unfile-requires-clause-target
unfile-requires-clause-target c = let s = c.args.self.now in aim_inside (lists_of s) (c.len-count.result - 1) (last_sound s s.changes.items c.requires.kept)

pub cut-requires-then-count-gt0 : goal.cut-requires-then-count-gt0
cut-requires-then-count-gt0 c =
    let s = c.args.self.now in
    let count : (c.len-count.result - 1) + 1 ≡ length s.held.items = (let a = c.if-count-gt0.true in let b = c.len-count.ensures in omega (arith, a, b)) in
    last_length s s.changes.items c.requires.kept (c.len-count.result - 1) c.unfile.new.self.edges.lists.items count c.unfile.ensures.lists

pub returns-then-count-gt0-clause-kept : goal.returns-then-count-gt0-clause-kept
returns-then-count-gt0-clause-kept c =
    let s = c.args.self.now in
    let p = c.len-count.result - 1 in
    let edges : Edges = record { lists = c.cut-then-count-gt0.new.self; wanting = c.unfile.new.self.edges.wanting; index = c.unfile.new.self.edges.index } in
    let count : p + 1 ≡ length s.held.items = (let a = c.if-count-gt0.true in let b = c.len-count.ensures in omega (arith, a, b)) in
    subst (λ (t : Tables). AreKept t.changes.items
    (record { past = t.past.items; begun = t.begun; above = t.above; first = t.first; held = c.cut.new.self.items; fired = t.fired.items }) edges) (sym c.unfile.ensures.rest)
    (last_kept s s.changes.items c.requires.kept p c.cut.new.self.items edges count
    (c.cut.ensures.items ∙ ap (λ (t : Tables). take p t.held.items) c.unfile.ensures.rest)
    (λ y g. c.cut-then-count-gt0.ensures.items ∙ ap (take p) (c.unfile.ensures.lists y g)) c.unfile.ensures.wanting c.unfile.ensures.index)

pub returns-else-count-gt0-clause-kept : goal.returns-else-count-gt0-clause-kept
returns-else-count-gt0-clause-kept c =
    let s = c.args.self.now in
    last_none s s.changes.items c.requires.kept (let a = c.if-count-gt0.false in let b = c.len-count.ensures in omega (arith, a, b))

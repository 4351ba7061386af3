use Rattle.std.proofs.Common.{◌≡◌, ◌∷◌, ◌++◌, [], Some, sym, ap, ◌∙◌, subst}
use Rattle.frp_store.specs.declared.change.Change.TheVariants.{Began}
use Rattle.frp_store.specs.Calls.{IsAfter}
use Rattle.frp_store.specs.Lists.{lists_of, state_in}
use Rattle.frp_store.specs.Kept.{IsAbove}
use Rattle.frp_store.proofs.Undoing.{pushed_base}
use Rattle.frp_store.proofs.Keeping.{begun_kept, begun_back, sound_now}
use Rattle.frp_store.proofs.tables.Tables.begin.Goals as goal

pub moment_above-requires : goal.moment_above-requires
moment_above-requires c = let s = c.args.self.now in record { rising = (sound_now s.changes.items (lists_of s) s.edges c.requires.kept).rising }

-- the change that undoes the call
grown : (c : goal.After-push_reserved) → c.push_reserved.new.self.items ≡ c.args.self.now.changes.items ++ Began ∷ []
grown c = c.push_reserved.ensures.items ∙ ap (λ l. l ++ Began ∷ []) c.in_ok-reserve.ensures.items

pub returns-clause-kept : goal.returns-clause-kept
returns-clause-kept c =
    let s = c.args.self.now in
    begun_kept s.changes.items _ (lists_of s) s.edges c.in_ok-begun.begun c.in_ok-above.above (grown c) c.requires.kept c.requires.idle
    (subst (λ t. IsAfter t s.past.items) (sym c.in_ok-begun.ensures) c.requires.later)
    (subst (λ t. IsAbove (Some t) s.past.items c.in_ok-above.above) (sym c.in_ok-begun.ensures) c.in_ok-above.ensures)

pub returns-clause-base : goal.returns-clause-base
returns-clause-base c =
    let s = c.args.self.now in
    ap state_in (pushed_base s.changes.items _ Began _ (lists_of s) (grown c)
    (begun_back (lists_of s) c.in_ok-begun.begun c.in_ok-above.above (sound_now s.changes.items (lists_of s) s.edges c.requires.kept) c.requires.idle))

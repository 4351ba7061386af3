use Rattle.std.proofs.Common.{[], refl, sym, ◌∙◌}
use Rattle.frp_store.specs.Lists.{lists_of}
use Rattle.frp_store.proofs.Keeping.{findable_now, forgotten_kept}
use Rattle.frp_store.proofs.tables.Tables.forget_known.Goals as goal

pub ends_of-requires : goal.ends_of-requires
ends_of-requires c = let s = c.loop-place.self in record { findable = findable_now [] (lists_of s) s.edges c.loop-place.invariant.kept }

pub loop-place-preserved : goal.loop-place-preserved
loop-place-preserved c =
    let s = c.loop-place.self in
    record {
      kept = forgotten_kept (lists_of s) s.edges _ c.in-Some.place c.get.result.now (sym c.last.ensures ∙ c.in-Some.is) c.get.ensures (sym c.ends_of.ensures.wants ∙ c.if-ends_of.false)
          refl refl c.pop.ensures.items c.loop-place.invariant.kept;
      lists = c.loop-place.invariant.lists;
      changes = c.loop-place.invariant.changes;
    }

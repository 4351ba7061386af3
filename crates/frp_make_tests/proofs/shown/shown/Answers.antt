use Rattle.std.proofs.Common.{sym, subst}
use Rattle.frp_graph.specs.TypedProg.{IsTypedProg}
use Rattle.frp_make_tests.proofs.shown.shown.Goals as goal

pub built-requires : goal.built-requires
built-requires c = subst IsTypedProg (sym c.into_inner.ensures) (c.in_ok-prog.ensures c.in-Some.prog c.in-Some.is)

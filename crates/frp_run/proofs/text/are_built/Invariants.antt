use Rattle.std.proofs.Common.{◌≡◌, drop}
use Rattle.std.specs.List.{list_all}
use Rattle.frp_run.specs.Texts.{is_built_decl}
use Rattle.frp_run.proofs.text.are_built.Given as goal

abbrev pub invariant-loop-decl : goal.invariant-loop-decl
invariant-loop-decl l = list_all is_built_decl (drop l.decl-index l.decls) ≡ list_all is_built_decl l.fn.decls

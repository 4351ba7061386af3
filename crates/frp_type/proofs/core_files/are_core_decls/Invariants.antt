use Rattle.std.proofs.Common.{◌≡◌, drop}
use Rattle.std.specs.List.{list_all}
use Rattle.frp_type.specs.Core.{is_core_decl}
use Rattle.frp_type.proofs.core_files.are_core_decls.Given as goal

abbrev pub invariant-loop-d : goal.invariant-loop-d
invariant-loop-d l = list_all is_core_decl (drop l.d-index l.decls) ≡ list_all is_core_decl l.fn.decls

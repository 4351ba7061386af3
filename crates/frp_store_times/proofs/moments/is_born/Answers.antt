use Rattle.std.proofs.Common.{◌≡◌, Some, sym, ap, ◌∙◌}
use Rattle.std.specs.Option.{option_copied}
use Rattle.frp_graph.proofs.Lists.{time_same}
use Rattle.frp_store_times.proofs.moments.is_born.Goals as goal

pub returns-in-Some : goal.returns-in-Some
returns-in-Some c = λ t.
    sym c.begun.ensures ∙ ap option_copied c.in-Some.is ∙ ap (λ u. Some u) (sym (time_same _ _ (sym c.is.ensures ∙ t)) ∙ c.birth.ensures)

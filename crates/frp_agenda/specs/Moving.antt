-- What an agenda ends as, once the time that it moved to is read no more.
use Rattle.std.specs.Prelude.{◌≡◌, ⊤}
use Rattle.std.specs.Borrow.{Fml, MutBor, follows_so}
use mathlib.Core.Option.{none}
use Rattle.frp_agenda.specs.Due.{Schedule}
use Rattle.frp_agenda.specs.contracts.agenda.Agenda.{the_row}

abbrev pub ends_as : MutBor Schedule → Schedule → Fml
ends_as agenda s = follows_so the_row the_row agenda.ghost_name none (λ _ _. ⊤) (λ ended. ended ≡ s)

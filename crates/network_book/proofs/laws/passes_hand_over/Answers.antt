use Rattle.network_book.proofs.Handing.{hands-over}
use Rattle.network_book.proofs.laws.passes_hand_over.Goals as goal

pub returns : goal.returns
returns g c =
    hands-over g.D.Driver.least g.D.Driver.drive c.meanings_are_lawful.ensures c.settings_are_lawful.ensures.enough c.held_controllers_stay.ensures.holds

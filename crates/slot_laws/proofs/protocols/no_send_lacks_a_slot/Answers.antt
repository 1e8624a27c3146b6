use Rattle.protocol_meaning.specs.Prelude.{meaning_of, setting_of}
use Rattle.protocol_meaning.proofs.Scans.{is_meaning}
use Rattle.protocol_meaning.proofs.Settings.{is_setting}
use Rattle.protocol_runs.proofs.Driver.{IsDriver}
use Rattle.slot_laws.proofs.ProtocolSlots.{takes_free}
use Rattle.slot_laws.proofs.SlotsHeld.{slots_held}
use Rattle.slot_laws.proofs.protocols.no_send_lacks_a_slot.Goals as goal

pub returns-clause-takes : goal.returns-clause-takes
returns-clause-takes g c = λ trees t seed cycles limit driver fit few enough. takes_free g.D.Driver.drive g.D.Driver.least trees t seed cycles limit driver fit few enough

pub returns-clause-hold : goal.returns-clause-hold
returns-clause-hold g c =
    let driver = g.met.D.Driver g.world.𝓛 g.world.𝓜 g.world.𝓡 ((λ s x. x), (λ x. x), (λ x. x), λ x. x) in
    let law : IsDriver g.D.Driver.drive g.D.Driver.needs g.D.Driver.least = record { lawful = driver.lawful; lasting = λ d seats now. (driver.lasting d seats now).0 } in
    λ trees t seed cycles limit first fit few enough.
    slots_held g.D.Driver.drive g.D.Driver.needs g.D.Driver.least law (meaning_of trees) (setting_of trees t seed cycles limit first) (is_meaning trees)
    (is_setting g.D.Driver.least trees t seed cycles limit first fit few enough)
    (takes_free g.D.Driver.drive g.D.Driver.least trees t seed cycles limit first fit few enough)

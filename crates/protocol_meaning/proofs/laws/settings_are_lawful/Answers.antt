use Rattle.protocol_meaning.proofs.Settings.{is_setting, is_setting_of_one}
use Rattle.protocol_meaning.proofs.laws.settings_are_lawful.Goals as goal

pub returns-clause-enough : goal.returns-clause-enough
returns-clause-enough g c = λ trees t seed cycles limit driver fit. is_setting g.D.Driver.least trees t seed cycles limit driver fit

pub returns-clause-one_seat : goal.returns-clause-one_seat
returns-clause-one_seat g c = λ trees t seed cycles limit driver fit. is_setting_of_one g.D.Driver.least trees t seed cycles limit driver fit

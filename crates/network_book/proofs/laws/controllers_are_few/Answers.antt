use Rattle.protocol_meaning.specs.Prelude.{meaning_of}
use Rattle.ruby_world.specs.Prelude.{setting_in}
use Rattle.ruby_world.proofs.Openings.{few-places}
use Rattle.std.proofs.Common.{refl}
use Rattle.network_book.proofs.laws.controllers_are_few.Goals as goal

pub returns : goal.returns
returns g c = λ v fits cycles enough w is.
    few-places v.trees v.topology fits (setting_in v) refl w.places w.now
    (λ k p at.
    c.controllers_fit.ensures (meaning_of v.trees) (setting_in v) (c.meanings_are_lawful.ensures v.trees)
    (c.settings_are_lawful.ensures.enough v.trees v.topology v.limits.seed v.limits.cycles v.limits.limit v.opening fits cycles enough)
    v.history w v.journal is k p at)

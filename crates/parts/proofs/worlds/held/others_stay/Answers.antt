use Rattle.std.proofs.Common.{◌≡◌, ◌∷◌, [], false}
use Rattle.std.proofs.lemmas.List.Elements.{All-cons, All-nil}
use Rattle.run_journal.specs.declared.event.Event.{Event}
use Rattle.protocol_runs.specs.Prelude.{is_on}
use Rattle.parts.proofs.worlds.held.others_stay.Goals as goal

pub returns : goal.returns
returns g c =
    λ old new e worker h before after added other holds.
    let P : Event → Type 0 = λ f. is_on worker h.controller f ≡ false in
    c.held_controllers_stay.ensures.holds old new (e ∷ []) worker h before.run.0 after.run.0 (c.meanings_are_lawful.ensures old.trees)
    (c.settings_are_lawful.ensures.enough old.trees old.topology old.limits.seed old.limits.cycles old.limits.limit old.opening before.fits before.cycles
    before.enough) before.run.1 after.run.1 added (All-cons P e [] other (All-nil P)) holds

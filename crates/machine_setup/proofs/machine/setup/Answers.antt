use Rattle.std.proofs.Common.{Some, ap, sym, ◌∙◌}
use Rattle.std.specs.Prelude.{slice_get}
use Rattle.std.specs.Option.{option_map}
use Rattle.ruby_symbols.specs.declared.machine.MachineSymbols.{MachineSymbols}
use Rattle.ruby_symbols.specs.declared.symbols.Symbols.{Symbols}
use Rattle.machine_setup.specs.Prelude.{setup_by}
use Rattle.machine_setup.proofs.BySymbols.{of_number}
use Rattle.machine_setup.proofs.machine.setup.Goals as goal

pub returns-in-None : goal.returns-in-None
returns-in-None c =
    let made = λ (s : Symbols). option_map (λ (own : MachineSymbols). setup_by s c.args.machine own c.args.sizes.now) in
    ap (made c.symbols-symbols.result.now) c.in-None.ensures
    ∙ ap (λ (s : Symbols). made s (slice_get s.machines c.args.machine)) c.symbols-symbols.ensures
    ∙ sym (of_number c.args.plan.now c.trees-accepted.ensures.accepted c.args.machine c.args.sizes.now)

pub returns-in_ok-setup_by-in-Some : goal.returns-in_ok-setup_by-in-Some
returns-in_ok-setup_by-in-Some c =
    let made = λ (s : Symbols). option_map (λ (own : MachineSymbols). setup_by s c.args.machine own c.args.sizes.now) in
    ap Some c.in_ok-setup_by-in-Some.ensures
    ∙ ap (made c.symbols-symbols.result.now) c.in-Some.ensures
    ∙ ap (λ (s : Symbols). made s (slice_get s.machines c.args.machine)) c.symbols-symbols.ensures
    ∙ sym (of_number c.args.plan.now c.trees-accepted.ensures.accepted c.args.machine c.args.sizes.now)

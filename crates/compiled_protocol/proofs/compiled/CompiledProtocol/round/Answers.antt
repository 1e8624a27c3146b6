use Rattle.std.proofs.Common.{◌∙◌, ap, sym}
use Rattle.action_gen.specs.declared.parts.Parts.{Parts}
use Rattle.compiled_protocol.specs.Prelude.{machine_at, machine_code}
use Rattle.compiled_protocol.proofs.Locals.{in_machine}
use Rattle.compiled_protocol.proofs.Rounds.{may_scan, round_with, round_without}
use Rattle.compiled_protocol.proofs.compiled.CompiledProtocol.round.Goals as goal

pub scan-requires : goal.scan-requires
scan-requires g c = record {
  may = may_scan c.args.self.now c.requires.trees c.requires.served c.args.machine (machine_code c.in-Some.m)
      (c.in-Some.ensures ∙ ap (λ (parts : Parts). machine_at parts c.args.machine) c.self.view_is) (g.T.Local.view c.args.local.now)
      (in_machine c.args.self.now c.requires.trees c.requires.served c.args.machine (g.T.Local.view c.args.local.now) c.requires.local);
}

pub returns-in-None : goal.returns-in-None
returns-in-None g c =
    λ trees serves. round_without c.args.self.now trees serves c.args.machine
    (sym (c.in-None.ensures ∙ ap (λ (parts : Parts). machine_at parts c.args.machine) c.self.view_is)) c.args.limit c.args.fired (g.T.Local.view c.args.local.now)

pub returns-in-Some : goal.returns-in-Some
returns-in-Some g c =
    λ trees serves.
    round_with c.args.self.now trees serves c.args.machine (machine_code c.in-Some.m)
    (c.in-Some.ensures ∙ ap (λ (parts : Parts). machine_at parts c.args.machine) c.self.view_is) (g.T.Local.view c.args.local.now)
    (in_machine c.args.self.now c.requires.trees c.requires.served c.args.machine (g.T.Local.view c.args.local.now) c.requires.local)
    c.args.limit c.args.fired c.scan.result (g.T.Local.view c.scan.new.local) c.scan.ensures

use Rattle.std.proofs.Common.{◌≡◌, ◌∙◌, Result, Ok, subst}
use Rattle.ruby_base.specs.declared.memory.NoMemory.{NoMemory}
use Rattle.body_meaning.specs.Prelude.{IsRoundOf, Scanned}
use Rattle.slicc_interpreter.proofs.Scans.{few_of, with_machine}
use Rattle.slicc_interpreter.proofs.interpreted.walk_with.Goals as goal

pub scan-requires : goal.scan-requires
scan-requires g c = record { few = few_of c.args.m.now c.requires.numbers }

pub returns : goal.returns
returns g c =
    subst (λ (scanned : Scanned). IsRoundOf scanned c.scan.result (g.T.Local.view c.scan.new.local) (g.T.Local.view c.args.local.now))
    (with_machine c.args.plan.now c.args.machine c.args.limit c.args.fired (g.T.Local.view c.args.local.now) c.symbols-symbols.result.now c.args.m.now c.args.tree.now c.kept_machines-kept.result
    c.requires.symbols c.requires.tree c.symbols-symbols.ensures c.kept_machines-kept.ensures)
    c.scan.ensures

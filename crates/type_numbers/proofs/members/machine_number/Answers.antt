use Rattle.std.proofs.Common.{◌≡◌, ◌≤◌, Bor, List, ap, arith, length, map, ◌∙◌}
use Rattle.slicc_ast.specs.declared.tree.machine.Machine.{Machine}
use Rattle.slicc_plan.specs.Prelude.{everywhere, machines_of, member_number}
use Rattle.slicc_plan.proofs.Few.{few_machines}
use Rattle.type_numbers.specs.Prelude.{trees_of}
use Rattle.type_numbers.proofs.Lists.{few_seen, machine_texts, numbered_within}
use Rattle.type_numbers.proofs.members.machine_number.Goals as goal

pub returns-clause-number : goal.returns-clause-number
returns-clause-number c =
    c.member_number.ensures.number
    ∙ ap (λ (ms : List (Bor Machine)). member_number everywhere c.args.own.now (map (λ (m : Bor Machine). m.now.name.text) ms) c.args.value.now) c.deref.ensures
    ∙ ap (λ names. member_number everywhere c.args.own.now names c.args.value.now) (machine_texts c.args.types.now.machines)
    ∙ ap (λ (ms : List Machine). member_number everywhere c.args.own.now (map (λ (m : Machine). m.name.text) ms) c.args.value.now) c.requires.machines

pub returns-clause-within : goal.returns-clause-within
returns-clause-within c =
    let trees = trees_of c.args.types.now in
    let few : length c.args.types.now.machines ≤ 16 = few_seen (λ (m : Bor Machine). m.now) c.args.types.now.machines (machines_of trees) 16 c.requires.machines (few_machines trees c.requires.accepted.of_declarations).machines in
    let same : length c.deref.result.now ≡ length c.args.types.now.machines = ap (λ (ms : List (Bor Machine)). length ms) c.deref.ensures in
    numbered_within c.member_number.result (length c.deref.result.now) (omega (arith, few, same)) c.member_number.ensures.within

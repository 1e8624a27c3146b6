use Rattle.std.proofs.Common.{◌≡◌, ◌≤◌, Bor, List, ap, arith, length, sym, ◌∙◌}
use Rattle.std.specs.Prelude.{position}
use Rattle.std.specs.Str.{bytes_eq}
use Rattle.slicc_ast.specs.declared.tree.machine.Machine.{Machine}
use Rattle.slicc_plan.specs.Prelude.{machines_of, owner}
use Rattle.slicc_plan.proofs.Few.{few_machines}
use Rattle.declared_types.specs.Prelude.{scope_of}
use Rattle.type_numbers.proofs.Lists.{few_seen, numbered_within, position_map}
use Rattle.type_numbers.specs.Prelude.{trees_of}
use Rattle.protocol_symbols.proofs.types.owner.Goals as goal

pub kept-requires : goal.kept-requires
kept-requires c =
    let trees = trees_of c.args.types.now in
    let few : length c.args.types.now.machines ≤ 16 = few_seen (λ (m : Bor Machine). m.now) c.args.types.now.machines (machines_of trees) 16 c.requires.machines (few_machines trees c.requires.accepted.of_declarations).machines in
    let same : length c.deref.result.now ≡ length c.args.types.now.machines = ap (λ (ms : List (Bor Machine)). length ms) c.deref.ensures in
    numbered_within c.place_named.result (length c.deref.result.now) (omega (arith, few, same)) c.place_named.ensures.within

pub returns-in-Within : goal.returns-in-Within
returns-in-Within c =
    let name = c.in-Within.m.now.name.text in
    c.kept.ensures ∙ c.place_named.ensures.place
    ∙ ap (λ text. position (λ (m : Bor Machine). bytes_eq m.now.name.text text) c.deref.result.now) c.deref-in-Within.ensures
    ∙ ap (position (λ (m : Bor Machine). bytes_eq m.now.name.text name)) c.deref.ensures
    ∙ sym (position_map (λ (m : Machine). bytes_eq m.name.text name) (λ (m : Bor Machine). m.now) c.args.types.now.machines)
    ∙ ap (position (λ (m : Machine). bytes_eq m.name.text name)) c.requires.machines
    ∙ ap (λ s. owner (trees_of c.args.types.now) (scope_of s)) (sym c.in-Within.is)

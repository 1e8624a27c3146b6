use Rattle.std.proofs.Common.{◌≡◌, ◌+◌, ◌++◌, ◌∷◌, Some, List, [], ◌∙◌, ap, append_assoc, arith, drop, length, map, remove, slice_get, subst, sym, take}
use Rattle.std.proofs.lemmas.List.{length-map, take_all}
use Rattle.slicc_ast.specs.declared.tree.machine.Machine.{Machine}
use Rattle.slicc_plan.specs.Prelude.{machines_from, machines_of, written_of}
use Rattle.slicc_plan.proofs.Few.{few_machines}
use Rattle.type_numbers.specs.Prelude.{trees_of}
use Rattle.protocol_symbols.proofs.Numbered.{first_left, machine_at, machines_step}
use Rattle.protocol_symbols.proofs.protocol.add_machines.Goals as goal

pub remove-own-requires : goal.remove-own-requires
remove-own-requires c =
    let first = first_left (λ m. m.now) c.args.machines.now c.loop-number.number c.index-machines-number.result c.loop-number.left c.loop-number-test.true c.index-machines-number.is c.loop-number.invariant.left in
    omega (arith, ap length first)

pub overflow_cast-number : goal.overflow_cast-number
overflow_cast-number c =
    let few = few_machines (trees_of c.args.types.now) c.requires.types.accepted.of_declarations in
    omega (arith, c.loop-number-test.true, length-map c.args.machines.now (λ m. m.now), ap length c.requires.machines, few.machines)

pub machine_symbols-requires-clause-machine : goal.machine_symbols-requires-clause-machine
machine_symbols-requires-clause-machine c =
    subst (λ (ms : List Machine). slice_get ms c.loop-number.number ≡ Some c.index-machines-number.result.now) c.requires.machines
    (machine_at (λ m. m.now) c.args.machines.now c.loop-number.number c.index-machines-number.result c.loop-number-test.true c.index-machines-number.is)

pub machine_symbols-requires-clause-written : goal.machine_symbols-requires-clause-written
machine_symbols-requires-clause-written c =
    let first = first_left (λ m. m.now) c.args.machines.now c.loop-number.number c.index-machines-number.result c.loop-number.left c.loop-number-test.true c.index-machines-number.is c.loop-number.invariant.left in
    cc (c.remove-own.ensures.value ∙ ap (λ all. slice_get all 0) first)

pub loop-number-preserved : goal.loop-number-preserved
loop-number-preserved c =
    let trees = trees_of c.args.types.now in
    let m = c.index-machines-number.result in
    let old = c.args.list.now in
    let so_far = machines_from trees 0 (map (λ m. m.now) (take c.loop-number.number c.args.machines.now)) in
    let first = first_left (λ m. m.now) c.args.machines.now c.loop-number.number m c.loop-number.left c.loop-number-test.true c.index-machines-number.is c.loop-number.invariant.left in
    record {
      list =
          c.in_ok-push.ensures.ok
          ∙ ap (λ xs. xs ++ c.in_ok-machine_symbols.field-0 ∷ []) c.loop-number.invariant.list
          ∙ append_assoc old so_far (c.in_ok-machine_symbols.field-0 ∷ [])
          ∙ ap (λ s. old ++ (so_far ++ s ∷ [])) c.in_ok-machine_symbols.ensures
          ∙ ap (λ ys. old ++ ys) (sym (machines_step (λ m. m.now) trees c.args.machines.now c.loop-number.number m c.loop-number-test.true c.index-machines-number.is));
      left = c.remove-own.ensures.rest ∙ ap (λ all. remove all 0) first;
    }

pub returns : goal.returns
returns c =
    c.loop-number.invariant.list ∙ ap (λ ms. c.args.list.now ++ machines_from (trees_of c.args.types.now) 0 (map (λ m. m.now) ms)) (take_all c.loop-number.number c.args.machines.now c.loop-number-test.false)

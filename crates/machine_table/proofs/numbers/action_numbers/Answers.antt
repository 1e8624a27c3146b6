use Rattle.std.proofs.Common.{◌≤◌, ◌+◌, subst, None, Some, arith, ap, sym, ◌∙◌, bytes_eq, cond, flat_map, length, position}
use Rattle.std.specs.Option.{option_or}
use Rattle.std.proofs.lemmas.List.{take_all}
use Rattle.slicc_plan.specs.Prelude.{is_named, named_declarations}
use Rattle.machine_table.specs.Prelude.{actions_among, found_by}
use Rattle.machine_table.proofs.Behind.{actions_behind}
use Rattle.machine_table.proofs.NumbersOfNames.{action_added, action_counted, action_skipped, fewer_among}
use Rattle.machine_table.proofs.numbers.action_numbers.Goals as goal

pub loop-d-preserved : goal.loop-d-preserved
loop-d-preserved c =
    let ds = c.as_slice-ds.result.now in
    let i = c.loop-d.d-index in
    let k = c.loop-d.number in
    let counted = action_counted ds i k c.d-item.result c.in-Action.a c.loop-d-test.true c.d-item.is c.in-Action.is c.loop-d.invariant.number in
    let all : length (actions_among ds) ≤ 256 =
    subst (λ ds. length (actions_among ds) ≤ 256) (sym c.as_slice-ds.ensures)
    (subst (λ xs. length xs ≤ 256) (actions_behind c.args.m.now.parameters (flat_map named_declarations c.args.m.now.declarations)) c.requires) in
    record {
      numbers = λ text.
          action_added ds i k c.d-item.result c.in-Action.a text (found_by c.loop-d.numbers text) (found_by c.add.new.self text) c.loop-d-test.true c.d-item.is c.in-Action.is c.loop-d.invariant.number (c.loop-d.invariant.numbers text)
          (c.in_ok-add.ensures text ∙ ap (λ name. option_or (found_by c.loop-d.numbers text) (cond (bytes_eq name text) (Some k) None)) c.as_slice.ensures);
      number = counted;
      few = omega (arith, counted, fewer_among ds (i + 1), all);
    }

pub loop-d-preserved-in_default : goal.loop-d-preserved-in_default
loop-d-preserved-in_default c =
    let same = action_skipped c.as_slice-ds.result.now c.loop-d.d-index c.d-item.result c.loop-d-test.true c.d-item.is c.in_default.not-Action in
    record {
      numbers = λ text. c.loop-d.invariant.numbers text ∙ ap (position (is_named text)) (sym same);
      number = c.loop-d.invariant.number ∙ ap length (sym same);
      few = c.loop-d.invariant.few;
    }

pub returns : goal.returns
returns c =
    λ text. c.loop-d.invariant.numbers text
    ∙ ap (λ ds. position (is_named text) (actions_among ds)) (take_all c.loop-d.d-index c.as_slice-ds.result.now c.loop-d-test.false ∙ c.as_slice-ds.ensures)
    ∙ ap (position (is_named text)) (sym (actions_behind c.args.m.now.parameters (flat_map named_declarations c.args.m.now.declarations)))

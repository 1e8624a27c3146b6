use Rattle.std.proofs.Common.{ap, map, position, bytes_eq, cond, Some, None, ◌∙◌}
use Rattle.std.specs.Option.{option_or}
use Rattle.std.proofs.lemmas.List.{take_all}
use Rattle.slicc_plan.specs.Prelude.{is_named}
use Rattle.machine_table.specs.Prelude.{found_by}
use Rattle.machine_table.proofs.NumbersOfNames.{member_step}
use Rattle.machine_table.proofs.numbers.member_numbers.Goals as goal

pub loop-number-preserved : goal.loop-number-preserved
loop-number-preserved g c =
    let i = c.loop-number.number in
    λ text. member_step g.T.Member.declared c.args.members.now i c.index-members-number.result c.name.result.now text
    (found_by c.loop-number.numbers text) (found_by c.add.new.self text) c.loop-number-test.true c.index-members-number.is c.name.ensures (c.loop-number.invariant text)
    (c.in_ok-add.ensures text ∙ ap (λ name. option_or (found_by c.loop-number.numbers text) (cond (bytes_eq name text) (Some i) None)) c.as_slice.ensures)

pub returns : goal.returns
returns g c =
    λ text. c.loop-number.invariant text
    ∙ ap (λ ms. position (is_named text) (map g.T.Member.declared ms)) (take_all c.loop-number.number c.args.members.now c.loop-number-test.false)

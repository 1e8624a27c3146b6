use Rattle.std.proofs.Common.{◌∙◌, ap, flat_map}
use Rattle.slicc_plan.specs.Prelude.{first_after, changes_at, reached_changes, reading_calls}
use Rattle.slicc_flow.proofs.FirstOf.{first_of_two}
use Rattle.slicc_flow.proofs.changes.reading_changes.Goals as goal

pub returns : goal.returns
returns c =
    first_of_two c.args.first c.port_changes-first.result c.seen_changes.result
    (flat_map (changes_at c.args.machine) c.args.ports.now)
    (reached_changes c.args.machine c.args.functions.now (reading_calls c.args.ports.now c.args.asked.now) 0 c.args.functions.now)
    c.port_changes-first.ensures
    (c.seen_changes.ensures ∙ ap (λ xs. first_after c.port_changes-first.result (reached_changes c.args.machine c.args.functions.now xs 0 c.args.functions.now)) (c.deref-3.ensures ∙ c.in_ok-calls.ensures))

use Rattle.std.proofs.Common.{sym, ◌∙◌}
use Rattle.ruby_value.specs.Prelude.{same_number}
use Rattle.stall_map.specs.declared.stalled.Stalled.{Stalled}
use Rattle.stall_map.specs.Prelude.{waiting_of}
use Rattle.stall_map.proofs.Orders.{find-none, found}
use Rattle.stall_map.proofs.slots.find.Goals as goal

pub returns-in-Some : goal.returns-in-Some
returns-in-Some c =
    c.as_ref.ensures.value
    ∙ found c.args.slots.now.items c.args.number c.in-Some.at c.index.result.now c.requires.order c.in-Some.ensures (sym c.index.ensures)

pub returns-in-None : goal.returns-in-None
returns-in-None c = sym (find-none (λ (s : Stalled). same_number s.message.number c.args.number) (waiting_of c.args.slots.now.items) c.in-None.ensures)

-- The way arrives at its place after what was there, and nothing else changes.
use Rattle.std.proofs.Common.{◌≡◌, List, ◌∷◌, sym, subst}
use Rattle.action_code.specs.declared.arrivals.Arrival.{Arrival}
use Rattle.action_code.specs.Table.{Holds}
use Rattle.action_code.proofs.Places.{holds_arrive, table_after}
use Rattle.action_code.proofs.arrivals.arrive_at.Goals as goal

pub returns-clause-holds : goal.returns-clause-holds
returns-clause-holds c ways from holds =
    let is : c.replace-no_arrival.new.self ≡ table_after c.args.table.now c.args.to c.replace-before.result c.args.s = cc in
    let P : List Arrival → Type 0 = λ table. Holds table (record { to = c.args.to; shape = c.args.s } ∷ ways) from in
    subst P (sym is)
    (holds_arrive c.args.table.now c.args.to c.replace-before.result c.args.s c.requires c.replace-before.ensures.value ways from holds)

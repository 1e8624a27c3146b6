use Rattle.std.proofs.Common.{◌∙◌, refl, sym}
use Rattle.ruby_topology.proofs.Ends.{few_counts, few_members, no_seats_left}
use Rattle.ruby_topology.proofs.topology.with_paths.Goals as goal

pub seats-requires : goal.seats-requires
seats-requires c =
    few_members c.args.symbols.now c.args.said.now c.args.counts.now c.args.members.now c.requires.counts c.requires.members c.requires.room

pub returns-then-is_empty-clause-err : goal.returns-then-is_empty-clause-err
returns-then-is_empty-clause-err c = (
  refl,
  no_seats_left c.args.symbols.now c.args.said.now c.args.counts.now c.args.members.now c.in_ok-seats.seats c.args.paths
      c.requires.each c.requires.counts c.requires.members c.requires.paths c.in_ok-seats.ensures (sym c.is_empty.ensures ∙ c.if-is_empty.true),
)

pub routes-requires : goal.routes-requires
routes-requires c =
    few_members c.args.symbols.now c.args.said.now c.args.counts.now c.args.members.now c.requires.counts c.requires.members c.requires.room

pub with_parts-requires-clause-few : goal.with_parts-requires-clause-few
with_parts-requires-clause-few c =
    few_counts c.args.symbols.now c.args.said.now c.args.counts.now c.requires.counts c.requires.room

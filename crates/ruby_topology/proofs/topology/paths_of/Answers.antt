use Rattle.std.proofs.Common.{◌∙◌, length, refl, subst, sym}
use Rattle.ruby_topology.specs.Prelude.{IsNetworkWithin}
use Rattle.ruby_topology.proofs.Ends.{between_of, short_of}
use Rattle.ruby_topology.proofs.Totals.{network_within}
use Rattle.ruby_topology.proofs.topology.paths_of.Goals as goal

pub rows-paths-requires-clause-network : goal.rows-paths-requires-clause-network
rows-paths-requires-clause-network c =
    subst IsNetworkWithin (sym c.network_of.ensures) (network_within c.args.said.now c.requires.within)

pub rows-paths-requires-clause-between : goal.rows-paths-requires-clause-between
rows-paths-requires-clause-between c =
    between_of c.args.members.now c.args.said.now c.as_slice.result.now (length c.args.members.now) (c.as_slice.ensures ∙ c.in_ok-links.ensures) refl c.requires.within

pub rows-paths-requires-clause-steps : goal.rows-paths-requires-clause-steps
rows-paths-requires-clause-steps c =
    short_of c.args.members.now c.args.said.now c.as_slice.result.now (c.as_slice.ensures ∙ c.in_ok-links.ensures) c.requires.within

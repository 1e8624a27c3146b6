use Rattle.std.proofs.Common.{take}
use Rattle.ruby_world.specs.Prelude.{AreCountsOf, mail_in}
use Rattle.ruby_world.proofs.accounting.counts_of.Given as goal

abbrev pub invariant-loop-place : goal.invariant-loop-place
invariant-loop-place l = AreCountsOf (mail_in (take l.place-index l.places)) l.counts

use Rattle.std.proofs.Common.{◌≡◌, take}
use Rattle.slicc_plan.specs.Prelude.{first_after}
use Rattle.slicc_flow.proofs.FirstOf.{changes_in}
use Rattle.slicc_flow.proofs.changes.changes_of.Given as goal

abbrev pub invariant-loop-place : goal.invariant-loop-place
invariant-loop-place l =
    l.first ≡ first_after l.initial.first (changes_in l.machine (take l.place-index l.b.changes))

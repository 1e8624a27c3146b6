use Rattle.std.proofs.Common.{◌≡◌, drop, map, find}
use Rattle.slicc_plan.specs.Prelude.{first_named, member}
use Rattle.expression_types.proofs.fields.first_member.Given as goal

abbrev pub invariant-loop-m : goal.invariant-loop-m
invariant-loop-m l = first_named l.text (map member l.members) ≡ first_named l.text (map member (drop l.m-index l.members))

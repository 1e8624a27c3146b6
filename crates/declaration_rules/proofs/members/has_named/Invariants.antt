use Rattle.std.proofs.Common.{◌≡◌, drop, map}
use Rattle.slicc_plan.specs.Prelude.{is_among}
use Rattle.declaration_rules.proofs.members.has_named.Given as goal

abbrev pub invariant-loop-m : goal.invariant-loop-m
invariant-loop-m g l = is_among (map g.T.Named.text l.members) l.name ≡ is_among (map g.T.Named.text (drop l.m-index l.members)) l.name

use Rattle.std.proofs.Common.{◌≡◌, ◌++◌, map, take}
use Rattle.protocol_symbols.proofs.names.add_texts.Given as goal

abbrev pub invariant-loop-m : goal.invariant-loop-m
invariant-loop-m g l = l.list ≡ l.initial.list ++ map g.T.Named.text (take l.m-index l.members)

use Rattle.std.proofs.Common.{◌≡◌, take, length}
use Rattle.declared_types.specs.Lent.{texts_of}
use Rattle.declared_types.specs.Prelude.{IsIndexed}
use Rattle.declared_types.proofs.table.add_firsts.Given as goal

abbrev pub invariant-loop-number : goal.invariant-loop-number
invariant-loop-number l = record {
  same_length : length l.firsts ≡ length l.names;
  indexed : IsIndexed l.names l.firsts (texts_of (take l.number l.declarations));
}

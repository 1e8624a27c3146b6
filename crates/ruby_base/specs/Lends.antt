-- What a list ends as where one of its elements is lent to be written: the list with what was written last in that
-- place, or the list as it was where there was no such element.
use Rattle.std.specs.Prelude.{ℕ, List, Option, slice_set}
use Rattle.std.specs.Borrow.{LendsIf, Fml, RattleType, MutBor}
use Rattle.ruby_base.specs.contracts.seq.Seq.{the_row}

abbrev pub LendsItem : (T : RattleType) → MutBor (List T.Denot) → ℕ → Option (MutBor T.Denot) → Fml
LendsItem T s index r = LendsIf (the_row T) T s r (slice_set s.now index) s.now

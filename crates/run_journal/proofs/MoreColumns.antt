-- Columns that go on where others end: what a row says stays.
use Rattle.std.proofs.Common.{◌≡◌, ◌++◌, List, length, get_or, ap, ◌∙◌, arith, length-append}
use Rattle.std.proofs.lemmas.List.{get_or_append_left}
use Rattle.run_journal.specs.Columns.{GoesOn}

pub stays : {X : Type 0} (old new : List X) → new ≡ old → GoesOn old new
stays old new is = record {
  no_shorter = omega (arith, ap (λ xs. length xs) is);
  same = λ k d l. ap (λ xs. get_or xs k d) is;
}

pub goes_on : {X : Type 0} (old more new : List X) → new ≡ old ++ more → GoesOn old new
goes_on old more new is = record {
  no_shorter = omega (arith, ap (λ xs. length xs) is ∙ length-append old more);
  same = λ k d l. ap (λ xs. get_or xs k d) is ∙ get_or_append_left old more d k l;
}

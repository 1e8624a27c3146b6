use Rattle.std.proofs.Common.{◌≡◌, ℕ, length, map, option_and_then, slice_get, take}
use Rattle.slicc_plan.specs.Buffers.{listed}
use Rattle.pair_table.specs.Prelude.{answer_of}
use Rattle.machine_table.specs.Prelude.{rows_of_found}
use Rattle.machine_table.proofs.making.tables_among.Given as goal

abbrev pub invariant-loop-m : goal.invariant-loop-m
invariant-loop-m l = record {
  count : length l.tables ≡ l.m-index;
  agree : (n s e : ℕ) → rows_of_found (slice_get (map (λ m. m.now) (take l.m-index l.machines)) n) s e ≡ listed (option_and_then (answer_of s e) (slice_get l.tables n));
}

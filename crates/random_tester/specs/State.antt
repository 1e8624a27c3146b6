-- The random tester between two turns: where its stream of random words stands, how many checks have to pass, after how many
-- cycles an outstanding request is a deadlock, a slot for each line from 0 on, and how many checks have passed.
use Rattle.std.specs.Prelude.{ℕ, List, length, replicate, slice_set}
use Rattle.pcg_words.specs.Prelude.{Position, next_position}
use Rattle.random_tester.specs.declared.slot.Slot.{Slot}
use Rattle.random_tester.specs.Slot.{fresh_slot}

pub record State : Type 0 where
  pub words : Position
  pub checks : ℕ
  pub deadlock : ℕ
  pub slots : List Slot
  pub passed : ℕ

-- as it is made: no word is drawn, and no slot has stored a byte
abbrev pub made : ℕ → ℕ → ℕ → ℕ → ℕ → State
made seed stream lines checks deadlock = record {
  words = record { seed = seed; stream = stream; drawn = 0 };
  checks = checks;
  deadlock = deadlock;
  slots = replicate lines fresh_slot;
  passed = 0;
}

-- as this one was made
abbrev pub opening : State → State
opening t = made t.words.seed t.words.stream (length t.slots) t.checks t.deadlock

abbrev pub with_slot : State → ℕ → Slot → State
with_slot t line s = record t { slots = slice_set t.slots line s }

-- with one more word drawn
abbrev pub drawn_on : State → State
drawn_on t = record t { words = next_position t.words }

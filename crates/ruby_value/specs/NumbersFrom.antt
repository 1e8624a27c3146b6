-- The numbers that an actor gives to n messages one after another, where it has sent this many before.
use Rattle.std.specs.Prelude.{ℕ, zero, suc, List, [], ◌∷◌, ◌+◌}
use Rattle.ruby_value.specs.declared.message.MsgNo.{MsgNo}

abbrev pub numbers_from : ℕ → ℕ → ℕ → List MsgNo
numbers_from sender count zero = []
numbers_from sender count (suc n) = record { sender = sender; count = count } ∷ numbers_from sender (count + 1) n

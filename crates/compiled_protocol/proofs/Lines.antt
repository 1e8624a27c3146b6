-- A byte address is in its line.
use Rattle.std.proofs.Common.{◌≡◌, ◌/◌, ◌<◌, ◌^◌, ℕ, arith}
use Rattle.ruby_value.specs.Prelude.{line_of}

pub line_is : (address : ℕ) → address < 2 ^ 64 → address / 64 ≡ line_of address
line_is address small = omega arith

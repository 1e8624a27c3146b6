-- The latencies that a message may be given: 1 to 1,000,000 cycles. The bound is this project's own.
use Rattle.std.specs.Prelude.{Bool, false, ℤ, pos, negsuc, ◌&&◌, nat_le}

abbrev pub is_latency : ℤ → Bool
is_latency (pos n) = nat_le 1 n && nat_le n 1000000
is_latency (negsuc n) = false

use Rattle.std.proofs.Common.{◌≡◌, ◌<◌, ℕ, false}
use Rattle.std.specs.Str.{bytes_eq}
use Rattle.ruby_topology.specs.Prelude.{controller_name}
use Rattle.ruby_topology.proofs.members.index_named.Given as goal

abbrev pub invariant-loop-index : goal.invariant-loop-index
invariant-loop-index l = (k : ℕ) → k < l.index → bytes_eq (controller_name l.machine k) l.text ≡ false

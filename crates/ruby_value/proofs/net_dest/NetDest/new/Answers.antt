use Rattle.std.proofs.Common.{refl}
use Rattle.ruby_value.proofs.Words.{no_bits}
use Rattle.ruby_value.proofs.net_dest.NetDest.new.Goals as goal

pub returns : goal.returns
returns c = rw (no_bits, c.new.ensures) refl

use Rattle.std.proofs.Common.{◌≡◌, take, map}
use Rattle.ruby_symbols.specs.declared.machine.BufferSymbol.{BufferSymbol}
use Rattle.slicc_flow.proofs.sends.places_of.Given as goal

abbrev pub invariant-loop-b : goal.invariant-loop-b
invariant-loop-b l = l.list ≡ map (λ (b : BufferSymbol). b.place) (take l.b-index l.own.buffers)

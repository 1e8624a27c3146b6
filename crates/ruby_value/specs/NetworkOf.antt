-- The virtual network that a buffer is on, if it is on one.
use Rattle.std.specs.Prelude.{ℕ, Option, None, Some}
use Rattle.ruby_value.specs.declared.setup.BufferPlace.{BufferPlace}
use Rattle.ruby_value.specs.declared.setup.BufferPlace.TheVariants as place

abbrev pub network_of : BufferPlace → Option ℕ
network_of place.Local = None
network_of (place.To network destination) = Some network
network_of (place.From network) = Some network

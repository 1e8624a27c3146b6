-- The ranges of a topology's numbers, which are this project's own.
use Rattle.std.specs.Prelude.{ℕ, ◌≤◌, ◌*◌, pos, ◌≤ℤ◌}
use Rattle.ruby_topology.specs.declared.forms.Network.{Network as NetworkOf}
use Rattle.ruby_topology.specs.declared.forms.Network.TheVariants.{PointToPoint, Crossbar, Mesh, Links}
use Rattle.ruby_topology.specs.declared.forms.Statement.{Statement}
use Rattle.ruby_topology.specs.declared.forms.Statement.TheVariants.{Machine, Network, Link, Jitter, Ordered, Cache, Tbes, Size, Set}

abbrev pub longest_step : ℕ
longest_step = 1000

abbrev pub IsNetworkWithin : NetworkOf → Type 0
IsNetworkWithin (PointToPoint length) = length ≤ longest_step
IsNetworkWithin (Crossbar length) = length ≤ longest_step
IsNetworkWithin (Mesh rows columns length) =
    (1 ≤ rows) × (rows ≤ 64) × (1 ≤ columns) × (columns ≤ 64) × (length ≤ longest_step)
IsNetworkWithin Links = Unit {0}

abbrev pub IsWithin : Statement → Type 0
IsWithin (Machine machine count) = (1 ≤ count) × (count ≤ 64)
IsWithin (Network network) = IsNetworkWithin network
IsWithin (Link one other length) = length ≤ longest_step
IsWithin (Jitter jitter) = jitter ≤ 1000
IsWithin (Ordered network) = network ≤ 15
IsWithin (Cache machine table sets ways) = (1 ≤ sets) × (1 ≤ ways) × (sets * ways ≤ 65536)
IsWithin (Tbes machine table entries) = (1 ≤ entries) × (entries ≤ 256)
IsWithin (Size machine buffer slots) = slots ≤ 65536
IsWithin (Set machine value number) = pos 0 ≤ℤ number

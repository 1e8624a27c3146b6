-- The topology that the lines of a file say, and why there is none. The lines say it only where none breaks a rule, each machine
-- has a line, any two controllers have a path, and some controller can be asked by a driver. What isn't said has its default: a
-- network `pt2pt 1`, no jitter, and no buffer has a size. The form of a topology is this project's own.
use Rattle.std.specs.Prelude.{ℕ, ◌≡◌, ◌+◌, ◌==◌, ◌&&◌, ◌||◌, Bool, true, false, cond, nat_lt, ℤ, Option, None, Some, Ok, Err, List, [], ◌∷◌, ◌++◌, is_none, is_some, length, map, option_and_then, position, slice_get, unwrap_or}
use Rattle.std.specs.List.{enumerate_from, filter_map, list_any, range_with_len}
use Rattle.std.specs.Option.{option_map_or}
use Rattle.ctl_face.specs.declared.routes.Routes.{Routes}
use Rattle.ruby_value.specs.declared.setup.BufferPlace.{BufferPlace}
use Rattle.ruby_value.specs.declared.setup.BufferPlace.TheVariants as place
use Rattle.ruby_value.specs.declared.setup.Sizes.{Sizes}
use Rattle.ruby_symbols.specs.declared.machine.BufferSymbol.{BufferSymbol}
use Rattle.ruby_symbols.specs.declared.machine.MachineSymbols.{MachineSymbols}
use Rattle.ruby_symbols.specs.declared.symbols.Symbols.{Symbols}
use Rattle.ruby_symbols.specs.Prelude.{mandatory, takes_requests, number_of}
use Rattle.ruby_topology.specs.declared.forms.TheConstants.{T5_NO_LINE, T7_NO_PATH, T8_NO_SEAT}
use Rattle.ruby_topology.specs.declared.forms.Link.{Link as LinkOf}
use Rattle.ruby_topology.specs.declared.forms.Member.{Member}
use Rattle.ruby_topology.specs.declared.forms.Network.{Network}
use Rattle.ruby_topology.specs.declared.forms.Network.TheVariants.{PointToPoint}
use Rattle.ruby_topology.specs.declared.forms.Statement.{Statement}
use Rattle.ruby_topology.specs.declared.forms.Statement.TheVariants.{Link, Cache, Tbes, Size, Set}
use Rattle.ruby_topology.specs.declared.topology.Seat.{Seat}
use Rattle.ruby_topology.specs.declared.topology.Topology.{Topology}
use Rattle.ruby_topology.specs.Lines.{reading}
use Rattle.ruby_topology.specs.Members.{controller_name, count_or_none, machine_name}
use Rattle.ruby_topology.specs.Paths.{AreRows, HasIsland}
use Rattle.ruby_topology.specs.Said.{count_of, is_member, is_ordered_said, jitter_said, network_said}
use Rattle.ruby_topology.specs.Text.{lines_of}

-- Controllers.

-- how many each machine has
abbrev pub counts_of : Symbols → List Statement → List ℕ
counts_of symbols said = map (count_or_none said) (range_with_len 0 (length symbols.machines))

-- the first controller of each machine and how many it has, from this number on
abbrev pub ranges_from : ℕ → List ℕ → List (ℕ × ℕ)
ranges_from first [] = []
ranges_from first (count ∷ counts) = (first, count) ∷ ranges_from (first + count) counts

abbrev pub members_of : ℕ → ℕ → List Member
members_of machine count = map (λ index. record { machine = machine; index = index }) (range_with_len 0 count)

-- all controllers in the order of their numbers, from this machine on
abbrev pub members_from : ℕ → List ℕ → List Member
members_from machine [] = []
members_from machine (count ∷ counts) = members_of machine count ++ members_from (machine + 1) counts

abbrev pub name_of : Symbols → Member → List ℕ
name_of symbols c = controller_name (machine_name symbols c.machine) c.index

-- Links between controllers by their numbers.

abbrev pub number_in : List Member → Member → Option ℕ
number_in members c = position (is_member c) members

abbrev pub link_in : List Member → Statement → Option LinkOf
link_in members (Link one other length) =
    option_and_then (λ a. option_and_then (λ b. Some (record { one = a; other = b; length = length })) (number_in members other))
    (number_in members one)
link_in members _ = None

abbrev pub links_of : List Member → List Statement → List LinkOf
links_of members said = filter_map (link_in members) said

abbrev pub network_of : List Statement → Network
network_of said = unwrap_or (network_said said) (PointToPoint 1)

-- Buffers on virtual networks.

abbrev pub is_from : ℕ → BufferPlace → Bool
is_from network (place.From n) = n == network
is_from network _ = false

abbrev pub is_on : ℕ → BufferPlace → Bool
is_on network place.Local = false
is_on network (place.To n receivers) = n == network
is_on network (place.From n) = n == network

-- the number of the buffer that takes the messages of a virtual network at the controllers of a machine
abbrev pub receiving_at : Symbols → ℕ → ℕ → Option ℕ
receiving_at symbols machine network =
    option_and_then (λ (m : MachineSymbols). number_of (λ (b : BufferSymbol). is_from network b.place) m.buffers)
    (slice_get symbols.machines machine)

abbrev pub receiving_of : Symbols → ℕ → List (Option ℕ)
receiving_of symbols machine = map (receiving_at symbols machine) (range_with_len 0 16)

abbrev pub calls_ordered : ℕ → BufferSymbol → Bool
calls_ordered network b = b.ordered && is_on network b.place

abbrev pub has_ordered : ℕ → MachineSymbols → Bool
has_ordered network m = list_any (calls_ordered network) m.buffers

-- a line says that the network keeps order, or some buffer on it is called ordered
abbrev pub is_ordered_on : Symbols → List Statement → ℕ → Bool
is_ordered_on symbols said network = is_ordered_said said network || list_any (has_ordered network) symbols.machines

-- Slots: the buffers with a size, controller by controller in the order of their numbers, and at each in the order of the lines of its
-- machine. A line with 0 slots gives no size.

abbrev pub slot_in : (controller machine : ℕ) → Statement → Option (ℕ × ℕ × ℕ)
slot_in controller machine (Size m buffer slots) = cond ((m == machine) && nat_lt 0 slots) (Some (controller, buffer, slots)) None
slot_in controller machine _ = None

-- of these controllers, of which the first has this number
abbrev pub slots_from : List Statement → (controller : ℕ) → List Member → List (ℕ × ℕ × ℕ)
slots_from said controller [] = []
slots_from said controller (c ∷ members) =
    filter_map (slot_in controller c.machine) said ++ slots_from said (controller + 1) members

-- Sizes of a machine.

abbrev pub cache_of : ℕ → Statement → Option (ℕ × ℕ × ℕ)
cache_of machine (Cache m table sets ways) = cond (m == machine) (Some (table, sets, ways)) None
cache_of machine _ = None

abbrev pub tbes_of : ℕ → Statement → Option (ℕ × ℕ)
tbes_of machine (Tbes m table entries) = cond (m == machine) (Some (table, entries)) None
tbes_of machine _ = None

abbrev pub value_of : ℕ → Statement → Option (ℕ × ℤ)
value_of machine (Set m value number) = cond (m == machine) (Some (value, number)) None
value_of machine _ = None

abbrev pub sizes_of : List (ℕ × ℕ) → List Statement → ℕ → Sizes
sizes_of ranges said machine =
    record {
      caches = filter_map (cache_of machine) said;
      tbes = filter_map (tbes_of machine) said;
      parameters = filter_map (value_of machine) said;
      machines = ranges;
    }

-- Seats: the controllers of machines with a sequencer and a buffer of their own `mandatoryQueue`.

abbrev pub can_be_asked : MachineSymbols → Bool
can_be_asked m = is_some m.sequencer && is_some (mandatory m)

abbrev pub is_seat : Symbols → ℕ → Bool
is_seat symbols machine = option_map_or can_be_asked (slice_get symbols.machines machine) false

abbrev pub seat_of : Symbols → ℕ × Member → Option Seat
seat_of symbols n = cond (is_seat symbols n.1.machine) (Some (record { controller = n.0; sequencer = true })) None

abbrev pub seats_of : Symbols → List Member → List Seat
seats_of symbols members = filter_map (seat_of symbols) (enumerate_from 0 members)

-- The whole.

-- the routes between these controllers but for their paths, which are given
pub record HasRoutes (symbols : Symbols) (said : List Statement) (members : List Member) (paths : List (List ℕ)) (routes : Routes) : Type 0 where
  pub paths_are : routes.paths ≡ paths
  pub jitter : routes.jitter ≡ unwrap_or (jitter_said said) 0
  pub ordered : routes.ordered ≡ map (is_ordered_on symbols said) (range_with_len 0 16)
  pub receiving : routes.receiving ≡ map (λ (c : Member). receiving_of symbols c.machine) members
  pub slots : routes.slots ≡ slots_from said 0 members

-- the parts of a topology but its seats, for so many controllers of each machine
pub record HasParts (symbols : Symbols) (said : List Statement) (counts : List ℕ) (t : Topology) : Type 0 where
  pub counts_are : t.counts ≡ counts
  pub names : t.names ≡ map (name_of symbols) (members_from 0 counts)
  pub paths :
      let members = members_from 0 counts in
      AreRows (network_of said) (links_of members said) (length members) t.routes.paths
  pub routes : HasRoutes symbols said (members_from 0 counts) t.routes.paths t.routes
  pub sizes : t.sizes ≡ map (sizes_of (ranges_from 0 counts) said) (range_with_len 0 (length symbols.machines))

abbrev pub lacks_line : Symbols → List Statement → Bool
lacks_line symbols said = list_any (λ machine. is_none (count_of said machine)) (range_with_len 0 (length symbols.machines))

-- the controllers of a file whose lines say this
abbrev pub members_said : Symbols → List Statement → List Member
members_said symbols said = members_from 0 (counts_of symbols said)

abbrev pub HasIslandSaid : Symbols → List Statement → Type 0
HasIslandSaid symbols said =
    let members = members_said symbols said in HasIsland (network_of said) (links_of members said) (length members)

-- it is the topology of a file whose lines say this
pub record IsTopologySaid (symbols : Symbols) (said : List Statement) (t : Topology) : Type 0 where
  pub each_machine : lacks_line symbols said ≡ false
  pub parts : HasParts symbols said (counts_of symbols said) t
  pub seats : t.seats ≡ seats_of symbols (members_said symbols said)
  pub some_seat : t.seats ≡ [] → ⊥

-- the least rule that all lines together break
pub data IsLackingSaid (symbols : Symbols) (said : List Statement) (rule : ℕ) : Type 0 where
  no_line : rule ≡ T5_NO_LINE → lacks_line symbols said ≡ true → IsLackingSaid symbols said rule
  no_path : rule ≡ T7_NO_PATH → lacks_line symbols said ≡ false → HasIslandSaid symbols said → IsLackingSaid symbols said rule
  no_seat : rule ≡ T8_NO_SEAT → lacks_line symbols said ≡ false → (HasIslandSaid symbols said → ⊥)
      → seats_of symbols (members_said symbols said) ≡ [] → IsLackingSaid symbols said rule

-- it is the topology of a file
pub record IsTopologyOf (symbols : Symbols) (bytes : List ℕ) (t : Topology) : Type 0 where
  pub said : List Statement
  pub is_said : reading symbols (lines_of bytes) ≡ Ok said
  pub topology : IsTopologySaid symbols said t

-- a file is no topology, by this rule at this line: the first line that breaks one, and the least that it breaks; what no line
-- breaks but all together is told at the line after the last
pub data IsRefused (symbols : Symbols) (bytes : List ℕ) (rule line : ℕ) : Type 0 where
  at_line : reading symbols (lines_of bytes) ≡ Err (rule, line) → IsRefused symbols bytes rule line
  after_last : (said : List Statement) → reading symbols (lines_of bytes) ≡ Ok said → line ≡ length (lines_of bytes) + 1
      → IsLackingSaid symbols said rule → IsRefused symbols bytes rule line

-- A plain run: one machine with one controller, which a driver asks through its own buffer `mandatoryQueue`, on which a port of
-- type `RubyRequest` is. All else has its default, so no buffer has a size.

abbrev pub can_be_plain : Symbols → Bool
can_be_plain symbols =
    (length symbols.machines == 1) && option_map_or (takes_requests symbols) (slice_get symbols.machines 0) false

pub record IsPlainOf (symbols : Symbols) (t : Topology) : Type 0 where
  pub can : can_be_plain symbols ≡ true
  pub parts : HasParts symbols [] (1 ∷ []) t
  pub seats : t.seats ≡ record { controller = 0; sequencer = false } ∷ []

-- it is told at line 0 where a protocol has no plain run
pub record IsRefusedPlain (symbols : Symbols) (rule line : ℕ) : Type 0 where
  pub cannot : can_be_plain symbols ≡ false
  pub is_rule : rule ≡ T8_NO_SEAT
  pub is_line : line ≡ 0

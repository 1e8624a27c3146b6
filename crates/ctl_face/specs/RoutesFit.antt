-- What it means that routes fit: of a whole run, with all machines of its protocol and the numbers of their controllers, and of one
-- controller, as far as what it keeps goes by them: that its copies reach buffers that take them asks for the routes of the whole
-- run, and that its sends keep an order that a receiver's buffer alone asks for, too. `InRun.antt` joins the two.
-- The controllers are numbered in the order of their machines, 64 of them at most. There is a path from each to each, and the one to
-- itself takes no cycle. A network keeps order where some buffer of the protocol is called ordered, as it may also where the
-- topology says so. The buffer that takes a network's messages at a controller is the one of its machine from that network, if there
-- is one, so a machine has at most one; a number that is no controller's takes none. Buffers on one network have messages of the
-- same fields, whatever their machines. A buffer with a size is one that a controller takes messages from, and has one size. The
-- numbering, and the limits of controllers, paths, jitter and sizes, are this project's own.
use Rattle.std.specs.Prelude.{◌≡◌, ◌<◌, ◌≤◌, ◌+◌, ℕ, true, List, [], ◌∷◌, Option, None, Some, length, slice_get, IsTrue, IfSome, IsSomeAnd}
use Rattle.std.specs.List.{All, AllPairs}
use Rattle.std.specs.Option.{option_flatten}
use Rattle.ruby_value.specs.declared.setup.BufferPlace.TheVariants as place
use Rattle.ruby_value.specs.declared.setup.BufferPlace.{BufferPlace}
use Rattle.ruby_value.specs.declared.setup.BufferSetup.{BufferSetup}
use Rattle.ruby_value.specs.declared.setup.MachineSetup.{MachineSetup}
use Rattle.ctl_face.specs.declared.routes.Routes.{Routes}
use Rattle.ctl_face.specs.IsMachine.{AgreeOnType, network_count}
use Rattle.ruby_value.specs.Prelude.{network_of}
use Rattle.ctl_face.specs.OfMachine.{buffer_place}
use Rattle.ctl_face.specs.Routing.{is_ordered, path_to, receiving_buffer, slot_buffer, slot_receiver, slot_size}
use Rattle.ctl_face.specs.Served.{receives}

abbrev pub longest_path : ℕ
longest_path = 126000

abbrev pub most_jitter : ℕ
most_jitter = 1000

abbrev pub most_controllers : ℕ
most_controllers = 64

abbrev pub most_slots : ℕ
most_slots = 65536

pub record AreWithinLimits (routes : Routes) : Type 0 where
  pub controllers : length routes.receiving ≤ most_controllers
  pub all_networks : length routes.ordered ≡ network_count
  pub paths : All (All (λ path. path ≤ longest_path)) routes.paths
  pub jitter : routes.jitter ≤ most_jitter
  pub sizes : All (λ s. slot_size s ≤ most_slots) routes.slots

-- the network of a buffer that is called ordered keeps order
abbrev pub KeepsOrder : Routes → BufferSetup → Type 0
KeepsOrder routes s = s.ordered ≡ true → IfSome (network_of s.place) (λ network. IsTrue (is_ordered routes network))

-- the buffer, if there is one, is from the network
abbrev pub IsFrom : MachineSetup → ℕ → Option ℕ → Type 0
IsFrom machine network buffer = IfSome buffer (λ b. buffer_place machine b ≡ Some (place.From network))

-- of a list of buffers by network, each is from its network
abbrev pub AreFrom : MachineSetup → List (Option ℕ) → Type 0
AreFrom machine buffers = (network : ℕ) → IsFrom machine network (option_flatten (slice_get buffers network))

-- the buffers that take the messages of networks at a controller of the machine
abbrev pub ReceivesFrom : MachineSetup → ℕ → Routes → Type 0
ReceivesFrom machine controller routes = (network : ℕ) → IsFrom machine network (receiving_buffer routes controller network)

-- a buffer of this number that is from a network is the one that takes the network's messages at the controller
abbrev pub IsNamed : BufferPlace → ℕ → ℕ → Routes → Type 0
IsNamed (place.From network) buffer controller routes = receiving_buffer routes controller network ≡ Some buffer
IsNamed _ buffer controller routes = Unit {0}

-- so is each of a machine's buffers
abbrev pub NamesBuffers : List BufferSetup → ℕ → Routes → Type 0
NamesBuffers buffers controller routes =
    (buffer : ℕ) → IfSome (slice_get buffers buffer) (λ (s : BufferSetup). IsNamed s.place buffer controller routes)

-- the buffers of two machines that are on one network agree
abbrev pub AgreeOnTypes : MachineSetup → MachineSetup → Type 0
AgreeOnTypes m other = All (λ a. All (AgreeOnType a) other.buffers) m.buffers

-- what one controller's acts need of the routes
pub record HasRoutes (machine : MachineSetup) (me : ℕ) (routes : Routes) : Type 0 where
  pub limits : AreWithinLimits routes
  pub own_path : path_to routes me me ≡ 0
  pub order : All (KeepsOrder routes) machine.buffers
  pub own_buffers : ReceivesFrom machine me routes
  pub own_named : NamesBuffers machine.buffers me routes

-- the controller is one of the machine of this number, by the first controller of each machine and how many it has
abbrev pub IsOfMachine : (ranges : List (ℕ × ℕ)) (machine controller : ℕ) → Type 0
IsOfMachine ranges machine controller =
    IsSomeAnd (slice_get ranges machine) (λ r. (r.0 ≤ controller) × (controller < r.0 + r.1))

-- the ranges follow on one another, from the first controller on; `free` is the next number
abbrev pub AreNumbered : (first free : ℕ) → List (ℕ × ℕ) → Type 0
AreNumbered first free [] = first ≡ free
AreNumbered first free (r ∷ ranges) = (r.0 ≡ first) × (1 ≤ r.1) × AreNumbered (first + r.1) free ranges

-- each machine has its range of controllers, and they are `total` in all
pub record AreRanges (machines : List MachineSetup) (ranges : List (ℕ × ℕ)) (total : ℕ) : Type 0 where
  pub each_machine : length ranges ≡ length machines
  pub numbered : AreNumbered 0 total ranges
  pub limit : total ≤ most_controllers

-- a table has as many rows, and each row as many items
pub record HasShape {A : Type 0} (rows items : ℕ) (table : List (List A)) : Type 0 where
  pub all_rows : length table ≡ rows
  pub all_items : All (λ row. length row ≡ items) table

-- at each controller of each machine
abbrev pub AtControllers : (machines : List MachineSetup) (ranges : List (ℕ × ℕ)) → (MachineSetup → ℕ → Type 0) → Type 0
AtControllers machines ranges P =
    (machine controller : ℕ) → IsOfMachine ranges machine controller → IfSome (slice_get machines machine) (λ m. P m controller)

-- messages are taken from the buffer: it is the machine's own, or from a network
abbrev pub IsReceiving : MachineSetup → ℕ → Type 0
IsReceiving machine buffer = IsTrue (receives (buffer_place machine buffer))

-- a buffer with a size is one of a controller, and messages are taken from it
pub record IsSlot (machines : List MachineSetup) (ranges : List (ℕ × ℕ)) (s : ℕ × ℕ × ℕ) : Type 0 where
  pub machine : ℕ
  pub of_machine : IsOfMachine ranges machine (slot_receiver s)
  pub receiving : IsSomeAnd (slice_get machines machine) (λ (m : MachineSetup). IsReceiving m (slot_buffer s))

abbrev pub IsSameBuffer : (a b : ℕ × ℕ × ℕ) → Type 0
IsSameBuffer a b = (slot_receiver a ≡ slot_receiver b) × (slot_buffer a ≡ slot_buffer b)

pub record RoutesFit (machines : List MachineSetup) (ranges : List (ℕ × ℕ)) (routes : Routes) : Type 0 where
  pub total : ℕ
  pub numbers : AreRanges machines ranges total
  pub paths : HasShape total total routes.paths
  pub receiving : HasShape total network_count routes.receiving
  pub limits : AreWithinLimits routes
  pub own_paths : (controller : ℕ) → path_to routes controller controller ≡ 0
  pub order : All (λ (m : MachineSetup). All (KeepsOrder routes) m.buffers) machines
  pub one_type : All (λ m. All (AgreeOnTypes m) machines) machines
  pub receivers : AtControllers machines ranges (λ m controller. ReceivesFrom m controller routes)
  pub named : AtControllers machines ranges (λ m controller. NamesBuffers m.buffers controller routes)
  pub slots : All (IsSlot machines ranges) routes.slots
  pub one_size : AllPairs (λ a b. ¬ (IsSameBuffer a b)) routes.slots

-- a number that is no controller's takes no messages, which follows
abbrev pub NobodyElseReceives : (ranges : List (ℕ × ℕ)) → Routes → Type 0
NobodyElseReceives ranges routes =
    (controller network : ℕ) → ((machine : ℕ) → ¬ (IsOfMachine ranges machine controller))
    → receiving_buffer routes controller network ≡ None

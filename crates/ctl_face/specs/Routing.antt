-- What the routes say of a send: the buffer that takes the messages of a virtual network at a controller, the length of
-- the path between two controllers in cycles, whether a network keeps the order of what one controller sends to
-- another, and the size of a buffer at a receiver, if it has one. A number that is no controller's has no buffer. Routes are this
-- project's form of gem5's topologies.
use Rattle.std.specs.Prelude.{ℕ, ◌==◌, ◌&&◌, Bool, false, Option, None, Some, length, slice_get, unwrap_or}
use Rattle.std.specs.List.{find}
use Rattle.std.specs.Option.{option_and_then, option_flatten, option_map}
use Rattle.ctl_face.specs.declared.routes.Routes.{Routes}

abbrev pub receiving_buffer : Routes → ℕ → ℕ → Option ℕ
receiving_buffer routes receiver network =
    option_and_then (λ buffers. option_flatten (slice_get buffers network)) (slice_get routes.receiving receiver)

-- from the sender to the receiver; none between two that the routes don't have
abbrev pub path_to : Routes → ℕ → ℕ → ℕ
path_to routes sender receiver =
    unwrap_or (option_and_then (λ paths. slice_get paths receiver) (slice_get routes.paths sender)) 0

abbrev pub is_ordered : Routes → ℕ → Bool
is_ordered routes network = unwrap_or (slice_get routes.ordered network) false

-- it is this buffer
abbrev pub is_buffer : ℕ → Option ℕ → Bool
is_buffer buffer None = false
is_buffer buffer (Some b) = b == buffer

abbrev pub controller_count : Routes → ℕ
controller_count routes = length routes.receiving

-- A buffer with a size: its controller, its number within the machine, and how many slots each sender has there.
abbrev pub slot_receiver : ℕ × ℕ × ℕ → ℕ
slot_receiver s = s.0

abbrev pub slot_buffer : ℕ × ℕ × ℕ → ℕ
slot_buffer s = s.1

abbrev pub slot_size : ℕ × ℕ × ℕ → ℕ
slot_size s = s.2

abbrev pub is_slot_of : (receiver buffer : ℕ) → ℕ × ℕ × ℕ → Bool
is_slot_of receiver buffer s = slot_receiver s == receiver && slot_buffer s == buffer

abbrev pub size_of : Routes → (receiver buffer : ℕ) → Option ℕ
size_of routes receiver buffer = option_map slot_size (find (is_slot_of receiver buffer) routes.slots)

-- The controllers of each machine of the protocol, as a controller keeps them: after its own parameters, in their table, stand for
-- each machine the number of its first controller and how many it has. A machine has controllers where these are 0 to 63 and 1 to 64.
-- For a number that is in several machines' ranges it is the first one's. That they are kept so is this project's own.
use Rattle.std.specs.Prelude.{ℕ, zero, suc, ℤ, pos, negsuc, ◌+◌, ◌-◌, ◌*◌, ◌%◌, Bool, true, false, ◌&&◌, Option, None, Some, List, nat_le, nat_lt, min, if◌then◌else◌}
use Rattle.ruby_value.specs.declared.value.Ref.{Ref}
use Rattle.ruby_value.specs.Prelude.{with_member}
use Rattle.acts.specs.Prelude.{Get, Acting, ends, ◌>>=◌, act, either}
use Rattle.built_in_acts.specs.declared.machines.KeptMachines.{KeptMachines}
use Rattle.built_in_acts.specs.declared.machines.Placed.{Placed}
use Rattle.built_in_acts.specs.declared.machines.Range.{Range}
use Rattle.built_in_acts.specs.Values.{number}

-- a number of 0 to 254; 255 counts for all others
abbrev pub small : ℤ → ℕ
small (pos n) = min n 255
small (negsuc n) = 255

-- two numbers, if they are such
abbrev pub range_of : ℕ → ℕ → Option Range
range_of first count = if nat_lt first 64 && nat_le 1 count && nat_le count 64 then Some (record { first = first; count = count }) else None

-- a number that is kept, by its place among them
unfoldable pub kept_number : KeptMachines → ℕ → Acting ℕ
kept_number kept place = act (Get (record { table = kept.table; line = 0 }) (kept.first + place)) >>= (λ v. ends (small (number v)))

-- the controllers of the machine of this number
unfoldable pub range_at : KeptMachines → ℕ → Acting (Option Range)
range_at kept machine =
    either (nat_lt machine kept.count)
    (kept_number kept (2 * machine) >>= (λ first. kept_number kept (2 * machine + 1) >>= (λ count. ends (range_of first count))))
    (ends None)

abbrev pub is_in : Option Range → ℕ → Bool
is_in None controller = false
is_in (Some r) controller = nat_le r.first controller && nat_lt (controller - r.first) r.count

abbrev pub index_in : Option Range → ℕ → ℕ
index_in None controller = 0
index_in (Some r) controller = controller - r.first

-- of n machines from one on the first that has the controller; none counts as the first machine's first
unfoldable pub placed_from : KeptMachines → ℕ → ℕ → ℕ → Acting Placed
placed_from kept controller zero machine = ends (record { machine = 0; index = 0 })
placed_from kept controller (suc n) machine =
    range_at kept machine
    >>= (λ r. either (is_in r controller) (ends (record { machine = machine; index = index_in r controller })) (placed_from kept controller n (machine + 1)))

unfoldable pub place_of : KeptMachines → ℕ → Acting Placed
place_of kept controller = placed_from kept controller kept.count 0

-- the controller of a machine that takes a line: by the line number modulo the count
abbrev pub home_in : ℕ → Option Range → ℕ
home_in line None = 0
home_in line (Some r) = r.first + line % r.count

-- n controllers more, from one on
abbrev pub with_numbers : List ℕ → ℕ → ℕ → List ℕ
with_numbers members first zero = members
with_numbers members first (suc n) = with_numbers (with_member members first) (first + 1) n

abbrev pub with_range : List ℕ → Option Range → List ℕ
with_range members None = members
with_range members (Some r) = with_numbers members r.first r.count

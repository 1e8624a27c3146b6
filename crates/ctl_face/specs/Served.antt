-- Which tables and buffers each call serves. A look-up and an allocation serve caches, directories and TBE tables; a
-- deallocation serves caches and TBE tables; the calls on places and on the order of use serve caches, and the count of
-- what is free serves TBE tables. Messages are taken from buffers that a port may stand on, and sent on those that an
-- out port may stand on. On a network's buffer whose message type names no receivers nobody gets a copy. Which calls a table
-- has is this project's profile of SLICC.
use Rattle.std.specs.Prelude.{ℕ, Bool, true, false, Option, None, Some, List, IsTrue, IsSome, IsSomeAnd, slice_get}
use Rattle.ruby_value.specs.declared.value.Value.{Value}
use Rattle.ruby_value.specs.declared.setup.BufferPlace.TheVariants as place
use Rattle.ruby_value.specs.declared.setup.BufferPlace.{BufferPlace}
use Rattle.ruby_value.specs.declared.setup.TableSize.TheVariants as size
use Rattle.ruby_value.specs.declared.setup.TableSize.{TableSize}
use Rattle.ruby_value.specs.Prelude.{has_kind, has_kinds}
use Rattle.ctl_face.specs.LocalView.{LocalView}
use Rattle.ctl_face.specs.OfMachine.{buffer_place, field_kinds, message_kinds, table_size}

abbrev pub is_cache : Option TableSize → Bool
is_cache (Some (size.Cache sets ways)) = true
is_cache _ = false

abbrev pub is_tbe_table : Option TableSize → Bool
is_tbe_table (Some (size.Tbe entries)) = true
is_tbe_table _ = false

abbrev pub looks_up : Option TableSize → Bool
looks_up (Some (size.Cache sets ways)) = true
looks_up (Some size.Directory) = true
looks_up (Some (size.Tbe entries)) = true
looks_up (Some size.Parameters) = false
looks_up None = false

abbrev pub deallocates : Option TableSize → Bool
deallocates (Some (size.Cache sets ways)) = true
deallocates (Some (size.Tbe entries)) = true
deallocates _ = false

abbrev pub receives : Option BufferPlace → Bool
receives (Some place.Local) = true
receives (Some (place.To network destination)) = false
receives (Some (place.From network)) = true
receives None = false

abbrev pub sends : Option BufferPlace → Bool
sends (Some place.Local) = true
sends (Some (place.To network destination)) = true
sends (Some (place.From network)) = false
sends None = false

-- the table is there and is one that the test names
abbrev pub Serves : (Option TableSize → Bool) → LocalView → ℕ → Type 0
Serves test v table = IsTrue (test (table_size v.machine table))

-- the lines of the table have the field, and it may hold the value
abbrev pub HasField : LocalView → ℕ → ℕ → Type 0
HasField v table field = IsSome (slice_get (field_kinds v.machine table) field)

abbrev pub TakesField : LocalView → ℕ → ℕ → Value → Type 0
TakesField v table field value = IsSomeAnd (slice_get (field_kinds v.machine table) field) (λ k. IsTrue (has_kind k value))

-- messages are taken from the buffer
abbrev pub Receives : LocalView → ℕ → Type 0
Receives v buffer = IsTrue (receives (buffer_place v.machine buffer))

-- messages are sent on the buffer, and these are the fields of one
abbrev pub Sends : LocalView → ℕ → Type 0
Sends v buffer = IsTrue (sends (buffer_place v.machine buffer))

abbrev pub TakesMessage : LocalView → ℕ → List Value → Type 0
TakesMessage v buffer fields = IsTrue (has_kinds (message_kinds v.machine buffer) fields)

-- the machine has the built-in map of states
abbrev pub HasStates : LocalView → Type 0
HasStates v = IsSome v.machine.default_state

-- The messages of a driver's requests and their numbers, and room for more of them: for each a list for its four fields, and places in
-- the lists of messages and of numbers. It is taken before the driver acts, since an act of the driver can't be undone.
use Rattle.std.specs.Prelude.{◌≡◌, ◌≤◌, ◌+◌, ℕ, [], length, vec_capacity, vec_len}
use Rattle.std.specs.List.{All}
use Rattle.std.specs.declared.alloc.Global.{Global}
use Rattle.std.specs.declared.vec.Vec.{Vec}
use Rattle.ruby_value.specs.declared.value.Value.{Value}
use Rattle.world_state.specs.declared.requests.Requests.{Requests}
use Rattle.world_state.specs.Turned.{numbers_of}

-- an empty list with room for the fields of a request
pub record IsFieldRoom (fields : Vec Value Global) : Type 0 where
  pub empty : fields.items ≡ []
  pub enough : vec_len fields + 4 ≤ vec_capacity fields

pub record HasRoomFor (more : ℕ) (r : Requests) : Type 0 where
  pub fields : All IsFieldRoom r.fields.items
  pub lists : more ≤ length r.fields.items
  pub messages : vec_len r.messages + more ≤ vec_capacity r.messages
  pub numbers : vec_len r.numbers + more ≤ vec_capacity r.numbers
  pub are_numbers : r.numbers.items ≡ numbers_of r.messages.items

-- What a program declares of a machine is what the machine is to its controllers: table by table the same sort of table and the same
-- kinds of fields, buffer by buffer the same kind of place and the same kinds of fields, and the built-in map of states or none. Where a
-- machine lacks the type of a table's lines or of a buffer's messages, there is no structure of that number, and they have no fields. Of a
-- machine that the program doesn't declare it has no tables and no buffers.
use Rattle.std.specs.Prelude.{◌≡◌, ℕ, Option, None, Some, is_some, slice_get}
use Rattle.ruby_value.specs.declared.setup.BufferPlace.{BufferPlace}
use Rattle.ruby_value.specs.declared.setup.BufferPlace.TheVariants as buffer_place
use Rattle.ruby_value.specs.declared.setup.BufferSetup.{BufferSetup}
use Rattle.ruby_value.specs.declared.setup.MachineSetup.{MachineSetup}
use Rattle.ruby_value.specs.declared.setup.TableSetup.{TableSetup}
use Rattle.ruby_value.specs.declared.setup.TableSize.{TableSize}
use Rattle.ruby_value.specs.declared.setup.TableSize.TheVariants as size
use Rattle.action_code.specs.declared.program.BufferDecl.{BufferDecl}
use Rattle.action_code.specs.declared.program.MachineDecl.{MachineDecl}
use Rattle.action_code.specs.declared.program.Place.{Place}
use Rattle.action_code.specs.declared.program.Place.TheVariants as place
use Rattle.action_code.specs.declared.program.Program.{Program}
use Rattle.action_code.specs.declared.program.TableDecl.{TableDecl}
use Rattle.action_code.specs.declared.program.TableSort.{TableSort}
use Rattle.action_code.specs.declared.program.TableSort.TheVariants as sort
use Rattle.action_code.specs.Prelude.{buffer_at, has_map, tables_of}
use Rattle.code_meaning.specs.Stepping.{kinds_of}

abbrev pub sort_of : TableSize → TableSort
sort_of (size.Cache sets ways) = sort.Cache
sort_of size.Directory = sort.Directory
sort_of (size.Tbe entries) = sort.Tbe
sort_of size.Parameters = sort.Parameters

abbrev pub place_of : BufferPlace → Place
place_of buffer_place.Local = place.Local
place_of (buffer_place.To network destination) = place.To
place_of (buffer_place.From network) = place.From

pub record IsTable (p : Program) (t : TableDecl) (s : TableSetup) : Type 0 where
  pub sort : t.sort ≡ sort_of s.size
  pub kinds : kinds_of p t.structure ≡ s.kinds

pub record IsBuffer (p : Program) (b : BufferDecl) (s : BufferSetup) : Type 0 where
  pub place : b.place ≡ place_of s.place
  pub kinds : kinds_of p b.message ≡ s.kinds

-- at each number there is a table, or a buffer, exactly where the program has one
abbrev pub IsTableAt : Program → Option TableDecl → Option TableSetup → Type 0
IsTableAt p None None = Unit {0}
IsTableAt p (Some t) (Some s) = IsTable p t s
IsTableAt p _ _ = ⊥

abbrev pub IsBufferAt : Program → Option BufferDecl → Option BufferSetup → Type 0
IsBufferAt p None None = Unit {0}
IsBufferAt p (Some b) (Some s) = IsBuffer p b s
IsBufferAt p _ _ = ⊥

pub record IsDeclared (p : Program) (m : Option MachineDecl) (setup : MachineSetup) : Type 0 where
  pub tables : (table : ℕ) → IsTableAt p (slice_get (tables_of m) table) (slice_get setup.tables table)
  pub buffers : (buffer : ℕ) → IsBufferAt p (buffer_at m buffer) (slice_get setup.buffers buffer)
  pub states : is_some setup.default_state ≡ has_map m

-- Where controllers keep the machines' numbers fits bounds: the machines whose controllers are looked for are members of the enumeration of
-- machines, with which the enumerations begin; each one's range of controllers is kept in the table of the machine's values, and its
-- numbers are those of controllers; and there is one controller at least.
use Rattle.std.specs.Prelude.{◌≡◌, ◌<◌, ◌≤◌, ◌+◌, ◌*◌, ℕ, Some, length, pos, slice_get}
use Rattle.ruby_value.specs.declared.value.Value.TheVariants.{Int}
use Rattle.built_in_acts.specs.declared.machines.KeptMachines.{KeptMachines}
use Rattle.protocol_meaning.specs.Prelude.{members_of}
use Rattle.protocol_meaning.proofs.Bounds.{Bounds}

module _ (b : Bounds) (kept : KeptMachines) where
  -- of the machine of this number
  pub record HasRange (machine : ℕ) : Type 0 where
    pub first : ℕ
    pub count : ℕ
    pub first_is : slice_get b.values (kept.first + 2 * machine) ≡ Some (Int (pos first))
    pub count_is : slice_get b.values (kept.first + (2 * machine + 1)) ≡ Some (Int (pos count))
    pub within : first + count ≤ b.extent.controllers

  pub record KeptWithin : Type 0 where
    pub table : kept.table ≡ b.table
    pub machines : kept.count ≤ length (members_of b.extent 0)
    pub ranges : (machine : ℕ) → machine < kept.count → HasRange machine
    pub some : 0 < b.extent.controllers

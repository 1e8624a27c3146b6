-- The structures of the lines of a machine's tables, found once.
use Rattle.std.specs.Prelude.{◌≡◌}
use Rattle.std.specs.Option.{option_copied}
use Rattle.slicc_plan.specs.Prelude.{directory_structure, entry_structure, tbe_structure}
use Rattle.body_types.specs.declared.lines.Lines.{Lines}

-- these are the structures of the machine
pub record AreLines (l : Lines) : Type 0 where
  pub entry : option_copied l.entry ≡ entry_structure l.machine.now
  pub directory : option_copied l.directory ≡ directory_structure l.machine.now
  pub tbe : option_copied l.tbe ≡ tbe_structure l.machine.now

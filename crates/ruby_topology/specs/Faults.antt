-- What holds of the rule and the line of a fault; of want of memory nothing is said.
use Rattle.std.specs.Prelude.{ℕ}
use Rattle.ruby_topology.specs.declared.forms.TopoFault.{TopoFault}
use Rattle.ruby_topology.specs.declared.forms.TopoFault.TheVariants.{Line, NoMemory}

abbrev pub ForLine : TopoFault → (ℕ → ℕ → Type 0) → Type 0
ForLine (Line rule line) P = P rule line
ForLine NoMemory P = Unit {0}

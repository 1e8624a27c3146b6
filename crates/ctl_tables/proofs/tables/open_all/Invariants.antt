use Rattle.std.proofs.Common.{◌≡◌, map, take}
use Rattle.ruby_value.specs.declared.setup.TableSetup.{TableSetup}
use Rattle.ctl_face.specs.Prelude.{opening_table}
use Rattle.ctl_tables.specs.Prelude.{table_of}
use Rattle.ctl_tables.proofs.tables.open_all.Given as goal

abbrev pub invariant-loop-setup : goal.invariant-loop-setup
invariant-loop-setup l = map table_of l.tables.items ≡ take l.setup-index (map (λ (s : TableSetup). opening_table s.size s.initial) l.setups)

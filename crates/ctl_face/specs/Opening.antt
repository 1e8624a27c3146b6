-- A controller as a run begins: empty caches and TBE tables, directories whose lines have their default fields, the
-- parameters with their values, no messages, no marks, no requests, no slots in use, and nothing counted yet.
use Rattle.std.specs.Prelude.{Bool, true, false, List, [], Option, None, Some, map, replicate}
use Rattle.std.specs.FinMap.{empty}
use Rattle.ruby_value.specs.declared.value.Value.{Value}
use Rattle.ruby_value.specs.declared.setup.MachineSetup.{MachineSetup}
use Rattle.ruby_value.specs.declared.setup.TableSetup.{TableSetup}
use Rattle.ruby_value.specs.declared.setup.TableSize.TheVariants as size
use Rattle.ruby_value.specs.declared.setup.TableSize.{TableSize}
use Rattle.ctl_face.specs.Ctl.{Ctl, Mail}
use Rattle.ruby_value.specs.Prelude.{Requests}
use Rattle.ctl_face.specs.IsMachine.{network_count}
use Rattle.ctl_face.specs.Table.{Table, CacheTable, DirectoryTable, TbeTable, ParameterTable}

abbrev pub opening_table : TableSize → List Value → Table
opening_table (size.Cache sets ways) initial = CacheTable (record { ways = ways; sets = replicate sets [] })
opening_table size.Directory initial = DirectoryTable (record { initial = initial; written = empty })
opening_table (size.Tbe entries) initial = TbeTable (record { entries = entries; held = empty })
opening_table size.Parameters initial = ParameterTable initial

abbrev pub no_requests : Bool → Option Requests
no_requests false = None
no_requests true = Some (record { outstanding = empty; finished = [] })

abbrev pub no_mail : Mail
no_mail = record {
  inbox = [];
  marks = [];
  sent = 0;
  drawn = 0;
  copies = 0;
  network_last = replicate network_count empty;
  local_last = empty;
  lent = [];
  credits = [];
}

abbrev pub opening_ctl : MachineSetup → Ctl
opening_ctl machine = record {
  tables = map (λ (s : TableSetup). opening_table s.size s.initial) machine.tables;
  states = empty;
  mail = no_mail;
  sequencer = no_requests machine.has_sequencer;
  fired = 0;
  stopped = false;
}

-- What the calls of a local require, act by act, in the words of the trait's clauses: that its machine serves the table or buffer that
-- the call names, that a line is one, and that a value or a message has the kinds that are declared.
use Rattle.ruby_value.specs.Prelude.{IsLine}
use Rattle.ctl_face.specs.Prelude.{LocalView, HasField, HasStates, Receives, Sends, Serves, TakesField, TakesMessage, deallocates, is_cache, is_tbe_table, looks_up}
use Rattle.acts.specs.Act.{Act, Now, Me, Get, Set, Lookup, Avail, Probe, Allocate, Deallocate, Touch, Free, Ready, Front, Pop, Stall, Wake, WakeAll, Recycle, Send, Slots, ReadBack, WriteBack, State, SetState, Again}

abbrev pub Required : LocalView → Act → Type 0
Required v Now = Unit {0}
Required v Me = Unit {0}
Required v (Get r field) = HasField v r.table field × IsLine r.line
Required v (Set r field value) = TakesField v r.table field value × IsLine r.line
Required v (Lookup table line) = Serves looks_up v table × IsLine line
Required v (Avail table line) = Serves is_cache v table × IsLine line
Required v (Probe table line) = Serves is_cache v table × IsLine line
Required v (Allocate table line) = Serves looks_up v table × IsLine line
Required v (Deallocate table line) = Serves deallocates v table × IsLine line
Required v (Touch table line) = Serves is_cache v table × IsLine line
Required v (Free table) = Serves is_tbe_table v table
Required v (Ready buffer) = Receives v buffer
Required v (Front buffer) = Receives v buffer
Required v (Pop buffer) = Receives v buffer
Required v (Stall buffer line) = Receives v buffer × IsLine line
Required v (Wake line) = IsLine line
Required v WakeAll = Unit {0}
Required v (Recycle buffer latency) = Receives v buffer
Required v (Send buffer latency fields) = Sends v buffer × TakesMessage v buffer fields
Required v (Slots buffer) = Sends v buffer
Required v (ReadBack line block) = IsLine line
Required v (WriteBack line block) = IsLine line
Required v (State line) = HasStates v × IsLine line
Required v (SetState line state) = HasStates v × IsLine line
Required v Again = Unit {0}

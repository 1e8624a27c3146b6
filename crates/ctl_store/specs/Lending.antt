-- How a store lends its sequencer: once the borrow is over, the store is as it was, but that its sequencer is what was left there.
use Rattle.std.specs.Prelude.{Option, Some}
use Rattle.std.specs.Borrow.{Fml, LendsIf, MutBor}
use Rattle.ruby_value.specs.Prelude.{Roomy, Requests}
use Rattle.sequencer.specs.contracts.sequencer.Sequencer as sequencer_type
use Rattle.ctl_store.specs.contracts.store.Store as store_type
use Rattle.ctl_store.specs.declared.parts.Parts.{Parts}

abbrev pub with_sequencer : Parts → Roomy Requests → Parts
with_sequencer p s = record p { sequencer = Some s }

abbrev pub LendsSequencer : MutBor Parts → Option (MutBor (Roomy Requests)) → Fml
LendsSequencer store lent =
    LendsIf store_type.the_row sequencer_type.the_row store lent (with_sequencer store.now) store.now

use Rattle.rules_symbols.proofs.Standing.{buffer_stands, nothing_stands, reference_stands, sequencer_stands, table_stands, value_stands}
use Rattle.rules_symbols.proofs.named.names_stand_for_what_is_declared.Goals as goal

pub returns : goal.returns
returns c = record {
  tables = λ trees k m text d made accepted at there named is. table_stands trees accepted k m at text d made there named is;
  values = λ trees k m text d made accepted at there named is. value_stands trees accepted k m at text d made there named is;
  references = λ trees k m text d made accepted at there named is. reference_stands trees accepted k m at text d made there named is;
  buffers = λ trees k m text d made accepted at there named is. buffer_stands trees accepted k m at text d made there named is;
  sequencer = λ trees k m text d accepted at there named is. sequencer_stands trees accepted k m at text d there named is;
  nothing = λ trees k m text accepted at none. nothing_stands trees accepted k m at text none;
}

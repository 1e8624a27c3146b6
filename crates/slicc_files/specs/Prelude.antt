-- The definitions that other files name, from one place.
pub use Rattle.slicc_files.specs.Gathering.{AreAllowed, AreShort, IsAllowed, IsGathered, IsGatheredBy, IsGatheredFrom, IsGatheredOver, IsNext, is_seen, most_files, read_of, refusal, source_of, wanted_by, wanted_of}
pub use Rattle.slicc_files.specs.Gathering.IsGathered.{absent, failed, finished, no_memory, no_memory_for, one_too_many, passed_by, refused, too_large, too_long, went_on}
pub use Rattle.slicc_files.specs.Names.{folder_of, interfaces, is_no_slash}
pub use Rattle.slicc_files.specs.Reads.{AreGiven, AreMade, AreOfOneNameEach, MayBeGiven, Read, file_limit, given, given_for}
pub use Rattle.slicc_files.specs.Steps.{AreSound, EndsBy, GoesOnBy, IsBegun, IsRefusalOf, IsRefusedFor, IsShort, IsSound, IsTakenIn, Leads, in_order, steps_left}
pub use Rattle.slicc_files.specs.Texts.{IsReadText, IsReadTokens, IsTextFault, IsTokensFault, broken_at, broken_by, code_of, fault_of}
pub use Rattle.slicc_files.specs.Texts.IsReadText.{has_no_tokens, has_tokens}
pub use Rattle.slicc_files.specs.Texts.IsReadTokens.{has_a_bad_token, nests_too_deep, spells_a_tree}

use Rattle.std.proofs.Common.{◌∷◌, []}
use Rattle.slicc_ast.specs.Prelude.{named_end, ◌▸◌, of, plain_name, machine_type, other_name}
use Rattle.slicc_reading.proofs.Parts.{behind_read, match_map, read_behind}
use Rattle.slicc_decl.proofs.NameKinds.{narrowed, not_skipped, only_memory, plain_is_name}
use Rattle.slicc_parse.proofs.typed.plain_end.Goals as goal

pub named_end-requires-clause-name : goal.named_end-requires-clause-name
named_end-requires-clause-name c = c.in-Ok.ensures.read.is_node

pub named_end-requires-clause-plain : goal.named_end-requires-clause-plain
named_end-requires-clause-plain c = not_skipped c.in-Ok.name c.in-Ok.ensures.read.is_node c.requires.plain

pub returns-in-Ok : goal.returns-in-Ok
returns-in-Ok c =
    match_map c.named_end.result c.named_end.ensures
    (λ read is. read_behind (narrowed (other_name ∷ machine_type ∷ []) c.requires.plain c.in-Ok.ensures.read) is)
    (λ fault is. behind_read (narrowed (other_name ∷ machine_type ∷ []) c.requires.plain c.in-Ok.ensures.read) is)

pub returns-in-Err : goal.returns-in-Err
returns-in-Err c = only_memory (plain_name ▸ of named_end) (plain_is_name c.args.tokens.now c.requires.plain) c.in-Err.ensures.read

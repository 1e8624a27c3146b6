use Rattle.std.proofs.Common.{◌∷◌, []}
use Rattle.slicc_ast.specs.Prelude.{functional_end, ◌▸◌, of, skipped_name, functional_name}
use Rattle.slicc_reading.proofs.Parts.{behind_read, match_map, read_behind}
use Rattle.slicc_decl.proofs.NameKinds.{is_skipped_text, narrowed, only_memory, skipped_is_name}
use Rattle.slicc_parse.proofs.typed.skipped_end.Goals as goal

pub functional_end-requires-clause-name : goal.functional_end-requires-clause-name
functional_end-requires-clause-name c = c.in-Ok.ensures.read.is_node

pub functional_end-requires-clause-skipped : goal.functional_end-requires-clause-skipped
functional_end-requires-clause-skipped c = is_skipped_text c.in-Ok.name c.in-Ok.ensures.read.is_node c.requires.skipped

pub returns-in-Ok : goal.returns-in-Ok
returns-in-Ok c =
    match_map c.functional_end.result c.functional_end.ensures
    (λ read is. read_behind (narrowed (functional_name ∷ []) c.requires.skipped c.in-Ok.ensures.read) is)
    (λ fault is. behind_read (narrowed (functional_name ∷ []) c.requires.skipped c.in-Ok.ensures.read) is)

pub returns-in-Err : goal.returns-in-Err
returns-in-Err c = only_memory (skipped_name ▸ of functional_end) (skipped_is_name c.args.tokens.now c.requires.skipped) c.in-Err.ensures.read

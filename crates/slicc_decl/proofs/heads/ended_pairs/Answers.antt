use Rattle.slicc_ast.specs.Declarations.{pairs as pairs_of}
use Rattle.slicc_ast.specs.Parts.{pairs}
use Rattle.slicc_reading.proofs.GoingOn.{at_most}
use Rattle.slicc_reading.proofs.Parts.{as_part, match_map}
use Rattle.slicc_decl.proofs.heads.ended_pairs.Goals as goal

pub returns-clause-read : goal.returns-clause-read
returns-clause-read c = c.ended.ensures.read pairs pairs_of _ (match_map c.pairs.result c.pairs.ensures (λ read is. as_part is) (λ fault is. is))

pub returns-clause-shorter : goal.returns-clause-shorter
returns-clause-shorter c =
    c.ended.ensures.shorter _ (at_most c.args.room pairs c.args.tokens.now pairs_of c.pairs.result (match_map c.pairs.result c.pairs.ensures (λ read is. as_part is) (λ fault is. is)))

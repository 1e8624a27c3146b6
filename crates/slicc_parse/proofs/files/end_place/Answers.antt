use Rattle.std.proofs.Common.{◌∷◌, []}
use Rattle.slicc_ast.specs.Prelude.{end_of_text}
use Rattle.slicc_parse.proofs.FileEnds.{end_at}
use Rattle.slicc_reading.proofs.Parts.{no_token_refused, other_token_refused}
use Rattle.slicc_parse.proofs.files.end_place.Goals as goal

pub returns-then-is_end_kind : goal.returns-then-is_end_kind
returns-then-is_end_kind c = end_at c.in-Some.first.now c.args.tokens.now c.in-Some.left.now c.in-Some.ensures (c.is_end_kind.ensures.same c.if-is_end_kind.true)

pub returns-else-is_end_kind : goal.returns-else-is_end_kind
returns-else-is_end_kind c =
    other_token_refused c.args.room (end_of_text ∷ []) c.in-Some.first.now c.args.tokens.now c.in-Some.left.now c.refuse.result
    c.in-Some.ensures (cc) c.refuse.ensures

pub returns-in-None : goal.returns-in-None
returns-in-None c =
    no_token_refused c.args.room (end_of_text ∷ []) c.args.tokens.now c.refuse-in-None.result c.in-None.ensures c.refuse-in-None.ensures

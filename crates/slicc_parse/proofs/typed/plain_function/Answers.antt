use Rattle.slicc_parse.proofs.FunctionParts.{plain_read}
use Rattle.slicc_parse.proofs.typed.plain_function.Goals as goal

pub returns-in-Ok : goal.returns-in-Ok
returns-in-Ok c =
    plain_read c.args.kind c.args.name c.in-Ok.end.formals c.in-Ok.end.pairs c.in-Ok.end.body c.span-span.result c.span-span.ensures c.requires.plain c.requires.kind c.requires.name c.in-Ok.ensures

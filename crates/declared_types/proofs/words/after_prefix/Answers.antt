use Rattle.declared_types.proofs.NameParts.{stripped_prefix}
use Rattle.declared_types.proofs.words.after_prefix.Goals as goal

pub returns : goal.returns
returns c = stripped_prefix c.args.text.now c.args.prefix.now c.strip_prefix.result c.strip_prefix.ensures.cases

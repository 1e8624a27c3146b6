use Rattle.declared_types.proofs.NameParts.{stripped_suffix}
use Rattle.declared_types.proofs.words.before_suffix.Goals as goal

pub returns : goal.returns
returns c = stripped_suffix c.args.text.now c.args.suffix.now c.strip_suffix.result c.strip_suffix.ensures.cases

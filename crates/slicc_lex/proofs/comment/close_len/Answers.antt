use Rattle.std.proofs.Common.{◌+◌, sym, ap, ◌∙◌, arith}
use Rattle.std.specs.Option.{option_map}
use Rattle.slicc_lex.proofs.Comments.{close_short}
use Rattle.slicc_lex.proofs.comment.close_len.Goals as goal

pub returns : goal.returns
returns c = sym (c.loop-rest.invariant.0 ∙ ap (option_map (λ n. c.loop-rest.seen + n)) (close_short c.loop-rest.rest.now (omega arith)))

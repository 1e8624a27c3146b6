use Rattle.std.proofs.Common.{◌∙◌, ap, sym}
use Rattle.slicc_plan.specs.Prelude.{span_of}
use Rattle.slicc_plan.proofs.ExpressionSpans.{span_of_Cast}
use Rattle.slicc_plan.proofs.spans.span_of.Goals as goal

pub returns-in-Cast : goal.returns-in-Cast
returns-in-Cast c =
    sym (ap span_of c.in-Cast.is ∙ span_of_Cast c.in-Cast.target c.in-Cast.mode c.in-Cast.value c.in-Cast.span)

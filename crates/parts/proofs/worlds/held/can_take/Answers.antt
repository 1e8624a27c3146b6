use Rattle.std.proofs.Common.{◌∙◌, sym}
use Rattle.parts.proofs.Leaving.{none-by}
use Rattle.parts.proofs.worlds.held.can_take.Goals as goal

pub returns : goal.returns
returns g c =
    λ yes w is. record {
      goes_on = none-by w.verdict (sym (c.has_ended.ensures w is) ∙ c.if-has_ended.false);
      free = sym (c.is_due.ensures w is) ∙ yes;
    }

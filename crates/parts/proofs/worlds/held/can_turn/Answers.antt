use Rattle.std.proofs.Common.{◌∙◌, sym}
use Rattle.parts.proofs.Leaving.{none-by}
use Rattle.parts.proofs.worlds.held.can_turn.Goals as goal

pub returns-in-None : goal.returns-in-None
returns-in-None g c =
    λ yes w is. record {
      goes_on = none-by w.verdict (sym (c.has_ended.ensures w is) ∙ c.if-has_ended.false);
      nobody = sym (c.any_held.ensures w is) ∙ c.if-any_held.false;
      rested = sym (c.in-None.ensures w is);
    }

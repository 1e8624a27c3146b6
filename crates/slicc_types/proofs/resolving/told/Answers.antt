use Rattle.std.proofs.Common.{◌∙◌, ap, subst}
use Rattle.slicc_plan.specs.Prelude.{IsAccepted, symbols_of}
use Rattle.slicc_types.specs.Prelude.{IsJudged, IsWritten}
use Rattle.slicc_types.proofs.resolving.told.Goals as goal

pub returns-in_ok-protocol_symbols-in-Ok : goal.returns-in_ok-protocol_symbols-in-Ok
returns-in_ok-protocol_symbols-in-Ok c =
    let trees = c.in_ok-scopes.scopes.trees.now in
    let judged : IsWritten trees c.in-Ok.written = subst (IsJudged trees) c.in-Ok.is c.in_ok-judged.ensures in
    record {
      accepted = subst IsAccepted c.in_ok-scopes.ensures judged.accepted;
      are = c.in_ok-protocol_symbols-in-Ok.ensures ∙ ap symbols_of c.in_ok-scopes.ensures;
    }

use Rattle.std.proofs.Common.{◌∙◌, ap, subst, sym}
use Rattle.slicc_plan.specs.Prelude.{HasCounts, counts_by}
use Rattle.slicc_plan.proofs.CountsOfSymbols.{counts_fit, counts_by_symbols}
use Rattle.slicc_plan.proofs.plan.counts.Goals as goal

pub counts_of_symbols-requires : goal.counts_of_symbols-requires
counts_of_symbols-requires c =
    subst HasCounts (sym c.symbols.ensures) (counts_fit c.args.plan.now c.trees-accepted.ensures.accepted)

pub returns : goal.returns
returns c =
    c.counts_of_symbols.ensures ∙ ap counts_by c.symbols.ensures ∙ sym (counts_by_symbols c.args.plan.now c.trees-accepted.ensures.accepted)

use Rattle.std.proofs.Common.{List, Option, sym, ap, ◌∙◌}
use Rattle.std.specs.List.{filter}
use Rattle.ruby_value.specs.declared.asked.Asked.{Asked}
use Rattle.sequencer.specs.Prelude.{is_above}
use Rattle.ruby_value.specs.Prelude.{first_of}
use Rattle.sequencer.proofs.Oldest.{by_line-is}
use Rattle.sequencer.proofs.sequencer.Sequencer.next_after.Goals as goal

pub returns-clause-value : goal.returns-clause-value
returns-clause-value c =
    let first : List Asked → Option Asked = λ xs. first_of (filter (is_above c.args.line) xs) in
    rw (← c.self.view_is)
    (c.next_in.ensures.value ∙ ap first c.deref.ensures.value ∙ ap first (sym (by_line-is c.self.inside.outstanding.items c.self.invariant.requests_fit.ascend)))

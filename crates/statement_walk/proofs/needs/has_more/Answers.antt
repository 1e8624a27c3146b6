use Rattle.std.proofs.Common.{◌∙◌, sym, ap, is_none}
use Rattle.body_meaning.specs.Prelude.{action_names, reading}
use Rattle.statement_walk.specs.Prelude.{passes, pick}
use Rattle.statement_walk.proofs.Spends.{none_left}
use Rattle.statement_walk.proofs.needs.has_more.Goals as goal

pub returns-in-None : goal.returns-in-None
returns-in-None c =
    ap is_none (sym c.in-None.is ∙ c.spend_actions.ensures)
    ∙ none_left (passes c.args.s.machine.now c.args.counted) (action_names (pick c.args.counted) (reading c.args.s) c.args.actions.now) c.args.n

pub returns-in-Some : goal.returns-in-Some
returns-in-Some c =
    ap is_none (sym c.in-Some.is ∙ c.spend_actions.ensures)
    ∙ none_left (passes c.args.s.machine.now c.args.counted) (action_names (pick c.args.counted) (reading c.args.s) c.args.actions.now) c.args.n

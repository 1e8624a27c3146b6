use Rattle.std.proofs.Common.{sym, ◌∙◌}
use Rattle.controller_rows.proofs.Issuing.{asked, passed}
use Rattle.controller_rows.proofs.script.issue_one.Goals as goal

pub returns-then-may_be_issued-clause-seats : goal.returns-then-may_be_issued-clause-seats
returns-then-may_be_issued-clause-seats g c =
    asked c.args.now (g.S.Seats.view c.args.seats.now).kept (g.S.Seats.view c.issue-issued.new.self).kept c.args.i.now c.issue-issued.result
    (sym c.may_be_issued.ensures ∙ c.if-may_be_issued.true) c.issue-issued.ensures.free c.issue-issued.ensures.issued c.issue-issued.ensures.refused

pub returns-else-may_be_issued-clause-seats : goal.returns-else-may_be_issued-clause-seats
returns-else-may_be_issued-clause-seats g c =
    passed c.args.now (g.S.Seats.view c.args.seats.now).kept c.args.i.now (sym c.may_be_issued.ensures ∙ c.if-may_be_issued.false)

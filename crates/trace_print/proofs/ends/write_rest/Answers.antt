use Rattle.std.proofs.Common.{[], ◌∷◌, map, true, false, refl, rules}
use Rattle.slicc_plan.specs.Prelude.{symbols_of}
use Rattle.trace_print.specs.Prelude.{account_line, final_line, rest_lines, verdict_line, AreLinesPut, IsLinePut, line_cut, line_put}
use Rattle.trace_print.proofs.Listing.{lines_on, lines_stopped, one_line}
use Rattle.trace_print.proofs.Written.{lines_written}
use Rattle.trace_print.proofs.ends.write_rest.Goals as goal

pub returns-then-not-write_finals-clause-pieces : goal.returns-then-not-write_finals-clause-pieces
returns-then-not-write_finals-clause-pieces g c =
    let r = c.args.r.now in
    let lines = map (final_line (symbols_of r.plan.now) r.names.now) r.finals.now in
    let finals : AreLinesPut g.S.Sink.writes c.args.sink.now lines false c.write_finals.new.sink = search rules in
    lines_stopped g.S.Sink.writes c.args.sink.now lines false c.write_finals.new.sink finals (account_line r.account.now ∷ verdict_line r.names.now r.verdict.now ∷ []) refl

pub returns-then-not-write_account-clause-pieces : goal.returns-then-not-write_account-clause-pieces
returns-then-not-write_account-clause-pieces g c =
    let r = c.args.r.now in
    let lines = map (final_line (symbols_of r.plan.now) r.names.now) r.finals.now in
    let rest = verdict_line r.names.now r.verdict.now ∷ [] in
    let finals : AreLinesPut g.S.Sink.writes c.args.sink.now lines true c.write_finals.new.sink = search rules in
    lines_on g.S.Sink.writes c.args.sink.now lines true c.write_finals.new.sink finals (account_line r.account.now ∷ rest) false c.write_account.new.sink refl
    (line_cut c.write_finals.new.sink c.write_account.new.sink (account_line r.account.now) rest c.if-not-write_account.ensures)

pub returns-clause-pieces : goal.returns-clause-pieces
returns-clause-pieces g c =
    let r = c.args.r.now in
    let lines = map (final_line (symbols_of r.plan.now) r.names.now) r.finals.now in
    let last = verdict_line r.names.now r.verdict.now in
    let finals : AreLinesPut g.S.Sink.writes c.args.sink.now lines true c.write_finals.new.sink = search rules in
    let verdict : IsLinePut g.S.Sink.writes c.write_account.new.sink last c.write_verdict.result c.write_verdict.new.sink = search rules in
    lines_on g.S.Sink.writes c.args.sink.now lines true c.write_finals.new.sink finals (account_line r.account.now ∷ last ∷ []) c.write_verdict.result c.write_verdict.new.sink refl
    (line_put c.write_finals.new.sink c.write_account.new.sink c.write_verdict.new.sink (account_line r.account.now) (last ∷ []) c.write_verdict.result c.if-not-write_account.ensures
    (one_line g.S.Sink.writes c.write_account.new.sink c.write_verdict.new.sink last c.write_verdict.result verdict))

pub returns-then-not-write_finals-clause-written : goal.returns-then-not-write_finals-clause-written
returns-then-not-write_finals-clause-written g c =
    let r = c.args.r.now in
    lines_written g.S.Sink.written g.S.Sink.faults g.S.Sink.writes g.met.S.Sink.lawful c.args.sink.now (rest_lines (symbols_of r.plan.now) r.names.now r.finals.now r.account.now r.verdict.now) false c.write_finals.new.sink
    (returns-then-not-write_finals-clause-pieces g c)

pub returns-then-not-write_account-clause-written : goal.returns-then-not-write_account-clause-written
returns-then-not-write_account-clause-written g c =
    let r = c.args.r.now in
    lines_written g.S.Sink.written g.S.Sink.faults g.S.Sink.writes g.met.S.Sink.lawful c.args.sink.now (rest_lines (symbols_of r.plan.now) r.names.now r.finals.now r.account.now r.verdict.now) false c.write_account.new.sink
    (returns-then-not-write_account-clause-pieces g c)

pub returns-clause-written : goal.returns-clause-written
returns-clause-written g c =
    let r = c.args.r.now in
    lines_written g.S.Sink.written g.S.Sink.faults g.S.Sink.writes g.met.S.Sink.lawful c.args.sink.now (rest_lines (symbols_of r.plan.now) r.names.now r.finals.now r.account.now r.verdict.now) c.write_verdict.result c.write_verdict.new.sink
    (returns-clause-pieces g c)

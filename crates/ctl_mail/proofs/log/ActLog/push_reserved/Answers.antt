use Rattle.std.proofs.Common.{List, arith}
use Rattle.std.proofs.lemmas.List.Sums.{count_by-le-length}
use Rattle.ctl_mail.specs.declared.act.MailAct.{MailAct}
use Rattle.ctl_mail.specs.Log.{is_local_last, is_placed, is_stall, is_wake}
use Rattle.ctl_mail.proofs.Logs.{locals-are, placed-are, stalls-are, wakes-are}
use Rattle.ctl_mail.proofs.log.ActLog.push_reserved.Goals as goal

pub counts_with-self-inside-requires-clause-stalls : goal.counts_with-self-inside-requires-clause-stalls
counts_with-self-inside-requires-clause-stalls c =
    let acts : List MailAct = c.self.inside.acts.items in
    omega (arith, stalls-are acts c.self.inside.counts c.self.invariant.counted, count_by-le-length is_stall acts, c.self.inside.acts.ok, c.self.inside.acts.small)

pub counts_with-self-inside-requires-clause-wakes : goal.counts_with-self-inside-requires-clause-wakes
counts_with-self-inside-requires-clause-wakes c =
    let acts : List MailAct = c.self.inside.acts.items in
    omega (arith, wakes-are acts c.self.inside.counts c.self.invariant.counted, count_by-le-length is_wake acts, c.self.inside.acts.ok, c.self.inside.acts.small)

pub counts_with-self-inside-requires-clause-placed : goal.counts_with-self-inside-requires-clause-placed
counts_with-self-inside-requires-clause-placed c =
    let acts : List MailAct = c.self.inside.acts.items in
    omega (arith, placed-are acts c.self.inside.counts c.self.invariant.counted, count_by-le-length is_placed acts, c.self.inside.acts.ok, c.self.inside.acts.small)

pub counts_with-self-inside-requires-clause-locals : goal.counts_with-self-inside-requires-clause-locals
counts_with-self-inside-requires-clause-locals c =
    let acts : List MailAct = c.self.inside.acts.items in
    omega (arith, locals-are acts c.self.inside.counts c.self.invariant.counted, count_by-le-length is_local_last acts, c.self.inside.acts.ok, c.self.inside.acts.small)

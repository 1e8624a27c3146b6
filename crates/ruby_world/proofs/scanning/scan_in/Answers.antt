use Rattle.std.proofs.Common.{Result, subst}
use Rattle.ruby_base.specs.declared.memory.NoMemory.{NoMemory}
use Rattle.ctl_store.specs.Prelude.{view_of}
use Rattle.body_meaning.specs.declared.frame.RoundEnd.{RoundEnd}
use Rattle.body_meaning.specs.Prelude.{IsRoundOf}
use Rattle.protocol_meaning.specs.Prelude.{scan_of}
use Rattle.ruby_world.proofs.HeldScans.{fired-is, full-is, idle-is, may-scan, stop-is}
use Rattle.ruby_world.proofs.scanning.scan_in.Goals.{in-Full, in-Idle, in-Stop}
use Rattle.ruby_world.proofs.scanning.scan_in.Goals as goal

pub round-requires : goal.round-requires
round-requires g c =
    let v = c.args.world.now in
    let before = view_of c.draft-draft.result in
    let lawful = c.settings_are_lawful.ensures.enough v.trees v.topology v.limits.seed v.limits.cycles v.limits.limit v.opening c.law.ensures.fits c.law.ensures.cycles c.law.ensures.enough in
    may-scan g.D.Driver.drive g.D.Driver.least v c.args.worker c.args.held.now c.requires.holds lawful before c.draft-draft.ensures c.law.ensures.fits c.law-2.ensures
    (g.P.Protocol.serves c.args.protocol.now) c.requires.serves

pub returns-in-Fired : goal.returns-in-Fired
returns-in-Fired g c =
    let v = c.args.world.now in
    let h = c.args.held.now in
    let before = view_of c.draft-draft.result in
    let after = view_of c.round.new.local in
    let lawful = c.settings_are_lawful.ensures.enough v.trees v.topology v.limits.seed v.limits.cycles v.limits.limit v.opening c.law.ensures.fits c.law.ensures.cycles c.law.ensures.enough in
    let does = subst (λ (r : Result RoundEnd NoMemory). IsRoundOf (scan_of v.trees h.machine h.limit h.fired before) r after before) c.in_ok-end.was (c.round.ensures v.trees c.requires.serves) in
    fired-is g.D.Driver.drive g.D.Driver.least v c.args.worker h c.requires.holds lawful before after c.draft-draft.ensures c.in_ok-end.end does
    c.in-Fired.note c.seal.result c.in-Fired.is c.seal.ensures.outcome

pub returns : goal.returns
returns g c =
    let v = c.args.world.now in
    let h = c.args.held.now in
    let before = view_of c.draft-draft.result in
    let after = view_of c.round.new.local in
    let lawful = c.settings_are_lawful.ensures.enough v.trees v.topology v.limits.seed v.limits.cycles v.limits.limit v.opening c.law.ensures.fits c.law.ensures.cycles c.law.ensures.enough in
    let does = subst (λ (r : Result RoundEnd NoMemory). IsRoundOf (scan_of v.trees h.machine h.limit h.fired before) r after before) c.in_ok-end.was (c.round.ensures v.trees c.requires.serves) in
    elim c.match-end.branch [
      | in-Idle w ↦
          rw w.how-is
          (idle-is g.D.Driver.drive g.D.Driver.least v c.args.worker h c.requires.holds lawful before after c.draft-draft.ensures c.in_ok-end.end does
          c.stalled-stalled.result w.in-Idle.is c.stalled-stalled.ensures)
      | in-Full w ↦
          rw w.how-is
          (full-is g.D.Driver.drive g.D.Driver.least v c.args.worker h c.requires.holds lawful before after c.draft-draft.ensures c.in_ok-end.end does
          c.stalled-stalled.result w.in-Full.is)
      | in-Stop w ↦
          rw w.how-is
          (stop-is g.D.Driver.drive g.D.Driver.least v c.args.worker h c.requires.holds lawful before after c.draft-draft.ensures c.in_ok-end.end does
          c.stalled-stalled.result w.in-Stop.at w.in-Stop.is)
    ]

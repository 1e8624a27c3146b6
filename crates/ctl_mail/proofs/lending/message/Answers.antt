use Rattle.std.proofs.Common.{◌∙◌, None, Some, sym, ap}
use Rattle.std.specs.Option.{option_copied}
use Rattle.ctl_mail.proofs.Located.{in-queue, located-found, located-stalled, never-lost}
use Rattle.ctl_mail.proofs.lending.message.Goals as goal

pub returns-in-Some : goal.returns-in-Some
returns-in-Some c =
    let store = c.args.store.now in
    located-found c.args.at store.buffers.items store.stalls.kept c.requires.mail.holds c.in-Some.m.now
    (in-queue c.deref.result.now store.buffers.items c.args.at (option_copied c.queued.result) (Some c.in-Some.m.now) c.deref.ensures.value c.queued.ensures (ap option_copied c.in-Some.is))

pub unreachable-requires : goal.unreachable-requires
unreachable-requires c =
    let store = c.args.store.now in
    never-lost c.args.at store.buffers.items store.stalls.kept c.requires.mail.holds c.requires.place
    (in-queue c.deref.result.now store.buffers.items c.args.at (option_copied c.queued.result) None c.deref.ensures.value c.queued.ensures (ap option_copied c.in_default.is))
    (sym c.find.ensures ∙ ap option_copied c.in-None.is)

pub returns : goal.returns
returns c =
    let store = c.args.store.now in
    located-stalled c.args.at store.buffers.items store.stalls.kept c.requires.mail.holds c.requires.place
    (in-queue c.deref.result.now store.buffers.items c.args.at (option_copied c.queued.result) None c.deref.ensures.value c.queued.ensures (ap option_copied c.in_default.is))
    c.in-Some-find.s.now (sym c.find.ensures ∙ ap option_copied c.in-Some-find.is)

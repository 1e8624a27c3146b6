use Rattle.std.proofs.Common.{◌≡◌, None, Some, slice_get, refl, ap, ◌∙◌, arith}
use Rattle.std.specs.FinMap as finite
use Rattle.ctl_mail.proofs.Edits.{past-end, read-at, read-past}
use Rattle.ctl_mail.proofs.Places.{no-more, not-written, room-after, room-there, written}
use Rattle.ctl_mail.proofs.lasts.put.Goals as goal

pub put-before-requires : goal.put-before-requires
put-before-requires c =
    let networks = c.args.networks.now.items in
    let there : slice_get networks c.from.result ≡ Some c.in-Some.lasts.now =
    read-at networks c.from.result c.in-Some.lasts.now (omega (arith, c.in-Some.ensures.variant.0 refl, c.args.networks.now.ok.0)) c.in-Some.ensures.value in
    let room = room-there networks c.from.result c.args.network 1 c.in-Some.lasts.now c.from.ensures there c.requires in
    omega arith

pub returns-in-Some-clause-after : goal.returns-in-Some-clause-after
returns-in-Some-clause-after c =
    let networks = c.args.networks.now.items in
    let there : slice_get networks c.from.result ≡ Some c.in-Some.lasts.now =
    read-at networks c.from.result c.in-Some.lasts.now (omega (arith, c.in-Some.ensures.variant.0 refl, c.args.networks.now.ok.0)) c.in-Some.ensures.value in
    written networks c.from.result c.args.network c.args.receiver c.args.arrival c.in-Some.lasts.now c.put-before.new.self c.from.ensures there
    (c.put-before.ensures.after ∙ ap (λ k. finite.insert c.in-Some.lasts.now.kept k c.args.arrival) c.from-in-Some.ensures)

pub returns-in-Some-clause-room : goal.returns-in-Some-clause-room
returns-in-Some-clause-room c =
    let networks = c.args.networks.now.items in
    let there : slice_get networks c.from.result ≡ Some c.in-Some.lasts.now =
    read-at networks c.from.result c.in-Some.lasts.now (omega (arith, c.in-Some.ensures.variant.0 refl, c.args.networks.now.ok.0)) c.in-Some.ensures.value in
    room-after networks c.from.result 1 c.in-Some.lasts.now c.put-before.new.self there c.put-before.ensures.room

pub returns-in-None-clause-after : goal.returns-in-None-clause-after
returns-in-None-clause-after c =
    let networks = c.args.networks.now.items in
    let none : slice_get networks c.from.result ≡ None = read-past networks c.from.result (omega (arith, past-end _ c.from.result c.in-None.ensures.variant.1, c.args.networks.now.ok.0)) in
    not-written networks c.from.result c.args.network c.args.receiver c.args.arrival c.from.ensures none

pub returns-in-None-clause-room : goal.returns-in-None-clause-room
returns-in-None-clause-room c = λ other n has. no-more c.args.networks.now.items other n _ (omega arith) has

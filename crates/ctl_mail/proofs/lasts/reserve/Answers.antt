use Rattle.std.proofs.Common.{◌≡◌, ◌+◌, None, Some, slice_get, slice_set, refl, arith}
use Rattle.ctl_mail.proofs.Edits.{past-end, read-at, read-past, set-here}
use Rattle.ctl_mail.proofs.Places.{has-room-nowhere, has-room-there, no-more, ok-then, room-after, same-lasts}
use Rattle.ctl_mail.proofs.lasts.reserve.Goals as goal

pub returns-in-Some-clause-same : goal.returns-in-Some-clause-same
returns-in-Some-clause-same c =
    let networks = c.args.networks.now.items in
    let there : slice_get networks c.from.result ≡ Some c.in-Some.lasts.now =
    read-at networks c.from.result c.in-Some.lasts.now (omega (arith, c.in-Some.ensures.variant.0 refl, c.args.networks.now.ok.0)) c.in-Some.ensures.value in
    same-lasts networks c.from.result c.in-Some.lasts.now c.reserve.new.self there c.reserve.ensures.same

pub returns-in-Some-clause-ok : goal.returns-in-Some-clause-ok
returns-in-Some-clause-ok c =
    let networks = c.args.networks.now.items in
    let there : slice_get networks c.from.result ≡ Some c.in-Some.lasts.now =
    read-at networks c.from.result c.in-Some.lasts.now (omega (arith, c.in-Some.ensures.variant.0 refl, c.args.networks.now.ok.0)) c.in-Some.ensures.value in
    ok-then c.reserve.result
    (λ room. has-room-there (slice_set networks c.from.result c.reserve.new.self) c.from.result c.args.network c.args.more c.reserve.new.self c.from.ensures (set-here networks c.from.result c.in-Some.lasts.now c.reserve.new.self there) room)
    c.reserve.ensures.ok

pub returns-in-Some-clause-room : goal.returns-in-Some-clause-room
returns-in-Some-clause-room c =
    let networks = c.args.networks.now.items in
    let there : slice_get networks c.from.result ≡ Some c.in-Some.lasts.now =
    read-at networks c.from.result c.in-Some.lasts.now (omega (arith, c.in-Some.ensures.variant.0 refl, c.args.networks.now.ok.0)) c.in-Some.ensures.value in
    λ other n has.
    room-after networks c.from.result 0 c.in-Some.lasts.now c.reserve.new.self there (omega (arith, c.reserve.ensures.no_less)) other n
    (no-more networks other (n + 0) n (omega arith) has)

pub returns-in-None-clause-ok : goal.returns-in-None-clause-ok
returns-in-None-clause-ok c =
    let networks = c.args.networks.now.items in
    let none : slice_get networks c.from.result ≡ None = read-past networks c.from.result (omega (arith, past-end _ c.from.result c.in-None.ensures.variant.1, c.args.networks.now.ok.0)) in
    has-room-nowhere networks c.from.result c.args.network c.args.more c.from.ensures none

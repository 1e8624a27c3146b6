use Rattle.std.proofs.Common.{◌≡◌, rules}
use Rattle.ctl_face.specs.Prelude.{TakesFields}
use Rattle.ctl_store.specs.Prelude.{ctl_of, machine_of}
use Rattle.controller_rows.proofs.Arriving.{arrived_goes, new_in_none, same_goes}
use Rattle.controller_rows.proofs.stores.is_delivered.Goals as goal

pub arrive-requires-clause-takes : goal.arrive-requires-clause-takes
arrive-requires-clause-takes c = (
  new_in_none (ctl_of c.args.store.now) (ctl_of c.room.new.self) c.args.m.number c.room.ensures.same (c.is_empty.ensures c.if-not-is_empty.false),
  search rules,
)

pub returns-clause-goes : goal.returns-clause-goes
returns-clause-goes c =
    let takes : TakesFields (machine_of c.args.store.now).buffers c.args.m.buffer c.args.m.fields = search rules in
    arrived_goes c.args.store.now c.room.new.self c.args.routes.now c.args.now c.requires c.room.ensures.same c.room.ensures.store c.arrive.new.self c.args.m
    c.arrive.ensures.store c.arrive.ensures.after takes (λ own. c.if-me-m.false (cc))

pub returns-then-is_err-clause-goes : goal.returns-then-is_err-clause-goes
returns-then-is_err-clause-goes c =
    same_goes c.args.store.now c.room.new.self c.args.routes.now c.args.now c.requires c.room.ensures.same c.room.ensures.store

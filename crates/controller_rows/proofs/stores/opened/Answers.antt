use Rattle.controller_rows.proofs.Going.{opened}
use Rattle.controller_rows.proofs.stores.opened.Goals as goal

pub returns : goal.returns
returns c =
    opened c.in_ok-store.store c.args.machine c.args.me c.args.routes.now c.args.now c.in_ok-store.ensures.machine c.in_ok-store.ensures.me c.in_ok-store.ensures.opening
    (c.has_routes.ensures.0 c.if-not-has_routes.false) (c.opening_controllers_fit.ensures c.args.machine c.args.me c.args.now (c.is_machine.ensures.0 c.if-not-is_machine.false))

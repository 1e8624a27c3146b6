use Rattle.std.proofs.Common.{sym, subst}
use Rattle.msg_buffer.specs.Prelude.{IsNew}
use Rattle.msg_buffer.proofs.Queues.{new-without}
use Rattle.msg_buffer.proofs.buffer.Buffer.recycle.Goals as goal

pub put_reserved-requires-clause-new : goal.put_reserved-requires-clause-new
put_reserved-requires-clause-new c =
    subst (λ xs. IsNew xs c.in-Ok.m.number) (sym c.in-Ok.ensures.after) (new-without c.args.self.now.kept c.in-Ok.m.number)

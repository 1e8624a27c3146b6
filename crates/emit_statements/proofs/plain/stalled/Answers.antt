use Rattle.std.proofs.Common.{◌∙◌, List, ℕ, None, ap}
use Rattle.body_meaning.specs.Prelude.{port_named, reading}
use Rattle.emit_statements.specs.Prelude.{ending_of}
use Rattle.emit_statements.proofs.PlainSteps.{stalled_writes}
use Rattle.emit_statements.proofs.Pushing.{named_piece}
use Rattle.emit_statements.proofs.plain.stalled.Goals as goal

pub returns : goal.returns
returns c =
    stalled_writes (reading c.args.s) c.args.n.now (ending_of c.args.ending) c.args.port.now.text c.in-Some.buffer c.args.address.now c.args.own.now
    c.args.code.now c.piece.new.code c.push.new.self (c.in-Some.ensures ∙ ap (λ (text : List ℕ). port_named (reading c.args.s).machine text) c.deref.ensures)
    (named_piece (reading c.args.s) c.args.n.now c.deref-2.result.now c.args.own.now.names None c.args.address.now c.in_ok-piece.field-0 c.args.code.now c.piece.new.code c.deref-2.ensures c.in_ok-piece.ensures)
    c.in_ok-push.ensures.ok

use Rattle.body_meaning.specs.Prelude.{reading}
use Rattle.emit_statements.proofs.AloneForms.{method_is}
use Rattle.emit_statements.proofs.Following.{line_of}
use Rattle.emit_statements.proofs.alone.last_alone.Goals as goal

pub returns-in-Method : goal.returns-in-Method
returns-in-Method c =
    rw c.in-Some.is (λ ending. line_of _ _ c.method_alone.result c.args.code.now c.method_alone.new.code c.method_alone.new.own
    (method_is (reading c.args.s) c.args.n.now ending c.args.own.now c.args.inner.now c.args.suffixes.now c.in-Some.last.now c.in-Method.name c.in-Method.given c.in-Method.span
    c.as_slice-items.result.now c.deref.result.now c.in-Method.is c.as_slice-items.ensures c.deref.ensures)
    (c.method_alone.ensures ending))

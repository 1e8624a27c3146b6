use Rattle.body_meaning.specs.Prelude.{reading}
use Rattle.emit_statements.proofs.AloneForms.{call_alone, group_alone, postfix_alone}
use Rattle.emit_statements.proofs.Following.{line_of}
use Rattle.std.specs.Option.{option_copied}
use Rattle.std.proofs.Common.{rules}
use Rattle.emit_statements.proofs.alone.+evaluated.Goals as goal

pub returns-in-Group : goal.returns-in-Group
returns-in-Group t c = λ ending.
    line_of _ _ c.evaluated.result c.args.code.now c.evaluated.new.code c.evaluated.new.own
    (group_alone (reading c.args.s) c.args.n.now ending c.args.own.now c.args.e.now c.in-Group.inner c.get.result.now c.in-Group.field-1 c.in-Group.is c.get.ensures)
    (c.evaluated.ensures ending)

pub returns-in-Postfix : goal.returns-in-Postfix
returns-in-Postfix t c = λ ending.
    line_of _ _ c.last_alone.result c.args.code.now c.last_alone.new.code c.last_alone.new.own
    (postfix_alone (reading c.args.s) c.args.n.now ending c.args.own.now c.args.e.now c.in-Postfix.inner c.get-in-Postfix.result.now c.in-Postfix.suffixes c.as_slice-all.result.now
    (option_copied c.last.result) c.in-Postfix.span c.in-Postfix.is c.get-in-Postfix.ensures c.as_slice-all.ensures (search rules))
    (c.last_alone.ensures ending)

pub returns-in-Call : goal.returns-in-Call
returns-in-Call t c = λ ending.
    line_of _ _ c.called_alone.result c.args.code.now c.called_alone.new.code c.called_alone.new.own
    (call_alone (reading c.args.s) c.args.n.now ending c.args.own.now c.args.e.now c.in-Call.name c.in-Call.given c.in-Call.span c.as_slice-items.result.now c.deref-in-Call.result.now c.deref.result.now
    c.function_named-function.result c.in-Call.is c.as_slice-items.ensures c.deref-in-Call.ensures c.function_named-function.ensures c.deref.ensures)
    (c.called_alone.ensures ending)

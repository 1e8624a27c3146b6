use Rattle.std.proofs.Common.{◌∙◌, Some, ap}
use Rattle.std.specs.Prelude.{unwrap_or}
use Rattle.ruby_value.specs.declared.kind.Kind.{Kind}
use Rattle.ruby_value.specs.declared.kind.Kind.TheVariants as kind
use Rattle.std.proofs.Common.{Option, List, ℕ}
use Rattle.body_meaning.specs.Prelude.{reading}
use Rattle.body_code.specs.declared.left.Home.TheVariants as home
use Rattle.body_code.specs.Prelude.{kind_written, with_name}
use Rattle.emit_statements.specs.Prelude.{ending_of}
use Rattle.emit_statements.proofs.Following.{without_line}
use Rattle.emit_statements.proofs.PlainSteps.{declared_writes}
use Rattle.emit_statements.proofs.Pushing.{named_piece}
use Rattle.emit_statements.proofs.plain.declared.Goals as goal

pub returns-in_err-piece : goal.returns-in_err-piece
returns-in_err-piece c = without_line _ _ _ _ _ _ c.from_residual.ensures.1

pub returns-in_err-slot : goal.returns-in_err-slot
returns-in_err-slot c = without_line _ _ _ _ _ _ c.from_residual-in_err-slot.ensures.1

pub returns-in_err-push : goal.returns-in_err-push
returns-in_err-push c = without_line _ _ _ _ _ _ c.from_residual-in_err-push.ensures.1

pub returns-in_err-push-2 : goal.returns-in_err-push-2
returns-in_err-push-2 c = without_line _ _ _ _ _ _ c.from_residual-in_err-push-2.ensures.1

pub returns-in_err-bind : goal.returns-in_err-bind
returns-in_err-bind c = without_line _ _ _ _ _ _ c.from_residual-in_err-bind.ensures.1

pub returns : goal.returns
returns c =
    let s = reading c.args.s in
    declared_writes s c.args.n.now (ending_of c.args.ending) c.args.name.now.text (kind_written s c.args.kind.now.text) c.args.e.now c.args.own.now c.or_bool-k.result c.in_ok-slot.slot
    c.push-2.new.self c.bind.new.names c.args.code.now c.piece.new.code c.push.new.self
    (c.or_bool-k.ensures ∙ ap (λ (o : Option Kind). unwrap_or o kind.Bool) (c.kind_written.ensures ∙ ap (λ (text : List ℕ). kind_written s text) c.deref.ensures))
    (c.in_ok-slot.ensures ∙ c.len.ensures)
    (named_piece s c.args.n.now c.deref-2.result.now c.args.own.now.names (Some c.or_bool-k.result) c.args.e.now c.in_ok-piece.field-0 c.args.code.now c.piece.new.code c.deref-2.ensures c.in_ok-piece.ensures)
    c.in_ok-push.ensures.ok c.in_ok-push-2.ensures.ok
    (c.in_ok-bind.ensures ∙ ap (λ (text : List ℕ). with_name text (home.Local c.in_ok-slot.slot c.or_bool-k.result) c.args.own.now.names) c.deref-3.ensures)

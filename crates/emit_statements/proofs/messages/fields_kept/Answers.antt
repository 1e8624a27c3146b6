use Rattle.std.proofs.Common.{◌∙◌, List, ℕ, ap}
use Rattle.body_code.specs.declared.left.Home.TheVariants as home
use Rattle.body_code.specs.Prelude.{with_name}
use Rattle.body_meaning.specs.Prelude.{reading}
use Rattle.emit_statements.proofs.Following.{without_line}
use Rattle.emit_statements.proofs.MessageSteps.{kept_writes}
use Rattle.emit_statements.proofs.messages.fields_kept.Goals as goal

pub returns-in_err-first : goal.returns-in_err-first
returns-in_err-first c = without_line _ _ _ _ _ _ c.from_residual.ensures.1

pub returns-in_err-each_stored : goal.returns-in_err-each_stored
returns-in_err-each_stored c = without_line _ _ _ _ _ _ c.from_residual-in_err-each_stored.ensures.1

pub returns-in_err-bind : goal.returns-in_err-bind
returns-in_err-bind c = without_line _ _ _ _ _ _ c.from_residual-in_err-bind.ensures.1

pub returns : goal.returns
returns c =
    rw c.in-Some.is
    (kept_writes (reading c.args.s) c.in-Some.structure c.in_ok-first.first c.args.own.now c.kept_for.new.locals c.bind.new.names c.args.code.now c.each_stored.new.code
    c.in_ok-first.ensures.slot c.in_ok-first.ensures.locals c.in_ok-each_stored.ensures (c.in_ok-bind.ensures ∙ ap (λ (text : List ℕ). with_name text (home.Kept c.in-Some.structure c.in_ok-first.first) c.args.own.now.names) c.as_slice.ensures))

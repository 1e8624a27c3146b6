use Rattle.std.proofs.Common.{◌∙◌, ap, fold, map}
use Rattle.std.proofs.lemmas.Result.{IfOk-weaker}
use Rattle.clap.specs.Simple.{App}
use Rattle.ruby_options.specs.Prelude.{with_option}
use Rattle.ruby_options.specs.declared.tables.TheConstants.{NUMBERS, ORDER, TRACE}
use Rattle.ruby_options.proofs.Parsed.{whole}
use Rattle.ruby_options.proofs.command_line.ruby_command.Goals as goal

pub returns : goal.returns
returns c =
    IfOk-weaker c.with_option-2.result _ _ (λ done e. e ∙ ap (λ (a : App). with_option a ORDER.now) (c.in_ok-command-3.ensures
    ∙ ap (λ (a : App). with_option a TRACE.now) (c.in_ok-command-2.ensures
    ∙ ap (λ (a : App). fold with_option a (map (λ o. o.0.now) NUMBERS)) c.in_ok-command.ensures)) ∙ whole) c.with_option-2.ensures

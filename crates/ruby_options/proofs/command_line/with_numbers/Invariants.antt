use Rattle.std.proofs.Common.{◌≡◌, drop, fold, map}
use Rattle.clap.specs.Simple.{app_of}
use Rattle.ruby_options.specs.Prelude.{with_option}
use Rattle.ruby_options.proofs.command_line.with_numbers.Given as goal

-- with the options that are left, the command is the one with all
abbrev pub invariant-loop-option : goal.invariant-loop-option
invariant-loop-option l =
    fold with_option (app_of l.command) (map (λ o. o.0.now) (drop l.option-index l.options))
    ≡ fold with_option (app_of l.initial.command) (map (λ o. o.0.now) l.options)

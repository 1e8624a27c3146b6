use Rattle.std.proofs.Common.{◌≡◌, ◌∙◌, ◌+◌, ◌<◌, ℕ, List, add-one, ap, drop, drop-cons, fold, get_or, length, map, sym}
use Rattle.clap.specs.Simple.{App}
use Rattle.clap.specs.Walk.{Text}
use Rattle.ruby_options.specs.Prelude.{with_option}
use Rattle.ruby_options.proofs.command_line.with_numbers.Goals as goal

-- with the first of the options that are left, the command with all is the same
one_more : {X : Type 0} (name : X → Text) (options : List X) (i : ℕ) (d : X) (before after all : App)
    → i < length options → after ≡ with_option before (name (get_or options i d))
    → fold with_option before (map name (drop i options)) ≡ all → fold with_option after (map name (drop (i + 1) options)) ≡ all
one_more name options i d before after all lt is so =
    ap (λ (a : App). fold with_option a (map name (drop (i + 1) options))) is
    ∙ ap (λ (k : ℕ). fold with_option (with_option before (name (get_or options i d))) (map name (drop k options))) (add-one i)
    ∙ sym (ap (λ (os : List _). fold with_option before (map name os)) (drop-cons options i d lt))
    ∙ so

pub loop-option-preserved : goal.loop-option-preserved
loop-option-preserved c =
    one_more (λ o. o.0.now) c.args.options.now c.loop-option.option-index _ _ _ _ c.loop-option-test.true c.in_ok-command.ensures
    c.loop-option.invariant

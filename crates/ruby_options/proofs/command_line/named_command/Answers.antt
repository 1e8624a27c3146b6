use Rattle.std.proofs.Common.{◌≡◌, ◌∙◌, IsSomeAnd, None, Option, Some, ap, ap₂, false}
use Rattle.clap.specs.Lexer.{usize_max}
use Rattle.clap.specs.Simple.{with_rule}
use Rattle.clap.specs.Walk.{Rule, rule_of}
use Rattle.clap.specs.declared.builder.arg.Arg.{Arg}
use Rattle.clap.specs.declared.builder.range.ValueRange.{ValueRange}
use Rattle.ruby_options.specs.Prelude.{names_rule}
use Rattle.ruby_options.proofs.command_line.named_command.Goals as goal

some_is : (o : Option ValueRange) (range : ValueRange) → IsSomeAnd o (λ r. r ≡ range) → o ≡ Some range
some_is None range is = absurd is
some_is (Some r) range is = ap Some is

pub returns : goal.returns
returns c =
    let one_or_more : ValueRange = record { start_inclusive = 1; end_inclusive = usize_max } in
    let names = c.new-3.result in
    let global : c.num_args.result.global ≡ false = ap (λ (a : Arg). a.global) c.num_args.ensures.0 ∙ c.new-3.ensures.optional.1 in
    let rule : rule_of c.num_args.result ≡ names_rule =
    ap rule_of c.num_args.ensures.0
    ∙ ap (λ (o : Option ValueRange). record (rule_of names) { range = o }) (some_is c.num_args.result.num_vals one_or_more c.num_args.ensures.1)
    ∙ ap (λ (r : Rule). record r { range = Some one_or_more }) c.new-3.ensures.rule in
    c.in_ok-arg.ensures.shape global
    ∙ ap₂ with_rule (c.in_ok-command.ensures.shape c.new-2.ensures.optional.1 ∙ ap₂ with_rule c.new.ensures.app c.new-2.ensures.rule) rule

use Rattle.std.proofs.Common.{◌∙◌, inr, map, refl}
use Rattle.clap.specs.Simple.{app_of}
use Rattle.ruby_options.proofs.Parsed.{refused, rows, taken}
use Rattle.ruby_options.proofs.command_line.found_in.Goals as goal

pub returns-in-Ok : goal.returns-in-Ok
returns-in-Ok c =
    let app = app_of c.in_ok-command.command in
    let words = map (λ word. word.now) c.args.line.now in (
      taken app words c.in_ok-command.ensures c.in-Ok.ensures.kinds,
      rows app words c.in-Ok.matches c.in_ok-command.ensures c.in-Ok.ensures.matches,
    )

pub returns : goal.returns
returns c =
    let app = app_of c.in_ok-command.command in
    let words = map (λ word. word.now) c.args.line.now in
    inr (
      refl,
      refused app words c.in-Err.e c.in_ok-command.ensures c.in-Err.ensures.kinds
          (λ memory. c.in_default.not-OutOfMemory (c.kind.ensures ∙ memory)),
    )

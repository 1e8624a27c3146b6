use Rattle.std.proofs.Common.{◌≡◌, ◌∙◌, ◌++◌, ◌∷◌, ◌<◌, ◌≤◌, [], ℕ, ap, arith, length, refl}
use Rattle.std.specs.Prelude.{slice_get}
use Rattle.std.specs.Option.{option_copied}
use Rattle.action_code.specs.declared.instr.Instr.TheVariants as instr
use Rattle.body_meaning.specs.Prelude.{reading}
use Rattle.body_code.specs.Prelude.{field_kinds}
use Rattle.emit_statements.proofs.MessageSteps.{each_count, each_end, each_more}
use Rattle.emit_statements.proofs.messages.each_read.Goals as goal

pub loop-k-init : goal.loop-k-init
loop-k-init c = refl

pub loop-k-preserved : goal.loop-k-preserved
loop-k-preserved c =
    let t = slice_get (reading c.args.s).symbols.structures c.args.structure in
    let many : c.field_count-count.result ≡ length (field_kinds t) = each_count c.field_count-count.result (option_copied c.get.result) t c.field_count-count.ensures (c.get.ensures ∙ ap (slice_get (reading c.args.s).symbols.structures) c.from.ensures) in
    let below : c.loop-k.k < length (field_kinds t) = omega arith in
    each_more instr.Outfield (field_kinds t) c.loop-k.k c.loop-k.code c.push.new.self _ below
    (c.in_ok-push.ensures.ok ∙ ap (λ (x : ℕ). c.loop-k.code ++ instr.Outfield x ∷ []) c.in_ok-number.ensures) c.loop-k.invariant

pub returns : goal.returns
returns c =
    let t = slice_get (reading c.args.s).symbols.structures c.args.structure in
    let many : c.field_count-count.result ≡ length (field_kinds t) = each_count c.field_count-count.result (option_copied c.get.result) t c.field_count-count.ensures (c.get.ensures ∙ ap (slice_get (reading c.args.s).symbols.structures) c.from.ensures) in
    let past : length (field_kinds t) ≤ c.loop-k.k = omega arith in
    each_end instr.Outfield (field_kinds t) c.loop-k.k c.loop-k.code _ past c.loop-k.invariant

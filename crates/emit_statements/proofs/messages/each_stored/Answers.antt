use Rattle.std.proofs.Common.{◌≡◌, ◌∙◌, ◌+◌, ◌-◌, ◌++◌, ◌∷◌, ◌<◌, ◌≤◌, [], ℕ, ap, arith, length}
use Rattle.std.specs.Prelude.{slice_get}
use Rattle.std.specs.Option.{option_copied}
use Rattle.action_code.specs.declared.instr.Instr.TheVariants as instr
use Rattle.body_meaning.specs.Prelude.{reading}
use Rattle.body_code.specs.Prelude.{field_kinds}
use Rattle.emit_statements.proofs.MessageSteps.{each_back, each_back_end, each_count}
use Rattle.emit_statements.proofs.messages.each_stored.Goals as goal

pub loop-i-preserved : goal.loop-i-preserved
loop-i-preserved c =
    let t = slice_get (reading c.args.s).symbols.structures c.args.structure in
    let many : c.field_count-count.result ≡ length (field_kinds t) = each_count c.field_count-count.result (option_copied c.get.result) t c.field_count-count.ensures (c.get.ensures ∙ ap (slice_get (reading c.args.s).symbols.structures) c.from.ensures) in
    let below : c.loop-i.i < length (field_kinds t) = omega arith in
    let slot_is : c.in_ok-slot.slot ≡ c.args.first + (length (field_kinds t) - 1 - c.loop-i.i) = omega (arith, c.in_ok-slot.ensures, c.saturating_add.ensures) in
    each_back (λ k. instr.Store (c.args.first + k)) (field_kinds t) c.loop-i.i c.loop-i.code c.push.new.self c.args.code.now below
    (c.in_ok-push.ensures.ok ∙ ap (λ (x : ℕ). c.loop-i.code ++ instr.Store x ∷ []) slot_is) c.loop-i.invariant

pub returns : goal.returns
returns c =
    let t = slice_get (reading c.args.s).symbols.structures c.args.structure in
    let many : c.field_count-count.result ≡ length (field_kinds t) = each_count c.field_count-count.result (option_copied c.get.result) t c.field_count-count.ensures (c.get.ensures ∙ ap (slice_get (reading c.args.s).symbols.structures) c.from.ensures) in
    let past : length (field_kinds t) ≤ c.loop-i.i = omega arith in
    each_back_end (λ k. instr.Store (c.args.first + k)) (field_kinds t) c.loop-i.i c.loop-i.code c.args.code.now past c.loop-i.invariant

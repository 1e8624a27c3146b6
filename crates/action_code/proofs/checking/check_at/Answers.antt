-- No rule is broken here, so the run stays within the body; and the ways from here are those that lead on.
use Rattle.std.proofs.Common.{◌≡◌, ◌<◌, ℕ, None, true, length, slice_set, sym, subst, ap, ◌∙◌, arith}
use Rattle.std.proofs.lemmas.List.{length-set}
use Rattle.std.specs.Option.{option_copied}
use Rattle.action_code.specs.Rules.{rule_broken, stays_within}
use Rattle.action_code.proofs.Steps.{stays_within_kept, went_on}
use Rattle.action_code.proofs.checking.check_at.Goals as goal

pub send_on-requires-clause-stays : goal.send_on-requires-clause-stays
send_on-requires-clause-stays c =
    let count : length c.replace-shape.new.self ≡ c.len-count.result =
    ap length c.replace-shape.ensures.after ∙ length-set _ _ _ ∙ c.requires.count ∙ sym c.len-count.ensures in
    let P : ℕ → Type 0 = λ n. stays_within n c.args.at c.index-i.result.now ≡ true in
    let none : rule_broken (option_copied c.machine_of.result) c.len-count.result c.args.at c.replace-shape.result.clash c.shape_or_empty-s.result c.in_ok-sg.sg c.index-i.result.now ≡ None =
    sym c.rule_broken.ensures ∙ c.in-None.is in
    subst P (sym count)
    (stays_within_kept (option_copied c.machine_of.result) c.len-count.result c.args.at c.replace-shape.result.clash c.shape_or_empty-s.result
    c.in_ok-sg.sg c.index-i.result.now none)

pub returns-in_ok-send_on-in-None-clause-holds : goal.returns-in_ok-send_on-in-None-clause-holds
returns-in_ok-send_on-in-None-clause-holds c =
    let within : c.args.at < length c.args.table.now = omega (arith, c.requires.at, c.requires.count) in
    went_on c.args.p.now c.args.body c.args.c.now c.args.at c.index-i.result.now c.args.table.now c.replace-shape.new.self c.send_on.new.table
    c.replace-shape.result c.shape_or_empty-s.result c.in_ok-sg.sg c.index-i.ensures within c.requires.holds c.replace-shape.ensures.value
    c.shape_or_empty-s.ensures c.in_ok-sg.ensures (c.replace-shape.ensures.after ∙ ap (slice_set _ _) c.no_arrival.ensures)
    c.in_ok-send_on-in-None.ensures.holds

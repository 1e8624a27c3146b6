use Rattle.std.proofs.Common.{◌≡◌, ◌++◌, ap, ◌∙◌, sym, flat_map}
use Rattle.std.proofs.lemmas.Grind.{flat_map-append}
use Rattle.slicc_plan.specs.Machines.{names_in}
use Rattle.slicc_plan.specs.Prelude.{first_after, listed_next}
use Rattle.declaration_rules.proofs.Steps.{one_list_before}
use Rattle.machine_table.specs.Prelude.{found_by}
use Rattle.body_rules.specs.Prelude.{missing_by}
use Rattle.body_rules.proofs.missing.judge_transition.Goals as goal

pub returns : goal.returns
returns c =
    let first = c.args.first in
    let t = c.args.t.now in
    let s = missing_by (found_by c.args.own.now.states) in
    let e = missing_by (found_by c.args.own.now.events) in
    let a = missing_by (found_by c.args.own.now.actions) in
    let left = c.judge_names-left.result in
    let reached = c.judge_next-reached.result in
    let answered = c.judge_names-answered.result in
    let all = c.judge_several.result in
    let states : reached ≡ first_after first (flat_map s (names_in t.states ++ listed_next t.next)) =
    one_list_before first left reached (flat_map s (names_in t.states)) (flat_map s (listed_next t.next)) c.judge_names-left.ensures c.judge_next-reached.ensures
    ∙ ap (first_after first) (sym (flat_map-append s (names_in t.states) (listed_next t.next))) in
    let actions : all ≡ first_after answered (flat_map a t.actions) =
    c.judge_several.ensures ∙ ap (λ ns. first_after answered (flat_map a ns)) c.deref.ensures in
    one_list_before first answered all (flat_map s (names_in t.states ++ listed_next t.next) ++ flat_map e (names_in t.events)) (flat_map a t.actions)
    (one_list_before first reached answered (flat_map s (names_in t.states ++ listed_next t.next)) (flat_map e (names_in t.events)) states c.judge_names-answered.ensures) actions

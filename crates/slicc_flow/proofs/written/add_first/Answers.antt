use Rattle.std.proofs.Common.{◌≡◌, ◌++◌, ◌∷◌, ◌∙◌, [], true, false, is_none, ap, sym}
use Rattle.std.proofs.lemmas.List.{map-append}
use Rattle.std.proofs.lemmas.Result.{on_ok_weaker}
use Rattle.std.specs.List.{fold}
use Rattle.slicc_plan.specs.Prelude.{names_of_written, number_in, with_written}
use Rattle.slicc_flow.specs.Prelude.{written_list, written_of, written_or_none}
use Rattle.slicc_flow.proofs.FirstNames.{added_new, added_old}
use Rattle.slicc_flow.proofs.written.add_first.Goals as goal

pub returns-in_ok-add-in-None-clause-list : goal.returns-in_ok-add-in-None-clause-list
returns-in_ok-add-in-None-clause-list c =
    let new : is_none (number_in (names_of_written (written_list c.args.list.now)) c.in-Some.w.name.now) ≡ true =
    ap (λ names. is_none (number_in names c.in-Some.w.name.now)) (sym c.requires) ∙ ap is_none (sym c.find.ensures) ∙ ap is_none c.in-None.is in
    on_ok_weaker c.push.result
    (λ after. ap written_list after ∙ map-append written_of c.args.list.now (c.in-Some.w ∷ [])
    ∙ sym (added_new (written_list c.args.list.now) (written_of c.in-Some.w) new)
    ∙ ap (λ o. fold with_written (written_list c.args.list.now) (written_or_none o)) (sym c.in-Some.is))
    c.push.ensures.ok

pub returns-in-Some-find-clause-list : goal.returns-in-Some-find-clause-list
returns-in-Some-find-clause-list c =
    let old : is_none (number_in (names_of_written (written_list c.args.list.now)) c.in-Some.w.name.now) ≡ false =
    ap (λ names. is_none (number_in names c.in-Some.w.name.now)) (sym c.requires) ∙ ap is_none (sym c.find.ensures) ∙ ap is_none c.in-Some-find.is in
    sym (added_old (written_list c.args.list.now) (written_of c.in-Some.w) old)
    ∙ ap (λ o. fold with_written (written_list c.args.list.now) (written_or_none o)) (sym c.in-Some.is)

use Rattle.std.proofs.Common.{sym, ap, ◌∙◌, find, map}
use Rattle.std.proofs.lemmas.List.{take_all}
use Rattle.declared_types.specs.Prelude.{declaration_of}
use Rattle.slicc_plan.specs.Prelude.{beyond, members_of_found, most_of_each, first_after}
use Rattle.slicc_names.specs.Prelude.{is_wanted}
use Rattle.slicc_names.proofs.Found.{found_now, none_more}
use Rattle.slicc_names.proofs.limits.wanted_limit.Goals as goal

pub returns-then-is_wanted : goal.returns-then-is_wanted
returns-then-is_wanted c =
    c.members_limit.ensures
    ∙ ap (λ o. first_after c.args.first (beyond most_of_each (members_of_found o)))
    (sym (found_now (is_wanted c.args.wanted) declaration_of c.args.declarations.now c.loop-d.d-index c.d-item.result c.is_wanted.result
    c.loop-d-test.true c.d-item.is c.is_wanted.ensures c.if-is_wanted.true c.loop-d.invariant))

pub loop-d-preserved : goal.loop-d-preserved
loop-d-preserved c =
    none_more (is_wanted c.args.wanted) declaration_of c.args.declarations.now c.loop-d.d-index c.d-item.result c.is_wanted.result
    c.loop-d-test.true c.d-item.is c.is_wanted.ensures c.if-is_wanted.false c.loop-d.invariant

pub returns : goal.returns
returns c =
    ap (λ o. first_after c.args.first (beyond most_of_each (members_of_found o)))
    (sym (ap (λ ds. find (is_wanted c.args.wanted) (map declaration_of ds)) (sym (take_all c.loop-d.d-index c.args.declarations.now c.loop-d-test.false)) ∙ c.loop-d.invariant))

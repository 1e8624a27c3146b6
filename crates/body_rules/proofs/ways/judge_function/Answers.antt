use Rattle.std.proofs.Common.{◌≡◌, Bool, not, List, ap, sym, ◌∙◌}
use Rattle.slicc_ast.specs.declared.tree.declaration.Function.TheVariants.{Plain}
use Rattle.slicc_plan.specs.declared.broken.Broken.{Broken}
use Rattle.slicc_plan.specs.declared.built_in.BuiltInType.TheVariants.{Void}
use Rattle.slicc_plan.specs.Prelude.{function, earlier_of_both, first_after, first_of, wrong_ends, is_built_in, type_in}
use Rattle.slicc_plan.proofs.Firsts.{first_after-first_of}
use Rattle.declared_types.specs.Prelude.{scope_at}
use Rattle.body_rules.specs.Prelude.{ways_of}
use Rattle.body_rules.proofs.ways.judge_function.Goals as goal

pub returns-in-Some : goal.returns-in-Some
returns-in-Some c =
    let trees = c.args.scopes.now.trees.now in
    let scope = scope_at trees c.args.number in
    let ways : Bool → List Broken = λ is_void. wrong_ends (not is_void) c.in-Plain.span c.in-Some.b in
    let known : c.is_built_in-answers.result ≡ is_built_in Void (type_in trees scope c.in-Plain.kind.text) =
    c.is_built_in-answers.ensures ∙ ap (is_built_in Void) (c.type_in.ensures ∙ ap (type_in trees scope) c.deref.ensures) in
    c.earlier_of_two.ensures ∙ ap (earlier_of_both c.args.first) (c.wrong_ends.ensures ∙ ap (λ v. first_of (ways v)) known)
    ∙ sym (first_after-first_of c.args.first (ways (is_built_in Void (type_in trees scope c.in-Plain.kind.text))))
    ∙ ap (λ f. first_after c.args.first (ways_of trees scope (function f)))
    (sym (c.in-Plain.is ∙ ap (λ o. Plain c.in-Plain.kind c.in-Plain.name c.in-Plain.formals c.in-Plain.pairs o c.in-Plain.span) c.in-Some.is))

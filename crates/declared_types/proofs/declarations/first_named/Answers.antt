use Rattle.std.proofs.Common.{◌≡◌, ◌++◌, Bool, Option, None, Some, List, ap, find, flat_map, map, sym, ◌∙◌}
use Rattle.std.specs.Option.{option_or}
use Rattle.std.proofs.lemmas.List.Folds.{find-append}
use Rattle.slicc_plan.specs.Prelude.{is_named, named_declarations, parameter}
use Rattle.declared_types.proofs.declarations.first_named.Goals as goal

found_first : {X : Type 0} (p : X → Bool) (xs ys : List X) (o : Option X) → o ≡ find p xs → option_or o (find p ys) ≡ find p (xs ++ ys)
found_first p xs ys o e = ap (λ q. option_or q (find p ys)) e ∙ sym (find-append p xs ys)

pub returns-in-Some : goal.returns-in-Some
returns-in-Some c =
    let p = is_named c.args.name.now in
    let m = c.args.m.now in
    found_first p (map parameter m.parameters) (flat_map named_declarations m.declarations) (Some (parameter c.in-Some.p.now))
    (c.in-Some.ensures ∙ ap (λ ps. find p (map parameter ps)) c.deref.ensures)

pub returns-in-None : goal.returns-in-None
returns-in-None c =
    let p = is_named c.args.name.now in
    let m = c.args.m.now in
    c.first_declaration.ensures
    ∙ ap (λ ds. find p (flat_map named_declarations ds)) c.deref-in-None.ensures
    ∙ found_first p (map parameter m.parameters) (flat_map named_declarations m.declarations) None
    (c.in-None.ensures ∙ ap (λ ps. find p (map parameter ps)) c.deref.ensures)

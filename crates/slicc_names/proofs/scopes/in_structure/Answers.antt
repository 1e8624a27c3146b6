use Rattle.std.proofs.Common.{◌≡◌, ◌∷◌, [], false, flat_map, map, ap, sym, ◌∙◌, cond, append-nil}
use Rattle.std.proofs.lemmas.Result.{IfOk-weaker}
use Rattle.slicc_names.specs.Prelude.{one_member}
use Rattle.slicc_plan.specs.Prelude.{is_external, member, first_after, member_scopes, repeated}
use Rattle.slicc_names.proofs.Parts.{each_member}
use Rattle.slicc_names.proofs.Steps.{told_in_body}
use Rattle.slicc_names.proofs.scopes.in_structure.Goals as goal

pub returns : goal.returns
returns c =
    let here : is_external c.args.s.now ≡ false = sym c.is_external.ensures ∙ c.if-is_external.false in
    IfOk-weaker c.in_each.result _ _
    (λ r told.
    told_in_body (map member c.args.s.now.members) (flat_map member_scopes c.args.s.now.members) c.args.first c.in_ok-first.first r
    (c.in_ok-first.ensures ∙ ap (first_after c.args.first) (append-nil (repeated (flat_map one_member c.deref.result.now)))
    ∙ ap (λ ms. first_after c.args.first (repeated (flat_map one_member ms))) c.deref.ensures
    ∙ ap (λ ds. first_after c.args.first (repeated ds)) (each_member c.args.s.now.members))
    (told ∙ ap (λ ms. first_after c.in_ok-first.first (flat_map repeated (flat_map member_scopes ms))) c.deref-2.ensures)
    ∙ ap (λ b. first_after c.args.first (flat_map repeated (cond b [] (map member c.args.s.now.members ∷ flat_map member_scopes c.args.s.now.members)))) (sym here))
    c.in_each.ensures

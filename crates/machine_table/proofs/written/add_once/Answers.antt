use Rattle.std.proofs.Common.{◌≡◌, ◌++◌, ◌∷◌, [], ap, cond, false, sym, ◌∙◌}
use Rattle.std.proofs.lemmas.Result.{on_ok_weaker}
use Rattle.slicc_plan.specs.Prelude.{includes}
use Rattle.machine_table.proofs.written.add_once.Goals as goal

pub returns : goal.returns
returns c =
    let kept = c.args.kept.now in
    let absent : includes kept c.args.number ≡ false = cc in
    on_ok_weaker c.push.result (λ after. after ∙ ap (λ b. cond b kept (kept ++ c.args.number ∷ [])) (sym absent)) c.push.ensures.ok

use Rattle.std.proofs.Common.{◌≡◌, ◌∷◌, ◌++◌, [], All, replicate, length, length-append, sym, subst, ap, ◌∙◌, arith}
use Rattle.std.proofs.lemmas.List.Elements.{All-push}
use Rattle.std.specs.FinMap.{empty}
use Rattle.ruby_value.specs.Prelude.{Roomy}
use Rattle.ctl_face.specs.Prelude.{Lasts}
use Rattle.ctl_mail.proofs.Edits.{all-no-lasts}
use Rattle.ctl_mail.proofs.lasts.empty_lasts.Goals as goal

pub loop-preserved : goal.loop-preserved
loop-preserved c =
    let items : c.push.new.self.items ≡ c.loop.networks.items ++ c.new.result ∷ [] = c.in_ok-push.ensures.items in (
      omega (arith, ap length items, length-append c.loop.networks.items (c.new.result ∷ []), c.loop.invariant.0),
      subst (All (λ (r : Roomy Lasts). r.kept ≡ empty)) (sym items) (All-push (λ (r : Roomy Lasts). r.kept ≡ empty) c.loop.networks.items c.new.result c.loop.invariant.1 c.new.ensures),
    )

pub returns : goal.returns
returns c =
    let count : length c.loop.networks.items ≡ 16 = omega (arith, c.loop.invariant.0) in
    let none : Lasts = empty in
    all-no-lasts c.loop.networks.items c.loop.invariant.1 ∙ ap (λ n. replicate n none) count

use Rattle.std.proofs.Common.{◌≡◌, ℕ, None, Some, Option, unwrap_or, refl, sym, ap, ◌∙◌}
use Rattle.std.specs.List.{fold}
use Rattle.std.specs.FinMap as finite
use Rattle.ctl_face.specs.Prelude.{last_at}
use Rattle.ctl_mail.specs.Prelude.{mail_of, newer_local, told_by}
use Rattle.ctl_mail.proofs.SentActs.{local-after}
use Rattle.ctl_mail.proofs.arrivals.local_last.Goals as goal

pub returns-in-Some : goal.returns-in-Some
returns-in-Some c =
    let told = told_by c.args.changes.now in
    let base = last_at c.args.store.now.local_last.kept c.args.buffer in
    let found : fold (newer_local c.args.buffer) None told.log ≡ Some c.in-Some.arrival = sym c.local_last.ensures ∙ c.in-Some.is in
    sym (local-after c.args.buffer base told.cycle (mail_of c.args.store.now) told.log None refl ∙ ap (λ (o : Option ℕ). unwrap_or o base) found)

pub returns-in-Some-get : goal.returns-in-Some-get
returns-in-Some-get c =
    let told = told_by c.args.changes.now in
    let kept = c.args.store.now.local_last.kept in
    let base = last_at kept c.args.buffer in
    ap (λ (o : Option ℕ). unwrap_or o 0) (c.in-Some-get.ensures ∙ ap (finite.get kept) c.from.ensures)
    ∙ sym (local-after c.args.buffer base told.cycle (mail_of c.args.store.now) told.log None refl ∙ ap (λ (o : Option ℕ). unwrap_or o base) (sym c.in_default.ensures))

pub returns-in-None : goal.returns-in-None
returns-in-None c =
    let told = told_by c.args.changes.now in
    let kept = c.args.store.now.local_last.kept in
    let base = last_at kept c.args.buffer in
    ap (λ (o : Option ℕ). unwrap_or o 0) (c.in-None.ensures ∙ ap (finite.get kept) c.from.ensures)
    ∙ sym (local-after c.args.buffer base told.cycle (mail_of c.args.store.now) told.log None refl ∙ ap (λ (o : Option ℕ). unwrap_or o base) (sym c.in_default.ensures))

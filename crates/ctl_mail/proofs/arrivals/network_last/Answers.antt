use Rattle.std.proofs.Common.{◌≡◌, ◌≤◌, ℕ, None, Some, Option, List, unwrap_or, slice_get, length, nat_cmp, refl, sym, ap, ◌∙◌, arith}
use Rattle.std.specs.List.{fold}
use Rattle.std.specs.Option.{option_copied}
use Rattle.std.specs.FinMap as finite
use Rattle.ruby_value.specs.Prelude.{Roomy}
use Rattle.ctl_face.specs.Prelude.{Lasts, last_at, lasts_on}
use Rattle.ctl_mail.specs.Prelude.{lasts_in, mail_of, newer_network, changed_mail, told_by}
use Rattle.ctl_mail.proofs.Places.{lasts-at, past-lasts, within-lasts}
use Rattle.ctl_mail.proofs.SentActs.{last-after, length-after, no-lasts-past}
use Rattle.ctl_mail.proofs.arrivals.network_last.Goals as goal

pub returns-in_default : goal.returns-in_default
returns-in_default c =
    let told = told_by c.args.changes.now in
    let mail = mail_of c.args.store.now in
    let networks = c.args.store.now.network_last.items in
    let none : slice_get networks c.args.network ≡ None =
    ap (λ (xs : List (Roomy Lasts)). slice_get xs c.args.network) (sym c.deref.ensures.value) ∙ (sym c.lasts_of.ensures ∙ ap option_copied c.in_default.is) in
    let past : length (lasts_in networks) ≤ c.args.network = past-lasts networks c.args.network none in
    let same : length (changed_mail mail told).network_last ≡ length (lasts_in networks) = length-after c.args.network c.args.receiver 0 told.cycle mail told.log in
    sym (ap (λ (l : Lasts). last_at l c.args.receiver) (no-lasts-past (changed_mail mail told).network_last c.args.network (omega arith)) ∙ ap (λ (o : Option ℕ). unwrap_or o 0) (finite.get-empty nat_cmp c.args.receiver))

pub returns-in-Some-network_last : goal.returns-in-Some-network_last
returns-in-Some-network_last c =
    let told = told_by c.args.changes.now in
    let mail = mail_of c.args.store.now in
    let networks = c.args.store.now.network_last.items in
    let base = last_at (lasts_on (lasts_in networks) c.args.network) c.args.receiver in
    let there : slice_get networks c.args.network ≡ Some c.in-Some.lasts.now =
    ap (λ (xs : List (Roomy Lasts)). slice_get xs c.args.network) (sym c.deref.ensures.value) ∙ (sym c.lasts_of.ensures ∙ ap option_copied c.in-Some.is) in
    let found : fold (newer_network c.args.network c.args.receiver) None told.log ≡ Some c.in-Some-network_last.arrival = sym c.network_last.ensures ∙ c.in-Some-network_last.is in
    sym (last-after c.args.network c.args.receiver base told.cycle mail told.log None (within-lasts networks c.args.network c.in-Some.lasts.now there) refl ∙ ap (λ (o : Option ℕ). unwrap_or o base) found)

pub returns-in-Some-get : goal.returns-in-Some-get
returns-in-Some-get c =
    let told = told_by c.args.changes.now in
    let mail = mail_of c.args.store.now in
    let networks = c.args.store.now.network_last.items in
    let kept = c.in-Some.lasts.now.kept in
    let base = last_at (lasts_on (lasts_in networks) c.args.network) c.args.receiver in
    let there : slice_get networks c.args.network ≡ Some c.in-Some.lasts.now =
    ap (λ (xs : List (Roomy Lasts)). slice_get xs c.args.network) (sym c.deref.ensures.value) ∙ (sym c.lasts_of.ensures ∙ ap option_copied c.in-Some.is) in
    ap (λ (o : Option ℕ). unwrap_or o 0) (c.in-Some-get.ensures ∙ ap (finite.get kept) c.from.ensures)
    ∙ (sym (ap (λ (l : Lasts). last_at l c.args.receiver) (lasts-at networks c.args.network c.in-Some.lasts.now there))
    ∙ sym (last-after c.args.network c.args.receiver base told.cycle mail told.log None (within-lasts networks c.args.network c.in-Some.lasts.now there) refl ∙ ap (λ (o : Option ℕ). unwrap_or o base) (sym c.in_default-network_last.ensures)))

pub returns-in-None : goal.returns-in-None
returns-in-None c =
    let told = told_by c.args.changes.now in
    let mail = mail_of c.args.store.now in
    let networks = c.args.store.now.network_last.items in
    let kept = c.in-Some.lasts.now.kept in
    let base = last_at (lasts_on (lasts_in networks) c.args.network) c.args.receiver in
    let there : slice_get networks c.args.network ≡ Some c.in-Some.lasts.now =
    ap (λ (xs : List (Roomy Lasts)). slice_get xs c.args.network) (sym c.deref.ensures.value) ∙ (sym c.lasts_of.ensures ∙ ap option_copied c.in-Some.is) in
    ap (λ (o : Option ℕ). unwrap_or o 0) (c.in-None.ensures ∙ ap (finite.get kept) c.from.ensures)
    ∙ (sym (ap (λ (l : Lasts). last_at l c.args.receiver) (lasts-at networks c.args.network c.in-Some.lasts.now there))
    ∙ sym (last-after c.args.network c.args.receiver base told.cycle mail told.log None (within-lasts networks c.args.network c.in-Some.lasts.now there) refl ∙ ap (λ (o : Option ℕ). unwrap_or o base) (sym c.in_default-network_last.ensures)))

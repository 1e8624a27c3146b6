-- In each world of a run a number that wasn't given is in no inbox: what is in one was sent, and each number that was sent was given.
use Rattle.std.proofs.Common.{◌≡◌, ◌≤◌, ◌&&◌, ◌==◌, ℕ, Bool, true, false, cond, Option, None, Some, List, length, refl, sym, ap, slice_get, eqb, ltb, arith}
use Rattle.std.proofs.lemmas.Bool.{le-ltb}
use Rattle.ruby_value.specs.declared.message.MsgNo.{MsgNo}
use Rattle.ruby_value.specs.Prelude.{same_number}
use Rattle.run_journal.specs.declared.entry.Entry.{Entry}
use Rattle.run_journal.specs.declared.event.Event.{Event}
use Rattle.protocol_runs.specs.Prelude.{given, given_at, HasFreshNumbers, mail_numbers, CarriesMail, IsSound, Rules, Mailed, IsRun, Place, World, held_mail}
use Rattle.protocol_runs.proofs.Accounted.{kept-along}
use Rattle.protocol_runs.proofs.Accounting.{stands, stands_by}
use Rattle.protocol_runs.proofs.Fitting.{world-fits}
use Rattle.protocol_runs.proofs.Tallies.{one, tally, counted, tally-map, tally-within}

module _ {C M D : Type 0} (r : Rules C M D) where
  not-below : (count n : ℕ) (b : Bool) → cond b n 0 ≤ count → one (b && ltb count n) ≡ 0
  not-below count n true above = ap one (le-ltb count n above)
  not-below count n false above = refl

  none-stands : (issued : ℕ) (n : ℕ) (number : MsgNo) (o : Option (Place C)) → given_at r issued (number.sender == n) o ≤ number.count
      → stands_by r n issued number o ≡ 0
  none-stands issued n number None above = not-below number.count issued (eqb number.sender n) above
  none-stands issued n number (Some p) above = ap one (le-ltb number.count (r.sent p.controller) above)

module _ {C M D : Type 0} (r : Rules C M D) (Fits : ℕ → C → ℕ → Type 0) (Suits : ℕ → M → ℕ → Type 0) (Leads : D → ℕ → ℕ → Type 0)
    (sound : IsSound r Fits Suits Leads) (carries : CarriesMail r Fits Suits Leads) where
  pub fresh-numbers : (history : List Event) (w : World C D) (journal : List Entry) → IsRun r history w journal → HasFreshNumbers r w
  fresh-numbers history w journal is number above c p there =
      let f : MsgNo → Bool = same_number number in
      let kept = kept-along r Fits Suits Leads sound carries history w journal is in
      let fits = world-fits r Fits Suits Leads sound history w journal is in
      let none : stands_by r (length w.places) w.issued number (slice_get w.places number.sender) ≡ 0 =
      none-stands r w.issued (length w.places) number (slice_get w.places number.sender) above in
      let same : stands r (length r.controllers) w.issued w.places number ≡ stands_by r (length w.places) w.issued number (slice_get w.places number.sender) =
      ap (λ (n : ℕ). stands_by r n w.issued number (slice_get w.places number.sender)) (sym fits.count) in
      let within : tally (λ (m : Mailed). f m.number) (r.mail p.controller) ≤ tally (λ (m : Mailed). f m.number) (held_mail r w.places) =
      tally-within (λ (m : Mailed). f m.number) (λ (q : Place C). r.mail q.controller) w.places c p there in
      omega (arith, none, same, within, kept.sent number, kept.moved f, counted f (mail_numbers r p.controller), tally-map f (λ (m : Mailed). m.number) (r.mail p.controller))

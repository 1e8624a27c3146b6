-- What comes to a controller of a protocol may come in either order: an inbox is by numbers, marks are a set, and credits are counted.
use Rattle.std.proofs.Common.{◌≡◌, ⊎_elim, ℕ, Bool, true, false, List, [], ◌∷◌, refl, sym, ◌∙◌, ap, subst, arith}
use Rattle.std.proofs.lemmas.Bool.Decides.{nat_tests}
use Rattle.ruby_value.specs.declared.message.Message.{Message}
use Rattle.ruby_value.specs.declared.message.MsgNo.{MsgNo}
use Rattle.ruby_value.specs.Prelude.{number_before, same_number, with_mark}
use Rattle.ctl_face.specs.declared.parcel.Credit.{Credit}
use Rattle.ctl_face.specs.declared.parcel.Parcel.TheVariants as parcel
use Rattle.ctl_face.specs.Inbox.{with_message}
use Rattle.ctl_face.specs.Prelude.{Ctl, InboxMessage, incoming_message, with_credit}
use Rattle.ctl_face.proofs.Credits.{credits_in_any_order}
use Rattle.ctl_face.proofs.Inboxes.{number_before_trans}
use Rattle.acts.proofs.Later.{apart, mark_passes, same_is_not}
use Rattle.acts.proofs.Lists.{puts_swap}
use Rattle.sequencer.specs.Prelude.{Drive, Seat}
use Rattle.protocol_runs.specs.Prelude.{Meaning, Setting, rules}
use Rattle.protocol_runs.proofs.Tallies.{counted, one}
use Rattle.schedule_laws.specs.Prelude.{DifferInNumbers, ArrivalsSwap}

abbrev Before : InboxMessage → InboxMessage → Bool
Before a b = number_before a.message.number b.message.number

number-one-way : (a b : MsgNo) → number_before a b ≡ true → number_before b a ≡ false
number-one-way a b is = grind (arith, nat_tests, is)

-- nothing comes before the first of two and after the second
between : (a b x : InboxMessage) → Before a b ≡ true → Before x a ≡ true → Before b x ≡ false
between a b x first low =
    number-one-way x.message.number b.message.number (number_before_trans x.message.number a.message.number b.message.number low first)

inboxes-swap : (a b : InboxMessage) → ¬ (a.message.number ≡ b.message.number) → (inbox : List InboxMessage)
    → with_message (with_message inbox a) b ≡ with_message (with_message inbox b) a
inboxes-swap a b differ inbox =
    ⊎_elim
    (λ (first : Before a b ≡ true).
    puts_swap Before a b first (number-one-way a.message.number b.message.number first) (λ x low. between a b x first low) inbox)
    (λ (second : Before b a ≡ true).
    sym (puts_swap Before b a second (number-one-way b.message.number a.message.number second) (λ x low. between b a x second low) inbox))
    (apart a.message.number b.message.number differ)

marks-swap : (a b : ℕ) (marks : List ℕ) → with_mark (with_mark marks a) b ≡ with_mark (with_mark marks b) a
marks-swap a b marks = let passes = mark_passes 0 0 [] a in passes.mark marks b

own-counted : (number : MsgNo) → one (same_number number number) ≡ 1
own-counted number = by (same_number number number) refl
  where
    by : (b : Bool) → same_number number number ≡ b → one b ≡ 1
    by true is = refl
    by false is = absurd (same_is_not number number is refl)

module _ {D : Type 0} (p : Meaning) (drive : D → List Seat → ℕ → Drive D) (s : Setting D) where
  -- a controller with another inbox, other marks and other credits
  abbrev with_mail : Ctl → List InboxMessage → List ℕ → List Credit → Ctl
  with_mail x inbox marks credits = record x { mail = record x.mail { inbox = inbox; marks = marks; credits = credits } }

  swapped : (x : Ctl) (i j : List InboxMessage) (m n : List ℕ) (c d : List Credit) → i ≡ j → m ≡ n → c ≡ d → with_mail x i m c ≡ with_mail x j n d
  swapped x i j m n c d inbox marks credits =
      ap (λ l. with_mail x l m c) inbox ∙ ap (λ l. with_mail x j l c) marks ∙ ap (λ l. with_mail x j n l) credits

  differ : (a b : Message) → DifferInNumbers (rules p drive s) (parcel.Message a) (parcel.Message b) → ¬ (a.number ≡ b.number)
  differ a b others same =
      let f : MsgNo → Bool = same_number a.number in
      let few = others a.number in
      let also : one (same_number a.number b.number) ≡ 1 = subst (λ (n : MsgNo). one (same_number a.number n) ≡ 1) same (own-counted a.number) in
      omega (arith, few, also, own-counted a.number, counted f (a.number ∷ []), counted f (b.number ∷ []))

  pub arrivals-swap : ArrivalsSwap (rules p drive s)
  arrivals-swap x (parcel.Message a) (parcel.Message b) others =
      swapped x _ _ _ _ x.mail.credits x.mail.credits
      (inboxes-swap (incoming_message a) (incoming_message b) (differ a b others) x.mail.inbox) (marks-swap a.arrival b.arrival x.mail.marks) refl
  arrivals-swap x (parcel.Message a) (parcel.Credit b) others =
      let inbox : List InboxMessage = with_message x.mail.inbox (incoming_message a) in
      let credits : List Credit = with_credit x.mail.credits b in
      swapped x inbox inbox _ _ credits credits refl (marks-swap a.arrival b.arrival x.mail.marks) refl
  arrivals-swap x (parcel.Credit a) (parcel.Message b) others =
      let inbox : List InboxMessage = with_message x.mail.inbox (incoming_message b) in
      let credits : List Credit = with_credit x.mail.credits a in
      swapped x inbox inbox _ _ credits credits refl (marks-swap a.arrival b.arrival x.mail.marks) refl
  arrivals-swap x (parcel.Credit a) (parcel.Credit b) others =
      swapped x x.mail.inbox x.mail.inbox _ _ _ _ refl (marks-swap a.arrival b.arrival x.mail.marks) (credits_in_any_order x.mail.credits a b)

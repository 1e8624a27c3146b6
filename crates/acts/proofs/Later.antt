-- A later message of another actor, a later credit, and a mark, are such additions.
use Rattle.std.proofs.Common.{◌≡◌, ◌<◌, ◌+◌, ◌⊎◌, ◌&&◌, ◌==◌, ⊎_elim, ℕ, Bool, true, false, cond, not, List, All, Contains, refl, sym, subst, ap, ◌∙◌, arith, nat_le, nat_lt}
use Rattle.std.proofs.lemmas.Bool.Decides.{nat_tests}
use Rattle.std.proofs.lemmas.List.Elements.{All-contains, All-weaker}
use Rattle.ruby_value.specs.declared.message.Message.{Message}
use Rattle.ruby_value.specs.declared.message.MsgNo.{MsgNo}
use Rattle.ruby_value.specs.Prelude.{with_mark, number_before, same_number}
use Rattle.ctl_face.specs.declared.parcel.Credit.{Credit}
use Rattle.ctl_face.specs.Prelude.{arrived_credits, is_credit_of, with_credit, InboxMessage, NumbersAscend, is_ready, incoming_message, message_waiting_no_longer}
use Rattle.ctl_face.specs.Inbox.{with_message}
use Rattle.ctl_face.proofs.Credits.{credit_counted, credits_in_any_order}
use Rattle.ctl_face.proofs.Inboxes.{KeepsNumber, number_before_trans}
use Rattle.acts.specs.Prelude.{IsNew}
use Rattle.acts.proofs.Frames.{Passes}
use Rattle.acts.proofs.Lists.{filter_passes_over, filter_put, map_put, puts_swap}

number_is : (a b : MsgNo) → a.sender ≡ b.sender → a.count ≡ b.count → a ≡ b
number_is a b sender count = λ i. record { sender = sender i; count = count i }

one_of_three : (a b : MsgNo) → ((a.sender ≡ b.sender) × (a.count ≡ b.count)) ⊎ ((number_before a b ≡ true) ⊎ (number_before b a ≡ true))
one_of_three a b = grind (arith, nat_tests)

pub apart : (a b : MsgNo) → ¬ (a ≡ b) → (number_before a b ≡ true) ⊎ (number_before b a ≡ true)
apart a b differ = ⊎_elim (λ same. absurd (differ (number_is a b same.0 same.1))) (λ other. other) (one_of_three a b)

same_or_not : (a b : MsgNo) → ((a.sender ≡ b.sender) × (a.count ≡ b.count)) ⊎ (same_number a b ≡ false)
same_or_not a b = grind (arith, nat_tests)

pub not_same : (a b : MsgNo) → ¬ (a ≡ b) → same_number a b ≡ false
not_same a b differ = ⊎_elim (λ same. absurd (differ (number_is a b same.0 same.1))) (λ is. is) (same_or_not a b)

pub same_is_not : (a b : MsgNo) → same_number a b ≡ false → ¬ (a ≡ b)
same_is_not a b is same = itself b (subst (λ (n : MsgNo). same_number n b ≡ false) same is)
  where
    itself : (n : MsgNo) → same_number n n ≡ false → ⊥
    itself n wrong = grind (arith, nat_tests, wrong)

number_one_way : (a b : MsgNo) → number_before a b ≡ true → number_before b a ≡ false
number_one_way a b is = grind (arith, nat_tests, is)

abbrev Before : InboxMessage → InboxMessage → Bool
Before a b = number_before a.message.number b.message.number

one_way : (a b : InboxMessage) → Before a b ≡ true → Before b a ≡ false
one_way a b = number_one_way a.message.number b.message.number

goes_on : (a b c : InboxMessage) → Before a b ≡ true → Before b c ≡ true → Before a c ≡ true
goes_on a b c = number_before_trans a.message.number b.message.number c.message.number

-- nothing comes before the first of two and after the second
between : (a b x : InboxMessage) → Before a b ≡ true → Before x a ≡ true → Before b x ≡ false
between a b x first low = one_way x b (goes_on x a b low first)

messages_swap : (a b : InboxMessage) → ¬ (a.message.number ≡ b.message.number) → (inbox : List InboxMessage) → with_message (with_message inbox a) b ≡ with_message (with_message inbox b) a
messages_swap a b differ inbox =
    ⊎_elim
    (λ (first : Before a b ≡ true). puts_swap Before a b first (one_way a b first) (λ x low. between a b x first low) inbox)
    (λ (second : Before b a ≡ true). sym (puts_swap Before b a second (one_way b a second) (λ x low. between b a x second low) inbox))
    (apart a.message.number b.message.number differ)

late : (a n : ℕ) → n < a → nat_le a n ≡ false
late a n is = grind (arith, nat_tests, is)

not_yet : (buffer now : ℕ) (m : Message) → now < m.arrival → is_ready buffer now (incoming_message m) ≡ false
not_yet buffer now m later = go (m.buffer == buffer) (nat_le m.arrival now) (late m.arrival now later)
  where
    go : (b c : Bool) → c ≡ false → (b && c && true) ≡ false
    go true true is = is
    go true false is = refl
    go false c is = refl

module _ (me now : ℕ) (inbox : List InboxMessage) (ascends : NumbersAscend inbox) (m : Message) (new : IsNew me now inbox m) where
  all_apart : All (λ (o : InboxMessage). (Before o (incoming_message m) ≡ true) ⊎ (Before (incoming_message m) o ≡ true)) inbox
  all_apart = All-weaker (λ (o : InboxMessage). ¬ (o.message.number ≡ m.number)) (λ (o : InboxMessage). (Before o (incoming_message m) ≡ true) ⊎ (Before (incoming_message m) o ≡ true)) (λ o differ. apart o.message.number m.number differ) inbox new.unknown

  not_it : (n : Message) → Contains inbox (incoming_message n) → same_number m.number n.number ≡ false
  not_it n there =
      not_same m.number n.number (λ same. All-contains (λ (o : InboxMessage). ¬ (o.message.number ≡ m.number)) inbox (incoming_message n) new.unknown there (sym same))

  pub message_passes : Passes me now (λ l. with_message l (incoming_message m)) (λ marks. marks) (λ credits. credits) inbox
  message_passes = record {
    ready = λ buffer. filter_passes_over Before one_way goes_on (incoming_message m) (is_ready buffer now) inbox (not_yet buffer now m new.later) ascends all_apart;
    out = λ n there. filter_put Before (λ (o : InboxMessage). not (same_number o.message.number n.number)) inbox (incoming_message m) (ap not (not_it n there));
    changed = λ n there change keeps.
        let one : InboxMessage → InboxMessage = λ o. cond (same_number o.message.number n.number) (change o) o in
        let number : (o : InboxMessage) → (one o).message.number ≡ o.message.number = λ o. go (same_number o.message.number n.number) change keeps o in
        map_put Before one inbox (incoming_message m) (ap (λ (b : Bool). cond b (change (incoming_message m)) (incoming_message m)) (not_it n there))
        (λ o. ap (λ (k : MsgNo). number_before k m.number) (number o)) (λ o. ap (λ (k : MsgNo). number_before m.number k) (number o));
    woken = λ test none.
        let one : InboxMessage → InboxMessage = λ o. cond (test o.waiting) (message_waiting_no_longer o) o in
        let number : (o : InboxMessage) → (one o).message.number ≡ o.message.number = λ o. go (test o.waiting) message_waiting_no_longer (λ x. refl) o in
        map_put Before one inbox (incoming_message m) (ap (λ (b : Bool). cond b (message_waiting_no_longer (incoming_message m)) (incoming_message m)) none)
        (λ o. ap (λ (k : MsgNo). number_before k m.number) (number o)) (λ o. ap (λ (k : MsgNo). number_before m.number k) (number o));
    told = λ test none. filter_passes_over Before one_way goes_on (incoming_message m) (λ (o : InboxMessage). test o.waiting) inbox none ascends all_apart;
    put = λ l n own. messages_swap (incoming_message m) (incoming_message n) (λ same. new.other (ap (λ (k : MsgNo). k.sender) same ∙ own)) l;
    mark = λ l c. refl;
    credit = λ l c. refl;
    arrived = λ l receiver buffer. refl;
  }
    where
      go : (b : Bool) (change : InboxMessage → InboxMessage) → KeepsNumber change → (o : InboxMessage) → (cond b (change o) o).message.number ≡ o.message.number
      go true change keeps o = keeps o
      go false change keeps o = refl

-- a mark
lt_one_way : (a b : ℕ) → nat_lt a b ≡ true → nat_lt b a ≡ false
lt_one_way a b is = grind (arith, nat_tests, is)

lt_between : (a b x : ℕ) → nat_lt a b ≡ true → nat_lt x a ≡ true → nat_lt b x ≡ false
lt_between a b x first low = grind (arith, nat_tests, first, low)

of_three : (a b : ℕ) → (a ≡ b) ⊎ ((nat_lt a b ≡ true) ⊎ (nat_lt b a ≡ true))
of_three a b = grind (arith, nat_tests)

marks_swap : (a b : ℕ) (marks : List ℕ) → with_mark (with_mark marks a) b ≡ with_mark (with_mark marks b) a
marks_swap a b marks =
    ⊎_elim
    (λ (same : a ≡ b). subst (λ (x : ℕ). with_mark (with_mark marks a) x ≡ with_mark (with_mark marks x) a) same refl)
    (λ differ.
    ⊎_elim
    (λ (first : nat_lt a b ≡ true). puts_swap nat_lt a b first (lt_one_way a b first) (λ x low. lt_between a b x first low) marks)
    (λ (second : nat_lt b a ≡ true). sym (puts_swap nat_lt b a second (lt_one_way b a second) (λ x low. lt_between b a x second low) marks))
    differ)
    (of_three a b)

pub mark_passes : (me now : ℕ) (inbox : List InboxMessage) (cycle : ℕ) → Passes me now (λ l. l) (λ marks. with_mark marks cycle) (λ credits. credits) inbox
mark_passes me now inbox cycle = record {
  ready = λ buffer. refl;
  out = λ n there. refl;
  changed = λ n there change keeps. refl;
  woken = λ test none. refl;
  told = λ test none. refl;
  put = λ l n own. refl;
  mark = λ l c. marks_swap cycle c l;
  credit = λ l c. refl;
  arrived = λ l receiver buffer. refl;
}

-- a credit
not_arrived : (credits : List Credit) (c : Credit) (receiver buffer now : ℕ) → now < c.arrival → arrived_credits (with_credit credits c) receiver buffer now ≡ arrived_credits credits receiver buffer now
not_arrived credits c receiver buffer now later =
    let more = credit_counted credits c receiver buffer now in
    let none = none_more (is_credit_of receiver buffer c) (nat_le c.arrival now) (late c.arrival now later) in
    omega arith
  where
    none_more : (b d : Bool) → d ≡ false → ◌≡◌ {A = ℕ} (cond (b && d) 1 0) 0
    none_more true d is = rw is refl
    none_more false d is = refl

pub credit_passes : (me now : ℕ) (inbox : List InboxMessage) (k : Credit) → now < k.arrival → Passes me now (λ l. l) (λ marks. marks) (λ credits. with_credit credits k) inbox
credit_passes me now inbox k later = record {
  ready = λ buffer. refl;
  out = λ n there. refl;
  changed = λ n there change keeps. refl;
  woken = λ test none. refl;
  told = λ test none. refl;
  put = λ l n own. refl;
  mark = λ l c. refl;
  credit = λ l c. credits_in_any_order l k c;
  arrived = λ l receiver buffer. not_arrived l k receiver buffer now later;
}

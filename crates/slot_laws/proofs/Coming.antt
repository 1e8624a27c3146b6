-- What comes to one controller of a run, and what it does to slots: messages with new numbers go into the inbox, and credits for later
-- cycles to the credits.
use Rattle.std.proofs.Common.{◌≡◌, ◌<◌, ◌≤◌, ◌+◌, ◌&&◌, ◌==◌, ℕ, Bool, true, false, not, cond, List, [], ◌∷◌, filter, All, eqb-true, get_or, ne_eqb, refl, sym, ◌∙◌, ap, arith}
use Rattle.std.specs.Prelude.{count_by}
use Rattle.std.specs.List.{flat_map, fold}
use Rattle.std.proofs.lemmas.Bool.{and_parts}
use Rattle.std.proofs.lemmas.Bool.Decides.{nat_tests}
use Rattle.std.proofs.lemmas.List.Elements.{All-cons, All-head, All-nil, All-tail, All-weaker}
use Rattle.ruby_value.specs.declared.message.Message.{Message}
use Rattle.ruby_value.specs.declared.message.MsgNo.{MsgNo}
use Rattle.ruby_value.specs.Prelude.{number_before, same_number}
use Rattle.ctl_face.specs.declared.parcel.Parcel.{Parcel}
use Rattle.ctl_face.specs.declared.parcel.Parcel.TheVariants as parcel
use Rattle.ctl_face.specs.Prelude.{Ctl, InboxMessage, arrived_credits, incoming_message, is_credit_of, with_arrival, with_parcel_arrival}
use Rattle.ctl_face.specs.Inbox.{with_message}
use Rattle.ctl_face.proofs.Credits.{credit_counted}
use Rattle.protocol_runs.specs.Prelude.{parcel_numbers}
use Rattle.slot_laws.specs.Prelude.{credits_held, is_message_of, messages_held}
use Rattle.slot_laws.proofs.Counts.{count-append, count-cons, count-put, one}
use Rattle.slot_laws.proofs.Slotting.{credit_more, none_now}

-- a controller to which these have come, one after the other
abbrev pub come : Ctl → List Parcel → Ctl
come x ps = fold with_parcel_arrival x ps

-- a parcel that is a message of this sender in this buffer, and one that is a credit of this buffer at this receiver
abbrev pub brings_message : (sender buffer : ℕ) → Parcel → Bool
brings_message sender buffer (parcel.Message m) = is_message_of sender buffer (incoming_message m)
brings_message sender buffer (parcel.Credit c) = false

abbrev pub brings_credit : (receiver buffer : ℕ) → Parcel → Bool
brings_credit receiver buffer (parcel.Message m) = false
brings_credit receiver buffer (parcel.Credit c) = is_credit_of receiver buffer c

-- slots in use, and credits

pub lent_stays : (x : Ctl) (ps : List Parcel) → (come x ps).mail.lent ≡ x.mail.lent
lent_stays x [] = refl
lent_stays x (parcel.Message m ∷ ps) = lent_stays (with_arrival x m) ps
lent_stays x (parcel.Credit c ∷ ps) = lent_stays (with_parcel_arrival x (parcel.Credit c)) ps

pub credits_come : (r b : ℕ) (x : Ctl) (ps : List Parcel) → credits_held (come x ps).mail.credits r b ≡ credits_held x.mail.credits r b + count_by (brings_credit r b) ps
credits_come r b x [] = omega arith
credits_come r b x (parcel.Message m ∷ ps) =
    let rest = credits_come r b (with_arrival x m) ps in
    let all = count-cons (brings_credit r b) (parcel.Message m) ps in
    omega arith
credits_come r b x (parcel.Credit c ∷ ps) =
    let rest = credits_come r b (with_parcel_arrival x (parcel.Credit c)) ps in
    let all = count-cons (brings_credit r b) (parcel.Credit c) ps in
    let more = credit_more (is_credit_of r b) x.mail.credits c in
    omega arith

-- what comes counts later alone
abbrev pub ComesLater : ℕ → Parcel → Type 0
ComesLater now (parcel.Message m) = Unit {0}
ComesLater now (parcel.Credit c) = now < c.arrival

pub arrived_stay : (r b now : ℕ) (x : Ctl) (ps : List Parcel) → All (ComesLater now) ps → arrived_credits (come x ps).mail.credits r b now ≡ arrived_credits x.mail.credits r b now
arrived_stay r b now x [] later = refl
arrived_stay r b now x (parcel.Message m ∷ ps) later = arrived_stay r b now (with_arrival x m) ps (All-tail (ComesLater now) (parcel.Message m) ps later)
arrived_stay r b now x (parcel.Credit c ∷ ps) later =
    let rest = arrived_stay r b now (with_parcel_arrival x (parcel.Credit c)) ps (All-tail (ComesLater now) (parcel.Credit c) ps later) in
    let more = credit_counted x.mail.credits c r b now in
    let none = none_now (is_credit_of r b c) c.arrival now (All-head (ComesLater now) (parcel.Credit c) ps later) in
    omega arith

-- messages

none_all : {X : Type 0} (t : X → Bool) (xs : List X) → count_by t xs ≡ 0 → All (λ x. t x ≡ false) xs
none_all t [] none = All-nil (λ x. t x ≡ false)
none_all {X} t (x ∷ xs) none = by (t x) refl (count-cons t x xs) (λ rest. none_all t xs rest)
  where
    by : (b : Bool) → t x ≡ b → count_by t (x ∷ xs) ≡ cond b 1 0 + count_by t xs → (count_by t xs ≡ 0 → All (λ y. t y ≡ false) xs) → All (λ y. t y ≡ false) (x ∷ xs)
    by true is all others = absurd (omega arith)
    by false is all others = All-cons (λ y. t y ≡ false) x xs is (others (omega arith))

abbrev has_number : MsgNo → InboxMessage → Bool
has_number number o = same_number number o.message.number

-- no number is twice among those of an inbox and of what comes
abbrev pub AreNewTo : List InboxMessage → List Parcel → Type 0
AreNewTo inbox ps = (number : MsgNo) → count_by (same_number number) (flat_map parcel_numbers ps) + count_by (has_number number) inbox ≤ 1

apart : (a b : MsgNo) → same_number a b ≡ false → number_before a b ≡ not (number_before b a)
apart a b differ = grind (arith, nat_tests, differ)

same_itself : (a : MsgNo) → same_number a a ≡ true
same_itself a = grind (arith, nat_tests)

put : (t : InboxMessage → Bool) (inbox : List InboxMessage) (m : Message) → count_by (has_number m.number) inbox ≡ 0 → count_by t (with_message inbox (incoming_message m)) ≡ one t (incoming_message m) + count_by t inbox
put t inbox m none =
    count-put t (λ (o : InboxMessage). number_before o.message.number m.number) (λ (o : InboxMessage). number_before m.number o.message.number) (incoming_message m) inbox
    (All-weaker (λ (o : InboxMessage). has_number m.number o ≡ false) (λ (o : InboxMessage). number_before m.number o.message.number ≡ not (number_before o.message.number m.number))
    (λ o differ. apart m.number o.message.number differ) inbox (none_all (has_number m.number) inbox none))

pub messages_come : (sender b : ℕ) (x : Ctl) (ps : List Parcel) → AreNewTo x.mail.inbox ps
    → messages_held (come x ps).mail.inbox sender b ≡ messages_held x.mail.inbox sender b + count_by (brings_message sender b) ps
messages_come sender b x [] new = omega arith
messages_come sender b x (parcel.Credit c ∷ ps) new =
    let rest = messages_come sender b (with_parcel_arrival x (parcel.Credit c)) ps new in
    let all = count-cons (brings_message sender b) (parcel.Credit c) ps in
    omega arith
messages_come sender b x (parcel.Message m ∷ ps) new =
    let numbers : List MsgNo = flat_map parcel_numbers ps in
    let own : one (same_number m.number) m.number ≡ 1 = ap (λ (t : Bool). cond t 1 0) (same_itself m.number) in
    let first = count-cons (same_number m.number) m.number numbers in
    let few = new m.number in
    let none : count_by (has_number m.number) x.mail.inbox ≡ 0 = omega arith in
    let rest =
    messages_come sender b (with_arrival x m) ps
    (λ number.
    let also = count-cons (same_number number) m.number numbers in
    let more = put (has_number number) x.mail.inbox m none in
    let all = new number in
    omega arith) in
    let all = count-cons (brings_message sender b) (parcel.Message m) ps in
    let more = put (is_message_of sender b) x.mail.inbox m none in
    omega arith

-- messages of others

module _ {X : Type 0} (t p q : X → Bool) where
  one_of : (x : X) (xs F G : List X) (b c d : Bool) → t x ≡ b → (b ≡ true → d ≡ not c) → count_by t F + count_by t G ≡ count_by t xs
      → count_by t (cond c (x ∷ F) F) + count_by t (cond d (x ∷ G) G) ≡ count_by t (x ∷ xs)
  one_of x xs F G false true true is apart rest =
      let none : one t x ≡ 0 = ap (λ (k : Bool). cond k 1 0) is in
      let f = count-cons t x F in
      let g = count-cons t x G in
      let all = count-cons t x xs in
      omega arith
  one_of x xs F G false true false is apart rest =
      let none : one t x ≡ 0 = ap (λ (k : Bool). cond k 1 0) is in
      let f = count-cons t x F in
      let all = count-cons t x xs in
      omega arith
  one_of x xs F G false false true is apart rest =
      let none : one t x ≡ 0 = ap (λ (k : Bool). cond k 1 0) is in
      let g = count-cons t x G in
      let all = count-cons t x xs in
      omega arith
  one_of x xs F G false false false is apart rest =
      let none : one t x ≡ 0 = ap (λ (k : Bool). cond k 1 0) is in
      let all = count-cons t x xs in
      omega arith
  one_of x xs F G true true true is apart rest = absurd (cc (apart refl))
  one_of x xs F G true true false is apart rest =
      let f = count-cons t x F in
      let all = count-cons t x xs in
      omega arith
  one_of x xs F G true false true is apart rest =
      let g = count-cons t x G in
      let all = count-cons t x xs in
      omega arith
  one_of x xs F G true false false is apart rest = absurd (cc (apart refl))

  -- each item that is counted passes one of two tests
  parts_of : (xs : List X) → All (λ x. t x ≡ true → q x ≡ not (p x)) xs → count_by t (filter p xs) + count_by t (filter q xs) ≡ count_by t xs
  parts_of [] all = omega arith
  parts_of (x ∷ xs) all =
      let P : X → Type 0 = λ y. t y ≡ true → q y ≡ not (p y) in
      one_of x xs (filter p xs) (filter q xs) (t x) (p x) (q x) refl (All-head P x xs all) (parts_of xs (All-tail P x xs all))

sender_of : (sender b : ℕ) (o : InboxMessage) → is_message_of sender b o ≡ true → o.message.number.sender ≡ sender
sender_of sender b o is = let parts = and_parts (o.message.number.sender == sender) (o.message.buffer == b) is in eqb-true o.message.number.sender sender parts.0

apart_senders : (a b : MsgNo) → (a.sender ≡ b.sender → ⊥) → number_before b a ≡ not (number_before a b)
apart_senders a b other = grind (arith, nat_tests, other)

put_other : (sender b : ℕ) (inbox : List InboxMessage) (m : Message) → ¬ (m.number.sender ≡ sender) → messages_held (with_message inbox (incoming_message m)) sender b ≡ messages_held inbox sender b
put_other sender b inbox m other =
    let t = is_message_of sender b in
    let before : List InboxMessage = filter (λ (o : InboxMessage). number_before o.message.number m.number) inbox in
    let after : List InboxMessage = filter (λ (o : InboxMessage). number_before m.number o.message.number) inbox in
    let none : one t (incoming_message m) ≡ 0 = ap (λ (k : Bool). cond (k && (m.buffer == b)) 1 0) (ne_eqb m.number.sender sender other) in
    let both =
    parts_of t (λ (o : InboxMessage). number_before o.message.number m.number) (λ (o : InboxMessage). number_before m.number o.message.number) inbox
    (λ k d within is. let own = sender_of sender b (get_or inbox k d) is in apart_senders (get_or inbox k d).message.number m.number (λ same. other (sym same ∙ own))) in
    let joined = count-append t before (incoming_message m ∷ after) in
    let middle = count-cons t (incoming_message m) after in
    omega arith

-- what comes isn't of this sender
abbrev pub IsOfOther : ℕ → Parcel → Type 0
IsOfOther sender (parcel.Message m) = ¬ (m.number.sender ≡ sender)
IsOfOther sender (parcel.Credit c) = Unit {0}

pub messages_stay : (sender b : ℕ) (x : Ctl) (ps : List Parcel) → All (IsOfOther sender) ps → messages_held (come x ps).mail.inbox sender b ≡ messages_held x.mail.inbox sender b
messages_stay sender b x [] others = refl
messages_stay sender b x (parcel.Credit c ∷ ps) others = messages_stay sender b (with_parcel_arrival x (parcel.Credit c)) ps (All-tail (IsOfOther sender) (parcel.Credit c) ps others)
messages_stay sender b x (parcel.Message m ∷ ps) others =
    messages_stay sender b (with_arrival x m) ps (All-tail (IsOfOther sender) (parcel.Message m) ps others)
    ∙ put_other sender b x.mail.inbox m (All-head (IsOfOther sender) (parcel.Message m) ps others)

-- What a send, a dequeue and a change of messages do to slots and credits.
use Rattle.std.proofs.Common.{◌≡◌, ◌<◌, ◌+◌, ◌==◌, ◌&&◌, ◌++◌, ℕ, Bool, true, false, cond, not, List, [], ◌∷◌, map, filter, All, Contains, IsTrue, refl, sym, ap, subst, ◌∙◌, arith, length, nat_le, nat_lt}
use Rattle.std.specs.Prelude.{count_by}
use Rattle.std.proofs.lemmas.Bool.{and_from, and_parts, eq-eqb, eqb-true, lt-ltb}
use Rattle.std.proofs.lemmas.Bool.Decides.{nat_tests}
use Rattle.std.proofs.lemmas.List.Elements.{All-weaker}
use Rattle.std.proofs.lemmas.List.Filters.{sum_by-filter_both}
use Rattle.ruby_value.specs.declared.message.Delivery.{Delivery}
use Rattle.ruby_value.specs.declared.message.Message.{Message}
use Rattle.ruby_value.specs.declared.message.MsgNo.{MsgNo}
use Rattle.ruby_value.specs.declared.message.Sent.{Sent}
use Rattle.ruby_value.specs.Prelude.{numbers_from}
use Rattle.ctl_face.specs.declared.parcel.Credit.{Credit}
use Rattle.ctl_face.specs.declared.parcel.Lent.{Lent}
use Rattle.ctl_face.specs.declared.parcel.Parcel.{Parcel}
use Rattle.ctl_face.specs.declared.routes.Routes.{Routes}
use Rattle.ctl_face.specs.Prelude.{Actor, AddsCopies, InboxMessage, Mail, NumbersAscend, Sending, arrived_credits, controller_count, credit_before, credit_for, credits_among, had_slot, incoming_message, is_credit_of, lent_after, lent_after_all, lent_at, mail_after_dequeue, mail_if_credited, mail_with_own, mail_without, parcels_for_others, posted_credits, sent_of, size_of, with_credit, with_credit_parcel, with_lent, without_message}
use Rattle.ctl_face.proofs.Credits.{credit_counted, lent_counted}
use Rattle.ctl_face.proofs.Parcels.{credits_after_sending, credits_among-append}
use Rattle.acts.proofs.Mail.{all_from_map, all_of_sender}
use Rattle.slot_laws.specs.Prelude.{MovesSlots, copies_sent, credits_held, has_size, is_credit_to, is_message_of, is_note_to, messages_held}
use Rattle.slot_laws.proofs.Counts.{count-append, count-changed, count-cons, count-map, count-none, count-same, one}
use Rattle.slot_laws.proofs.Held.{AreBelow, comes_in, own_counted, taken}

pub none_either : (b : Bool) → ◌≡◌ {A = ℕ} (cond b 0 0) 0
none_either true = refl
none_either false = refl

never : (b : Bool) (n : ℕ) → ◌≡◌ {A = ℕ} (cond (b && false) n 0) 0
never true n = refl
never false n = refl

sum_if : (b : Bool) (x y : ℕ) → ◌≡◌ {A = ℕ} (cond b (x + y) 0) (cond b x 0 + cond b y 0)
sum_if true x y = refl
sum_if false x y = omega arith

unequal : (a b : ℕ) → ¬ (a ≡ b) → (a == b) ≡ false
unequal a b differ = by (a == b) refl
  where
    by : (t : Bool) → (a == b) ≡ t → t ≡ false
    by true is = absurd (differ (eqb-true a b is))
    by false is = refl

-- slots in use
same_size : (routes : Routes) (receiver buffer r b : ℕ) → (receiver == r && buffer == b) ≡ true → has_size routes receiver buffer ≡ has_size routes r b
same_size routes receiver buffer r b is =
    let parts = and_parts (receiver == r) (buffer == b) is in
    ap (λ (x : ℕ). has_size routes x buffer) (eqb-true receiver r parts.0) ∙ ap (λ (x : ℕ). has_size routes r x) (eqb-true buffer b parts.1)

lent_one : (routes : Routes) (lent : List Lent) (receiver buffer r b : ℕ)
    → lent_at (lent_after routes lent receiver buffer) r b ≡ lent_at lent r b + cond (has_size routes r b) (cond (receiver == r && buffer == b) 1 0) 0
lent_one routes lent receiver buffer r b = by (has_size routes receiver buffer) refl (receiver == r && buffer == b) refl
  where
    by : (s : Bool) → has_size routes receiver buffer ≡ s → (m : Bool) → (receiver == r && buffer == b) ≡ m
        → lent_at (cond s (with_lent lent receiver buffer) lent) r b ≡ lent_at lent r b + cond (has_size routes r b) (cond m 1 0) 0
    by true is true same =
        rw (sym (same_size routes receiver buffer r b same) ∙ is)
        (lent_counted lent receiver buffer r b ∙ ap (λ (m : Bool). lent_at lent r b + cond m 1 0) same)
    by true is false same =
        lent_counted lent receiver buffer r b ∙ ap (λ (m : Bool). lent_at lent r b + cond m 1 0) same
        ∙ ap (λ (k : ℕ). lent_at lent r b + k) (sym (none_either (has_size routes r b)))
    by false is true same = rw (sym (same_size routes receiver buffer r b same) ∙ is) (omega arith)
    by false is false same = let none = none_either (has_size routes r b) in omega arith

abbrev goes_to : (receiver buffer : ℕ) → Delivery Message → Bool
goes_to receiver buffer c = c.receiver == receiver && c.message.buffer == buffer

lent_all : (routes : Routes) (r b : ℕ) (copies : List (Delivery Message)) (lent : List Lent)
    → lent_at (lent_after_all routes lent copies) r b ≡ lent_at lent r b + cond (has_size routes r b) (count_by (goes_to r b) copies) 0
lent_all routes r b [] lent = let none = none_either (has_size routes r b) in omega arith
lent_all routes r b (c ∷ copies) lent =
    let sized = has_size routes r b in
    let later = lent_all routes r b copies (lent_after routes lent c.receiver c.message.buffer) in
    let here = lent_one routes lent c.receiver c.message.buffer r b in
    let all : cond sized (count_by (goes_to r b) (c ∷ copies)) 0 ≡ cond sized (one (goes_to r b) c) 0 + cond sized (count_by (goes_to r b) copies) 0 =
    ap (λ (k : ℕ). cond sized k 0) (count-cons (goes_to r b) c copies) ∙ sum_if sized (one (goes_to r b) c) (count_by (goes_to r b) copies) in
    omega arith

-- a credit more
pub credit_more : (t : Credit → Bool) (credits : List Credit) (c : Credit) → count_by t (with_credit credits c) ≡ count_by t credits + one t c
credit_more t credits c =
    let before = filter (λ (o : Credit). not (credit_before c o)) credits in
    let after = filter (λ (o : Credit). credit_before c o) credits in
    let joined = count-append t before (c ∷ after) in
    let middle = count-cons t c after in
    let both = sum_by-filter_both (λ (o : Credit). credit_before c o) (λ (o : Credit). not (credit_before c o)) (λ o. refl) (one t) credits in
    omega arith

pub none_now : (b : Bool) (arrival now : ℕ) → now < arrival → ◌≡◌ {A = ℕ} (cond (b && nat_le arrival now) 1 0) 0
none_now b arrival now later = by b (nat_le arrival now) (late arrival now later)
  where
    late : (a n : ℕ) → n < a → nat_le a n ≡ false
    late a n is = grind (arith, nat_tests, is)

    by : (b d : Bool) → d ≡ false → ◌≡◌ {A = ℕ} (cond (b && d) 1 0) 0
    by true d is = rw is refl
    by false d is = refl

module _ (mail : Mail) (c : Credit) where
  credited_inbox : (b : Bool) → (mail_if_credited b mail c).inbox ≡ mail.inbox
  credited_inbox true = refl
  credited_inbox false = refl

  credited_lent : (b : Bool) → (mail_if_credited b mail c).lent ≡ mail.lent
  credited_lent true = refl
  credited_lent false = refl

  credited_held : (b : Bool) (r buffer : ℕ) → credits_held (mail_if_credited b mail c).credits r buffer ≡ credits_held mail.credits r buffer + cond b (one (is_credit_of r buffer) c) 0
  credited_held true r buffer = credit_more (is_credit_of r buffer) mail.credits c
  credited_held false r buffer = omega arith

  credited_arrived : (b : Bool) (r buffer now : ℕ) → now < c.arrival → arrived_credits (mail_if_credited b mail c).credits r buffer now ≡ arrived_credits mail.credits r buffer now
  credited_arrived true r buffer now later =
      let more = credit_counted mail.credits c r buffer now in
      let none = none_now (is_credit_of r buffer c) c.arrival now later in
      omega arith
  credited_arrived false r buffer now later = refl

posted_one : (b : Bool) (d : Delivery Credit) (sender buffer : ℕ) → count_by (is_credit_to sender buffer) (credits_among (cond b (with_credit_parcel d ∷ []) [])) ≡ cond b (one (is_credit_to sender buffer) d) 0
posted_one true d sender buffer = let more = count-cons (is_credit_to sender buffer) d [] in omega arith
posted_one false d sender buffer = refl

module _ (actor : Actor) (now : ℕ) (before mail : Mail) (sent : List Sent) (posted : List (Delivery Parcel)) (is : MovesSlots actor now before mail sent posted) where
  -- other marks
  pub marked : (marks : List ℕ) → MovesSlots actor now before (record mail { marks = marks }) sent posted
  marked marks = record { lent = is.lent; from_others = is.from_others; from_itself = is.from_itself; other_receivers = is.other_receivers; arrived = is.arrived }

  -- some messages change, but for their numbers and buffers
  pub renewed : (marks : List ℕ) (test : InboxMessage → Bool) (change : InboxMessage → InboxMessage) → ((sender buffer : ℕ) (o : InboxMessage) → is_message_of sender buffer (change o) ≡ is_message_of sender buffer o)
      → MovesSlots actor now before (record mail { inbox = map (λ (o : InboxMessage). cond (test o) (change o) o) mail.inbox; marks = marks }) sent posted
  renewed marks test change keeps = record {
    lent = is.lent;
    from_others = λ sender buffer other there sized.
        let old = is.from_others sender buffer other there sized in
        let same = count-changed (is_message_of sender buffer) test change (keeps sender buffer) mail.inbox in
        omega arith;
    from_itself = λ buffer there sized.
        let old = is.from_itself buffer there sized in
        let same = count-changed (is_message_of actor.me buffer) test change (keeps actor.me buffer) mail.inbox in
        omega arith;
    other_receivers = is.other_receivers;
    arrived = is.arrived;
  }

  -- copies are sent
  module _ (s : Sending) (receivers : List ℕ) (words : ℕ) (P : Delivery Message → Type 0) (adds : AddsCopies actor mail receivers words P s) (below : AreBelow actor.me mail.sent mail.inbox) where
    own : All (λ (c : Delivery Message). c.message.number.sender ≡ actor.me) s.copies
    own =
        all_from_map (λ (n : MsgNo). n.sender ≡ actor.me) (λ (c : Delivery Message). c.message.number) s.copies
        (subst (All (λ (n : MsgNo). n.sender ≡ actor.me)) (sym adds.numbers) (all_of_sender actor.me mail.sent (length receivers)))

    come_in : (t : InboxMessage → Bool) → count_by t s.mail.inbox ≡ count_by t mail.inbox + count_by (comes_in t actor.me) s.copies
    come_in t = ap (count_by t) adds.inbox ∙ own_counted t actor.me mail.sent (length receivers) s.copies mail adds.numbers below

    of_nobody_else : (sender buffer : ℕ) → ¬ (sender ≡ actor.me) → (c : Delivery Message) → c.message.number.sender ≡ actor.me → comes_in (is_message_of sender buffer) actor.me c ≡ false
    of_nobody_else sender buffer other c own_is =
        by (c.receiver == actor.me) (c.message.number.sender == sender) (c.message.buffer == buffer) (unequal c.message.number.sender sender (λ same. other (sym same ∙ own_is)))
      where
        by : (a b d : Bool) → b ≡ false → (a && (b && d)) ≡ false
        by true b d is = rw is refl
        by false b d is = refl

    of_itself : (buffer : ℕ) (c : Delivery Message) → c.message.number.sender ≡ actor.me → comes_in (is_message_of actor.me buffer) actor.me c ≡ goes_to actor.me buffer c
    of_itself buffer c own_is = ap (λ (b : Bool). c.receiver == actor.me && (b && c.message.buffer == buffer)) (eq-eqb c.message.number.sender actor.me own_is)

    notes : (r b : ℕ) → copies_sent (sent ++ map sent_of s.copies) r b ≡ copies_sent sent r b + count_by (goes_to r b) s.copies
    notes r b =
        count-append (is_note_to r b) sent (map sent_of s.copies)
        ∙ ap (λ (k : ℕ). copies_sent sent r b + k) (count-map sent_of (is_note_to r b) s.copies)

    pub sent_slots : MovesSlots actor now before s.mail (sent ++ map sent_of s.copies) (posted ++ parcels_for_others actor.me s.copies)
    sent_slots = record {
      lent = λ r b.
          let sized = has_size actor.routes r b in
          let old = is.lent r b in
          let new = ap (λ (l : List Lent). lent_at l r b) adds.lent ∙ lent_all actor.routes r b s.copies mail.lent in
          let more = ap (λ (k : ℕ). cond sized k 0) (notes r b) ∙ sum_if sized (copies_sent sent r b) (count_by (goes_to r b) s.copies) in
          omega arith;
      from_others = λ sender buffer other there sized.
          let old = is.from_others sender buffer other there sized in
          let new = come_in (is_message_of sender buffer) in
          let none =
          count-none (comes_in (is_message_of sender buffer) actor.me) s.copies
          (All-weaker (λ (c : Delivery Message). c.message.number.sender ≡ actor.me) (λ (c : Delivery Message). comes_in (is_message_of sender buffer) actor.me c ≡ false) (of_nobody_else sender buffer other) s.copies own) in
          let credits = ap (count_by (is_credit_to sender buffer)) (credits_after_sending posted actor.me s.copies) in
          omega arith;
      from_itself = λ buffer there sized.
          let old = is.from_itself buffer there sized in
          let new = come_in (is_message_of actor.me buffer) in
          let same =
          count-same (comes_in (is_message_of actor.me buffer) actor.me) (goes_to actor.me buffer) s.copies
          (All-weaker (λ (c : Delivery Message). c.message.number.sender ≡ actor.me) (λ (c : Delivery Message). comes_in (is_message_of actor.me buffer) actor.me c ≡ goes_to actor.me buffer c) (of_itself buffer) s.copies own) in
          let more = notes actor.me buffer in
          let credits = ap (λ (cs : List Credit). credits_held cs actor.me buffer) adds.credits in
          omega arith;
      other_receivers = λ r b other. ap (λ (cs : List Credit). credits_held cs r b) adds.credits ∙ is.other_receivers r b other;
      arrived = λ r b. ap (λ (cs : List Credit). arrived_credits cs r b now) adds.credits ∙ is.arrived r b;
    }

  -- a message is consumed
  module _ (buffer : ℕ) (m : Message) (at : m.buffer ≡ buffer) (ascends : NumbersAscend mail.inbox) (held : Contains mail.inbox (incoming_message m)) where
    abbrev number : MsgNo
    number = m.number

    abbrev slot : Bool
    slot = had_slot actor buffer number

    abbrev itself : Bool
    itself = number.sender == actor.me

    abbrev its_credit : Delivery Credit
    its_credit = credit_for actor buffer now number

    -- a controller's message that was in a buffer with a size had a slot
    with_slot : (b : ℕ) → number.sender < controller_count actor.routes → IsTrue (has_size actor.routes actor.me b) → buffer ≡ b → slot ≡ true
    with_slot b there sized same =
        and_from (has_size actor.routes actor.me buffer) (nat_lt number.sender (controller_count actor.routes))
        (ap (λ (x : ℕ). has_size actor.routes actor.me x) same ∙ sized) (lt-ltb number.sender (controller_count actor.routes) there)

    of_others : (sender b : ℕ) → ¬ (sender ≡ actor.me) → sender < controller_count actor.routes → IsTrue (has_size actor.routes actor.me b)
        → ◌≡◌ {A = ℕ} (cond (number.sender == sender && m.buffer == b) 1 0) (cond (slot && not itself) (cond (number.sender == sender && buffer == b) 1 0) 0)
    of_others sender b other there sized =
        ap (λ (x : ℕ). cond (number.sender == sender && x == b) 1 0) at ∙ by (number.sender == sender && buffer == b) refl
      where
        by : (k : Bool) → (number.sender == sender && buffer == b) ≡ k → ◌≡◌ {A = ℕ} (cond k 1 0) (cond (slot && not itself) (cond k 1 0) 0)
        by true is_it =
            let parts = and_parts (number.sender == sender) (buffer == b) is_it in
            let from = eqb-true number.sender sender parts.0 in
            let slot_is = with_slot b (subst (λ (x : ℕ). x < controller_count actor.routes) (sym from) there) sized (eqb-true buffer b parts.1) in
            let other_is = ap not (unequal number.sender actor.me (λ same. other (sym from ∙ same))) in
            ap (λ (x : Bool). cond x 1 0) (sym (and_from slot (not itself) slot_is other_is))
        by false is_it = sym (none_either (slot && not itself))

    of_own : (b : ℕ) → actor.me < controller_count actor.routes → IsTrue (has_size actor.routes actor.me b)
        → ◌≡◌ {A = ℕ} (cond (slot && itself) (cond (actor.me == actor.me && buffer == b) 1 0) 0) (cond (number.sender == actor.me && m.buffer == b) 1 0)
    of_own b there sized =
        by itself refl (buffer == b) refl ∙ ap (λ (x : ℕ). cond (number.sender == actor.me && x == b) 1 0) (sym at)
      where
        by : (e : Bool) → itself ≡ e → (k : Bool) → (buffer == b) ≡ k → ◌≡◌ {A = ℕ} (cond (slot && e) (cond (actor.me == actor.me && k) 1 0) 0) (cond (e && k) 1 0)
        by true own_is true same_is =
            let from = eqb-true number.sender actor.me own_is in
            let slot_is = with_slot b (subst (λ (x : ℕ). x < controller_count actor.routes) (sym from) there) sized (eqb-true buffer b same_is) in
            ap (λ (x : Bool). cond (x && true) (cond (actor.me == actor.me && true) 1 0) 0) slot_is ∙ ap (λ (x : Bool). cond (x && true) 1 0) (eq-eqb actor.me actor.me refl)
        by true own_is false same_is = ap (λ (x : ℕ). cond (slot && true) x 0) (never (actor.me == actor.me) 1) ∙ none_either (slot && true)
        by false own_is k same_is = never slot (cond (actor.me == actor.me && k) 1 0)

    pub consumed_slots : MovesSlots actor now before (mail_after_dequeue actor buffer now number (mail_without mail m)) sent (posted ++ posted_credits actor buffer now number)
    consumed_slots =
        let left = mail_without mail m in
        let c = its_credit.message in
        let credited = slot && itself in
        record {
          lent = λ r b. ap (λ (l : List Lent). lent_at l r b) (credited_lent left c credited) ∙ is.lent r b;
          from_others = λ sender b other there sized.
              let old = is.from_others sender b other there sized in
              let out = taken (is_message_of sender b) mail.inbox (incoming_message m) ascends held in
              let inbox = ap (λ (os : List InboxMessage). messages_held os sender b) (credited_inbox left c credited) in
              let more =
              ap (count_by (is_credit_to sender b)) (credits_among-append posted (posted_credits actor buffer now number))
              ∙ count-append (is_credit_to sender b) (credits_among posted) (credits_among (posted_credits actor buffer now number)) in
              let last = posted_one (slot && not itself) its_credit sender b in
              let same = of_others sender b other there sized in
              omega arith;
          from_itself = λ b there sized.
              let old = is.from_itself b there sized in
              let out = taken (is_message_of actor.me b) mail.inbox (incoming_message m) ascends held in
              let inbox = ap (λ (os : List InboxMessage). messages_held os actor.me b) (credited_inbox left c credited) in
              let more = credited_held left c credited actor.me b in
              let same = of_own b there sized in
              omega arith;
          other_receivers = λ r b other.
              let old = is.other_receivers r b other in
              let more = credited_held left c credited r b in
              let none = ap (λ (x : Bool). cond credited (cond (x && buffer == b) 1 0) 0) (unequal actor.me r (λ same. other (sym same))) ∙ none_either credited in
              omega arith;
          arrived = λ r b.
              let later : now < now + 1 = omega arith in
              credited_arrived left c credited r b now later ∙ is.arrived r b;
        }

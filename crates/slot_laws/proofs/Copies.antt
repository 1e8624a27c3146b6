-- What comes to one controller of the copies of a transition: the messages among them that are for it, and the credits.
use Rattle.std.proofs.Common.{◌≡◌, ◌+◌, ◌&&◌, ◌==◌, ◌++◌, ◌∙◌, ℕ, Bool, true, false, not, cond, List, [], ◌∷◌, map, filter, All, eqb-true, eq-eqb, ne_eqb, refl, sym, ap, arith}
use Rattle.std.specs.Prelude.{count_by}
use Rattle.std.proofs.lemmas.List.Elements.{All-weaker}
use Rattle.ruby_value.specs.declared.message.Delivery.{Delivery}
use Rattle.ruby_value.specs.declared.message.Message.{Message}
use Rattle.ruby_value.specs.declared.message.Sent.{Sent}
use Rattle.ctl_face.specs.declared.parcel.Credit.{Credit}
use Rattle.ctl_face.specs.declared.parcel.Parcel.{Parcel}
use Rattle.ctl_face.specs.declared.parcel.Parcel.TheVariants as parcel
use Rattle.ctl_face.specs.Prelude.{Actor, IsCreditFor, credit_in_parcel, credits_among, incoming_message, is_credit_of, message_in_parcel, messages_among, sent_of}
use Rattle.acts.specs.Prelude.{IsPosted}
use Rattle.protocol_runs.specs.Prelude.{messages_for}
use Rattle.protocol_runs.proofs.HeldNew.{suits-for}
use Rattle.protocol_runs.proofs.Parcels.{all-parcels}
use Rattle.slot_laws.specs.Prelude.{copies_sent, credits_posted, is_credit_to, is_message_of, is_note_to}
use Rattle.slot_laws.proofs.Coming.{ComesLater, IsOfOther, brings_credit, brings_message}
use Rattle.slot_laws.proofs.Counts.{count-cons, count-map, count-none, count-same, one}

-- those for a controller, counted among all

abbrev message_to : (receiver sender buffer : ℕ) → Delivery Message → Bool
message_to receiver sender buffer d = d.receiver == receiver && is_message_of sender buffer (incoming_message d.message)

abbrev credit_to : (receiver of buffer : ℕ) → Delivery Credit → Bool
credit_to receiver of buffer d = d.receiver == receiver && is_credit_of of buffer d.message

module _ (r sender b : ℕ) (A : List Parcel) (B : List (Delivery Message)) (same : count_by (brings_message sender b) A ≡ count_by (message_to r sender b) B) where
  abbrev f : Parcel → Bool
  f = brings_message sender b

  one_message : (k : Bool) (m : Message) → count_by f (cond k (parcel.Message m ∷ []) [] ++ A) ≡ cond (k && is_message_of sender b (incoming_message m)) 1 0 + count_by (message_to r sender b) B
  one_message true m = let all = count-cons f (parcel.Message m) A in omega arith
  one_message false m = omega arith

  no_message : (k : Bool) (c : Credit) → count_by f (cond k (parcel.Credit c ∷ []) [] ++ A) ≡ count_by (message_to r sender b) B
  no_message true c = let all = count-cons f (parcel.Credit c) A in omega arith
  no_message false c = same

  message_more : (receiver : ℕ) (p : Parcel) → count_by f (cond (receiver == r) (p ∷ []) [] ++ A) ≡ count_by (message_to r sender b) (message_in_parcel receiver p ++ B)
  message_more receiver (parcel.Message m) =
      let d : Delivery Message = record { receiver = receiver; message = m } in
      one_message (receiver == r) m ∙ sym (count-cons (message_to r sender b) d B)
  message_more receiver (parcel.Credit c) = no_message (receiver == r) c

messages_counted : (r sender b : ℕ) (ds : List (Delivery Parcel)) → count_by (brings_message sender b) (messages_for r ds) ≡ count_by (message_to r sender b) (messages_among ds)
messages_counted r sender b [] = refl
messages_counted r sender b (d ∷ ds) = message_more r sender b (messages_for r ds) (messages_among ds) (messages_counted r sender b ds) d.receiver d.message

module _ (r of b : ℕ) (A : List Parcel) (B : List (Delivery Credit)) (same : count_by (brings_credit of b) A ≡ count_by (credit_to r of b) B) where
  abbrev g : Parcel → Bool
  g = brings_credit of b

  one_credit : (k : Bool) (c : Credit) → count_by g (cond k (parcel.Credit c ∷ []) [] ++ A) ≡ cond (k && is_credit_of of b c) 1 0 + count_by (credit_to r of b) B
  one_credit true c = let all = count-cons g (parcel.Credit c) A in omega arith
  one_credit false c = omega arith

  no_credit : (k : Bool) (m : Message) → count_by g (cond k (parcel.Message m ∷ []) [] ++ A) ≡ count_by (credit_to r of b) B
  no_credit true m = let all = count-cons g (parcel.Message m) A in omega arith
  no_credit false m = same

  credit_more_to : (receiver : ℕ) (p : Parcel) → count_by g (cond (receiver == r) (p ∷ []) [] ++ A) ≡ count_by (credit_to r of b) (credit_in_parcel receiver p ++ B)
  credit_more_to receiver (parcel.Credit c) =
      let d : Delivery Credit = record { receiver = receiver; message = c } in
      one_credit (receiver == r) c ∙ sym (count-cons (credit_to r of b) d B)
  credit_more_to receiver (parcel.Message m) = no_credit (receiver == r) m

credits_counted : (r of b : ℕ) (ds : List (Delivery Parcel)) → count_by (brings_credit of b) (messages_for r ds) ≡ count_by (credit_to r of b) (credits_among ds)
credits_counted r of b [] = refl
credits_counted r of b (d ∷ ds) = credit_more_to r of b (messages_for r ds) (credits_among ds) (credits_counted r of b ds) d.receiver d.message

-- an item that is counted is among those that are kept
count_filter : {X : Type 0} (t p : X → Bool) (xs : List X) → ((x : X) → t x ≡ true → p x ≡ true) → count_by t (filter p xs) ≡ count_by t xs
count_filter t p [] to = refl
count_filter {X} t p (x ∷ xs) to = by (t x) (p x) refl refl (to x) (count_filter t p xs to)
  where
    by : (b c : Bool) → t x ≡ b → p x ≡ c → (t x ≡ true → p x ≡ true) → count_by t (filter p xs) ≡ count_by t xs → count_by t (cond (p x) (x ∷ filter p xs) (filter p xs)) ≡ count_by t (x ∷ xs)
    by b true is keeps goes rest =
        rw keeps (let first = count-cons t x (filter p xs) in let all = count-cons t x xs in omega arith)
    by true false is drops goes rest = absurd (cc (sym drops ∙ goes is))
    by false false is drops goes rest =
        rw drops (let all = count-cons t x xs in let none : one t x ≡ 0 = ap (λ (k : Bool). cond k 1 0) is in omega arith)

-- of a controller's copies

module _ (c now : ℕ) (actor : Actor) (own : actor.me ≡ c) (copies : List (Delivery Parcel)) (sent : List Sent)
    (posted : All (IsPosted c now) (messages_among copies)) (credits : All (IsCreditFor actor now) (credits_among copies))
    (notes : map sent_of (messages_among copies) ≡ filter (λ (n : Sent). not (n.receiver == c)) sent) where
  messages : List (Delivery Message)
  messages = messages_among copies

  goes_to : (r b : ℕ) (d : Delivery Message) → IsPosted c now d → message_to r c b d ≡ is_note_to r b (sent_of d)
  goes_to r b d from = ap (λ (k : Bool). d.receiver == r && (k && d.message.buffer == b)) (eq-eqb d.message.number.sender c from.sender)

  other_note : (r b : ℕ) → ¬ (r ≡ c) → (n : Sent) → is_note_to r b n ≡ true → not (n.receiver == c) ≡ true
  other_note r b other n is = by (n.receiver == r) refl (n.receiver == c) refl is
    where
      by : (k : Bool) → (n.receiver == r) ≡ k → (j : Bool) → (n.receiver == c) ≡ j → (k && n.buffer == b) ≡ true → not j ≡ true
      by true to true back both = absurd (other (sym (eqb-true n.receiver r to) ∙ eqb-true n.receiver c back))
      by true to false back both = refl
      by false to j back both = absurd (cc both)

  -- to another receiver
  pub sent_to : (r b : ℕ) → ¬ (r ≡ c) → count_by (brings_message c b) (messages_for r copies) ≡ copies_sent sent r b
  sent_to r b other =
      messages_counted r c b copies
      ∙ count-same (message_to r c b) (λ (d : Delivery Message). is_note_to r b (sent_of d)) (messages_among copies)
      (All-weaker (IsPosted c now) (λ (d : Delivery Message). message_to r c b d ≡ is_note_to r b (sent_of d)) (goes_to r b) (messages_among copies) posted)
      ∙ sym (count-map sent_of (is_note_to r b) (messages_among copies))
      ∙ ap (count_by (is_note_to r b)) notes
      ∙ count_filter (is_note_to r b) (λ (n : Sent). not (n.receiver == c)) sent (other_note r b other)

  -- none to itself
  pub none_to_itself : (sender b : ℕ) → count_by (brings_message sender b) (messages_for c copies) ≡ 0
  none_to_itself sender b =
      messages_counted c sender b copies
      ∙ count-none (message_to c sender b) (messages_among copies)
      (All-weaker (IsPosted c now) (λ (d : Delivery Message). message_to c sender b d ≡ false)
      (λ d from. ap (λ (k : Bool). k && is_message_of sender b (incoming_message d.message)) (ne_eqb d.receiver c from.other)) (messages_among copies) posted)

  pub no_credit_to_itself : (of b : ℕ) → count_by (brings_credit of b) (messages_for c copies) ≡ 0
  no_credit_to_itself of b =
      credits_counted c of b copies
      ∙ count-none (credit_to c of b) (credits_among copies)
      (All-weaker (IsCreditFor actor now) (λ (d : Delivery Credit). credit_to c of b d ≡ false)
      (λ d for. ap (λ (k : Bool). k && is_credit_of of b d.message) (ne_eqb d.receiver c (λ is. for.to_other (is ∙ sym own)))) (credits_among copies) credits)

  -- credits for its own buffers
  pub credits_to : (sender b : ℕ) → count_by (brings_credit c b) (messages_for sender copies) ≡ credits_posted copies sender b
  credits_to sender b =
      credits_counted sender c b copies
      ∙ count-same (credit_to sender c b) (is_credit_to sender b) (credits_among copies)
      (All-weaker (IsCreditFor actor now) (λ (d : Delivery Credit). credit_to sender c b d ≡ is_credit_to sender b d)
      (λ d for. ap (λ (k : Bool). d.receiver == sender && (k && d.message.buffer == b)) (eq-eqb d.message.receiver c (for.of_this ∙ own))) (credits_among copies) credits)

  -- and for none of others
  pub no_others_credits : (sender of b : ℕ) → ¬ (of ≡ c) → count_by (brings_credit of b) (messages_for sender copies) ≡ 0
  no_others_credits sender of b other =
      credits_counted sender of b copies
      ∙ count-none (credit_to sender of b) (credits_among copies)
      (All-weaker (IsCreditFor actor now) (λ (d : Delivery Credit). credit_to sender of b d ≡ false)
      (λ d for. ap (λ (k : Bool). d.receiver == sender && (k && d.message.buffer == b)) (ne_eqb d.message.receiver of (λ is. other (sym is ∙ for.of_this ∙ own))) ∙ never (d.receiver == sender))
      (credits_among copies) credits)
    where
      never : (k : Bool) → (k && false) ≡ false
      never true = refl
      never false = refl

  -- no message is another sender's, and no credit counts in this cycle
  pub of_others : (sender r : ℕ) → ¬ (sender ≡ c) → All (IsOfOther sender) (messages_for r copies)
  of_others sender r other =
      suits-for (λ _ p _. IsOfOther sender p) now r copies
      (all-parcels (IsPosted c now) (IsCreditFor actor now) (λ _ p. IsOfOther sender p) (λ d from is. other (sym is ∙ from.sender)) (λ d for. tt) copies posted credits)

  pub come_later : (r : ℕ) → All (ComesLater now) (messages_for r copies)
  come_later r =
      suits-for (λ _ p _. ComesLater now p) now r copies
      (all-parcels (IsPosted c now) (IsCreditFor actor now) (λ _ p. ComesLater now p) (λ d from. tt) (λ d for. omega (arith, for.arrival)) copies posted credits)

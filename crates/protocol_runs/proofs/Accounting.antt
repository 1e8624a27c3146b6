-- A run accounts for each message: no number is sent twice, each one that was sent is consumed or in one inbox, and no other
-- number is anywhere.
use Rattle.std.proofs.Common.{◌≡◌, ◌≢◌, ◌<◌, ◌≤◌, ◌+◌, ◌&&◌, ℕ, zero, suc, Bool, true, false, Option, None, Some, List, [], ◌∷◌, ◌++◌, length, map, refl, sym, ◌∙◌, ap, subst, slice_get, slice_set, eqb, ltb, add-zero, arith, All}
use Rattle.std.specs.Prelude.{count_by}
use Rattle.std.specs.Option.{option_to_list}
use Rattle.std.proofs.lemmas.Bool.{eq-eqb, ne_eqb}
use Rattle.std.proofs.lemmas.Bool.Decides.{nat_tests}
use Rattle.std.proofs.lemmas.List.{append-nil, length-set}
use Rattle.std.proofs.lemmas.List.Elements.{All-nil, All-cons, All-head, All-tail}
use Rattle.ruby_value.specs.declared.message.MsgNo.{MsgNo}
use Rattle.ruby_value.specs.Prelude.{same_number, numbers_from}
use Rattle.ruby_value.specs.declared.message.Sent.{Sent}
use Rattle.run_journal.specs.declared.entry.End.{End}
use Rattle.run_journal.specs.declared.entry.Entry.{Entry}
use Rattle.run_journal.specs.declared.entry.FireNote.{FireNote}
use Rattle.run_journal.specs.declared.event.Event.{Event}
use Rattle.protocol_runs.specs.Prelude.{Rules, Acts, Mailed, Place, World, held_mail, Moved, fired_entry, with_controller, with_arrival, with_delivery_at, with_delivery, with_deliveries, with_moved, delivery_numbers, sent_numbers, consumed_numbers, sent_in, consumed_in, times, Ends, Idled, Filled, Halted, Move, Taken, FiredBy, EndedBy, Released, mail_numbers, IsNew, IsOnce, KeepsMail, MovesMail, AllSuit, IsSound, CarriesMail}
use Rattle.ruby_value.specs.declared.message.Delivery.{Delivery}
use Rattle.protocol_runs.proofs.Places.{Paired, paired-same, paired-set, paired-trans, set-at, AllFit, set-fits, deliveries-length, deliveries-grown}
use Rattle.protocol_runs.proofs.Fitting.{WorldFits}
use Rattle.protocol_runs.proofs.Tallies.{one, tally, counted, tally-append, tally-map, tally-set, tally-within, tally-more}

pub one-le : (b : Bool) → one b ≤ 1
one-le true = omega arith
one-le false = omega arith

-- the numbers of a sender from a count on
below-more : (a k : ℕ) → one (eqb a k) + one (ltb a k) ≡ one (ltb a (k + 1))
below-more a k = grind (arith, nat_tests)

pub from-own : (c k n : ℕ) (number : MsgNo) → number.sender ≡ c → tally (same_number number) (numbers_from c k n) + one (ltb number.count k) ≡ one (ltb number.count (k + n))
from-own c k zero number is =
    let same : one (ltb number.count k) ≡ one (ltb number.count (k + 0)) = ap (λ (i : ℕ). one (ltb number.count i)) (sym (add-zero k)) in
    omega (arith, same)
from-own c k (suc n) number is =
    let here : one (same_number number (record { sender = c; count = k })) ≡ one (eqb number.count k) =
    ap (λ (b : Bool). one (b && eqb number.count k)) (eq-eqb number.sender c is) in
    let rest = from-own c (k + 1) n number is in
    let same : one (ltb number.count ((k + 1) + n)) ≡ one (ltb number.count (k + suc n)) = ap (λ (i : ℕ). one (ltb number.count i)) (omega arith) in
    omega (arith, here, rest, below-more number.count k, same)

pub from-other : (c k n : ℕ) (number : MsgNo) → number.sender ≢ c → tally (same_number number) (numbers_from c k n) ≡ 0
from-other c k zero number apart = refl
from-other c k (suc n) number apart =
    let here : one (same_number number (record { sender = c; count = k })) ≡ 0 = ap (λ (b : Bool). one (b && eqb number.count k)) (ne_eqb number.sender c apart) in
    omega (arith, here, from-other c (k + 1) n number apart)

module _ {C M D : Type 0} (r : Rules C M D) where
  -- how many messages of an inbox, and of all, have a number that passes
  abbrev pub mail : (MsgNo → Bool) → C → ℕ
  mail f x = tally (λ (m : Mailed). f m.number) (r.mail x)

  abbrev pub held : (MsgNo → Bool) → List (Place C) → ℕ
  held f places = tally (λ (m : Mailed). f m.number) (held_mail r places)

  mail-counted : (f : MsgNo → Bool) (x : C) → count_by f (mail_numbers r x) ≡ mail f x
  mail-counted f x = counted f (mail_numbers r x) ∙ tally-map f (λ (m : Mailed). m.number) (r.mail x)

  -- how often a number was sent, by the count of its sender
  abbrev pub stands_by : ℕ → ℕ → MsgNo → Option (Place C) → ℕ
  stands_by n issued number None = one (eqb number.sender n && ltb number.count issued)
  stands_by n issued number (Some p) = one (ltb number.count (r.sent p.controller))

  abbrev pub stands : ℕ → ℕ → List (Place C) → MsgNo → ℕ
  stands n issued places number = stands_by n issued number (slice_get places number.sender)

  pub stands-le : (n issued : ℕ) (number : MsgNo) (o : Option (Place C)) → stands_by n issued number o ≤ 1
  stands-le n issued number None = one-le (eqb number.sender n && ltb number.count issued)
  stands-le n issued number (Some p) = one-le (ltb number.count (r.sent p.controller))

  -- the controllers at these places have sent as many
  abbrev pub HasSentSame : Place C → Place C → Type 0
  HasSentSame p q = r.sent q.controller ≡ r.sent p.controller

  abbrev pub SameSent : Option (Place C) → Option (Place C) → Type 0
  SameSent o u = Paired HasSentSame o u

  pub same-sent : (o : Option (Place C)) → SameSent o o
  same-sent o = paired-same HasSentSame (λ p. refl) o

  pub stands-same : (n issued : ℕ) (number : MsgNo) (o u : Option (Place C)) → SameSent o u → stands_by n issued number u ≡ stands_by n issued number o
  stands-same n issued number None None same = refl
  stands-same n issued number None (Some q) same = absurd same
  stands-same n issued number (Some p) None same = absurd same
  stands-same n issued number (Some p) (Some q) same = ap (λ (k : ℕ). one (ltb number.count k)) same

  -- what is known of the messages of a run so far
  pub record IsKept (w : World C D) (journal : List Entry) : Type 0 where
    pub sent : (number : MsgNo) → tally (same_number number) (sent_numbers journal) ≡ stands (length r.controllers) w.issued w.places number
    pub moved : (f : MsgNo → Bool) → tally f (sent_numbers journal) ≡ tally f (consumed_numbers journal) + held f w.places

  pub kept-le : (w : World C D) (journal : List Entry) → IsKept w journal → (number : MsgNo) → tally (same_number number) (sent_numbers journal) ≤ 1
  kept-le w journal kept number =
      omega (arith, kept.sent number, stands-le (length r.controllers) w.issued number (slice_get w.places number.sender))

  -- no number is in an inbox twice
  kept-once : (w : World C D) (journal : List Entry) (c : ℕ) (p : Place C) → IsKept w journal → slice_get w.places c ≡ Some p → IsOnce r p.controller
  kept-once w journal c p kept there number =
      let within : mail (same_number number) p.controller ≤ held (same_number number) w.places =
      tally-within (λ (m : Mailed). same_number number m.number) (λ (q : Place C). r.mail q.controller) w.places c p there in
      omega (arith, within, kept.moved (same_number number), kept-le w journal kept number, mail-counted (same_number number) p.controller)

  -- one place changes
  held-set : (f : MsgNo → Bool) (places : List (Place C)) (c : ℕ) (p q : Place C) → slice_get places c ≡ Some p
      → held f (slice_set places c q) + mail f p.controller ≡ held f places + mail f q.controller
  held-set f places c p q there = tally-set (λ (m : Mailed). f m.number) (λ (s : Place C). r.mail s.controller) places c p q there

  -- where nothing is sent or consumed, inboxes and counts stay
  pub record IsSilent (before after : List (Place C)) : Type 0 where
    pub held : (f : MsgNo → Bool) → held f after ≡ held f before
    pub sent : (c : ℕ) → SameSent (slice_get before c) (slice_get after c)

  set-silent : (places : List (Place C)) (c : ℕ) (p q : Place C) → slice_get places c ≡ Some p → KeepsMail r p.controller q.controller
      → IsSilent places (slice_set places c q)
  set-silent places c p q there keeps =
      record {
        held = λ f.
            let same : mail f q.controller ≡ mail f p.controller = ap (λ (ms : List Mailed). tally (λ (m : Mailed). f m.number) ms) keeps.mail in
            omega (arith, same, held-set f places c p q there);
        sent = λ d. paired-set HasSentSame (λ s. refl) places c d p q there keeps.sent;
      }

  pub silent-kept : (w v : World C D) (journal : List Entry) (entry : Option Entry) → IsKept w journal → IsSilent w.places v.places → v.issued ≡ w.issued
      → sent_numbers (option_to_list entry) ≡ [] → consumed_numbers (option_to_list entry) ≡ [] → IsKept v (journal ++ option_to_list entry)
  silent-kept w v journal entry kept silent issued none gone =
      record {
        sent = λ number.
            let more = tally-more (same_number number) sent_in journal (option_to_list entry) in
            let nothing : tally (same_number number) (sent_numbers (option_to_list entry)) ≡ 0 = ap (λ (xs : List MsgNo). tally (same_number number) xs) none in
            let same = stands-same (length r.controllers) w.issued number (slice_get w.places number.sender) (slice_get v.places number.sender) (silent.sent number.sender) in
            let also : stands (length r.controllers) v.issued v.places number ≡ stands (length r.controllers) w.issued v.places number =
            ap (λ (k : ℕ). stands (length r.controllers) k v.places number) issued in
            omega (arith, more, nothing, same, also, kept.sent number);
        moved = λ f.
            let more = tally-more f sent_in journal (option_to_list entry) in
            let less = tally-more f consumed_in journal (option_to_list entry) in
            let nothing : tally f (sent_numbers (option_to_list entry)) ≡ 0 = ap (λ (xs : List MsgNo). tally f xs) none in
            let lost : tally f (consumed_numbers (option_to_list entry)) ≡ 0 = ap (λ (xs : List MsgNo). tally f xs) gone in
            omega (arith, more, less, nothing, lost, silent.held f, kept.moved f);
      }

module _ {C M D : Type 0} (r : Rules C M D) (Fits : ℕ → C → ℕ → Type 0) (Suits : ℕ → M → ℕ → Type 0) (Leads : D → ℕ → ℕ → Type 0)
    (sound : IsSound r Fits Suits Leads) (carries : CarriesMail r Fits Suits Leads) where
  -- messages with new numbers come to controllers that are there
  pub record HaveArrived (places : List (Place C)) (ds : List (Delivery M)) (after : List (Place C)) : Type 0 where
    pub held : (f : MsgNo → Bool) → held r f after ≡ tally f (delivery_numbers r ds) + held r f places
    pub sent : (c : ℕ) → SameSent r (slice_get places c) (slice_get after c)

  one-arrived : (now : ℕ) (places : List (Place C)) (d : Delivery M) (p : Place C) → slice_get places d.receiver ≡ Some p
      → Suits d.receiver d.message now → AllFit r Fits now places
      → ((number : MsgNo) → tally (same_number number) (r.numbers d.message) + held r (same_number number) places ≤ 1)
      → HaveArrived places (d ∷ []) (with_delivery r places d)
  one-arrived now places d p there suits fit new =
      let q : Place C = with_controller p (with_arrival r p.controller d.message) in
      let first : IsNew r p.controller d.message =
      λ number.
      let f : MsgNo → Bool = same_number number in
      let within : mail r f p.controller ≤ held r f places =
      tally-within (λ (m : Mailed). f m.number) (λ (s : Place C). r.mail s.controller) places d.receiver p there in
      omega (arith, within, new number, counted f (r.numbers d.message), mail-counted r f p.controller) in
      let takes = carries.arrives d.receiver now p.controller d.message (fit d.receiver p there) suits first in
      let is : with_delivery r places d ≡ slice_set places d.receiver q = ap (λ (o : Option (Place C)). with_delivery_at r places d o) there in
      let arrived : HaveArrived places (d ∷ []) (slice_set places d.receiver q) =
      record {
        held = λ f.
            let more : count_by f (mail_numbers r q.controller) ≡ count_by f (r.numbers d.message) + count_by f (mail_numbers r p.controller) = takes.mail f in
            let all : tally f (delivery_numbers r (d ∷ [])) ≡ tally f (r.numbers d.message) = ap (tally f) (append-nil (r.numbers d.message)) in
            omega (arith, more, all, counted f (r.numbers d.message), mail-counted r f q.controller, mail-counted r f p.controller, held-set r f places d.receiver p q there);
        sent = λ c. paired-set (HasSentSame r) (λ s. refl) places d.receiver c p q there takes.sent;
      } in
      subst (HaveArrived places (d ∷ [])) (sym is) arrived

  get-some : {X : Type 0} (xs : List X) (c : ℕ) → c < length xs → (x : X) × (slice_get xs c ≡ Some x)
  get-some [] c within = absurd (omega arith)
  get-some (x ∷ xs) zero within = (x, refl)
  get-some (x ∷ xs) (suc c) within = get-some xs c (omega arith)

  pub have-arrived : (now : ℕ) (places : List (Place C)) (ds : List (Delivery M)) → AllSuit r Fits Suits Leads now ds
      → All (λ (d : Delivery M). d.receiver < length r.controllers) ds → AllFit r Fits now places → length places ≡ length r.controllers
      → ((number : MsgNo) → tally (same_number number) (delivery_numbers r ds) + held r (same_number number) places ≤ 1)
      → HaveArrived places ds (with_deliveries r places ds)
  have-arrived now places [] suit there fit count new =
      record { held = λ f. omega arith; sent = λ c. same-sent r (slice_get places c) }
  have-arrived now places (d ∷ ds) suit there fit count new =
      let P = λ (x : Delivery M). Suits x.receiver x.message now in
      let Q = λ (x : Delivery M). x.receiver < length r.controllers in
      let within : d.receiver < length places = omega (arith, count, All-head Q d ds there) in
      let (p, here) = get-some places d.receiver within in
      let both : (f : MsgNo → Bool) → tally f (delivery_numbers r (d ∷ ds)) ≡ tally f (r.numbers d.message) + tally f (delivery_numbers r ds) =
      λ f. tally-append f (r.numbers d.message) (delivery_numbers r ds) in
      let own : (f : MsgNo → Bool) → tally f (delivery_numbers r (d ∷ [])) ≡ tally f (r.numbers d.message) =
      λ f. ap (tally f) (append-nil (r.numbers d.message)) in
      let first = one-arrived now places d p here (All-head P d ds suit) fit (λ number. omega (arith, new number, both (same_number number))) in
      let next = with_delivery r places d in
      let grown = deliveries-grown r Fits Suits Leads sound now places (d ∷ []) (All-cons P d [] (All-head P d ds suit) (All-nil P)) fit in
      let rest =
      have-arrived now next ds (All-tail P d ds suit) (All-tail Q d ds there) grown.fit (deliveries-length r places (d ∷ []) ∙ count)
      (λ other. let f : MsgNo → Bool = same_number other in omega (arith, new other, first.held f, both f, own f)) in
      record {
        held = λ f. omega (arith, first.held f, rest.held f, both f, own f);
        sent = λ c.
            paired-trans (HasSentSame r) (λ p q s one two. two ∙ one) (slice_get places c) (slice_get next c) (slice_get (with_deliveries r next ds) c) (first.sent c) (rest.sent c);
      }

  -- a transition
  module _ (w : World C D) (journal : List Entry) (kept : IsKept r w journal) (fits : WorldFits r Fits Suits Leads sound w)
      (c : ℕ) (p : Place C) (there : slice_get w.places c ≡ Some p) where
    fired-sent : (acts : Acts) (copies : List (Delivery M)) (after : C) → MovesMail r c p.controller acts copies after → (number : MsgNo)
        → tally (same_number number) (map (λ (s : Sent). s.number) acts.sent) + stands r (length r.controllers) w.issued w.places number
        ≡ stands r (length r.controllers) w.issued (slice_set w.places c (with_controller p after)) number
    fired-sent acts copies after moves number =
        let q : Place C = with_controller p after in
        let k : ℕ = r.sent p.controller in
        let m : ℕ = length acts.sent in
        let sent : ℕ = tally (same_number number) (map (λ (s : Sent). s.number) acts.sent) in
        let numbers : sent ≡ tally (same_number number) (numbers_from c k m) = ap (λ (xs : List MsgNo). tally (same_number number) xs) moves.numbers in
        set-at (λ (o : Option (Place C)). sent + stands r (length r.controllers) w.issued w.places number ≡ stands_by r (length r.controllers) w.issued number o) w.places c number.sender p q there
        (λ same.
        let here : stands r (length r.controllers) w.issued w.places number ≡ one (ltb number.count k) =
        ap (λ (o : Option (Place C)). stands_by r (length r.controllers) w.issued number o) (ap (λ (i : ℕ). slice_get w.places i) (sym same) ∙ there) in
        let more : one (ltb number.count (r.sent after)) ≡ one (ltb number.count (k + m)) = ap (λ (i : ℕ). one (ltb number.count i)) moves.sent in
        omega (arith, numbers, here, more, from-own c k m number (sym same)))
        (λ apart.
        let none = from-other c k m number (λ is. apart (sym is)) in
        omega (arith, numbers, none))

    fired-kept : (now : ℕ) (note : FireNote) (acts : Acts) (copies : List (Delivery M)) (after : C) → MovesMail r c p.controller acts copies after
        → AllSuit r Fits Suits Leads w.now copies → Fits c after w.now
        → IsKept r (with_moved r w c (record { place = with_controller p after; copies = copies; entry = Some (fired_entry now c note acts) }))
        (journal ++ fired_entry now c note acts ∷ [])
    fired-kept now note acts copies after moves suit fit_after =
        let q : Place C = with_controller p after in
        let set : List (Place C) = slice_set w.places c q in
        let entry : Entry = fired_entry now c note acts in
        let sends : (f : MsgNo → Bool) → tally f (sent_numbers (entry ∷ [])) ≡ tally f (map (λ (s : Sent). s.number) acts.sent) =
        λ f. ap (λ (xs : List MsgNo). tally f xs) (append-nil (map (λ (s : Sent). s.number) acts.sent)) in
        let uses : (f : MsgNo → Bool) → tally f (consumed_numbers (entry ∷ [])) ≡ tally f acts.consumed =
        λ f. ap (λ (xs : List MsgNo). tally f xs) (append-nil acts.consumed) in
        let balance : (f : MsgNo → Bool) → mail r f p.controller + tally f (map (λ (s : Sent). s.number) acts.sent)
        ≡ tally f acts.consumed + tally f (delivery_numbers r copies) + mail r f after =
        λ f.
        omega (arith, moves.moved f, mail-counted r f p.controller, mail-counted r f after, counted f (map (λ (s : Sent). s.number) acts.sent), counted f acts.consumed, counted f (delivery_numbers r copies)) in
        let new : (number : MsgNo) → tally (same_number number) (delivery_numbers r copies) + held r (same_number number) set ≤ 1 =
        λ number.
        let f : MsgNo → Bool = same_number number in
        let few : stands r (length r.controllers) w.issued set number ≤ 1 = stands-le r (length r.controllers) w.issued number (slice_get set number.sender) in
        omega (arith, balance f, held-set r f w.places c p q there, kept.moved f, kept.sent number, fired-sent acts copies after moves number, few) in
        let count : length set ≡ length r.controllers = length-set w.places c q ∙ fits.count in
        let fit : AllFit r Fits w.now set = set-fits r Fits Suits Leads sound w.now w.places c p q there fit_after fits.fit in
        let arrived = have-arrived w.now set copies suit moves.receivers fit count new in
        let last : List (Place C) = with_deliveries r set copies in
        record {
          sent = λ number.
              let more = tally-more (same_number number) sent_in journal (entry ∷ []) in
              let same = stands-same r (length r.controllers) w.issued number (slice_get set number.sender) (slice_get last number.sender) (arrived.sent number.sender) in
              omega (arith, more, sends (same_number number), kept.sent number, fired-sent acts copies after moves number, same);
          moved = λ f.
              let more = tally-more f sent_in journal (entry ∷ []) in
              let less = tally-more f consumed_in journal (entry ∷ []) in
              omega (arith, more, less, sends f, uses f, kept.moved f, balance f, held-set r f w.places c p q there, arrived.held f);
        }

    ends-keeps : (x after : C) (e : End) → Fits c x w.now → Ends r c w.now x after e → KeepsMail r x after
    ends-keeps x after e fit (Idled y is) = carries.idles c w.now x fit y is
    ends-keeps x after e fit (Filled is) = carries.marks x (w.now + 1)
    ends-keeps x after e fit (Halted at is) = carries.stops x at

    pub move-kept : (e : Event) (m : Moved C M) → Move r w.now c p e m → IsKept r (with_moved r w c m) (journal ++ option_to_list m.entry)
    move-kept e m (Taken worker free) =
        silent-kept r w (with_moved r w c m) journal m.entry kept (set-silent r w.places c p m.place there (record { mail = refl; sent = refl })) refl refl refl
    move-kept e m (FiredBy worker note acts copies after holds is) =
        let fit = fits.fit c p there in
        let both = sound.fires c w.now p.controller fit note acts copies after is in
        let moves = carries.fires c w.now p.controller fit (kept-once r w journal c p kept there) note acts copies after is in
        fired-kept w.now note acts copies (r.with_one_fired after) moves both.1 both.0.fits
    move-kept e m (EndedBy worker after end holds ends) =
        silent-kept r w (with_moved r w c m) journal m.entry kept
        (set-silent r w.places c p m.place there (ends-keeps p.controller after end (fits.fit c p there) ends)) refl refl refl
    move-kept e m (Released worker holds) =
        silent-kept r w (with_moved r w c m) journal m.entry kept (set-silent r w.places c p m.place there (record { mail = refl; sent = refl })) refl refl refl

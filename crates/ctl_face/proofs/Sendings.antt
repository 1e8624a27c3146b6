-- What holds of a lawful controller holds after a send.
use Rattle.std.proofs.Common.{◌≡◌, ℕ, ℤ, ◌+◌, ◌*◌, ◌≤◌, Bool, true, false, cond, not, eqb, List, [], ◌∷◌, ◌++◌, map as map_list, length, All, IsTrue, IfSome, IsSomeAnd, refl, sym, ap, subst, ◌∙◌, arith, Option, None, Some, Result, Ok, Err, nat_abs, is_some, slice_get, unwrap_or}
use Rattle.std.proofs.lemmas.Bool.{and_parts, cond_both, eqb-true, ltb-false, not-false}
use Rattle.std.proofs.lemmas.List.{length-set}
use Rattle.std.proofs.lemmas.List.Elements.{All-map, All-push, All-weaker}
use Rattle.std.specs.Bool.{nat_lt}
use Rattle.std.specs.FinMap as map
use Rattle.std.specs.List.{fold, list_all, list_any}
use Rattle.std.specs.Option.{option_map}
use Rattle.ruby_value.specs.declared.fault.Fault.{Fault}
use Rattle.ruby_value.specs.declared.fault.Fault.TheVariants.{Latency, Route, Copies}
use Rattle.ruby_value.specs.declared.message.Message.{Message}
use Rattle.ruby_value.specs.declared.setup.BufferPlace.{BufferPlace}
use Rattle.ruby_value.specs.declared.setup.BufferPlace.TheVariants as place
use Rattle.ruby_value.specs.declared.setup.BufferSetup.{BufferSetup}
use Rattle.ruby_value.specs.declared.setup.MachineSetup.{MachineSetup}
use Rattle.ruby_value.specs.declared.value.Value.{Value}
use Rattle.ruby_value.specs.Prelude.{has_kinds, network_of}
use Rattle.ctl_face.specs.declared.parcel.Lent.{Lent}
use Rattle.ctl_face.specs.Prelude.{is_lent_of, one_more, with_lent, lent_after, size_of, InboxMessage, Mail, enqueue, after_sending, FitsMail, FitsMessage, ScanFits, AgreeOnType, IsMachine, network_count, Lasts, with_last, is_latency, Actor, LocalView, mail_with_delivery, incoming_message, TakesFields, message_kinds, IsFrom, ReceivesFrom, receiving_buffer, is_ordered, Sending, send, sending_from, sending_on, copy_limit, receivers_of, mail_with_copy, next_copy, no_copies, has_jitter, after_network_copy, network_arrival, with_network_copy, local_arrival, local_copy}
use Rattle.ctl_face.proofs.Cases.{Good, good_ok, good_err, good_cond}
use Rattle.ctl_face.proofs.FieldKinds.{same_kinds_take}
use Rattle.ctl_face.proofs.Lines.{All-found}
use Rattle.ctl_face.proofs.MailKept.{arrived_fits, mail_lawful}

takes_fields : (buffers : List BufferSetup) (buffer : ℕ) (s : BufferSetup) (fields : List Value) → slice_get buffers buffer ≡ Some s → IsTrue (has_kinds s.kinds fields) → TakesFields buffers buffer fields
takes_fields buffers buffer s fields is here = subst (λ (o : Option BufferSetup). IsSomeAnd o (λ (b : BufferSetup). IsTrue (has_kinds b.kinds fields))) (sym is) here

module _ (buffers : List BufferSetup) (actor : Actor) (now : ℕ) where
  own_fits : (sent buffer arrival : ℕ) (fields : List Value) → TakesFields buffers buffer fields
      → FitsMessage buffers actor.me (sent + 1) (record { message = record { number = record { sender = actor.me; count = sent }; buffer = buffer; arrival = arrival; recycled = false; fields = fields }; waiting = None })
  own_fits sent buffer arrival fields takes = record { fields = takes; own_number = λ _. omega arith; line = tt }

  older_fits : (sent : ℕ) (m : InboxMessage) → FitsMessage buffers actor.me sent m → FitsMessage buffers actor.me (sent + 1) m
  older_fits sent m fits = record { fields = fits.fields; own_number = λ own. let before = fits.own_number own in omega arith; line = fits.line }

  -- one slot more in use, where the copy's buffer has a size
  lent_more : (lent : List Lent) (receiver buffer sent : ℕ) → All (λ (l : Lent). l.count ≤ sent) lent → All (λ (l : Lent). l.count ≤ sent + 1) (lent_after actor.routes lent receiver buffer)
  lent_more lent receiver buffer sent few =
      let Few : List Lent → Type 0 = All (λ (l : Lent). l.count ≤ sent + 1) in
      let as_before = All-weaker (λ (l : Lent). l.count ≤ sent) (λ (l : Lent). l.count ≤ sent + 1) (λ l below. omega arith) lent few in
      let one : Lent = record { receiver = receiver; buffer = buffer; count = 1 } in
      let raised = All-map (λ (l : Lent). l.count ≤ sent + 1) (one_more receiver buffer) lent
      (All-weaker (λ (l : Lent). l.count ≤ sent) (λ (l : Lent). (one_more receiver buffer l).count ≤ sent + 1)
      (λ l below. cond_both (is_lent_of receiver buffer l) (record l { count = l.count + 1 }) l (λ (m : Lent). m.count ≤ sent + 1) (λ _. omega arith) (λ _. omega arith)) lent few) in
      let pushed : Few (lent ++ one ∷ []) = All-push (λ (l : Lent). l.count ≤ sent + 1) lent one as_before (omega arith) in
      cond_both (is_some (size_of actor.routes receiver buffer)) (with_lent lent receiver buffer) lent Few
      (λ _. cond_both (list_any (is_lent_of receiver buffer) lent) (map_list (one_more receiver buffer) lent) (lent ++ one ∷ []) Few (λ _. raised) (λ _. pushed))
      (λ _. as_before)

  -- one copy more: its number is given away
  numbered_fits : (mail : Mail) (receiver buffer : ℕ) → mail.copies + 1 ≤ copy_limit → FitsMail buffers actor.me mail now
      → FitsMail buffers actor.me (record mail { sent = mail.sent + 1; copies = mail.copies + 1; lent = lent_after actor.routes mail.lent receiver buffer }) now
  numbered_fits mail receiver buffer room fits = record {
    inbox_ascends = fits.inbox_ascends;
    messages = All-weaker (FitsMessage buffers actor.me mail.sent) (FitsMessage buffers actor.me (mail.sent + 1)) (older_fits mail.sent) mail.inbox fits.messages;
    marks_ascend = fits.marks_ascend;
    networks = fits.networks;
    copies = room;
    sent = (let before = fits.sent in omega arith);
    drawn = (let before = fits.drawn in omega arith);
    lent = lent_more mail.lent receiver buffer mail.sent fits.lent;
  }

  counted_fits : (mail : Mail) (mine : Bool) (m : Message) (receiver : ℕ) → mail.copies + 1 ≤ copy_limit → (mine ≡ true → FitsMessage buffers actor.me (mail.sent + 1) (incoming_message m)) → FitsMail buffers actor.me mail now
      → FitsMail buffers actor.me (record (mail_with_delivery mine mail m) { sent = mail.sent + 1; copies = mail.copies + 1; lent = lent_after actor.routes mail.lent receiver m.buffer }) now
  counted_fits mail true m receiver room own fits =
      arrived_fits buffers actor.me now (record mail { sent = mail.sent + 1; copies = mail.copies + 1; lent = lent_after actor.routes mail.lent receiver m.buffer }) m (own refl) (numbered_fits mail receiver m.buffer room fits)
  counted_fits mail false m receiver room own fits = numbered_fits mail receiver m.buffer room fits

  delivered_drawn : (mine : Bool) (mail : Mail) (m : Message) → (mail_with_delivery mine mail m).drawn ≡ mail.drawn
  delivered_drawn true mail m = refl
  delivered_drawn false mail m = refl

  -- with other last arrivals, and another count of draws
  kept_fits : (mail : Mail) (lasts : Lasts) (networks : List Lasts) (drawn : ℕ) → length networks ≡ network_count → drawn ≤ copy_limit * now + mail.copies → FitsMail buffers actor.me mail now
      → FitsMail buffers actor.me (record mail { local_last = lasts; network_last = networks; drawn = drawn }) now
  kept_fits mail lasts networks drawn all few fits = record {
    inbox_ascends = fits.inbox_ascends;
    messages = fits.messages;
    marks_ascend = fits.marks_ascend;
    networks = all;
    copies = fits.copies;
    sent = fits.sent;
    drawn = few;
    lent = fits.lent;
  }

  drawn_fits : (mail : Mail) (network receiver arrival : ℕ) → mail.drawn + 1 ≤ copy_limit * now + mail.copies → FitsMail buffers actor.me mail now → FitsMail buffers actor.me (after_network_copy actor mail network receiver arrival) now
  drawn_fits mail network receiver arrival room fits =
      kept_fits mail mail.local_last _ _
      (cond_both (is_ordered actor.routes network) (with_last mail.network_last network receiver arrival) mail.network_last (λ (lasts : List Lasts). length lasts ≡ network_count)
      (λ _. length-set mail.network_last network _ ∙ fits.networks) (λ _. fits.networks))
      (cond_both (has_jitter actor) (mail.drawn + 1) mail.drawn (λ n. n ≤ copy_limit * now + mail.copies) (λ _. room) (λ _. fits.drawn)) fits

  -- what a copy to the controller itself needs
  abbrev MineTakes : ℕ → List Value → ℕ → Type 0
  MineTakes network fields receiver = receiver ≡ actor.me → TakesFields buffers (unwrap_or (receiving_buffer actor.routes receiver network) 0) fields

  step_fits : (network latency : ℕ) (fields : List Value) (s : Sending) (receiver : ℕ) → s.mail.copies + 1 ≤ copy_limit → MineTakes network fields receiver → FitsMail buffers actor.me s.mail now → FitsMail buffers actor.me (with_network_copy actor network latency fields now s receiver).mail now
  step_fits network latency fields s receiver room mine fits =
      let arrival = network_arrival actor s.mail network latency now receiver in
      let buffer = unwrap_or (receiving_buffer actor.routes receiver network) 0 in
      let copy = next_copy actor s.mail receiver buffer arrival fields in
      let is_mine = eqb receiver actor.me in
      let once_more = counted_fits s.mail is_mine copy.message receiver room (λ is. own_fits s.mail.sent buffer arrival fields (mine (eqb-true receiver actor.me is))) fits in
      let before = fits.drawn in
      let same = delivered_drawn is_mine s.mail copy.message in
      drawn_fits (mail_with_copy actor s.mail copy) network receiver arrival (omega arith) once_more

  each_fits : (network latency : ℕ) (fields : List Value) (members : List ℕ) (s : Sending) → length members + s.mail.copies ≤ copy_limit
      → list_all (λ receiver. is_some (receiving_buffer actor.routes receiver network)) members ≡ true
      → ((receiver : ℕ) → is_some (receiving_buffer actor.routes receiver network) ≡ true → MineTakes network fields receiver)
      → FitsMail buffers actor.me s.mail now → FitsMail buffers actor.me (fold (with_network_copy actor network latency fields now) s members).mail now
  each_fits network latency fields [] s room routed mine fits = fits
  each_fits network latency fields (receiver ∷ members) s room routed mine fits =
      let both = and_parts (is_some (receiving_buffer actor.routes receiver network)) (list_all (λ r. is_some (receiving_buffer actor.routes r network)) members) routed in
      let room_here : s.mail.copies + 1 ≤ copy_limit = omega arith in
      let room_then : length members + (s.mail.copies + 1) ≤ copy_limit = omega arith in
      each_fits network latency fields members (with_network_copy actor network latency fields now s receiver) room_then both.1 mine
      (step_fits network latency fields s receiver room_here (mine receiver both.0) fits)

-- two buffers on one network have one message type, so the one that takes the network's messages takes these fields
pub other_takes : (network : ℕ) (fields : List Value) (s : BufferSetup) → network_of s.place ≡ Some network → IsTrue (has_kinds s.kinds fields)
    → (buffers : List BufferSetup) (b : ℕ) (o : Option BufferSetup) → slice_get buffers b ≡ o → option_map (λ (x : BufferSetup). x.place) o ≡ Some (place.From network) → IfSome o (AgreeOnType s) → TakesFields buffers b fields
other_takes network fields s on here buffers b None there from agree = absurd (cc from)
other_takes network fields s on here buffers b (Some t) there from agree =
    let at_place : t.place ≡ place.From network = cc in
    takes_fields buffers b t fields there (same_kinds_take s.kinds t.kinds fields (agree.kinds network (on, ap network_of at_place)) here)

module _ (machine : MachineSetup) (lawful : IsMachine machine) (actor : Actor) (own : ReceivesFrom machine actor.me actor.routes) (network buffer : ℕ) (fields : List Value) (s : BufferSetup) (is : slice_get machine.buffers buffer ≡ Some s) (on : network_of s.place ≡ Some network) (here : IsTrue (has_kinds s.kinds fields)) where
  agrees : All (AgreeOnType s) machine.buffers
  agrees = subst (λ (o : Option BufferSetup). IfSome o (λ x. All (AgreeOnType x) machine.buffers)) is (All-found (λ x. All (AgreeOnType x) machine.buffers) machine.buffers buffer lawful.one_type.one_type)

  own_buffer_takes : (o : Option ℕ) → receiving_buffer actor.routes actor.me network ≡ o → is_some o ≡ true → TakesFields machine.buffers (unwrap_or o 0) fields
  own_buffer_takes None same there = absurd (cc there)
  own_buffer_takes (Some b) same there =
      let P : Option ℕ → Type 0 = IsFrom machine network in
      other_takes network fields s on here machine.buffers b (slice_get machine.buffers b) refl (subst P same (own network)) (All-found (AgreeOnType s) machine.buffers b agrees)

  own_takes : (receiver : ℕ) → is_some (receiving_buffer actor.routes receiver network) ≡ true → receiver ≡ actor.me → TakesFields machine.buffers (unwrap_or (receiving_buffer actor.routes receiver network) 0) fields
  own_takes receiver there mine =
      let Q : ℕ → Type 0 = λ r. is_some (receiving_buffer actor.routes r network) ≡ true → TakesFields machine.buffers (unwrap_or (receiving_buffer actor.routes r network) 0) fields in
      subst Q (sym mine) (own_buffer_takes (receiving_buffer actor.routes actor.me network) refl) there

module _ (machine : MachineSetup) (lawful : IsMachine machine) (actor : Actor) (own : ReceivesFrom machine actor.me actor.routes) (now : ℕ) where
  abbrev SendingFits : Sending → Type 0
  SendingFits s = FitsMail machine.buffers actor.me s.mail now

  on_fits : (s : BufferSetup) (p : BufferPlace) (mail : Mail) (buffer latency : ℕ) (fields : List Value) → s.place ≡ p → slice_get machine.buffers buffer ≡ Some s → IsTrue (has_kinds s.kinds fields) → FitsMail machine.buffers actor.me mail now
      → Good SendingFits (sending_on p s.ordered actor mail buffer latency fields now)
  on_fits s (place.From network) mail buffer latency fields at_place is here fits = good_ok SendingFits (no_copies mail) fits
  on_fits s place.Local mail buffer latency fields at_place is here fits =
      let sending = local_copy actor s.ordered mail buffer latency fields now in
      let arrival = local_arrival s.ordered mail buffer latency now in
      let takes = takes_fields machine.buffers buffer s fields is here in
      let copy = next_copy actor mail actor.me buffer arrival fields in
      let b = nat_lt copy_limit (mail.copies + 1) in
      let once_more = λ (few : b ≡ false). counted_fits machine.buffers actor now mail (eqb actor.me actor.me) copy.message actor.me (ltb-false copy_limit (mail.copies + 1) few) (λ _. own_fits machine.buffers actor now mail.sent buffer arrival fields takes) fits in
      good_cond SendingFits b (Err Copies) (Ok sending) (λ _. good_err SendingFits Copies)
      (λ few. good_ok SendingFits sending
      (kept_fits machine.buffers actor now (mail_with_copy actor mail copy) (cond s.ordered (map.insert mail.local_last buffer arrival) mail.local_last) (mail_with_copy actor mail copy).network_last (mail_with_copy actor mail copy).drawn
      (once_more few).networks (once_more few).drawn (once_more few)))
  on_fits s (place.To network destination) mail buffer latency fields at_place is here fits =
      let members = receivers_of destination fields in
      let sending = fold (with_network_copy actor network latency fields now) (no_copies mail) members in
      let routed = list_all (λ receiver. is_some (receiving_buffer actor.routes receiver network)) members in
      let many = nat_lt copy_limit (mail.copies + length members) in
      good_cond SendingFits (not routed) (Err Route) (cond many (Err Copies) (Ok sending)) (λ _. good_err SendingFits Route)
      (λ are_routed. good_cond SendingFits many (Err Copies) (Ok sending) (λ _. good_err SendingFits Copies)
      (λ few. let room = ltb-false copy_limit (mail.copies + length members) few in
      let total : length members + mail.copies ≤ copy_limit = omega arith in
      good_ok SendingFits sending
      (each_fits machine.buffers actor now network latency fields members (no_copies mail) total (not-false routed are_routed) (own_takes machine lawful actor own network buffer fields s is (ap network_of at_place) here) fits)))

  from_fits : (o : Option BufferSetup) (mail : Mail) (buffer latency : ℕ) (fields : List Value) → slice_get machine.buffers buffer ≡ o → IsTrue (has_kinds (unwrap_or (option_map (λ (b : BufferSetup). b.kinds) o) []) fields) → FitsMail machine.buffers actor.me mail now
      → Good SendingFits (sending_from o actor mail buffer latency fields now)
  from_fits None mail buffer latency fields is here fits = good_ok SendingFits (no_copies mail) fits
  from_fits (Some s) mail buffer latency fields is here fits = on_fits s s.place mail buffer latency fields refl is here fits

after_keeps : (v : LocalView) (r : Result Sending Fault) → Good (λ (s : Sending). FitsMail v.machine.buffers v.actor.me s.mail v.now) r → ScanFits v → Good ScanFits (after_sending v r)
after_keeps v (Ok s) fits lawful = good_ok ScanFits _ (mail_lawful v s.mail _ (fits.good s refl) lawful)
after_keeps v (Err e) fits lawful = good_err ScanFits e

pub enqueue_keeps : (v : LocalView) (buffer : ℕ) (latency : ℤ) (fields : List Value) → IsTrue (has_kinds (message_kinds v.machine buffer) fields) → ScanFits v → Good ScanFits (enqueue v buffer latency fields)
enqueue_keeps v buffer latency fields here lawful =
    let o = slice_get v.machine.buffers buffer in
    let P : Sending → Type 0 = λ s. FitsMail v.machine.buffers v.actor.me s.mail v.now in
    after_keeps v (send v.machine v.actor v.ctl.mail buffer latency fields v.now)
    (good_cond P (is_latency latency) (sending_from o v.actor v.ctl.mail buffer (nat_abs latency) fields v.now) (Err Latency)
    (λ _. from_fits v.machine lawful.machine v.actor lawful.routes.own_buffers v.now o v.ctl.mail buffer (nat_abs latency) fields refl here lawful.fits.mail) (λ _. good_err P Latency))
    lawful

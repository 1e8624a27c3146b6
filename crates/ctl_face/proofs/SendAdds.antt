-- What a send adds: one copy for each receiver, and what this adds to the counts.
use Rattle.std.proofs.Common.{◌≡◌, ℕ, ℤ, zero, suc, ◌+◌, ◌-◌, ◌<◌, Bool, true, false, cond, eqb, not, max, List, [], ◌∷◌, ◌++◌, map, length, All, refl, sym, ap, subst, ◌∙◌, arith, append_assoc, length-append, Option, None, Some, Ok, Err, unwrap_or, is_some, nat_abs, slice_get, Contains, get_or, length-set, get_or-append-add}
use Rattle.std.proofs.lemmas.Bool.{and_parts, ltb-true, not-false}
use Rattle.std.proofs.lemmas.List.{append-nil, get_or_append_left, map-append}
use Rattle.std.proofs.lemmas.List.Elements.{All-nil, All-cons, All-push, Contains-append_left, Contains-push}
use Rattle.std.proofs.lemmas.List.Sums.{fold-append}
use Rattle.std.specs.Bool.{nat_lt}
use Rattle.std.specs.List.{AllPairs, fold, list_all}
use Rattle.ruby_value.specs.declared.fault.Fault.TheVariants.{Latency, Route, Copies}
use Rattle.ruby_value.specs.declared.message.Message.{Message}
use Rattle.ruby_value.specs.declared.message.MsgNo.{MsgNo}
use Rattle.ruby_value.specs.declared.setup.BufferPlace.{BufferPlace}
use Rattle.ruby_value.specs.declared.setup.BufferPlace.TheVariants as place
use Rattle.ruby_value.specs.declared.setup.BufferSetup.{BufferSetup}
use Rattle.ruby_value.specs.declared.setup.MachineSetup.{MachineSetup}
use Rattle.ruby_value.specs.declared.value.Value.{Value}
use Rattle.ruby_value.specs.declared.value.Value.TheVariants.{Dest}
use Rattle.ruby_value.specs.declared.message.Delivery.{Delivery}
use Rattle.ctl_face.specs.declared.parcel.Lent.{Lent}
use Rattle.ctl_face.specs.declared.routes.Routes.{Routes}
use Rattle.ctl_face.specs.Prelude.{lent_after, lent_after_all, Mail, Lasts, last_at, lasts_on, with_last, is_latency, Actor, mail_with_delivery, is_ordered, path_to, receiving_buffer, Sending, copy_limit, has_jitter, local_arrival, local_copy, network_arrival, next_copy, no_copies, receivers_of, send, sending_from, sending_on, with_network_copy, AddsCopies, IsNetworkCopy, IsOwnCopy, NetworkLasts, OwnLasts, SendAdds, arrival_after, mail_with_own}
use Rattle.ruby_value.specs.Prelude.{numbers_from, with_member}
use Rattle.ruby_value.proofs.Ordered.{AllPairs-insert, AllPairs-nil}
use Rattle.ctl_face.specs.Send.{members_of}
use Rattle.ctl_face.proofs.LastArrivals.{inbox_after, inserted_elsewhere, inserted_here, lasts_after, marks_after, no_lasts, not_moved}
use Rattle.ctl_face.proofs.Cases.{Good, good_ok, good_err, good_cond}
use Rattle.pcg_words.specs.Prelude.{below}

numbers_push : (sender count n : ℕ) → numbers_from sender count n ++ record { sender = sender; count = count + n } ∷ [] ≡ numbers_from sender count (n + 1)
numbers_push sender count zero = let same : count + 0 ≡ count = omega arith in rw same refl
numbers_push sender count (suc n) =
    let same : count + suc n ≡ count + 1 + n = omega arith in
    let more : suc n + 1 ≡ suc (n + 1) = omega arith in
    rw (same, more) (ap (λ (ns : List MsgNo). record { sender = sender; count = count } ∷ ns) (numbers_push sender (count + 1) n))

delivered_drawn : (mine : Bool) (mail : Mail) (m : Message) → (mail_with_delivery mine mail m).drawn ≡ mail.drawn
delivered_drawn true mail m = refl
delivered_drawn false mail m = refl

delivered_lasts : (mine : Bool) (mail : Mail) (m : Message) → (mail_with_delivery mine mail m).network_last ≡ mail.network_last
delivered_lasts true mail m = refl
delivered_lasts false mail m = refl

delivered_own : (mine : Bool) (mail : Mail) (m : Message) → (mail_with_delivery mine mail m).local_last ≡ mail.local_last
delivered_own true mail m = refl
delivered_own false mail m = refl

delivered_credits : (mine : Bool) (mail : Mail) (m : Message) → (mail_with_delivery mine mail m).credits ≡ mail.credits
delivered_credits true mail m = refl
delivered_credits false mail m = refl

lent_push : (routes : Routes) (first lent : List Lent) (copies : List (Delivery Message)) (c : Delivery Message) → lent ≡ lent_after_all routes first copies
    → lent_after routes lent c.receiver c.message.buffer ≡ lent_after_all routes first (copies ++ c ∷ [])
lent_push routes first lent copies c same =
    ap (λ (l : List Lent). lent_after routes l c.receiver c.message.buffer) same
    ∙ sym (fold-append (λ (l : List Lent) (x : Delivery Message). lent_after routes l x.receiver x.message.buffer) first copies (c ∷ []))

same_word : (b : Bool) (seed me bound drawn sent d s n : ℕ) → sent ≡ s + n → drawn ≡ d + cond b n 0 → cond b (below seed me drawn bound) 0 ≡ cond b (below seed me (d + (sent - s)) bound) 0
same_word true seed me bound drawn sent d s n sent_is drawn_is = let same : drawn ≡ d + (sent - s) = omega arith in ap (λ (k : ℕ). below seed me k bound) same
same_word false seed me bound drawn sent d s n sent_is drawn_is = refl

-- a copy that is raised to the last arrival comes at the same time where that is the same
exactly : (ordered : Bool) (sum due last first arrival : ℕ) → arrival ≡ cond ordered (max sum last) sum → sum ≡ due → (ordered ≡ true → last ≡ first) → arrival ≡ arrival_after ordered due first
exactly true sum due last first arrival is same alone = is ∙ ap (max sum) (alone refl) ∙ ap (λ (k : ℕ). max k first) same
exactly false sum due last first arrival is same alone = is ∙ same

-- the receivers of a message ascend
abbrev Ascend : List ℕ → Type 0
Ascend receivers = AllPairs (λ (a b : ℕ). a < b) receivers

ascend_with : (members : List ℕ) (receivers : List ℕ) → Ascend receivers → Ascend (fold with_member receivers members)
ascend_with [] receivers ascends = ascends
ascend_with (m ∷ members) receivers ascends =
    ascend_with members (with_member receivers m)
    (AllPairs-insert (λ (a b : ℕ). a < b) (λ a b c first second. omega arith) (λ a. nat_lt a m) (λ b. nat_lt m b) m (λ a. ltb-true a m) (λ b. ltb-true m b) receivers ascends)

members_ascend : (o : Option Value) → Ascend (members_of o)
members_ascend (Some (Dest members)) = ascend_with members [] (AllPairs-nil (λ (a b : ℕ). a < b))
members_ascend _ = AllPairs-nil (λ (a b : ℕ). a < b)

receivers_ascend : (destination : Option ℕ) (fields : List Value) → Ascend (receivers_of destination fields)
receivers_ascend None fields = AllPairs-nil (λ (a b : ℕ). a < b)
receivers_ascend (Some destination) fields = members_ascend (slice_get fields destination)

-- of receivers that ascend, the next isn't among those that are done
not_among : (done rest : List ℕ) (receiver : ℕ) → Ascend (done ++ receiver ∷ rest) → Contains done receiver → ⊥
not_among done rest receiver ascends there =
    let within = there.1 in
    let long = length-append done (receiver ∷ rest) in
    let more : length (receiver ∷ rest) ≡ length rest + 1 = omega arith in
    let before : get_or (done ++ receiver ∷ rest) there.0 receiver ≡ receiver = get_or_append_left done (receiver ∷ rest) receiver there.0 within ∙ there.2 in
    let zero_more : length done + 0 ≡ length done = omega arith in
    let here : get_or (done ++ receiver ∷ rest) (length done) receiver ≡ receiver = ap (λ (k : ℕ). get_or (done ++ receiver ∷ rest) k receiver) (sym zero_more) ∙ get_or-append-add done (receiver ∷ rest) 0 receiver in
    let less = ascends there.0 (length done) receiver within (omega arith) in
    omega arith

module _ (actor : Actor) (start : Mail) (network latency : ℕ) (receivers : List ℕ) (ascends : Ascend receivers) (fields : List Value) (now : ℕ) where
  abbrev IsCopy : Delivery Message → Type 0
  IsCopy = IsNetworkCopy actor start network latency fields now

  -- after copies for some receivers
  record Done (done : List ℕ) (s : Sending) : Type 0 where
    to : map (λ (c : Delivery Message). c.receiver) s.copies ≡ done
    numbers : map (λ (c : Delivery Message). c.message.number) s.copies ≡ numbers_from actor.me start.sent (length done)
    each : All IsCopy s.copies
    sent : s.mail.sent ≡ start.sent + length done
    copies_counted : s.mail.copies ≡ start.copies + length done
    drawn : s.mail.drawn ≡ start.drawn + cond (has_jitter actor) (length done) 0
    inbox : s.mail.inbox ≡ (mail_with_own actor.me start s.copies).inbox
    marks : s.mail.marks ≡ (mail_with_own actor.me start s.copies).marks
    lent : s.mail.lent ≡ lent_after_all actor.routes start.lent s.copies
    credits : s.mail.credits ≡ start.credits
    others : is_ordered actor.routes network ≡ true → (q : ℕ) → (Contains done q → ⊥) → last_at (lasts_on s.mail.network_last network) q ≡ last_at (lasts_on start.network_last network) q
    networks : length s.mail.network_last ≡ length start.network_last
    lasts : NetworkLasts (is_ordered actor.routes network) network start s.mail s.copies

  one_drawn : (b : Bool) (drawn n : ℕ) → drawn ≡ start.drawn + cond b n 0 → cond b (drawn + 1) drawn ≡ start.drawn + cond b (n + 1) 0
  one_drawn true drawn n is = omega arith
  one_drawn false drawn n is = is

  others_kept : (b : Bool) (networks : List Lasts) (done : List ℕ) (receiver arrival : ℕ) → ((q : ℕ) → (Contains done q → ⊥) → last_at (lasts_on networks network) q ≡ last_at (lasts_on start.network_last network) q)
      → (q : ℕ) → (Contains (done ++ receiver ∷ []) q → ⊥) → last_at (lasts_on (cond b (with_last networks network receiver arrival) networks) network) q ≡ last_at (lasts_on start.network_last network) q
  others_kept true networks done receiver arrival before q apart =
      not_moved networks network receiver arrival q (λ same. apart (subst (Contains (done ++ receiver ∷ [])) (sym same) (Contains-push done receiver)))
      ∙ before q (λ there. apart (Contains-append_left done (receiver ∷ []) q there))
  others_kept false networks done receiver arrival before q apart = before q (λ there. apart (Contains-append_left done (receiver ∷ []) q there))

  networks_kept : (b : Bool) (networks : List Lasts) (receiver arrival : ℕ) → length networks ≡ length start.network_last → length (cond b (with_last networks network receiver arrival) networks) ≡ length start.network_last
  networks_kept true networks receiver arrival same = length-set networks network _ ∙ same
  networks_kept false networks receiver arrival same = same

  named : (o : Option ℕ) → is_some o ≡ true → o ≡ Some (unwrap_or o 0)
  named None wrong = absurd (cc wrong)
  named (Some b) is = refl

  one_done : (done : List ℕ) (s : Sending) (receiver : ℕ) → is_some (receiving_buffer actor.routes receiver network) ≡ true → (Contains done receiver → ⊥) → Done done s → Done (done ++ receiver ∷ []) (with_network_copy actor network latency fields now s receiver)
  one_done done s receiver routed apart before =
      let arrival = network_arrival actor s.mail network latency now receiver in
      let buffer = unwrap_or (receiving_buffer actor.routes receiver network) 0 in
      let copy = next_copy actor s.mail receiver buffer arrival fields in
      let is_mine = eqb receiver actor.me in
      let longer : length (done ++ receiver ∷ []) ≡ length done + 1 = length-append done (receiver ∷ []) in
      let path = path_to actor.routes actor.me receiver in
      let word = same_word (has_jitter actor) actor.seed actor.me (actor.routes.jitter + 1) s.mail.drawn s.mail.sent start.drawn start.sent (length done) before.sent before.drawn in
      let same_drawn = delivered_drawn is_mine s.mail copy.message in
      let same_lasts = delivered_lasts is_mine s.mail copy.message in
      let ordered = is_ordered actor.routes network in
      let after = (with_network_copy actor network latency fields now s receiver).mail in
      let due = ap (λ (j : ℕ). now + latency + path + j) word in
      let last = last_at (lasts_on s.mail.network_last network) receiver in
      let first = last_at (lasts_on start.network_last network) receiver in
      record {
        to = map-append _ s.copies (copy ∷ []) ∙ ap (λ (rs : List ℕ). rs ++ receiver ∷ []) before.to;
        numbers = map-append _ s.copies (copy ∷ []) ∙ ap (λ (ns : List MsgNo). ns ++ record { sender = actor.me; count = s.mail.sent } ∷ []) before.numbers
            ∙ ap (λ (k : ℕ). numbers_from actor.me start.sent (length done) ++ record { sender = actor.me; count = k } ∷ []) before.sent
            ∙ numbers_push actor.me start.sent (length done) ∙ ap (numbers_from actor.me start.sent) (sym longer);
        each = All-push IsCopy s.copies copy before.each (record {
          buffer = named (receiving_buffer actor.routes receiver network) routed;
          fields_sent = refl;
          not_recycled = refl;
          arrival = exactly ordered _ _ last first arrival refl due (λ is. before.others is receiver apart);
        });
        sent = (let here = before.sent in omega arith);
        copies_counted = (let here = before.copies_counted in omega arith);
        drawn = rw (same_drawn, longer) (one_drawn (has_jitter actor) s.mail.drawn (length done) before.drawn);
        inbox = inbox_after actor.me start s.mail s.copies copy before.inbox;
        marks = marks_after actor.me start s.mail s.copies copy before.marks;
        lent = lent_push actor.routes start.lent s.mail.lent s.copies copy before.lent;
        credits = delivered_credits is_mine s.mail copy.message ∙ before.credits;
        others = λ is q among. rw same_lasts (others_kept ordered s.mail.network_last done receiver arrival (before.others is) q among);
        networks = rw same_lasts (networks_kept ordered s.mail.network_last receiver arrival before.networks);
        lasts = lasts_after network start ordered s.mail s.copies copy _ before.networks refl before.lasts after
            (ap (λ (ls : List Lasts). cond ordered (with_last ls network receiver arrival) ls) same_lasts) (delivered_own is_mine s.mail copy.message);
      }

  all_done : (members done : List ℕ) (s : Sending) → list_all (λ receiver. is_some (receiving_buffer actor.routes receiver network)) members ≡ true
      → receivers ≡ done ++ members → Done done s → Done (done ++ members) (fold (with_network_copy actor network latency fields now) s members)
  all_done [] done s routed whole before = subst (λ (rs : List ℕ). Done rs s) (sym (append-nil done)) before
  all_done (receiver ∷ members) done s routed whole before =
      let both = and_parts (is_some (receiving_buffer actor.routes receiver network)) (list_all (λ r. is_some (receiving_buffer actor.routes r network)) members) routed in
      subst (λ (rs : List ℕ). Done rs (fold (with_network_copy actor network latency fields now) s (receiver ∷ members))) (append_assoc done (receiver ∷ []) members)
      (all_done members (done ++ receiver ∷ []) (with_network_copy actor network latency fields now s receiver) both.1 (whole ∙ sym (append_assoc done (receiver ∷ []) members))
      (one_done done s receiver both.0 (not_among done members receiver (subst Ascend whole ascends)) before))

  none_drawn : (b : Bool) → start.drawn ≡ start.drawn + cond b 0 0
  none_drawn true = omega arith
  none_drawn false = omega arith

  none_done : Done [] (no_copies start)
  none_done = record {
    to = refl;
    numbers = refl;
    each = All-nil IsCopy;
    sent = omega arith;
    copies_counted = omega arith;
    drawn = none_drawn (has_jitter actor);
    inbox = refl;
    marks = refl;
    lent = refl;
    credits = refl;
    others = λ _ q _. refl;
    networks = refl;
    lasts = no_lasts network start (is_ordered actor.routes network);
  }

  pub network_adds : list_all (λ receiver. is_some (receiving_buffer actor.routes receiver network)) receivers ≡ true
      → (let sending = fold (with_network_copy actor network latency fields now) (no_copies start) receivers in
      AddsCopies actor start receivers (cond (has_jitter actor) (length receivers) 0) IsCopy sending × NetworkLasts (is_ordered actor.routes network) network start sending.mail sending.copies)
  network_adds routed =
      let done = all_done receivers [] (no_copies start) routed refl none_done in (
        record { to = done.to; numbers = done.numbers; each = done.each; sent = done.sent; copies_counted = done.copies_counted; drawn = done.drawn; inbox = done.inbox; marks = done.marks; lent = done.lent; credits = done.credits },
        done.lasts,
      )

pub nothing_added : (actor : Actor) (mail : Mail) → AddsCopies actor mail [] 0 (λ c. ⊥) (no_copies mail)
nothing_added actor mail = record { to = refl; numbers = refl; each = All-nil (λ c. ⊥); sent = omega arith; copies_counted = omega arith; drawn = omega arith; inbox = refl; marks = refl; lent = refl; credits = refl }

own_lasts : (ordered : Bool) (actor : Actor) (mail : Mail) (buffer latency : ℕ) (fields : List Value) (now : ℕ)
    → (let sending = local_copy actor ordered mail buffer latency fields now in OwnLasts ordered buffer mail sending.mail sending.copies)
own_lasts true actor mail buffer latency fields now =
    let arrival = local_arrival true mail buffer latency now in
    let copy = next_copy actor mail actor.me buffer arrival fields in
    record {
      in_order = λ _. inserted_here mail.local_last buffer arrival ∙ (let same : arrival ≡ max (last_at mail.local_last buffer) arrival = omega arith in same);
      other_buffers = λ other apart. inserted_elsewhere mail.local_last buffer arrival other apart;
      unordered = λ wrong. absurd (cc wrong);
      networks = delivered_lasts (eqb actor.me actor.me) mail copy.message;
    }
own_lasts false actor mail buffer latency fields now =
    let copy = next_copy actor mail actor.me buffer (local_arrival false mail buffer latency now) fields in
    record {
      in_order = λ wrong. absurd (cc wrong);
      other_buffers = λ _ _. refl;
      unordered = λ _. refl;
      networks = delivered_lasts (eqb actor.me actor.me) mail copy.message;
    }

own_added : (actor : Actor) (ordered : Bool) (mail : Mail) (buffer latency : ℕ) (fields : List Value) (now : ℕ) → AddsCopies actor mail (actor.me ∷ []) 0 (IsOwnCopy ordered mail buffer latency fields now) (local_copy actor ordered mail buffer latency fields now)
own_added actor ordered mail buffer latency fields now =
    let copy = next_copy actor mail actor.me buffer (local_arrival ordered mail buffer latency now) fields in
    let P = IsOwnCopy ordered mail buffer latency fields now in
    let is : P copy = record { buffer = refl; fields_sent = refl; not_recycled = refl; arrival = refl } in
    let same = delivered_drawn (eqb actor.me actor.me) mail copy.message in
    record {
      to = refl;
      numbers = refl;
      each = All-cons P copy [] is (All-nil P);
      sent = refl;
      copies_counted = refl;
      drawn = same ∙ (omega arith);
      inbox = inbox_after actor.me mail mail [] copy refl;
      marks = marks_after actor.me mail mail [] copy refl;
      lent = refl;
      credits = delivered_credits (eqb actor.me actor.me) mail copy.message;
    }

on_adds : (p : BufferPlace) (ordered : Bool) (actor : Actor) (mail : Mail) (buffer latency : ℕ) (fields : List Value) (now : ℕ) → Good (SendAdds p ordered actor mail buffer latency fields now) (sending_on p ordered actor mail buffer latency fields now)
on_adds place.Local ordered actor mail buffer latency fields now =
    let P = SendAdds place.Local ordered actor mail buffer latency fields now in
    let sending = local_copy actor ordered mail buffer latency fields now in
    good_cond P (nat_lt copy_limit (mail.copies + 1)) (Err Copies) (Ok sending) (λ _. good_err P Copies)
    (λ _. good_ok P sending (own_added actor ordered mail buffer latency fields now, own_lasts ordered actor mail buffer latency fields now))
on_adds (place.To network destination) ordered actor mail buffer latency fields now =
    let P = SendAdds (place.To network destination) ordered actor mail buffer latency fields now in
    let members = receivers_of destination fields in
    let sending = fold (with_network_copy actor network latency fields now) (no_copies mail) members in
    let routed = list_all (λ receiver. is_some (receiving_buffer actor.routes receiver network)) members in
    let many = nat_lt copy_limit (mail.copies + length members) in
    good_cond P (not routed) (Err Route) (cond many (Err Copies) (Ok sending)) (λ _. good_err P Route)
    (λ are_routed. good_cond P many (Err Copies) (Ok sending) (λ _. good_err P Copies)
    (λ _. good_ok P sending (network_adds actor mail network latency members (receivers_ascend destination fields) fields now (not-false routed are_routed))))
on_adds (place.From network) ordered actor mail buffer latency fields now =
    good_ok (SendAdds (place.From network) ordered actor mail buffer latency fields now) (no_copies mail) (nothing_added actor mail, refl)

pub send_adds : (machine : MachineSetup) (actor : Actor) (mail : Mail) (buffer : ℕ) (latency : ℤ) (fields : List Value) (now : ℕ) (on : BufferSetup) (s : Sending) → slice_get machine.buffers buffer ≡ Some on
    → send machine actor mail buffer latency fields now ≡ Ok s → SendAdds on.place on.ordered actor mail buffer (nat_abs latency) fields now s
send_adds machine actor mail buffer latency fields now on s is =
    let P = SendAdds on.place on.ordered actor mail buffer (nat_abs latency) fields now in
    let From : Option BufferSetup → Type 0 = λ o. Good P (sending_from o actor mail buffer (nat_abs latency) fields now) in
    let from = subst From (sym is) (on_adds on.place on.ordered actor mail buffer (nat_abs latency) fields now) in
    (good_cond P (is_latency latency) (sending_from (slice_get machine.buffers buffer) actor mail buffer (nat_abs latency) fields now) (Err Latency) (λ _. from) (λ _. good_err P Latency)).good s

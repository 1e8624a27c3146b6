-- Acts that are kept after others: they can be made, the counts are those of the changed mail, and the last arrivals are the newest
-- that were written. A copy that is kept leaves what is ready as it was.
use Rattle.std.proofs.Common.{◌≡◌, ◌≢◌, ◌<◌, ◌≤◌, ◌+◌, ◌++◌, ◌&&◌, ℕ, zero, suc, Bool, true, false, cond, Option, None, Some, List, [], ◌∷◌, refl, sym, subst, ap, ◌∙◌, inr, ⊎_elim, eqb, length, Contains, unwrap_or, is_some, slice_set, arith}
use Rattle.std.specs.List.{All, fold}
use Rattle.std.specs.FinMap as finite
use Rattle.std.proofs.lemmas.Bool.{eq-eqb, eqb-true}
use Rattle.std.proofs.lemmas.List.{length-set}
use Rattle.std.proofs.lemmas.List.Elements.{All-contains}
use Rattle.std.proofs.lemmas.List.Sums.{fold-append}
use Rattle.ruby_value.specs.declared.message.Message.{Message}
use Rattle.ctl_face.specs.declared.routes.Routes.{Routes}
use Rattle.ctl_face.specs.Prelude.{Acts, at_front, InboxMessage, Mail, Lasts, last_at, lasts_on, size_of, with_last, with_lent, incoming_message, mail_with_delivery, mail_without, mail_with_recycled, mail_with_waiting}
use Rattle.ruby_value.specs.declared.message.Delivery.{Delivery}
use Rattle.ctl_face.specs.Front as face
use Rattle.ctl_face.specs.Inbox.{with_message}
use Rattle.ctl_face.proofs.LastArrivals.{inserted_elsewhere, inserted_here, not_moved}
use Rattle.ctl_face.proofs.OneKey.{with_message-contains}
use Rattle.ctl_mail.specs.declared.act.MailAct.{MailAct}
use Rattle.ctl_mail.specs.declared.act.MailAct.TheVariants.{Arrive, Count, Credit, Lend, LocalLast, Mark, NetworkLast, Pop, Recycle, Stall, Wake, WakeAll}
use Rattle.ctl_mail.specs.declared.moves.Move.{Move}
use Rattle.ctl_mail.specs.declared.sent.SendCounts.{SendCounts}
use Rattle.ctl_mail.specs.Prelude.{IsNewIn, LentFit, copy_acts, counts_after, newer_local, newer_network, told_with_copy, AreMakeable, CopiesFit, CountsFit, IsMakeable, IsSeen, Told, after_act, after_acts, changed_mail, counts_in, mail_at_front}

pub after-both : (now : ℕ) (mail : Mail) (xs ys : List MailAct) → after_acts now mail (xs ++ ys) ≡ after_acts now (after_acts now mail xs) ys
unfolding after_acts
after-both now mail xs ys = fold-append (after_act now) mail xs ys

after-first-act : (now : ℕ) (mail : Mail) (act : MailAct) (rest : List MailAct) → after_acts now mail (act ∷ rest) ≡ after_acts now (after_act now mail act) rest
unfolding after_acts
after-first-act now mail act rest = refl

after-no-act : (now : ℕ) (mail : Mail) → after_acts now mail [] ≡ mail
unfolding after_acts
after-no-act now mail = refl

pub after-one : (now : ℕ) (mail : Mail) (act : MailAct) → after_acts now mail (act ∷ []) ≡ after_act now mail act
unfolding after_acts
after-one now mail act = refl

pub makeable-both : (now : ℕ) (mail : Mail) (xs ys : List MailAct) → AreMakeable now mail xs → AreMakeable now (after_acts now mail xs) ys → AreMakeable now mail (xs ++ ys)
unfolding AreMakeable
makeable-both now mail [] ys first then = subst (λ (m : Mail). AreMakeable now m ys) (after-no-act now mail) then
makeable-both now mail (x ∷ xs) ys first then =
    (first.0, makeable-both now (after_act now mail x) xs ys first.1 (subst (λ (m : Mail). AreMakeable now m ys) (after-first-act now mail x xs) then))

pub makeable-one : (now : ℕ) (mail : Mail) (act : MailAct) → IsMakeable now mail act → AreMakeable now mail (act ∷ [])
unfolding AreMakeable
makeable-one now mail act is = (is, tt)

pub makeable-first : (now : ℕ) (mail : Mail) (act : MailAct) (rest : List MailAct) → AreMakeable now mail (act ∷ rest) → IsMakeable now mail act × AreMakeable now (after_act now mail act) rest
unfolding AreMakeable
makeable-first now mail act rest are = are

pub makeable-none : (now : ℕ) (mail : Mail) → AreMakeable now mail []
unfolding AreMakeable
makeable-none now mail = tt

-- more acts
pub fits-more : (mail : Mail) (old : Told) (ys : List MailAct) (counts : SendCounts) (acts : Acts) (moves : List Move) → CopiesFit mail old → AreMakeable old.cycle (changed_mail mail old) ys
    → counts ≡ counts_in (after_acts old.cycle (changed_mail mail old) ys) → CopiesFit mail (record { cycle = old.cycle; counts = counts; log = old.log ++ ys; acts = acts; moves = moves })
fits-more mail old ys counts acts moves fits are is = record {
  makeable = makeable-both old.cycle mail old.log ys fits.makeable are;
  counts = is ∙ ap counts_in (sym (after-both old.cycle mail old.log ys));
}

-- an act that isn't of a copy
abbrev pub IsUncounted : MailAct → Type 0
IsUncounted (Count drawn) = ⊥
IsUncounted (Arrive m) = ⊥
IsUncounted (Lend receiver buffer) = ⊥
IsUncounted _ = Unit {0}

counts-at-front : (mail : Mail) (change : Message → Mail) → ((m : Message) → counts_in (change m) ≡ counts_in mail) → (o : Option Message) → counts_in (mail_at_front mail (at_front change o)) ≡ counts_in mail
counts-at-front mail change same None = refl
counts-at-front mail change same (Some m) = same m

pub counts-kept : (now : ℕ) (mail : Mail) (act : MailAct) → IsUncounted act → counts_in (after_act now mail act) ≡ counts_in mail
counts-kept now mail (Pop buffer) is = counts-at-front mail (mail_without mail) (λ m. refl) (face.front mail buffer now)
counts-kept now mail (Recycle buffer arrival) is = counts-at-front mail (mail_with_recycled mail arrival) (λ m. refl) (face.front mail buffer now)
counts-kept now mail (Mark cycle) is = refl
counts-kept now mail (Stall buffer line) is = counts-at-front mail (mail_with_waiting mail line) (λ m. refl) (face.front mail buffer now)
counts-kept now mail (Wake line) is = refl
counts-kept now mail WakeAll is = refl
counts-kept now mail (NetworkLast network receiver arrival) is = refl
counts-kept now mail (LocalLast buffer arrival) is = refl
counts-kept now mail (Credit c) is = refl
counts-kept now mail (Arrive m) is = absurd is
counts-kept now mail (Count drawn) is = absurd is
counts-kept now mail (Lend receiver buffer) is = absurd is

-- a credit comes for a later cycle
abbrev pub IsLater : ℕ → MailAct → Type 0
IsLater now (Credit c) = now < c.arrival
IsLater now _ = Unit {0}

makeable-uncounted : (now : ℕ) (mail : Mail) (act : MailAct) → IsUncounted act → IsLater now act → IsMakeable now mail act
makeable-uncounted now mail (Arrive m) is later = absurd is
makeable-uncounted now mail (Count drawn) is later = absurd is
makeable-uncounted now mail (Lend receiver buffer) is later = absurd is
makeable-uncounted now mail (Credit c) is later = later
makeable-uncounted now mail _ is later = tt

pub fits-act : (mail : Mail) (old : Told) (act : MailAct) (acts : Acts) (moves : List Move) → IsUncounted act → IsLater old.cycle act → CopiesFit mail old → CopiesFit mail (record old { log = old.log ++ act ∷ []; acts = acts; moves = moves })
fits-act mail old act acts moves is later fits =
    let before = changed_mail mail old in
    fits-more mail old (act ∷ []) old.counts acts moves fits (makeable-one old.cycle before act (makeable-uncounted old.cycle before act is later))
    (fits.counts ∙ (sym (counts-kept old.cycle before act is) ∙ ap counts_in (sym (after-one old.cycle before act))))

pub fits-none : (mail : Mail) (cycle : ℕ) (acts : Acts) → CopiesFit mail (record { cycle = cycle; counts = counts_in mail; log = []; acts = acts; moves = [] })
fits-none mail cycle acts = record { makeable = makeable-none cycle mail; counts = ap counts_in (sym (after-no-act cycle mail)) }

-- a copy to a receiver, which may be the sender, to a buffer that may have a size
abbrev pub copied_mail : (mine sized drawn : Bool) → Mail → (receiver : ℕ) → Message → Mail
copied_mail mine sized drawn mail receiver m = record (mail_with_delivery mine mail m) {
  sent = mail.sent + 1;
  drawn = cond drawn (mail.drawn + 1) mail.drawn;
  copies = mail.copies + 1;
  lent = cond sized (with_lent mail.lent receiver m.buffer) mail.lent;
}

-- whether the buffer of a copy has a size
abbrev pub is_sized : Routes → Delivery Message → Bool
is_sized routes c = is_some (size_of routes c.receiver c.message.buffer)

abbrev acts_of_copy : (mine sized drawn : Bool) → (receiver : ℕ) → Message → List MailAct
acts_of_copy mine sized drawn receiver m = Count drawn ∷ (cond mine (Arrive m ∷ []) [] ++ cond sized (Lend receiver m.buffer ∷ []) [])

after-copy-by : (now : ℕ) (mail : Mail) (mine sized drawn : Bool) (receiver : ℕ) (m : Message) → after_acts now mail (acts_of_copy mine sized drawn receiver m) ≡ copied_mail mine sized drawn mail receiver m
unfolding after_acts
after-copy-by now mail true true drawn receiver m = refl
after-copy-by now mail true false drawn receiver m = refl
after-copy-by now mail false true drawn receiver m = refl
after-copy-by now mail false false drawn receiver m = refl

counts-copied : (mail : Mail) (mine sized drawn : Bool) (receiver : ℕ) (m : Message) → counts_after drawn (counts_in mail) ≡ counts_in (copied_mail mine sized drawn mail receiver m)
counts-copied mail mine sized drawn receiver m = refl

pub after-copy : (mail : Mail) (me : ℕ) (routes : Routes) (drawn : Bool) (c : Delivery Message) (old : Told)
    → changed_mail mail (told_with_copy me routes drawn c old) ≡ copied_mail (eqb c.receiver me) (is_sized routes c) drawn (changed_mail mail old) c.receiver c.message
after-copy mail me routes drawn c old =
    after-both old.cycle mail old.log (copy_acts me routes drawn c) ∙ after-copy-by old.cycle (changed_mail mail old) (eqb c.receiver me) (is_sized routes c) drawn c.receiver c.message

makeable-copy-by : (now : ℕ) (mail : Mail) (mine sized drawn : Bool) (receiver : ℕ) (m : Message) → CountsFit mail → LentFit mail → (mine ≡ true → IsNewIn mail m.number)
    → AreMakeable now mail (acts_of_copy mine sized drawn receiver m)
unfolding AreMakeable
makeable-copy-by now mail true true drawn receiver m counts lent new = (counts, (new refl, (lent, tt)))
makeable-copy-by now mail true false drawn receiver m counts lent new = (counts, (new refl, tt))
makeable-copy-by now mail false true drawn receiver m counts lent new = (counts, (lent, tt))
makeable-copy-by now mail false false drawn receiver m counts lent new = (counts, tt)

pub fits-copy : (mail : Mail) (me : ℕ) (routes : Routes) (drawn : Bool) (c : Delivery Message) (old : Told) → CountsFit (changed_mail mail old) → LentFit (changed_mail mail old)
    → (eqb c.receiver me ≡ true → IsNewIn (changed_mail mail old) c.message.number)
    → CopiesFit mail old → CopiesFit mail (told_with_copy me routes drawn c old)
fits-copy mail me routes drawn c old counts lent new fits =
    let before = changed_mail mail old in
    let mine = eqb c.receiver me in
    let sized = is_sized routes c in
    fits-more mail old (copy_acts me routes drawn c) (counts_after drawn old.counts) (told_with_copy me routes drawn c old).acts old.moves fits
    (makeable-copy-by old.cycle before mine sized drawn c.receiver c.message counts lent new)
    (ap (counts_after drawn) fits.counts ∙ (counts-copied before mine sized drawn c.receiver c.message ∙ ap counts_in (sym (after-copy-by old.cycle before mine sized drawn c.receiver c.message))))

-- a message that arrives later isn't seen
module _ (cycle : ℕ) (inbox : List InboxMessage) (m : Message) (later : cycle < m.arrival) (fresh : All (λ (o : InboxMessage). o.message.number ≢ m.number) inbox) where
  not-it : (o : InboxMessage) → IsSeen cycle o → incoming_message m ≡ o → ⊥
  not-it o seen same =
      let waits : o.waiting ≡ None = sym (ap (λ (z : InboxMessage). z.waiting) same) in
      let arrived : o.message.arrival ≤ cycle = seen waits in
      let so : m.arrival ≡ o.message.arrival = ap (λ (z : InboxMessage). z.message.arrival) same in
      absurd (omega arith)

  pub late-contains : (o : InboxMessage) → IsSeen cycle o → Contains (with_message inbox (incoming_message m)) o → Contains inbox o
  late-contains o seen has =
      ⊎_elim (λ same. absurd (not-it o seen same)) (λ so. so.0) ((with_message-contains inbox (incoming_message m) o).0 has)

  pub still-contains : (o : InboxMessage) → Contains inbox o → Contains (with_message inbox (incoming_message m)) o
  still-contains o has =
      (with_message-contains inbox (incoming_message m) o).1
      (inr (has, All-contains (λ (o : InboxMessage). o.message.number ≢ m.number) inbox o fresh has))

-- the last arrivals after acts
lasts-at-front : (mail : Mail) (change : Message → Mail) → ((m : Message) → (change m).network_last ≡ mail.network_last) → (o : Option Message) → (mail_at_front mail (at_front change o)).network_last ≡ mail.network_last
lasts-at-front mail change same None = refl
lasts-at-front mail change same (Some m) = same m

locals-at-front : (mail : Mail) (change : Message → Mail) → ((m : Message) → (change m).local_last ≡ mail.local_last) → (o : Option Message) → (mail_at_front mail (at_front change o)).local_last ≡ mail.local_last
locals-at-front mail change same None = refl
locals-at-front mail change same (Some m) = same m

written-at : (networks : List Lasts) (network : ℕ) (w : Lasts) → network < length networks → lasts_on (slice_set networks network w) network ≡ w
written-at [] network w within = absurd (omega arith)
written-at (l ∷ networks) zero w within = refl
written-at (l ∷ networks) (suc network) w within = written-at networks network w (omega arith)

written-elsewhere : (networks : List Lasts) (network other : ℕ) (w : Lasts) → other ≢ network → lasts_on (slice_set networks network w) other ≡ lasts_on networks other
written-elsewhere [] network other w apart = refl
written-elsewhere (l ∷ networks) zero zero w apart = absurd (apart refl)
written-elsewhere (l ∷ networks) zero (suc other) w apart = refl
written-elsewhere (l ∷ networks) (suc network) zero w apart = refl
written-elsewhere (l ∷ networks) (suc network) (suc other) w apart = written-elsewhere networks network other w (λ same. apart (ap suc same))

module _ (network receiver base now : ℕ) where
  abbrev LastIs : Mail → Option ℕ → Type 0
  LastIs mail found = last_at (lasts_on mail.network_last network) receiver ≡ unwrap_or found base

  same-last : (mail after : Mail) (found : Option ℕ) → after.network_last ≡ mail.network_last → LastIs mail found → LastIs after found
  same-last mail after found same is = ap (λ (xs : List Lasts). last_at (lasts_on xs network) receiver) same ∙ is

  written-last : (mail : Mail) (other to arrival : ℕ) (found : Option ℕ) → network < length mail.network_last → LastIs mail found
      → (b : Bool) → eqb other network ≡ b → (d : Bool) → eqb to receiver ≡ d
      → last_at (lasts_on (with_last mail.network_last other to arrival) network) receiver ≡ unwrap_or (cond (b && d) (Some arrival) found) base
  written-last mail other to arrival found within is true here true it =
      subst (λ o. last_at (lasts_on (with_last mail.network_last o to arrival) network) receiver ≡ arrival) (sym (eqb-true other network here))
      (subst (λ r. last_at (lasts_on (with_last mail.network_last network r arrival) network) receiver ≡ arrival) (sym (eqb-true to receiver it))
      (ap (λ (l : Lasts). last_at l receiver) (written-at mail.network_last network (finite.insert (lasts_on mail.network_last network) receiver arrival) within)
      ∙ inserted_here (lasts_on mail.network_last network) receiver arrival))
  written-last mail other to arrival found within is true here false it =
      not_moved_at other (eqb-true other network here) ∙ is
    where
      not_moved_at : (o : ℕ) → o ≡ network → last_at (lasts_on (with_last mail.network_last o to arrival) network) receiver ≡ last_at (lasts_on mail.network_last network) receiver
      not_moved_at o same =
          subst (λ k. last_at (lasts_on (with_last mail.network_last k to arrival) network) receiver ≡ last_at (lasts_on mail.network_last network) receiver) (sym same)
          (not_moved mail.network_last network to arrival receiver (λ so. absurd (cc (sym (eq-eqb to receiver (sym so)) ∙ it))))
  written-last mail other to arrival found within is false here d it =
      ap (λ (l : Lasts). last_at l receiver)
      (written-elsewhere mail.network_last other network (finite.insert (lasts_on mail.network_last other) to arrival) (λ so. absurd (cc (sym (eq-eqb other network (sym so)) ∙ here))))
      ∙ is

  one-last : (mail : Mail) (act : MailAct) (found : Option ℕ) → network < length mail.network_last → LastIs mail found → LastIs (after_act now mail act) (newer_network network receiver found act)
  one-last mail (Pop buffer) found within is = same-last mail (after_act now mail (Pop buffer)) found (lasts-at-front mail (mail_without mail) (λ m. refl) (face.front mail buffer now)) is
  one-last mail (Recycle buffer arrival) found within is = same-last mail (after_act now mail (Recycle buffer arrival)) found (lasts-at-front mail (mail_with_recycled mail arrival) (λ m. refl) (face.front mail buffer now)) is
  one-last mail (Mark cycle) found within is = is
  one-last mail (Stall buffer line) found within is = same-last mail (after_act now mail (Stall buffer line)) found (lasts-at-front mail (mail_with_waiting mail line) (λ m. refl) (face.front mail buffer now)) is
  one-last mail (Wake line) found within is = is
  one-last mail WakeAll found within is = is
  one-last mail (Arrive m) found within is = is
  one-last mail (Count drawn) found within is = is
  one-last mail (LocalLast buffer arrival) found within is = is
  one-last mail (Lend to buffer) found within is = is
  one-last mail (Credit c) found within is = is
  one-last mail (NetworkLast other to arrival) found within is = written-last mail other to arrival found within is (eqb other network) refl (eqb to receiver) refl

  one-length : (mail : Mail) (act : MailAct) → length (after_act now mail act).network_last ≡ length mail.network_last
  one-length mail (Pop buffer) = ap length (lasts-at-front mail (mail_without mail) (λ m. refl) (face.front mail buffer now))
  one-length mail (Recycle buffer arrival) = ap length (lasts-at-front mail (mail_with_recycled mail arrival) (λ m. refl) (face.front mail buffer now))
  one-length mail (Mark cycle) = refl
  one-length mail (Stall buffer line) = ap length (lasts-at-front mail (mail_with_waiting mail line) (λ m. refl) (face.front mail buffer now))
  one-length mail (Wake line) = refl
  one-length mail WakeAll = refl
  one-length mail (Arrive m) = refl
  one-length mail (Count drawn) = refl
  one-length mail (LocalLast buffer arrival) = refl
  one-length mail (Lend to buffer) = refl
  one-length mail (Credit c) = refl
  one-length mail (NetworkLast other to arrival) = length-set mail.network_last other (finite.insert (lasts_on mail.network_last other) to arrival)

  pub last-after : (mail : Mail) (log : List MailAct) (found : Option ℕ) → network < length mail.network_last → LastIs mail found → LastIs (after_acts now mail log) (fold (newer_network network receiver) found log)
  last-after mail [] found within is = subst (λ (m : Mail). LastIs m found) (sym (after-no-act now mail)) is
  last-after mail (act ∷ log) found within is =
      subst (λ (m : Mail). LastIs m (fold (newer_network network receiver) (newer_network network receiver found act) log)) (sym (after-first-act now mail act log))
      (last-after (after_act now mail act) log (newer_network network receiver found act) (let so = one-length mail act in omega arith) (one-last mail act found within is))

  pub length-after : (mail : Mail) (log : List MailAct) → length (after_acts now mail log).network_last ≡ length mail.network_last
  length-after mail [] = ap (λ (m : Mail). length m.network_last) (after-no-act now mail)
  length-after mail (act ∷ log) =
      ap (λ (m : Mail). length m.network_last) (after-first-act now mail act log) ∙ (length-after (after_act now mail act) log ∙ one-length mail act)

pub no-lasts-past : (networks : List Lasts) (network : ℕ) → length networks ≤ network → lasts_on networks network ≡ finite.empty
no-lasts-past [] network past = refl
no-lasts-past (l ∷ networks) zero past = absurd (omega arith)
no-lasts-past (l ∷ networks) (suc network) past = no-lasts-past networks network (omega arith)

module _ (buffer base now : ℕ) where
  abbrev LocalIs : Mail → Option ℕ → Type 0
  LocalIs mail found = last_at mail.local_last buffer ≡ unwrap_or found base

  written-local : (mail : Mail) (other arrival : ℕ) (found : Option ℕ) → LocalIs mail found
      → (b : Bool) → eqb other buffer ≡ b → last_at (finite.insert mail.local_last other arrival) buffer ≡ unwrap_or (cond b (Some arrival) found) base
  written-local mail other arrival found is true here =
      subst (λ o. last_at (finite.insert mail.local_last o arrival) buffer ≡ arrival) (sym (eqb-true other buffer here)) (inserted_here mail.local_last buffer arrival)
  written-local mail other arrival found is false here =
      inserted_elsewhere mail.local_last other arrival buffer (λ so. absurd (cc (sym (eq-eqb other buffer (sym so)) ∙ here))) ∙ is

  one-local : (mail : Mail) (act : MailAct) (found : Option ℕ) → LocalIs mail found → LocalIs (after_act now mail act) (newer_local buffer found act)
  one-local mail (Pop from) found is = ap (λ (l : Lasts). last_at l buffer) (locals-at-front mail (mail_without mail) (λ m. refl) (face.front mail from now)) ∙ is
  one-local mail (Recycle from arrival) found is = ap (λ (l : Lasts). last_at l buffer) (locals-at-front mail (mail_with_recycled mail arrival) (λ m. refl) (face.front mail from now)) ∙ is
  one-local mail (Mark cycle) found is = is
  one-local mail (Stall from line) found is = ap (λ (l : Lasts). last_at l buffer) (locals-at-front mail (mail_with_waiting mail line) (λ m. refl) (face.front mail from now)) ∙ is
  one-local mail (Wake line) found is = is
  one-local mail WakeAll found is = is
  one-local mail (Arrive m) found is = is
  one-local mail (Count drawn) found is = is
  one-local mail (NetworkLast other to arrival) found is = is
  one-local mail (Lend to at) found is = is
  one-local mail (Credit c) found is = is
  one-local mail (LocalLast other arrival) found is = written-local mail other arrival found is (eqb other buffer) refl

  pub local-after : (mail : Mail) (log : List MailAct) (found : Option ℕ) → LocalIs mail found → LocalIs (after_acts now mail log) (fold (newer_local buffer) found log)
  local-after mail [] found is = subst (λ (m : Mail). LocalIs m found) (sym (after-no-act now mail)) is
  local-after mail (act ∷ log) found is =
      subst (λ (m : Mail). LocalIs m (fold (newer_local buffer) (newer_local buffer found act) log)) (sym (after-first-act now mail act log))
      (local-after (after_act now mail act) log (newer_local buffer found act) (one-local mail act found is))

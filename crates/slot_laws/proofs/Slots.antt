-- Of one buffer with a size, and a sender: its slots are held, and what happens to the sender and to the receiver keeps that.
use Rattle.std.proofs.Common.{◌≡◌, ◌<◌, ◌≤◌, ◌+◌, ℕ, Bool, true, List, All, cond, refl, ap, arith}
use Rattle.ruby_value.specs.declared.message.Delivery.{Delivery}
use Rattle.ruby_value.specs.declared.message.Sent.{Sent}
use Rattle.ctl_face.specs.declared.parcel.Parcel.{Parcel}
use Rattle.ctl_face.specs.Prelude.{Actor, Ctl, Mail, arrived_credits, at_cycle, controller_count, free_slots, lent_at, with_one_fired}
use Rattle.protocol_runs.specs.Prelude.{messages_for}
use Rattle.slot_laws.specs.Prelude.{copies_sent, credits_held, has_size, messages_held, slots_taken}
use Rattle.slot_laws.proofs.Coming.{AreNewTo, ComesLater, IsOfOther, arrived_stay, come, credits_come, lent_stays, messages_come, messages_stay}
use Rattle.slot_laws.proofs.Copies.{come_later, credits_to, no_credit_to_itself, no_others_credits, none_to_itself, of_others, sent_to}
use Rattle.slot_laws.proofs.Firing.{HasMoved}
use Rattle.slot_laws.proofs.Settling.{credits_kept, lent_settled, more_arrive}

-- of n slots in the buffer b at the receiver r, with the mail of the sender and of the receiver
pub record Holds (r b n now sender : ℕ) (mail to : Mail) : Type 0 where
  pub used : lent_at mail.lent r b ≡ credits_held mail.credits r b + messages_held to.inbox sender b
  pub within : lent_at mail.lent r b ≤ n + arrived_credits mail.credits r b now

-- as the mail is, but for marks and other counts
pub record SameSlots (before after : Mail) : Type 0 where
  pub inbox : after.inbox ≡ before.inbox
  pub lent : after.lent ≡ before.lent
  pub credits : after.credits ≡ before.credits

pub same_slots : (mail : Mail) → SameSlots mail mail
same_slots mail = record { inbox = refl; lent = refl; credits = refl }

module _ (r b n now sender : ℕ) where
  pub still_holds : (mail to other there : Mail) → SameSlots mail other → SameSlots to there → Holds r b n now sender mail to → Holds r b n now sender other there
  still_holds mail to other there same also h =
      let lent = ap (λ ls. lent_at ls r b) same.lent in
      let held = ap (λ cs. credits_held cs r b) same.credits in
      let arrived = ap (λ cs. arrived_credits cs r b now) same.credits in
      let messages = ap (λ ms. messages_held ms sender b) also.inbox in
      record { used = (let used = h.used in omega arith); within = (let within = h.within in omega arith) }

  -- as a later cycle begins
  pub begun_holds : (next : ℕ) (x y : Ctl) → now < next → Holds r b n now sender x.mail y.mail → Holds r b n next sender (at_cycle x next).mail (at_cycle y next).mail
  begun_holds next x y later h =
      let lent = lent_settled x.mail.credits next r b x.mail.lent in
      let held = credits_kept x.mail.credits r b next in
      let more = more_arrive x.mail.credits r b now next (omega arith) in
      record { used = (let used = h.used in omega arith); within = (let within = h.within in omega arith) }

  -- where messages of others come, and nothing else
  pub others_come : (x y : Ctl) (ps qs : List Parcel) → All (λ (p : Parcel). IsOfOther sender p × ComesLater now p) ps → All (λ (p : Parcel). IsOfOther sender p) qs
      → credits_held (come x ps).mail.credits r b ≡ credits_held x.mail.credits r b
      → Holds r b n now sender x.mail y.mail → Holds r b n now sender (come x ps).mail (come y qs).mail
  others_come x y ps qs first second none h =
      let lent = ap (λ ls. lent_at ls r b) (lent_stays x ps) in
      let arrived = arrived_stay r b now x ps (λ k d within. (first k d within).1) in
      let messages = messages_stay sender b y qs second in
      record { used = (let used = h.used in omega arith); within = (let within = h.within in omega arith) }

-- A transition of one controller, which was x, with these copies. The sender and the receiver may be that controller, or others.

module _ (now : ℕ) (actor : Actor) (x after : Ctl) (sent : List Sent) (copies : List (Delivery Parcel)) (moved : HasMoved actor now x after sent copies) where
  abbrev me : ℕ
  me = actor.me

  abbrev fired : Ctl
  fired = with_one_fired after

  abbrev for : ℕ → List Parcel
  for d = messages_for d copies

  taken : (r b : ℕ) → has_size actor.routes r b ≡ true → slots_taken actor.routes sent r b ≡ copies_sent sent r b
  taken r b sized = ap (λ (k : Bool). cond k (copies_sent sent r b) 0) sized

  -- what comes to one place leaves the slots in use, and what has arrived
  lent_there : (z : Ctl) (d r b : ℕ) → lent_at (come z (for d)).mail.lent r b ≡ lent_at z.mail.lent r b
  lent_there z d r b = ap (λ ls. lent_at ls r b) (lent_stays z (for d))

  arrived_there : (z : Ctl) (d r b : ℕ) → arrived_credits (come z (for d)).mail.credits r b now ≡ arrived_credits z.mail.credits r b now
  arrived_there z d r b = arrived_stay r b now z (for d) (come_later me now actor refl copies sent moved.posted moved.credits moved.notes d)

  pub own_other : (r b n : ℕ) (y : Ctl) → ¬ (r ≡ me) → has_size actor.routes r b ≡ true → copies_sent sent r b ≤ free_slots x.mail.lent x.mail.credits n r b now
      → AreNewTo y.mail.inbox (for r) → Holds r b n now me x.mail y.mail → Holds r b n now me (come fired (for me)).mail (come y (for r)).mail
  own_other r b n y other sized few new h =
      let slots = moved.slots in
      let more = slots.lent r b in
      let size = taken r b sized in
      let lent = lent_there fired me r b in
      let arrived = arrived_there fired me r b in
      let same = slots.arrived r b in
      let held = credits_come r b fired (for me) in
      let none = no_credit_to_itself me now actor refl copies sent moved.posted moved.credits moved.notes r b in
      let kept = slots.other_receivers r b other in
      let messages = messages_come me b y (for r) new in
      let there = sent_to me now actor refl copies sent moved.posted moved.credits moved.notes r b other in
      record { used = (let used = h.used in omega arith); within = (let within = h.within in omega arith) }

  pub own_own : (b n : ℕ) → me < controller_count actor.routes → has_size actor.routes me b ≡ true → copies_sent sent me b ≤ free_slots x.mail.lent x.mail.credits n me b now
      → AreNewTo after.mail.inbox (for me) → Holds me b n now me x.mail x.mail → Holds me b n now me (come fired (for me)).mail (come fired (for me)).mail
  own_own b n counted sized few new h =
      let slots = moved.slots in
      let more = slots.lent me b in
      let size = taken me b sized in
      let lent = lent_there fired me me b in
      let arrived = arrived_there fired me me b in
      let same = slots.arrived me b in
      let held = credits_come me b fired (for me) in
      let none = no_credit_to_itself me now actor refl copies sent moved.posted moved.credits moved.notes me b in
      let itself = slots.from_itself b counted sized in
      let messages = messages_come me b fired (for me) new in
      let nothing = none_to_itself me now actor refl copies sent moved.posted moved.credits moved.notes me b in
      record { used = (let used = h.used in omega arith); within = (let within = h.within in omega arith) }

  pub other_own : (sender b n : ℕ) (z : Ctl) → ¬ (sender ≡ me) → sender < controller_count actor.routes → has_size actor.routes me b ≡ true
      → Holds me b n now sender z.mail x.mail → Holds me b n now sender (come z (for sender)).mail (come fired (for me)).mail
  other_own sender b n z other counted sized h =
      let slots = moved.slots in
      let gone = slots.from_others sender b other counted sized in
      let lent = lent_there z sender me b in
      let arrived = arrived_there z sender me b in
      let held = credits_come me b z (for sender) in
      let back = credits_to me now actor refl copies sent moved.posted moved.credits moved.notes sender b in
      let messages = messages_stay sender b fired (for me) (of_others me now actor refl copies sent moved.posted moved.credits moved.notes sender me other) in
      record { used = (let used = h.used in omega arith); within = (let within = h.within in omega arith) }

  pub other_other : (sender r b n : ℕ) (z y : Ctl) → ¬ (sender ≡ me) → ¬ (r ≡ me)
      → Holds r b n now sender z.mail y.mail → Holds r b n now sender (come z (for sender)).mail (come y (for r)).mail
  other_other sender r b n z y other apart h =
      let lent = lent_there z sender r b in
      let arrived = arrived_there z sender r b in
      let held = credits_come r b z (for sender) in
      let none = no_others_credits me now actor refl copies sent moved.posted moved.credits moved.notes sender r b apart in
      let messages = messages_stay sender b y (for r) (of_others me now actor refl copies sent moved.posted moved.credits moved.notes sender r other) in
      record { used = (let used = h.used in omega arith); within = (let within = h.within in omega arith) }

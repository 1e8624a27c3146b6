-- What the laws of runs need of a run's controllers, messages and driver. `Fits c x now` is what always holds of the
-- controller x with the number c at the cycle `now`; `Suits c m now` what holds of a message that comes to it at that cycle;
-- `Leads d issued now` what holds of the driver d that has issued n requests as it comes to act at that cycle. All three are
-- the instance's own.
use Rattle.std.specs.Prelude.{◌≡◌, ◌<◌, ◌≤◌, ◌+◌, ◌==◌, ◌||◌, ℕ, Bool, Some, List, [], map, length, All, count_by, slice_get, IsTrue}
use Rattle.ruby_value.specs.Prelude.{has_mark, numbers_from}
use Rattle.ruby_value.specs.declared.fault.Fault.TheVariants.{Invalid}
use Rattle.ruby_value.specs.declared.message.MsgNo.{MsgNo}
use Rattle.run_journal.specs.declared.entry.FireNote.{FireNote}
use Rattle.ruby_value.specs.declared.message.Sent.{Sent}
use Rattle.run_journal.specs.declared.entry.StopAt.{StopAt}
use Rattle.protocol_runs.specs.RunRules.{Rules, Acts, Full, Fired, Stop, Idle, Mailed, Tried}
use Rattle.ruby_value.specs.declared.message.Delivery.{Delivery}
use Rattle.protocol_runs.specs.Step.{with_arrival, delivery_numbers}
use Rattle.protocol_runs.specs.InvalidExactly.{IsInvalidTry, invalid_at}
use Rattle.protocol_runs.specs.Account.{times}

module _ {C M D : Type 0} (r : Rules C M D) where
  abbrev pub mail_numbers : C → List MsgNo
  mail_numbers x = map (λ (m : Mailed). m.number) (r.mail x)

  -- no number is in the inbox twice
  abbrev pub IsOnce : C → Type 0
  IsOnce x = (number : MsgNo) → times number (mail_numbers x) ≤ 1

  -- no number is twice among these and those of the inbox
  abbrev pub AreNewNumbers : C → List MsgNo → Type 0
  AreNewNumbers x numbers = (number : MsgNo) → times number numbers + times number (mail_numbers x) ≤ 1

  abbrev pub IsNew : C → M → Type 0
  IsNew x m = AreNewNumbers x (r.numbers m)

  -- the inbox and the count of sent messages stay
  pub record KeepsMail (before after : C) : Type 0 where
    pub mail : r.mail after ≡ r.mail before
    pub sent : r.sent after ≡ r.sent before

  -- A transition moves messages so: what was in the inbox and what was sent is afterwards consumed, on its way, or in the
  -- inbox, counted by any test of numbers; and what was sent has the sender's next numbers.
  pub record MovesMail (c : ℕ) (before : C) (acts : Acts) (copies : List (Delivery M)) (after : C) : Type 0 where
    pub moved :
        (f : MsgNo → Bool)
        → count_by f (mail_numbers before) + count_by f (map (λ (s : Sent). s.number) acts.sent)
        ≡ count_by f acts.consumed + count_by f (delivery_numbers r copies) + count_by f (mail_numbers after)
    pub numbers : map (λ (s : Sent). s.number) acts.sent ≡ numbers_from c (r.sent before) (length acts.sent)
    pub sent : r.sent after ≡ r.sent before + length acts.sent
    pub receivers : All (λ (d : Delivery M). d.receiver < length r.controllers) copies

  -- what comes is in the inbox, with what was there
  pub record TakesMail (before : C) (m : M) (after : C) : Type 0 where
    pub mail :
        (f : MsgNo → Bool)
        → count_by f (mail_numbers after) ≡ count_by f (r.numbers m) + count_by f (mail_numbers before)
    pub sent : r.sent after ≡ r.sent before

  -- What sets and drops marks does no more than that: with one more mark a controller has this one beside its own, and as a
  -- cycle begins it has its marks from there on. That nothing else loses one before its cycle is in `Keeps`.
  pub record KeepsMarks : Type 0 where
    pub marked :
        (x : C) (mark cycle : ℕ)
        → has_mark (r.marks (r.with_mark x mark)) cycle ≡ (mark == cycle || has_mark (r.marks x) cycle)
    pub begins :
        (x : C) (next cycle : ℕ) → next ≤ cycle
        → has_mark (r.marks (r.at_cycle x next)) cycle ≡ has_mark (r.marks x) cycle

module _ {C M D : Type 0} (r : Rules C M D) (Fits : ℕ → C → ℕ → Type 0) (Suits : ℕ → M → ℕ → Type 0) (Leads : D → ℕ → ℕ → Type 0) where
  -- what happens to a controller in a cycle keeps that it fits, whether it must wake in this cycle, and its marks for later ones
  pub record Keeps (c now : ℕ) (before after : C) : Type 0 where
    pub fits : Fits c after now
    pub awake : has_mark (r.marks after) now ≡ has_mark (r.marks before) now
    pub later : (cycle : ℕ) → now < cycle → IsTrue (has_mark (r.marks before) cycle) → IsTrue (has_mark (r.marks after) cycle)

  abbrev pub AllSuit : ℕ → List (Delivery M) → Type 0
  AllSuit now ds = All (λ (d : Delivery M). Suits d.receiver d.message now) ds

  -- the driver comes to act among these controllers
  pub record IsAsked (d : D) (xs : List C) (now issued : ℕ) : Type 0 where
    pub leads : Leads d issued now
    pub fits : (c : ℕ) (x : C) → slice_get xs c ≡ Some x → Fits c x now
    pub count : length xs ≡ length r.controllers

  -- Controllers keep fitting, and nothing that happens in a cycle changes whether a controller must wake in it, or loses a mark
  -- for a later one.
  pub record IsSound : Type 0 where
    -- the opening
    pub opens : (c : ℕ) (x : C) → slice_get r.controllers c ≡ Some x → Fits c x 0
    pub starts : Leads r.driver 0 0
    -- what comes of a scan
    pub fires :
        (c now : ℕ) (x : C) → Fits c x now
        → (note : FireNote) (acts : Acts) (copies : List (Delivery M)) (after : C)
        → (r.scan c x now).outcome ≡ Fired note acts copies after
        → Keeps c now x (r.with_one_fired after) × AllSuit now copies
    pub idles :
        (c now : ℕ) (x : C) → Fits c x now → (after : C) → (r.scan c x now).outcome ≡ Idle after → Keeps c now x after
    pub fills :
        (c now : ℕ) (x : C) → Fits c x now → (r.scan c x now).outcome ≡ Full → Keeps c now x (r.with_mark x (now + 1))
    pub stops :
        (c now : ℕ) (x : C) → Fits c x now → (at : StopAt) → (r.scan c x now).outcome ≡ Stop at
        → Keeps c now x (r.with_stop x at)
    -- messages that come, and the next cycle
    pub arrives : (c now : ℕ) (x : C) (m : M) → Fits c x now → Suits c m now → Keeps c now x (with_arrival r x m)
    pub begins :
        (c now next : ℕ) (x : C) → Fits c x now → now < next → next ≤ r.cycles → Fits c (r.at_cycle x next) next
    -- the driver's turn
    pub serves :
        (d : D) (xs : List C) (now issued : ℕ) → IsAsked d xs now issued → (c : ℕ) (x : C) → slice_get xs c ≡ Some x
        → Keeps c now x ((r.driver_turn d xs now issued).controller_after c x)
    pub asks : (d : D) (xs : List C) (now issued : ℕ) → IsAsked d xs now issued → AllSuit now (r.driver_turn d xs now issued).requests
    pub goes_on :
        (d : D) (xs : List C) (now issued next : ℕ) → IsAsked d xs now issued → now < next → next ≤ r.cycles
        → Leads (r.driver_turn d xs now issued).driver (issued + length (r.driver_turn d xs now issued).requests) next

  -- No message is lost or made but by sending, issuing and consuming. That no number is in an inbox twice may be assumed: it
  -- follows for each world of a run.
  pub record CarriesMail : Type 0 where
    pub opens : (c : ℕ) (x : C) → slice_get r.controllers c ≡ Some x → (r.mail x ≡ []) × (r.sent x ≡ 0)
    pub fires :
        (c now : ℕ) (x : C) → Fits c x now → IsOnce r x
        → (note : FireNote) (acts : Acts) (copies : List (Delivery M)) (after : C)
        → (r.scan c x now).outcome ≡ Fired note acts copies after
        → MovesMail r c x acts copies (r.with_one_fired after)
    pub idles :
        (c now : ℕ) (x : C) → Fits c x now → (after : C) → (r.scan c x now).outcome ≡ Idle after → KeepsMail r x after
    pub marks : (x : C) (cycle : ℕ) → KeepsMail r x (r.with_mark x cycle)
    pub stops : (x : C) (at : StopAt) → KeepsMail r x (r.with_stop x at)
    pub begins : (x : C) (next : ℕ) → KeepsMail r x (r.at_cycle x next)
    pub arrives :
        (c now : ℕ) (x : C) (m : M) → Fits c x now → Suits c m now → IsNew r x m
        → TakesMail r x m (with_arrival r x m)
    pub serves :
        (d : D) (xs : List C) (now issued : ℕ) → IsAsked d xs now issued → (c : ℕ) (x : C) → slice_get xs c ≡ Some x
        → KeepsMail r x ((r.driver_turn d xs now issued).controller_after c x)
    pub asks :
        (d : D) (xs : List C) (now issued : ℕ) → IsAsked d xs now issued
        → delivery_numbers r (r.driver_turn d xs now issued).requests
        ≡ numbers_from (length r.controllers) issued (length (r.driver_turn d xs now issued).requests)
    pub receivers :
        (d : D) (xs : List C) (now issued : ℕ) → IsAsked d xs now issued
        → All (λ (e : Delivery M). e.receiver < length r.controllers) (r.driver_turn d xs now issued).requests

  -- A scan stops as `invalid` exactly where it tried a pair without a transition, and then at that pair.
  pub record ReportsInvalid : Type 0 where
    pub caused :
        (c now : ℕ) (x : C) → Fits c x now → (at : StopAt) → (r.scan c x now).outcome ≡ Stop at → at.fault ≡ Invalid
        → (t : Tried) × (at ≡ invalid_at t) × IsInvalidTry r c x now t
    pub comes :
        (c now : ℕ) (x : C) → Fits c x now → (t : Tried) → IsInvalidTry r c x now t
        → (r.scan c x now).outcome ≡ Stop (invalid_at t)

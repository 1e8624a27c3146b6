-- What a body does to the cycles at which its controller must wake. It takes none away, and sets none for this cycle or an earlier
-- one. And no message or credit is forgotten: if there is a mark for the arrival of each that is still to come, then so it is after
-- the body; and where the controller was to wake in the next cycle, there is that mark.
use Rattle.std.specs.Prelude.{◌≡◌, ◌<◌, ◌≤◌, ◌+◌, ℕ, true, List, IsTrue}
use Rattle.std.specs.List.{All}
use Rattle.ruby_value.specs.Prelude.{has_mark}
use Rattle.ctl_face.specs.declared.parcel.Credit.{Credit}
use Rattle.ctl_face.specs.Prelude.{InboxMessage, LocalView}

pub record KeepsMarks (before : List ℕ) (now : ℕ) (after : List ℕ) : Type 0 where
  pub stay : (cycle : ℕ) → IsTrue (has_mark before cycle) → IsTrue (has_mark after cycle)
  pub none_due : (cycle : ℕ) → cycle ≤ now → has_mark after cycle ≡ has_mark before cycle

-- the marks of a local, as an act finds and leaves them
abbrev pub MarksStay : LocalView → LocalView → Type 0
MarksStay v w = KeepsMarks v.ctl.mail.marks v.now w.ctl.mail.marks

abbrev pub AreMarked : ℕ → List ℕ → List InboxMessage → Type 0
AreMarked now marks inbox = All (λ (o : InboxMessage). now < o.message.arrival → IsTrue (has_mark marks o.message.arrival)) inbox

abbrev pub AreCreditsMarked : ℕ → List ℕ → List Credit → Type 0
AreCreditsMarked now marks credits = All (λ (c : Credit). now < c.arrival → IsTrue (has_mark marks c.arrival)) credits

pub record IsMarked (v : LocalView) : Type 0 where
  pub arrivals : AreMarked v.now v.ctl.mail.marks v.ctl.mail.inbox
  pub credits : AreCreditsMarked v.now v.ctl.mail.marks v.ctl.mail.credits
  pub next : v.acts.again ≡ true → IsTrue (has_mark v.ctl.mail.marks (v.now + 1))

-- how many transitions have fired in this cycle, and whether the controller has stopped, are as they were
pub record CountsStay (v w : LocalView) : Type 0 where
  pub fired : w.ctl.fired ≡ v.ctl.fired
  pub stopped : w.ctl.stopped ≡ v.ctl.stopped

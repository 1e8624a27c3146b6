-- Numbers that nobody has given. Each actor, a controller or the driver, gives its messages its own number and a count, from 0 on: a
-- controller has given as many as it has sent messages, and the driver, whose number comes after the last controller's, as many as it
-- has issued requests. A number that its actor hasn't given yet is in no inbox; so the next ones that an actor gives are new to each
-- controller.
use Rattle.std.specs.Prelude.{◌≡◌, ◌≤◌, ◌==◌, ℕ, Bool, Option, None, Some, length, slice_get, if◌then◌else◌}
use Rattle.ruby_value.specs.declared.message.MsgNo.{MsgNo}
use Rattle.protocol_runs.specs.Account.{times}
use Rattle.protocol_runs.specs.Premises.{mail_numbers}
use Rattle.protocol_runs.specs.RunRules.{Rules}
use Rattle.protocol_runs.specs.World.{Place, World}

module _ {C M D : Type 0} (r : Rules C M D) where
  abbrev pub given_at : (issued : ℕ) (is_driver : Bool) → Option (Place C) → ℕ
  given_at issued is_driver None = if is_driver then issued else 0
  given_at issued is_driver (Some p) = r.sent p.controller

  -- how many numbers an actor has given in a world
  abbrev pub given : World C D → ℕ → ℕ
  given w actor = given_at w.issued (actor == length w.places) (slice_get w.places actor)

  abbrev pub HasFreshNumbers : World C D → Type 0
  HasFreshNumbers w =
      (number : MsgNo) → given w number.sender ≤ number.count
      → (c : ℕ) (p : Place C) → slice_get w.places c ≡ Some p → times number (mail_numbers r p.controller) ≡ 0

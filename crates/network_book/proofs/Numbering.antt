-- The number of an event tells the event, and whose it is.
use Rattle.std.proofs.Common.{◌≡◌, ◌<◌, ◌+◌, ◌*◌, ◌/◌, ◌%◌, ◌&&◌, ℕ, zero, suc, Bool, true, false, List, [], ◌∷◌, cond, eqb, refl, ap, ◌∙◌, arith}
use Rattle.std.specs.List.{All}
use Rattle.std.proofs.lemmas.List.Elements.{All-nil, All-cons, All-head, All-tail}
use Rattle.run_journal.specs.declared.event.Event.{Event}
use Rattle.run_journal.specs.declared.event.Event.TheVariants.{Take, Fire, Done, Release, Turn}
use Rattle.protocol_runs.specs.Prelude.{AreOfOthers, is_on}
use Rattle.turn_lock.specs.Prelude.{owned, owner}
use Rattle.network_book.specs.Numbers.{IsSmall, controller_of, event_by, event_of, events_of, kind_of, number_of, numbers_of, worker_of}

module _ (k w c : ℕ) (worker : w < 256) (controller : c < 256) where
  abbrev n : ℕ
  n = k * 65536 + w * 256 + c

  kind-part : n / 65536 ≡ k
  kind-part = omega arith

  worker-part : owner n ≡ w
  worker-part = omega arith

  controller-part : n % 256 ≡ c
  controller-part = omega arith

  by-parts : event_of n ≡ event_by k w c
  by-parts =
      ap (λ kind. event_by kind (owner n) (n % 256)) kind-part
      ∙ ap (λ by. event_by k by (n % 256)) worker-part
      ∙ ap (event_by k w) controller-part

pub owner-of : (e : Event) → IsSmall e → owner (number_of e) ≡ worker_of e
owner-of e small = worker-part (kind_of e) (worker_of e) (controller_of e) small.worker small.controller

pub event-back : (e : Event) → IsSmall e → event_of (number_of e) ≡ e
event-back (Take w c) small = by-parts 0 w c small.worker small.controller
event-back (Fire w c) small = by-parts 1 w c small.worker small.controller
event-back (Done w c) small = by-parts 2 w c small.worker small.controller
event-back (Release w c) small = by-parts 3 w c small.worker small.controller
event-back (Turn w) small = by-parts 4 w 0 small.worker small.controller

pub history-back : (history : List Event) → All IsSmall history → events_of (numbers_of history) ≡ history
history-back [] all = refl
history-back (e ∷ es) all =
    ap (λ (f : Event). f ∷ events_of (numbers_of es)) (event-back e (All-head IsSmall e es all))
    ∙ ap (λ (fs : List Event). e ∷ fs) (history-back es (All-tail IsSmall e es all))

-- where the owner is another, the event is another's
other-by : (k o d worker c : ℕ) → eqb o worker ≡ false → is_on worker c (event_by k o d) ≡ false
other-by zero o d worker c other = ap (λ b. b && eqb d c) other
other-by (suc zero) o d worker c other = ap (λ b. b && eqb d c) other
other-by (suc (suc zero)) o d worker c other = ap (λ b. b && eqb d c) other
other-by (suc (suc (suc zero))) o d worker c other = ap (λ b. b && eqb d c) other
other-by (suc (suc (suc (suc k)))) o d worker c other = refl

one-of-others : (worker c m : ℕ) (ms : List ℕ) (b : Bool) → eqb (owner m) worker ≡ b → cond b (m ∷ owned worker ms) (owned worker ms) ≡ []
    → (owned worker ms ≡ [] → AreOfOthers worker c (events_of ms)) → AreOfOthers worker c (events_of (m ∷ ms))
one-of-others worker c m ms true is none rest = absurd (cc none)
one-of-others worker c m ms false is none rest =
    All-cons (λ (e : Event). is_on worker c e ≡ false) (event_of m) (events_of ms) (other-by (m / 65536) (owner m) (m % 256) worker c is) (rest none)

pub of-others : (worker c : ℕ) (numbers : List ℕ) → owned worker numbers ≡ [] → AreOfOthers worker c (events_of numbers)
of-others worker c [] none = All-nil (λ (e : Event). is_on worker c e ≡ false)
of-others worker c (m ∷ ms) none = one-of-others worker c m ms (eqb (owner m) worker) refl none (of-others worker c ms)

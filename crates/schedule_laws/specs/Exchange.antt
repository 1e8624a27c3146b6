-- The exchange of two acts. In a world of a run that goes on there are two controllers that are due and that nobody holds. After the act of
-- the one, the other is due as before, its place has what the first act sent to it beside what was there, its act has the entry that it had,
-- and both acts lead to one world in either order.
use Rattle.std.specs.Prelude.{◌≡◌, ◌≢◌, ◌++◌, ℕ, true, None, Some, List, [], ◌∷◌, slice_get}
use Rattle.run_journal.specs.declared.entry.Entry.{Entry}
use Rattle.run_journal.specs.declared.event.Event.{Event}
use Rattle.run_journal.specs.declared.event.Event.TheVariants.{Done, Fire, Release, Take}
use Rattle.ruby_value.specs.declared.message.Delivery.{Delivery}
use Rattle.protocol_runs.specs.Prelude.{Fired, Full, Idle, IsRun, Outcome, Place, Rules, Stop, World, is_free, messages_for, with_arrivals, with_controller}
use Rattle.schedule_laws.specs.Acts.{act, act_entry, acted}

module _ {C M D : Type 0} (r : Rules C M D) where
  -- a place after what another controller's act sent to it
  abbrev pub after_copies : (c : ℕ) → Place C → List (Delivery M) → Place C
  after_copies c p copies = with_controller p (with_arrivals r p.controller (messages_for c copies))

  -- of the controller c with this place, after the act of the controller d with that place
  abbrev pub place_after : World C D → (c d : ℕ) → (p q : Place C) → Place C
  place_after w c d p q = after_copies c p (act r w.now d q).copies

  pub record IsExchanged (w : World C D) (c d : ℕ) (p q : Place C) : Type 0 where
    pub place : slice_get (acted r w d q).places c ≡ Some (place_after w c d p q)
    pub free : is_free r w.now (place_after w c d p q) ≡ true
    pub entry : act_entry r w.now c (place_after w c d p q) ≡ act_entry r w.now c p
    pub world : acted r (acted r w d q) c (place_after w c d p q) ≡ acted r (acted r w c p) d (place_after w d c q p)

  abbrev pub ActsExchange : Type 0
  ActsExchange =
      (history : List Event) (w : World C D) (journal : List Entry) (c d : ℕ) (p q : Place C)
      → IsRun r history w journal → w.verdict ≡ None → c ≢ d
      → slice_get w.places c ≡ Some p → is_free r w.now p ≡ true
      → slice_get w.places d ≡ Some q → is_free r w.now q ≡ true
      → IsExchanged w c d p q

  -- An act is what these events do, which are lawful one after the other: a worker takes the controller and fires and gives it back, or ends
  -- its wake-up.
  abbrev pub act_events : (worker c : ℕ) → Outcome C M → List Event
  act_events worker c (Fired note acts copies after) = Take worker c ∷ Fire worker c ∷ Release worker c ∷ []
  act_events worker c Full = Take worker c ∷ Done worker c ∷ []
  act_events worker c (Stop at) = Take worker c ∷ Done worker c ∷ []
  act_events worker c (Idle after) = Take worker c ∷ Done worker c ∷ []

  abbrev pub ActsAreEvents : Type 0
  ActsAreEvents =
      (history : List Event) (w : World C D) (journal : List Entry) (c : ℕ) (p : Place C)
      → IsRun r history w journal → w.verdict ≡ None
      → slice_get w.places c ≡ Some p → is_free r w.now p ≡ true
      → IsRun r (history ++ act_events 0 c (r.scan c p.controller w.now).outcome) (acted r w c p) (journal ++ act_entry r w.now c p ∷ [])

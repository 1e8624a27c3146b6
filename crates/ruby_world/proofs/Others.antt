-- What others do leaves what a worker holds.
use Rattle.std.proofs.Common.{◌≡◌, ◌++◌, ℕ, List, refl, sym, ◌∙◌, ap, subst}
use Rattle.run_journal.specs.declared.event.Event.{Event}
use Rattle.ctl_face.specs.Prelude.{Ctl}
use Rattle.protocol_runs.specs.Prelude.{AreOfOthers, FitsRun, HasOnlyGrown, HasSeats, IsHeldBy, IsMeaning, IsRun, IsSetting, SuitsReceiver, World, messages_since_take}
use Rattle.protocol_runs.proofs.Driver.{IsDriver}
use Rattle.protocol_runs.proofs.HeldGrow.{held-controllers-grow}
use Rattle.protocol_runs.proofs.HeldStays.{others-leave-held}
use Rattle.protocol_runs.proofs.Premises.{carries_mail, sound}
use Rattle.protocol_meaning.specs.Prelude.{meaning_of}
use Rattle.sequencer.specs.Prelude.{Drive, Seat}
use Rattle.ruby_world.specs.declared.world.Held.{Held}
use Rattle.ruby_world.specs.Prelude.{HasAddedAll, Holds, IsHolding, IsWorldOf, WorldView, ctl_in, rules_in, setting_in}
use Rattle.ruby_world.proofs.ReadOff.{in-world}

module _ {D : Type 0} (drive : D → List Seat → ℕ → Drive D) (old new : WorldView D) (rest : List Event) (worker : ℕ) (h : Held) (w v : World Ctl D)
    (is : IsWorldOf drive old w) (leads : IsWorldOf drive new v) (added : HasAddedAll old rest new) (others : AreOfOthers worker h.controller rest)
    (holds : Holds drive old worker h) where
  -- the later world, by the setting of the first one
  pub run-after : IsRun (rules_in drive old) (old.history ++ rest) v new.journal
  run-after = subst (λ (l : List Event). IsRun (rules_in drive old) l v new.journal) added.history (subst (λ (u : WorldView D). IsRun (rules_in drive u) new.history v new.journal) begins leads)
    where
      with_begin : WorldView D
      with_begin = record new { trees = old.trees; topology = old.topology; limits = old.limits; opening = old.opening }

      begins : new ≡ with_begin
      begins =
          ap (λ t. let u : WorldView D = record new { trees = t } in u) added.trees
          ∙ ap (λ t. let u : WorldView D = record new { trees = old.trees; topology = t } in u) added.topology
          ∙ ap (λ l. let u : WorldView D = record new { trees = old.trees; topology = old.topology; limits = l } in u) added.limits
          ∙ ap (λ (d : D). let u : WorldView D = record new { trees = old.trees; topology = old.topology; limits = old.limits; opening = d } in u) added.opening

  pub grown-by : HasOnlyGrown (rules_in drive old) h.controller w v (messages_since_take (rules_in drive old) h.controller old.history)
      (messages_since_take (rules_in drive old) h.controller (old.history ++ rest))
  grown-by = held-controllers-grow (rules_in drive old) old.history rest w v old.journal new.journal worker h.controller _ is run-after (holds.holding w is).held.place refl others

  pub have-grown : HasOnlyGrown (rules_in drive old) h.controller w v (messages_since_take (rules_in drive old) h.controller old.history)
      (messages_since_take (rules_in drive old) h.controller new.history)
  have-grown =
      subst (λ (l : List Event). HasOnlyGrown (rules_in drive old) h.controller w v (messages_since_take (rules_in drive old) h.controller old.history)
      (messages_since_take (rules_in drive old) h.controller l)) (sym added.history) grown-by

module _ {D : Type 0} (drive : D → List Seat → ℕ → Drive D) (needs : D → ℕ → ℕ) (least : D → ℕ) (driver : IsDriver drive needs least)
    (old new : WorldView D) (rest : List Event) (worker : ℕ) (h : Held) (w v : World Ctl D) (means : IsMeaning (meaning_of old.trees)) (lawful : IsSetting least (setting_in old))
    (is : IsWorldOf drive old w) (leads : IsWorldOf drive new v) (added : HasAddedAll old rest new) (others : AreOfOthers worker h.controller rest)
    (holds : Holds drive old worker h) where
  here : IsHolding drive old worker h w
  here = holds.holding w is

  after : IsRun (rules_in drive old) (old.history ++ rest) v new.journal
  after = run-after drive old new rest worker h w v is leads added others holds

  grown : HasOnlyGrown (rules_in drive old) h.controller w v (messages_since_take (rules_in drive old) h.controller old.history)
      (messages_since_take (rules_in drive old) h.controller (old.history ++ rest))
  grown = grown-by drive old new rest worker h w v is leads added others holds

  held-then : IsHeldBy (rules_in drive old) (FitsRun (setting_in old)) (SuitsReceiver (setting_in old)) worker h.controller (ctl_in h)
      (messages_since_take (rules_in drive old) h.controller (old.history ++ rest)) v
  held-then =
      others-leave-held (rules_in drive old) (FitsRun (setting_in old)) (SuitsReceiver (setting_in old)) (HasSeats (setting_in old) least)
      (sound (meaning_of old.trees) drive needs least (setting_in old) means driver lawful) (carries_mail (meaning_of old.trees) drive needs least (setting_in old) means driver lawful)
      old.history rest w v old.journal new.journal worker h.controller (ctl_in h) is after others here.held

  abbrev then : WorldView D
  then = record old { history = old.history ++ rest; journal = new.journal }

  holds-then : Holds drive then worker h
  holds-then = record {
    holding = in-world drive then v after (IsHolding drive then worker h) (record { held = held-then; cycle = here.cycle ∙ sym grown.now });
    made = holds.made;
    machine = holds.machine;
    seed = holds.seed;
    limit = holds.limit;
    fired = holds.fired;
    mark = holds.mark;
  }

  then-is : then ≡ new
  then-is =
      ap (λ t. let u : WorldView D = record then { trees = t } in u) (sym added.trees)
      ∙ ap (λ t. let u : WorldView D = record then { trees = new.trees; topology = t } in u) (sym added.topology)
      ∙ ap (λ l. let u : WorldView D = record then { trees = new.trees; topology = new.topology; limits = l } in u) (sym added.limits)
      ∙ ap (λ (d : D). let u : WorldView D = record then { trees = new.trees; topology = new.topology; limits = new.limits; opening = d } in u) (sym added.opening)
      ∙ ap (λ (l : List Event). let u : WorldView D = record new { history = l } in u) (sym added.history)

  pub others-stay : Holds drive new worker h
  others-stay = subst (λ (u : WorldView D). Holds drive u worker h) then-is holds-then

-- What one worker adds to a world, event by event, and how far that brings it.
use Rattle.std.proofs.Common.{◌≡◌, ◌<◌, ◌≤◌, ◌+◌, ◌-◌, cond, is_none, is_some, ℕ, Bool, true, false, List, [], ◌∷◌, Option, None, Some, length, refl, sym, ◌∙◌, ap, subst, slice_get, position, arith}
use Rattle.std.specs.Option.{option_map_or}
use Rattle.std.proofs.lemmas.List.Quantifiers.{position-Some}
use Rattle.std.proofs.lemmas.Option.{slice_get-get_or}
use Rattle.slicc_ast.specs.declared.tree.item.Tree.{Tree}
use Rattle.ctl_face.specs.declared.parcel.Parcel.{Parcel}
use Rattle.run_journal.specs.declared.event.Event.{Event}
use Rattle.run_journal.specs.declared.event.Event.TheVariants.{Done, Fire, Take, Turn}
use Rattle.run_journal.specs.declared.verdict.Verdict.{Verdict}
use Rattle.protocol_runs.specs.Prelude.{IsAlone, IsAloneEvent, IsNextTake, held_place, messages_since_take, Rules, IsRun, Ran, run, Stepped, step, Place, World, is_free, is_held, rules}
use Rattle.ctl_face.specs.Prelude.{Ctl}
use Rattle.ruby_topology.specs.declared.topology.Topology.{Topology}
use Rattle.protocol_meaning.specs.Prelude.{meaning_of, setting_of}
use Rattle.sequencer.specs.Prelude.{Drive, Seat}
use Rattle.ruby_world.specs.declared.world.Held.{Held}
use Rattle.ruby_world.specs.declared.world.RunLimits.{RunLimits}
use Rattle.ruby_world.specs.Prelude.{AddsAlone, HasAddedAlone, AreWorlds, Finishes, IsBetween, IsNext, IsOnlyHeld, Stays, cycles_left, unfinished}
use Rattle.ruby_world.specs.Prelude.{Holds, ctl_in, CanTake, CanTurn, HasAdded, InWorld, IsNobodyHeld, IsWorldOf, WorldView, rules_in}
use Rattle.std.specs.List.{list_any}
use Rattle.ruby_world.proofs.Holders.{nobody-held-at, none-after, only-after}
use Rattle.ruby_world.proofs.Adds.{adds-all, adds-none, adds-one, adds-then, same-world}
use Rattle.ruby_world.proofs.Progress.{last-step, stays, step-finishes, step-stays, turn-left}

-- the first that passes does
first-passes : {X : Type 0} (f : X → Bool) (xs : List X) (c : ℕ) → position f xs ≡ Some c → option_map_or f (slice_get xs c) false ≡ true
first-passes f [] c is = absurd (cc is)
first-passes {X = X} f (x ∷ xs) c is =
    let found = position-Some f (x ∷ xs) c x is in
    ap (λ (o : Option X). option_map_or f o false) (slice_get-get_or (x ∷ xs) c x found.0) ∙ found.1

none-by : {X : Type 0} (o : Option X) → is_some o ≡ false → o ≡ None
none-by None is = refl
none-by (Some x) is = absurd (cc is)

less-by : (a b c d : ℕ) → a ≡ b → c ≡ d → d < b → c < a
less-by a b c d first second less = omega arith

fewer-by : (a b c d : ℕ) → a ≡ b → c ≡ d → d + 1 ≡ b → c < a
fewer-by a b c d first second fewer = omega arith

module _ {D : Type 0} (drive : D → List Seat → ℕ → Drive D) where
  abbrev rules-by : List Tree → Topology → RunLimits → D → Rules Ctl Parcel D
  rules-by trees t limits driver = rules (meaning_of trees) drive (setting_of trees t limits.seed limits.cycles limits.limit driver)

  -- a later world of a run goes by the same rules
  same-rules : (old new : WorldView D) → new.trees ≡ old.trees → new.topology ≡ old.topology → new.limits ≡ old.limits → new.opening ≡ old.opening
      → rules_in drive new ≡ rules_in drive old
  same-rules old new trees t limits opening =
      ap (λ (x : List Tree). rules-by x new.topology new.limits new.opening) trees
      ∙ ap (λ (x : Topology). rules-by old.trees x new.limits new.opening) t
      ∙ ap (λ (x : RunLimits). rules-by old.trees old.topology x new.opening) limits
      ∙ ap (λ (x : D). rules-by old.trees old.topology old.limits x) opening

  -- what one worker adds
  pub alone-none : (v : WorldView D) → HasAddedAlone drive v v
  alone-none v = record {
    trees = refl;
    topology = refl;
    limits = refl;
    opening = refl;
    adds = adds-none (rules_in drive v) v.history;
  }

  pub alone-one : (old new : WorldView D) (e : Event) (w : World Ctl D) → HasAdded old e new → IsWorldOf drive old w → IsAloneEvent (rules_in drive old) w e
      → HasAddedAlone drive old new
  alone-one old new e w added is does = record {
    trees = added.trees;
    topology = added.topology;
    limits = added.limits;
    opening = added.opening;
    adds =
        subst (λ (h : List Event). AddsAlone (rules_in drive old) old.history h) (sym added.history)
        (adds-one (rules_in drive old) old.history e w old.journal is does);
  }

  pub alone-then : (first second third : WorldView D) → HasAddedAlone drive first second → HasAddedAlone drive second third → HasAddedAlone drive first third
  alone-then first second third one other = record {
    trees = other.trees ∙ one.trees;
    topology = other.topology ∙ one.topology;
    limits = other.limits ∙ one.limits;
    opening = other.opening ∙ one.opening;
    adds =
        adds-then (rules_in drive first) first.history second.history third.history one.adds
        (subst (λ (r : Rules Ctl Parcel D). AddsAlone r second.history third.history)
        (same-rules first second one.trees one.topology one.limits one.opening) other.adds);
  }

  -- all of it is by one worker, where nothing had happened before
  pub alone-all : (old new : WorldView D) → HasAddedAlone drive old new → old.history ≡ [] → IsAlone (rules_in drive new) new.history
  alone-all old new added none =
      subst (λ (r : Rules Ctl Parcel D). IsAlone r new.history) (sym (same-rules old new added.trees added.topology added.limits added.opening))
      (adds-all (rules_in drive old) new.history (subst (λ (h : List Event). AddsAlone (rules_in drive old) h new.history) none added.adds))

  -- an event is a step from the one world to the other
  world-step : (old new : WorldView D) (e : Event) (w after : World Ctl D) → HasAdded old e new → IsWorldOf drive old w → IsWorldOf drive new after
      → (st : Stepped Ctl D) × (step (rules_in drive old) (length old.journal) w e ≡ Some st) × (after ≡ st.world)
  world-step old new e w after added is leads =
      let same = same-rules old new added.trees added.topology added.limits added.opening in
      last-step (rules_in drive old) old.history e w after old.journal new.journal is
      (subst (λ (h : List Event). IsRun (rules_in drive old) h after new.journal) added.history
      (subst (λ (r : Rules Ctl Parcel D). IsRun r new.history after new.journal) same leads))

  pub event-stays : (old new : WorldView D) (e : Event) → HasAdded old e new → stays e ≡ true → AreWorlds drive Stays old new
  event-stays old new e added quiet =
      λ w after is leads.
      let (st, steps, same) = world-step old new e w after added is leads in
      subst (λ (u : World Ctl D). Stays w u) (sym same) (step-stays (rules_in drive old) (length old.journal) w e st steps quiet)

  pub done-finishes : (old new : WorldView D) (worker : ℕ) (h : Held) → HasAdded old (Done worker h.controller) new → Holds drive old worker h → AreWorlds drive Finishes old new
  done-finishes old new worker h added holds =
      λ w after is leads.
      let (st, steps, same) = world-step old new (Done worker h.controller) w after added is leads in
      let here = holds.holding w is in
      let place : Place Ctl = held_place (rules_in drive old) worker (ctl_in h) (messages_since_take (rules_in drive old) h.controller old.history) in
      subst (λ (u : World Ctl D). Finishes w u) (sym same)
      (step-finishes (rules_in drive old) worker h.controller place refl (length old.journal) w st here.held.place steps)

  pub turn-closer : (old new : WorldView D) (worker : ℕ) → HasAdded old (Turn worker) new
      → AreWorlds drive (λ w after. cycles_left old.limits.cycles after < cycles_left old.limits.cycles w) old new
  turn-closer old new worker added =
      λ w after is leads.
      let (st, steps, same) = world-step old new (Turn worker) w after added is leads in
      subst (λ (u : World Ctl D). cycles_left old.limits.cycles u < cycles_left old.limits.cycles w) (sym same)
      (turn-left (rules_in drive old) (length old.journal) w worker st steps)

  -- one after the other, where the history between leads to a world
  pub stays-none : (v : WorldView D) → AreWorlds drive Stays v v
  stays-none v = λ w after is leads.
      subst (λ (u : World Ctl D). Stays w u) (same-world (rules_in drive v) v.history w after v.journal v.journal is leads)
      (record { now = refl; count = refl })

  pub stays-then : (a b c : WorldView D) (between : World Ctl D) → IsWorldOf drive b between → AreWorlds drive Stays a b → AreWorlds drive Stays b c → AreWorlds drive Stays a c
  stays-then a b c between at first second =
      λ w after is leads.
      let one = first w between is at in
      let other = second between after at leads in
      record { now = other.now ∙ one.now; count = other.count ∙ one.count }

  pub stays-finishes : (a b c : WorldView D) (between : World Ctl D) → IsWorldOf drive b between → AreWorlds drive Stays a b → AreWorlds drive Finishes b c
      → AreWorlds drive Finishes a c
  stays-finishes a b c between at first second =
      λ w after is leads.
      let one = first w between is at in
      let other = second between after at leads in
      record { now = other.now ∙ one.now; fewer = other.fewer ∙ one.count }

  pub same-now : (a b c : WorldView D) (between : World Ctl D) → IsWorldOf drive b between → AreWorlds drive (λ w after. after.now ≡ w.now) a b
      → AreWorlds drive Finishes b c → AreWorlds drive (λ w after. after.now ≡ w.now) a c
  same-now a b c between at first second =
      λ w after is leads. let other = second between after at leads in other.now ∙ first w between is at

  -- where one is next it can be taken, and this is what the one worker does
  pub next-taken : (v : WorldView D) (c : ℕ) (w : World Ctl D) → IsNext drive v c w → CanTake drive v c w
  next-taken v c w next = record {
    goes_on = next.between.goes_on;
    free = first-passes (is_free (rules_in drive v) w.now) w.places c next.least;
  }

  pub next-alone : (v : WorldView D) (c : ℕ) (w : World Ctl D) → IsNext drive v c w → IsNextTake (rules_in drive v) w 0 c
  next-alone v c w next = record { worker_0 = refl; nobody = next.between.nobody; least = next.least }

  -- measures of a world, by its history
  abbrev ran_in : WorldView D → Option (Ran Ctl D)
  ran_in v = run (rules_in drive v) v.history

  abbrev unfinished_by : Option (Ran Ctl D) → ℕ
  unfinished_by None = 0
  unfinished_by (Some x) = unfinished x.world

  abbrev left_by : ℕ → Option (Ran Ctl D) → ℕ
  left_by cycles None = 0
  left_by cycles (Some x) = cycles_left cycles x.world

  abbrev pub unfinished_in : WorldView D → ℕ
  unfinished_in v = unfinished_by (ran_in v)

  abbrev pub left_in : WorldView D → ℕ
  left_in v = left_by v.limits.cycles (ran_in v)

  pub finishes-smaller : (old new : WorldView D) (w after : World Ctl D) → IsWorldOf drive old w → IsWorldOf drive new after → AreWorlds drive Finishes old new
      → unfinished_in new < unfinished_in old
  finishes-smaller old new w after is leads finishes =
      let done = finishes w after is leads in
      let before : unfinished_in old ≡ unfinished w = ap unfinished_by is in
      let later : unfinished_in new ≡ unfinished after = ap unfinished_by leads in
      fewer-by (unfinished_in old) (unfinished w) (unfinished_in new) (unfinished after) before later done.fewer

  pub turn-smaller : (old mid new : WorldView D) (w m after : World Ctl D) → mid.limits ≡ old.limits → new.limits ≡ mid.limits
      → IsWorldOf drive old w → IsWorldOf drive mid m → IsWorldOf drive new after → w.verdict ≡ None → m.verdict ≡ None → m.now ≡ w.now
      → HasAdded mid (Turn 0) new → left_in new < left_in old
  turn-smaller old mid new w m after first second is between leads running goes now added =
      let closer = turn-closer mid new 0 added m after between leads in
      let before : left_in old ≡ cycles_left old.limits.cycles w = ap (left_by old.limits.cycles) is in
      let later : left_in new ≡ cycles_left new.limits.cycles after = ap (left_by new.limits.cycles) leads in
      let same : cycles_left mid.limits.cycles m ≡ cycles_left old.limits.cycles w =
      ap (λ (l : RunLimits). cycles_left l.cycles m) first
      ∙ ap (λ (n : ℕ). (old.limits.cycles - n) + cond (is_none m.verdict) 1 0) now
      ∙ ap (λ (o : Option Verdict). (old.limits.cycles - w.now) + cond (is_none o) 1 0) (goes ∙ sym running) in
      let bound : cycles_left new.limits.cycles after ≡ cycles_left mid.limits.cycles after = ap (λ (l : RunLimits). cycles_left l.cycles after) second in
      less-by (left_in old) (cycles_left mid.limits.cycles m) (left_in new) (cycles_left mid.limits.cycles after) (before ∙ sym same) (later ∙ bound) closer

  -- a wake-up from where its controller is held on
  pub fires-on : (first v new : WorldView D) (h : Held) (w : World Ctl D) → IsWorldOf drive v w → HasAddedAlone drive first v → AreWorlds drive Stays first v
      → HasAdded v (Fire 0 h.controller) new → HasAddedAlone drive first new × AreWorlds drive Stays first new
  fires-on first v new h w is alone same added = (
    alone-then first v new alone (alone-one v new (Fire 0 h.controller) w added is refl),
    stays-then first v new w is same (event-stays v new (Fire 0 h.controller) added refl),
  )

  pub record IsWoken (first new : WorldView D) : Type 0 where
    pub alone : HasAddedAlone drive first new
    pub between : InWorld drive new (IsBetween drive new)
    pub finishes : AreWorlds drive Finishes first new

  pub ends-there : (first v new : WorldView D) (h : Held) (w : World Ctl D) → IsWorldOf drive v w → HasAddedAlone drive first v → AreWorlds drive Stays first v
      → Holds drive v 0 h → HasAdded v (Done 0 h.controller) new → InWorld drive new (λ u. u.verdict ≡ None) → InWorld drive new (IsNobodyHeld drive new) → IsWoken first new
  ends-there first v new h w is alone same holds added goes nobody = record {
    alone = alone-then first v new alone (alone-one v new (Done 0 h.controller) w added is refl);
    between = λ after leads. record { goes_on = goes after leads; nobody = nobody after leads };
    finishes = stays-finishes first v new w is same (done-finishes v new 0 h added holds);
  }

  -- a transition that fires leaves fewer to fire
  pub fires-smaller : (v new : WorldView D) (e : Event) (h g : Held) → Holds drive v 0 h → Holds drive new 0 g → HasAdded v e new
      → g.fired ≡ h.fired + 1 → g.fired ≤ g.limit → g.limit - g.fired < h.limit - h.fired
  fires-smaller v new e h g before after added more few =
      let same : g.limit ≡ h.limit = after.limit ∙ ap (λ (l : RunLimits). l.limit) added.limits ∙ sym before.limit in
      omega (arith, same, more, few)

  -- the whole of it, from where its controller is taken
  pub takes-and-ends : (old mid new : WorldView D) (c : ℕ) (w m : World Ctl D) → IsWorldOf drive old w → IsWorldOf drive mid m → IsNext drive old c w
      → HasAdded old (Take 0 c) mid → HasAddedAlone drive mid new → AreWorlds drive Finishes mid new
      → HasAddedAlone drive old new × AreWorlds drive Finishes old new
  takes-and-ends old mid new c w m is at next added alone finishes = (
    alone-then old mid new (alone-one old mid (Take 0 c) w added is (next-alone old c w next)) alone,
    stays-finishes old mid new m at (event-stays old mid (Take 0 c) added refl) finishes,
  )

  -- and a turn after all wake-ups
  pub turns-on : (first old mid new : WorldView D) (m : World Ctl D) → IsWorldOf drive mid m → HasAddedAlone drive first old → HasAddedAlone drive old mid
      → HasAdded mid (Turn 0) new → HasAddedAlone drive first new
  turns-on first old mid new m at one other added =
      alone-then first mid new (alone-then first old mid one other) (alone-one mid new (Turn 0) m added at refl)

  -- whether the last scan stalled a transition is nothing that the world has
  pub rests-held : (v : WorldView D) (worker : ℕ) (h : Held) (stalled : Bool) → Holds drive v worker h → Holds drive v worker (record h { stalled = stalled })
  rests-held v worker h stalled holds = record {
    holding = λ w is. let here = holds.holding w is in record { held = here.held; cycle = here.cycle };
    made = holds.made;
    machine = holds.machine;
    seed = holds.seed;
    limit = holds.limit;
    fired = holds.fired;
    mark = holds.mark;
  }

  pub now-none : (v : WorldView D) → AreWorlds drive (λ w after. after.now ≡ w.now) v v
  now-none v = λ w after is leads. let same = stays-none v w after is leads in same.now

  -- no controller is due where none is found
  pub rests : (v : WorldView D) → InWorld drive v (IsBetween drive v) → InWorld drive v (λ w. None ≡ position (is_free (rules_in drive v) w.now) w.places)
      → InWorld drive v (CanTurn drive v)
  rests v between none = λ w is.
      let here = between w is in
      record { goes_on = here.goes_on; nobody = here.nobody; rested = sym (none w is) }

  pub is-next : (v : WorldView D) (c : ℕ) → InWorld drive v (IsBetween drive v) → InWorld drive v (λ w. Some c ≡ position (is_free (rules_in drive v) w.now) w.places)
      → InWorld drive v (IsNext drive v c)
  is-next v c between found = λ w is. record { between = between w is; least = sym (found w is) }

  -- where no verdict is found the run goes on
  pub goes-between : (v : WorldView D) (b : Bool) → InWorld drive v (λ w. b ≡ is_some w.verdict) → b ≡ false → InWorld drive v (IsNobodyHeld drive v)
      → InWorld drive v (IsBetween drive v)
  goes-between v b ended fails nobody =
      λ w is. record { goes_on = none-by w.verdict (sym (ended w is) ∙ fails); nobody = nobody w is }

  -- who is held, where one worker takes a controller, fires and ends its wake-up
  pub take-only : (old new : WorldView D) (c : ℕ) (w : World Ctl D) → IsNobodyHeld drive old w → IsWorldOf drive old w → HasAdded old (Take 0 c) new
      → InWorld drive new (IsOnlyHeld c)
  take-only old new c w nobody is added after leads =
      let (st, steps, same) = world-step old new (Take 0 c) w after added is leads in
      subst (λ (u : World Ctl D). IsOnlyHeld c u) (sym same)
      (only-after (rules_in drive old) (length old.journal) w (Take 0 c) st steps c refl (λ d apart o there. nobody-held-at w.places nobody d o there))

  pub fire-only : (old new : WorldView D) (c : ℕ) (w : World Ctl D) → IsOnlyHeld c w → IsWorldOf drive old w → HasAdded old (Fire 0 c) new
      → InWorld drive new (IsOnlyHeld c)
  fire-only old new c w only is added after leads =
      let (st, steps, same) = world-step old new (Fire 0 c) w after added is leads in
      subst (λ (u : World Ctl D). IsOnlyHeld c u) (sym same) (only-after (rules_in drive old) (length old.journal) w (Fire 0 c) st steps c refl only)

  pub done-nobody : (old new : WorldView D) (c : ℕ) (w : World Ctl D) → IsOnlyHeld c w → IsWorldOf drive old w → HasAdded old (Done 0 c) new
      → InWorld drive new (IsNobodyHeld drive new)
  done-nobody old new c w only is added after leads =
      let (st, steps, same) = world-step old new (Done 0 c) w after added is leads in
      subst (λ (u : World Ctl D). list_any is_held u.places ≡ false) (sym same) (none-after (rules_in drive old) (length old.journal) w st 0 c steps only)

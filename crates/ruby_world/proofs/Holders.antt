-- Whatever comes to a controller, who holds it stays.
use Rattle.std.proofs.lemmas.Bool.{or_parts}
use Rattle.std.proofs.Common.{◌≡◌, ◌+◌, ◌||◌, ℕ, zero, suc, Bool, true, false, List, [], ◌∷◌, Option, None, Some, map, is_some, refl, sym, ◌∙◌, ap, subst, slice_get, slice_set}
use Rattle.std.specs.List.{list_any}
use Rattle.std.specs.Option.{option_map}
use Rattle.std.proofs.lemmas.List.{map-set}
use Rattle.std.proofs.lemmas.Option.{same_Some, slice_get-map}
use Rattle.run_journal.specs.declared.event.Event.TheVariants.{Take, Fire, Done, Release, Turn}
use Rattle.protocol_runs.proofs.Places.{set-at}
use Rattle.run_journal.specs.declared.event.Event.{Event}
use Rattle.ruby_value.specs.declared.message.Delivery.{Delivery}
use Rattle.protocol_runs.specs.Prelude.{Change, Closes, Move, Moved, Moves, Turns, Taken, FiredBy, EndedBy, Released, with_moved, Rules, Stepped, begun_place, changed_from, driver_turn_in, next_in, next_world, step, verdict_in, with_controller, with_deliveries, with_delivery, with_delivery_at, with_driver_turn, is_turn, Place, World, is_held}
use Rattle.protocol_runs.proofs.Steps.{move-quiet, step-changes}
use Rattle.run_journal.specs.declared.verdict.Verdict.{Verdict}
use Rattle.ruby_world.specs.Waking.{IsOnlyHeld, holders}

-- what is read off a place beside its controller
module _ {C X : Type 0} (g : Place C → X) (aside : (p : Place C) (x : C) → g (with_controller p x) ≡ g p) where
  set-aside : (places : List (Place C)) (c : ℕ) (p : Place C) (x : C) → slice_get places c ≡ Some p → map g (slice_set places c (with_controller p x)) ≡ map g places
  set-aside [] c p x there = absurd (cc there)
  set-aside (q ∷ places) zero p x there =
      let same : q ≡ p = same_Some q p there in
      ap (λ (y : X). y ∷ map g places) (aside p x ∙ ap g (sym same))
  set-aside (q ∷ places) (suc c) p x there = ap (λ (ys : List X). g q ∷ ys) (set-aside places c p x there)

  pub changed-aside : (k : ℕ) (change : ℕ → C → C) (places : List (Place C)) → map g (changed_from k change places) ≡ map g places
  changed-aside k change [] = refl
  changed-aside k change (p ∷ places) =
      ap (λ (y : X). y ∷ map g (changed_from (k + 1) change places)) (aside p (change k p.controller))
      ∙ ap (λ (ys : List X). g p ∷ ys) (changed-aside (k + 1) change places)

  module _ {M D : Type 0} (r : Rules C M D) where
    delivery-aside : (places : List (Place C)) (d : Delivery M) (o : Option (Place C)) → slice_get places d.receiver ≡ o
        → map g (with_delivery_at r places d o) ≡ map g places
    delivery-aside places d None there = refl
    delivery-aside places d (Some p) there = set-aside places d.receiver p _ there

    pub deliveries-aside : (places : List (Place C)) (ds : List (Delivery M)) → map g (with_deliveries r places ds) ≡ map g places
    deliveries-aside places [] = refl
    deliveries-aside places (d ∷ ds) =
        deliveries-aside (with_delivery r places d) ds ∙ delivery-aside places d (slice_get places d.receiver) refl

any-holders : {C : Type 0} (places : List (Place C)) → list_any is_held places ≡ list_any (λ (o : Option ℕ). is_some o) (holders places)
any-holders [] = refl
any-holders (p ∷ places) = ap (λ (b : Bool). is_some p.holder || b) (any-holders places)

module _ {C M D : Type 0} (r : Rules C M D) where
  begun-holders : (now : ℕ) (places : List (Place C)) → holders (map (begun_place r now) places) ≡ holders places
  begun-holders now [] = refl
  begun-holders now (p ∷ places) = ap (λ (os : List (Option ℕ)). p.holder ∷ os) (begun-holders now places)

  next-holders : (w : World C D) (next : Option ℕ) (v : Option Verdict) → holders (next_world r w next v).places ≡ holders w.places
  next-holders w next (Some v) = refl
  next-holders w None None = refl
  next-holders w (Some now) None = begun-holders now w.places

  driven-holders : (w : World C D) → holders (with_driver_turn r w (driver_turn_in r w)).places ≡ holders w.places
  driven-holders w =
      let d = driver_turn_in r w in
      deliveries-aside (λ (p : Place C). p.holder) (λ p x. refl) r (changed_from 0 d.controller_after w.places) d.requests
      ∙ changed-aside (λ (p : Place C). p.holder) (λ p x. refl) 0 d.controller_after w.places

  change-holders : (n : ℕ) (w : World C D) (e : Event) (st : Stepped C D) → Change r n w e st → is_turn e ≡ true → holders st.world.places ≡ holders w.places
  change-holders n w e st (Moves c p f m there move) turns = absurd (cc (turns, move-quiet r w.now c p e m move))
  change-holders n w e st (Closes worker c idle least) turns = refl
  change-holders n w e st (Turns worker idle least) turns =
      let driven : World C D = with_driver_turn r w (driver_turn_in r w) in
      next-holders driven (next_in r driven) (verdict_in r n driven (driver_turn_in r w).finding) ∙ driven-holders w

  -- a turn leaves nobody held
  pub turn-nobody : (n : ℕ) (w : World C D) (e : Event) (st : Stepped C D) → step r n w e ≡ Some st → is_turn e ≡ true
      → list_any is_held w.places ≡ false → list_any is_held st.world.places ≡ false
  turn-nobody n w e st is turns nobody =
      let same = change-holders n w e st (step-changes r n w e st is) turns in
      any-holders st.world.places ∙ ap (λ (os : List (Option ℕ)). list_any (λ (o : Option ℕ). is_some o) os) same ∙ sym (any-holders w.places) ∙ nobody

  -- and its driver is that before it, or as it has acted
  next-driver : (w : World C D) (next : Option ℕ) (v : Option Verdict) → (next_world r w next v).driver ≡ w.driver
  next-driver w next (Some v) = refl
  next-driver w None None = refl
  next-driver w (Some now) None = refl

  module _ (P : D → Type 0) (w : World C D) (before : P w.driver) (acted : P (driver_turn_in r w).driver) where
    change-driver : (n : ℕ) (e : Event) (st : Stepped C D) → Change r n w e st → P st.world.driver
    change-driver n e st (Moves c p f m there move) = before
    change-driver n e st (Closes worker c idle least) = before
    change-driver n e st (Turns worker idle least) =
        let driven : World C D = with_driver_turn r w (driver_turn_in r w) in
        subst P (sym (next-driver driven (next_in r driven) (verdict_in r n driven (driver_turn_in r w).finding))) acted

    pub step-driver : (n : ℕ) (e : Event) (st : Stepped C D) → step r n w e ≡ Some st → P st.world.driver
    step-driver n e st is = change-driver n e st (step-changes r n w e st is)

-- who is held at a place
pub nobody-held-at : {C : Type 0} (places : List (Place C)) → list_any is_held places ≡ false → (d : ℕ) (o : Option ℕ) → slice_get (holders places) d ≡ Some o → o ≡ None
nobody-held-at [] none d o there = absurd (cc there)
nobody-held-at (p ∷ places) none zero o there =
    let parts = or_parts (is_held p) (list_any is_held places) none in none-by o (ap (λ (h : Option ℕ). is_some h) (sym (same_Some p.holder o there)) ∙ parts.0)
  where
    none-by : (h : Option ℕ) → is_some h ≡ false → h ≡ None
    none-by None is = refl
    none-by (Some n) is = absurd (cc is)
nobody-held-at (p ∷ places) none (suc d) o there = let parts = or_parts (is_held p) (list_any is_held places) none in nobody-held-at places parts.1 d o there

pub nobody-by-place : {C : Type 0} (places : List (Place C)) → ((d : ℕ) (o : Option ℕ) → slice_get (holders places) d ≡ Some o → o ≡ None) → list_any is_held places ≡ false
nobody-by-place [] none = refl
nobody-by-place (p ∷ places) none =
    ap (λ (o : Option ℕ). is_some o || list_any is_held places) (none 0 p.holder refl) ∙ nobody-by-place places (λ d o there. none (suc d) o there)

module _ {C M D : Type 0} (r : Rules C M D) where
  moved-holders : (w : World C D) (c : ℕ) (m : Moved C M) → holders (with_moved r w c m).places ≡ slice_set (holders w.places) c m.place.holder
  moved-holders w c m =
      deliveries-aside (λ (p : Place C). p.holder) (λ p x. refl) r (slice_set w.places c m.place) m.copies ∙ map-set (λ (p : Place C). p.holder) w.places c m.place

  -- an event of a controller leaves who holds the others
  module _ (w : World C D) (c : ℕ) (p : Place C) (m : Moved C M) (there : slice_get w.places c ≡ Some p) where
    holder-there : slice_get (holders w.places) c ≡ Some p.holder
    holder-there = slice_get-map (λ (q : Place C). q.holder) w.places c ∙ ap (λ (o : Option (Place C)). option_map (λ (q : Place C). q.holder) o) there

    moved-only : IsOnlyHeld c w → IsOnlyHeld c (with_moved r w c m)
    moved-only only d apart o at =
        only d apart o
        (sym (set-at (λ (h : Option (Option ℕ)). h ≡ slice_get (holders w.places) d) (holders w.places) c d p.holder m.place.holder holder-there (λ is. absurd (apart (sym is))) (λ differ. refl))
        ∙ ap (λ (hs : List (Option ℕ)). slice_get hs d) (sym (moved-holders w c m)) ∙ at)

    moved-none : IsOnlyHeld c w → m.place.holder ≡ None → list_any is_held (with_moved r w c m).places ≡ false
    moved-none only free =
        nobody-by-place (with_moved r w c m).places
        (λ d o at.
        set-at (λ (h : Option (Option ℕ)). h ≡ Some o → o ≡ None) (holders w.places) c d p.holder m.place.holder holder-there
        (λ is here. sym (same_Some m.place.holder o here) ∙ free)
        (λ differ here. only d (λ is. differ (sym is)) o here)
        (ap (λ (hs : List (Option ℕ)). slice_get hs d) (sym (moved-holders w c m)) ∙ at))

  abbrev pub of-controller : ℕ → Event → Type 0
  of-controller c (Take worker d) = d ≡ c
  of-controller c (Fire worker d) = d ≡ c
  of-controller c (Done worker d) = d ≡ c
  of-controller c (Release worker d) = d ≡ c
  of-controller c (Turn worker) = ⊥

  move-of : (now d c : ℕ) (p : Place C) (e : Event) (m : Moved C M) → Move r now d p e m → of-controller c e → d ≡ c
  move-of now d c p e m (Taken worker free) is = is
  move-of now d c p e m (FiredBy worker note acts copies after holds fires) is = is
  move-of now d c p e m (EndedBy worker after end holds ends) is = is
  move-of now d c p e m (Released worker holds) is = is

  change-only : (n : ℕ) (w : World C D) (e : Event) (st : Stepped C D) → Change r n w e st → (c : ℕ) → of-controller c e → IsOnlyHeld c w → IsOnlyHeld c st.world
  change-only n w e st (Moves d p f m there move) c is only =
      let number : d ≡ c = move-of w.now d c p e m move is in
      subst (λ (i : ℕ). IsOnlyHeld i (with_moved r w d m)) number (moved-only w d p m there (subst (λ (i : ℕ). IsOnlyHeld i w) (sym number) only))
  change-only n w e st (Closes worker d idle least) c is only = absurd is
  change-only n w e st (Turns worker idle least) c is only = absurd is

  pub only-after : (n : ℕ) (w : World C D) (e : Event) (st : Stepped C D) → step r n w e ≡ Some st → (c : ℕ) → of-controller c e → IsOnlyHeld c w → IsOnlyHeld c st.world
  only-after n w e st is c own only = change-only n w e st (step-changes r n w e st is) c own only

  move-none : (w : World C D) (d : ℕ) (p : Place C) (f : Event) (m : Moved C M) → slice_get w.places d ≡ Some p → Move r w.now d p f m → (worker c : ℕ) → f ≡ Done worker c
      → IsOnlyHeld c w → list_any is_held (with_moved r w d m).places ≡ false
  move-none w d p f m there (Taken k free) worker c is only = absurd (cc is)
  move-none w d p f m there (FiredBy k note acts copies after holds fires) worker c is only = absurd (cc is)
  move-none w d p f m there (EndedBy k after end holds ends) worker c is only =
      let number : d ≡ c = cc is in
      moved-none w d p m there (subst (λ (i : ℕ). IsOnlyHeld i w) (sym number) only) refl
  move-none w d p f m there (Released k holds) worker c is only = absurd (cc is)

  change-none : (n : ℕ) (w : World C D) (e : Event) (st : Stepped C D) → Change r n w e st → (worker c : ℕ) → e ≡ Done worker c → IsOnlyHeld c w → list_any is_held st.world.places ≡ false
  change-none n w e st (Moves d p f m there move) worker c is only = move-none w d p f m there move worker c is only
  change-none n w e st (Closes k d idle least) worker c is only = absurd (cc is)
  change-none n w e st (Turns k idle least) worker c is only = absurd (cc is)

  pub none-after : (n : ℕ) (w : World C D) (st : Stepped C D) (worker c : ℕ) → step r n w (Done worker c) ≡ Some st → IsOnlyHeld c w → list_any is_held st.world.places ≡ false
  none-after n w st worker c is only = change-none n w (Done worker c) st (step-changes r n w (Done worker c) st is) worker c refl only

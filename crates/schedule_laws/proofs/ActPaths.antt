-- The acts of a cycle, one after the other, by controllers that don't fall. One act more goes to its place among them: those of greater
-- controllers come after it then, and the world is the same.
use Rattle.std.proofs.Common.{◌≡◌, ◌≢◌, ◌<◌, ℕ, Bool, true, false, Option, None, Some, List, [], ◌∷◌, All, cond, ltb, refl, sym, ◌∙◌, ap, subst, slice_get, slice_set, arith}
use Rattle.std.specs.Option.{option_map}
use Rattle.std.proofs.lemmas.Bool.{ltb-true}
use Rattle.std.proofs.lemmas.List.Elements.{All-cons, All-head, All-tail, All-weaker}
use Rattle.ruby_value.proofs.Ordered.{AllPairs-head, AllPairs-tail}
use Rattle.run_journal.specs.declared.entry.Entry.{Entry}
use Rattle.cycle_order.specs.Prelude.{Rises, owner, put}
use Rattle.cycle_order.proofs.Ordered.{NotAfter}
use Rattle.protocol_runs.specs.Prelude.{CarriesMail, IsFramed, IsSound, Place, Rules, World, is_free}
use Rattle.schedule_laws.specs.Prelude.{ArrivalsSwap, act, act_entry, acted}
use Rattle.schedule_laws.proofs.Delivered.{come-at, delivered-at, set-other}
use Rattle.schedule_laws.proofs.Acting.{Reached, act-reached, entry-owner}
use Rattle.schedule_laws.proofs.Crossing.{copies-come, diamond, still-free, then-at, then-c, then-entry, then-free}

module _ {C M D : Type 0} (r : Rules C M D) where
  -- these acts lead from one world to another
  pub data ActPath : World C D → List Entry → World C D → Type 0 where
    Rests : (w : World C D) → ActPath w [] w
    Goes :
        (w : World C D) (c : ℕ) (p : Place C) (e : Entry) (es : List Entry) (v : World C D)
        → slice_get w.places c ≡ Some p → is_free r w.now p ≡ true → act_entry r w.now c p ≡ e → ActPath (acted r w c p) es v → ActPath w (e ∷ es) v

  -- the first of some acts
  pub record First (w : World C D) (e : Entry) (es : List Entry) (v : World C D) : Type 0 where
    pub c : ℕ
    pub p : Place C
    pub there : slice_get w.places c ≡ Some p
    pub free : is_free r w.now p ≡ true
    pub entry : act_entry r w.now c p ≡ e
    pub rest : ActPath (acted r w c p) es v

  abbrev pub Headed : World C D → List Entry → World C D → Type 0
  Headed w [] v = w ≡ v
  Headed w (e ∷ es) v = First w e es v

  pub headed : (w : World C D) (es : List Entry) (v : World C D) → ActPath w es v → Headed w es v
  headed w es v (Rests u) = refl
  headed w es v (Goes u c p e fs x there free entry rest) = record { c = c; p = p; there = there; free = free; entry = entry; rest = rest }

  pub first-owner : (w : World C D) (e : Entry) (es : List Entry) (v : World C D) → (first : First w e es v) → owner e ≡ first.c
  first-owner w e es v first = sym (ap owner first.entry) ∙ entry-owner r w.now first.c (r.scan first.c first.p.controller w.now).outcome

module _ {C M D : Type 0} (r : Rules C M D) (Fits : ℕ → C → ℕ → Type 0) (Suits : ℕ → M → ℕ → Type 0) (Leads : D → ℕ → ℕ → Type 0)
    (sound : IsSound r Fits Suits Leads) (carries : CarriesMail r Fits Suits Leads) (framed : IsFramed r Fits Suits) (swap : ArrivalsSwap r) where
  module _ (w : World C D) (d : ℕ) (q : Place C) (reached : Reached r w) (at-d : slice_get w.places d ≡ Some q) (free-d : is_free r w.now q ≡ true) where
    -- a controller that is free after another's act was so before
    record Before (c : ℕ) (p1 : Place C) : Type 0 where
      place : Place C
      there : slice_get w.places c ≡ Some place
      free : is_free r w.now place ≡ true
      is : come-at r (act r w.now d q).copies c place ≡ p1

    before-by : (c : ℕ) (p1 : Place C) → d ≢ c → (o : Option (Place C)) → slice_get w.places c ≡ o → option_map (come-at r (act r w.now d q).copies c) o ≡ Some p1
        → is_free r w.now p1 ≡ true → Before c p1
    before-by c p1 apart None there is free = absurd (cc is)
    before-by c p1 apart (Some p) there is free =
        let same : come-at r (act r w.now d q).copies c p ≡ p1 = cc is in
        let stays : slice_get (slice_set w.places d (act r w.now d q).place) c ≡ Some p = set-other w.places d c q (act r w.now d q).place at-d apart ∙ there in
        let may = copies-come r Fits Suits Leads sound carries w d q reached at-d free-d c p stays in
        record {
          place = p;
          there = there;
          free = sym (still-free r Fits Suits Leads sound carries c w.now p _ may) ∙ ap (λ (s : Place C). is_free r w.now s) same ∙ free;
          is = same;
        }

    before : (c : ℕ) (p1 : Place C) → d ≢ c → slice_get (acted r w d q).places c ≡ Some p1 → is_free r w.now p1 ≡ true → Before c p1
    before c p1 apart there free =
        before-by c p1 apart (slice_get w.places c) refl
        (ap (option_map (come-at r (act r w.now d q).copies c)) (sym (set-other-any w.places d c q (act r w.now d q).place at-d apart))
        ∙ sym (delivered-at r (slice_set w.places d (act r w.now d q).place) (act r w.now d q).copies c) ∙ there)
        free
      where
        set-other-any : (xs : List (Place C)) (a i : ℕ) (x y : Place C) → slice_get xs a ≡ Some x → a ≢ i → slice_get (slice_set xs a y) i ≡ slice_get xs i
        set-other-any = set-other

  -- An act that comes after some acts of others comes before them.
  record Front (w : World C D) (es : List Entry) (v : World C D) (c : ℕ) (p : Place C) : Type 0 where
    place : Place C
    there : slice_get w.places c ≡ Some place
    free : is_free r w.now place ≡ true
    entry : act_entry r w.now c place ≡ act_entry r v.now c p
    rest : ActPath r (acted r w c place) es (acted r v c p)

  -- it passes the first of them
  past-first : (w : World C D) (e : Entry) (es : List Entry) (v : World C D) (c : ℕ) (p : Place C) → Reached r w → (first : First r w e es v) → owner e ≢ c
      → Front (acted r w first.c first.p) es v c p → Front w (e ∷ es) v c p
  past-first w e es v c p reached first apart front =
      let d : ℕ = first.c in
      let q : Place C = first.p in
      let other : d ≢ c = λ same. apart (first-owner r w e es v first ∙ same) in
      let back : c ≢ d = λ same. other (sym same) in
      let was = before w d q reached first.there first.free c front.place other front.there front.free in
      let q1 : Place C = then-c r Fits Suits Leads sound carries framed swap w d c q was.place reached other first.there first.free was.there was.free in
      let entry-c : act_entry r w.now c (then-c r Fits Suits Leads sound carries framed swap w c d was.place q reached back was.there was.free first.there first.free)
      ≡ act_entry r w.now c was.place =
      then-entry r Fits Suits Leads sound carries framed swap w c d was.place q reached back was.there was.free first.there first.free in
      let worlds : acted r (acted r w d q) c front.place ≡ acted r (acted r w c was.place) d q1 =
      ap (λ (s : Place C). acted r (acted r w d q) c s) (sym was.is)
      ∙ diamond r Fits Suits Leads sound carries framed swap w c d was.place q reached back was.there was.free first.there first.free in
      record {
        place = was.place;
        there = was.there;
        free = was.free;
        entry = sym entry-c ∙ ap (λ (s : Place C). act_entry r w.now c s) was.is ∙ front.entry;
        rest = Goes (acted r w c was.place) d q1 e es (acted r v c p)
            (then-at r Fits Suits Leads sound carries framed swap w d c q was.place reached other first.there first.free was.there was.free)
            (then-free r Fits Suits Leads sound carries framed swap w d c q was.place reached other first.there first.free was.there was.free)
            (then-entry r Fits Suits Leads sound carries framed swap w d c q was.place reached other first.there first.free was.there was.free ∙ first.entry)
            (subst (λ (u : World C D). ActPath r u es (acted r v c p)) worlds front.rest);
      }

  to-front : (w : World C D) (es : List Entry) (v : World C D) (c : ℕ) (p : Place C) → ActPath r w es v → Reached r w → All (λ (e : Entry). owner e ≢ c) es
      → slice_get v.places c ≡ Some p → is_free r v.now p ≡ true → Front w es v c p
  to-front w [] v c p way reached others there free =
      let same : w ≡ v = headed r w [] v way in
      let P : World C D → Type 0 = λ u. Front u [] v c p in
      subst P (sym same) (record { place = p; there = there; free = free; entry = refl; rest = Rests (acted r v c p) })
  to-front w (e ∷ es) v c p way reached others there free =
      let first : First r w e es v = headed r w (e ∷ es) v way in
      let P = λ (f : Entry). owner f ≢ c in
      past-first w e es v c p reached first (All-head P e es others)
      (to-front (acted r w first.c first.p) es v c p first.rest (act-reached r w first.c first.p reached first.there first.free) (All-tail P e es others) there free)

  -- and so it goes to its place
  pub put-act : (w : World C D) (es : List Entry) (v : World C D) (c : ℕ) (p : Place C) → ActPath r w es v → Reached r w → Rises es
      → slice_get v.places c ≡ Some p → is_free r v.now p ≡ true → ActPath r w (put (act_entry r v.now c p) es) (acted r v c p)
  put-act w [] v c p way reached rises there free =
      let same : w ≡ v = headed r w [] v way in
      let e : Entry = act_entry r v.now c p in
      subst (λ (u : World C D). ActPath r u (e ∷ []) (acted r v c p)) (sym same) (Goes v c p e [] (acted r v c p) there free refl (Rests (acted r v c p)))
  put-act w (f ∷ fs) v c p way reached rises there free =
      let first : First r w f fs v = headed r w (f ∷ fs) v way in
      by (ltb (owner (act_entry r v.now c p)) (owner f)) refl
      (Goes w first.c first.p f (put (act_entry r v.now c p) fs) (acted r v c p) first.there first.free first.entry
      (put-act (acted r w first.c first.p) fs v c p first.rest (act-reached r w first.c first.p reached first.there first.free) (AllPairs-tail NotAfter f fs rises) there free))
    where
      own : owner (act_entry r v.now c p) ≡ c
      own = entry-owner r v.now c (r.scan c p.controller v.now).outcome

      by : (b : Bool) → ltb (owner (act_entry r v.now c p)) (owner f) ≡ b → ActPath r w (f ∷ put (act_entry r v.now c p) fs) (acted r v c p)
          → ActPath r w (cond b (act_entry r v.now c p ∷ f ∷ fs) (f ∷ put (act_entry r v.now c p) fs)) (acted r v c p)
      by true is behind =
          let below : owner (act_entry r v.now c p) < owner f = ltb-true (owner (act_entry r v.now c p)) (owner f) is in
          let P = λ (g : Entry). owner g ≢ c in
          let others : All P (f ∷ fs) =
          All-cons P f fs (λ same. omega (arith, below, own, same)) (All-weaker (NotAfter f) P (λ g from same. omega (arith, below, own, from, same)) fs (AllPairs-head NotAfter f fs rises)) in
          let front = to-front w (f ∷ fs) v c p way reached others there free in
          Goes w c front.place (act_entry r v.now c p) (f ∷ fs) (acted r v c p) front.there front.free front.entry front.rest
      by false is behind = behind

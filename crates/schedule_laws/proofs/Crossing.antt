-- Two controllers that are due in one world: the copies of the one act are nothing to the other, and the two acts lead to one world in
-- either order.
use Rattle.std.proofs.Common.{◌≡◌, ◌≢◌, ◌≤◌, ◌+◌, ◌++◌, ◌&&◌, ⊎_elim, ℕ, Bool, true, not, is_none, Option, None, Some, List, [], ◌∷◌, All, refl, sym, ◌∙◌, ap, subst, slice_get, slice_set, arith}
use Rattle.std.proofs.lemmas.Bool.{cases_eq}
use Rattle.std.proofs.lemmas.List.{append-nil, set_comm}
use Rattle.std.proofs.lemmas.List.Elements.{All-head, All-nil, All-tail}
use Rattle.std.proofs.lemmas.Option.{same_Some}
use Rattle.ruby_value.specs.declared.message.Delivery.{Delivery}
use Rattle.ruby_value.specs.declared.message.MsgNo.{MsgNo}
use Rattle.ruby_value.specs.Prelude.{has_mark, same_number}
use Rattle.protocol_runs.specs.Prelude.{AreNewFor, CarriesMail, Fired, Full, Idle, IsFramed, IsSound, MayCome, Moved, Outcome, Place, Rules, Scan, Stop, World, held_by, is_free, messages_for, outcome_with, with_arrival, with_arrivals, with_controller, with_deliveries, with_moved}
use Rattle.protocol_runs.proofs.Fitting.{all-fit}
use Rattle.protocol_runs.proofs.HeldGrow.{deliveries-at, grown}
use Rattle.protocol_runs.proofs.HeldNew.{brought, brought-more, come-more, counted-new, have-come, inbox-once, mail-is, new-counted, still-new, suits-for}
use Rattle.protocol_runs.proofs.HeldSteps.{set-here}
use Rattle.protocol_runs.proofs.Places.{set-at}
use Rattle.schedule_laws.specs.Prelude.{ArrivalsSwap, act, act_by, act_entry, acted, acted_by, entry_by}
use Rattle.schedule_laws.proofs.Delivered.{come-at, either-order, set-other, set-through}
use Rattle.schedule_laws.proofs.Acting.{Reached, act-reached, fired-place, taken, taken-reached}

module _ {C M D : Type 0} (r : Rules C M D) (Fits : ℕ → C → ℕ → Type 0) (Suits : ℕ → M → ℕ → Type 0) (Leads : D → ℕ → ℕ → Type 0)
    (sound : IsSound r Fits Suits Leads) (carries : CarriesMail r Fits Suits Leads) where
  -- nothing may come to a controller of a run
  none-comes : (w : World C D) (e : ℕ) (p : Place C) → Reached r w → slice_get w.places e ≡ Some p → MayCome r Fits Suits e w.now p.controller []
  none-comes w e p reached there = record {
    fits = all-fit r Fits Suits Leads sound reached.history w reached.journal reached.is e p there;
    suit = All-nil (λ (n : M). Suits e n w.now);
    new = counted-new r p.controller []
        (λ number.
        let once = inbox-once r Fits Suits Leads sound carries reached.history w reached.journal reached.is e p there number in
        omega (arith, once, mail-is r (same_number number) p.controller));
  }

  -- An act in a world of a run. What it sends may come to each controller cs it is, and to its own cs the act leaves it.
  module _ (w : World C D) (d : ℕ) (q : Place C) (reached : Reached r w) (there : slice_get w.places d ≡ Some q) (free : is_free r w.now q ≡ true) where
    abbrev pub after-by : Outcome C M → List (Place C)
    after-by o = slice_set w.places d (act_by r w.now d q o).place

    pub sent-comes : (e : ℕ) (o : Outcome C M) → (r.scan d q.controller w.now).outcome ≡ o → Reached r (acted_by r w d q o)
        → (p : Place C) → slice_get (after-by o) e ≡ Some p
        → MayCome r Fits Suits e w.now p.controller (messages_for e (act_by r w.now d q o).copies)
    sent-comes e (Fired note acts copies after) is next p at =
        let held = taken-reached r w d q reached there free in
        let v : World C D = taken r w d q in
        let here : slice_get v.places d ≡ Some (held_by 0 q) = set-here w.places d q (held_by 0 q) there in
        let both = sound.fires d w.now q.controller (all-fit r Fits Suits Leads sound reached.history w reached.journal reached.is d q there) note acts copies after is in
        let own : MayCome r Fits Suits d w.now (r.with_one_fired after) (messages_for d copies) = record {
          fits = both.0.fits;
          suit = suits-for Suits w.now d copies both.1;
          new = still-new r Fits Suits Leads sound carries held.history v held.journal held.is held.running 0 d (held_by 0 q) here refl note acts copies after is
              d (r.with_one_fired after) [] (held_by 0 (fired-place r q after)) (set-here v.places d (held_by 0 q) (held_by 0 (fired-place r q after)) here) (λ f. omega arith);
        } in
        set-at (λ (o : Option (Place C)). o ≡ Some p → MayCome r Fits Suits e w.now p.controller (messages_for e copies)) w.places d e q (fired-place r q after) there
        (λ same is_own.
        subst (λ (s : Place C). MayCome r Fits Suits e w.now s.controller (messages_for e copies)) (same_Some (fired-place r q after) p is_own)
        (subst (λ (i : ℕ). MayCome r Fits Suits i w.now (r.with_one_fired after) (messages_for i copies)) same own))
        (λ apart is_there.
        come-more r Fits Suits Leads sound carries held.history v held.journal held.is held.running 0 d (held_by 0 q) here refl note acts copies after is
        e p p.controller [] (λ same. apart (sym same)) (set-other w.places d e q (held_by 0 q) there apart ∙ is_there) refl (none-comes w e p reached is_there))
        at
    sent-comes e Full is next p at = none-comes (acted_by r w d q Full) e p next at
    sent-comes e (Stop stop) is next p at = none-comes (acted_by r w d q (Stop stop)) e p next at
    sent-comes e (Idle after) is next p at = none-comes (acted_by r w d q (Idle after)) e p next at

    abbrev pub after-act : List (Place C)
    after-act = slice_set w.places d (act r w.now d q).place

    pub copies-come : (e : ℕ) (p : Place C) → slice_get after-act e ≡ Some p → MayCome r Fits Suits e w.now p.controller (messages_for e (act r w.now d q).copies)
    copies-come e p at = sent-comes e (r.scan d q.controller w.now).outcome refl (act-reached r w d q reached there free) p at

  -- And then an act of another one: what both send may come to a third, or to the first cs its own act leaves it.
  module _ (w : World C D) (d : ℕ) (q : Place C) (reached : Reached r w) (there : slice_get w.places d ≡ Some q) (free : is_free r w.now q ≡ true)
      (c : ℕ) (p1 : Place C) (there1 : slice_get (acted r w d q).places c ≡ Some p1) (free1 : is_free r w.now p1 ≡ true) where
    abbrev sent : List (Delivery M)
    sent = (act r w.now d q).copies

    more-new : (e : ℕ) → c ≢ e → (p : Place C) → slice_get (after-act w d q reached there free) e ≡ Some p
        → (o : Outcome C M) → (r.scan c p1.controller w.now).outcome ≡ o
        → AreNewFor r p.controller (messages_for e sent ++ messages_for e (act_by r w.now c p1 o).copies)
    more-new e apart p at (Fired note acts copies after) is =
        let v : World C D = acted r w d q in
        let next = act-reached r w d q reached there free in
        let held = taken-reached r v c p1 next there1 free1 in
        let u : World C D = taken r v c p1 in
        let here : slice_get u.places c ≡ Some (held_by 0 p1) = set-here v.places c p1 (held_by 0 p1) there1 in
        let may = copies-come w d q reached there free e p at in
        let come = have-come r Fits Suits Leads sound carries e w.now p.controller (messages_for e sent) may in
        let arrived : slice_get v.places e ≡ Some (come-at r sent e p) = deliveries-at r e (after-act w d q reached there free) sent p at in
        let stays : slice_get (slice_set u.places c (held_by 0 (fired-place r p1 after))) e ≡ Some (come-at r sent e p) =
        set-other u.places c e (held_by 0 p1) (held_by 0 (fired-place r p1 after)) here apart ∙ set-other v.places c e p1 (held_by 0 p1) there1 apart ∙ arrived in
        still-new r Fits Suits Leads sound carries held.history u held.journal held.is held.running 0 c (held_by 0 p1) here refl note acts copies after is
        e p.controller (messages_for e sent) (come-at r sent e p) stays come.mails
    more-new e apart p at Full is =
        let may = copies-come w d q reached there free e p at in subst (λ (l : List M). AreNewFor r p.controller l) (sym (append-nil (messages_for e sent))) may.new
    more-new e apart p at (Stop stop) is =
        let may = copies-come w d q reached there free e p at in subst (λ (l : List M). AreNewFor r p.controller l) (sym (append-nil (messages_for e sent))) may.new
    more-new e apart p at (Idle after) is =
        let may = copies-come w d q reached there free e p at in subst (λ (l : List M). AreNewFor r p.controller l) (sym (append-nil (messages_for e sent))) may.new

    pub few-more : (e : ℕ) → c ≢ e → (p : Place C) → slice_get (after-act w d q reached there free) e ≡ Some p
        → (number : MsgNo) → brought r (same_number number) (messages_for e sent) + brought r (same_number number) (messages_for e (act r w.now c p1).copies) ≤ 1
    few-more e apart p at number =
        let f : MsgNo → Bool = same_number number in
        let cs : List M = messages_for e (act r w.now c p1).copies in
        let new = new-counted r p.controller (messages_for e sent ++ cs) (more-new e apart p at (r.scan c p1.controller w.now).outcome refl) number in
        omega (arith, new, brought-more r f (messages_for e sent) cs)

  -- what comes keeps whether a controller must wake
  arrivals-awake : (c now : ℕ) (x : C) (ms : List M) → Fits c x now → All (λ (m : M). Suits c m now) ms → has_mark (r.marks (with_arrivals r x ms)) now ≡ has_mark (r.marks x) now
  arrivals-awake c now x [] fits suit = refl
  arrivals-awake c now x (m ∷ ms) fits suit =
      let P = λ (n : M). Suits c n now in
      let keeps = sound.arrives c now x m fits (All-head P m ms suit) in
      arrivals-awake c now (with_arrival r x m) ms keeps.fits (All-tail P m ms suit) ∙ keeps.awake

  pub still-free : (c now : ℕ) (p : Place C) (ms : List M) → MayCome r Fits Suits c now p.controller ms → is_free r now (grown r p ms) ≡ is_free r now p
  still-free c now p ms may =
      ap (λ (b : Bool). (b && not p.finished) && is_none p.holder) (arrivals-awake c now p.controller ms may.fits may.suit)

  module _ (framed : IsFramed r Fits Suits) where
    abbrev moved-with : List M → Moved C M → Moved C M
    moved-with ms m = record m { place = grown r m.place ms }

    framed-by : (now c : ℕ) (p : Place C) (ms : List M) (o : Outcome C M)
        → act_by r now c (grown r p ms) (outcome_with (λ after. with_arrivals r after ms) o) ≡ moved-with ms (act_by r now c p o)
    framed-by now c p ms (Fired note acts copies after) =
        ap (λ (x : C). let m : Moved C M = record (act_by r now c p (Fired note acts copies after)) { place = with_controller p x } in m) (framed.fires after ms)
    framed-by now c p ms Full =
        ap (λ (x : C). let m : Moved C M = record (act_by r now c p Full) { place = record { controller = x; finished = true; holder = None } } in m) (framed.marks p.controller ms (now + 1))
    framed-by now c p ms (Stop at) =
        ap (λ (x : C). let m : Moved C M = record (act_by r now c p (Stop at)) { place = record { controller = x; finished = true; holder = None } } in m) (framed.stops p.controller ms at)
    framed-by now c p ms (Idle after) = refl

    framed-entry : (now c : ℕ) (change : C → C) (o : Outcome C M) → entry_by r now c (outcome_with change o) ≡ entry_by r now c o
    framed-entry now c change (Fired note acts copies after) = refl
    framed-entry now c change Full = refl
    framed-entry now c change (Stop at) = refl
    framed-entry now c change (Idle after) = refl

    module _ (c now : ℕ) (p : Place C) (ms : List M) (may : MayCome r Fits Suits c now p.controller ms) where
      outcome-framed : (r.scan c (with_arrivals r p.controller ms) now).outcome ≡ outcome_with (λ after. with_arrivals r after ms) (r.scan c p.controller now).outcome
      outcome-framed = ap (λ (a : Scan C M). a.outcome) (framed.scans c now p.controller ms may)

      pub act-framed : act r now c (grown r p ms) ≡ moved-with ms (act r now c p)
      act-framed = ap (act_by r now c (grown r p ms)) outcome-framed ∙ framed-by now c p ms (r.scan c p.controller now).outcome

      pub act_entry-framed : act_entry r now c (grown r p ms) ≡ act_entry r now c p
      act_entry-framed = ap (entry_by r now c) outcome-framed ∙ framed-entry now c (λ after. with_arrivals r after ms) (r.scan c p.controller now).outcome

    module _ (swap : ArrivalsSwap r) (w : World C D) (c d : ℕ) (p q : Place C) (reached : Reached r w) (apart : c ≢ d)
        (at-c : slice_get w.places c ≡ Some p) (free-c : is_free r w.now p ≡ true) (at-d : slice_get w.places d ≡ Some q) (free-d : is_free r w.now q ≡ true) where
      abbrev of-c : Moved C M
      of-c = act r w.now c p

      abbrev of-d : Moved C M
      of-d = act r w.now d q

      -- the place of the one after the act of the other
      abbrev pub then-c : Place C
      then-c = come-at r of-d.copies c p

      stays-c : slice_get (slice_set w.places d of-d.place) c ≡ Some p
      stays-c = set-other w.places d c q of-d.place at-d (λ same. apart (sym same)) ∙ at-c

      come-c : MayCome r Fits Suits c w.now p.controller (messages_for c of-d.copies)
      come-c = copies-come w d q reached at-d free-d c p stays-c

      pub then-at : slice_get (acted r w d q).places c ≡ Some then-c
      then-at = deliveries-at r c (slice_set w.places d of-d.place) of-d.copies p stays-c

      pub then-free : is_free r w.now then-c ≡ true
      then-free = still-free c w.now p (messages_for c of-d.copies) come-c ∙ free-c

      pub then-act : act r w.now c then-c ≡ moved-with (messages_for c of-d.copies) of-c
      then-act = act-framed c w.now p (messages_for c of-d.copies) come-c

      pub then-entry : act_entry r w.now c then-c ≡ act_entry r w.now c p
      then-entry = act_entry-framed c w.now p (messages_for c of-d.copies) come-c

      -- what both send is new to each controller but this one
      pub few-apart : (e : ℕ) → c ≢ e → (s : Place C) → slice_get (slice_set w.places d of-d.place) e ≡ Some s
          → (number : MsgNo) → brought r (same_number number) (messages_for e of-d.copies) + brought r (same_number number) (messages_for e of-c.copies) ≤ 1
      few-apart e other s at number =
          subst (λ (m : Moved C M). brought r (same_number number) (messages_for e of-d.copies) + brought r (same_number number) (messages_for e m.copies) ≤ 1) then-act
          (few-more w d q reached at-d free-d c then-c then-at then-free e other s at number)

      -- the world after both acts: first this one's other
      pub after-both : acted r (acted r w d q) c then-c
          ≡ record w { places = with_deliveries r (with_deliveries r (slice_set (slice_set w.places d of-d.place) c of-c.place) of-d.copies) of-c.copies }
      after-both =
          ap (λ (m : Moved C M). with_moved r (acted r w d q) c m) then-act
          ∙ ap (λ (l : List (Place C)). let v : World C D = record w { places = with_deliveries r l of-c.copies } in v)
          (set-through r (slice_set w.places d of-d.place) c p of-c.place of-d.copies stays-c)

    module _ (swap : ArrivalsSwap r) (w : World C D) (c d : ℕ) (p q : Place C) (reached : Reached r w) (apart : c ≢ d)
        (at-c : slice_get w.places c ≡ Some p) (free-c : is_free r w.now p ≡ true) (at-d : slice_get w.places d ≡ Some q) (free-d : is_free r w.now q ≡ true) where
      abbrev pub back : d ≢ c
      back same = apart (sym same)

      abbrev a : Place C
      a = (act r w.now c p).place

      abbrev b : Place C
      b = (act r w.now d q).place

      abbrev cs : List (Delivery M)
      cs = (act r w.now c p).copies

      abbrev ds : List (Delivery M)
      ds = (act r w.now d q).copies

      few-each : (e : ℕ) (s : Place C) → slice_get (slice_set (slice_set w.places d b) c a) e ≡ Some s
          → (number : MsgNo) → brought r (same_number number) (messages_for e ds) + brought r (same_number number) (messages_for e cs) ≤ 1
      few-each e s at number =
          ⊎_elim
          (λ same.
          let own : slice_get (slice_set w.places c a) e ≡ Some a = ap (slice_get (slice_set w.places c a)) (sym same) ∙ set-here w.places c p a at-c in
          let few = few-apart swap w d c q p reached back at-d free-d at-c free-c e (λ is. apart (same ∙ sym is)) a own number in
          omega (arith, few))
          (λ other.
          few-apart swap w c d p q reached apart at-c free-c at-d free-d e other s
          (sym (set-other (slice_set w.places d b) c e p a (stays-c swap w c d p q reached apart at-c free-c at-d free-d) other) ∙ at) number)
          (cases_eq c e)

      -- the two orders
      pub diamond : acted r (acted r w d q) c (then-c swap w c d p q reached apart at-c free-c at-d free-d)
          ≡ acted r (acted r w c p) d (then-c swap w d c q p reached back at-d free-d at-c free-c)
      diamond =
          let world : List (Place C) → World C D = λ l. record w { places = l } in
          after-both swap w c d p q reached apart at-c free-c at-d free-d
          ∙ ap world (either-order r swap (slice_set (slice_set w.places d b) c a) ds cs few-each)
          ∙ ap (λ (l : List (Place C)). world (with_deliveries r (with_deliveries r l cs) ds)) (set_comm w.places d c b a back)
          ∙ sym (after-both swap w d c q p reached back at-d free-d at-c free-c)

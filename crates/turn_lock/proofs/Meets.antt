-- How passes are made, meet and end, and that the lock's rule holds at its start.
use Rattle.std.proofs.Common.{◌≡◌, ◌≢◌, ℕ, zero, suc, ◌+◌, ◌<◌, ◌≤◌, ◌⊎◌, inl, inr, ⊎_elim, Bool, true, false, List, [], ◌∷◌, ◌++◌, length, get_or, set, All, refl, sym, ap, ◌∙◌, subst, arith, length-set, length-append, get_or-set_same, get_or-set_other}
use mathlib.Core.Option.{some, none, some-injective, some-ne-none}
use mathlib.Core.Option as maybe
use mathlib.Core.Logic.{dite}
use native.Mathlib.Decide.{ℕ_discrete}
use lib.ListN.{get_elem?}
use Rattle.std.specs.Prelude.{Option, Some}
use Rattle.std.proofs.lemmas.List.Elements.{All-append, All-cons}
use Rattle.atomic_table.specs.Table.{State, Me, step, keeps, Allows, Splits, Joins, Final, Seen, opening}
use Rattle.atomic_table.proofs.Lists.{set_here, set_else, at_longer}
use Rattle.turn_lock.specs.declared.view.Stage.TheVariants.{Deals, Out, Inside}
use Rattle.turn_lock.specs.declared.view.View.{View}
use Rattle.turn_lock.specs.Histories.{owned, IsPrefix, AreOwned}
use Rattle.turn_lock.specs.Tickets.{queued, dealer, spent, Gone, Kept, Lives, Stands, Slot, Rule}
use Rattle.turn_lock.specs.Plays.{longest, one_fewer, one_more, joined, compared}
use Rattle.turn_lock.proofs.Histories.{begins_with_none, begins_nothing, begins_same, owned_between, longer_left, longer_right, longer_within}
use Rattle.turn_lock.proofs.Views.{at_lt, queue_set, parts_set, queue_more, parts_more, parts_one, one_view, each_set, gone_set, gone_other, gone_more, lives_still, carry, known_set, slot_set}
use Rattle.turn_lock.proofs.Keeps.{of_seat, dealer_at, moved, still_gone}

at_end : {A : Type 0} (l : List A) (a b : A) (j : ℕ) → get_elem? (l ++ a ∷ []) j ≡ some b → (get_elem? l j ≡ some b) ⊎ ((j ≡ length l) × (a ≡ b))
at_end [] a b zero e = inr (refl, some-injective a b e)
at_end [] a b (suc j) e = absurd (some-ne-none b (sym e))
at_end (x ∷ xs) a b zero e = inl e
at_end (x ∷ xs) a b (suc j) e = ⊎_elim (λ t. inl t) (λ t. inr (ap suc t.0, t.1)) (at_end xs a b j e)

-- a pass that was told nothing has seen all that it knows of one that it met
seen_all : (seen told log : List ℕ) (k : ℕ) (xs : List ℕ) → told ≡ [] → IsPrefix seen log → owned k log ≡ xs → (owned k seen ≡ xs) ⊎ (owned k told ≡ xs) → owned k seen ≡ xs
seen_all seen told log k xs untold begins all known = ⊎_elim (λ e. e)
    (λ e. let nothing : [] ≡ xs = ap (owned k) (sym untold) ∙ e in owned_between k [] seen log (begins_with_none seen) begins (all ∙ sym nothing) ∙ nothing) known

module _ {V P : Type 0} (plan : V → P) (history : V → List ℕ) (n : ℕ) (p : P) where
  abbrev R : State (Option V) (View P) → Type 0
  R = Rule plan history n p

  abbrev St : Type 0
  St = State (Option V) (View P)

  first_each : (by : ℕ) (u : View P) → get_elem? (dealer n p ∷ []) by ≡ some u → Stands p (dealer n p ∷ []) [] 0 0 (λ _. 0) false by u u.stage
  first_each zero u e = subst (λ (z : View P). Stands p (dealer n p ∷ []) [] 0 0 (λ _. 0) false 0 z z.stage) (some-injective (dealer n p) u e) (refl, refl, refl)
  first_each (suc by) u e = absurd (some-ne-none u (sym e))

  pub starts : (x : V) → plan x ≡ p → history x ≡ [] → n ≤ 64 → R (opening (0 ∷ 0 ∷ []) (Some x ∷ []) (dealer n p))
  starts x is empty few = record {
    turn = 0;
    drawn = 0;
    log = [];
    seat = λ _. 0;
    out = false;
    wide = refl;
    ticket_is = refl;
    serving_is = refl;
    waiting = refl;
    shared = omega arith;
    few = few;
    each = first_each;
    slot = (x, refl, is, empty);
    known = inl refl;
    fresh = λ k le. refl;
    first = (dealer n p, refl, refl, omega arith);
  }

  -- where the seats inside are as they were, the slot is
  slot_there : (log : List ℕ) (l l' : List (View P)) (homes : List (maybe.Option (Option V))) (out : Bool) → ((j : ℕ) (u : View P) → get_elem? l j ≡ some u → u.stage ≢ Deals → get_elem? l' j ≡ some u)
      → Slot plan history p log l homes out → Slot plan history p log l' homes out
  slot_there log l l' homes false there sl = sl
  slot_there log l l' homes true there sl = (sl.0, (sl.1.0, sl.1.1, there sl.1.0 sl.1.1 sl.1.2 (λ e. let f : Inside ≡ Deals = sym sl.1.3 ∙ e in cc), sl.1.3))

  pub deals : (id : ℕ) (v : View P) → v.stage ≡ Deals → 0 < v.parts → Splits R id v (one_fewer v) (one_more v)
  deals id v st some_part s r at =
      let h = of_seat plan history n p s r id v Deals at st in let left : View P = one_fewer v in let right : View P = one_more v in
      let l1 = set s.views id left in let l2 = l1 ++ right ∷ [] in let q : queued v.stage ≡ 0 = ap queued st in let q' : queued left.stage ≡ 0 = ap queued st in
      let long : length l2 ≡ suc (suc v.number) = length-append l1 (right ∷ []) ∙ (let a = length-set s.views id left in let b = h.2 in omega arith) in
      let gone = λ (k : ℕ) (g : Gone s.views k). gone_more l1 right k (gone_set s.views id left k (λ e. let z = h.0 in omega arith) g) in
      let nothing : owned v.number r.log ≡ [] = r.fresh v.number (let b = h.2 in omega arith) in
      let lives : Lives p l2 r.log (suc v.number) right = record { place = refl; plan = h.1; begins = begins_with_none r.log; tells = begins_with_none r.log; mine = nothing; known = refl; others = λ k d lt. absurd (omega arith) } in
      let there = λ (j : ℕ) (u : View P) (e : get_elem? s.views j ≡ some u) (not : u.stage ≢ Deals). let f : get_elem? l2 j ≡ some u = at_longer l1 (right ∷ []) j u
      (set_else s.views id j left (λ q. let same : u ≡ v = some-injective u v (sym e ∙ ap (get_elem? s.views) q ∙ at) in not (ap (λ (z : View P). z.stage) same ∙ st)) ∙ e) in f in record {
        turn = r.turn;
        drawn = r.drawn;
        log = r.log;
        seat = r.seat;
        out = r.out;
        wide = r.wide;
        ticket_is = r.ticket_is;
        serving_is = r.serving_is;
        waiting = (let a = queue_set s.views id v left at in let b = queue_more l1 right in let c = r.waiting in omega arith);
        shared = (let a = parts_set s.views id v left at in let b = parts_more l1 right in let c = r.shared in omega arith);
        few = r.few;
        each = λ by u e. ⊎_elim
            (λ f. each_set s.views id left (λ by' u'. Stands p l2 r.log r.turn r.drawn r.seat r.out by' u' u'.stage)
            (subst (Stands p l2 r.log r.turn r.drawn r.seat r.out id left) (sym st) (h.0, h.1, long))
            (λ by' u' other g. carry p s.views l2 r.log r.log r.turn r.turn r.drawn r.drawn r.seat r.seat r.out r.out by' u' u'.stage
            (λ _ lu. lives_still p s.views l2 r.log by' u' gone lu) (λ z. absurd (other (z ∙ sym h.0))) (λ a b c. (a, b, c)) (λ a b c. (refl, a, b, c, refl)) (r.each by' u' g)) by u f)
            (λ t. subst (λ (z : ℕ × View P). Stands p l2 r.log r.turn r.drawn r.seat r.out z.0 z.1 z.1.stage)
            (λ i. ((let e' : suc v.number ≡ by = sym h.2 ∙ sym (length-set s.views id left) ∙ sym t.0 in e') i, t.1 i)) (λ _. lives))
            (at_end l1 right u by e);
        slot = slot_there r.log s.views l2 s.homes r.out there r.slot;
        known = ⊎_elim (λ e. inl e) (λ kn. inr (kn.0, kn.1, there kn.0 kn.1 kn.2 kn.3, kn.3, kn.4, kn.5)) r.known;
        fresh = λ k le. r.fresh k (let a = length-append l1 (right ∷ []) in let b = length-set s.views id left in omega arith);
        first = (
          left,
          at_longer l1 (right ∷ []) 0 left (ap (get_elem? l1) (sym h.0) ∙ set_here s.views id left (at_lt s.views id v at)),
          st,
          (let is = dealer_at plan history n p s r id v at (sym h.0) in let a : v.number + v.parts ≡ n = ap (λ (z : View P). z.number + z.parts) is ∙ r.first.3 in omega arith),
        );
      }

  module _ (id other : ℕ) (v w : View P) (st : v.stage ≡ Out) (st' : w.stage ≡ Out) (some_part : 0 < v.parts) (some_part' : 0 < w.parts) (untold : v.told ≡ []) (untold' : w.told ≡ []) where
    pub meets : Joins R id v other w (joined v w) spent
    meets s r at apart at_both =
        let both : View P = joined v w in let l1 = set s.views id both in let l2 = set l1 other spent in
        let at' : get_elem? s.views other ≡ some w = sym (set_else s.views id other both apart) ∙ at_both in
        let lv = of_seat plan history n p s r id v Out at st some_part in let lw = of_seat plan history n p s r other w Out at' st' some_part' in
        let gone = λ (k : ℕ) (g : Gone s.views k). gone_set l1 other spent k (gone_other s.views other w k at' some_part' g) (gone_set s.views id both k (gone_other s.views id v k at some_part g) g) in
        let at1 : get_elem? l1 id ≡ some both = set_here s.views id both (at_lt s.views id v at) in
        let at2 : get_elem? l2 id ≡ some both = set_else l1 other id spent (λ e. apart (sym e)) ∙ at1 in
        let gone_now : Gone l2 w.number = (spent, ap (get_elem? l2) (sym lw.place) ∙ set_here l1 other spent (at_lt l1 other w at_both), refl) in
        let known = Kept l2 r.log v.seen w.seen in
        let first : All known v.others = λ k d lt. let o = lv.others k d lt in (gone _ o.0, o.1, inl (seen_all v.seen v.told r.log _ _ untold lv.begins o.1 o.2)) in
        let second : All known w.others = λ k d lt. let o = lw.others k d lt in (gone _ o.0, o.1, inr (seen_all w.seen w.told r.log _ _ untold' lw.begins o.1 o.2)) in
        let itself : known (w.number, w.mine) = (gone_now, lw.mine, inr lw.known) in
        let lives : Lives p l2 r.log id both = record {
          place = lv.place;
          plan = lv.plan;
          begins = lv.begins;
          tells = lw.begins;
          mine = lv.mine;
          known = lv.known;
          others = All-append known v.others ((w.number, w.mine) ∷ w.others) first (All-cons known (w.number, w.mine) w.others itself second);
        } in
        let q : queued v.stage ≡ 0 = ap queued st in let q' : queued w.stage ≡ 0 = ap queued st' in let q'' : queued both.stage ≡ 0 = ap queued st in
        let pass : both.stage ≢ Deals = λ e. let f : Out ≡ Deals = sym st ∙ e in cc in record {
          turn = r.turn;
          drawn = r.drawn;
          log = r.log;
          seat = r.seat;
          out = r.out;
          wide = r.wide;
          ticket_is = r.ticket_is;
          serving_is = r.serving_is;
          waiting = (let a = queue_set s.views id v both at in let b = queue_set l1 other w spent at_both in let c = r.waiting in omega arith);
          shared = (let a = parts_set s.views id v both at in let b = parts_set l1 other w spent at_both in let c = r.shared in omega arith);
          few = r.few;
          each = each_set l1 other spent (λ by u. Stands p l2 r.log r.turn r.drawn r.seat r.out by u u.stage) (λ lt. absurd (omega arith))
              (λ by u off e. each_set s.views id both (λ by' u'. by' ≢ other → Stands p l2 r.log r.turn r.drawn r.seat r.out by' u' u'.stage)
              (λ _. subst (Stands p l2 r.log r.turn r.drawn r.seat r.out id both) (sym st) (λ _. lives))
              (λ by' u' off' e' _. carry p s.views l2 r.log r.log r.turn r.turn r.drawn r.drawn r.seat r.seat r.out r.out by' u' u'.stage
              (λ _ lu. lives_still p s.views l2 r.log by' u' gone lu) (λ _. sym (length-set l1 other spent ∙ length-set s.views id both)) (λ a b c. (a, b, c)) (λ a b c. (refl, a, b, c, refl)) (r.each by' u' e'))
              by u e off);
          slot = slot_set plan history p r.log l1 s.homes other w spent r.out at_both (λ e. let f : Out ≡ Inside = sym st' ∙ e in cc)
              (slot_set plan history p r.log s.views s.homes id v both r.out at (λ e. let f : Out ≡ Inside = sym st ∙ e in cc) r.slot);
          known = ⊎_elim (λ e. inl e)
              (λ kn. dite (ℕ_discrete kn.0 id)
              (λ e. let same : kn.1 ≡ v = some-injective kn.1 v (sym kn.2 ∙ ap (get_elem? s.views) e ∙ at) in
              ⊎_elim (λ f. inr (id, both, at2, pass, omega arith, inl (ap (λ (z : View P). z.seen) (sym same) ∙ f)))
              (λ f. inl (sym (sym untold ∙ ap (λ (z : View P). z.told) (sym same) ∙ f))) kn.5)
              (λ ne. dite (ℕ_discrete kn.0 other)
              (λ e. let same : kn.1 ≡ w = some-injective kn.1 w (sym kn.2 ∙ ap (get_elem? s.views) e ∙ at') in
              ⊎_elim (λ f. inr (id, both, at2, pass, omega arith, inr (ap (λ (z : View P). z.seen) (sym same) ∙ f)))
              (λ f. inl (sym (sym untold' ∙ ap (λ (z : View P). z.told) (sym same) ∙ f))) kn.5)
              (λ ne'. inr (kn.0, kn.1, set_else l1 other kn.0 spent ne' ∙ set_else s.views id kn.0 both ne ∙ kn.2, kn.3, kn.4, kn.5))))
              r.known;
          fresh = λ k le. r.fresh k (let a = length-set l1 other spent in let b = length-set s.views id both in omega arith);
          first = (
            r.first.0,
            set_else l1 other 0 spent (λ e. let f : Out ≡ Deals = sym st' ∙ ap (λ (z : View P). z.stage) (dealer_at plan history n p s r other w at' e) ∙ r.first.2 in cc)
                ∙ set_else s.views id 0 both (λ e. pass (ap (λ (z : View P). z.stage) (dealer_at plan history n p s r id v at e) ∙ r.first.2)) ∙ r.first.1,
            r.first.2,
            r.first.3,
          );
        }

  pub compares : (slots id : ℕ) (m : Me (Option V) (View P)) → m.0.stage ≡ Out → 0 < m.0.parts → Allows R slots id m 0 (λ x. x) (compared (step slots 0 0 0 none) m)
  compares slots id m st some_part s r _ at _ =
      let v = m.0 in let w : View P = longest v in let l' = set s.views id w in let x : ℕ = get_or s.words 0 0 in let wide : length s.words ≡ 2 = r.wide in
      let lv = of_seat plan history n p s r id v Out at st some_part in
      let left = longer_left v.seen v.told r.log lv.begins lv.tells in let right = longer_right v.seen v.told r.log lv.begins lv.tells in let within = longer_within v.seen v.told r.log lv.begins lv.tells in
      let mine : owned v.number w.seen ≡ v.mine = owned_between v.number v.seen w.seen r.log left within (lv.mine ∙ sym lv.known) ∙ lv.known in
      let others : AreOwned v.others w.seen = λ k d lt. let o = lv.others k d lt in
      ⊎_elim (λ e. owned_between _ v.seen w.seen r.log left within (o.1 ∙ sym e) ∙ e) (λ e. owned_between _ v.told w.seen r.log right within (o.1 ∙ sym e) ∙ e) o.2 in
      let lw : Lives p l' r.log id w = record {
        place = lv.place;
        plan = lv.plan;
        begins = within;
        tells = begins_with_none r.log;
        mine = lv.mine;
        known = mine;
        others = λ k d lt. let o = lv.others k d lt in (still_gone plan history n p s id v w at some_part _ o.0, o.1, inl (others k d lt));
      } in
      let q : queued v.stage ≡ 0 = ap queued st in (
        w,
        keeps,
        tt,
        moved plan history n p s r 0 x id v w s.homes r.turn r.drawn r.log r.seat r.out at refl
            (get_or-set_same s.words 0 x 0 (omega arith) ∙ r.ticket_is) (get_or-set_other s.words 0 1 x 0 (λ e. omega arith) ∙ r.serving_is) (omega arith)
            (subst (Stands p l' r.log r.turn r.drawn r.seat r.out id w) (sym st) (λ _. lw))
            (λ by u other e. carry p s.views l' r.log r.log r.turn r.turn r.drawn r.drawn r.seat r.seat r.out r.out by u u.stage
            (λ _ lu. lives_still p s.views l' r.log by u (still_gone plan history n p s id v w at some_part) lu) (λ _. sym (length-set s.views id w))
            (λ a b c. (a, b, c)) (λ a b c. (refl, a, b, c, refl)) (r.each by u e))
            (slot_set plan history p r.log s.views s.homes id v w r.out at (λ e. e) r.slot)
            (⊎_elim (λ e. inl e)
            (λ kn. inr (known_set r.log s.views id v w at (λ e. let f : Out ≡ Deals = sym st ∙ e in cc) some_part
            (λ f. inl (⊎_elim (λ e. sym (begins_same w.seen r.log within (subst (λ (l : List ℕ). IsPrefix l w.seen) e left)))
            (λ e. sym (begins_same w.seen r.log within (subst (λ (l : List ℕ). IsPrefix l w.seen) e right))) f)) kn)) r.known)
            (λ k le. refl)
            (λ e. let f : Out ≡ Deals = sym st ∙ e in cc),
        (refl, (let a = parts_one s.views id v at in let b = r.shared in let c = r.few in omega arith), left, right, (mine, others)),
      )

  module _ (id : ℕ) (v : View P) (st : v.stage ≡ Out) (some_part : 0 < v.parts) (all : v.parts ≡ n) (untold : v.told ≡ []) (s : State (Option V) (View P)) (r : R s) (at : get_elem? s.views id ≡ some v) where
    alone : (j : ℕ) (u : View P) → get_elem? s.views j ≡ some u → 0 < u.parts → u ≡ v
    alone j u e more = let same = one_view s.views id j v u (let a = r.shared in omega arith) more at e in some-injective u v (sym e ∙ ap (get_elem? s.views) (sym same) ∙ at)

    -- once all passes have met, the history is what the last has seen
    seen_whole : r.log ≡ v.seen
    seen_whole = let lv = of_seat plan history n p s r id v Out at st some_part in
        let nothing = λ (e : r.log ≡ []). let f : r.log ≡ v.seen = e ∙ sym (begins_nothing v.seen (subst (IsPrefix v.seen) e lv.begins)) in f in
        ⊎_elim nothing (λ kn. let same = alone kn.0 kn.1 kn.2 kn.4 in
        ⊎_elim (λ e. sym e ∙ ap (λ (z : View P). z.seen) same) (λ e. nothing (sym e ∙ ap (λ (z : View P). z.told) same ∙ untold)) kn.5) r.known

    abbrev Given : Type 0
    Given = (x : V) × (s.homes ≡ some (Some x) ∷ []) × (v.plan ≡ Some (plan x)) × (history x ≡ v.seen)

    home_at_end : (out : Bool) → Slot plan history p r.log s.views s.homes out → Given
    home_at_end true sl = let g = of_seat plan history n p s r sl.1.0 sl.1.1 Inside sl.1.2 sl.1.3 in let same = alone sl.1.0 sl.1.1 sl.1.2 g.0 in
        let f : Inside ≡ Out = sym sl.1.3 ∙ ap (λ (z : View P). z.stage) same ∙ st in cc
    home_at_end false sl = let lv = of_seat plan history n p s r id v Out at st some_part in (sl.0, sl.1, lv.plan ∙ ap Some (sym sl.2), sl.3 ∙ seen_whole)

    pub home : Given
    home = home_at_end r.out r.slot

  -- no entry has an owner that is no pass
  pub passes_alone : (s : State (Option V) (View P)) (r : R s) (k : ℕ) → n ≤ k → owned k r.log ≡ []
  passes_alone s r k le =
      let h = of_seat plan history n p s r 0 r.first.0 Deals r.first.1 r.first.2 in let a = r.first.3 in let b = h.2 in r.fresh k (omega arith)

  -- the value that is left, once all passes have met
  pub ends : (id : ℕ) (v : View P) (ws : List ℕ) (xs : List (Option V)) (y : Option V) → v.stage ≡ Out → 0 < v.parts → v.parts ≡ n → v.told ≡ [] → Final (Seen R id v) ws xs → get_elem? xs 0 ≡ some y
      → (x : V) × (y ≡ Some x) × (v.plan ≡ Some (plan x)) × (history x ≡ v.seen) × ((k : ℕ) → n ≤ k → owned k v.seen ≡ [])
  ends id v ws xs y st some_part all untold f e = let g = home id v st some_part all untold f.0 f.1.0 f.1.1 in
      (g.0, some-injective y (Some g.0) (sym e ∙ f.4 0 (Some g.0) (ap (λ (l : List (maybe.Option (Option V))). get_elem? l 0) g.1)), g.2, g.3, λ k le. ap (owned k) (sym (seen_whole id v st some_part all untold f.0 f.1.0 f.1.1)) ∙ passes_alone f.0 f.1.0 k le)

  pub ends_with : (id : ℕ) (v : View P) (ws : List ℕ) (xs : List (Option V)) (y : V) (p' : P) → v.stage ≡ Out → 0 < v.parts → v.parts ≡ n → v.told ≡ [] → v.plan ≡ Some p' → Final (Seen R id v) ws xs
      → get_elem? xs 0 ≡ some (Some y) → (plan y ≡ p') × (history y ≡ v.seen) × ((k : ℕ) → n ≤ k → owned k v.seen ≡ [])
  ends_with id v ws xs y p' st some_part all untold is f e = let g = ends id v ws xs (Some y) st some_part all untold f e in
      let same : g.0 ≡ y = (let h : Some y ≡ Some g.0 = g.1 in cc) in
      let one : plan g.0 ≡ p' = (let h : Some (plan g.0) ≡ Some p' = sym g.2 ∙ is in cc) in
      (ap plan (sym same) ∙ one, ap history (sym same) ∙ g.3, g.4)

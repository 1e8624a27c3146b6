-- The views of a lock's seats, where one of them changes, and what then still holds of the others.
use Rattle.std.proofs.Common.{◌≡◌, ◌≢◌, ℕ, zero, suc, ◌+◌, ◌<◌, ◌≤◌, ◌⊎◌, ⊎_elim, Bool, true, false, List, [], ◌∷◌, ◌++◌, length, set, refl, sym, ap, ◌∙◌, subst, arith}
use mathlib.Core.Option.{some, none, some-injective, some-ne-none}
use mathlib.Core.Option as maybe
use mathlib.Core.Logic.{dite}
use native.Mathlib.Decide.{ℕ_discrete}
use lib.ListN.{get_elem?}
use Rattle.std.specs.Prelude.{Option}
use Rattle.atomic_table.proofs.Lists.{at_set, set_here, set_else, at_longer}
use Rattle.turn_lock.specs.declared.view.Stage.{Stage}
use Rattle.turn_lock.specs.declared.view.Stage.TheVariants.{Deals, Out, Waits, Inside}
use Rattle.turn_lock.specs.declared.view.View.{View}
use Rattle.turn_lock.specs.Histories.{owned, IsPrefix}
use Rattle.turn_lock.specs.Tickets.{queued, queue_of, parts_of, Gone, Lives, Stands, Known, Slot}
use Rattle.turn_lock.proofs.Histories.{begins_itself, begins_further}

pub at_lt : {A : Type 0} (l : List A) (i : ℕ) (a : A) → get_elem? l i ≡ some a → i < length l
at_lt [] i a e = absurd (some-ne-none a (sym e))
at_lt (x ∷ xs) zero a e = omega arith
at_lt (x ∷ xs) (suc i) a e = let r = at_lt xs i a e in omega arith

module _ {P : Type 0} where
  pub queue_set : (l : List (View P)) (i : ℕ) (v w : View P) → get_elem? l i ≡ some v → queue_of (set l i w) + queued v.stage ≡ queue_of l + queued w.stage
  queue_set [] i v w e = absurd (some-ne-none v (sym e))
  queue_set (x ∷ xs) zero v w e = let is : queued x.stage ≡ queued v.stage = ap (λ (m : View P). queued m.stage) (some-injective x v e) in omega arith
  queue_set (x ∷ xs) (suc i) v w e = let r = queue_set xs i v w e in omega arith

  pub parts_set : (l : List (View P)) (i : ℕ) (v w : View P) → get_elem? l i ≡ some v → parts_of (set l i w) + v.parts ≡ parts_of l + w.parts
  parts_set [] i v w e = absurd (some-ne-none v (sym e))
  parts_set (x ∷ xs) zero v w e = let is : x.parts ≡ v.parts = ap (λ (m : View P). m.parts) (some-injective x v e) in omega arith
  parts_set (x ∷ xs) (suc i) v w e = let r = parts_set xs i v w e in omega arith

  pub queue_more : (l : List (View P)) (w : View P) → queue_of (l ++ w ∷ []) ≡ queue_of l + queued w.stage
  queue_more [] w = omega arith
  queue_more (x ∷ xs) w = let r = queue_more xs w in omega arith

  pub parts_more : (l : List (View P)) (w : View P) → parts_of (l ++ w ∷ []) ≡ parts_of l + w.parts
  parts_more [] w = omega arith
  parts_more (x ∷ xs) w = let r = parts_more xs w in omega arith

  -- each seat has no more tickets than parts
  pub queue_within : (l : List (View P)) → ((by : ℕ) (v : View P) → get_elem? l by ≡ some v → queued v.stage ≤ v.parts) → queue_of l ≤ parts_of l
  queue_within [] each = omega arith
  queue_within (x ∷ xs) each = let here = each 0 x refl in let r = queue_within xs (λ by v e. each (suc by) v e) in omega arith

  pub parts_one : (l : List (View P)) (i : ℕ) (v : View P) → get_elem? l i ≡ some v → v.parts ≤ parts_of l
  parts_one [] i v e = absurd (some-ne-none v (sym e))
  parts_one (x ∷ xs) zero v e = let is : x.parts ≡ v.parts = ap (λ (m : View P). m.parts) (some-injective x v e) in omega arith
  parts_one (x ∷ xs) (suc i) v e = let r = parts_one xs i v e in omega arith

  pub parts_two : (l : List (View P)) (i j : ℕ) (v w : View P) → i ≢ j → get_elem? l i ≡ some v → get_elem? l j ≡ some w → v.parts + w.parts ≤ parts_of l
  parts_two [] i j v w other e f = absurd (some-ne-none v (sym e))
  parts_two (x ∷ xs) zero zero v w other e f = absurd (other refl)
  parts_two (x ∷ xs) zero (suc j) v w other e f = let is : x.parts ≡ v.parts = ap (λ (m : View P). m.parts) (some-injective x v e) in let r = parts_one xs j w f in omega arith
  parts_two (x ∷ xs) (suc i) zero v w other e f = let is : x.parts ≡ w.parts = ap (λ (m : View P). m.parts) (some-injective x w f) in let r = parts_one xs i v e in omega arith
  parts_two (x ∷ xs) (suc i) (suc j) v w other e f = let r = parts_two xs i j v w (λ q. other (ap suc q)) e f in omega arith

  -- the seat that has all parts is the only one with any
  pub one_view : (l : List (View P)) (i j : ℕ) (v w : View P) → parts_of l ≤ v.parts → 0 < w.parts → get_elem? l i ≡ some v → get_elem? l j ≡ some w → i ≡ j
  one_view l i j v w all some_part e f = dite (ℕ_discrete i j) (λ q. q) (λ other. let r = parts_two l i j v w other e f in absurd (omega arith))

  -- what holds of each seat, where one has changed
  pub each_set : (l : List (View P)) (id : ℕ) (w : View P) (S : ℕ → View P → Type 0) → S id w → ((by : ℕ) (u : View P) → by ≢ id → get_elem? l by ≡ some u → S by u) → (by : ℕ) (u : View P) → get_elem? (set l id w) by ≡ some u → S by u
  each_set l id w S here else by u e = ⊎_elim (λ t. subst (λ (z : ℕ × View P). S z.0 z.1) (λ i. (sym t.0 i, t.1 i)) here) (λ t. else by u t.0 t.1) (at_set l id by w u e)

  pub gone_set : (l : List (View P)) (id : ℕ) (w : View P) (k : ℕ) → suc k ≢ id → Gone l k → Gone (set l id w) k
  gone_set l id w k other g = (g.0, set_else l id (suc k) w other ∙ g.1, g.2)

  -- a pass that was met is no pass that lives
  pub gone_other : (l : List (View P)) (by : ℕ) (v : View P) (k : ℕ) → get_elem? l by ≡ some v → 0 < v.parts → Gone l k → suc k ≢ by
  gone_other l by v k at some_part g e =
      let same : g.0 ≡ v = some-injective g.0 v (sym g.1 ∙ ap (get_elem? l) e ∙ at) in
      let none : v.parts ≡ 0 = ap (λ (m : View P). m.parts) (sym same) ∙ g.2 in
      absurd (omega arith)

  pub gone_more : (l : List (View P)) (w : View P) (k : ℕ) → Gone l k → Gone (l ++ w ∷ []) k
  gone_more l w k g = (g.0, at_longer l (w ∷ []) (suc k) g.0 g.1, g.2)

  -- a pass lives on where others have stepped, who added no entry of it or of a pass that it met
  pub lives_on : (p : P) (l l' : List (View P)) (log log' : List ℕ) (by : ℕ) (v : View P) → ((k : ℕ) → Gone l k → Gone l' k) → IsPrefix log log' → owned v.number log' ≡ owned v.number log
      → ((k : ℕ) → Gone l k → owned k log' ≡ owned k log) → Lives p l log by v → Lives p l' log' by v
  lives_on p l l' log log' by v gone more mine theirs lv = record {
    place = lv.place;
    plan = lv.plan;
    begins = begins_further v.seen log log' lv.begins more;
    tells = begins_further v.told log log' lv.tells more;
    mine = mine ∙ lv.mine;
    known = lv.known;
    others = λ k d lt. let o = lv.others k d lt in (gone _ o.0, theirs _ o.0 ∙ o.1, o.2);
  }

  -- the same where the history is as it was
  pub lives_still : (p : P) (l l' : List (View P)) (log : List ℕ) (by : ℕ) (v : View P) → ((k : ℕ) → Gone l k → Gone l' k) → Lives p l log by v → Lives p l' log by v
  lives_still p l l' log by v gone lv = lives_on p l l' log log by v gone (begins_itself log) refl (λ k g. refl) lv

  module _ (p : P) (l l' : List (View P)) (log log' : List ℕ) (turn turn' drawn drawn' : ℕ) (seat seat' : ℕ → ℕ) (out out' : Bool) (by : ℕ) (v : View P) where
    -- what holds of a seat, after another's step
    pub carry : (st : Stage) → (0 < v.parts → Lives p l log by v → Lives p l' log' by v) → (by ≡ 0 → length l ≡ length l')
        → (turn ≤ v.ticket → v.ticket < drawn → seat v.ticket ≡ by → (turn' ≤ v.ticket) × (v.ticket < drawn') × (seat' v.ticket ≡ by))
        → (turn < drawn → seat turn ≡ by → out ≡ true → (turn' ≡ turn) × (turn < drawn') × (seat' turn ≡ by) × (out' ≡ true) × (log' ≡ log))
        → Stands p l log turn drawn seat out by v st → Stands p l' log' turn' drawn' seat' out' by v st
    carry Deals lives long waits stays h = (h.0, h.1, sym (long h.0) ∙ h.2)
    carry Out lives long waits stays h = λ some_part. lives some_part (h some_part)
    carry Waits lives long waits stays h = let t = waits h.2 h.3 h.4 in (h.0, lives h.0 h.1, t.0, t.1, t.2)
    carry Inside lives long waits stays h = let t = stays h.3 h.4 h.5 in
        (h.0, lives h.0 h.1, h.2 ∙ sym t.0, subst (λ (z : ℕ). z < drawn') (sym t.0) t.1, ap seat' t.0 ∙ t.2, t.3, h.6 ∙ sym t.4)

  pub known_set : (log : List ℕ) (l : List (View P)) (id : ℕ) (v w : View P) → get_elem? l id ≡ some v → w.stage ≢ Deals → 0 < w.parts → ((v.seen ≡ log) ⊎ (v.told ≡ log) → (w.seen ≡ log) ⊎ (w.told ≡ log)) → Known log l → Known log (set l id w)
  known_set log l id v w at pass some_part goes kn = dite (ℕ_discrete kn.0 id)
      (λ e. let same : kn.1 ≡ v = some-injective kn.1 v (sym kn.2 ∙ ap (get_elem? l) e ∙ at) in
      (id, w, set_here l id w (at_lt l id v at), pass, some_part, goes (subst (λ (m : View P). (m.seen ≡ log) ⊎ (m.told ≡ log)) same kn.5)))
      (λ ne. (kn.0, kn.1, set_else l id kn.0 w ne ∙ kn.2, kn.3, kn.4, kn.5))

  module _ {V : Type 0} (plan : V → P) (history : V → List ℕ) where
    pub slot_set : (p : P) (log : List ℕ) (l : List (View P)) (homes : List (maybe.Option (Option V))) (id : ℕ) (v w : View P) (out : Bool) → get_elem? l id ≡ some v → (v.stage ≡ Inside → w.stage ≡ Inside)
        → Slot plan history p log l homes out → Slot plan history p log (set l id w) homes out
    slot_set p log l homes id v w false at goes sl = sl
    slot_set p log l homes id v w true at goes sl = dite (ℕ_discrete sl.1.0 id)
        (λ e. let same : sl.1.1 ≡ v = some-injective sl.1.1 v (sym sl.1.2 ∙ ap (get_elem? l) e ∙ at) in
        (sl.0, (id, w, set_here l id w (at_lt l id v at), goes (sym (ap (λ (m : View P). m.stage) same) ∙ sl.1.3))))
        (λ ne. (sl.0, (sl.1.0, sl.1.1, set_else l id sl.1.0 w ne ∙ sl.1.2, sl.1.3)))

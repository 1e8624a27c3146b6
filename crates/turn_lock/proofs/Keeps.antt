-- Each step of a pass keeps the lock's rule.
use Rattle.std.proofs.Common.{◌≡◌, ◌≢◌, ℕ, suc, ◌+◌, ◌%◌, ◌^◌, ◌<◌, ◌≤◌, ◌⊎◌, inl, inr, ⊎_elim, Bool, true, false, cond, eqb, List, [], ◌∷◌, ◌++◌, length, drop, get_or, set, refl, sym, ap, ◌∙◌, subst, arith, length-set, get_or-set_same, get_or-set_other, eq-eqb, ne_eqb}
use mathlib.Core.Option.{some, none, some-injective, some-ne-none}
use mathlib.Core.Option as maybe
use mathlib.Core.Logic.{dite}
use native.Mathlib.Decide.{ℕ_discrete}
use lib.ListN.{get_elem?}
use Rattle.std.specs.Prelude.{Option, Some}
use Rattle.atomic_table.specs.Table.{State, Me, step, keeps, takes, gives, Allows, rest}
use Rattle.atomic_table.proofs.Lists.{set_here, set_else, set_again, one_turn}
use Rattle.turn_lock.specs.declared.view.Stage.{Stage}
use Rattle.turn_lock.specs.declared.view.Stage.TheVariants.{Deals, Out, Waits, Inside}
use Rattle.turn_lock.specs.declared.view.View.{View}
use Rattle.turn_lock.specs.Histories.{owned, Continues, Adds}
use Rattle.turn_lock.specs.Tickets.{queued, queue_of, held_at, Gone, Lives, Stands, Known, Slot, Rule}
use Rattle.turn_lock.specs.Plays.{waiting, inside, outside, drew, looked, handed}
use Rattle.turn_lock.proofs.Histories.{begins_itself, begins_further, continues, owned_mine, owned_theirs}
use Rattle.turn_lock.proofs.Views.{at_lt, queue_set, parts_set, queue_within, each_set, gone_set, gone_other, lives_on, lives_still, carry, known_set, slot_set}

-- the value in the first slot that a seat holds
abbrev first_held : {V : Type 0} → Option V → List (ℕ × Option V) → Option V
first_held d [] = d
first_held d (c ∷ cs) = c.1

module _ {V P : Type 0} (plan : V → P) (history : V → List ℕ) (n : ℕ) (p : P) where
  abbrev pub Held : State (Option V) (View P) → Type 0
  Held = Rule plan history n p

  abbrev St : Type 0
  St = State (Option V) (View P)

  pub of_seat : (s : St) (r : Held s) (id : ℕ) (v : View P) (st : Stage) → get_elem? s.views id ≡ some v → v.stage ≡ st → Stands p s.views r.log r.turn r.drawn r.seat r.out id v st
  of_seat s r id v st at e = subst (Stands p s.views r.log r.turn r.drawn r.seat r.out id v) e (r.each id v at)

  one_ticket : (l : List (View P)) (log : List ℕ) (turn drawn : ℕ) (seat : ℕ → ℕ) (out : Bool) (by : ℕ) (v : View P) (st : Stage) → Stands p l log turn drawn seat out by v st → queued st ≤ v.parts
  one_ticket l log turn drawn seat out by v Deals h = omega arith
  one_ticket l log turn drawn seat out by v Out h = omega arith
  one_ticket l log turn drawn seat out by v Waits h = let some_part = h.0 in omega arith
  one_ticket l log turn drawn seat out by v Inside h = let some_part = h.0 in omega arith

  -- no more tickets are out than there are passes
  pub few_wait : (s : St) (r : Held s) → queue_of s.views ≤ n
  few_wait s r = let w = queue_within s.views (λ by v e. one_ticket s.views r.log r.turn r.drawn r.seat r.out by v v.stage (r.each by v e)) in let q = r.shared in omega arith

  -- the first seat makes the passes
  pub dealer_at : (s : St) (r : Held s) (id : ℕ) (v : View P) → get_elem? s.views id ≡ some v → 0 ≡ id → v ≡ r.first.0
  dealer_at s r id v at e = some-injective v r.first.0 (sym at ∙ ap (get_elem? s.views) (sym e) ∙ r.first.1)

  -- the rule, where one seat has changed, and a word, and what goes with them
  pub moved : (s : St) (r : Held s) (i x id : ℕ) (v w : View P) (homes' : List (maybe.Option (Option V))) (turn' drawn' : ℕ) (log' : List ℕ) (seat' : ℕ → ℕ) (out' : Bool)
      → get_elem? s.views id ≡ some v → w.parts ≡ v.parts
      → get_or (set s.words i x) 0 0 ≡ drawn' % 18446744073709551616 → get_or (set s.words i x) 1 0 ≡ turn' % 18446744073709551616
      → turn' + queued w.stage + r.drawn ≡ drawn' + queued v.stage + r.turn
      → Stands p (set s.views id w) log' turn' drawn' seat' out' id w w.stage
      → ((by : ℕ) (u : View P) → by ≢ id → get_elem? s.views by ≡ some u → Stands p (set s.views id w) log' turn' drawn' seat' out' by u u.stage)
      → Slot plan history p log' (set s.views id w) homes' out'
      → (log' ≡ []) ⊎ Known log' (set s.views id w)
      → ((k : ℕ) → length s.views ≤ suc k → owned k log' ≡ owned k r.log)
      → v.stage ≢ Deals
      → Held record { words = set s.words i x; homes = homes'; views = set s.views id w }
  moved s r i x id v w homes' turn' drawn' log' seat' out' at parts ticket serving counts mine others slot known fresh pass = record {
    turn = turn';
    drawn = drawn';
    log = log';
    seat = seat';
    out = out';
    wide = length-set s.words i x ∙ r.wide;
    ticket_is = ticket;
    serving_is = serving;
    waiting = (let q = queue_set s.views id v w at in let a = r.waiting in omega arith);
    shared = (let q = parts_set s.views id v w at in let a = r.shared in omega arith);
    few = r.few;
    each = each_set s.views id w (λ by u. Stands p (set s.views id w) log' turn' drawn' seat' out' by u u.stage) mine others;
    slot = slot;
    known = known;
    fresh = λ k le. fresh k (subst (λ (z : ℕ). z ≤ suc k) (length-set s.views id w) le) ∙ r.fresh k (subst (λ (z : ℕ). z ≤ suc k) (length-set s.views id w) le);
    first = (r.first.0, set_else s.views id 0 w (λ e. pass (ap (λ (u : View P). u.stage) (dealer_at s r id v at e) ∙ r.first.2)) ∙ r.first.1, r.first.2, r.first.3);
  }

  -- the rule, where nothing has changed
  unmoved : (s : St) (r : Held s) (i id : ℕ) (v : View P) → get_elem? s.views id ≡ some v
      → get_or (set s.words i (get_or s.words i 0)) 0 0 ≡ get_or s.words 0 0 → get_or (set s.words i (get_or s.words i 0)) 1 0 ≡ get_or s.words 1 0
      → Held record { words = set s.words i (get_or s.words i 0); homes = s.homes; views = set s.views id v }
  unmoved s r i id v at ticket serving = subst (λ (l : List (View P)). Held record { words = set s.words i (get_or s.words i 0); homes = s.homes; views = l }) (sym (set_again s.views id v at)) record {
    turn = r.turn;
    drawn = r.drawn;
    log = r.log;
    seat = r.seat;
    out = r.out;
    wide = length-set s.words i (get_or s.words i 0) ∙ r.wide;
    ticket_is = ticket ∙ r.ticket_is;
    serving_is = serving ∙ r.serving_is;
    waiting = r.waiting;
    shared = r.shared;
    few = r.few;
    each = r.each;
    slot = r.slot;
    known = r.known;
    fresh = r.fresh;
    first = r.first;
  }

  pub still_gone : (s : St) (id : ℕ) (v w : View P) → get_elem? s.views id ≡ some v → 0 < v.parts → (k : ℕ) → Gone s.views k → Gone (set s.views id w) k
  still_gone s id v w at some_part k g = gone_set s.views id w k (gone_other s.views id v k at some_part g) g

  pub draws : (slots id : ℕ) (m : Me (Option V) (View P)) → m.0.stage ≡ Out → 0 < m.0.parts → Allows Held slots id m 0 (λ x. (x + 1) % 2 ^ 64) (drew (step slots 0 1 0 none) m)
  draws slots id m st some_part s r _ at _ =
      let v = m.0 in let t : ℕ = r.drawn in let w : View P = waiting t v in let l' = set s.views id w in let x : ℕ = get_or s.words 0 0 in
      let wide : length s.words ≡ 2 = r.wide in let is : x ≡ t % 18446744073709551616 = r.ticket_is in let total : r.turn + queue_of s.views ≡ t = r.waiting in
      let lv = lives_still p s.views l' r.log id v (still_gone s id v w at some_part) (of_seat s r id v Out at st some_part) in
      let lw : Lives p l' r.log id w = record { place = lv.place; plan = lv.plan; begins = lv.begins; tells = lv.tells; mine = lv.mine; known = lv.known; others = lv.others } in
      let seat' = λ (k : ℕ). cond (eqb k t) id (r.seat k) in
      let new : seat' t ≡ id = ap (λ (b : Bool). cond b id (r.seat t)) (eq-eqb t t refl) in
      let old = λ (k : ℕ) (lt : k < t). let e : seat' k ≡ r.seat k = ap (λ (b : Bool). cond b id (r.seat k)) (ne_eqb k t (λ q. omega arith)) in e in
      let q : queued v.stage ≡ 0 = ap queued st in (
        w,
        keeps,
        tt,
        moved s r 0 ((x + 1) % 18446744073709551616) id v w s.homes r.turn (t + 1) r.log seat' r.out at refl
            (get_or-set_same s.words 0 ((x + 1) % 18446744073709551616) 0 (omega arith) ∙ omega arith)
            (get_or-set_other s.words 0 1 ((x + 1) % 18446744073709551616) 0 (λ e. omega arith) ∙ r.serving_is)
            (omega arith)
            (some_part, lw, omega arith, omega arith, new)
            (λ by u other e. carry p s.views l' r.log r.log r.turn r.turn t (t + 1) r.seat seat' r.out r.out by u u.stage
            (λ _ lu. lives_still p s.views l' r.log by u (still_gone s id v w at some_part) lu) (λ _. sym (length-set s.views id w))
            (λ a b c. (a, omega arith, old u.ticket b ∙ c)) (λ a b c. (refl, omega arith, old r.turn a ∙ b, c, refl)) (r.each by u e))
            (slot_set plan history p r.log s.views s.homes id v w r.out at (λ e. let f : Out ≡ Inside = sym st ∙ e in cc) r.slot)
            (⊎_elim (λ e. inl e) (λ kn. inr (known_set r.log s.views id v w at (λ e. cc) some_part (λ e. e) kn)) r.known)
            (λ k le. refl)
            (λ e. let f : Out ≡ Deals = sym st ∙ e in cc),
        (t, is, refl),
      )

  module _ (slots id : ℕ) (m : Me (Option V) (View P)) (st : m.0.stage ≡ Waits) (s : St) (r : Held s) (at : get_elem? s.views id ≡ some m.0) (turned : m.0.ticket ≡ r.turn) where
    abbrev Came : Type 0
    Came = (w : View P) × (x : V) × (get_elem? s.homes 0 ≡ some (some (Some x))) × Held record { words = set s.words 1 (get_or s.words 1 0); homes = set s.homes 0 none; views = set s.views id w } × (w ≡ inside (history x) m.0)
        × (m.0.plan ≡ Some (plan x)) × Continues m.0.number m.0.seen (history x)

    -- the slot is at home, since only the seat with this ticket could have it
    comes : (out : Bool) → r.out ≡ out → Slot plan history p r.log s.views s.homes out → Came
    comes true e sl =
        let h = of_seat s r id m.0 Waits at st in let g = of_seat s r sl.1.0 sl.1.1 Inside sl.1.2 sl.1.3 in
        let same : sl.1.0 ≡ id = sym g.4 ∙ ap r.seat (sym turned) ∙ h.4 in
        let one : sl.1.1 ≡ m.0 = some-injective sl.1.1 m.0 (sym sl.1.2 ∙ ap (get_elem? s.views) same ∙ at) in
        let f : Inside ≡ Waits = sym sl.1.3 ∙ ap (λ (u : View P). u.stage) one ∙ st in cc
    comes false e sl =
        let v = m.0 in let x = sl.0 in let w : View P = inside (history x) v in let l' = set s.views id w in let y : ℕ = get_or s.words 1 0 in
        let wide : length s.words ≡ 2 = r.wide in let h = of_seat s r id v Waits at st in let some_part = h.0 in
        let lv = lives_still p s.views l' r.log id v (still_gone s id v w at some_part) h.1 in
        let lw : Lives p l' r.log id w = record { place = lv.place; plan = lv.plan; begins = lv.begins; tells = lv.tells; mine = lv.mine; known = lv.known; others = lv.others } in
        let q : queued v.stage ≡ 1 = ap queued st in let drawn : r.turn < r.drawn = subst (λ (z : ℕ). z < r.drawn) turned h.3 in (
          w,
          x,
          ap (λ (l : List (maybe.Option (Option V))). get_elem? l 0) sl.1,
          moved s r 1 y id v w (set s.homes 0 none) r.turn r.drawn r.log r.seat true at refl
              (get_or-set_other s.words 1 0 y 0 (λ e. omega arith) ∙ r.ticket_is)
              (get_or-set_same s.words 1 y 0 (omega arith) ∙ r.serving_is)
              (omega arith)
              (some_part, lw, turned, drawn, ap r.seat (sym turned) ∙ h.4, refl, sl.3)
              (λ by u other e. carry p s.views l' r.log r.log r.turn r.turn r.drawn r.drawn r.seat r.seat r.out true by u u.stage
              (λ _ lu. lives_still p s.views l' r.log by u (still_gone s id v w at some_part) lu) (λ _. sym (length-set s.views id w))
              (λ a b c. (a, b, c)) (λ a b c. (refl, a, b, refl, refl)) (r.each by u e))
              (ap (λ (l : List (maybe.Option (Option V))). set l 0 none) sl.1, (id, w, set_here s.views id w (at_lt s.views id v at), refl))
              (⊎_elim (λ e. inl e) (λ kn. inr (known_set r.log s.views id v w at (λ e. cc) some_part (λ e. e) kn)) r.known)
              (λ k le. refl)
              (λ e. let f : Waits ≡ Deals = sym st ∙ e in cc),
          refl,
          h.1.plan ∙ ap Some (sym sl.2),
          subst (Continues v.number v.seen) (sym sl.3) (continues v.number v.seen r.log h.1.begins (h.1.mine ∙ sym h.1.known)),
        )

  pub looks : (slots id : ℕ) (m : Me (Option V) (View P)) → m.0.stage ≡ Waits → Allows Held slots id m 1 (λ x. x) (looked plan history (step slots 1 0 0 none) m)
  looks slots id m st s r _ at _ =
      let x : ℕ = get_or s.words 1 0 in let t : ℕ = m.0.ticket in let wide : length s.words ≡ 2 = r.wide in dite (ℕ_discrete x (t % 18446744073709551616))
      (λ hit.
      let h = of_seat s r id m.0 Waits at st in let few = few_wait s r in let most = r.few in let total = r.waiting in let below = h.3 in
      let same : t ≡ r.turn = sym (one_turn r.turn t 18446744073709551616 h.2 (omega arith) (sym r.serving_is ∙ hit)) in
      let c = comes slots id m st s r at same r.out refl r.slot in
      (c.0, takes 0 (Some c.1), c.2, c.3, ((λ _. (c.1, (λ i. (c.4 i, (0, Some c.1) ∷ m.1)), c.5, c.6)), λ miss. absurd (miss hit))))
      (λ miss. (
        m.0,
        keeps,
        tt,
        unmoved s r 1 id m.0 at (get_or-set_other s.words 1 0 x 0 (λ e. omega arith)) (get_or-set_same s.words 1 x 0 (omega arith)),
        ((λ hit. absurd (miss hit)), λ _. refl),
      ))

  pub hands : (slots id : ℕ) (v : View P) (y : V) → v.stage ≡ Inside → v.plan ≡ Some (plan y) → Adds v.number v.entered (history y)
      → Allows Held slots id (v, (0, Some y) ∷ []) 1 (λ x. (x + 1) % 2 ^ 64) (handed history (step slots 1 1 0 none) (v, (0, Some y) ∷ []))
  hands slots id v y st plan_is adds s r _ at _ =
      let w : View P = outside (history y) v in let l' = set s.views id w in let log' = history y in let x : ℕ = get_or s.words 1 0 in
      let wide : length s.words ≡ 2 = r.wide in let is : x ≡ r.turn % 18446744073709551616 = r.serving_is in
      let h = of_seat s r id v Inside at st in let some_part = h.0 in let lv = h.1 in let q : queued v.stage ≡ 1 = ap queued st in
      let a : Adds v.number r.log log' = subst (λ (l : List ℕ). Adds v.number l log') h.6 adds in
      let theirs = λ (k : ℕ) (g : Gone s.views k). let e : owned k log' ≡ owned k r.log = owned_theirs k v.number r.log log' (λ e. gone_other s.views id v k at some_part g (ap suc e ∙ sym lv.place)) a in e in
      let mine : owned v.number log' ≡ w.mine = owned_mine v.number r.log log' a ∙ (λ i. lv.mine i ++ drop (length (sym h.6 i)) log') in
      let lw : Lives p l' log' id w = record {
        place = lv.place;
        plan = lv.plan;
        begins = begins_itself log';
        tells = begins_further v.told r.log log' lv.tells a.0;
        mine = mine;
        known = mine;
        others = λ k d lt. let o = lv.others k d lt in let e = theirs _ o.0 ∙ o.1 in (still_gone s id v w at some_part _ o.0, e, inl e);
      } in
      let was = subst (Slot plan history p r.log s.views s.homes) h.5 r.slot in (
        w,
        gives,
        tt,
        moved s r 1 ((x + 1) % 18446744073709551616) id v w (set s.homes 0 (some (Some y))) (r.turn + 1) r.drawn log' r.seat false at refl
            (get_or-set_other s.words 1 0 ((x + 1) % 18446744073709551616) 0 (λ e. omega arith) ∙ r.ticket_is)
            (get_or-set_same s.words 1 ((x + 1) % 18446744073709551616) 0 (omega arith) ∙ omega arith)
            (omega arith)
            (λ _. lw)
            (λ by u other e. carry p s.views l' r.log log' r.turn (r.turn + 1) r.drawn r.drawn r.seat r.seat r.out false by u u.stage
            (λ _ lu. lives_on p s.views l' r.log log' by u (still_gone s id v w at some_part) a.0
            (owned_theirs u.number v.number r.log log' (λ q. other (lu.place ∙ ap suc q ∙ sym lv.place)) a) theirs lu)
            (λ _. sym (length-set s.views id w))
            (λ b c d. (let ne : u.ticket ≢ r.turn = λ q. other (sym d ∙ ap r.seat q ∙ h.4) in omega arith, c, d)) (λ b c d. absurd (other (sym c ∙ h.4))) (r.each by u e))
            (y, ap (λ (l : List (maybe.Option (Option V))). set l 0 (some (Some y))) was.0, (let e : Some (plan y) ≡ Some p = sym plan_is ∙ lv.plan in cc), refl)
            (inr (id, w, set_here s.views id w (at_lt s.views id v at), (λ e. cc), some_part, inl refl))
            (λ k le. owned_theirs k v.number r.log log' (λ e. let lt = at_lt s.views id v at in let pl = lv.place in omega arith) a)
            (λ e. let f : Inside ≡ Deals = sym st ∙ e in cc),
        λ z e. let f : Some y ≡ Some z = ap (first_held (Some y)) e in let same : y ≡ z = cc in
            ((λ i. (outside (history (same i)) v, [])), (mine, λ k d lt. let o = lv.others k d lt in theirs _ o.0 ∙ o.1)),
      )

  -- the same for a seat that was inside, right after its value went into the slot
  pub hands_back : (slots id : ℕ) (m m' : Me (Option V) (View P)) (y : V) → m.0.stage ≡ Inside → m.1 ≡ held_at m.0.stage → m' ≡ (m.0, (0, Some y) ∷ rest m.1) → m.0.plan ≡ Some (plan y) → Adds m.0.number m.0.entered (history y)
      → Allows Held slots id m' 1 (λ x. (x + 1) % 2 ^ 64) (handed history (step slots 1 1 0 none) m')
  hands_back slots id m m' y st held is plan_is adds =
      let none_more : rest m.1 ≡ [] = ap rest (held ∙ ap held_at st) in
      let e : m' ≡ (m.0, (0, Some y) ∷ []) = is ∙ (λ i. (m.0, (0, Some y) ∷ none_more i)) in
      subst (λ (z : Me (Option V) (View P)). Allows Held slots id z 1 (λ x. (x + 1) % 2 ^ 64) (handed history (step slots 1 1 0 none) z)) (sym e) (hands slots id m.0 y st plan_is adds)

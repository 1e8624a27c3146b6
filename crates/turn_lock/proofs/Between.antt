-- What holds between any two steps follows from the rule.
use Rattle.std.proofs.Common.{◌≡◌, ◌≢◌, ℕ, ◌+◌, ◌<◌, ◌≤◌, Bool, true, false, List, [], ◌∷◌, refl, sym, ap, ◌∙◌, subst, arith, lt_of_not-le}
use mathlib.Core.Option.{some, none}
use mathlib.Core.Option as maybe
use mathlib.Core.Logic.{dite}
use native.Mathlib.Decide.{dec_le}
use lib.ListN.{get_elem?}
use Rattle.std.specs.Prelude.{Option, Some}
use Rattle.atomic_table.specs.Table.{State}
use Rattle.atomic_table.proofs.Lists.{one_turn}
use Rattle.turn_lock.specs.declared.view.Stage.{Stage}
use Rattle.turn_lock.specs.declared.view.Stage.TheVariants.{Deals, Out, Waits, Inside}
use Rattle.turn_lock.specs.declared.view.View.{View}
use Rattle.turn_lock.specs.Tickets.{queued, Lives, Stands, Slot, Rule}
use Rattle.turn_lock.specs.Between.{HasTicket, AreApart, OnlyServedHasSlot, Between}
use Rattle.turn_lock.proofs.Keeps.{of_seat, few_wait}
use Rattle.turn_lock.proofs.Meets.{passes_alone}

module _ {P : Type 0} (p : P) (l : List (View P)) (log : List ℕ) (turn drawn : ℕ) (seat : ℕ → ℕ) (out : Bool) (by : ℕ) (v : View P) where
  plan_of : (st : Stage) → 0 < v.parts → Stands p l log turn drawn seat out by v st → v.plan ≡ Some p
  plan_of Deals some_part h = h.1
  plan_of Out some_part h = (h some_part).plan
  plan_of Waits some_part h = h.1.plan
  plan_of Inside some_part h = h.1.plan

  lives_of : (st : Stage) → st ≢ Deals → 0 < v.parts → Stands p l log turn drawn seat out by v st → Lives p l log by v
  lives_of Deals pass some_part h = absurd (pass refl)
  lives_of Out pass some_part h = h some_part
  lives_of Waits pass some_part h = h.1
  lives_of Inside pass some_part h = h.1

  ticket_of : (st : Stage) → queued st ≡ 1 → Stands p l log turn drawn seat out by v st → (turn ≤ v.ticket) × (v.ticket < drawn) × (seat v.ticket ≡ by)
  ticket_of Deals has h = absurd (omega arith)
  ticket_of Out has h = absurd (omega arith)
  ticket_of Waits has h = (h.2, h.3, h.4)
  ticket_of Inside has h = (let e = h.2 in omega arith, let e = h.2 in let a = h.3 in omega arith, ap seat h.2 ∙ h.4)

module _ {V P : Type 0} (plan : V → P) (history : V → List ℕ) (n : ℕ) (p : P) (s : State (Option V) (View P)) (r : Rule plan history n p s) where
  ticket : (by : ℕ) (v : View P) → get_elem? s.views by ≡ some v → HasTicket v → (r.turn ≤ v.ticket) × (v.ticket < r.drawn) × (r.seat v.ticket ≡ by)
  ticket by v at has = ticket_of p s.views r.log r.turn r.drawn r.seat r.out by v v.stage has (r.each by v at)

  most : r.drawn ≤ r.turn + 64
  most = let a = few_wait plan history n p s r in let b = r.few in let c = r.waiting in omega arith

  apart : AreApart s.views
  apart i j v w at at' has has' e =
      let a = ticket i v at has in let b = ticket j w at' has' in let few = most in
      let a0 = a.0 in let a1 = a.1 in let b0 = b.0 in let b1 = b.1 in
      let same : v.ticket ≡ w.ticket = dite (dec_le v.ticket w.ticket)
      (λ le. one_turn v.ticket w.ticket 18446744073709551616 le (omega arith) e)
      (λ more. sym (one_turn w.ticket v.ticket 18446744073709551616 (let lt = lt_of_not-le more in omega arith) (omega arith) (sym e))) in
      sym a.2 ∙ ap r.seat same ∙ b.2

  inside_where : (out : Bool) → Slot plan history p r.log s.views s.homes out → s.homes ≡ none ∷ [] → (by : ℕ) × (v : View P) × (get_elem? s.views by ≡ some v) × (v.stage ≡ Inside)
  inside_where true sl e = sl.1
  inside_where false sl e = let f : some (some (Some sl.0)) ≡ some none = ap (λ (l : List (maybe.Option (Option V))). get_elem? l 0) (sym sl.1 ∙ e) in cc

  value_of : (out : Bool) → Slot plan history p r.log s.views s.homes out → (x : V) → s.homes ≡ some (Some x) ∷ [] → (plan x ≡ p) × (history x ≡ r.log)
  value_of true sl x e = let f : some none ≡ some (some (Some x)) = ap (λ (l : List (maybe.Option (Option V))). get_elem? l 0) (sym sl.0 ∙ e) in cc
  value_of false sl x e = let f : some (some (Some sl.0)) ≡ some (some (Some x)) = ap (λ (l : List (maybe.Option (Option V))). get_elem? l 0) (sym sl.1 ∙ e) in let same : sl.0 ≡ x = cc in
      (ap plan (sym same) ∙ sl.2, ap history (sym same) ∙ sl.3)

  served : OnlyServedHasSlot plan history r.turn s
  served = ((λ by v at in'. let h = of_seat plan history n p s r by v Inside at in' in (h.2, (subst (Slot plan history p r.log s.views s.homes) h.5 r.slot).0)), inside_where r.out r.slot)

  pub between : Between plan history n p s
  between = record {
    turn = r.turn;
    drawn = r.drawn;
    log = r.log;
    one_plan = λ by v at some_part. plan_of p s.views r.log r.turn r.drawn r.seat r.out by v v.stage some_part (r.each by v at);
    one_history = λ by v at pass. let lv = lives_of p s.views r.log r.turn r.drawn r.seat r.out by v v.stage pass.0 pass.1 (r.each by v at) in (lv.begins, lv.mine, lv.known);
    of_passes = passes_alone plan history n p s r;
    next_ticket = r.ticket_is;
    served_ticket = r.serving_is;
    tickets = r.waiting;
    at_most_64 = ((let c = r.waiting in omega arith), most);
    are_out = λ by v at has. let t = ticket by v at has in (t.0, t.1);
    apart = apart;
    slot = served;
    value = value_of r.out r.slot;
  }

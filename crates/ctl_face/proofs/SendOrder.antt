-- Where a network keeps order, what is sent first arrives first.
use Rattle.std.proofs.Common.{◌≡◌, ℕ, ◌+◌, ◌≤◌, Bool, true, false, cond, eqb, max, List, [], ◌∷◌, Contains, sym, ap, subst, ◌∙◌, arith, ⊎_elim, nat_abs}
use Rattle.std.proofs.lemmas.Bool.{eq-eqb}
use Rattle.std.proofs.lemmas.List.Elements.{All-contains}
use Rattle.ruby_value.specs.declared.setup.BufferPlace.{BufferPlace}
use Rattle.ruby_value.specs.declared.setup.MachineSetup.{MachineSetup}
use Rattle.ruby_value.proofs.Contained.{Contains-cons_cases}
use Rattle.ruby_value.specs.declared.message.Delivery.{Delivery}
use Rattle.ruby_value.specs.declared.message.Message.{Message}
use Rattle.ctl_face.specs.Prelude.{Mail, last_at, lasts_on, Actor, is_ordered, path_to, IsNetworkCopy, SendAdds, arrival_after, copies_to, jitter_of, latest, IsSentTo, SendsKeepOrder}
use Rattle.ctl_face.proofs.SendAdds.{send_adds}

latest_from : (cycle : ℕ) (copies : List (Delivery Message)) → cycle ≤ latest cycle copies
latest_from cycle [] = omega arith
latest_from cycle (c ∷ copies) = let rest = latest_from (max cycle c.message.arrival) copies in omega arith

latest_above : (cycle receiver : ℕ) (copies : List (Delivery Message)) (a : Delivery Message) → Contains copies a → a.receiver ≡ receiver → a.message.arrival ≤ latest cycle (copies_to receiver copies)
latest_above cycle receiver [] a there to = absurd (omega (arith, there.1))
latest_above cycle receiver (c ∷ copies) a there to =
    let Q : Bool → Type 0 = λ b. a.message.arrival ≤ latest cycle (cond b (c ∷ copies_to receiver copies) (copies_to receiver copies)) in
    let above = latest_from (max cycle c.message.arrival) (copies_to receiver copies) in
    ⊎_elim
    (λ same.
    let is : c.message.arrival ≡ a.message.arrival = ap (λ (x : Delivery Message). x.message.arrival) same in
    let first : Q true = omega arith in
    subst Q (sym (eq-eqb c.receiver receiver (ap (λ (x : Delivery Message). x.receiver) same ∙ to))) first)
    (λ rest. elim (eqb c.receiver receiver) as Q [
      | true ↦ latest_above (max cycle c.message.arrival) receiver copies a rest to
      | false ↦ latest_above cycle receiver copies a rest to
    ]) (Contains-cons_cases c a copies there)

raised_to : (ordered : Bool) (due last : ℕ) → ordered ≡ true → last ≤ arrival_after ordered due last
raised_to true due last is = omega arith
raised_to false due last is = absurd (cc is)

pub sends_keep_order : (network : ℕ) (machine : MachineSetup) (actor : Actor) (mail : Mail) → SendsKeepOrder network machine actor mail
sends_keep_order network machine actor mail order first second later one keeps two a b in_first in_second same =
    let To : (d : BufferPlace) → IsSentTo network machine actor mail first → Type 0 = λ d w. SendAdds d w.on.ordered actor mail w.buffer (nat_abs w.latency) w.fields w.now first in
    let ToNext : (d : BufferPlace) → IsSentTo network machine actor later second → Type 0 = λ d w. SendAdds d w.on.ordered actor later w.buffer (nat_abs w.latency) w.fields w.now second in
    let added = subst (λ (d : BufferPlace). To d one) one.to_network (send_adds machine actor mail one.buffer one.latency one.fields one.now one.on first one.there one.sent) in
    let next = subst (λ (d : BufferPlace). ToNext d two) two.to_network (send_adds machine actor later two.buffer two.latency two.fields two.now two.on second two.there two.sent) in
    let copy = All-contains (IsNetworkCopy actor later network (nat_abs two.latency) two.fields two.now) second.copies b next.0.each in_second in
    let last = last_at (lasts_on later.network_last network) b.receiver in
    let kept = keeps b.receiver in
    let written = added.1.in_order order.ordered order.within b.receiver in
    let above = latest_above (last_at (lasts_on mail.network_last network) b.receiver) b.receiver first.copies a in_first same in
    let raised = raised_to (is_ordered actor.routes network) (two.now + nat_abs two.latency + path_to actor.routes actor.me b.receiver + jitter_of actor later b) last order.ordered in
    let arrival = copy.arrival in
    omega arith

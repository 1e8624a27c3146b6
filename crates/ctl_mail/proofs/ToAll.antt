-- What a send to the receivers on a network comes to, by its tests.
use Rattle.std.proofs.Common.{◌≡◌, ◌+◌, ℕ, Bool, true, false, cond, not, nat_lt, Result, Ok, Err, List, length, ap}
use Rattle.std.specs.List.{list_all}
use Rattle.ruby_value.specs.declared.fault.Fault.{Fault}
use Rattle.ruby_value.specs.declared.fault.Fault.TheVariants.{Copies, Route}
use Rattle.ruby_value.specs.declared.value.Value.{Value}
use Rattle.ctl_face.specs.Prelude.{Actor, copy_limit, network_copies}
use Rattle.ctl_mail.specs.Prelude.{MailView, copies_to_all, is_routed, view_after_sending, view_with_copies}

module _ (actor : Actor) (network latency now : ℕ) (members : List ℕ) (v : MailView) (fields : List Value) where
  abbrev sent_so : Bool → Bool → Result MailView Fault
  sent_so all many =
      view_after_sending actor.me v (cond (not all) (Err Route) (cond many (Err Copies) (Ok (copies_to_all actor network latency fields now v.mail members))))

  abbrev pub all_sent : Result MailView Fault
  all_sent = view_after_sending actor.me v (network_copies actor network members v.mail latency fields now)

  pub unrouted : list_all (is_routed actor.routes network) members ≡ false → all_sent ≡ Err Route
  unrouted is = ap (λ b. sent_so b (nat_lt copy_limit (v.mail.copies + length members))) is

  pub too_many : list_all (is_routed actor.routes network) members ≡ true → nat_lt copy_limit (v.mail.copies + length members) ≡ true → all_sent ≡ Err Copies
  too_many all many = λ i. sent_so (all i) (many i)

  pub sent_all : list_all (is_routed actor.routes network) members ≡ true → nat_lt copy_limit (v.mail.copies + length members) ≡ false
      → all_sent ≡ Ok (view_with_copies actor.me v (copies_to_all actor network latency fields now v.mail members))
  sent_all all few = λ i. sent_so (all i) (few i)

-- A local is lawful where its controller fits and its acts do; so it begins, and so an act leaves it.
use Rattle.std.proofs.Common.{◌≡◌, ℕ, ◌≤◌, ◌<◌, refl, arith, Result, Ok}
use Rattle.std.proofs.lemmas.List.Elements.{All-nil, All-weaker}
use Rattle.ruby_value.specs.declared.fault.Fault.{Fault}
use Rattle.ruby_value.specs.declared.setup.MachineSetup.{MachineSetup}
use Rattle.ruby_value.specs.declared.message.Sent.{Sent}
use Rattle.ctl_face.specs.Prelude.{ActsFit, IsCreditFor, IsRouted, Ctl, InboxMessage, Fits, FitsMessage, IsLawful, ScanFits, last_cycle, IsMachine, Actor, LocalView, HasRoutes, scan_view}
use Rattle.ctl_face.proofs.Cases.{Good}
use Rattle.ctl_face.proofs.Moved.{OwnBelow}

pub lawful_after : (r : Result LocalView Fault) → Good ScanFits r → Good ActsFit r → (after : LocalView) → r ≡ Ok after → IsLawful after
lawful_after r scan acts after is = record { scan = scan.good after is; acts = acts.good after is }

pub scan_begins : (machine : MachineSetup) (actor : Actor) (now : ℕ) (ctl : Ctl) → IsMachine machine → HasRoutes machine actor.me actor.routes → now ≤ last_cycle → Fits machine actor.me ctl now → IsLawful (scan_view machine actor now ctl)
scan_begins machine actor now ctl lawful routes in_run fits = record {
  scan = record { machine = lawful; routes = routes; now = in_run; start = fits; fits = fits };
  acts = (
    record {
      numbers = refl;
      count = omega arith;
      copies_counted = omega arith;
      arrivals = All-nil (λ (n : Sent). now < n.arrival);
      for_others = refl;
      routed = All-nil (IsRouted machine actor.routes);
    },
    λ f. omega arith,
    All-nil (IsCreditFor actor now),
  );
}

-- the numbers of its own messages are ones that it has given
pub own_below : (v : LocalView) → ScanFits v → OwnBelow v.actor.me v.ctl.mail
own_below v scan =
    All-weaker (FitsMessage v.machine.buffers v.actor.me v.ctl.mail.sent) (λ (o : InboxMessage). o.message.number.sender ≡ v.actor.me → o.message.number.count < v.ctl.mail.sent) (λ o fits. fits.own_number) v.ctl.mail.inbox scan.fits.mail.messages

-- A scan that has changed nothing is the controller that it began with, and is a scan.
use Rattle.std.proofs.Common.{◌≡◌, ◌≤◌, ℕ, Option, None, Some, List, [], refl, sym, ap, subst, ◌∙◌}
use Rattle.ruby_value.specs.declared.asked.Answer.{Answer}
use Rattle.ctl_face.specs.declared.routes.Routes.{Routes}
use Rattle.std.specs.FinMap as map
use Rattle.std.specs.Ordering.{nat_cmp}
use Rattle.ctl_face.specs.Prelude.{Acts, Mail, Table, Fits, IsLawful, last_cycle, Actor, LocalView, HasRoutes, no_acts, scan_view}
use Rattle.ruby_value.specs.Prelude.{Requests}
use Rattle.ctl_face.proofs.LawfulAfter.{scan_begins}
use Rattle.ctl_mail.specs.declared.changes.MailChanges.{MailChanges}
use Rattle.ctl_mail.specs.declared.sent.SendCounts.{SendCounts}
use Rattle.ctl_mail.specs.Prelude.{mail_of}
use Rattle.ctl_mail.specs.Told as mail
use Rattle.ctl_tables.specs.declared.change.TableChanges.{TableChanges}
use Rattle.ctl_tables.specs.Stored as tables
use Rattle.sequencer.specs.Prelude.{FitCallbacks, after_callbacks}
use Rattle.ctl_store.specs.declared.changes.Changes.{Changes}
use Rattle.ctl_store.specs.declared.parts.Parts.{Parts}
use Rattle.ctl_store.proofs.Joined.{four}
use Rattle.ctl_store.specs.Prelude.{FitCalls, after_calls, IsKept, ctl_of, IsScan, Scanned, local_of, scanned}

no_calls : (calls : List Answer) (o : Option Requests) → ((r : Requests) → after_callbacks calls r ≡ r) → after_calls calls o ≡ o
no_calls calls None same = refl
no_calls calls (Some r) same = ap (λ (s : Requests). Some s) (same r)

fit_none : (calls : List Answer) (o : Option Requests) → calls ≡ [] → ((r : Requests) → FitCallbacks calls r) → FitCalls calls o
fit_none calls None none fit = none
fit_none calls (Some r) none fit = fit r

none_made : (now : ℕ) (m : Mail) → mail.after_acts now m [] ≡ m
unfolding mail.after_acts
none_made now m = refl

abbrev pub first_told : SendCounts → ℕ → mail.Told
first_told counts now = record { cycle = now; counts = counts; log = []; acts = no_acts; moves = [] }

unchanged_mail : (m : Mail) (told : mail.Told) (counts : SendCounts) (now : ℕ) → told ≡ first_told counts now → mail.changed_mail m told ≡ m
unchanged_mail m told counts now is = ap (mail.changed_mail m) is ∙ none_made now m

module _ (p : Parts) (routes : Routes) (seed now : ℕ) (changes : Changes) where
  abbrev changed : TableChanges
  changed = changes.tables

  abbrev m : MailChanges
  m = changes.mail

  abbrev calls : List Answer
  calls = changes.calls

  abbrev begun : Scanned
  begun = scanned p routes seed changes

  abbrev actor : Actor
  actor = record { me = p.me; seed = seed; routes = routes }

  abbrev view_with : ℕ → Acts → List Table → map.FinMap nat_cmp ℕ → Mail → Option Requests → LocalView
  view_with cycle acts ts states m requests = record {
    machine = p.machine;
    actor = actor;
    now = cycle;
    start = ctl_of p;
    ctl = record (ctl_of p) { tables = ts; states = states; mail = m; sequencer = requests };
    acts = acts;
  }

  pub begun_view : tables.tables_now p.tables changed ≡ tables.tables_of p.tables → tables.states_now p.tables changed ≡ tables.states_of p.tables
      → mail.told_by m ≡ first_told (mail.counts_in (mail_of p.mail)) now → ((r : Requests) → after_callbacks calls r ≡ r)
      → local_of begun ≡ scan_view p.machine actor now (ctl_of p)
  begun_view same_tables same_states told same_calls =
      let mails : mail.changed_mail (mail_of p.mail) (mail.told_by m) ≡ mail_of p.mail = unchanged_mail (mail_of p.mail) (mail.told_by m) (mail.counts_in (mail_of p.mail)) now told in
      let requests : after_calls calls (ctl_of p).sequencer ≡ (ctl_of p).sequencer = no_calls calls (ctl_of p).sequencer same_calls in
      ap (λ (t : mail.Told). view_with t.cycle t.acts (tables.tables_now p.tables changed) (tables.states_now p.tables changed) (mail.changed_mail (mail_of p.mail) (mail.told_by m)) (after_calls calls (ctl_of p).sequencer)) told
      ∙ four (view_with now no_acts) same_tables same_states mails requests

  pub begun_scan : IsKept p → HasRoutes p.machine p.me routes → now ≤ last_cycle → Fits p.machine p.me (ctl_of p) now
      → local_of begun ≡ scan_view p.machine actor now (ctl_of p)
      → tables.AreOf changed p.tables → mail.AreOf p.mail (mail.told_by m) → calls ≡ [] → ((r : Requests) → FitCallbacks calls r)
      → IsScan begun
  begun_scan kept has_routes in_run fits view of_tables of_mail none fit = record {
    kept = kept;
    lawful = subst IsLawful (sym view) (scan_begins p.machine actor now (ctl_of p) kept.machine has_routes in_run fits);
    tables = of_tables;
    mail = of_mail;
    calls = fit_none calls (ctl_of p).sequencer none fit;
  }

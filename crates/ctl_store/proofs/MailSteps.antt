-- A call that changes a scan's mail, as a call on the local that the scan is.
use Rattle.std.proofs.Common.{◌≡◌, ℕ, ℤ, List, Result, Ok, Err, refl, sym, ap, subst}
use Rattle.ruby_value.specs.declared.fault.Fault.{Fault}
use Rattle.ruby_value.specs.declared.message.MsgNo.{MsgNo}
use Rattle.ctl_face.specs.declared.trouble.Trouble.{Trouble}
use Rattle.ctl_face.specs.declared.trouble.Trouble.TheVariants as trouble
use Rattle.ctl_face.specs.Prelude.{Acts, again, AtFront, after_front, Does, enqueue, IsLawful, LocalView, pop, recycle, TakesMessage, stall, wake, wake_all}
use Rattle.ruby_value.specs.declared.value.Value.{Value}
use Rattle.ruby_value.specs.Prelude.{IsLine}
use Rattle.ctl_face.proofs.ActsKept.{enqueue_acts, pop_acts, recycle_acts, stall_acts, wake_acts}
use Rattle.ctl_face.proofs.LawfulAfter.{lawful_after, own_below}
use Rattle.ctl_face.proofs.MailKept.{again_keeps, pop_keeps, recycle_keeps, stall_keeps, wake_all_keeps, wake_keeps}
use Rattle.ctl_face.proofs.Sendings.{enqueue_keeps}
use Rattle.ctl_mail.specs.declared.changes.MailChanges.{MailChanges}
use Rattle.ctl_mail.specs.Prelude.{mail_of, MailDoes, MailView, view_again, view_popped, view_recycled, view_stalled, view_wake, view_wake_all, with_mail_view, actor_of, view_sent}
use Rattle.ctl_mail.proofs.Locals.{enqueue-is, in_local, pop-is, recycle-is, stall-is}
use Rattle.ctl_mail.specs.Told as mail
use Rattle.ctl_store.specs.Prelude.{IsScan, Scanned, local_of}
use Rattle.ctl_store.proofs.Stays.{Steps, stays_lawful}

-- the scan with other changes of its mail
abbrev pub with_mail_changes : Scanned → MailChanges → Scanned
with_mail_changes s m = record s { changes = record s.changes { mail = m } }

does_by_mail : (v : LocalView) (want : Result MailView Fault) (result : Result (Unit {0}) Trouble) (new : MailView)
    → MailDoes want result (record { mail = v.ctl.mail; acts = v.acts }) new → Does (in_local v want) result v (with_mail_view v new)
does_by_mail v want (Ok a) new does = record { comes = (ap (in_local v) does, refl); scan = record { machine = refl; actor = refl; now = refl; start = refl } }
does_by_mail v want (Err (trouble.Fault fault)) new does = record { comes = (ap (in_local v) does.0, ap (with_mail_view v) does.1); scan = record { machine = refl; actor = refl; now = refl; start = refl } }
does_by_mail v want (Err trouble.NoMemory) new does = record { comes = ap (with_mail_view v) does; scan = record { machine = refl; actor = refl; now = refl; start = refl } }

module _ (s : Scanned) (m : MailChanges) where
  abbrev pub before : MailView
  before = mail.changed_view (mail_of s.parts.mail) (mail.told_by s.changes.mail)

  abbrev pub after : MailView
  after = mail.changed_view (mail_of s.parts.mail) (mail.told_by m)

  view_after : (mail.told_by m).cycle ≡ (mail.told_by s.changes.mail).cycle
      → local_of (with_mail_changes s m) ≡ with_mail_view (local_of s) after
  view_after same = ap (λ (now : ℕ). record (with_mail_view (local_of s) after) { now = now }) same

  -- by a call whose definition is this act on the local
  mail_step : (act : LocalView → Result LocalView Fault) (want : Result MailView Fault) (result : Result (Unit {0}) Trouble)
      → act (local_of s) ≡ in_local (local_of s) want
      → IsScan s → MailDoes want result before after
      → (mail.told_by m).cycle ≡ (mail.told_by s.changes.mail).cycle
      → mail.AreOf s.parts.mail (mail.told_by m)
      → ((v : LocalView) → act (local_of s) ≡ Ok v → IsLawful v)
      → Steps act (λ v. tt) result s (with_mail_changes s m)
  mail_step act want result acts is does same of_mail kept =
      let done =
      subst (λ (w : Result LocalView Fault). Does w result (local_of s) (local_of (with_mail_changes s m))) (sym acts)
      (subst (Does (in_local (local_of s) want) result (local_of s)) (sym (view_after same)) (does_by_mail (local_of s) want result after does)) in
      let lawful = stays_lawful (act (local_of s)) tt result (local_of s) (local_of (with_mail_changes s m)) kept is.lawful done in
      record {
        does = done;
        lawful = lawful;
        scan = record { kept = is.kept; lawful = lawful; tables = is.tables; mail = of_mail; calls = is.calls };
      }

module _ (s v : Scanned) (m : MailChanges) (result : Result (Unit {0}) Trouble) (same_scan : s ≡ v) (is : IsScan s)
    (same : (mail.told_by m).cycle ≡ (mail.told_by s.changes.mail).cycle) (of_mail : mail.AreOf s.parts.mail (mail.told_by m)) where
  pub pop_step : (buffer : ℕ) → MailDoes (view_popped (actor_of s.parts.me s.seed s.routes) (before s m) buffer (mail.told_by s.changes.mail).cycle) result (before s m) (after s m)
      → Steps (λ u. pop u buffer) (λ u. tt) result v (with_mail_changes s m)
  pop_step buffer does =
      subst (λ (u : Scanned). Steps (λ u. pop u buffer) (λ u. tt) result u (with_mail_changes s m)) same_scan
      (mail_step s m (λ u. pop u buffer) (view_popped (actor_of s.parts.me s.seed s.routes) (before s m) buffer (mail.told_by s.changes.mail).cycle) result (pop-is (local_of s) buffer) is does same of_mail
      (λ u. lawful_after _ (pop_keeps (local_of s) buffer is.lawful.scan) (pop_acts (local_of s) is.lawful.acts is.lawful.scan.fits.mail.inbox_ascends buffer) u))

  pub recycle_step : (buffer : ℕ) (latency : ℤ) → MailDoes (view_recycled (before s m) buffer latency (mail.told_by s.changes.mail).cycle) result (before s m) (after s m)
      → Steps (λ u. recycle u buffer latency) (λ u. tt) result v (with_mail_changes s m)
  recycle_step buffer latency does =
      subst (λ (u : Scanned). Steps (λ u. recycle u buffer latency) (λ u. tt) result u (with_mail_changes s m)) same_scan
      (mail_step s m (λ u. recycle u buffer latency) (view_recycled (before s m) buffer latency (mail.told_by s.changes.mail).cycle) result (recycle-is (local_of s) buffer latency) is does same of_mail
      (λ u. lawful_after _ (recycle_keeps (local_of s) buffer latency is.lawful.scan) (recycle_acts (local_of s) is.lawful.acts buffer latency) u))

  pub again_step : MailDoes (Ok (view_again (before s m) (mail.told_by s.changes.mail).cycle)) result (before s m) (after s m)
      → Steps (λ u. Ok (again u)) (λ u. tt) result v (with_mail_changes s m)
  again_step does =
      subst (λ (u : Scanned). Steps (λ u. Ok (again u)) (λ u. tt) result u (with_mail_changes s m)) same_scan
      (mail_step s m (λ u. Ok (again u)) (Ok (view_again (before s m) (mail.told_by s.changes.mail).cycle)) result refl is does same of_mail
      (λ u is_ok. subst IsLawful (cc is_ok) (record { scan = again_keeps (local_of s) is.lawful.scan; acts = is.lawful.acts })))

  pub stall_step : (buffer line : ℕ) → IsLine line → MailDoes (view_stalled (before s m) buffer line (mail.told_by s.changes.mail).cycle) result (before s m) (after s m)
      → Steps (λ u. stall u buffer line) (λ u. tt) result v (with_mail_changes s m)
  stall_step buffer line is_line does =
      subst (λ (u : Scanned). Steps (λ u. stall u buffer line) (λ u. tt) result u (with_mail_changes s m)) same_scan
      (mail_step s m (λ u. stall u buffer line) (view_stalled (before s m) buffer line (mail.told_by s.changes.mail).cycle) result (stall-is (local_of s) buffer line) is does same of_mail
      (λ u. lawful_after _ (stall_keeps (local_of s) buffer line is_line is.lawful.scan) (stall_acts (local_of s) is.lawful.acts buffer line) u))

  pub wake_step : (line : ℕ) → MailDoes (Ok (view_wake (before s m) line)) result (before s m) (after s m)
      → Steps (λ u. Ok (wake u line)) (λ u. tt) result v (with_mail_changes s m)
  wake_step line does =
      subst (λ (u : Scanned). Steps (λ u. Ok (wake u line)) (λ u. tt) result u (with_mail_changes s m)) same_scan
      (mail_step s m (λ u. Ok (wake u line)) (Ok (view_wake (before s m) line)) result refl is does same of_mail
      (λ u is_ok. subst IsLawful (cc is_ok) (record { scan = wake_keeps (local_of s) line is.lawful.scan; acts = wake_acts (local_of s) is.lawful.acts _ })))

  pub wake_all_step : MailDoes (Ok (view_wake_all (before s m))) result (before s m) (after s m)
      → Steps (λ u. Ok (wake_all u)) (λ u. tt) result v (with_mail_changes s m)
  wake_all_step does =
      subst (λ (u : Scanned). Steps (λ u. Ok (wake_all u)) (λ u. tt) result u (with_mail_changes s m)) same_scan
      (mail_step s m (λ u. Ok (wake_all u)) (Ok (view_wake_all (before s m))) result refl is does same of_mail
      (λ u is_ok. subst IsLawful (cc is_ok) (record { scan = wake_all_keeps (local_of s) is.lawful.scan; acts = wake_acts (local_of s) is.lawful.acts _ })))

  pub send_step : (buffer : ℕ) (latency : ℤ) (fields : List Value) → TakesMessage (local_of v) buffer fields
      → MailDoes (view_sent (before s m) s.parts.machine (actor_of s.parts.me s.seed s.routes) buffer latency fields (mail.told_by s.changes.mail).cycle) result (before s m) (after s m)
      → Steps (λ u. enqueue u buffer latency fields) (λ u. tt) result v (with_mail_changes s m)
  send_step buffer latency fields takes does =
      let takes_it : TakesMessage (local_of s) buffer fields = subst (λ (u : Scanned). TakesMessage (local_of u) buffer fields) (sym same_scan) takes in
      subst (λ (u : Scanned). Steps (λ u. enqueue u buffer latency fields) (λ u. tt) result u (with_mail_changes s m)) same_scan
      (mail_step s m (λ u. enqueue u buffer latency fields) (view_sent (before s m) s.parts.machine (actor_of s.parts.me s.seed s.routes) buffer latency fields (mail.told_by s.changes.mail).cycle) result
      (enqueue-is (local_of s) buffer latency fields) is does same of_mail
      (λ u. lawful_after _ (enqueue_keeps (local_of s) buffer latency fields takes_it is.lawful.scan)
      (enqueue_acts (local_of s) buffer latency fields takes_it (own_below (local_of s) is.lawful.scan) is.lawful.acts) u))

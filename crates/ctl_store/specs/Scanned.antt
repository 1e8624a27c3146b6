-- A scan of the controller that a store keeps, as a local: the controller with the changes made. Of the changes holds that they
-- are changes of what the store keeps.
use Rattle.std.specs.Prelude.{ℕ}
use Rattle.ctl_face.specs.declared.routes.Routes.{Routes}
use Rattle.ctl_face.specs.Prelude.{IsLawful, LocalView}
use Rattle.ctl_mail.specs.Told as mail
use Rattle.ctl_tables.specs.Stored as tables
use Rattle.ctl_store.specs.declared.changes.Changes.{Changes}
use Rattle.ctl_store.specs.declared.parts.Parts.{Parts}
use Rattle.ctl_store.specs.Changed.{FitCalls, acts_of, changed_ctl}
use Rattle.ctl_store.specs.Kept.{IsKept, ctl_of}

-- what a scan has: what the store keeps, the routes, the seed, and what has changed
pub record Scanned : Type 0 where
  pub parts : Parts
  pub routes : Routes
  pub seed : ℕ
  pub changes : Changes

abbrev pub scanned : Parts → Routes → ℕ → Changes → Scanned
scanned parts routes seed changes = record { parts = parts; routes = routes; seed = seed; changes = changes }

abbrev pub local_of : Scanned → LocalView
local_of s = record {
  machine = s.parts.machine;
  actor = record { me = s.parts.me; seed = s.seed; routes = s.routes };
  now = (mail.told_by s.changes.mail).cycle;
  start = ctl_of s.parts;
  ctl = changed_ctl s.changes (ctl_of s.parts);
  acts = acts_of s.changes;
}

pub record IsScan (s : Scanned) : Type 0 where
  pub kept : IsKept s.parts
  pub lawful : IsLawful (local_of s)
  pub tables : tables.AreOf s.changes.tables s.parts.tables
  pub mail : mail.AreOf s.parts.mail (mail.told_by s.changes.mail)
  pub calls : FitCalls s.changes.calls (ctl_of s.parts).sequencer

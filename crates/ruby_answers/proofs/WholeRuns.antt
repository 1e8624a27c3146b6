-- What follows for a whole run, as the clauses of the top call tell it, by the driver that its options ask for.
use Rattle.std.proofs.Common.{◌≡◌, ◌≤◌, ◌+◌, ℕ, Bool, true, false, List, refl, sym, subst, arith}
use Rattle.run_journal.specs.declared.summary.Account.{Account}
use Rattle.protocol_runs.specs.Prelude.{InvalidExactly, WakesOnce, IsSetting, IsMeaning}
use Rattle.ctl_face.specs.Prelude.{last_cycle}
use Rattle.sequencer.specs.Prelude.{Drive, plain_drive, plain_needs, plain_lawful, Seat}
use Rattle.random_tester.specs.Prelude.{tester_lawful, State, tester_drive, tester_needs}
use Rattle.ruby_options.specs.declared.options.Options.{Options}
use Rattle.ruby_topology.specs.declared.topology.Topology.{Topology}
use Rattle.protocol_meaning.specs.Prelude.{FitsPlan, meaning_of, IsWholeRunBy, rules_in, setting_in}
use Rattle.protocol_meaning.proofs.Settings.{is_setting_of_one}
use Rattle.protocol_runs.proofs.Driver.{IsDriver}
use Rattle.protocol_runs.proofs.Lawful.{accounted, adds_up, invalid_exactly, wakes_once}
use Rattle.protocol_meaning.specs.declared.record.RunRecord.{RunRecord}
use Rattle.one_answer.specs.Prelude.{IsOneAnswer}
use Rattle.ruby_answers.specs.Prelude.{IsAccountBy, IsInvalidExactly, IsMessageAccount, IsOnlyAnswer, IsTallied, IsWokenOnce, IsSoBy, IsWholeRun, OfDrivers, is_tested, tester_of}

-- the laws of runs hold of a record's run where its topology fits its protocol and its bound on cycles is that of all runs
pub record IsLawfulRun (r : RunRecord) : Type 0 where
  pub means : IsMeaning (meaning_of r.plan)
  pub fits : FitsPlan r.plan r.topology
  pub cycles : r.options.cycles ≤ last_cycle

-- drivers that need one seat
abbrev pub one_seat : {D : Type 0} → D → ℕ
one_seat d = 1

pub tester_is : IsDriver tester_drive tester_needs one_seat
tester_is = record { lawful = tester_lawful; lasting = λ d seats now. refl }

pub plain_is : IsDriver plain_drive plain_needs one_seat
plain_is = record { lawful = plain_lawful; lasting = λ d seats now. refl }

-- the law of records, by a driver
abbrev pub OneBy : {D : Type 0} → (D → List Seat → ℕ → Drive D) → Type 0
OneBy {D} drive = (driver : D) (r : RunRecord) → IsSetting one_seat (setting_in drive driver r) → IsWholeRunBy drive driver r → IsOneAnswer drive driver r

pub record AreOne : Type 0 where
  pub tested : OneBy tester_drive
  pub untested : OneBy plain_drive

pub so_by : (P Q : OfDrivers) (b : Bool) (o : Options) (t : Topology)
    → (P State tester_drive (tester_of o t) → Q State tester_drive (tester_of o t)) → (P ℕ plain_drive o.count → Q ℕ plain_drive o.count)
    → IsSoBy b o t P → IsSoBy b o t Q
so_by P Q true o t tested plain is = tested is
so_by P Q false o t tested plain is = plain is

module _ {D : Type 0} (drive : D → List Seat → ℕ → Drive D) (needs : D → ℕ → ℕ) (law : IsDriver drive needs one_seat) (driver : D) (r : RunRecord) (lawful : IsLawfulRun r) where
  pub setting_is : IsSetting one_seat (setting_in drive driver r)
  setting_is = is_setting_of_one one_seat r.plan r.topology r.options.seed r.options.cycles r.options.limit driver lawful.fits lawful.cycles (omega arith)

  pub woken_by : IsWholeRunBy drive driver r → WakesOnce (rules_in drive driver r) r.history
  woken_by (w, is_record, ended) =
      wakes_once drive needs one_seat law (meaning_of r.plan) (setting_in drive driver r) lawful.means setting_is r.history w r.journal is_record.run

  pub invalid_by : IsWholeRunBy drive driver r → InvalidExactly (rules_in drive driver r) r.history r.journal
  invalid_by (w, is_record, ended) =
      invalid_exactly drive needs one_seat law (meaning_of r.plan) (setting_in drive driver r) lawful.means setting_is r.history w r.journal is_record.run

  pub account_by : IsWholeRunBy drive driver r → IsAccountBy drive driver r
  account_by (w, is_record, ended) =
      let adds : Account → Type 0 = λ a. a.sent ≡ a.consumed + a.queued + a.stalled + a.recycled in
      record {
        world = w;
        is_record = is_record;
        accounted = accounted drive needs one_seat law (meaning_of r.plan) (setting_in drive driver r) lawful.means setting_is r.history w r.journal is_record.run;
        adds_up =
            subst adds (sym is_record.account)
            (adds_up drive needs one_seat law (meaning_of r.plan) (setting_in drive driver r) lawful.means setting_is r.history w r.journal is_record.run);
      }

  pub tallied_by : IsWholeRunBy drive driver r → IsTallied r
  tallied_by (w, is_record, ended) = is_record.tallies

module _ (r : RunRecord) (lawful : IsLawfulRun r) (whole : IsWholeRun r) where
  -- what follows by each of the two drivers holds by the record's
  by_each : (Q : OfDrivers)
      → (IsWholeRunBy tester_drive (tester_of r.options r.topology) r → Q State tester_drive (tester_of r.options r.topology))
      → (IsWholeRunBy plain_drive r.options.count r → Q ℕ plain_drive r.options.count)
      → IsSoBy (is_tested r.options.command) r.options r.topology Q
  by_each Q tested plain =
      so_by (λ D drive driver. IsWholeRunBy drive driver r) Q (is_tested r.options.command) r.options r.topology tested plain whole

  pub woken_whole : IsWokenOnce r
  woken_whole =
      by_each (λ D drive driver. WakesOnce (rules_in drive driver r) r.history)
      (woken_by tester_drive tester_needs tester_is (tester_of r.options r.topology) r lawful) (woken_by plain_drive plain_needs plain_is r.options.count r lawful)

  pub invalid_whole : IsInvalidExactly r
  invalid_whole =
      by_each (λ D drive driver. InvalidExactly (rules_in drive driver r) r.history r.journal)
      (invalid_by tester_drive tester_needs tester_is (tester_of r.options r.topology) r lawful) (invalid_by plain_drive plain_needs plain_is r.options.count r lawful)

  pub accounted_whole : IsMessageAccount r
  accounted_whole =
      by_each (λ D drive driver. IsAccountBy drive driver r)
      (account_by tester_drive tester_needs tester_is (tester_of r.options r.topology) r lawful) (account_by plain_drive plain_needs plain_is r.options.count r lawful)

  pub one_whole : AreOne → IsOnlyAnswer r
  one_whole ones =
      by_each (λ D drive driver. IsOneAnswer drive driver r)
      (ones.tested (tester_of r.options r.topology) r (setting_is tester_drive tester_needs tester_is (tester_of r.options r.topology) r lawful))
      (ones.untested r.options.count r (setting_is plain_drive plain_needs plain_is r.options.count r lawful))

  tallied_as : (b : Bool) (o : Options) (t : Topology) → IsSoBy b o t (λ D drive driver. IsTallied r) → IsTallied r
  tallied_as true o t is = is
  tallied_as false o t is = is

  pub tallied_whole : IsTallied r
  tallied_whole =
      tallied_as (is_tested r.options.command) r.options r.topology
      (by_each (λ D drive driver. IsTallied r)
      (tallied_by tester_drive tester_needs tester_is (tester_of r.options r.topology) r lawful) (tallied_by plain_drive plain_needs plain_is r.options.count r lawful))

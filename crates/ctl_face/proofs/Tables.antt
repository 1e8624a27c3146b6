-- What holds of a lawful local holds after a table is changed.
use Rattle.std.proofs.Common.{◌≡◌, ℕ, refl, sym, subst, Option, None, Some, Result, Ok, Err, slice_get}
use Rattle.ruby_value.specs.declared.fault.Fault.{Fault}
use Rattle.ruby_value.specs.declared.setup.TableSetup.{TableSetup}
use Rattle.ctl_face.specs.Prelude.{FitsTable, FitsTableAt, ScanFits, LocalView, Table, table_at, with_table, after_change, change_if_there, changed_table}
use Rattle.ctl_face.proofs.Cases.{Good, good_ok, good_err}
use Rattle.ctl_face.proofs.Lines.{holds_after_set}

module _ (v : LocalView) (lawful : ScanFits v) (table : ℕ) where
  with_table_lawful : (s : TableSetup) (t : Table) → slice_get v.machine.tables table ≡ Some s → FitsTable s t → ScanFits (with_table v table t)
  with_table_lawful s t is here =
      let At : ℕ → Option Table → Type 0 = λ j o. FitsTableAt (slice_get v.machine.tables j) o in
      let Q : Option TableSetup → Type 0 = λ o. FitsTableAt o (Some t) in
      record {
        machine = lawful.machine;
        routes = lawful.routes;
        now = lawful.now;
        start = lawful.start;
        fits = record {
          tables = record {
            each = holds_after_set At v.ctl.tables table t lawful.fits.tables.each (subst Q (sym is) here);
            lines = lawful.fits.tables.lines;
            no_states = lawful.fits.tables.no_states;
          };
          mail = lawful.fits.mail;
          sequencer = lawful.fits.sequencer;
        };
      }

  after_change_lawful : (s : TableSetup) (r : Result Table Fault) → slice_get v.machine.tables table ≡ Some s → Good (FitsTable s) r → Good ScanFits (after_change v table r)
  after_change_lawful s (Ok t) is here = good_ok ScanFits (with_table v table t) (with_table_lawful s t is (here.good t refl))
  after_change_lawful s (Err e) is here = good_err ScanFits e

  -- what a change of a table has to keep
  abbrev pub KeepsTable : (Table → Result Table Fault) → Type 0
  KeepsTable change = (s : TableSetup) (t : Table) → slice_get v.machine.tables table ≡ Some s → FitsTable s t → Good (FitsTable s) (change t)

  change_lawful : (change : Table → Result Table Fault) → KeepsTable change → (s : Option TableSetup) (o : Option Table) → slice_get v.machine.tables table ≡ s → FitsTableAt s o → Good ScanFits (change_if_there v table change o)
  change_lawful change keeps s None is here = good_ok ScanFits v lawful
  change_lawful change keeps None (Some t) is here = absurd here
  change_lawful change keeps (Some s) (Some t) is here = after_change_lawful s (change t) is (keeps s t is here)

  pub changed_keeps : (change : Table → Result Table Fault) → KeepsTable change → Good ScanFits (changed_table v table change)
  changed_keeps change keeps = change_lawful change keeps (slice_get v.machine.tables table) (table_at v table) refl (lawful.fits.tables.each table)

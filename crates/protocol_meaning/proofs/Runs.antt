-- In each world of a run of a protocol each controller holds what is within the protocol's extent, and each entry tells such states and
-- events.
use Rattle.std.proofs.Common.{◌≡◌, ◌<◌, ◌≤◌, ◌+◌, ◌*◌, ◌∙◌, ℕ, zero, suc, List, [], ◌∷◌, All, IfSome, IsSomeAnd, Option, None, Some, length, lit<, map, pos, refl, sym, ap, subst, arith, slice_get, unwrap_or}
use Rattle.std.proofs.lemmas.List.Elements.{All-append, All-cons, All-map, All-nil, All-replicate, All-weaker}
use Rattle.std.specs.FinMap.{empty, get, get-empty}
use Rattle.std.specs.Ordering.{nat_cmp}
use Rattle.std.specs.Option.{option_and_then, option_map, option_to_list}
use Rattle.ruby_value.specs.declared.asked.Ask.{Ask}
use Rattle.ruby_value.specs.declared.asked.Ask.TheVariants.{Load, Store, Fetch}
use Rattle.ruby_value.specs.declared.asked.Asked.{Asked}
use Rattle.ruby_value.specs.declared.message.Delivery.{Delivery}
use Rattle.ruby_value.specs.declared.message.MsgNo.{MsgNo}
use Rattle.ruby_value.specs.declared.setup.MachineSetup.{MachineSetup}
use Rattle.ruby_value.specs.declared.setup.TableSetup.{TableSetup}
use Rattle.ruby_value.specs.declared.setup.TableSize.{TableSize}
use Rattle.ruby_value.specs.declared.setup.TableSize.TheVariants as size
use Rattle.ruby_value.specs.declared.value.Value.{Value}
use Rattle.ruby_value.specs.declared.value.Value.TheVariants as value
use Rattle.ruby_value.specs.Prelude.{Line}
use Rattle.ruby_symbols.specs.declared.machine.MachineSymbols.{MachineSymbols}
use Rattle.run_journal.specs.declared.entry.End.{End}
use Rattle.run_journal.specs.declared.entry.End.TheVariants as end
use Rattle.run_journal.specs.declared.entry.Entry.{Entry}
use Rattle.run_journal.specs.declared.entry.Entry.TheVariants as entry
use Rattle.run_journal.specs.declared.entry.FireNote.{FireNote}
use Rattle.run_journal.specs.declared.entry.StopAt.{StopAt}
use Rattle.run_journal.specs.declared.event.Event.{Event}
use Rattle.run_journal.specs.declared.verdict.Verdict.TheVariants as verdict
use Rattle.protocol_runs.specs.Prelude.{Change, Closes, Ends, EndedBy, Filled, FiredBy, Halted, Idled, Move, Moves, Released, Taken, Turns, Acts, Fired, Full, Idle, Outcome, Rules, Scan, Stop, IsRun, Ran, Moved, Stepped, after_driver, driver_turn_in, fired_entry, with_driver_turn, Place, World, IsSetting, FitsRun, HasSeats, SuitsReceiver, actor_of, machine_of, IsMeaning, member_of, request_at, request_fields, request_message, request_messages, rules, SeatSetup, Setting, acts_at, seats_in}
use Rattle.protocol_runs.specs.Premises as runs
use Rattle.protocol_runs.proofs.Fitting as fitting_runs
use Rattle.protocol_runs.proofs.Runs.{hold-along}
use Rattle.slicc_ast.specs.declared.tree.item.Tree.{Tree}
use Rattle.slicc_plan.specs.Prelude.{symbols_of}
use Rattle.ctl_face.specs.declared.parcel.Parcel.{Parcel}
use Rattle.ctl_face.specs.declared.parcel.Parcel.TheVariants as parcel
use Rattle.ctl_face.specs.Prelude.{DriverAct, Issues, Takes, after_driver_acts, at_cycle, with_arrival, with_parcel_arrival, with_one_fired, with_request, with_stop, with_wake_up, without_first_answer, Ctl, LocalView, incoming_message, initial_fields, opening_ctl, opening_table, scan_view, ParameterTable, Table}
use Rattle.ctl_face.proofs.Inboxes.{all-with}
use Rattle.ctl_face.proofs.Lines.{All-found}
use Rattle.body_meaning.specs.Prelude.{Reading, Scanned, scan}
use Rattle.body_meaning.specs.declared.frame.RoundEnd.{RoundEnd}
use Rattle.body_meaning.specs.declared.frame.RoundEnd.TheVariants as round
use Rattle.sequencer.specs.declared.issued.Issued.{Issued}
use Rattle.sequencer.specs.Prelude.{Drive, Seat}
use Rattle.protocol_runs.proofs.Controllers.{IsOne, Opened, count-is, opened}
use Rattle.protocol_runs.proofs.Driver.{IsDriver}
use Rattle.protocol_runs.proofs.Premises as premises
use Rattle.protocol_runs.proofs.Ranges.{below-free, machine-is, machine-says}
use Rattle.protocol_runs.proofs.Scans.{fitting, scan-is}
use Rattle.protocol_meaning.specs.Prelude.{meaning_of, outcome_by, outcome_of, scan_by, scan_of, reading_with, AreWithin, Extent, IsMember, IsWithin, members_of, HoldsWithin, MessageWithin, TableWithin, AtMachine, ControllerWithin, EntryWithin, IsEnd, IsNote, IsStop, declared_extent}
use Rattle.protocol_meaning.proofs.Scans.{is_meaning}
use Rattle.protocol_meaning.proofs.Bounds.{Bounds, CopyWithin, ParcelWithin, ViewWithin}
use Rattle.protocol_meaning.proofs.Reading.{bounds_of}
use Rattle.protocol_meaning.proofs.Scan.{EndWithin, NoteWithin, ScanWithin, StopWithin}
use Rattle.protocol_meaning.proofs.OfMachine.{MachineWithin}
use Rattle.protocol_meaning.proofs.MemberScans.{scan_within}

-- Controllers.

pub record CtlWithin (b : Bounds) (x : Ctl) : Type 0 where
  pub holds : HoldsWithin b.extent b.states x
  pub kept : slice_get x.tables b.table ≡ Some (ParameterTable b.values)

none_kept : {X : Type 0} (P : X → Type 0) (line : ℕ) → IfSome (get (empty {X = X} {R = nat_cmp}) line) P
none_kept P line = rw (get-empty nat_cmp line) tt

opened_table : (e : Extent) (z : TableSize) (initial : List Value) → AreWithin e initial → TableWithin e (opening_table z initial)
opened_table e (size.Cache sets ways) initial here = All-replicate (All (λ (l : Line). AreWithin e l.1)) sets [] (All-nil (λ (l : Line). AreWithin e l.1))
opened_table e size.Directory initial here = (here, none_kept (AreWithin e))
opened_table e (size.Tbe entries) initial here = none_kept (AreWithin e)
opened_table e size.Parameters initial here = here

mapped_get : {X Y : Type 0} (f : X → Y) (xs : List X) (k : ℕ) → slice_get (map f xs) k ≡ option_map f (slice_get xs k)
mapped_get f [] k = refl
mapped_get f (x ∷ xs) zero = refl
mapped_get f (x ∷ xs) (suc k) = mapped_get f xs k

module _ (b : Bounds) where
  -- the same tables and states, and messages within the extent
  other_mail : (x y : Ctl) → y.tables ≡ x.tables → y.states ≡ x.states → All (MessageWithin b.extent) y.mail.inbox → CtlWithin b x → CtlWithin b y
  other_mail x y tables states inbox is = record {
    holds = record {
      tables = subst (λ (ts : List Table). All (TableWithin b.extent) ts) (sym tables) is.holds.tables;
      states_set = λ line. subst (λ m. IfSome (get m line) (IsMember b.extent b.states)) (sym states) (is.holds.states_set line);
      inbox = inbox;
    };
    kept = ap (λ (ts : List Table). slice_get ts b.table) tables ∙ is.kept;
  }

  driven : (acts : List DriverAct) (x : Ctl) → CtlWithin b x → CtlWithin b (after_driver_acts x acts)
  driven [] x is = is
  driven (Takes ∷ acts) x is = driven acts (without_first_answer x) (other_mail x (without_first_answer x) refl refl is.holds.inbox is)
  driven (Issues asked ∷ acts) x is = driven acts (with_request x asked) (other_mail x (with_request x asked) refl refl is.holds.inbox is)

  arrived : (x : Ctl) (p : Parcel) → ParcelWithin b.extent p → CtlWithin b x → CtlWithin b (with_parcel_arrival x p)
  arrived x (parcel.Message m) here is = other_mail x (with_arrival x m) refl refl (all-with (MessageWithin b.extent) x.mail.inbox (incoming_message m) is.holds.inbox here) is
  arrived x (parcel.Credit c) here is = other_mail x (with_parcel_arrival x (parcel.Credit c)) refl refl is.holds.inbox is

-- What a scan answers, as runs have it.

module _ (b : Bounds) (m : MachineSymbols) where
  abbrev OutcomeWithin : Outcome Ctl Parcel → Type 0
  OutcomeWithin (Fired note acts copies after) = NoteWithin b.extent m note × All (CopyWithin b) copies × CtlWithin b after
  OutcomeWithin (Idle after) = CtlWithin b after
  OutcomeWithin Full = Unit {0}
  OutcomeWithin (Stop at) = StopWithin b.extent m at

  ctl_in : (w : LocalView) → ViewWithin b w → CtlWithin b w.ctl
  ctl_in w is = record { holds = is.holds; kept = is.kept }

  by_end : (end : RoundEnd) (w : LocalView) → EndWithin b.extent m end → ViewWithin b w → OutcomeWithin (outcome_by end w)
  by_end (round.Fired note) w here is = (here, is.posted, ctl_in w is)
  by_end round.Idle w here is = ctl_in w is
  by_end round.Full w here is = tt
  by_end (round.Stop at) w here is = here

  by_scan : (s : Scanned) → ScanWithin b m s → OutcomeWithin (outcome_of s)
  by_scan s is = by_end s.end s.view is.end is.view

module _ {D : Type 0} (trees : List Tree) (drive : D → List Seat → ℕ → Drive D) (needs : D → ℕ → ℕ) (least : D → ℕ) (s : Setting D)
    (driver : IsDriver drive needs least) (is : IsSetting least s)
    (each : (k : ℕ) (setup : MachineSetup) → slice_get s.machines k ≡ Some setup → MachineWithin trees is.routes.total k setup) where
  abbrev R : Rules Ctl Parcel D
  R = rules (meaning_of trees) drive s

  abbrev E : Extent
  E = declared_extent trees is.routes.total

  abbrev means : IsMeaning (meaning_of trees)
  means = is_meaning trees

  abbrev Is-there : ℕ → MachineSetup → Type 0
  Is-there k setup = slice_get s.machines k ≡ Some setup

  module _ (k : ℕ) (setup : MachineSetup) (there : Is-there k setup) where
    abbrev of : MachineWithin trees is.routes.total k setup
    of = each k setup there

    abbrev read : Reading
    read = reading_with (symbols_of trees) k of.m of.tree

    abbrev bounds : Bounds
    bounds = bounds_of read is.routes.total of.values

    initial_within : (table : ℕ) → AreWithin E (initial_fields setup table)
    initial_within table = by (slice_get setup.tables table) (All-found (λ (t : TableSetup). AreWithin E t.initial) setup.tables table of.tables)
      where
        by : (o : Option TableSetup) → IfSome o (λ (t : TableSetup). AreWithin E t.initial) → AreWithin E (unwrap_or (option_map (λ (t : TableSetup). t.initial) o) [])
        by None here = All-nil (IsWithin E)
        by (Some t) here = here

    opened_within : CtlWithin bounds (opening_ctl setup)
    opened_within = record {
      holds = record {
        tables = All-map (TableWithin E) (λ (t : TableSetup). opening_table t.size t.initial) setup.tables
            (All-weaker (λ (t : TableSetup). AreWithin E t.initial) (λ (t : TableSetup). TableWithin E (opening_table t.size t.initial)) (λ t here. opened_table E t.size t.initial here) setup.tables of.tables);
        states_set = none_kept (IsMember E of.m.states);
        inbox = All-nil (MessageWithin E);
      };
      kept = mapped_get (λ (t : TableSetup). opening_table t.size t.initial) setup.tables (length of.m.tables) ∙ of.kept;
    }

    -- a scan of a controller of the machine
    view_within : (c now : ℕ) (x : Ctl) → c < is.routes.total → CtlWithin bounds x → ViewWithin bounds (scan_view setup (actor_of s c) now x)
    view_within c now x below within = record {
      holds = within.holds;
      kept = within.kept;
      posted = All-nil (CopyWithin bounds);
      me = below;
      initial = initial_within;
      default_state = of.default_state;
    }

    scanned : (v : LocalView) → ViewWithin bounds v → OutcomeWithin bounds of.m (outcome_of (scan_of trees k s.limit v.ctl.fired v))
    unfolding scan_of
    scanned v within =
        subst (λ (o : Option Reading). OutcomeWithin bounds of.m (outcome_of (scan_by o s.limit v.ctl.fired v))) (sym of.reads)
        (by_scan bounds of.m (scan read s.limit v.ctl.fired v) (scan_within read is.routes.total of.values of.within v within s.limit v.ctl.fired))

    outcome_within : (c now : ℕ) (x : Ctl) → machine_of s.ranges c ≡ Some k → CtlWithin bounds x → OutcomeWithin bounds of.m (R.scan c x now).outcome
    outcome_within c now x found within =
        let one : IsOne s c setup = record { machine = k; found = found; there = there } in
        let below = below-free 0 is.routes.total s.ranges k c is.routes.numbers.numbered (machine-says s.ranges c k found) in
        subst (λ (q : Scan Ctl Parcel). OutcomeWithin bounds of.m q.outcome) (sym (scan-is (meaning_of trees) drive least s is c x now setup one))
        (scanned (scan_view setup (actor_of s c) now x) (view_within c now x below within))

  -- What always holds, of a controller and of a parcel.

  abbrev Within : ℕ → Ctl → Type 0
  Within c x = (k : ℕ) (setup : MachineSetup) (there : Is-there k setup) → machine_of s.ranges c ≡ Some k → CtlWithin (bounds k setup there) x

  abbrev Fits : ℕ → Ctl → ℕ → Type 0
  Fits c x now = FitsRun s c x now × Within c x

  abbrev Suits : ℕ → Parcel → ℕ → Type 0
  Suits c p now = SuitsReceiver s c p now × ParcelWithin E p

  abbrev Leads : D → ℕ → ℕ → Type 0
  Leads = HasSeats s least

  abbrev first : runs.IsSound R (FitsRun s) (SuitsReceiver s) Leads
  first = premises.sound (meaning_of trees) drive needs least s means driver is

  abbrev Keeps : ℕ → ℕ → Ctl → Ctl → Type 0
  Keeps c now before after = runs.Keeps R Fits Suits Leads c now before after

  both : (c now : ℕ) (before after : Ctl) → runs.Keeps R (FitsRun s) (SuitsReceiver s) Leads c now before after → Within c after → Keeps c now before after
  both c now before after keeps within = record { fits = (keeps.fits, within); awake = keeps.awake; later = keeps.later }

  -- what is known of the scan of a controller that fits
  record Known-scan (c now : ℕ) (x : Ctl) : Type 0 where
    k : ℕ
    setup : MachineSetup
    there : Is-there k setup
    found : machine_of s.ranges c ≡ Some k
    outcome : OutcomeWithin (bounds k setup there) (of k setup there).m (R.scan c x now).outcome

  known_scan : (c now : ℕ) (x : Ctl) → Fits c x now → Known-scan c now x
  known_scan c now x fits =
      let fit = fitting (meaning_of trees) drive least s is c x now fits.0 in
      let one = fit.one in
      record {
        k = one.machine;
        setup = fit.setup;
        there = one.there;
        found = one.found;
        outcome = outcome_within one.machine fit.setup one.there c now x one.found (fits.1 one.machine fit.setup one.there one.found);
      }

  -- the scan in any machine that the controller is of
  outcome_in : (c now : ℕ) (x : Ctl) → Within c x → (k : ℕ) (setup : MachineSetup) (there : Is-there k setup) → machine_of s.ranges c ≡ Some k
      → (o : Outcome Ctl Parcel) → (R.scan c x now).outcome ≡ o → OutcomeWithin (bounds k setup there) (of k setup there).m o
  outcome_in c now x within k setup there found o same =
      subst (OutcomeWithin (bounds k setup there) (of k setup there).m) same (outcome_within k setup there c now x found (within k setup there found))

  opens_within : (c : ℕ) (x : Ctl) → slice_get R.controllers c ≡ Some x → Within c x
  opens_within c x at k setup there found =
      let from : Opened s.machines s.ranges (0 + c) x = opened s.machines s.ranges 0 is.routes.total c x is.routes.numbers.numbered at in
      let none : 0 + c ≡ c = omega arith in
      let here = subst (λ (n : ℕ). Opened s.machines s.ranges n x) none from in
      let named : Some here.machine ≡ Some k = sym (machine-is 0 is.routes.total s.ranges c here.machine is.routes.numbers.numbered here.of_machine) ∙ found in
      let same : here.machine ≡ k = cc named in
      let setups : Some here.setup ≡ Some setup = sym here.there ∙ ap (λ (n : ℕ). slice_get s.machines n) same ∙ there in
      let one : here.setup ≡ setup = cc setups in
      subst (CtlWithin (bounds k setup there)) (sym (here.is ∙ ap opening_ctl one)) (opened_within k setup there)

  fires_both : (c now : ℕ) (x : Ctl) → Fits c x now → (note : FireNote) (acts : Acts) (copies : List (Delivery Parcel)) (after : Ctl) → (R.scan c x now).outcome ≡ Fired note acts copies after
      → Keeps c now x (with_one_fired after) × runs.AllSuit R Fits Suits Leads now copies
  fires_both c now x fits note acts copies after fired =
      let keeps = first.fires c now x fits.0 note acts copies after fired in
      let known = known_scan c now x fits in
      let told = outcome_in c now x fits.1 known.k known.setup known.there known.found (Fired note acts copies after) fired in (
        both c now x (with_one_fired after) keeps.0
            (λ k setup there found.
            let here = outcome_in c now x fits.1 k setup there found (Fired note acts copies after) fired in
            other_mail (bounds k setup there) after (with_one_fired after) refl refl here.2.holds.inbox here.2),
        λ j d lt. (keeps.1 j d lt, told.1 j d lt),
      )

  -- requests of a driver: the first three members of `RubyRequestType`
  type_within : (kind : Ask) → IsMember E 2 (member_of kind)
  unfolding symbols_of
  type_within Load = lit< tt
  type_within Store = lit< tt
  type_within Fetch = lit< tt

  asked_within : (asked : Asked) → AreWithin E (request_fields asked)
  asked_within asked =
      let size : List Value = value.Int (pos asked.size) ∷ [] in
      let kind : List Value = value.Enum 2 (member_of asked.kind) ∷ size in
      let address : List Value = value.Addr (asked.line * 64 + asked.offset) ∷ kind in
      All-cons (IsWithin E) (value.Addr (asked.line * 64)) address tt
      (All-cons (IsWithin E) (value.Addr (asked.line * 64 + asked.offset)) kind tt
      (All-cons (IsWithin E) (value.Enum 2 (member_of asked.kind)) size (type_within asked.kind)
      (All-cons (IsWithin E) (value.Int (pos asked.size)) [] tt (All-nil (IsWithin E)))))

  abbrev Delivery-within : Delivery Parcel → Type 0
  Delivery-within d = ParcelWithin E d.message

  request_within : (now : ℕ) (o : Option SeatSetup) (number : MsgNo) (asked : Asked) → All Delivery-within (request_at o number now asked)
  request_within now None number asked = All-nil Delivery-within
  request_within now (Some x) number asked =
      All-cons Delivery-within (record { receiver = x.controller; message = parcel.Message (request_message number x.queue now asked) }) [] (asked_within asked) (All-nil Delivery-within)

  requests_within : (own : ℕ) (seats : List SeatSetup) (count now : ℕ) (xs : List Issued) → All Delivery-within (request_messages seats own count now xs)
  requests_within own seats count now [] = All-nil Delivery-within
  requests_within own seats count now (i ∷ rest) =
      All-append Delivery-within (request_at (slice_get seats i.seat) (record { sender = own; count = count }) now i.asked) (request_messages seats own (count + 1) now rest)
      (request_within now (slice_get seats i.seat) (record { sender = own; count = count }) i.asked) (requests_within own seats (count + 1) now rest)

  asked_first : (d : D) (xs : List Ctl) (now issued : ℕ) → runs.IsAsked R Fits Suits Leads d xs now issued → runs.IsAsked R (FitsRun s) (SuitsReceiver s) Leads d xs now issued
  asked_first d xs now issued asked = record { leads = asked.leads; fits = λ c x at. (asked.fits c x at).0; count = asked.count }

  marked_within : (c : ℕ) (x : Ctl) (mark : ℕ) → Within c x → Within c (with_wake_up x mark)
  marked_within c x mark within k setup there found =
      let here = within k setup there found in other_mail (bounds k setup there) x (with_wake_up x mark) refl refl here.holds.inbox here

  pub sound : runs.IsSound R Fits Suits Leads
  sound = record {
    opens = λ c x at. (first.opens c x at, opens_within c x at);
    starts = first.starts;
    fires = fires_both;
    idles = λ c now x fits after idle.
        both c now x after (first.idles c now x fits.0 after idle)
        (λ k setup there found. outcome_in c now x fits.1 k setup there found (Idle after) idle);
    fills = λ c now x fits full. both c now x (with_wake_up x (now + 1)) (first.fills c now x fits.0 full) (marked_within c x (now + 1) fits.1);
    stops = λ c now x fits at stop.
        both c now x (with_stop x) (first.stops c now x fits.0 at stop)
        (λ k setup there found. let here = fits.1 k setup there found in other_mail (bounds k setup there) x (with_stop x) refl refl here.holds.inbox here);
    arrives = λ c now x m fits suits.
        both c now x (with_parcel_arrival x m) (first.arrives c now x m fits.0 suits.0)
        (λ k setup there found. arrived (bounds k setup there) x m suits.1 (fits.1 k setup there found));
    begins = λ c now next x fits later within. (
      first.begins c now next x fits.0 later within,
      λ k setup there found. let here = fits.1 k setup there found in other_mail (bounds k setup there) x (at_cycle x next) refl refl here.holds.inbox here,
    );
    serves = λ d xs now issued asked c x at.
        both c now x ((R.driver_turn d xs now issued).controller_after c x) (first.serves d xs now issued (asked_first d xs now issued asked) c x at)
        (λ k setup there found. driven (bounds k setup there) (acts_at s.seats c (drive d (seats_in s.seats xs) now)) x ((asked.fits c x at).1 k setup there found));
    asks = λ d xs now issued asked j e lt. (
      first.asks d xs now issued (asked_first d xs now issued asked) j e lt,
      requests_within (length R.controllers) s.seats issued now (drive d (seats_in s.seats xs) now).issued j e lt,
    );
    goes_on = λ d xs now issued next asked later within. first.goes_on d xs now issued next (asked_first d xs now issued asked) later within;
  }

  -- What is said of each run.

  at_machine : (P : MachineSymbols → Type 0) (c k : ℕ) (m : MachineSymbols) → machine_of s.ranges c ≡ Some k → slice_get (symbols_of trees).machines k ≡ Some m → P m
      → AtMachine trees s.ranges is.routes.total c P
  at_machine P c k m found there holds =
      let at : option_and_then (λ machine. slice_get (symbols_of trees).machines machine) (machine_of s.ranges c) ≡ Some m =
      ap (λ (o : Option ℕ). option_and_then (λ machine. slice_get (symbols_of trees).machines machine) o) found ∙ there in
      subst (λ (o : Option MachineSymbols). IsSomeAnd o P) (sym at) holds

  controller_within : (c : ℕ) (x : Ctl) (now : ℕ) → Fits c x now → ControllerWithin trees s.ranges is.routes.total c x
  controller_within c x now fits =
      let known = known_scan c now x fits in
      let this = of known.k known.setup known.there in
      let here = fits.1 known.k known.setup known.there known.found in
      at_machine (λ m. HoldsWithin E m.states x) c known.k this.m known.found this.symbols here.holds

  -- the states and events of a machine that has some
  strict : (e n : ℕ) → 1 ≤ length (members_of E e) → IsMember E e n → n < length (members_of E e)
  strict e n some within = omega (arith, some, within)

  if_strict : (e : ℕ) (o : Option ℕ) → 1 ≤ length (members_of E e) → IfSome o (IsMember E e) → IfSome o (λ n. n < length (members_of E e))
  if_strict e None some within = tt
  if_strict e (Some n) some within = strict e n some within

  note_of : (k : ℕ) (setup : MachineSetup) (this : MachineWithin trees is.routes.total k setup) (note : FireNote) → NoteWithin E this.m note → IsNote trees s.ranges is.routes.total this.m note
  note_of k setup this note within = record {
    state = strict this.m.states note.state this.has_states within.state;
    event = strict this.m.events note.event this.has_events within.event;
    next = strict this.m.states note.next this.has_states within.next;
  }

  stop_of : (k : ℕ) (setup : MachineSetup) (this : MachineWithin trees is.routes.total k setup) (at : StopAt) → StopWithin E this.m at → IsStop trees s.ranges is.routes.total this.m at
  stop_of k setup this at within = record {
    event = if_strict this.m.events at.event this.has_events within.event;
    state = if_strict this.m.states at.state this.has_states within.state;
  }

  abbrev World-fits : World Ctl D → Type 0
  World-fits w = fitting_runs.WorldFits R Fits Suits Leads sound w

  abbrev Entry-within : Entry → Type 0
  Entry-within e = EntryWithin trees s.ranges is.routes.total e

  ended_within : (c now : ℕ) (x after : Ctl) (e : End) → Fits c x now → Ends R c now x after e → Entry-within (entry.Ended now c e)
  ended_within c now x after e fits (Idled y same) =
      let known = known_scan c now x fits in let this = of known.k known.setup known.there in
      at_machine (λ m. IsEnd trees s.ranges is.routes.total m end.Idle) c known.k this.m known.found this.symbols tt
  ended_within c now x after e fits (Filled same) =
      let known = known_scan c now x fits in let this = of known.k known.setup known.there in
      at_machine (λ m. IsEnd trees s.ranges is.routes.total m end.Full) c known.k this.m known.found this.symbols tt
  ended_within c now x after e fits (Halted at same) =
      let known = known_scan c now x fits in let this = of known.k known.setup known.there in
      at_machine (λ m. IsEnd trees s.ranges is.routes.total m (end.Stop at)) c known.k this.m known.found this.symbols
      (stop_of known.k known.setup this at (outcome_in c now x fits.1 known.k known.setup known.there known.found (Stop at) same))

  moved_entry : (now c : ℕ) (p : Place Ctl) (e : Event) (m : Moved Ctl Parcel) → Fits c p.controller now → Move R now c p e m → All Entry-within (option_to_list m.entry)
  moved_entry now c p e m fits (Taken worker free) = All-nil Entry-within
  moved_entry now c p e m fits (FiredBy worker note acts copies after holds same) =
      let known = known_scan c now p.controller fits in let this = of known.k known.setup known.there in
      let told = outcome_in c now p.controller fits.1 known.k known.setup known.there known.found (Fired note acts copies after) same in
      All-cons Entry-within (fired_entry now c note acts) [] (at_machine (λ x. IsNote trees s.ranges is.routes.total x note) c known.k this.m known.found this.symbols (note_of known.k known.setup this note told.0)) (All-nil Entry-within)
  moved_entry now c p e m fits (EndedBy worker after how holds ends) =
      All-cons Entry-within (entry.Ended now c how) [] (ended_within c now p.controller after how fits ends) (All-nil Entry-within)
  moved_entry now c p e m fits (Released worker holds) = All-nil Entry-within

  step_entry : (n : ℕ) (w : World Ctl D) (e : Event) (st : Stepped Ctl D) → World-fits w → Change R n w e st → All Entry-within (option_to_list st.entry)
  step_entry n w e st fits (Moves c p f m there move) = moved_entry w.now c p e m (fits.fit c p there) move
  step_entry n w e st fits (Closes worker c idle least_is) = All-cons Entry-within (entry.Turned w.now [] None (Some (verdict.Stop w.now c))) [] tt (All-nil Entry-within)
  step_entry n w e st fits (Turns worker idle least_is) = turned (after_driver R n (with_driver_turn R w (driver_turn_in R w)) (driver_turn_in R w)) refl
    where
      turned : (st : Stepped Ctl D) → st ≡ after_driver R n (with_driver_turn R w (driver_turn_in R w)) (driver_turn_in R w) → All Entry-within (option_to_list st.entry)
      turned st same = subst (λ (x : Stepped Ctl D). All Entry-within (option_to_list x.entry)) (sym same) (All-cons Entry-within _ [] tt (All-nil Entry-within))

  record Run-within (x : Ran Ctl D) : Type 0 where
    fits : World-fits x.world
    told : All Entry-within x.journal

  run_within : (history : List Event) (w : World Ctl D) (journal : List Entry) → IsRun R history w journal → Run-within (record { world = w; journal = journal })
  run_within history w journal run =
      hold-along R Run-within
      (λ x e st goes within. record {
        fits = fitting_runs.change-fits R Fits Suits Leads sound (length x.journal) x.world e st goes.change goes.running within.fits;
        told = All-append Entry-within x.journal (option_to_list st.entry) within.told (step_entry (length x.journal) x.world e st within.fits goes.change);
      })
      history w journal (record { fits = fitting_runs.opening-fits R Fits Suits Leads sound; told = All-nil Entry-within }) run

  -- as many controllers as the world has places
  pub places_counted : (history : List Event) (w : World Ctl D) (journal : List Entry) → IsRun R history w journal → is.routes.total ≡ length w.places
  places_counted history w journal run =
      let within = run_within history w journal run in
      let fits = within.fits in
      sym (fits.count ∙ count-is s least is)

  pub controllers_within : (history : List Event) (w : World Ctl D) (journal : List Entry) → IsRun R history w journal
      → (c : ℕ) (place : Place Ctl) → slice_get w.places c ≡ Some place → ControllerWithin trees s.ranges (length w.places) c place.controller
  controllers_within history w journal run c place there =
      let within = run_within history w journal run in
      let fits = within.fits in
      subst (λ (n : ℕ). ControllerWithin trees s.ranges n c place.controller) (places_counted history w journal run)
      (controller_within c place.controller w.now (fits.fit c place there))

  pub entries_within : (history : List Event) (w : World Ctl D) (journal : List Entry) → IsRun R history w journal → All (EntryWithin trees s.ranges (length w.places)) journal
  entries_within history w journal run =
      let within = run_within history w journal run in
      subst (λ (n : ℕ). All (EntryWithin trees s.ranges n) journal) (places_counted history w journal run) within.told

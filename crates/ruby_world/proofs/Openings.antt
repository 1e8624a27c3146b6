-- The controllers of a topology that fits its protocol: how many there are, which machine each has, and that their stores as a run begins
-- are those of the run's setting.
use Rattle.std.proofs.Common.{◌≡◌, ◌<◌, ◌≤◌, ◌+◌, ◌++◌, ℕ, All, zero, suc, true, false, List, [], ◌∷◌, Option, None, Some, IsSome, IsSomeAnd, IfSome, length, map, sum, refl, sym, ◌∙◌, ap, subst, slice_get, zero-add, arith, ⊎_elim}
use Rattle.std.proofs.lemmas.List.{length-map}
use Rattle.std.proofs.lemmas.List.Sums.{sum_by-cons}
use Rattle.std.proofs.lemmas.Option.{same_Some, slice_get-get_or, slice_get-map, slice_get_within}
use Rattle.std.proofs.lemmas.Bool.{cases_lt}
use Rattle.std.specs.Option.{option_and_then, option_map}
use Rattle.ruby_value.specs.declared.setup.MachineSetup.{MachineSetup}
use Rattle.ruby_value.specs.declared.setup.Sizes.{Sizes}
use Rattle.ruby_symbols.specs.declared.machine.MachineSymbols.{MachineSymbols}
use Rattle.slicc_ast.specs.declared.tree.item.Tree.{Tree}
use Rattle.slicc_ast.specs.declared.tree.machine.Machine.{Machine}
use Rattle.slicc_plan.specs.Prelude.{machines_of, AreSizesOf, setup_of as setup_in, symbols_of, machine_symbols}
use Rattle.protocol_runs.specs.Prelude.{Place, HasQueue, FitsRun, machine_of, setup_of, opening_controllers, Setting}
use Rattle.protocol_runs.proofs.Places.{mapped-from}
use Rattle.ctl_face.specs.Prelude.{Ctl, Fits, last_cycle, opening_ctl, AreNumbered, IsOfMachine}
use Rattle.ctl_store.specs.Prelude.{ctl_of, machine_of as store_machine}
use Rattle.ruby_topology.specs.declared.topology.Seat.{Seat as SeatOf}
use Rattle.ruby_topology.specs.declared.topology.Topology.{Topology}
use Rattle.ruby_topology.specs.Prelude.{members_from, name_of, ranges_from}
use Rattle.ruby_topology.proofs.Totals.{length_of_members}
use Rattle.protocol_runs.proofs.Controllers.{and-some, one-of, opened, opened-count, some-and}
use Rattle.protocol_runs.proofs.Ranges.{below-free, machine-is, machine-says, machine-there}
use Rattle.protocol_meaning.specs.Prelude.{setting_of, AreSizesIn, AtSetup, FitsPlan, IsSeat, ranges_of, setups_of, seat_setup, seat_setups, meaning_of}
use Rattle.slicc_plan.proofs.Machines.{symbols_counted}
use Rattle.protocol_meaning.proofs.ByNumber.{setups_at, setups_counted, symbols_found}
use Rattle.protocol_meaning.proofs.Places.{all_at, all_from_gets}
use Rattle.protocol_meaning.proofs.Sizes.{sizes_have_room}
use Rattle.world_state.specs.declared.place.Kept.{Kept}
use Rattle.world_state.specs.Prelude.{made_for, setups_in, IsMadeFor}
use Rattle.world_state.specs.declared.seat.SeatAt.{SeatAt}
use Rattle.world_state.specs.declared.state.State.{State}
use Rattle.world_state.proofs.Openings.{opens-kept, opens-nobody}
use Rattle.run_journal.specs.declared.entry.Entry.{Entry}
use Rattle.run_journal.specs.declared.event.Event.{Event}
use Rattle.sequencer.specs.Prelude.{Drive, Seat}
use Rattle.ruby_world.specs.declared.world.RunLimits.{RunLimits}
use Rattle.std.specs.declared.alloc.Global.{Global}
use Rattle.std.specs.declared.vec.Vec.{Vec}
use Rattle.std.proofs.lemmas.List.Elements.{All-head, All-tail}
use Rattle.ctl_face.specs.declared.parcel.Parcel.{Parcel}
use Rattle.protocol_runs.specs.Prelude.{IsFramedMeaning, IsMeaning, IsSetting, Meaning}
use Rattle.protocol_runs.proofs.Driver.{IsDriver}
use Rattle.world_state.specs.Prelude.{waiting_at, world_of}
use Rattle.ruby_world.specs.Data.{IsKept}
use Rattle.ruby_world.proofs.Keeping.{laws}
use Rattle.ruby_world.proofs.Settling.{kept-is}
use Rattle.ruby_world.specs.Prelude.{IsData, view_of, WorldView, opened as opened_view, AreOpened, IsOpened}

-- Ranges of counts.

all-numbered : (first free : ℕ) (counts : List ℕ) → AreNumbered first free (ranges_from first counts) → free ≡ first + sum counts
all-numbered first free [] numbered = omega (arith, numbered)
all-numbered first free (n ∷ counts) numbered =
    let rest = all-numbered (first + n) free counts numbered.2 in
    omega (arith, rest, sum_by-cons (λ (x : ℕ). x) n counts)

few-numbered : (first free : ℕ) (counts : List ℕ) → AreNumbered first free (ranges_from first counts) → first + length counts ≤ free
few-numbered first free [] numbered = omega (arith, numbered)
few-numbered first free (n ∷ counts) numbered =
    let rest = few-numbered (first + n) free counts numbered.2 in
    omega (arith, rest, numbered.1)

some-of : {X : Type 0} (o : Option X) → IsSome o → (x : X) × (o ≡ Some x)
some-of None some = absurd (cc some)
some-of (Some x) some = (x, refl)

some-at : {X : Type 0} (xs : List X) (k : ℕ) → k < length xs → (x : X) × (slice_get xs k ≡ Some x)
some-at [] k lt = absurd (omega arith)
some-at (x ∷ xs) k lt = (_, slice_get-get_or (x ∷ xs) k x lt)

-- one element more
pub one-more : {X : Type 0} (P : ℕ → X → Type 0) (xs : List X) (y : X) → ((c : ℕ) (x : X) → slice_get xs c ≡ Some x → P c x) → P (length xs) y
    → (c : ℕ) (x : X) → slice_get (xs ++ y ∷ []) c ≡ Some x → P c x
one-more P [] y all last zero x is = subst (P 0) (same_Some y x is) last
one-more P [] y all last (suc c) x is = absurd (cc is)
one-more P (z ∷ xs) y all last zero x is = all 0 x is
one-more P (z ∷ xs) y all last (suc c) x is = one-more (λ n. P (suc n)) xs y (λ d u at. all (suc d) u at) last c x is

-- lists as long as each other that have the same at each place
same-by : {X : Type 0} (xs ys : List X) → length xs ≡ length ys
    → ((c : ℕ) (x y : X) → slice_get xs c ≡ Some x → slice_get ys c ≡ Some y → x ≡ y) → xs ≡ ys
same-by [] [] many same = refl
same-by [] (y ∷ ys) many same = absurd (omega (arith, many))
same-by (x ∷ xs) [] many same = absurd (omega (arith, many))
same-by (x ∷ xs) (y ∷ ys) many same =
    ap (λ (z : _). z ∷ xs) (same 0 x y refl refl)
    ∙ ap (λ (zs : List _). y ∷ zs) (same-by xs ys (omega (arith, many)) (λ c z u at here. same (suc c) z u at here))

module _ (trees : List Tree) (t : Topology) (fits : FitsPlan trees t) where
  numbered : AreNumbered 0 fits.routes.total (ranges_of t)
  numbered = fits.routes.numbers.numbered

  pub total-is : fits.routes.total ≡ sum t.counts
  total-is = let all = all-numbered 0 fits.routes.total t.counts numbered in omega (arith, all)

  pub few-controllers : sum t.counts ≤ 64
  few-controllers = omega (arith, total-is, fits.routes.numbers.limit)

  pub few-counts : length t.counts ≤ 64
  few-counts = let all = few-numbered 0 fits.routes.total t.counts numbered in omega (arith, all, fits.routes.numbers.limit)

  sizes-counted : length t.sizes ≡ length (machines_of trees)
  sizes-counted = fits.sizes.each_machine ∙ symbols_counted trees

  ranges-are : length (ranges_of t) ≡ length (machines_of trees)
  ranges-are = fits.routes.numbers.each_machine ∙ setups_counted trees t.sizes sizes-counted

  pub machine-there-is : (c : ℕ) → c < sum t.counts → IsSome (machine_of (ranges_of t) c)
  machine-there-is c lt = (machine-there fits.routes.total (ranges_of t) c numbered).1 (omega (arith, total-is, lt))

  -- each seat is at a controller
  found-in : (f : ℕ → Option MachineSetup) (P : MachineSetup → Type 0) (o : Option ℕ) → IsSomeAnd (option_and_then f o) P → IsSome o
  found-in f P None none = absurd none
  found-in f P (Some k) some = refl

  pub seats-there : All (λ (s : SeatOf). IsSome (machine_of (ranges_of t) s.controller)) t.seats
  seats-there =
      all_from_gets (λ (s : SeatOf). IsSome (machine_of (ranges_of t) s.controller)) t.seats
      (λ k s at.
      let setup = seat_setup (symbols_of trees) (ranges_of t) in
      let is = all_at (IsSeat trees t) (seat_setups (symbols_of trees) t) k (setup s) fits.seats.each (slice_get-map setup t.seats k ∙ ap (option_map setup) at) in
      let q = setup s in
      found-in (λ machine. slice_get (setups_of trees t.sizes) machine)
      (λ (m : MachineSetup). HasQueue q.queue m × (q.has_sequencer ≡ true → m.has_sequencer ≡ true)) (machine_of (ranges_of t) s.controller) is)

  pub names-are : length t.names ≡ sum t.counts
  names-are =
      ap (λ (ns : List (List ℕ)). length ns) fits.names ∙ length-map (members_from 0 t.counts) (name_of (symbols_of trees)) ∙ length_of_members 0 t.counts

  -- what there is of the machine of a controller
  pub record IsThere (k : ℕ) : Type 0 where
    pub tree : Machine
    pub at : slice_get (machines_of trees) k ≡ Some tree
    pub own : Sizes
    pub is_own : slice_get t.sizes k ≡ Some own
    pub room : AreSizesOf trees own

  pub there : (c k : ℕ) → machine_of (ranges_of t) c ≡ Some k → IsThere k
  there c k found =
      let of = machine-says (ranges_of t) c k found in
      let (r, at_range, within) = and-some (λ (r : ℕ × ℕ). (r.0 ≤ c) × (c < r.0 + r.1)) (slice_get (ranges_of t) k) of in
      let inside : k < length (machines_of trees) = let lt = slice_get_within (ranges_of t) k r at_range in omega (arith, lt, ranges-are) in
      let (tree, at) = some-at (machines_of trees) k inside in
      let (own, is_own) = some-at t.sizes k (omega (arith, inside, sizes-counted)) in
      let sized =
      subst (λ (o : Option MachineSymbols). IfSome o (λ m. IsSomeAnd (slice_get t.sizes k) (AreSizesIn (ranges_of t) m))) (symbols_found trees k tree at) (fits.sizes.own k) in
      let known : AreSizesIn (ranges_of t) (machine_symbols trees k tree) own =
      subst (λ (o : Option Sizes). IsSomeAnd o (AreSizesIn (ranges_of t) (machine_symbols trees k tree))) is_own sized in
      record {
        tree = tree;
        at = at;
        own = own;
        is_own = is_own;
        room = sizes_have_room trees (ranges_of t) (machine_symbols trees k tree) own ranges-are known;
      }

  pub setup-at : (c k : ℕ) (own : Sizes) (m : MachineSetup) → machine_of (ranges_of t) c ≡ Some k → slice_get t.sizes k ≡ Some own → setup_in trees k own ≡ Some m
      → AtSetup trees t c (λ (s : MachineSetup). s ≡ m)
  setup-at c k own m found is_own is =
      some-and (λ (s : MachineSetup). s ≡ m) (option_and_then (λ machine. slice_get (setups_of trees t.sizes) machine) (machine_of (ranges_of t) c)) m
      (ap (λ (o : Option ℕ). option_and_then (λ machine. slice_get (setups_of trees t.sizes) machine) o) found
      ∙ setups_at trees t.sizes k sizes-counted ∙ ap (λ (o : Option Sizes). option_and_then (setup_in trees k) o) is_own ∙ is)
      refl

  -- each controller of a run fits
  module _ {D : Type 0} (s : Setting D) (ranges : s.ranges ≡ ranges_of t) (places : List (Place Ctl)) (now : ℕ)
      (each : (c : ℕ) (p : Place Ctl) → slice_get places c ≡ Some p → FitsRun s c p.controller now) where
    placed : (c : ℕ) (p : Place Ctl) → slice_get places c ≡ Some p → c < fits.routes.total
    placed c p at =
        let (m, is, holds) = and-some (λ (m : MachineSetup). Fits m c p.controller now) (setup_of s c) (each c p at).fits in
        let one = one-of s c m is in
        below-free 0 fits.routes.total (ranges_of t) one.machine c numbered
        (machine-says (ranges_of t) c one.machine (subst (λ (rs : List (ℕ × ℕ)). machine_of rs c ≡ Some one.machine) ranges one.found))

    pub few-places : length places ≤ 64
    few-places =
        ⊎_elim (λ (more : 64 < length places).
        let (p, at) = some-at places 64 more in
        let below = placed 64 p at in
        absurd (omega (arith, below, fits.routes.numbers.limit)))
        (λ (less : length places ≤ 64). less)
        (cases_lt 64 (length places))

  -- the stores as a run begins
  module _ (kept : List Kept) (are : AreOpened trees t kept) where
    opening-count : length (opening_controllers (setups_of trees t.sizes) (ranges_of t)) ≡ sum t.counts
    opening-count =
        let all = opened-count (setups_of trees t.sizes) (ranges_of t) 0 fits.routes.total fits.routes.numbers.each_machine numbered in
        omega (arith, all, total-is)

    opening-at : (c : ℕ) (x y : Ctl) → slice_get (map (λ (k : Kept). ctl_of k.store) kept) c ≡ Some x
        → slice_get (opening_controllers (setups_of trees t.sizes) (ranges_of t)) c ≡ Some y → x ≡ y
    opening-at c x y at here =
        let (k, there_is, is) = mapped-from (λ (k : Kept). ctl_of k.store) kept c x at in
        let begun = are.each c k there_is in
        let is_opened = opened (setups_of trees t.sizes) (ranges_of t) 0 fits.routes.total c y numbered here in
        let of = machine-is 0 fits.routes.total (ranges_of t) c is_opened.machine numbered (subst (λ (n : ℕ). IsOfMachine (ranges_of t) is_opened.machine n) (zero-add c) is_opened.of_machine) in
        let (m, found, same) = and-some (λ (m : MachineSetup). m ≡ store_machine k.store) (option_and_then (λ machine. slice_get (setups_of trees t.sizes) machine) (machine_of (ranges_of t) c)) begun.setup in
        let setup : is_opened.setup ≡ m =
        same_Some is_opened.setup m
        (sym is_opened.there ∙ sym (ap (λ (o : Option ℕ). option_and_then (λ machine. slice_get (setups_of trees t.sizes) machine) o) of) ∙ found) in
        sym is ∙ begun.ctl ∙ ap opening_ctl (sym same) ∙ ap opening_ctl (sym setup) ∙ sym is_opened.is

    pub opening-controllers : map (λ (k : Kept). ctl_of k.store) kept ≡ opening_controllers (setups_of trees t.sizes) (ranges_of t)
    opening-controllers =
        same-by (map (λ (k : Kept). ctl_of k.store) kept) (opening_controllers (setups_of trees t.sizes) (ranges_of t))
        (length-map kept (λ (k : Kept). ctl_of k.store) ∙ are.count ∙ sym opening-count) opening-at

    pub opening-made : {D : Type 0} (seed cycles limit : ℕ) (driver : D) (c : ℕ) (k : Kept) → slice_get kept c ≡ Some k
        → IsMadeFor (setting_of trees t seed cycles limit driver) c (made_for k)
    opening-made seed cycles limit driver c k at =
        let begun = are.each c k at in
        let (m, found, same) = and-some (λ (m : MachineSetup). m ≡ store_machine k.store) (option_and_then (λ machine. slice_get (setups_of trees t.sizes) machine) (machine_of (ranges_of t) c)) begun.setup in
        record { setup = found ∙ ap (λ (s : MachineSetup). Some s) same; me = begun.me; routes = begun.routes }

-- Its facts.

all-none : (lists : List (Vec Parcel Global)) → All (λ (v : Vec Parcel Global). v.items ≡ []) lists → (c : ℕ) → waiting_at lists c ≡ []
all-none [] none c = refl
all-none (v ∷ lists) none zero = All-head (λ (u : Vec Parcel Global). u.items ≡ []) v lists none
all-none (v ∷ lists) none (suc c) = all-none lists (All-tail (λ (u : Vec Parcel Global). u.items ≡ []) v lists none) c

pub no-ctl : Ctl
no-ctl = opening_ctl (record { tables = []; buffers = []; default_state = None; has_sequencer = false })

module _ {D : Type 0} (least : D → ℕ) (drive : D → List Seat → ℕ → Drive D) (opening : D → D) (trees : List Tree) (t : Topology) (limits : RunLimits) (seats : List SeatAt)
    (driver : D) (begins : opening driver ≡ driver) (st : State D) (is : IsOpened trees t driver st) where
  opens : opening st.driver ≡ driver
  opens = ap opening is.opening.driver ∙ begins

  pub opened-view : view_of opening trees t limits st ≡ opened_view trees t limits driver
  opened-view =
      let W : D → List Event → List Entry → WorldView D =
      λ d h j. record { trees = trees; topology = t; limits = limits; opening = d; history = h; journal = j } in
      ap (λ (d : D). W d st.book.history st.book.journal) opens
      ∙ ap (λ (h : List Event). W driver h st.book.journal) is.opening.history
      ∙ ap (λ (j : List Entry). W driver [] j) is.opening.journal

  pub opened-facts : (needs : D → ℕ → ℕ) → IsDriver drive needs least → IsMeaning (meaning_of trees) → IsFramedMeaning (meaning_of trees)
      → IsSetting least (setting_of trees t limits.seed limits.cycles limits.limit driver)
      → FitsPlan trees t → limits.cycles ≤ last_cycle → least driver ≤ length t.seats → setups_in seats ≡ seat_setups (symbols_of trees) t
      → (lists : List (Vec Parcel Global)) → length lists ≡ length st.places.items → All (λ (v : Vec Parcel Global). v.items ≡ []) lists
      → IsData least drive (view_of opening trees t limits st) seats lists st
  opened-facts needs law means framed lawful fits cycles enough seats_are lists count none =
      let s : Setting D = setting_of trees t limits.seed limits.cycles limits.limit driver in
      let p : Meaning = meaning_of trees in
      let settled =
      opens-kept p drive s no-ctl is.kept st is.opening (opening-controllers trees t fits is.kept is.opened)
      (opening-made trees t fits is.kept is.opened limits.seed limits.cycles limits.limit driver) in
      let nobody = opens-nobody p drive s no-ctl is.kept st is.opening (opening-controllers trees t fits is.kept is.opened) in
      let kept = kept-is p drive s (laws p drive s needs least law means framed lawful) no-ctl lists st settled nobody (all-none lists none) count in
      record {
        fits = fits;
        cycles = cycles;
        enough = subst (λ (d : D). least d ≤ length t.seats) (sym opens) enough;
        seats_are = seats_are;
        world = world_of no-ctl st;
        kept =
            subst (λ (d : D). IsKept p drive (setting_of trees t limits.seed limits.cycles limits.limit d) (world_of no-ctl st) lists st) (sym opens) kept;
      }

-- What a topology is made of, and what it lacks.
use Rattle.std.proofs.Common.{◌≡◌, ◌≤◌, ◌+◌, ◌∙◌, ℕ, true, false, eqb, Option, Result, Ok, Err, List, [], ◌∷◌, ap, refl, sym, subst, arith, length, sum, get_or, MatchOption, IfErr, IfOk}
use Rattle.std.specs.List.{All}
use Rattle.std.proofs.lemmas.Bool.{eqb-true}
use Rattle.ruby_symbols.specs.declared.symbols.Symbols.{Symbols}
use Rattle.ruby_topology.specs.declared.forms.TheConstants.{T8_NO_SEAT}
use Rattle.ruby_topology.specs.declared.forms.TopoFault.{TopoFault}
use Rattle.ruby_topology.specs.declared.forms.TopoFault.TheVariants.{Line, NoMemory}
use Rattle.ruby_topology.specs.declared.paths.Mark.{Mark}
use Rattle.ruby_topology.specs.declared.forms.Link.{Link}
use Rattle.ruby_topology.specs.declared.forms.Member.{Member}
use Rattle.ruby_topology.specs.declared.forms.Network.{Network}
use Rattle.ruby_topology.specs.declared.forms.Network.TheVariants.{Links}
use Rattle.ruby_topology.specs.declared.forms.Statement.{Statement}
use Rattle.ruby_topology.specs.declared.topology.Seat.{Seat}
use Rattle.ruby_topology.specs.declared.topology.Topology.{Topology}
use Rattle.ruby_topology.specs.Prelude.{ForLine, reading, AreRows, HasIsland, IsIsland, IsRow, controllers, IsBetween, IsSearched, SumsOf, lines_of, IsLackingSaid, IsRefused, HasIslandSaid, counts_of, lacks_line, links_of, members_from, members_said, network_of, no_seat, after_last, seats_of, IsWithin}
use Rattle.ruby_topology.proofs.Rows.{found_row}
use Rattle.ruby_topology.proofs.Totals.{length_of_members, links_between, links_short, sum_of_counts}

pub few_counts : (symbols : Symbols) (said : List Statement) (counts : List ℕ) → counts ≡ counts_of symbols said → controllers said ≤ 64 → sum counts ≤ 64
few_counts symbols said counts are room =
    let total = sum_of_counts symbols said in
    let same = ap sum are in omega (arith, total, same, room)

pub few_members : (symbols : Symbols) (said : List Statement) (counts : List ℕ) (members : List Member) → counts ≡ counts_of symbols said → members ≡ members_from 0 counts → controllers said ≤ 64 → length members ≤ 64
few_members symbols said counts members are all room =
    let total = few_counts symbols said counts are room in
    let many = length_of_members 0 counts in
    let same : length members ≡ length (members_from 0 counts) = ap (λ (ms : List Member). length ms) all in
    omega (arith, total, many, same)

pub between_of : (members : List Member) (said : List Statement) (links : List Link) (total : ℕ) → links ≡ links_of members said → total ≡ length members → All IsWithin said → All (IsBetween total) links
between_of members said links total are all within =
    subst (λ n. All (IsBetween n) links) (sym all) (subst (All (IsBetween (length members))) (sym are) (links_between members said within))

pub short_of : (members : List Member) (said : List Statement) (links : List Link) → links ≡ links_of members said → All IsWithin said → All (λ (l : Link). l.length ≤ 1000) links
short_of members said links are within = subst (All (λ (l : Link). l.length ≤ 1000)) (sym are) (links_short members said within)

pub rows_of_all : (network : Network) (links : List Link) (total : ℕ) (rows : List (List ℕ)) → AreRows network links total rows → HasIsland network links total → ⊥
rows_of_all network links total rows are lack =
    let row = are.each lack.from lack.is_from in
    let island = lack.island in
    island.no_path (get_or (get_or rows lack.from []) island.to 0) (row.paths island.to island.is_to)

pub found_rows : {E : Type 0} (links : List Link) (total from : ℕ) (marks lent : List Mark) → lent ≡ marks → IsSearched links total from marks → (r : Result (Option (List ℕ)) E) → IfOk r (SumsOf lent) → IfOk r (λ o. MatchOption o (IsIsland Links links total from) (IsRow Links links total from))
found_rows links total from marks lent same searched (Ok o) sums =
    found_row links total from marks searched o (subst (λ ms. SumsOf ms o) same sums)
found_rows links total from marks lent same searched (Err e) sums = sums

nil_if_none : {A : Type 0} (xs : List A) → eqb (length xs) 0 ≡ true → xs ≡ []
nil_if_none [] none = refl
nil_if_none (x ∷ xs) none = let zero_long = eqb-true (length (x ∷ xs)) 0 none in absurd (omega (arith, zero_long))

pub no_seats_left : (symbols : Symbols) (said : List Statement) (counts : List ℕ) (members : List Member) (seats : List Seat) (paths : List (List ℕ)) → lacks_line symbols said ≡ false → counts ≡ counts_of symbols said → members ≡ members_from 0 counts → AreRows (network_of said) (links_of members said) (length members) paths → seats ≡ seats_of symbols members → eqb (length seats) 0 ≡ true → IsLackingSaid symbols said T8_NO_SEAT
no_seats_left symbols said counts members seats paths each are all rows seats_are none =
    let same : members ≡ members_said symbols said = all ∙ ap (members_from 0) are in
    let whole = subst (λ ms. AreRows (network_of said) (links_of ms said) (length ms) paths) same rows in
    let island : HasIslandSaid symbols said → ⊥ = λ lack. rows_of_all (network_of said) (links_of (members_said symbols said) said) (length (members_said symbols said)) paths whole lack in
    let nothing : seats_of symbols (members_said symbols said) ≡ [] = sym (seats_are ∙ ap (seats_of symbols) same) ∙ nil_if_none seats none in
    no_seat refl each island nothing

pub refused_after : (symbols : Symbols) (bytes : List ℕ) (said lent : List Statement) (after : ℕ) → lent ≡ said → reading symbols (lines_of bytes) ≡ Ok said → after ≡ length (lines_of bytes) + 1 → (r : Result Topology TopoFault) → IfErr r (λ fault. ForLine fault (λ rule line. (line ≡ after) × IsLackingSaid symbols lent rule)) → IfErr r (λ fault. ForLine fault (IsRefused symbols bytes))
refused_after symbols bytes said lent after same is is_after (Ok t) lacks = lacks
refused_after symbols bytes said lent after same is is_after (Err NoMemory) lacks = lacks
refused_after symbols bytes said lent after same is is_after (Err (Line rule line)) lacks =
    after_last said is (lacks.0 ∙ is_after) (subst (λ s. IsLackingSaid symbols s rule) same lacks.1)

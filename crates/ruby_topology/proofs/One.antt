-- A file has one topology at most, or is refused by one rule at one line at most, and not both.
use Rattle.std.proofs.Common.{◌≡◌, ◌∙◌, ℕ, Ok, Err, List, [], ap, sym, subst, arith, true≢false, length, get_or, ext_get_or}
use Rattle.ctl_face.specs.declared.routes.Routes.{Routes}
use Rattle.ruby_symbols.specs.declared.symbols.Symbols.{Symbols}
use Rattle.ruby_topology.specs.declared.forms.Link.{Link}
use Rattle.ruby_topology.specs.declared.forms.Network.{Network}
use Rattle.ruby_topology.specs.declared.forms.Network.TheVariants.{PointToPoint, Crossbar, Mesh, Links}
use Rattle.ruby_topology.specs.declared.forms.Statement.{Statement}
use Rattle.ruby_topology.specs.declared.topology.Topology.{Topology}
use Rattle.ruby_topology.specs.Prelude.{Reading, reading, AreRows, IsPath, IsRow, lines_of, IsLackingSaid, IsRefused, IsTopologyOf, IsTopologySaid, after_last, at_line, counts_of, links_of, members_from, members_said, network_of, no_line, no_path, no_seat}
use Rattle.ruby_topology.proofs.Ends.{rows_of_all}

-- Paths.

path_is_one : (network : Network) (links : List Link) (a b p q : ℕ) → IsPath network links a b p → IsPath network links a b q → p ≡ q
path_is_one (PointToPoint n) links a b p q h g = h ∙ sym g
path_is_one (Crossbar n) links a b p q h g = h ∙ sym g
path_is_one (Mesh rows columns n) links a b p q h g = h ∙ sym g
path_is_one Links links a b p q h g =
    let low = h.least q g.some_way in
    let high = g.least p h.some_way in
    omega (arith, low, high)

row_is_one : (network : Network) (links : List Link) (total from : ℕ) (r s : List ℕ) → IsRow network links total from r → IsRow network links total from s → r ≡ s
row_is_one network links total from r s h g =
    ext_get_or 0 r s (h.all ∙ sym g.all)
    (λ i lt.
    let all = h.all in
    path_is_one network links from i (get_or r i 0) (get_or s i 0) (h.paths i (omega (arith, all, lt))) (g.paths i (omega (arith, all, lt))))

rows_are_one : (network : Network) (links : List Link) (total : ℕ) (r s : List (List ℕ)) → AreRows network links total r → AreRows network links total s → r ≡ s
rows_are_one network links total r s h g =
    ext_get_or [] r s (h.all ∙ sym g.all)
    (λ i lt.
    let all = h.all in
    row_is_one network links total i (get_or r i []) (get_or s i []) (h.each i (omega (arith, all, lt))) (g.each i (omega (arith, all, lt))))

-- Topologies.

routes_same : (r s : Routes) → r.paths ≡ s.paths → r.jitter ≡ s.jitter → r.ordered ≡ s.ordered → r.receiving ≡ s.receiving → r.slots ≡ s.slots → r ≡ s
routes_same r s paths jitter ordered receiving slots =
    let one : r ≡ record r { paths = s.paths } = ap (λ p. record r { paths = p }) paths in
    let two : record r { paths = s.paths } ≡ record s { ordered = r.ordered; receiving = r.receiving; slots = r.slots } =
    ap (λ j. record s { jitter = j; ordered = r.ordered; receiving = r.receiving; slots = r.slots }) jitter in
    let three : record s { ordered = r.ordered; receiving = r.receiving; slots = r.slots } ≡ record s { receiving = r.receiving; slots = r.slots } =
    ap (λ o. record s { ordered = o; receiving = r.receiving; slots = r.slots }) ordered in
    let four : record s { receiving = r.receiving; slots = r.slots } ≡ record s { slots = r.slots } =
    ap (λ x. record s { receiving = x; slots = r.slots }) receiving in
    let five : record s { slots = r.slots } ≡ s = ap (λ x. record s { slots = x }) slots in
    one ∙ two ∙ three ∙ four ∙ five

topology_same : (t u : Topology) → t.counts ≡ u.counts → t.names ≡ u.names → t.routes ≡ u.routes → t.sizes ≡ u.sizes → t.seats ≡ u.seats → t ≡ u
topology_same t u counts names routes sizes seats =
    let one : t ≡ record t { counts = u.counts } = ap (λ x. record t { counts = x }) counts in
    let two : record t { counts = u.counts } ≡ record u { routes = t.routes; sizes = t.sizes; seats = t.seats } =
    ap (λ x. record u { names = x; routes = t.routes; sizes = t.sizes; seats = t.seats }) names in
    let three : record u { routes = t.routes; sizes = t.sizes; seats = t.seats } ≡ record u { sizes = t.sizes; seats = t.seats } =
    ap (λ x. record u { routes = x; sizes = t.sizes; seats = t.seats }) routes in
    let four : record u { sizes = t.sizes; seats = t.seats } ≡ record u { seats = t.seats } =
    ap (λ x. record u { sizes = x; seats = t.seats }) sizes in
    let five : record u { seats = t.seats } ≡ u = ap (λ x. record u { seats = x }) seats in
    one ∙ two ∙ three ∙ four ∙ five

said_is_one : (symbols : Symbols) (said : List Statement) (t u : Topology) → IsTopologySaid symbols said t → IsTopologySaid symbols said u → t ≡ u
said_is_one symbols said t u h g =
    let members = members_from 0 (counts_of symbols said) in
    let paths = rows_are_one (network_of said) (links_of (members_said symbols said) said) (length (members_said symbols said)) t.routes.paths u.routes.paths h.parts.paths g.parts.paths in
    let one = h.parts.routes in
    let other = g.parts.routes in
    topology_same t u (h.parts.counts_are ∙ sym g.parts.counts_are) (h.parts.names ∙ sym g.parts.names)
    (routes_same t.routes u.routes paths (one.jitter ∙ sym other.jitter) (one.ordered ∙ sym other.ordered) (one.receiving ∙ sym other.receiving) (one.slots ∙ sym other.slots))
    (h.parts.sizes ∙ sym g.parts.sizes) (h.seats ∙ sym g.seats)

same_said : (r : Reading) (a b : List Statement) → r ≡ Ok a → r ≡ Ok b → a ≡ b
same_said r a b e f = cc (e, f)

not_both : (r : Reading) (a : List Statement) (fault : ℕ × ℕ) → r ≡ Ok a → r ≡ Err fault → ⊥
not_both r a fault e f = cc (e, f)

same_fault : (r : Reading) (a b : ℕ × ℕ) → r ≡ Err a → r ≡ Err b → a ≡ b
same_fault r a b e f = cc (e, f)

pub topology_one : (symbols : Symbols) (bytes : List ℕ) (t u : Topology) → IsTopologyOf symbols bytes t → IsTopologyOf symbols bytes u → t ≡ u
topology_one symbols bytes t u h g =
    let same = same_said (reading symbols (lines_of bytes)) h.said g.said h.is_said g.is_said in
    said_is_one symbols g.said t u (subst (λ s. IsTopologySaid symbols s t) same h.topology) g.topology

-- Refusals.

lacking_is_one : (symbols : Symbols) (said : List Statement) (rule other : ℕ) → IsLackingSaid symbols said rule → IsLackingSaid symbols said other → rule ≡ other
lacking_is_one symbols said rule other (no_line is lacks) (no_line is2 lacks2) = is ∙ sym is2
lacking_is_one symbols said rule other (no_line is lacks) (no_path is2 each2 island2) = absurd (true≢false (sym lacks ∙ each2))
lacking_is_one symbols said rule other (no_line is lacks) (no_seat is2 each2 paths2 none2) = absurd (true≢false (sym lacks ∙ each2))
lacking_is_one symbols said rule other (no_path is each island) (no_line is2 lacks2) = absurd (true≢false (sym lacks2 ∙ each))
lacking_is_one symbols said rule other (no_path is each island) (no_path is2 each2 island2) = is ∙ sym is2
lacking_is_one symbols said rule other (no_path is each island) (no_seat is2 each2 paths2 none2) = absurd (paths2 island)
lacking_is_one symbols said rule other (no_seat is each paths none) (no_line is2 lacks2) = absurd (true≢false (sym lacks2 ∙ each))
lacking_is_one symbols said rule other (no_seat is each paths none) (no_path is2 each2 island2) = absurd (paths island2)
lacking_is_one symbols said rule other (no_seat is each paths none) (no_seat is2 each2 paths2 none2) = is ∙ sym is2

pub refusal_one : (symbols : Symbols) (bytes : List ℕ) (rule line other at : ℕ) → IsRefused symbols bytes rule line → IsRefused symbols bytes other at → (rule ≡ other) × (line ≡ at)
refusal_one symbols bytes rule line other at (at_line e) (at_line f) =
    let same = same_fault (reading symbols (lines_of bytes)) (rule, line) (other, at) e f in
    (ap (λ (p : ℕ × ℕ). p.0) same, ap (λ (p : ℕ × ℕ). p.1) same)
refusal_one symbols bytes rule line other at (at_line e) (after_last said is last lacks) =
    absurd (not_both (reading symbols (lines_of bytes)) said (rule, line) is e)
refusal_one symbols bytes rule line other at (after_last said is last lacks) (at_line f) =
    absurd (not_both (reading symbols (lines_of bytes)) said (other, at) is f)
refusal_one symbols bytes rule line other at (after_last said is last lacks) (after_last said2 is2 last2 lacks2) =
    let same = same_said (reading symbols (lines_of bytes)) said said2 is is2 in (
      lacking_is_one symbols said2 rule other (subst (λ s. IsLackingSaid symbols s rule) same lacks) lacks2,
      last ∙ sym last2,
    )

never_lacking : (symbols : Symbols) (said : List Statement) (t : Topology) (rule : ℕ) → IsTopologySaid symbols said t → IsLackingSaid symbols said rule → ⊥
never_lacking symbols said t rule h (no_line is lacks) = true≢false (sym lacks ∙ h.each_machine)
never_lacking symbols said t rule h (no_path is each island) =
    rows_of_all (network_of said) (links_of (members_said symbols said) said) (length (members_said symbols said)) t.routes.paths h.parts.paths island
never_lacking symbols said t rule h (no_seat is each paths none) = h.some_seat (h.seats ∙ none)

pub never_refused : (symbols : Symbols) (bytes : List ℕ) (t : Topology) (rule line : ℕ) → IsTopologyOf symbols bytes t → IsRefused symbols bytes rule line → ⊥
never_refused symbols bytes t rule line h (at_line e) = not_both (reading symbols (lines_of bytes)) h.said (rule, line) h.is_said e
never_refused symbols bytes t rule line h (after_last said is last lacks) =
    let same = same_said (reading symbols (lines_of bytes)) h.said said h.is_said is in
    never_lacking symbols said t rule (subst (λ s. IsTopologySaid symbols s t) same h.topology) lacks

-- A protocol has one topology of a plain run at most, or none.
use Rattle.std.proofs.Common.{◌≡◌, ◌∙◌, ℕ, List, [], ◌∷◌, sym, subst, arith, true≢false, length, get_or, ext_get_or}
use Rattle.ctl_face.specs.declared.routes.Routes.{Routes}
use Rattle.ruby_symbols.specs.declared.symbols.Symbols.{Symbols}
use Rattle.ruby_topology.specs.declared.forms.Network.TheVariants.{PointToPoint}
use Rattle.ruby_topology.specs.declared.topology.Topology.{Topology}
use Rattle.ruby_topology.specs.Prelude.{AreRows, IsRow, IsPlainOf, IsRefusedPlain}

row_one : (total from : ℕ) (r s : List ℕ) → IsRow (PointToPoint 1) [] total from r → IsRow (PointToPoint 1) [] total from s → r ≡ s
row_one total from r s is also =
    ext_get_or 0 r s (is.all ∙ sym also.all)
    (λ i lt. let all = is.all in is.paths i (omega (arith, all, lt)) ∙ sym (also.paths i (omega (arith, all, lt))))

rows_one : (total : ℕ) (r s : List (List ℕ)) → AreRows (PointToPoint 1) [] total r → AreRows (PointToPoint 1) [] total s → r ≡ s
rows_one total r s is also =
    ext_get_or [] r s (is.all ∙ sym also.all)
    (λ i lt.
    let all = is.all in
    row_one total i (get_or r i []) (get_or s i []) (is.each i (omega (arith, all, lt))) (also.each i (omega (arith, all, lt))))

routes_same : (r s : Routes) → r.paths ≡ s.paths → r.jitter ≡ s.jitter → r.ordered ≡ s.ordered → r.receiving ≡ s.receiving → r.slots ≡ s.slots → r ≡ s
routes_same r s a b c d e =
    let one : Routes = record { paths = r.paths; jitter = r.jitter; ordered = r.ordered; receiving = r.receiving; slots = r.slots } in
    let other : Routes = record { paths = s.paths; jitter = s.jitter; ordered = s.ordered; receiving = s.receiving; slots = s.slots } in
    let same : one ≡ other = cc (a, b, c, d, e) in
    same

topology_same : (t u : Topology) → t.counts ≡ u.counts → t.names ≡ u.names → t.routes ≡ u.routes → t.sizes ≡ u.sizes → t.seats ≡ u.seats → t ≡ u
topology_same t u a b c d e =
    let one : Topology = record { counts = t.counts; names = t.names; routes = t.routes; sizes = t.sizes; seats = t.seats } in
    let other : Topology = record { counts = u.counts; names = u.names; routes = u.routes; sizes = u.sizes; seats = u.seats } in
    let same : one ≡ other = cc (a, b, c, d, e) in
    same

pub plain_one : (symbols : Symbols) (t u : Topology) → IsPlainOf symbols t → IsPlainOf symbols u → t ≡ u
plain_one symbols t u is also =
    let paths = rows_one 1 t.routes.paths u.routes.paths is.parts.paths also.parts.paths in
    let one = is.parts.routes in
    let other = also.parts.routes in
    topology_same t u (is.parts.counts_are ∙ sym also.parts.counts_are) (is.parts.names ∙ sym also.parts.names)
    (routes_same t.routes u.routes paths (one.jitter ∙ sym other.jitter) (one.ordered ∙ sym other.ordered) (one.receiving ∙ sym other.receiving) (one.slots ∙ sym other.slots))
    (is.parts.sizes ∙ sym also.parts.sizes) (is.seats ∙ sym also.seats)

pub refused_one : (symbols : Symbols) (rule line other at : ℕ) → IsRefusedPlain symbols rule line → IsRefusedPlain symbols other at → (rule ≡ other) × (line ≡ at)
refused_one symbols rule line other at is also = (is.is_rule ∙ sym also.is_rule, is.is_line ∙ sym also.is_line)

pub never_both : (symbols : Symbols) (t : Topology) (rule line : ℕ) → IsPlainOf symbols t → IsRefusedPlain symbols rule line → ⊥
never_both symbols t rule line is not = true≢false (sym is.can ∙ not.cannot)

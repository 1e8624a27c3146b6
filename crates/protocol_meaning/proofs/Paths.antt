-- Paths are within the limits, and the one to oneself takes no cycle.
use Rattle.std.proofs.Common.{◌≡◌, ◌<◌, ◌≤◌, ◌*◌, ◌%◌, ◌∙◌, ℕ, Bool, true, false, cond, eqb, List, [], ap, refl, subst, arith, ⊎_elim, length, get_or, unwrap_or, option_and_then, mod-lt, div-lt_iff_lt-mul, mul-pos, mul-le-mul, eq-eqb}
use Rattle.std.specs.Prelude.{All, slice_get}
use Rattle.std.proofs.lemmas.Bool.{cases_lt}
use Rattle.std.proofs.lemmas.List.{get_or_default}
use Rattle.std.proofs.lemmas.List.Elements.{All-nil}
use Rattle.std.proofs.lemmas.Option.{slice_get-get_or, slice_get_past}
use Rattle.ctl_face.specs.declared.routes.Routes.{Routes}
use Rattle.ctl_face.specs.Prelude.{HasShape, longest_path, path_to}
use Rattle.ruby_topology.specs.declared.forms.Link.{Link}
use Rattle.ruby_topology.specs.declared.forms.Network.{Network}
use Rattle.ruby_topology.specs.declared.forms.Network.TheVariants.{PointToPoint, Crossbar, Mesh, Links}
use Rattle.ruby_topology.specs.Prelude.{AreRows, IsPath, IsRow, column_of, distance, row_of, steps_between, IsBetween, IsNetworkWithin}
use Rattle.protocol_meaning.proofs.Ways.{least_is_small}

or_nothing : (b : Bool) (n m : ℕ) → n ≤ m → cond b 0 n ≤ m
or_nothing true n m le = omega arith
or_nothing false n m le = le

row_small : (rows columns k : ℕ) → 1 ≤ rows → rows ≤ 64 → 1 ≤ columns → row_of rows columns k ≤ 63
row_small rows columns k some few wide =
    let node = mod-lt k (mul-pos {m = rows} {n = columns} (omega arith) (omega arith)) in
    let row = (div-lt_iff_lt-mul {k = columns} {x = k % (rows * columns)} {y = rows} (omega arith)).1 node in
    omega (arith, row)

column_small : (rows columns k : ℕ) → 1 ≤ columns → columns ≤ 64 → column_of rows columns k ≤ 63
column_small rows columns k some few =
    let column = mod-lt (k % (rows * columns)) {m = columns} (omega arith) in
    omega (arith, column)

apart : (a b : ℕ) → a ≤ 63 → b ≤ 63 → distance a b ≤ 63
apart a b h g = omega arith

few_steps : (rows columns a b : ℕ) → 1 ≤ rows → rows ≤ 64 → 1 ≤ columns → columns ≤ 64 → steps_between rows columns a b ≤ 126
few_steps rows columns a b r_some r_few c_some c_few =
    let up = apart (row_of rows columns a) (row_of rows columns b) (row_small rows columns a r_some r_few c_some) (row_small rows columns b r_some r_few c_some) in
    let across = apart (column_of rows columns a) (column_of rows columns b) (column_small rows columns a c_some c_few) (column_small rows columns b c_some c_few) in
    omega (arith, up, across)

pub path_small : (network : Network) (links : List Link) (total a b path : ℕ) → IsNetworkWithin network → total ≤ 64 → All (IsBetween total) links → All (λ (l : Link). l.length ≤ 1000) links → IsPath network links a b path → path ≤ longest_path
path_small (PointToPoint n) links total a b path within few between short is =
    let le = or_nothing (eqb a b) n 126000 (omega (arith, within)) in
    omega (arith, is, le)
path_small (Crossbar n) links total a b path within few between short is =
    let le = or_nothing (eqb a b) (2 * n) 126000 (omega (arith, within)) in
    omega (arith, is, le)
path_small (Mesh rows columns n) links total a b path within few between short is =
    let steps = few_steps rows columns a b within.0 within.1 within.2 within.3 in
    let le = mul-le-mul {n₁ = n} {m₁ = steps_between rows columns a b} {n₂ = 1000} {m₂ = 126} within.4 steps in
    omega (arith, is, le)
path_small Links links total a b path within few between short is =
    let le = least_is_small links total a b path between short is in
    omega (arith, le, few)

nothing : (x : ℕ) → distance x x ≡ 0
nothing x = omega arith

pub path_to_oneself : (network : Network) (links : List Link) (a path : ℕ) → IsPath network links a a path → path ≡ 0
path_to_oneself (PointToPoint n) links a path is = is ∙ ap (λ b. cond b 0 n) (eq-eqb a a refl)
path_to_oneself (Crossbar n) links a path is = is ∙ ap (λ b. cond b 0 (2 * n)) (eq-eqb a a refl)
path_to_oneself (Mesh rows columns n) links a path is =
    let up = nothing (row_of rows columns a) in
    let across = nothing (column_of rows columns a) in
    let steps : steps_between rows columns a a ≡ 0 = omega (arith, up, across) in
    let none : n * 0 ≡ 0 = omega arith in
    is ∙ ap (λ k. n * k) steps ∙ none
path_to_oneself Links links a path is =
    let le = is.least 0 (record { way = []; listed = All-nil _; leads = refl; sums = refl }) in
    omega (arith, le)

module _ (network : Network) (links : List Link) (total : ℕ) (rows : List (List ℕ)) (are : AreRows network links total rows) where
  row_at : (k : ℕ) (d : List ℕ) → k < length rows → IsRow network links total k (get_or rows k d)
  row_at k d lt =
      let all = are.all in
      subst (IsRow network links total k) (get_or_default rows k [] d lt) (are.each k (omega (arith, all, lt)))

  pub rows_shaped : HasShape total total rows
  rows_shaped = record { all_rows = are.all; all_items = λ k d lt. (row_at k d lt).all }

  pub rows_small : IsNetworkWithin network → total ≤ 64 → All (IsBetween total) links → All (λ (l : Link). l.length ≤ 1000) links → All (All (λ (path : ℕ). path ≤ longest_path)) rows
  rows_small within few between short k d lt j e inside =
      let row = row_at k d lt in
      let all = row.all in
      let path = row.paths j (omega (arith, all, inside)) in
      subst (λ p. p ≤ longest_path) (get_or_default (get_or rows k d) j 0 e inside)
      (path_small network links total k j (get_or (get_or rows k d) j 0) within few between short path)

  own_path : (controller : ℕ) → unwrap_or (option_and_then (λ (paths : List ℕ). slice_get paths controller) (slice_get rows controller)) 0 ≡ 0
  own_path controller =
      ⊎_elim
      (λ (lt : controller < length rows).
      let row = row_at controller [] lt in
      let all = row.all in
      let many = are.all in
      let inside : controller < length (get_or rows controller []) = omega (arith, all, many, lt) in
      ap (λ o. unwrap_or (option_and_then (λ (paths : List ℕ). slice_get paths controller) o) 0) (slice_get-get_or rows controller [] lt)
      ∙ ap (λ o. unwrap_or o 0) (slice_get-get_or (get_or rows controller []) controller 0 inside)
      ∙ path_to_oneself network links controller (get_or (get_or rows controller []) controller 0) (row.paths controller (omega (arith, all, inside))))
      (λ (past : length rows ≤ controller).
      ap (λ o. unwrap_or (option_and_then (λ (paths : List ℕ). slice_get paths controller) o) 0) (slice_get_past rows controller past))
      (cases_lt controller (length rows))

  pub own_paths_none : (routes : Routes) → routes.paths ≡ rows → (controller : ℕ) → path_to routes controller controller ≡ 0
  own_paths_none routes same controller =
      ap (λ (ps : List (List ℕ)). unwrap_or (option_and_then (λ (paths : List ℕ). slice_get paths controller) (slice_get ps controller)) 0) same
      ∙ own_path controller

-- There is a table of each scope, and it is found by the scope's number.
use Rattle.std.proofs.Common.{◌≡◌, ◌<◌, ◌≤◌, ◌⊎◌, ℕ, Some, List, [], ◌∷◌, map, flat_map, refl, sym, ◌∙◌, ap, subst, length, slice_get, arith, insert, inl, inr, ◌++◌}
use Rattle.std.specs.Option.{option_map}
use Rattle.std.proofs.lemmas.Option.{slice_get-get_or, slice_get-map, slice_get_within}
use Rattle.std.proofs.lemmas.List.{get_or_past, length-map}
use Rattle.slicc_ast.specs.declared.tree.item.Tree.{Tree}
use Rattle.slicc_ast.specs.declared.tree.machine.Machine.{Machine}
use Rattle.std.specs.List.{list_any}
use Rattle.slicc_plan.specs.Prelude.{is_among, everywhere, within, global_declarations, machine_in, machine_names, machines_of, wide_scopes}
use Rattle.declared_types.proofs.NameParts.{list_any_map}
use Rattle.declared_types.specs.declared.lent.Declared.{Declared}
use Rattle.declared_types.specs.declared.table.Table.{Table}
use Rattle.declared_types.specs.Prelude.{declarations_of, scope_of, AreTables, ScopeTable, is_machine_named, machine_table, scope_at, summaries, summary, table_in}

pub machine_tables : (trees : List Tree) (ms : List Machine) → map machine_table ms ≡ map (table_in trees) (map within ms)
machine_tables trees [] = refl
machine_tables trees (m ∷ ms) = ap (λ ts. machine_table m ∷ ts) (machine_tables trees ms)

pub insert_first : (ms : List Table) (p : Table) → insert ms 0 p ≡ p ∷ ms
insert_first ms p = grind arith

pub tables_right : (trees : List Tree) (ms tables : List Table) (p : Table) (ds : List Declared) → declarations_of ds ≡ global_declarations trees → summaries ms ≡ map machine_table (flat_map machine_in (declarations_of ds))
    → scope_of p.scope ≡ everywhere → declarations_of p.declarations ≡ declarations_of ds → tables ≡ insert ms 0 p → AreTables trees tables
tables_right trees ms tables p ds global machines at declared inserted = record {
  all =
      let first : summary p ≡ table_in trees everywhere = cc in
      let others : summaries ms ≡ map (table_in trees) (map within (machines_of trees)) =
      machines ∙ ap (λ gs. map machine_table (flat_map machine_in gs)) global ∙ machine_tables trees (machines_of trees) in
      ap summaries (inserted ∙ insert_first ms p) ∙ ap (λ s. s ∷ summaries ms) first ∙ ap (λ ss. table_in trees everywhere ∷ ss) others;
}

pub table_at : (trees : List Tree) (tables : List Table) (number : ℕ) (t : Table) → AreTables trees tables → slice_get tables number ≡ Some t → summary t ≡ table_in trees (scope_at trees number)
table_at trees tables number t right found =
    let all = right.all in
    let scopes = wide_scopes trees in
    let below : number < length scopes =
    let within_tables = slice_get_within tables number t found in
    omega (arith, length-map tables summary, length-map scopes (table_in trees), ap length all) in
    let left : slice_get (summaries tables) number ≡ Some (summary t) = slice_get-map summary tables number ∙ ap (option_map summary) found in
    let right_side : slice_get (map (table_in trees) scopes) number ≡ Some (table_in trees (scope_at trees number)) =
    slice_get-map (table_in trees) scopes number ∙ ap (option_map (table_in trees)) (slice_get-get_or scopes number everywhere below) in
    let both : Some (summary t) ≡ Some (table_in trees (scope_at trees number)) = sym left ∙ ap (λ ts. slice_get ts number) all ∙ right_side in
    cc both

pub table_beyond : (trees : List Tree) (tables : List Table) (number : ℕ) (t : Table) → AreTables trees tables → length tables ≤ number → slice_get tables 0 ≡ Some t → summary t ≡ table_in trees (scope_at trees number)
table_beyond trees tables number t right far found =
    let scopes = wide_scopes trees in
    let beyond : length scopes ≤ number =
    omega (arith, length-map tables summary, length-map scopes (table_in trees), ap length right.all) in
    table_at trees tables 0 t right found ∙ ap (table_in trees) (sym (get_or_past scopes number everywhere beyond))

pub table_known : (trees : List Tree) (tables : List Table) (number known : ℕ) (t : Table) → AreTables trees tables → (number < length tables) × (known ≡ number) ⊎ (length tables ≤ number) × (known ≡ 0) → slice_get tables known ≡ Some t → summary t ≡ table_in trees (scope_at trees number)
table_known trees tables number known t right (inl (below, e)) found = table_at trees tables number t right (subst (λ n. slice_get tables n ≡ Some t) e found)
table_known trees tables number known t right (inr (far, e)) found = table_beyond trees tables number t right far (subst (λ n. slice_get tables n ≡ Some t) e found)

pub machines_added : (start ms : List Table) (slice ds : List Declared) → start ≡ [] → slice ≡ ds → summaries ms ≡ summaries start ++ map machine_table (flat_map machine_in (declarations_of slice)) → summaries ms ≡ map machine_table (flat_map machine_in (declarations_of ds))
machines_added start ms slice ds none same e = e ∙ ap (λ ts. summaries ts ++ map machine_table (flat_map machine_in (declarations_of slice))) none ∙ ap (λ xs. map machine_table (flat_map machine_in (declarations_of xs))) same

-- A machine has a name where the tables say so.

pub machine_named : (text : List ℕ) (ms : List Machine) → list_any (is_machine_named text) (map within ms) ≡ is_among (map (λ (m : Machine). m.name.text) ms) text
machine_named text [] = refl
machine_named text (m ∷ ms) = let tail = machine_named text ms in cc

pub bears_machine : (trees : List Tree) (tables : List Table) (text : List ℕ) → AreTables trees tables → list_any (λ (s : ScopeTable). is_machine_named text s.scope) (summaries tables) ≡ is_among (machine_names trees) text
bears_machine trees tables text right =
    ap (list_any (λ (s : ScopeTable). is_machine_named text s.scope)) right.all
    ∙ list_any_map (λ (s : ScopeTable). is_machine_named text s.scope) (table_in trees) (wide_scopes trees)
    ∙ machine_named text (machines_of trees)

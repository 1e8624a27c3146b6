-- The kind of references to a table's lines is that of the machine's type of such lines.
use Rattle.std.proofs.Common.{◌≡◌, ◌∙◌, ◌<◌, ◌==◌, ◌&&◌, ◌||◌, ℕ, zero, suc, Bool, true, false, not, cond, Option, None, Some, List, [], ◌∷◌, All, slice_get, unwrap_or, refl, sym, ap, subst, option_and_then, if◌then◌else◌, arith}
use Rattle.std.specs.List.{list_any}
use Rattle.std.proofs.lemmas.Bool.{and_parts, eq-eqb, eqb-true}
use Rattle.std.proofs.lemmas.List.Elements.{All-cons, All-nil}
use Rattle.ruby_value.specs.declared.kind.Kind.{Kind}
use Rattle.ruby_value.specs.declared.kind.Kind.TheVariants as kind
use Rattle.ruby_symbols.specs.declared.machine.MachineSymbols.{MachineSymbols}
use Rattle.ruby_symbols.specs.declared.machine.TableSort.{TableSort}
use Rattle.ruby_symbols.specs.declared.machine.TableSort.TheVariants as table_sort
use Rattle.ruby_symbols.specs.declared.machine.TableSymbol.{TableSymbol}
use Rattle.ruby_symbols.specs.Kinds.{kind_of_reference}
use Rattle.ruby_symbols.specs.Prelude.{is_number}
use Rattle.slicc_ast.specs.declared.tree.declaration.Structure.{Structure}
use Rattle.slicc_ast.specs.declared.tree.item.Tree.{Tree}
use Rattle.slicc_ast.specs.declared.tree.machine.Machine.{Machine}
use Rattle.slicc_plan.specs.Declarations.{Declaration, object, parameter, within, machine_declarations}
use Rattle.slicc_plan.specs.Machines.{tbe_structure}
use Rattle.slicc_plan.specs.Prelude.{machine_symbols}
use Rattle.slicc_plan.specs.SymbolsOfMachines.{line_number, machine_symbols as symbols_made, table_of_sort, table_symbol}
use Rattle.slicc_plan.specs.Tables.{line_structure, table_in}
use Rattle.slicc_plan.specs.TypeNumbers.{no_structure, reference_kind, structure_number, value_kind}
use Rattle.slicc_plan.specs.Types.{structured}
use Rattle.slicc_plan.proofs.NoReferences.{all_flat}
use Rattle.rules_symbols.proofs.TypeKinds.{reference_found}
use Rattle.body_code.specs.Kinds.{code_kind, has_lines, has_tbes, is_tbes, lines_kind}
use Rattle.code_laws.specs.Setting.{IsSet, Setting}
use Rattle.code_laws.proofs.Structures.{at_place}

-- Each table has the structure of its lines.

abbrev HasLines : List Tree → Machine → TableSymbol → Type 0
HasLines trees m t = t.structure ≡ unwrap_or (line_number trees m (line_structure m t.sort)) no_structure

of_sort : (trees : List Tree) (m : Machine) (text : List ℕ) (o : Option TableSort) → All (HasLines trees m) (table_of_sort trees m text o)
of_sort trees m text None = All-nil (HasLines trees m)
of_sort trees m text (Some sort) = All-cons (HasLines trees m) _ [] refl (All-nil (HasLines trees m))

of_declaration : (trees : List Tree) (m : Machine) (d : Declaration) → All (HasLines trees m) (table_symbol trees m d)
of_declaration trees m (parameter p) = of_sort trees m p.name.text (table_in trees m (parameter p))
of_declaration trees m (object p) = of_sort trees m p.name.text (table_in trees m (object p))
of_declaration trees m _ = All-nil (HasLines trees m)

all_lines : (trees : List Tree) (number : ℕ) (m : Machine) → All (HasLines trees m) (machine_symbols trees number m).tables
unfolding symbols_made
all_lines trees number m = all_flat (HasLines trees m) (table_symbol trees m) (of_declaration trees m) (machine_declarations m)

tbe_number : (trees : List Tree) (number : ℕ) (m : Machine) → (machine_symbols trees number m).tbe ≡ line_number trees m (tbe_structure m)
unfolding symbols_made
tbe_number trees number m = refl

-- Lists of tables.

any_there : (p : TableSymbol → Bool) (ts : List TableSymbol) (n : ℕ) (t : TableSymbol) → slice_get ts n ≡ Some t → p t ≡ true → list_any p ts ≡ true
any_there p [] n t found is = absurd (cc found)
any_there p (x ∷ ts) zero t found is = let same : x ≡ t = cc found in ap (λ b. b || list_any p ts) (ap p same ∙ is)
any_there p (x ∷ ts) (suc n) t found is = by (p x) (any_there p ts n t found is)
  where
    by : (b : Bool) → list_any p ts ≡ true → (b || list_any p ts) ≡ true
    by true e = refl
    by false e = e

none_any : (p : TableSymbol → Bool) (ts : List TableSymbol) → ((n : ℕ) (t : TableSymbol) → slice_get ts n ≡ Some t → p t ≡ false) → list_any p ts ≡ false
none_any p [] each = refl
none_any p (t ∷ ts) each = ap (λ b. b || list_any p ts) (each 0 t refl) ∙ none_any p ts (λ n u found. each (suc n) u found)

module _ (z : Setting) (is : IsSet z) where
  abbrev M : MachineSymbols
  M = z.s.machine

  lines_of : (n : ℕ) (t : TableSymbol) → slice_get M.tables n ≡ Some t → HasLines z.trees z.m t
  lines_of n t found =
      at_place (HasLines z.trees z.m) (machine_symbols z.trees z.s.number z.m).tables t n (all_lines z.trees z.s.number z.m) (subst (λ (m : MachineSymbols). slice_get m.tables n ≡ Some t) is.machine found)

  -- a TBE table with lines of that structure
  tbe_is : (n place : ℕ) (t : TableSymbol) → n < 65535 → slice_get M.tables place ≡ Some t → is_tbes t.sort ≡ true → t.structure ≡ n → M.tbe ≡ Some n
  tbe_is n place t few found sort of = by t.sort sort (sym of ∙ lines_of place t found)
    where
      numbered : (o : Option ℕ) → n ≡ unwrap_or o no_structure → o ≡ Some n
      numbered None e = absurd (omega (arith, e, few))
      numbered (Some k) e = ap Some (sym e)

      by : (s : TableSort) → is_tbes s ≡ true → n ≡ unwrap_or (line_number z.trees z.m (line_structure z.m s)) no_structure → M.tbe ≡ Some n
      by (table_sort.Tbe entries) so e = ap (λ (m : MachineSymbols). m.tbe) is.machine ∙ tbe_number z.trees z.s.number z.m ∙ numbered (line_number z.trees z.m (tbe_structure z.m)) e
      by table_sort.Cache so e = absurd (cc so)
      by table_sort.Directory so e = absurd (cc so)

  -- the kind of references to that structure
  module _ (n : ℕ) (few : n < 65535) (place : ℕ) (t : TableSymbol) (found : slice_get M.tables place ≡ Some t) (of : t.structure ≡ n) where
    has_it : has_lines M n ≡ true
    has_it = any_there (λ (x : TableSymbol). x.structure == n) M.tables place t found (eq-eqb t.structure n of)

    not_none : (n == no_structure) ≡ false
    not_none = by (n == no_structure) refl
      where
        by : (b : Bool) → (n == no_structure) ≡ b → b ≡ false
        by false e = refl
        by true e = absurd (omega (arith, few, eqb-true n no_structure e))

    chosen : Bool → Kind
    chosen b = if b then kind.Tbe n else kind.Entry n

    -- by whether the table is one of TBEs, and whether any such table has the structure
    lines_by : lines_kind M t ≡ (if is_tbes t.sort || has_tbes M n then kind.Tbe n else kind.Entry n)
    lines_by =
        ap (λ k. if is_tbes t.sort || not (k == no_structure) && has_tbes M k then kind.Tbe k else kind.Entry k) of
        ∙ ap (λ b. if is_tbes t.sort || not b && has_tbes M n then kind.Tbe n else kind.Entry n) not_none

    tbes_there : is_tbes t.sort ≡ true → has_tbes M n ≡ true
    tbes_there sort = any_there (λ (x : TableSymbol). is_tbes x.sort && x.structure == n) M.tables place t found (ap (λ b. b && t.structure == n) sort ∙ eq-eqb t.structure n of)

    tbe_case : (a b : Bool) → is_tbes t.sort ≡ a → has_tbes M n ≡ b → (if has_tbes M n || not (has_lines M n) then kind.Tbe n else kind.Entry n) ≡ (if is_tbes t.sort || has_tbes M n then kind.Tbe n else kind.Entry n)
    tbe_case a true x y =
        ap (λ v. if v || not (has_lines M n) then kind.Tbe n else kind.Entry n) y
        ∙ sym (ap (λ v. if is_tbes t.sort || v then kind.Tbe n else kind.Entry n) y ∙ ap (λ v. if v then kind.Tbe n else kind.Entry n) (or_last (is_tbes t.sort)))
      where
        or_last : (v : Bool) → (v || true) ≡ true
        or_last true = refl
        or_last false = refl
    tbe_case true false x y = absurd (cc (sym (tbes_there x) ∙ y))
    tbe_case false false x y =
        ap (λ v. if v || not (has_lines M n) then kind.Tbe n else kind.Entry n) y ∙ ap (λ v. if not v then kind.Tbe n else kind.Entry n) has_it
        ∙ sym (ap (λ v. if v || has_tbes M n then kind.Tbe n else kind.Entry n) x ∙ ap (λ v. if v then kind.Tbe n else kind.Entry n) y)

    pub kind_by : (k : Kind) → kind_of_reference M n ≡ Some k → code_kind M k ≡ lines_kind M t
    kind_by k e = by (is_number M.tbe (Some n)) refl e ∙ sym lines_by
      where
        entry : is_number M.tbe (Some n) ≡ false → kind.Entry n ≡ (if is_tbes t.sort || has_tbes M n then kind.Tbe n else kind.Entry n)
        entry none =
            sym (ap (λ v. if v || has_tbes M n then kind.Tbe n else kind.Entry n) (no_sort (is_tbes t.sort) refl) ∙ ap (λ v. if v then kind.Tbe n else kind.Entry n) (none_any (λ (x : TableSymbol). is_tbes x.sort && x.structure == n) M.tables no_table))
          where
            itself : M.tbe ≡ Some n → ⊥
            itself same = cc (sym none ∙ ap (λ o. is_number o (Some n)) same ∙ eq-eqb n n refl)

            no_sort : (b : Bool) → is_tbes t.sort ≡ b → b ≡ false
            no_sort false x = refl
            no_sort true x = absurd (itself (tbe_is n place t few found x of))

            no_table : (j : ℕ) (x : TableSymbol) → slice_get M.tables j ≡ Some x → (is_tbes x.sort && x.structure == n) ≡ false
            no_table j x there = no (is_tbes x.sort && x.structure == n) refl
              where
                no : (b : Bool) → (is_tbes x.sort && x.structure == n) ≡ b → b ≡ false
                no false y = refl
                no true y = let parts = and_parts (is_tbes x.sort) (x.structure == n) y in absurd (itself (tbe_is n j x few there parts.0 (eqb-true x.structure n parts.1)))

        other : (v : Bool) → cond v (Some (kind.Entry n)) None ≡ Some k → kind.Entry n ≡ k
        other true e = cc e
        other false e = absurd (cc e)

        by : (b : Bool) → is_number M.tbe (Some n) ≡ b → cond b (Some (kind.Tbe n)) (cond (is_number M.entry (Some n) || is_number M.directory (Some n)) (Some (kind.Entry n)) None) ≡ Some k
            → code_kind M k ≡ (if is_tbes t.sort || has_tbes M n then kind.Tbe n else kind.Entry n)
        by true same e = let one : kind.Tbe n ≡ k = cc e in ap (code_kind M) (sym one) ∙ tbe_case (is_tbes t.sort) (has_tbes M n) refl refl
        by false none e = ap (code_kind M) (sym (other _ e)) ∙ entry none

  -- lines of a structure that the machine has
  pub line_kind_is : (place : ℕ) (t : TableSymbol) (s : Structure) (k : Kind) → slice_get M.tables place ≡ Some t → line_structure z.m t.sort ≡ Some s → value_kind z.trees z.m (structured (within z.m) s) ≡ Some k → code_kind M k ≡ lines_kind M t
  line_kind_is place t s k found has kind_is = by (structure_number z.trees (structured (within z.m) s)) refl kind_is
    where
      by : (o : Option ℕ) → structure_number z.trees (structured (within z.m) s) ≡ o → option_and_then (reference_kind z.m (within z.m) s) o ≡ Some k → code_kind M k ≡ lines_kind M t
      by None number e = absurd (cc e)
      by (Some n) number e =
          let of : t.structure ≡ n = lines_of place t found ∙ ap (λ o. unwrap_or (line_number z.trees z.m o) no_structure) has ∙ ap (λ o. unwrap_or o no_structure) number in
          let same : kind_of_reference M n ≡ Some k = ap (λ (m : MachineSymbols). kind_of_reference m n) is.machine ∙ reference_found z.trees z.s.number z.m (within z.m) s n number ∙ e in
          kind_by n (is.few_structures n (within z.m) s number) place t found of k same

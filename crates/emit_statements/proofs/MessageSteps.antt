-- The fields of messages that are made or kept, one after another.
use Rattle.std.proofs.Common.{◌≡◌, ◌∙◌, ◌++◌, ◌∷◌, ◌+◌, ◌-◌, ◌<◌, ◌≤◌, ℕ, zero, suc, Bool, true, List, [], Option, Some, Result, Ok, drop, get_or, length, map, reverse, take, refl, sym, ap, arith}
use Rattle.std.specs.Prelude.{codes}
use Rattle.std.specs.Result.{OnOk}
use Rattle.std.proofs.lemmas.Result.{on_ok_weaker}
use Rattle.ruby_base.specs.declared.memory.NoMemory.{NoMemory}
use Rattle.slicc_ast.specs.declared.tree.expression.Expr.{Expr}
use Rattle.std.specs.List.{enumerate_from}
use Rattle.std.proofs.lemmas.List.{append-nil, append_assoc, drop_all, drop_more, get_or-reverse, length-reverse, take_all, take_more}
use Rattle.ruby_value.specs.declared.kind.Kind.{Kind}
use Rattle.ruby_value.specs.declared.kind.Kind.TheVariants as kind
use Rattle.ruby_symbols.specs.declared.types.FieldSymbol.{FieldSymbol}
use Rattle.ruby_symbols.specs.declared.types.StructureSymbol.{StructureSymbol}
use Rattle.action_code.specs.declared.instr.Instr.{Instr}
use Rattle.action_code.specs.declared.instr.Instr.TheVariants as instr
use Rattle.body_meaning.specs.Prelude.{Reading}
use Rattle.body_code.specs.declared.left.Home.TheVariants as home
use Rattle.body_code.specs.declared.left.NameAt.{NameAt}
use Rattle.body_code.specs.declared.numbers.BodyNumbers.{BodyNumbers}
use Rattle.body_code.specs.declared.own.Locals.{Locals}
use Rattle.body_code.specs.declared.own.Own.{Own}
use Rattle.body_code.specs.Prelude.{Ending, Line, field_kinds, just, kept_for, with_name, ◌⨾◌}
use Rattle.body_code.specs.Statements.{each_field, field_set, fields_kept, fields_set, latency, opened, sent}
use Rattle.emit_expressions.specs.Prelude.{Adds, AddsIfOk}
use Rattle.emit_expressions.proofs.Adding.{adds_then}
use Rattle.emit_statements.specs.Prelude.{WritesLine}
use Rattle.emit_statements.proofs.Following.{line_adds, line_own, line_wrote, with_these}
use Rattle.emit_statements.proofs.Pushing.{on_ok_adds}

-- What is set in a new message.

pub fields_more : (fields : List FieldSymbol) (k : ℕ) (f : FieldSymbol) (code longer whole : List Instr) → k < length fields → f ≡ get_or fields k f → longer ≡ code ++ field_set (k, f)
    → code ++ fields_set (enumerate_from k (drop k fields)) ≡ whole → longer ++ fields_set (enumerate_from (k + 1) (drop (k + 1) fields)) ≡ whole
fields_more fields k f code longer whole below is first kept =
    ap (λ (xs : List Instr). xs ++ fields_set (enumerate_from (k + 1) (drop (k + 1) fields))) first
    ∙ append_assoc code (field_set (k, f)) (fields_set (enumerate_from (k + 1) (drop (k + 1) fields)))
    ∙ ap (λ (x : FieldSymbol). code ++ fields_set (enumerate_from k (x ∷ drop (k + 1) fields))) is
    ∙ sym (ap (λ (xs : List FieldSymbol). code ++ fields_set (enumerate_from k xs)) (drop_more fields k f below))
    ∙ kept

pub fields_end : (fields : List FieldSymbol) (k : ℕ) (code whole : List Instr) → length fields ≤ k → code ++ fields_set (enumerate_from k (drop k fields)) ≡ whole → code ≡ whole
fields_end fields k code whole past kept =
    sym (append-nil code) ∙ sym (ap (λ (xs : List FieldSymbol). code ++ fields_set (enumerate_from k xs)) (drop_all k fields past)) ∙ kept

-- An instruction for each field, by its number.

module _ (i : ℕ → Instr) where
  abbrev pub each_from : ℕ → List Kind → List Instr
  each_from k kinds = map (λ (f : ℕ × Kind). i f.0) (enumerate_from k kinds)

  pub each_more : (kinds : List Kind) (k : ℕ) (code longer whole : List Instr) → k < length kinds → longer ≡ code ++ i k ∷ []
      → code ++ each_from k (drop k kinds) ≡ whole → longer ++ each_from (k + 1) (drop (k + 1) kinds) ≡ whole
  each_more kinds k code longer whole below first kept =
      ap (λ (xs : List Instr). xs ++ each_from (k + 1) (drop (k + 1) kinds)) first
      ∙ append_assoc code (i k ∷ []) (each_from (k + 1) (drop (k + 1) kinds))
      ∙ sym (ap (λ (xs : List Kind). code ++ each_from k xs) (drop_more kinds k kind.Bool below))
      ∙ kept

  pub each_end : (kinds : List Kind) (k : ℕ) (code whole : List Instr) → length kinds ≤ k → code ++ each_from k (drop k kinds) ≡ whole → code ≡ whole
  each_end kinds k code whole past kept =
      sym (append-nil code) ∙ sym (ap (λ (xs : List Kind). code ++ each_from k xs) (drop_all k kinds past)) ∙ kept

  pub length_each : (from : ℕ) (kinds : List Kind) → length (each_from from kinds) ≡ length kinds
  length_each from [] = refl
  length_each from (k ∷ ks) = ap (λ (n : ℕ). suc n) (length_each (from + 1) ks)

  each_at : (from k : ℕ) (kinds : List Kind) → k < length kinds → get_or (each_from from kinds) k instr.Ret ≡ i (from + k)
  each_at from k [] below = absurd (omega arith)
  each_at from zero (x ∷ ks) below = ap i (omega arith)
  each_at from (suc k) (x ∷ ks) below =
      let b : k < length ks = omega arith in
      each_at (from + 1) k ks b ∙ ap i (omega arith)

  -- the same from the last one on
  pub each_back : (kinds : List Kind) (j : ℕ) (code longer start : List Instr) → j < length kinds → longer ≡ code ++ i (length kinds - 1 - j) ∷ []
      → code ≡ start ++ take j (reverse (each_from 0 kinds)) → longer ≡ start ++ take (j + 1) (reverse (each_from 0 kinds))
  each_back kinds j code longer start below first kept =
      let xs : List Instr = each_from 0 kinds in
      let long : length xs ≡ length kinds = length_each 0 kinds in
      let within : j < length xs = omega arith in
      let within_back : j < length (reverse xs) = simp length-reverse (omega arith) in
      let there : get_or (reverse xs) j instr.Ret ≡ i (length kinds - 1 - j) =
      get_or-reverse xs j instr.Ret within
      ∙ ap (λ (n : ℕ). get_or xs (n - 1 - j) instr.Ret) long
      ∙ each_at 0 (length kinds - 1 - j) kinds (omega arith)
      ∙ ap i (omega arith) in
      first
      ∙ ap (λ (ys : List Instr). ys ++ i (length kinds - 1 - j) ∷ []) kept
      ∙ append_assoc start (take j (reverse xs)) (i (length kinds - 1 - j) ∷ [])
      ∙ ap (λ (x : Instr). start ++ (take j (reverse xs) ++ x ∷ [])) (sym there)
      ∙ ap (λ (ys : List Instr). start ++ ys) (sym (take_more (reverse xs) j instr.Ret within_back))

  pub each_back_end : (kinds : List Kind) (j : ℕ) (code start : List Instr) → length kinds ≤ j → code ≡ start ++ take j (reverse (each_from 0 kinds)) → code ≡ start ++ reverse (each_from 0 kinds)
  each_back_end kinds j code start past kept =
      let xs : List Instr = each_from 0 kinds in
      let long : length xs ≡ length kinds = length_each 0 kinds in
      let all : length (reverse xs) ≤ j = simp length-reverse (omega arith) in
      kept ∙ ap (λ (ys : List Instr). start ++ ys) (take_all j (reverse xs) all)

pub new_message : {A : Type 0} (structure : ℕ) (t : StructureSymbol) (fields : List FieldSymbol) (old mid new : List Instr) (result : Result A NoMemory)
    → fields ≡ t.fields → mid ≡ old ++ instr.New structure ∷ [] → OnOk result (new ≡ mid ++ fields_set (enumerate_from 0 fields)) → AddsIfOk (opened structure t) result old new
new_message structure t fields old mid new result same first rest =
    on_ok_adds (instr.New structure ∷ fields_set (enumerate_from 0 t.fields)) result old new
    (on_ok_weaker result (λ h.
    h ∙ ap (λ (xs : List Instr). xs ++ fields_set (enumerate_from 0 fields)) first ∙ append_assoc old (instr.New structure ∷ []) (fields_set (enumerate_from 0 fields))
    ∙ ap (λ (fs : List FieldSymbol). old ++ instr.New structure ∷ fields_set (enumerate_from 0 fs)) same) rest)

-- the fields of a message, by the count of them
pub each_count : (count : ℕ) (one two : Option StructureSymbol) → count ≡ length (field_kinds one) → one ≡ two → count ≡ length (field_kinds two)
each_count count one two many same = many ∙ ap (λ (t : Option StructureSymbol). length (field_kinds t)) same

-- what is kept of the message around, and then its latency and the sending
module _ (s : Reading) (n : BodyNumbers) (ending : Ending) where
  pub sent_writes : (buffer : ℕ) (written : Option Expr) (outer : Option ℕ) (own later : Own) (names : List NameAt) (goes : Bool) (c0 c1 c2 c3 : List Instr)
      → names ≡ own.names → WritesLine (fields_kept s outer own) (Ok goes) c0 c1 later → Adds (latency s n ending written later) c1 c2 → c3 ≡ c2 ++ instr.Send buffer ∷ []
      → WritesLine (sent s n ending buffer written outer own) (Ok true) c0 c3 (record { names = names; locals = later.locals })
  sent_writes buffer written outer own later names goes c0 c1 c2 c3 same kept second third =
      let l : Line = fields_kept s outer own in
      let later_is : later ≡ l.own = line_own l goes c0 c1 later kept in
      line_wrote (sent s n ending buffer written outer own) true c0 c3 (record { names = names; locals = later.locals }) refl
      (ap (λ (xs : List NameAt). record { names = xs; locals = later.locals }) same ∙ ap (λ (o : Own). record { names = own.names; locals = o.locals }) later_is)
      (adds_then c0 c2 c3 (l.code ⨾ latency s n ending written l.own) (just (instr.Send buffer ∷ []))
      (adds_then c0 c1 c2 l.code (latency s n ending written l.own) (line_adds l goes c0 c1 later kept)
      (second ∙ ap (λ (o : Own). c1 ++ latency s n ending written o (length c1)) later_is))
      third)

module _ (s : Reading) where
  pub kept_writes : (structure first : ℕ) (own : Own) (locals : Locals) (names : List NameAt) (c0 c1 : List Instr)
      → first ≡ (kept_for s.symbols structure own.locals).slot → locals ≡ (kept_for s.symbols structure own.locals).locals
      → c1 ≡ c0 ++ reverse (each_field (λ k. instr.Store (first + k)) s structure) → names ≡ with_name (codes "out_msg") (home.Kept structure first) own.names
      → WritesLine (fields_kept s (Some structure) own) (Ok true) c0 c1 (record { names = names; locals = locals })
  kept_writes structure first own locals names c0 c1 slot_is locals_are first_code names_are =
      let slot : ℕ = (kept_for s.symbols structure own.locals).slot in
      line_wrote (fields_kept s (Some structure) own) true c0 c1 (record { names = names; locals = locals }) refl
      (ap (λ (xs : List NameAt). record { names = xs; locals = locals }) (names_are ∙ ap (λ (x : ℕ). with_name (codes "out_msg") (home.Kept structure x) own.names) slot_is)
      ∙ with_these (with_name (codes "out_msg") (home.Kept structure slot) own.names) locals _ locals_are)
      (first_code ∙ ap (λ (x : ℕ). c0 ++ reverse (each_field (λ k. instr.Store (x + k)) s structure)) slot_is)

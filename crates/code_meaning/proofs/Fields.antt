-- What is read of lines and messages of a machine that the program declares has the kinds that verification gives it.
use Rattle.std.proofs.Common.{◌≡◌, ℕ, true, false, Option, None, Some, List, [], Result, Ok, Err, All, IfSome, IsSomeAnd, IsTrue, nat_lt, slice_get, unwrap_or, refl, sym, ap, subst, ◌∙◌}
use Rattle.std.proofs.lemmas.Bool.{and_parts}
use Rattle.std.specs.Option.{option_map}
use Rattle.ruby_value.specs.declared.fault.Fault.{Fault}
use Rattle.ruby_value.specs.declared.kind.Kind.{Kind}
use Rattle.ruby_value.specs.declared.kind.Kind.TheVariants as kind
use Rattle.ruby_value.specs.declared.message.Message.{Message}
use Rattle.ruby_value.specs.declared.setup.BufferSetup.{BufferSetup}
use Rattle.ruby_value.specs.declared.setup.MachineSetup.{MachineSetup}
use Rattle.ruby_value.specs.declared.setup.TableSetup.{TableSetup}
use Rattle.ruby_value.specs.declared.value.Ref.{Ref}
use Rattle.ruby_value.specs.declared.value.Value.{Value}
use Rattle.ruby_value.specs.declared.value.Value.TheVariants as value
use Rattle.ruby_value.specs.Prelude.{has_kind, has_kinds, is_reference, line_limit}
use Rattle.ctl_face.specs.Prelude.{IsBufferSetup, IsLawful, IsMachine, IsTableSetup, LocalView, get, required_front}
use Rattle.ctl_face.proofs.Lines.{All-found}
use Rattle.ctl_face.proofs.Reading.{get_kind, peek_buffer, peek_kinds}
use Rattle.acts.specs.declared.body_fault.BodyFault.TheVariants as own
use Rattle.acts.specs.Act as act
use Rattle.acts.specs.Prelude.{◌>>=◌, act as done, found, reads}
use Rattle.built_in_acts.specs.Prelude.{field_of as field_acts}
use Rattle.action_code.specs.declared.program.BufferDecl.{BufferDecl}
use Rattle.action_code.specs.declared.program.MachineDecl.{MachineDecl}
use Rattle.action_code.specs.declared.program.Program.{Program}
use Rattle.action_code.specs.declared.program.TableDecl.{TableDecl}
use Rattle.action_code.specs.Prelude.{buffer_at, field_of, kind_of_table, structure_of, tables_of}
use Rattle.code_meaning.specs.Prelude.{IsBufferAt, IsDeclared, IsTableAt, are_of_kinds, has_lines_of, is_line_of, is_of_kind, kinds_of}
use Rattle.code_meaning.specs.Answers.{HoldsOfAnswer as Holds}
use Rattle.code_meaning.proofs.Gives.{Gives, act_gives, found_gives, then_gives}
use Rattle.code_meaning.proofs.OfKind.{bare_is, plain_are, plain_is, same_structure, table_structure}
use Rattle.code_meaning.proofs.Typed.{field_found, kinds_there}

module _ (p : Program) (m : Option MachineDecl) (setup : MachineSetup) (declared : IsDeclared p m setup) where
  -- the setup of a table that is declared
  pub record SetupOf (t : TableDecl) (table : ℕ) : Type 0 where
    pub setup_there : TableSetup
    pub there : slice_get setup.tables table ≡ Some setup_there
    pub kinds : kinds_of p t.structure ≡ setup_there.kinds

  table_in : (t : TableDecl) (table : ℕ) (o : Option TableSetup) → slice_get setup.tables table ≡ o → IsTableAt p (Some t) o → SetupOf t table
  table_in t table None is at = absurd at
  table_in t table (Some s) is at = record { setup_there = s; there = is; kinds = at.kinds }

  pub table_setup : (t : TableDecl) (table : ℕ) → slice_get (tables_of m) table ≡ Some t → SetupOf t table
  table_setup t table found = table_in t table (slice_get setup.tables table) refl (subst (λ o. IsTableAt p o (slice_get setup.tables table)) found (declared.tables table))

  pub record BufferOf (b : BufferDecl) (buffer : ℕ) : Type 0 where
    pub setup_there : BufferSetup
    pub there : slice_get setup.buffers buffer ≡ Some setup_there
    pub kinds : kinds_of p b.message ≡ setup_there.kinds

  buffer_in : (b : BufferDecl) (buffer : ℕ) (o : Option BufferSetup) → slice_get setup.buffers buffer ≡ o → IsBufferAt p (Some b) o → BufferOf b buffer
  buffer_in b buffer None is at = absurd at
  buffer_in b buffer (Some s) is at = record { setup_there = s; there = is; kinds = at.kinds }

  pub buffer_setup : (b : BufferDecl) (buffer : ℕ) → buffer_at m buffer ≡ Some b → BufferOf b buffer
  buffer_setup b buffer found = buffer_in b buffer (slice_get setup.buffers buffer) refl (subst (λ o. IsBufferAt p o (slice_get setup.buffers buffer)) found (declared.buffers buffer))

  -- A field of a line.

  same_kind : (s : TableSetup) (kk : Kind) (field : ℕ) (y : Value) → slice_get s.kinds field ≡ Some kk → (o : Option TableSetup) → o ≡ Some s
      → IsSomeAnd (slice_get (unwrap_or (option_map (λ (u : TableSetup). u.kinds) o) []) field) (λ k. IsTrue (has_kind k y)) → has_kind kk y ≡ true
  same_kind s kk field y found o is takes =
      let P : Option TableSetup → Type 0 = λ x. IsSomeAnd (slice_get (unwrap_or (option_map (λ (u : TableSetup). u.kinds) x) []) field) (λ k. IsTrue (has_kind k y)) in
      let Q : Option Kind → Type 0 = λ x. IsSomeAnd x (λ k. IsTrue (has_kind k y)) in
      subst Q found (subst P is takes)

  plain_at : (kinds : List Kind) (i : ℕ) (k : Kind) → All (λ k. is_reference k ≡ false) kinds → slice_get kinds i ≡ Some k → is_reference k ≡ false
  plain_at kinds i k all found =
      let Q : Option Kind → Type 0 = λ x. IfSome x (λ k. is_reference k ≡ false) in
      subst Q found (All-found (λ k. is_reference k ≡ false) kinds i all)

  weaken_table : (o : Option TableSetup) → IfSome o IsTableSetup → IfSome o (λ (u : TableSetup). All (λ k. is_reference k ≡ false) u.kinds)
  weaken_table None h = tt
  weaken_table (Some s) h = h.plain

  tables_plain : (v : LocalView) → IsMachine v.machine → (table : ℕ) → IfSome (slice_get v.machine.tables table) (λ (u : TableSetup). All (λ k. is_reference k ≡ false) u.kinds)
  tables_plain v machine table = weaken_table (slice_get v.machine.tables table) (All-found IsTableSetup v.machine.tables table machine.tables)

  read_is : (r : Ref) (t : TableDecl) (field : ℕ) (k : Kind) (v : LocalView) → IsLawful v → v.machine ≡ setup → slice_get (tables_of m) r.table ≡ Some t → field_of p (Some t.structure) field ≡ Some k
      → (y : Value) → get v r field ≡ Ok y → is_of_kind (tables_of m) k y ≡ true
  read_is r t field k v lawful is found has y got =
      let s = table_setup t r.table found in
      let f = field_found p (tables_of m) (Some t.structure) field k has in
      let number : t.structure ≡ f.structure = cc f.is_structure in
      let same : s.setup_there.kinds ≡ f.kinds = sym s.kinds ∙ kinds_there p (tables_of m) t.structure f.structure f.kinds number f.has_kinds in
      let at : slice_get s.setup_there.kinds field ≡ Some f.declared = ap (λ (ks : List Kind). slice_get ks field) same ∙ f.has_field in
      let there : slice_get v.machine.tables r.table ≡ Some s.setup_there = ap (λ (x : MachineSetup). slice_get x.tables r.table) is ∙ s.there in
      let sort : has_kind f.declared y ≡ true = same_kind s.setup_there f.declared field y at (slice_get v.machine.tables r.table) there (get_kind v r field y lawful.scan got) in
      let Q : Option TableSetup → Type 0 = λ x. IfSome x (λ (u : TableSetup). All (λ k. is_reference k ≡ false) u.kinds) in
      let all : All (λ k. is_reference k ≡ false) s.setup_there.kinds = subst Q there (tables_plain v lawful.scan.machine r.table) in
      let of : is_of_kind (tables_of m) f.declared y ≡ true = plain_is (tables_of m) f.declared y (plain_at s.setup_there.kinds field f.declared all at) sort in
      subst (λ x. is_of_kind (tables_of m) x y ≡ true) f.is_kind (sym (bare_is (tables_of m) f.declared y) ∙ of)

  reads_hold : (k : Kind) (v : LocalView) (r : Result Value Fault) → ((y : Value) → r ≡ Ok y → is_of_kind (tables_of m) k y ≡ true) → Holds (λ y. is_of_kind (tables_of m) k y ≡ true) (reads v r)
  reads_hold k v (Ok y) each = each y refl
  reads_hold k v (Err f) each = tt

  line_gives : (r : Ref) (k0 : Kind) (field : ℕ) (k : Kind) (o : Option TableDecl) → slice_get (tables_of m) r.table ≡ o → has_lines_of (tables_of m) o k0 ≡ true → field_of p (structure_of k0) field ≡ Some k
      → Gives setup (λ y. is_of_kind (tables_of m) k y ≡ true) (done (act.Get r field))
  line_gives r k0 field k None found lines has = absurd (cc lines)
  line_gives r k0 field k (Some t) found lines has =
      let structure : structure_of k0 ≡ Some t.structure = sym (same_structure (kind_of_table (tables_of m) t) k0 lines) ∙ table_structure (tables_of m) t in
      let field_there : field_of p (Some t.structure) field ≡ Some k = subst (λ s. field_of p s field ≡ Some k) structure has in
      act_gives setup (act.Get r field) (λ y. is_of_kind (tables_of m) k y ≡ true) (λ v lawful is. reads_hold k v (get v r field) (read_is r t field k v lawful is found field_there))

  reference_gives : (k0 : Kind) (field : ℕ) (k : Kind) (r : Option Ref) → is_line_of (tables_of m) k0 r ≡ true → field_of p (structure_of k0) field ≡ Some k
      → Gives setup (λ y. is_of_kind (tables_of m) k y ≡ true) (found own.Reference r >>= (λ (r : Ref). done (act.Get r field)))
  reference_gives k0 field k None line has = then_gives setup (found_gives setup {R = λ (r : Ref). ⊥} own.Reference None tt) (λ r none. absurd none)
  reference_gives k0 field k (Some r) line has =
      then_gives setup (found_gives setup {R = λ x. x ≡ r} own.Reference (Some r) refl)
      (λ x is. subst (λ z. Gives setup (λ y. is_of_kind (tables_of m) k y ≡ true) (done (act.Get z field))) (sym is)
      (line_gives r k0 field k (slice_get (tables_of m) r.table) refl (and_parts (has_lines_of (tables_of m) (slice_get (tables_of m) r.table) k0) (nat_lt r.line line_limit) line).0 has))

  pub field_gives : (k0 : Kind) (x : Value) (field : ℕ) (k : Kind) → is_reference k0 ≡ true → is_of_kind (tables_of m) k0 x ≡ true → field_of p (structure_of k0) field ≡ Some k
      → Gives setup (λ y. is_of_kind (tables_of m) k y ≡ true) (field_acts x field)
  unfolding field_acts
  field_gives (kind.Entry n) (value.Entry r) field k ref is has = reference_gives (kind.Entry n) field k r is has
  field_gives (kind.Entry n) (value.Tbe r) field k ref is has = reference_gives (kind.Entry n) field k r is has
  field_gives (kind.Tbe n) (value.Entry r) field k ref is has = reference_gives (kind.Tbe n) field k r is has
  field_gives (kind.Tbe n) (value.Tbe r) field k ref is has = reference_gives (kind.Tbe n) field k r is has
  field_gives (kind.Entry n) x field k ref is has = absurd (cc is)
  field_gives (kind.Tbe n) x field k ref is has = absurd (cc is)
  field_gives k0 x field k ref is has = absurd (cc ref)

  -- The front of a buffer.

  weaken_buffer : (o : Option BufferSetup) → IfSome o IsBufferSetup → IfSome o (λ (u : BufferSetup). All (λ k. is_reference k ≡ false) u.kinds)
  weaken_buffer None h = tt
  weaken_buffer (Some s) h = h.plain

  front_is : (b : BufferDecl) (buffer : ℕ) (s : BufferOf b buffer) (v : LocalView) → IsLawful v → v.machine ≡ setup
      → (x : Message) → required_front v buffer ≡ Ok x → are_of_kinds (tables_of m) s.setup_there.kinds x.fields ≡ true
  front_is b buffer s v lawful is x got =
      let there : slice_get v.machine.buffers buffer ≡ Some s.setup_there = ap (λ (y : MachineSetup). slice_get y.buffers buffer) is ∙ s.there in
      let P : ℕ → Type 0 = λ n. IsTrue (has_kinds (unwrap_or (option_map (λ (u : BufferSetup). u.kinds) (slice_get v.machine.buffers n)) []) x.fields) in
      let Q : Option BufferSetup → Type 0 = λ o. IsTrue (has_kinds (unwrap_or (option_map (λ (u : BufferSetup). u.kinds) o) []) x.fields) in
      let fits : has_kinds s.setup_there.kinds x.fields ≡ true = subst Q there (subst P (peek_buffer v buffer x got) (peek_kinds v buffer x lawful.scan got)) in
      let R : Option BufferSetup → Type 0 = λ o. IfSome o (λ (u : BufferSetup). All (λ k. is_reference k ≡ false) u.kinds) in
      let all : All (λ k. is_reference k ≡ false) s.setup_there.kinds = subst R there (weaken_buffer (slice_get v.machine.buffers buffer) (All-found IsBufferSetup v.machine.buffers buffer lawful.scan.machine.buffers)) in
      plain_are (tables_of m) s.setup_there.kinds x.fields (λ i k. plain_at s.setup_there.kinds i k all) fits

  front_hold : (kinds : List Kind) (v : LocalView) (r : Result Message Fault) → ((x : Message) → r ≡ Ok x → are_of_kinds (tables_of m) kinds x.fields ≡ true) → Holds (λ (x : Message). are_of_kinds (tables_of m) kinds x.fields ≡ true) (reads v r)
  front_hold kinds v (Ok x) each = each x refl
  front_hold kinds v (Err f) each = tt

  pub front_gives : (b : BufferDecl) (buffer : ℕ) (s : BufferOf b buffer) → Gives setup (λ (x : Message). are_of_kinds (tables_of m) s.setup_there.kinds x.fields ≡ true) (done (act.Front buffer))
  front_gives b buffer s = act_gives setup (act.Front buffer) _ (λ v lawful is. front_hold s.setup_there.kinds v (required_front v buffer) (front_is b buffer s v lawful is))

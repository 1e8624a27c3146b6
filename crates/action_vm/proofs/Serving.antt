-- What instructions that break no rule ask of a lawful local of a machine that the program declares, its machine serves. The fields of its
-- lines and messages are no references, so that a value of a field's kind is one that the field may hold.
use Rattle.std.proofs.Common.{◌≡◌, ℕ, ◌&&◌, ◌==◌, suc, Bool, true, false, All, IfSome, Option, None, Some, List, [], ◌∷◌, is_some, nat_lt, slice_get, unwrap_or, refl, sym, ap, subst, ◌∙◌}
use Rattle.std.proofs.lemmas.Bool.{and_parts, eqb-true}
use Rattle.std.specs.Option.{option_and_then, option_map}
use Rattle.ruby_value.specs.declared.kind.Kind.{Kind}
use Rattle.ruby_value.specs.declared.kind.Kind.TheVariants as kind
use Rattle.ruby_value.specs.declared.setup.BufferPlace.{BufferPlace}
use Rattle.ruby_value.specs.declared.setup.BufferPlace.TheVariants as buffer_place
use Rattle.ruby_value.specs.declared.setup.BufferSetup.{BufferSetup}
use Rattle.ruby_value.specs.declared.setup.TableSetup.{TableSetup}
use Rattle.ruby_value.specs.declared.value.Ref.{Ref}
use Rattle.ruby_value.specs.declared.value.Value.{Value}
use Rattle.ruby_value.specs.declared.value.Value.TheVariants as value
use Rattle.ruby_value.specs.Prelude.{has_kind, has_kinds, is_reference, line_limit}
use Rattle.ctl_face.specs.Prelude.{IsBufferSetup, IsLawful, IsTableSetup, LocalView, buffer_place as place_at, field_kinds, message_kinds, receives, sends}
use Rattle.ctl_face.proofs.Lines.{All-found}
use Rattle.acts.specs.Act as act
use Rattle.acts.specs.Serves.{takes}
use Rattle.built_in_acts.specs.Prelude.{reference}
use Rattle.action_code.specs.declared.operand.Operand.TheVariants as operand
use Rattle.action_code.specs.declared.program.BufferDecl.{BufferDecl}
use Rattle.action_code.specs.declared.program.MachineDecl.{MachineDecl}
use Rattle.action_code.specs.declared.program.Program.{Program}
use Rattle.action_code.specs.declared.program.TableDecl.{TableDecl}
use Rattle.action_code.specs.Prelude.{accepts, bare, buffer_at, can_send, field_of, is_port, kind_of_table, operands_fit, sends_to, structure_of, tables_of, takes_from, wanted}
use Rattle.code_meaning.specs.Prelude.{IsBufferAt, IsDeclared, are_messages, are_of_kinds, has_lines_of, innermost, is_line_of, is_of_kind, kinds_of, place_of}
use Rattle.code_meaning.proofs.Fields.{table_setup}
use Rattle.code_meaning.proofs.OfKind.{bare_is, equal_is, same_structure, table_structure}
use Rattle.code_meaning.proofs.Typed.{field_found, kinds_there}
use Rattle.action_vm.specs.Served.{CanGet, CanSend, CanSet, IsServed}

both : (a b : Bool) → a ≡ true → b ≡ true → (a && b) ≡ true
both true b first second = second
both false b first second = absurd (cc first)

-- of a kind that is none of references
plain_kind : (tables : List TableDecl) (k : Kind) (v : Value) → is_reference k ≡ false → is_of_kind tables k v ≡ true → has_kind k v ≡ true
plain_kind tables (kind.Entry n) v plain is = absurd (cc plain)
plain_kind tables (kind.Tbe n) v plain is = absurd (cc plain)
plain_kind tables k v plain is = is

plain_kinds : (tables : List TableDecl) (ks : List Kind) (vs : List Value) → ((i : ℕ) (k : Kind) → slice_get ks i ≡ Some k → is_reference k ≡ false) → are_of_kinds tables ks vs ≡ true → has_kinds ks vs ≡ true
plain_kinds tables [] [] plain fits = refl
plain_kinds tables [] (v ∷ vs) plain fits = absurd (cc fits)
plain_kinds tables (k ∷ ks) [] plain fits = absurd (cc fits)
plain_kinds tables (k ∷ ks) (v ∷ vs) plain fits =
    let parts = and_parts (is_of_kind tables k v) (are_of_kinds tables ks vs) fits in
    both (has_kind k v) (has_kinds ks vs) (plain_kind tables k v (plain 0 k refl) parts.0) (plain_kinds tables ks vs (λ i l found. plain (suc i) l found) parts.1)

all_plain : (ks : List Kind) → All (λ k. is_reference k ≡ false) ks → (i : ℕ) (k : Kind) → slice_get ks i ≡ Some k → is_reference k ≡ false
all_plain ks all i k found = let Q : Option Kind → Type 0 = λ x. IfSome x (λ k. is_reference k ≡ false) in subst Q found (All-found (λ k. is_reference k ≡ false) ks i all)

module _ (p : Program) (m : Option MachineDecl) (v : LocalView) (lawful : IsLawful v) (declared : IsDeclared p m v.machine) where
  -- Lines.

  pub record FieldThere (r : Ref) (field : ℕ) (k : Kind) : Type 0 where
    pub declared_kind : Kind
    pub there : slice_get (field_kinds v.machine r.table) field ≡ Some declared_kind
    pub plain : is_reference declared_kind ≡ false
    pub is_kind : bare declared_kind ≡ k

  field_there : (r : Ref) (t : TableDecl) (field : ℕ) (k : Kind) → slice_get (tables_of m) r.table ≡ Some t → field_of p (Some t.structure) field ≡ Some k → FieldThere r field k
  field_there r t field k found has =
      let s = table_setup p m v.machine declared t r.table found in
      let f = field_found p (tables_of m) (Some t.structure) field k has in
      let number : t.structure ≡ f.structure = cc f.is_structure in
      let same : s.setup_there.kinds ≡ f.kinds = sym s.kinds ∙ kinds_there p (tables_of m) t.structure f.structure f.kinds number f.has_kinds in
      let at : slice_get s.setup_there.kinds field ≡ Some f.declared = ap (λ (ks : List Kind). slice_get ks field) same ∙ f.has_field in
      let Q : Option TableSetup → Type 0 = λ x. IfSome x IsTableSetup in
      let setup : IsTableSetup s.setup_there = subst Q s.there (All-found IsTableSetup v.machine.tables r.table lawful.scan.machine.tables) in
      record {
        declared_kind = f.declared;
        there = ap (λ (o : Option TableSetup). slice_get (unwrap_or (option_map (λ (u : TableSetup). u.kinds) o) []) field) s.there ∙ at;
        plain = all_plain s.setup_there.kinds setup.plain field f.declared at;
        is_kind = f.is_kind;
      }

  there_of : (r : Ref) (k0 : Kind) (field : ℕ) (k : Kind) (o : Option TableDecl) → slice_get (tables_of m) r.table ≡ o → has_lines_of (tables_of m) o k0 ≡ true → field_of p (structure_of k0) field ≡ Some k → FieldThere r field k
  there_of r k0 field k None found lines has = absurd (cc lines)
  there_of r k0 field k (Some t) found lines has =
      let structure : structure_of k0 ≡ Some t.structure = sym (same_structure (kind_of_table (tables_of m) t) k0 lines) ∙ table_structure (tables_of m) t in
      field_there r t field k found (subst (λ s. field_of p s field ≡ Some k) structure has)

  pub record LineThere (r : Ref) (field : ℕ) (k : Kind) : Type 0 where
    pub field_is : FieldThere r field k
    pub line : nat_lt r.line line_limit ≡ true

  line_of_kind : (k0 : Kind) (o : Option Ref) (field : ℕ) (k : Kind) (r : Ref) → is_line_of (tables_of m) k0 o ≡ true → field_of p (structure_of k0) field ≡ Some k → o ≡ Some r → LineThere r field k
  line_of_kind k0 None field k r is has same = absurd (cc same)
  line_of_kind k0 (Some q) field k r is has same =
      let equal : q ≡ r = cc same in
      let parts = and_parts (has_lines_of (tables_of m) (slice_get (tables_of m) q.table) k0) (nat_lt q.line line_limit) is in
      subst (λ x. LineThere x field k) equal (record { field_is = there_of q k0 field k (slice_get (tables_of m) q.table) refl parts.0 has; line = parts.1 })

  line_there : (k0 : Kind) (x : Value) (field : ℕ) (k : Kind) (r : Ref) → is_reference k0 ≡ true → is_of_kind (tables_of m) k0 x ≡ true → field_of p (structure_of k0) field ≡ Some k → reference x ≡ Some r → LineThere r field k
  line_there (kind.Entry n) (value.Entry o) field k r ref is has same = line_of_kind (kind.Entry n) o field k r is has same
  line_there (kind.Entry n) (value.Tbe o) field k r ref is has same = line_of_kind (kind.Entry n) o field k r is has same
  line_there (kind.Tbe n) (value.Entry o) field k r ref is has same = line_of_kind (kind.Tbe n) o field k r is has same
  line_there (kind.Tbe n) (value.Tbe o) field k r ref is has same = line_of_kind (kind.Tbe n) o field k r is has same
  line_there (kind.Entry n) x field k r ref is has same = absurd (cc is)
  line_there (kind.Tbe n) x field k r ref is has same = absurd (cc is)
  line_there k0 x field k r ref is has same = absurd (cc ref)

  has_some : (k0 : Kind) (field : ℕ) (o : Option Kind) → field_of p (structure_of k0) field ≡ o → is_some o ≡ true → (k : Kind) × (field_of p (structure_of k0) field ≡ Some k)
  has_some k0 field None has known = absurd (cc known)
  has_some k0 field (Some k) has known = (k, has)

  pub can_get : (ks : List Kind) (stack : List Value) (field : ℕ) → operands_fit m 0 (operand.Reference ∷ []) ks ≡ true → are_of_kinds (tables_of m) ks stack ≡ true
      → is_some (field_of p (option_and_then structure_of (slice_get ks 0)) field) ≡ true → CanGet v field stack
  can_get [] stack field fit typed known r same = absurd (cc fit)
  can_get (k0 ∷ ks) [] field fit typed known r same = absurd (cc typed)
  can_get (k0 ∷ ks) (x ∷ stack) field fit typed known r same =
      let has = has_some k0 field (field_of p (structure_of k0) field) refl known in
      let l = line_there k0 x field has.0 r (and_parts (is_reference k0) (operands_fit m 0 [] ks) fit).0
      (and_parts (is_of_kind (tables_of m) k0 x) (are_of_kinds (tables_of m) ks stack) typed).0 has.1 same in
      both (nat_lt r.line line_limit) (is_some (slice_get (field_kinds v.machine r.table) field)) l.line (ap (λ (o : Option Kind). is_some o) l.field_is.there)

  pub can_set : (ks : List Kind) (stack : List Value) (field : ℕ)
      → operands_fit m 0 (wanted (field_of p (option_and_then structure_of (slice_get ks 1)) field) ∷ operand.Reference ∷ []) ks ≡ true → are_of_kinds (tables_of m) ks stack ≡ true
      → is_some (field_of p (option_and_then structure_of (slice_get ks 1)) field) ≡ true → CanSet v field stack
  can_set [] stack field fit typed known r same = absurd (cc fit)
  can_set (kx ∷ []) stack field fit typed known r same = absurd (cc known)
  can_set (kx ∷ k0 ∷ ks) [] field fit typed known r same = absurd (cc typed)
  can_set (kx ∷ k0 ∷ ks) (y ∷ []) field fit typed known r same = absurd (cc (and_parts (is_of_kind (tables_of m) kx y) false typed).1)
  can_set (kx ∷ k0 ∷ ks) (y ∷ x ∷ stack) field fit typed known r same =
      let has = has_some k0 field (field_of p (structure_of k0) field) refl known in
      let fits = and_parts (accepts m 0 (wanted (field_of p (structure_of k0) field)) kx) (operands_fit m 0 (operand.Reference ∷ []) (k0 ∷ ks)) fit in
      let kinds = and_parts (is_of_kind (tables_of m) kx y) (are_of_kinds (tables_of m) (k0 ∷ ks) (x ∷ stack)) typed in
      let l = line_there k0 x field has.0 r (and_parts (is_reference k0) (operands_fit m 0 [] ks) fits.1).0 (and_parts (is_of_kind (tables_of m) k0 x) (are_of_kinds (tables_of m) ks stack) kinds.1).0 has.1 same in
      let accepted : accepts m 0 (operand.Value has.0) kx ≡ true = subst (λ o. accepts m 0 (wanted o) kx ≡ true) has.1 fits.0 in
      let of : is_of_kind (tables_of m) has.0 y ≡ true = equal_is (tables_of m) has.0 kx y accepted ∙ kinds.0 in
      let of_declared : is_of_kind (tables_of m) l.field_is.declared_kind y ≡ true = bare_is (tables_of m) l.field_is.declared_kind y ∙ subst (λ k. is_of_kind (tables_of m) k y ≡ true) (sym l.field_is.is_kind) of in
      both (nat_lt r.line line_limit) (takes (slice_get (field_kinds v.machine r.table) field) y) l.line
      (ap (λ (o : Option Kind). takes o y) l.field_is.there ∙ plain_kind (tables_of m) l.field_is.declared_kind y l.field_is.plain of_declared)

  -- Buffers.

  pub record BufferThere (b : BufferDecl) (buffer : ℕ) : Type 0 where
    pub setup_there : BufferSetup
    pub there : slice_get v.machine.buffers buffer ≡ Some setup_there
    pub place_is : b.place ≡ place_of setup_there.place
    pub kinds : kinds_of p b.message ≡ setup_there.kinds

  buffer_in : (b : BufferDecl) (buffer : ℕ) (o : Option BufferSetup) → slice_get v.machine.buffers buffer ≡ o → IsBufferAt p (Some b) o → BufferThere b buffer
  buffer_in b buffer None is at = absurd at
  buffer_in b buffer (Some s) is at = record { setup_there = s; there = is; place_is = at.place; kinds = at.kinds }

  buffer_there : (b : BufferDecl) (buffer : ℕ) → buffer_at m buffer ≡ Some b → BufferThere b buffer
  buffer_there b buffer found = buffer_in b buffer (slice_get v.machine.buffers buffer) refl (subst (λ o. IsBufferAt p o (slice_get v.machine.buffers buffer)) found (declared.buffers buffer))

  receives_from : (s : BufferPlace) → takes_from (place_of s) ≡ true → receives (Some s) ≡ true
  receives_from buffer_place.Local is = refl
  receives_from (buffer_place.To network destination) is = absurd (cc is)
  receives_from (buffer_place.From network) is = refl

  sends_on : (s : BufferPlace) → sends_to (place_of s) ≡ true → sends (Some s) ≡ true
  sends_on buffer_place.Local is = refl
  sends_on (buffer_place.To network destination) is = refl
  sends_on (buffer_place.From network) is = absurd (cc is)

  peek_by : (buffer : ℕ) (o : Option BufferDecl) → buffer_at m buffer ≡ o → is_port o ≡ true → IsServed v (act.Front buffer)
  peek_by buffer None found is = absurd (cc is)
  peek_by buffer (Some b) found is =
      let s = buffer_there b buffer found in
      ap (λ (o : Option BufferSetup). receives (option_map (λ (u : BufferSetup). u.place) o)) s.there ∙ receives_from s.setup_there.place (ap takes_from (sym s.place_is) ∙ is)

  pub can_peek : (buffer : ℕ) → is_port (buffer_at m buffer) ≡ true → IsServed v (act.Front buffer)
  can_peek buffer is = peek_by buffer (buffer_at m buffer) refl is

  send_by : (n buffer : ℕ) (fields stack : List Value) (o : Option BufferDecl) → buffer_at m buffer ≡ o → can_send (Some n) o ≡ true → are_of_kinds (tables_of m) (kinds_of p n) fields ≡ true → CanSend v buffer fields stack
  send_by n buffer fields stack None found can typed = absurd (cc can)
  send_by n buffer fields stack (Some b) found can typed =
      let s = buffer_there b buffer found in
      let parts = and_parts (b.message == n) (sends_to b.place) can in
      let of : are_of_kinds (tables_of m) s.setup_there.kinds fields ≡ true = subst (λ ks. are_of_kinds (tables_of m) ks fields ≡ true) (ap (kinds_of p) (sym (eqb-true b.message n parts.0)) ∙ s.kinds) typed in
      let Q : Option BufferSetup → Type 0 = λ x. IfSome x IsBufferSetup in
      let setup : IsBufferSetup s.setup_there = subst Q s.there (All-found IsBufferSetup v.machine.buffers buffer lawful.scan.machine.buffers) in
      both (sends (place_at v.machine buffer)) (has_kinds (message_kinds v.machine buffer) fields)
      (ap (λ (o : Option BufferSetup). sends (option_map (λ (u : BufferSetup). u.place) o)) s.there ∙ sends_on s.setup_there.place (ap sends_to (sym s.place_is) ∙ parts.1))
      (ap (λ (o : Option BufferSetup). has_kinds (unwrap_or (option_map (λ (u : BufferSetup). u.kinds) o) []) fields) s.there ∙ plain_kinds (tables_of m) s.setup_there.kinds fields (all_plain s.setup_there.kinds setup.plain) of)

  pub can_send_it : (types : List ℕ) (made : List (List Value)) (buffer : ℕ) (stack : List Value) → are_messages p (tables_of m) types made ≡ true → can_send (slice_get types 0) (buffer_at m buffer) ≡ true → CanSend v buffer (innermost made) stack
  can_send_it [] made buffer stack typed can = absurd (cc can)
  can_send_it (n ∷ types) [] buffer stack typed can = absurd (cc typed)
  can_send_it (n ∷ types) (fields ∷ made) buffer stack typed can =
      send_by n buffer fields stack (buffer_at m buffer) refl can (and_parts (are_of_kinds (tables_of m) (kinds_of p n) fields) (are_messages p (tables_of m) types made) typed).0

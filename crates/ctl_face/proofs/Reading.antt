-- What is read of a lawful local has its kinds.
use Rattle.std.proofs.Common.{◌≡◌, ℕ, zero, suc, Bool, true, false, cond, List, [], ◌∷◌, All, IsTrue, IfSome, IsSomeAnd, subst, Option, None, Some, Ok, Err, length, ◌%◌, slice_get, unwrap_or, eqb, ◌&&◌}
use Rattle.std.proofs.lemmas.List.Elements.{All-head, All-contains}
use Rattle.std.proofs.lemmas.Bool.{and_parts, eqb-true}
use Rattle.std.specs.Bool.{nat_le}
use Rattle.std.specs.Option.{option_and_then, option_map, ok_or}
use Rattle.ruby_value.specs.declared.fault.Fault.TheVariants.{Front, Probe, Reference}
use Rattle.ruby_value.specs.declared.kind.Kind.{Kind}
use Rattle.ruby_value.specs.declared.message.Message.{Message}
use Rattle.ruby_value.specs.declared.value.Ref.{Ref}
use Rattle.ruby_value.specs.declared.value.Value.{Value}
use Rattle.ruby_value.specs.declared.setup.BufferSetup.{BufferSetup}
use Rattle.ruby_value.specs.declared.setup.TableSetup.{TableSetup}
use Rattle.ctl_face.specs.Prelude.{fields_in, avail, least_used_in, probe, FitsLine, FitsMessage, FitsTableAt, ScanFits, IsFront, get, fields_behind, LocalView, incoming_message, required_front, front_now, TakesField, TakesMessage, Table, CacheTable, DirectoryTable, TbeTable, ParameterTable}
use Rattle.ruby_value.specs.Prelude.{Line, set_of, IsLine, has_kinds, has_kind}
use Rattle.ctl_face.proofs.Fronts.{front_first}
use Rattle.ctl_face.proofs.Lines.{All-at}
use Rattle.ctl_face.proofs.TableCalls.{kinds_in}

field_kind : (kinds : List Kind) (fields : List Value) (field : ℕ) (value : Value) → IsTrue (has_kinds kinds fields) → slice_get fields field ≡ Some value → IsSomeAnd (slice_get kinds field) (λ k. IsTrue (has_kind k value))
field_kind kinds [] field value all is = cc
field_kind [] (v ∷ vs) field value all is = cc
field_kind (k ∷ ks) (v ∷ vs) zero value all is =
    let same : v ≡ value = cc in
    let Q : Value → Type 0 = λ w. IsTrue (has_kind k w) in
    subst Q same (and_parts (has_kind k v) (has_kinds ks vs) all).0
field_kind (k ∷ ks) (v ∷ vs) (suc field) value all is = field_kind ks vs field value (and_parts (has_kind k v) (has_kinds ks vs) all).1 is

ok_is : {X : Type 0} (o : Option X) (x : X) → ok_or o Reference ≡ Ok x → o ≡ Some x
ok_is None x is = cc
ok_is (Some y) x is = cc

read_kind : (s : Option TableSetup) (o : Option (List Value)) (field : ℕ) (value : Value) → IfSome o (λ fields. IsTrue (has_kinds (unwrap_or (option_map (λ (u : TableSetup). u.kinds) s) []) fields))
    → ok_or (option_and_then (λ fields. slice_get fields field) o) Reference ≡ Ok value → IsSomeAnd (slice_get (unwrap_or (option_map (λ (u : TableSetup). u.kinds) s) []) field) (λ k. IsTrue (has_kind k value))
read_kind s None field value kinds is = cc
read_kind s (Some fields) field value kinds is =
    field_kind (unwrap_or (option_map (λ (u : TableSetup). u.kinds) s) []) fields field value kinds (ok_is (slice_get fields field) value is)

fields_fit : (line : ℕ) (s : Option TableSetup) (t : Option Table) → FitsTableAt s t → IfSome (option_and_then (λ (u : Table). fields_in u line) t) (λ fields. IsTrue (has_kinds (unwrap_or (option_map (λ (u : TableSetup). u.kinds) s) []) fields))
fields_fit line s None fits = tt
fields_fit line None (Some t) fits = absurd fits
fields_fit line (Some s) (Some t) fits = kinds_in s.kinds t line fits.lines

pub get_kind : (v : LocalView) (r : Ref) (field : ℕ) (value : Value) → ScanFits v → get v r field ≡ Ok value → TakesField v r.table field value
get_kind v r field value lawful is =
    read_kind (slice_get v.machine.tables r.table) (fields_behind v r) field value
    (fields_fit r.line (slice_get v.machine.tables r.table) (slice_get v.ctl.tables r.table) (lawful.fits.tables.each r.table)) is

message_kinds_fit : (s : Option BufferSetup) (fields : List Value) → IsSomeAnd s (λ (b : BufferSetup). IsTrue (has_kinds b.kinds fields)) → IsTrue (has_kinds (unwrap_or (option_map (λ (b : BufferSetup). b.kinds) s) []) fields)
message_kinds_fit None fields here = absurd here
message_kinds_fit (Some b) fields here = here

peeked : (o : Option Message) (m : Message) → ok_or o Front ≡ Ok m → o ≡ Some m
peeked None m is = cc
peeked (Some n) m is = cc is

-- the message that is read of a buffer is its front
peeked-is : (v : LocalView) (buffer : ℕ) (m : Message) → required_front v buffer ≡ Ok m → IsFront v.ctl.mail.inbox buffer v.now (Some m)
peeked-is v buffer m is =
    subst (IsFront v.ctl.mail.inbox buffer v.now) (peeked (front_now v buffer) m is) (front_first v.ctl.mail buffer v.now)

pub peek_kinds : (v : LocalView) (buffer : ℕ) (m : Message) → ScanFits v → required_front v buffer ≡ Ok m → TakesMessage v m.buffer m.fields
peek_kinds v buffer m lawful is =
    let front = peeked-is v buffer m is in
    let fits = All-contains (FitsMessage v.machine.buffers v.actor.me v.ctl.mail.sent) v.ctl.mail.inbox (incoming_message m) lawful.fits.mail.messages front.held in
    message_kinds_fit (slice_get v.machine.buffers m.buffer) m.fields fits.fields

pub peek_buffer : (v : LocalView) (buffer : ℕ) (m : Message) → required_front v buffer ≡ Ok m → m.buffer ≡ buffer
peek_buffer v buffer m is =
    let front = peeked-is v buffer m is in
    eqb-true m.buffer buffer
    (and_parts (eqb m.buffer buffer) (nat_le m.arrival v.now)
    (and_parts (eqb m.buffer buffer && nat_le m.arrival v.now) true front.ready).0).0

-- the line that a cache names for replacement is one
first_line : (kinds : List Kind) (lines : List Line) (l : ℕ) → All (FitsLine kinds) lines → option_map (λ (x : Line). x.0) (slice_get lines 0) ≡ Some l → IsLine l
first_line kinds [] l all is = cc
first_line kinds (x ∷ xs) l all is =
    let same : x.0 ≡ l = cc in
    subst IsLine same (All-head (FitsLine kinds) x xs all).0

least_used_line : (s : Option TableSetup) (t : Option Table) (line l : ℕ) → FitsTableAt s t → least_used_in t line ≡ Some l → IsLine l
least_used_line None (Some t) line l fits is = absurd fits
least_used_line s None line l fits is = cc
least_used_line (Some s) (Some (CacheTable cache)) line l fits is =
    first_line s.kinds (set_of cache line) l (All-at (FitsLine s.kinds) cache.sets (line % length cache.sets) fits.lines) is
least_used_line (Some s) (Some (DirectoryTable d)) line l fits is = cc
least_used_line (Some s) (Some (TbeTable t)) line l fits is = cc
least_used_line (Some s) (Some (ParameterTable values)) line l fits is = cc

probed : (b : Bool) (o : Option ℕ) (l : ℕ) → cond b (Err Probe) (ok_or o Probe) ≡ Ok l → o ≡ Some l
probed true o l is = cc
probed false None l is = cc
probed false (Some x) l is = cc

pub probe_line : (v : LocalView) (table line l : ℕ) → ScanFits v → probe v table line ≡ Ok l → IsLine l
probe_line v table line l lawful is =
    least_used_line (slice_get v.machine.tables table) (slice_get v.ctl.tables table) line l (lawful.fits.tables.each table)
    (probed (avail v table line) (least_used_in (slice_get v.ctl.tables table) line) l is)

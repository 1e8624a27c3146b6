-- What a line's slot asks for and what it makes of an answer. A slot stores byte 0 of its line, then bytes 1, 2 and 3, one request
-- after another, each with a value that is one more than that of the byte before it, modulo 256; then it loads the four and
-- compares them. It waits for one answer at a time. The rules are this project's own.
use Rattle.std.specs.Prelude.{◌+◌, ◌%◌, ◌==◌, ◌&&◌, ℕ, Bool, true, false, not, Option, None, List, [], ◌∷◌, nat_lt, slice_index_or, if◌then◌else◌}
use Rattle.std.specs.List.{filter}
use Rattle.ruby_value.specs.declared.asked.Ask.{Ask}
use Rattle.ruby_value.specs.declared.asked.Ask.TheVariants.{Load, Store, Fetch}
use Rattle.ruby_value.specs.declared.asked.Asked.{Asked}
use Rattle.ruby_value.specs.Prelude.{first_of}
use Rattle.random_tester.specs.declared.slot.Slot.{Slot}

-- before its first store
abbrev pub fresh_slot : Slot
fresh_slot = record { stored = 0; first = 0; waits = None }

-- the value of byte k, where byte 0 has this one
abbrev pub value_at : ℕ → ℕ → ℕ
value_at first k = (first + k) % 256

-- what the slot of a line asks for next: the store of its next byte, or the load of all four
abbrev pub request_of : ℕ → Slot → ℕ → Asked
request_of line s now =
    if nat_lt s.stored 4
    then record { line = line; kind = Store; offset = s.stored; size = 1; byte = value_at s.first s.stored; issued = now }
    else record { line = line; kind = Load; offset = 0; size = 4; byte = 0; issued = now }

-- the first of the four bytes that isn't as it was stored
abbrev pub first_difference : ℕ → List ℕ → Option ℕ
first_difference first bytes =
    first_of (filter (λ k. not (slice_index_or bytes k 0 == value_at first k)) (0 ∷ 1 ∷ 2 ∷ 3 ∷ []))

abbrev pub is_same_kind : Ask → Ask → Bool
is_same_kind Load Load = true
is_same_kind Store Store = true
is_same_kind Fetch Fetch = true
is_same_kind _ _ = false

abbrev pub is_same_request : Asked → Asked → Bool
is_same_request a b =
    a.line == b.line && is_same_kind a.kind b.kind && a.offset == b.offset && a.size == b.size && a.byte == b.byte && a.issued == b.issued

-- Credits and slots, by which senders keep from filling a buffer that has a size. Each sender has as many slots there as the size says.
-- Each message that it sends there takes one, and keeps it until it is consumed: then its receiver sends back a credit, which counts
-- from the next cycle on. A credit has no number, and the credits that are there are the ascending list of them, in which equal ones
-- stand as often as they are there. Slots and credits, with one count for each sender, are this project's own; gem5 bounds a buffer
-- as a whole.
use Rattle.std.specs.Prelude.{ℕ, Bool, List, ◌∷◌, [], ◌++◌, ◌+◌, ◌-◌, ◌==◌, ◌&&◌, ◌||◌, not, map, length, nat_le, nat_lt, unwrap_or, if◌then◌else◌}
use Rattle.std.specs.List.{filter, find, list_any}
use Rattle.std.specs.Option.{option_map}
use Rattle.ctl_face.specs.declared.parcel.Credit.{Credit}
use Rattle.ctl_face.specs.declared.parcel.Lent.{Lent}

-- Credits come in the order of their arrivals, then receivers, then buffers.
abbrev pub credit_before : Credit → Credit → Bool
credit_before a b =
    nat_lt a.arrival b.arrival
    || (a.arrival == b.arrival && (nat_lt a.receiver b.receiver || (a.receiver == b.receiver && nat_lt a.buffer b.buffer)))

-- one credit more: it stands after those that it doesn't come before
abbrev pub with_credit : List Credit → Credit → List Credit
with_credit credits c = filter (λ o. not (credit_before c o)) credits ++ c ∷ filter (λ o. credit_before c o) credits

-- it is of this buffer at this receiver
abbrev pub is_credit_of : (receiver buffer : ℕ) → Credit → Bool
is_credit_of receiver buffer c = c.receiver == receiver && c.buffer == buffer

-- how many credits of the buffer at the receiver have arrived
abbrev pub arrived_credits : List Credit → (receiver buffer now : ℕ) → ℕ
arrived_credits credits receiver buffer now =
    length (filter (λ (c : Credit). is_credit_of receiver buffer c && nat_le c.arrival now) credits)

-- Slots in use, by receiver and buffer, in the order in which the first was taken; what isn't there has none in use.
abbrev pub is_lent_of : (receiver buffer : ℕ) → Lent → Bool
is_lent_of receiver buffer l = l.receiver == receiver && l.buffer == buffer

abbrev pub lent_at : List Lent → (receiver buffer : ℕ) → ℕ
lent_at lent receiver buffer = unwrap_or (option_map (λ (l : Lent). l.count) (find (is_lent_of receiver buffer) lent)) 0

abbrev pub one_more : (receiver buffer : ℕ) → Lent → Lent
one_more receiver buffer l = if is_lent_of receiver buffer l then record l { count = l.count + 1 } else l

-- with one slot more in use
abbrev pub with_lent : List Lent → (receiver buffer : ℕ) → List Lent
with_lent lent receiver buffer =
    if list_any (is_lent_of receiver buffer) lent then map (one_more receiver buffer) lent
    else lent ++ record { receiver = receiver; buffer = buffer; count = 1 } ∷ []

-- how many slots are free, of so many
abbrev pub free_slots : List Lent → List Credit → (size receiver buffer now : ℕ) → ℕ
free_slots lent credits size receiver buffer now = size + arrived_credits credits receiver buffer now - lent_at lent receiver buffer

-- As a cycle begins, each credit that has arrived by then gives back the slot that it is for, and goes. So no count grows without end.
abbrev pub settled : List Credit → ℕ → Lent → Lent
settled credits now l = record l { count = l.count - arrived_credits credits l.receiver l.buffer now }

abbrev pub lent_from : ℕ → List Credit → List Lent → List Lent
lent_from now credits lent = map (settled credits now) lent

abbrev pub credits_from : ℕ → List Credit → List Credit
credits_from now credits = filter (λ (c : Credit). nat_lt now c.arrival) credits

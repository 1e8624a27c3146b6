-- What each line of a topology says, or the least of the first four rules and the sixth that it breaks. A line is judged after the
-- lines before it, none of which breaks a rule: so a link sees the counts and the network that were said before it, nothing is said
-- twice, and there are never more than 64 controllers. The rules are this project's own.
use Rattle.std.specs.Prelude.{ℕ, ◌==◌, ◌+◌, ◌*◌, Bool, true, false, cond, nat_lt, Option, None, Some, Result, Ok, Err, pos, List, [], ◌∷◌, ◌++◌, length, slice_get, option_and_then}
use Rattle.std.specs.Option.{option_map}
use Rattle.ctl_face.specs.Prelude.{receives}
use Rattle.ruby_value.specs.declared.kind.Kind.{Kind}
use Rattle.ruby_value.specs.declared.kind.Kind.TheVariants.{Int}
use Rattle.ruby_symbols.specs.declared.machine.BufferSymbol.{BufferSymbol}
use Rattle.ruby_symbols.specs.declared.machine.MachineSymbols.{MachineSymbols}
use Rattle.ruby_symbols.specs.declared.machine.TableSort.{TableSort}
use Rattle.ruby_symbols.specs.declared.machine.TableSort.TheVariants as sort
use Rattle.ruby_symbols.specs.declared.machine.TableSymbol.{TableSymbol}
use Rattle.ruby_symbols.specs.declared.names.Named.{Named}
use Rattle.ruby_symbols.specs.declared.names.Named.TheVariants.{Buffer, Table, Value}
use Rattle.ruby_symbols.specs.declared.symbols.Symbols.{Symbols}
use Rattle.ruby_symbols.specs.declared.types.FieldSymbol.{FieldSymbol}
use Rattle.ruby_symbols.specs.Prelude.{machine_named, stands_for}
use Rattle.ruby_topology.specs.declared.forms.Form.{Form}
use Rattle.ruby_topology.specs.declared.forms.Form.TheVariants as form
use Rattle.ruby_topology.specs.declared.forms.TheConstants.{T1_FORM, T2_NUMBER, T3_NAME, T4_TWICE, T6_TOO_MANY}
use Rattle.ruby_topology.specs.declared.forms.Network.TheVariants.{PointToPoint, Crossbar, Mesh, Links}
use Rattle.ruby_topology.specs.declared.forms.Statement.{Statement}
use Rattle.ruby_topology.specs.declared.forms.Statement.TheVariants.{Machine, Network, Link, Jitter, Ordered, Cache, Tbes, Size, Set}
use Rattle.ruby_topology.specs.Forms.{form_of}
use Rattle.ruby_topology.specs.Members.{member_named}
use Rattle.ruby_topology.specs.Said.{controllers, counted, is_links, is_said, network_said}
use Rattle.ruby_topology.specs.Text.{before_comment, number_within, word_at, words_of}

-- the statement, or the number of the rule that is broken
abbrev pub Says : Type 0
Says = Result Statement ℕ

-- what follows where the thing is there; else this rule is broken
abbrev pub needs : {A : Type 0} → ℕ → Option A → (A → Says) → Says
needs rule None says = Err rule
needs rule (Some x) says = says x

-- the word at this place as a number from the least to the greatest
abbrev pub number_at : List (List ℕ) → ℕ → ℕ → ℕ → Option ℕ
number_at words place least greatest = number_within (least, greatest) (word_at words place)

-- Tables, numbers and buffers of a machine by name.

abbrev pub sort_at : MachineSymbols → ℕ → Option TableSort
sort_at m table = option_map (λ (t : TableSymbol). t.sort) (slice_get m.tables table)

abbrev pub cache_in : Option TableSort → ℕ → Option ℕ
cache_in (Some sort.Cache) table = Some table
cache_in _ table = None

abbrev pub tbes_in : Option TableSort → ℕ → Option ℕ
tbes_in (Some (sort.Tbe entries)) table = Some table
tbes_in _ table = None

-- the number of the table that a name stands for
abbrev pub table_in : Option Named → Option ℕ
table_in (Some (Table table)) = Some table
table_in _ = None

abbrev pub value_in : Option Named → Option ℕ
value_in (Some (Value value)) = Some value
value_in _ = None

abbrev pub buffer_in : Option Named → Option ℕ
buffer_in (Some (Buffer buffer)) = Some buffer
buffer_in _ = None

abbrev pub cache_named : MachineSymbols → List ℕ → Option ℕ
cache_named m text = option_and_then (λ table. cache_in (sort_at m table) table) (table_in (stands_for m text))

abbrev pub tbes_named : MachineSymbols → List ℕ → Option ℕ
tbes_named m text = option_and_then (λ table. tbes_in (sort_at m table) table) (table_in (stands_for m text))

abbrev pub is_int : Kind → Bool
is_int Int = true
is_int _ = false

abbrev pub number_in : Option FieldSymbol → ℕ → Option ℕ
number_in None value = None
number_in (Some f) value = cond (is_int f.kind) (Some value) None

-- of a parameter or an object whose values are numbers
abbrev pub number_named : MachineSymbols → List ℕ → Option ℕ
number_named m text = option_and_then (λ value. number_in (slice_get m.values value) value) (value_in (stands_for m text))

-- the buffer of this number, where it is the machine's own or from a network
abbrev pub receiving_in : Option BufferSymbol → ℕ → Option ℕ
receiving_in None buffer = None
receiving_in (Some b) buffer = cond (receives (Some b.place)) (Some buffer) None

-- of a parameter or an object that is a buffer from which messages are taken
abbrev pub receiving_named : MachineSymbols → List ℕ → Option ℕ
receiving_named m text =
    option_and_then (λ buffer. receiving_in (slice_get m.buffers buffer) buffer) (buffer_in (stands_for m text))

-- The lines.

abbrev pub machine_line : Symbols → List (List ℕ) → Says
machine_line symbols words =
    needs T2_NUMBER (number_at words 2 1 64) (λ count.
    needs T3_NAME (machine_named symbols (word_at words 1)) (λ machine. Ok (Machine machine count)))

abbrev pub point_to_point_line : List (List ℕ) → Says
point_to_point_line words = needs T2_NUMBER (number_at words 2 0 1000) (λ length. Ok (Network (PointToPoint length)))

abbrev pub crossbar_line : List (List ℕ) → Says
crossbar_line words = needs T2_NUMBER (number_at words 2 0 1000) (λ length. Ok (Network (Crossbar length)))

abbrev pub mesh_line : List (List ℕ) → Says
mesh_line words =
    needs T2_NUMBER (number_at words 2 1 64) (λ rows.
    needs T2_NUMBER (number_at words 3 1 64) (λ columns.
    needs T2_NUMBER (number_at words 4 0 1000) (λ length. Ok (Network (Mesh rows columns length)))))

-- it comes after the line `network links`
abbrev pub link_line : Symbols → List Statement → List (List ℕ) → Says
link_line symbols said words =
    needs T2_NUMBER (number_at words 3 0 1000) (λ length.
    needs T3_NAME (member_named symbols said (word_at words 1)) (λ one.
    needs T3_NAME (member_named symbols said (word_at words 2)) (λ other.
    cond (is_links (network_said said)) (Ok (Link one other length)) (Err T3_NAME))))

abbrev pub jitter_line : List (List ℕ) → Says
jitter_line words = needs T2_NUMBER (number_at words 1 0 1000) (λ jitter. Ok (Jitter jitter))

abbrev pub ordered_line : List (List ℕ) → Says
ordered_line words = needs T2_NUMBER (number_at words 1 0 15) (λ network. Ok (Ordered network))

-- of the machine of this number, where there is one
abbrev pub in_machine : Symbols → ℕ → (MachineSymbols → Option ℕ) → Option ℕ
in_machine symbols machine find_in = option_and_then find_in (slice_get symbols.machines machine)

abbrev pub cache_line : Symbols → List (List ℕ) → Says
cache_line symbols words =
    needs T2_NUMBER (number_at words 3 1 65536) (λ sets.
    needs T2_NUMBER (number_at words 4 1 65536) (λ ways.
    cond (nat_lt 65536 (sets * ways)) (Err T2_NUMBER)
    (needs T3_NAME (machine_named symbols (word_at words 1)) (λ machine.
    needs T3_NAME (in_machine symbols machine (λ m. cache_named m (word_at words 2))) (λ table.
    Ok (Cache machine table sets ways))))))

abbrev pub tbes_line : Symbols → List (List ℕ) → Says
tbes_line symbols words =
    needs T2_NUMBER (number_at words 3 1 256) (λ entries.
    needs T3_NAME (machine_named symbols (word_at words 1)) (λ machine.
    needs T3_NAME (in_machine symbols machine (λ m. tbes_named m (word_at words 2))) (λ table.
    Ok (Tbes machine table entries))))

-- 0 slots are no size
abbrev pub size_line : Symbols → List (List ℕ) → Says
size_line symbols words =
    needs T2_NUMBER (number_at words 3 0 65536) (λ slots.
    needs T3_NAME (machine_named symbols (word_at words 1)) (λ machine.
    needs T3_NAME (in_machine symbols machine (λ m. receiving_named m (word_at words 2))) (λ buffer.
    Ok (Size machine buffer slots))))

abbrev pub set_line : Symbols → List (List ℕ) → Says
set_line symbols words =
    needs T2_NUMBER (number_at words 3 0 0x7fff_ffff_ffff_ffff) (λ number.
    needs T3_NAME (machine_named symbols (word_at words 1)) (λ machine.
    needs T3_NAME (in_machine symbols machine (λ m. number_named m (word_at words 2))) (λ value.
    Ok (Set machine value (pos number)))))

abbrev pub says_in : Symbols → List Statement → List (List ℕ) → Option Form → Says
says_in symbols said words None = Err T1_FORM
says_in symbols said words (Some form.Machine) = machine_line symbols words
says_in symbols said words (Some form.PointToPoint) = point_to_point_line words
says_in symbols said words (Some form.Crossbar) = crossbar_line words
says_in symbols said words (Some form.Mesh) = mesh_line words
says_in symbols said words (Some form.Links) = Ok (Network Links)
says_in symbols said words (Some form.Link) = link_line symbols said words
says_in symbols said words (Some form.Jitter) = jitter_line words
says_in symbols said words (Some form.Ordered) = ordered_line words
says_in symbols said words (Some form.Cache) = cache_line symbols words
says_in symbols said words (Some form.Tbes) = tbes_line symbols words
says_in symbols said words (Some form.Size) = size_line symbols words
says_in symbols said words (Some form.Set) = set_line symbols words

-- what a statement is after those that were said before it
abbrev pub after_those : List Statement → Says → Says
after_those said (Err rule) = Err rule
after_those said (Ok s) =
    cond (is_said said s) (Err T4_TWICE) (cond (nat_lt 64 (controllers said + counted s)) (Err T6_TOO_MANY) (Ok s))

abbrev pub judged : Symbols → List Statement → List (List ℕ) → Says
judged symbols said words = after_those said (says_in symbols said words (form_of words))

abbrev pub added : List Statement → Says → Result (List Statement) ℕ
added said (Err rule) = Err rule
added said (Ok s) = Ok (said ++ s ∷ [])

-- what is said with this line; one without words says nothing
abbrev pub with_line : Symbols → List Statement → List ℕ → Result (List Statement) ℕ
with_line symbols said line =
    let words = words_of (before_comment line) in
    cond (length words == 0) (Ok said) (added said (judged symbols said words))

-- All lines one after another: what they say, or the first that breaks a rule, with that rule and the line's number.

abbrev pub Reading : Type 0
Reading = Result (List Statement) (ℕ × ℕ)

-- of the lines from this number on, where those before them say this
abbrev pub read_from : Symbols → ℕ → List Statement → List (List ℕ) → Reading
read_from symbols number said [] = Ok said
read_from symbols number said (line ∷ lines) =
    elim (with_line symbols said line) [
      | Ok more ↦ read_from symbols (number + 1) more lines
      | Err rule ↦ Err (rule, number)
    ]

abbrev pub reading : Symbols → List (List ℕ) → Reading
reading symbols lines = read_from symbols 1 [] lines

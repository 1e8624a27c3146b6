-- The messages of a machine's own buffer `mandatoryQueue` are of the type `RubyRequest` where the machine has a sequencer.
use Rattle.std.proofs.Common.{◌≡◌, ◌+◌, ◌∙◌, ◌++◌, ◌&&◌, ◌||◌, ℕ, suc, Bool, true, false, cond, not, eqb, Option, None, Some, List, [], ◌∷◌, ap, refl, sym, subst, arith, flat_map, eqb-true}
use Rattle.std.specs.Prelude.{codes, filter_map, find, is_some, slice_get}
use Rattle.std.specs.List.{All, cons_option, list_any}
use Rattle.std.specs.Option.{option_or}
use Rattle.std.specs.Str.{bytes_eq}
use Rattle.std.proofs.lemmas.Bool.{and_parts, or_left, or_right}
use Rattle.std.proofs.lemmas.List.Elements.{All-append, All-cons, All-head, All-nil, All-tail}
use Rattle.std.proofs.lemmas.Option.{cond_some}
use Rattle.std.proofs.lemmas.Slice.Eq.{bytes_eq-Decides}
use Rattle.ruby_value.specs.declared.setup.BufferPlace.{BufferPlace}
use Rattle.ruby_value.specs.declared.setup.BufferPlace.TheVariants as place
use Rattle.ruby_value.specs.declared.setup.BufferSetup.{BufferSetup}
use Rattle.ruby_symbols.specs.declared.machine.BufferSymbol.{BufferSymbol}
use Rattle.ruby_symbols.specs.Prelude.{is_local, is_mandatory as is_mandatory_symbol}
use Rattle.slicc_ast.specs.declared.tree.item.Tree.{Tree}
use Rattle.slicc_ast.specs.declared.tree.machine.Machine.{Machine}
use Rattle.slicc_plan.specs.declared.built_in.BuiltInType.{BuiltInType}
use Rattle.slicc_plan.specs.declared.built_in.BuiltInType.TheVariants.{Request}
use Rattle.slicc_plan.specs.Prelude.{type_number, BufferIn, Place, own, to_network, from_network, PortOn, port_on, ports_of, Declaration, parameter, object, machine_declarations, machines_of, is_sequencer, in_each, in_each_from, is_on, port_message, type_at, all_ports, all_ports_from, differing_after, doubled_in, has_sequencer, is_mandatory, is_no_request, is_sent_nowhere, is_wrong_way, port_broken, wrong_networks, wrong_ports_in, buffer_place, kinds_on, machine_symbols, sequencer_in, KnownType, built_in, enumerated, structured, is_built_in}
use Rattle.slicc_plan.specs.Buffers.{port_in}
use Rattle.slicc_plan.specs.Declarations.{in_port, out_port}
use Rattle.slicc_plan.specs.MessageTypes.{message_type, own_type}
use Rattle.slicc_plan.proofs.Room.{left_none, right_none}
use Rattle.protocol_runs.specs.Prelude.{TakesRequests}
use Rattle.protocol_meaning.proofs.Buffers.{IsPair}

-- Tests.

third_false : (a b c : Bool) → (a || b || c) ≡ false → c ≡ false
third_false true b c e = absurd (cc e)
third_false false true c e = absurd (cc e)
third_false false false c e = e

last_false : (a b c : Bool) → a ≡ true → b ≡ true → (a && b && c) ≡ false → c ≡ false
last_false true true c h g e = e
last_false true false c h g e = absurd (cc g)
last_false false b c h g e = absurd (cc h)

not_false : (b : Bool) → not b ≡ false → b ≡ true
not_false true e = refl
not_false false e = absurd (cc e)

request_is : (b : BuiltInType) → eqb (type_number Request) (type_number b) ≡ true → b ≡ Request
request_is Request e = refl
request_is _ e = absurd (cc e)

pub is_request : (t : KnownType) → is_built_in Request (Some t) ≡ true → t ≡ built_in Request
is_request (built_in b) e = ap built_in (request_is b e)
is_request (enumerated scope text members) e = absurd (cc e)
is_request (structured scope s) e = absurd (cc e)

-- Ports of a protocol that keeps all rules.

-- a port on `mandatoryQueue` of a machine with a sequencer is of type `RubyRequest`
abbrev AsksRight : List Tree → PortOn → Type 0
AsksRight trees p =
    (m : Machine) → slice_get (machines_of trees) p.machine ≡ Some m → is_no_request trees m p ≡ false

unbroken : (b : Bool) (p : PortOn) → port_broken b p ≡ [] → b ≡ false
unbroken true p e = absurd (cc e)
unbroken false p e = refl

one_port : (trees : List Tree) (n : ℕ) (m : Machine) (is_in : Bool) (d : Option BufferIn) (t : Option KnownType) (s : _) → All (λ (p : PortOn). p.machine ≡ n) (port_on n is_in s d t)
one_port trees n m is_in None t s = All-nil (λ (p : PortOn). p.machine ≡ n)
one_port trees n m is_in (Some b) None s = All-nil (λ (p : PortOn). p.machine ≡ n)
one_port trees n m is_in (Some b) (Some t) s = All-cons (λ (p : PortOn). p.machine ≡ n) _ [] refl (All-nil (λ (p : PortOn). p.machine ≡ n))

declared_ports : (trees : List Tree) (n : ℕ) (m : Machine) (d : Declaration) → All (λ (p : PortOn). p.machine ≡ n) (port_in trees n m d)
declared_ports trees n m (in_port p) = one_port trees n m true _ _ p.span
declared_ports trees n m (out_port p) = one_port trees n m false _ _ p.span
declared_ports trees n m _ = All-nil (λ (p : PortOn). p.machine ≡ n)

ports_numbered : (trees : List Tree) (n : ℕ) (m : Machine) (ds : List Declaration) → All (λ (p : PortOn). p.machine ≡ n) (flat_map (port_in trees n m) ds)
ports_numbered trees n m [] = All-nil (λ (p : PortOn). p.machine ≡ n)
ports_numbered trees n m (d ∷ ds) =
    All-append (λ (p : PortOn). p.machine ≡ n) (port_in trees n m d) (flat_map (port_in trees n m) ds) (declared_ports trees n m d) (ports_numbered trees n m ds)

machine_is : (a b : Machine) → Some a ≡ Some b → a ≡ b
machine_is a b e = cc e

ports_right : (trees : List Tree) (n : ℕ) (m : Machine) (ps : List PortOn) → slice_get (machines_of trees) n ≡ Some m → All (λ (p : PortOn). p.machine ≡ n) ps → flat_map (λ (p : PortOn). port_broken (is_wrong_way p || is_sent_nowhere trees p || is_no_request trees m p) p) ps ≡ [] → All (AsksRight trees) ps
ports_right trees n m [] at numbered e = All-nil (AsksRight trees)
ports_right trees n m (p ∷ ps) at numbered e =
    let broken = λ (q : PortOn). port_broken (is_wrong_way q || is_sent_nowhere trees q || is_no_request trees m q) q in
    let here : is_no_request trees m p ≡ false = third_false (is_wrong_way p) (is_sent_nowhere trees p) (is_no_request trees m p)
    (unbroken (is_wrong_way p || is_sent_nowhere trees p || is_no_request trees m p) p (left_none (broken p) (flat_map broken ps) e)) in
    let number : p.machine ≡ n = All-head (λ (q : PortOn). q.machine ≡ n) p ps numbered in
    All-cons (AsksRight trees) p ps
    (λ k there.
    let same : m ≡ k = machine_is m k (sym at ∙ sym (ap (slice_get (machines_of trees)) number) ∙ there) in
    subst (λ x. is_no_request trees x p ≡ false) same here)
    (ports_right trees n m ps at (All-tail (λ (q : PortOn). q.machine ≡ n) p ps numbered) (right_none (broken p) (flat_map broken ps) e))

all_right : (trees : List Tree) (n : ℕ) (ms : List Machine) → ((j : ℕ) (m : Machine) → slice_get ms j ≡ Some m → slice_get (machines_of trees) (n + j) ≡ Some m) → in_each_from n (wrong_ports_in trees) ms ≡ [] → All (AsksRight trees) (all_ports_from trees n ms)
all_right trees n [] are e = All-nil (AsksRight trees)
all_right trees n (m ∷ ms) are e =
    let same : n + 0 ≡ n = omega arith in
    let at : slice_get (machines_of trees) n ≡ Some m = sym (ap (slice_get (machines_of trees)) same) ∙ are 0 m refl in
    All-append (AsksRight trees) (ports_of trees n m) (all_ports_from trees (n + 1) ms)
    (ports_right trees n m (ports_of trees n m) at (ports_numbered trees n m (machine_declarations m)) (left_none (wrong_ports_in trees n m) (in_each_from (n + 1) (wrong_ports_in trees) ms) e))
    (all_right trees (n + 1) ms
    (λ j x there. let next : n + suc j ≡ n + 1 + j = omega arith in sym (ap (slice_get (machines_of trees)) next) ∙ are (suc j) x there)
    (right_none (wrong_ports_in trees n m) (in_each_from (n + 1) (wrong_ports_in trees) ms) e))

pub ports_ask_right : (trees : List Tree) → wrong_networks trees ≡ [] → All (λ (p : PortOn). (m : Machine) → slice_get (machines_of trees) p.machine ≡ Some m → is_no_request trees m p ≡ false) (all_ports trees)
ports_ask_right trees e =
    all_right trees 0 (machines_of trees)
    (λ j m at. let same : 0 + j ≡ j = omega arith in ap (slice_get (machines_of trees)) same ∙ at)
    (right_none (differing_after [] (all_ports trees)) (in_each (wrong_ports_in trees) trees)
    (left_none (differing_after [] (all_ports trees) ++ in_each (wrong_ports_in trees) trees) (in_each (doubled_in trees) trees) e))

-- Types of own buffers.

found_has : {X : Type 0} (P : X → Type 0) (test : X → Bool) (xs : List X) (x : X) → All P xs → find test xs ≡ Some x → P x × (test x ≡ true)
found_has P test [] x all e = absurd (cc e)
found_has {X} P test (y ∷ xs) x all e = by_test (found_has P test xs x (All-tail P y xs all)) (test y) refl e
  where
    same_item : (a b : X) → Some a ≡ Some b → a ≡ b
    same_item a b e = cc e

    by_test : (find test xs ≡ Some x → P x × (test x ≡ true)) → (b : Bool) → test y ≡ b → cond b (Some y) (find test xs) ≡ Some x → P x × (test x ≡ true)
    by_test later true passes e = subst (λ z. P z × (test z ≡ true)) (same_item y x e) (All-head P y xs all, passes)
    by_test later false fails e = later e

own_request : (trees : List Tree) (number : ℕ) (m : Machine) (b : BufferIn) → slice_get (machines_of trees) number ≡ Some m → All (λ (p : PortOn). (n : Machine) → slice_get (machines_of trees) p.machine ≡ Some n → is_no_request trees n p ≡ false) (all_ports trees) → has_sequencer trees m ≡ true → is_mandatory b ≡ true → own_type trees number b ≡ Some (built_in Request)
own_request trees number m b at right has named = by_port (find (is_on number b) (all_ports trees)) refl
  where
    mandatory_port : (p : PortOn) → is_on number b p ≡ true → is_mandatory p.buffer ≡ true
    mandatory_port p on =
        let parts = and_parts (eqb p.machine number) (bytes_eq p.buffer.name.text b.name.text) on in
        let same : p.buffer.name.text ≡ b.name.text = (bytes_eq-Decides p.buffer.name.text b.name.text).0 parts.1 in
        ap (λ text. bytes_eq text (codes "mandatoryQueue")) same ∙ named

    asks : (p : PortOn) → is_on number b p ≡ true → ((n : Machine) → slice_get (machines_of trees) p.machine ≡ Some n → is_no_request trees n p ≡ false) → p.message ≡ built_in Request
    asks p on h =
        let parts = and_parts (eqb p.machine number) (bytes_eq p.buffer.name.text b.name.text) on in
        let number_is : p.machine ≡ number = eqb-true p.machine number parts.0 in
        let no = h m (ap (slice_get (machines_of trees)) number_is ∙ at) in
        is_request p.message
        (not_false (is_built_in Request (Some p.message))
        (last_false (has_sequencer trees m) (is_mandatory p.buffer) (not (is_built_in Request (Some p.message))) has (mandatory_port p on) no))

    by_port : (o : Option PortOn) → find (is_on number b) (all_ports trees) ≡ o → option_or (port_message o) (cond (is_mandatory b) (Some (built_in Request)) None) ≡ Some (built_in Request)
    by_port None e = ap (λ t. cond t (Some (built_in Request)) None) named
    by_port (Some p) e =
        let h = found_has (λ (q : PortOn). (n : Machine) → slice_get (machines_of trees) q.machine ≡ Some n → is_no_request trees n q ≡ false) (is_on number b) (all_ports trees) p right e in
        ap Some (asks p h.1 h.0)

-- A pair of a machine's own buffer.

pub own_place : (trees : List Tree) (p : Place) (t : Option KnownType) → buffer_place trees p t ≡ place.Local → p ≡ own
own_place trees own t e = refl
own_place trees (to_network n) t e = absurd (cc e)
own_place trees (from_network n) t e = absurd (cc e)

pub local_is : (p : BufferPlace) → is_local p ≡ true → p ≡ place.Local
local_is place.Local e = refl
local_is (place.To n receivers) e = absurd (cc e)
local_is (place.From n) e = absurd (cc e)

-- what is known of the pair of a buffer `mandatoryQueue`
pub record IsOwnQueue (trees : List Tree) (number : ℕ) (s : BufferSetup) (b : BufferSymbol) (pair : IsPair trees number s b) : Type 0 where
  pub local : s.place ≡ place.Local
  pub named : is_mandatory pair.buffer ≡ true
  pub type : message_type trees number pair.buffer ≡ own_type trees number pair.buffer

pub own_queue : (trees : List Tree) (number : ℕ) (s : BufferSetup) (b : BufferSymbol) (pair : IsPair trees number s b) → is_mandatory_symbol b ≡ true → IsOwnQueue trees number s b pair
own_queue trees number s b pair is =
    let parts = and_parts (is_local b.place) (bytes_eq b.name (codes "mandatoryQueue")) is in
    let local : s.place ≡ place.Local = sym pair.same_place ∙ local_is b.place parts.0 in
    record {
      local = local;
      named = sym (ap (λ text. bytes_eq text (codes "mandatoryQueue")) pair.name) ∙ parts.1;
      type = ap (type_at trees number pair.buffer) (own_place trees pair.buffer.place (message_type trees number pair.buffer) (sym pair.setup_place ∙ local));
    }

pub takes_by_type : (trees : List Tree) (number : ℕ) (s : BufferSetup) (b : BufferSymbol) (pair : IsPair trees number s b) → IsOwnQueue trees number s b pair → own_type trees number pair.buffer ≡ Some (built_in Request) → TakesRequests s
takes_by_type trees number s b pair queue e =
    record { own = queue.local; kinds = pair.kinds ∙ ap (kinds_on trees) (queue.type ∙ e) }

pub takes_requests_of : (trees : List Tree) (number : ℕ) (m : Machine) (s : BufferSetup) (b : BufferSymbol) → wrong_networks trees ≡ [] → slice_get (machines_of trees) number ≡ Some m → has_sequencer trees m ≡ true → IsPair trees number s b → is_mandatory_symbol b ≡ true → TakesRequests s
takes_requests_of trees number m s b kept at has pair is =
    let queue = own_queue trees number s b pair is in
    takes_by_type trees number s b pair queue (own_request trees number m pair.buffer at (ports_ask_right trees kept) has queue.named)

-- Sequencers.

one_sequencer : (trees : List Tree) (m : Machine) (d : Declaration) (text : List ℕ) → sequencer_in trees m d ≡ Some text → is_sequencer trees m d ≡ true
one_sequencer trees m (parameter p) text e = (cond_some (is_sequencer trees m (parameter p)) p.name.text text e).0
one_sequencer trees m (object o) text e = (cond_some (is_sequencer trees m (object o)) o.name.text text e).0
one_sequencer trees m _ text e = absurd (cc e)

any_sequencer : (trees : List Tree) (m : Machine) (ds : List Declaration) → is_some (slice_get (filter_map (sequencer_in trees m) ds) 0) ≡ true → list_any (is_sequencer trees m) ds ≡ true
any_sequencer trees m [] e = absurd (cc e)
any_sequencer trees m (d ∷ ds) e = by_first (any_sequencer trees m ds) (sequencer_in trees m d) refl e
  where
    by_first : (is_some (slice_get (filter_map (sequencer_in trees m) ds) 0) ≡ true → list_any (is_sequencer trees m) ds ≡ true) → (o : Option (List ℕ)) → sequencer_in trees m d ≡ o → is_some (slice_get (cons_option o (filter_map (sequencer_in trees m) ds)) 0) ≡ true → (is_sequencer trees m d || list_any (is_sequencer trees m) ds) ≡ true
    by_first later None is h = or_right (is_sequencer trees m d) (list_any (is_sequencer trees m) ds) (later h)
    by_first later (Some text) is h = or_left (is_sequencer trees m d) (list_any (is_sequencer trees m) ds) (one_sequencer trees m d text is)

pub has_its_sequencer : (trees : List Tree) (number : ℕ) (m : Machine) → is_some (machine_symbols trees number m).sequencer ≡ true → has_sequencer trees m ≡ true
unfolding machine_symbols
has_its_sequencer trees number m e = any_sequencer trees m (machine_declarations m) e

-- Names of a kind, read as any name where the kind is known.
use Rattle.std.proofs.Common.{◌≡◌, ℕ, ◌==◌, ◌||◌, true, false, not, cond, Bool, IsTrue, List, [], ◌∷◌, refl, sym, subst, ap, ◌∙◌, codes}
use Rattle.std.specs.Str.{bytes_eq}
use Rattle.std.proofs.lemmas.Bool.{false≢true}
use Rattle.std.proofs.lemmas.Slice.Eq.{bytes_eq-Decides}
use Rattle.slicc_ast.specs.declared.tree.span.Span.{Span}
use Rattle.slicc_ast.specs.declared.tree.token.TokenKind.{TokenKind}
use Rattle.slicc_ast.specs.declared.tree.token.TokenKind.TheVariants.{Name as Named}
use Rattle.slicc_ast.specs.declared.tree.name.Name.{Name}
use Rattle.slicc_ast.specs.Prelude.{is_skipped, node, none, Parts, Stop, Passed, done, end, has, is_ahead, Passes, Stops, read, refused, taken, names_of, table, functional_name, kind_of, machine_type, name_kind, other_name}
use Rattle.slicc_ast.specs.Outline.{token}
use Rattle.slicc_ast.specs.Grammar.Row.{token as token_row}
use Rattle.slicc_ast.proofs.Steps.{passes_token}
use Rattle.slicc_ast.specs.Parts.{Part}
use Rattle.slicc_lex.specs.declared.token.Token.{Token}
use Rattle.slicc_lex.specs.Prelude.{symbols}
use Rattle.slicc_reading.specs.declared.fault.Fault.{Fault}
use Rattle.slicc_reading.specs.Prelude.{AreParts, AreRead, IsNode, IsRead, IsStopOf, Refuses, nothing, one, spelled, no_memory, stops}

passed_never : {rest : List ℕ} {fault : Fault} → IsStopOf (Passed rest) fault → ⊥
passed_never is = elim is [ ]

behind_never : {depth : ℕ} {rest : List ℕ} {stop : Stop} {fault : Fault} → Stops table depth done end rest stop → IsStopOf stop fault → ⊥
behind_never read is = passed_never is

never : {depth : ℕ} {kinds tokens : List ℕ} {stop : Stop} {fault : Fault} → is_ahead kinds tokens ≡ true
    → Stops table depth (token_row kinds done) end tokens stop → IsStopOf stop fault → ⊥
never ahead (taken has_kind s) is = behind_never s is
never ahead (refused none_ahead) is = false≢true (sym none_ahead ∙ ahead)

-- a token that is of these kinds is refused only where there is no memory
pub only_memory : {room : ℕ} {kinds : List ℕ} {tokens : List Token} {fault : Fault} (g : Part)
    → is_ahead kinds (symbols tokens) ≡ true → Refuses room (token_row kinds) tokens fault → Refuses room g tokens fault
only_memory g ahead no_memory = no_memory
only_memory g ahead (stops stop fails is) = absurd (never ahead (fails done end) is)

narrowed_passes : (room : ℕ) (kinds : List ℕ) {span : Span} {kind : TokenKind} {tokens left : List Token}
    → IsNode (node span (token kind none)) tokens left → is_ahead kinds (symbols tokens) ≡ true
    → Passes table room (token_row kinds) (symbols tokens) (symbols left)
narrowed_passes room kinds (spelled covers (one {t = t} {left = left} same nothing)) ahead =
    passes_token table room kinds (kind_of t.kind) (symbols left) ahead

-- a token that is of these kinds as well
pub narrowed : {room : ℕ} {g : Part} {span : Span} {kind : TokenKind} {tokens left : List Token} (kinds : List ℕ)
    → is_ahead kinds (symbols tokens) ≡ true → IsRead room g (node span (token kind none)) tokens tokens left
    → IsRead room (token_row kinds) (node span (token kind none)) tokens tokens left
narrowed {room = room} kinds ahead r = record { passes = narrowed_passes room kinds r.is_node ahead; is_node = r.is_node; within = r.within }

-- the name of a machine's type
machine_type_by : (a b : Bool) → a ≡ has (machine_type ∷ []) (cond a machine_type (cond b functional_name other_name))
machine_type_by true b = refl
machine_type_by false true = refl
machine_type_by false false = refl

pub has_machine_type : (text : List ℕ) → bytes_eq text (codes "MachineType") ≡ has (machine_type ∷ []) (name_kind text)
has_machine_type text = machine_type_by (bytes_eq text (codes "MachineType")) (bytes_eq text (codes "functionalRead") || bytes_eq text (codes "functionalWrite"))

spelled_parts : {span : Span} {text : List ℕ} {tokens left : List Token}
    → IsNode (node span (token (Named text) none)) tokens left → is_ahead (machine_type ∷ []) (symbols tokens) ≡ true
    → AreParts (token (Named (codes "MachineType")) none) tokens left
spelled_parts {text = text} (spelled covers (one {t = t} same nothing)) ahead =
    let is_type : has (machine_type ∷ []) (name_kind text) ≡ true = subst (λ k. has (machine_type ∷ []) (kind_of k) ≡ true) same ahead in
    let is : text ≡ codes "MachineType" = (bytes_eq-Decides text (codes "MachineType")).0 (has_machine_type text ∙ is_type) in
    one (same ∙ ap Named is) nothing

onto : {kind : TokenKind} {others : Parts} {tokens left last : List Token} → AreParts (token kind none) tokens left → AreParts others left last → AreParts (token kind others) tokens last
onto (one same nothing) m = one same m

-- as a token that is no node of its own
pub type_token : {room : ℕ} {g : Part} {span : Span} {text : List ℕ} {tokens left : List Token}
    → is_ahead (machine_type ∷ []) (symbols tokens) ≡ true → IsRead room g (node span (token (Named text) none)) tokens tokens left
    → AreRead room (token_row (machine_type ∷ [])) (token (Named (codes "MachineType"))) tokens left
type_token {room = room} ahead r =
    record {
      passes = narrowed_passes room (machine_type ∷ []) r.is_node ahead;
      spells = λ others last m. onto (spelled_parts r.is_node ahead) m;
      within = r.within;
    }

-- a name that is none of a machine's type
split_names : (a b c : Bool) → (a || (b || (c || false))) ≡ true → (b || false) ≡ false → (a || (c || false)) ≡ true
split_names true b c some absent_there = refl
split_names false true c some absent_there = absurd (false≢true (sym absent_there))
split_names false false c some absent_there = some

pub other_ahead : (tokens : List Token) → is_ahead names_of (symbols tokens) ≡ true → is_ahead (machine_type ∷ []) (symbols tokens) ≡ false → is_ahead (other_name ∷ functional_name ∷ []) (symbols tokens) ≡ true
other_ahead [] some absent_there = absurd (false≢true some)
other_ahead (t ∷ tokens) some absent_there =
    split_names (other_name == kind_of t.kind) (machine_type == kind_of t.kind) (functional_name == kind_of t.kind) some absent_there

-- the name of a function that is skipped
abbrev skipped_at : (text : List ℕ) → Bool
skipped_at text = bytes_eq text (codes "functionalRead") || bytes_eq text (codes "functionalWrite")

not_both : (text : List ℕ) → bytes_eq text (codes "MachineType") ≡ true → skipped_at text ≡ false
not_both text is = subst (λ t. skipped_at t ≡ false) (sym ((bytes_eq-Decides text (codes "MachineType")).0 is)) refl

skipped_by : (a b : Bool) → (a ≡ true → b ≡ false) → b ≡ has (functional_name ∷ []) (cond a machine_type (cond b functional_name other_name))
skipped_by true b apart = apart refl
skipped_by false true apart = refl
skipped_by false false apart = refl

pub has_skipped : (text : List ℕ) → (bytes_eq text (codes "functionalRead") || bytes_eq text (codes "functionalWrite")) ≡ has (functional_name ∷ []) (name_kind text)
has_skipped text = skipped_by (bytes_eq text (codes "MachineType")) (skipped_at text) (not_both text)

plain_by : (a b : Bool) → (a ≡ true → b ≡ false) → has (other_name ∷ machine_type ∷ []) (cond a machine_type (cond b functional_name other_name)) ≡ true → not b ≡ true
plain_by true b apart is = subst (λ s. not s ≡ true) (sym (apart refl)) refl
plain_by false true apart is = absurd (false≢true is)
plain_by false false apart is = refl

pub not_skipped : (n : Name) {tokens left : List Token} → IsNode (node n.span (token (Named n.text) none)) tokens left
    → is_ahead (other_name ∷ machine_type ∷ []) (symbols tokens) ≡ true → IsTrue (not (is_skipped n))
not_skipped n (spelled covers (one {t = t} same nothing)) ahead =
    plain_by (bytes_eq n.text (codes "MachineType")) (is_skipped n) (not_both n.text)
    (subst (λ k. has (other_name ∷ machine_type ∷ []) (kind_of k) ≡ true) same ahead)

last_of : (a b c : Bool) → (a || (b || (c || false))) ≡ true → (c || false) ≡ false → (a || (b || false)) ≡ true
last_of true b c some absent_there = refl
last_of false true c some absent_there = refl
last_of false false true some absent_there = absurd (false≢true (sym absent_there))
last_of false false false some absent_there = absurd (false≢true some)

pub plain_ahead : (tokens : List Token) → is_ahead names_of (symbols tokens) ≡ true → is_ahead (functional_name ∷ []) (symbols tokens) ≡ false → is_ahead (other_name ∷ machine_type ∷ []) (symbols tokens) ≡ true
plain_ahead [] some absent_there = absurd (false≢true some)
plain_ahead (t ∷ tokens) some absent_there =
    last_of (other_name == kind_of t.kind) (machine_type == kind_of t.kind) (functional_name == kind_of t.kind) some absent_there

-- a name of a kind is a name
first_two : (a b c : Bool) → (a || (b || false)) ≡ true → (a || (b || (c || false))) ≡ true
first_two true b c some = refl
first_two false true c some = refl
first_two false false c some = absurd (false≢true some)

pub plain_is_name : (tokens : List Token) → is_ahead (other_name ∷ machine_type ∷ []) (symbols tokens) ≡ true → is_ahead names_of (symbols tokens) ≡ true
plain_is_name [] some = absurd (false≢true some)
plain_is_name (t ∷ tokens) some = first_two (other_name == kind_of t.kind) (machine_type == kind_of t.kind) (functional_name == kind_of t.kind) some

-- the name of a function that is skipped is one of the two
pub is_skipped_text : (n : Name) {tokens left : List Token} → IsNode (node n.span (token (Named n.text) none)) tokens left
    → is_ahead (functional_name ∷ []) (symbols tokens) ≡ true → IsTrue (is_skipped n)
is_skipped_text n (spelled covers (one {t = t} same nothing)) ahead =
    has_skipped n.text ∙ subst (λ k. has (functional_name ∷ []) (kind_of k) ≡ true) same ahead

last_one : (a b c : Bool) → (c || false) ≡ true → (a || (b || (c || false))) ≡ true
last_one true b c some = refl
last_one false true c some = refl
last_one false false c some = some

pub skipped_is_name : (tokens : List Token) → is_ahead (functional_name ∷ []) (symbols tokens) ≡ true → is_ahead names_of (symbols tokens) ≡ true
skipped_is_name [] some = absurd (false≢true some)
skipped_is_name (t ∷ tokens) some = last_one (other_name == kind_of t.kind) (machine_type == kind_of t.kind) (functional_name == kind_of t.kind) some

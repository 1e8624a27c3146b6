-- How parts of the grammar are read one behind another, and how a fault in one is a fault of those around it.
use Rattle.std.proofs.Common.{◌≡◌, ℕ, zero, suc, ◌≤◌, true, false, Bool, List, [], ◌∷◌, length, refl, sym, subst, Some, IsTrue, arith, Result, Ok, Err}
use Rattle.std.specs.Result.{MatchResult}
use Rattle.std.specs.List.{slice_get}
use Rattle.slicc_ast.specs.declared.tree.span.Span.{Span}
use Rattle.std.proofs.lemmas.Bool.{false≢true}
use Rattle.slicc_ast.specs.declared.tree.token.TokenKind.{TokenKind}
use Rattle.slicc_ast.specs.declared.tree.token.TokenKind.TheVariants.{Name, Quoted}
use Rattle.slicc_ast.specs.Outline.{token}
use Rattle.slicc_ast.specs.Prelude.{Outline, node, Parts, none, part, provided, Deep, Row, first_of, done, form, nested, has, is_ahead, refusal, Form, ◌▸◌, names_of, table, kind_of, quoted}
use Rattle.slicc_ast.specs.Grammar.Row.{token as token_row}
use Rattle.slicc_ast.proofs.Steps.{passes_both, passes_token, passes_form, fails_first, fails_second, fails_token, fails_form, fails_unformed, fails_unopened, fails_deep}
use Rattle.slicc_ast.specs.Parts.{Part}
use Rattle.slicc_lex.specs.declared.token.Token.{Token}
use Rattle.slicc_lex.specs.Prelude.{symbols}
use Rattle.slicc_reading.specs.declared.fault.Fault.{Fault}
use Rattle.slicc_reading.specs.declared.fault.Fault.TheVariants.{Deep as TooDeep}
use Rattle.slicc_reading.specs.Prelude.{AreParts, Covers, IsNode, IsRead, AreRead, IsStopOf, Refuses, spelled, nothing, one, inside, allowed, no_memory, stops}
use Rattle.slicc_ast.proofs.Leading.{name_is_one}
use Rattle.slicc_reading.proofs.Refusals.{deep_at}
use Rattle.slicc_reading.proofs.Spans.{token_covers}

-- a token of some kinds
pub token_read : (room : ℕ) (kinds : List ℕ) (kind : TokenKind) (t : Token) (tokens left : List Token)
    → tokens ≡ t ∷ left → has kinds (kind_of t.kind) ≡ true → t.kind ≡ kind
    → AreRead room (token_row kinds) (token kind) tokens left
token_read room kinds kind t tokens left is has_kind same =
    subst (λ ts. AreRead room (token_row kinds) (token kind) ts left) (sym is)
    (record {
      passes = passes_token table room kinds (kind_of t.kind) (symbols left) has_kind;
      spells = λ others end m. one same m;
      within = omega arith;
    })

-- whether a kind is ahead is told by the first token
pub first_ahead : (kinds : List ℕ) (t : Token) (tokens left : List Token) (v : Bool)
    → tokens ≡ t ∷ left → has kinds (kind_of t.kind) ≡ v → is_ahead kinds (symbols tokens) ≡ v
first_ahead kinds t tokens left v is first = subst (λ ts. is_ahead kinds (symbols ts) ≡ v) (sym is) first

pub none_ahead : (kinds : List ℕ) (tokens : List Token) → tokens ≡ [] → is_ahead kinds (symbols tokens) ≡ false
none_ahead kinds tokens is = subst (λ ts. is_ahead kinds (symbols ts) ≡ false) (sym is) refl

-- a token that isn't of these kinds
pub token_refused : (room : ℕ) (kinds : List ℕ) (tokens : List Token) (fault : Fault)
    → is_ahead kinds (symbols tokens) ≡ false → IsStopOf (refusal table room (symbols tokens)) fault
    → Refuses room (token_row kinds) tokens fault
token_refused room kinds tokens fault ahead is = stops (refusal table room (symbols tokens)) (fails_token table room kinds (symbols tokens) ahead) is

pub other_token_refused : (room : ℕ) (kinds : List ℕ) (t : Token) (tokens left : List Token) (fault : Fault)
    → tokens ≡ t ∷ left → has kinds (kind_of t.kind) ≡ false → IsStopOf (refusal table room (symbols tokens)) fault
    → Refuses room (token_row kinds) tokens fault
other_token_refused room kinds t tokens left fault is has_not stop = token_refused room kinds tokens fault (first_ahead kinds t tokens left false is has_not) stop

pub no_token_refused : (room : ℕ) (kinds : List ℕ) (tokens : List Token) (fault : Fault)
    → tokens ≡ [] → IsStopOf (refusal table room (symbols tokens)) fault
    → Refuses room (token_row kinds) tokens fault
no_token_refused room kinds tokens fault is stop = token_refused room kinds tokens fault (none_ahead kinds tokens is) stop

-- a nesting that isn't opened, and one that is too deep
pub not_opened : (room : ℕ) (kinds : List ℕ) (row : Row Form) (tokens : List Token) (fault : Fault)
    → is_ahead kinds (symbols tokens) ≡ false → IsStopOf (refusal table room (symbols tokens)) fault
    → Refuses room (nested kinds row) tokens fault
not_opened room kinds row tokens fault ahead is = stops (refusal table room (symbols tokens)) (fails_unopened table room kinds row (symbols tokens) ahead) is

pub opened_too_deep : (room : ℕ) (kinds : List ℕ) (row : Row Form) (tokens : List Token)
    → room ≡ 0 → is_ahead kinds (symbols tokens) ≡ true
    → Refuses room (nested kinds row) tokens (TooDeep (length tokens))
opened_too_deep room kinds row [] full ahead = absurd (false≢true ahead)
opened_too_deep (suc room) kinds row (t ∷ tokens) full ahead = absurd (omega arith)
opened_too_deep zero kinds row (t ∷ tokens) full ahead =
    stops (Deep (symbols (t ∷ tokens))) (fails_deep table kinds row (kind_of t.kind) (symbols tokens) ahead) (deep_at (t ∷ tokens))

-- what a node is, as a part of another one
pub as_part : {room : ℕ} {g : Part} {outline : Outline} {tokens left : List Token}
    → IsRead room g outline tokens tokens left → AreRead room g (part outline) tokens left
as_part r = record { passes = r.passes; spells = λ others end m. inside r.is_node m; within = r.within }

-- a node of the parts that were read
pub as_node : {room : ℕ} {g : Part} {parts : Parts → Parts} {tokens left : List Token} (span : Span)
    → Covers span tokens left → AreRead room g parts tokens left → IsRead room g (node span (parts none)) tokens tokens left
as_node span covers r = record { passes = r.passes; is_node = spelled covers (r.spells none _ nothing); within = r.within }

-- a node that begins with another one, which was read before, and goes on with the parts that were read
pub as_node_behind : {room : ℕ} {g : Part} {first : Outline} {parts : Parts → Parts} {start tokens left : List Token} (span : Span)
    → Covers span start left → IsNode first start tokens → AreRead room g parts tokens left
    → IsRead room g (node span (part first (parts none))) start tokens left
as_node_behind span covers first r = record { passes = r.passes; is_node = spelled covers (inside first (r.spells none _ nothing)); within = r.within }

-- one part behind another
infixr 70 ◌then◌
pub ◌then◌ : {room : ℕ} {g h : Part} {p q : Parts → Parts} {tokens between left : List Token}
    → AreRead room g p tokens between → AreRead room h q between left
    → AreRead room (g ▸ h) (λ others. p (q others)) tokens left
◌then◌ {room = room} {g = g} {h = h} {tokens = tokens} {between = between} {left = left} a b =
    record {
      passes = passes_both table room g h (symbols tokens) (symbols between) (symbols left) a.passes b.passes;
      spells = λ others end m. a.spells _ end (b.spells others end m);
      within = (let one : length left ≤ length between = b.within in let two : length between ≤ length tokens = a.within in omega arith);
    }

-- a fault in the first of two parts, and in the second
pub at_first : {room : ℕ} {g : Part} {tokens : List Token} {fault : Fault} (h : Part)
    → Refuses room g tokens fault → Refuses room (g ▸ h) tokens fault
at_first h no_memory = no_memory
at_first {room = room} {g = g} {tokens = tokens} h (stops stop fails is) = stops stop (fails_first table room g h (symbols tokens) stop fails) is

pub behind : {room : ℕ} {g h : Part} {p : Parts → Parts} {tokens between : List Token} {fault : Fault}
    → AreRead room g p tokens between → Refuses room h between fault → Refuses room (g ▸ h) tokens fault
behind a no_memory = no_memory
behind {room = room} {g = g} {h = h} {tokens = tokens} {between = between} a (stops stop fails is) =
    stops stop (fails_second table room g h (symbols tokens) (symbols between) stop a.passes fails) is

-- a form by one of its alternatives
pub by_alternative : {room : ℕ} {g : Part} {p : Parts → Parts} {tokens left : List Token} (n : Form) (place : ℕ)
    → slice_get (table.alternatives n) place ≡ Some (g done) → is_ahead (first_of table (g done)) (symbols tokens) ≡ true
    → AreRead room g p tokens left → AreRead room (form n) p tokens left
by_alternative {room = room} {g = g} {tokens = tokens} {left = left} n place at ahead r =
    record { passes = passes_form table room n place g (symbols tokens) (symbols left) at ahead r.passes; spells = r.spells; within = r.within }

pub in_alternative : {room : ℕ} {g : Part} {tokens : List Token} {fault : Fault} (n : Form) (place : ℕ)
    → slice_get (table.alternatives n) place ≡ Some (g done) → is_ahead (first_of table (g done)) (symbols tokens) ≡ true
    → Refuses room g tokens fault → Refuses room (form n) tokens fault
in_alternative n place at ahead no_memory = no_memory
in_alternative {room = room} {g = g} {tokens = tokens} n place at ahead (stops stop fails is) =
    stops stop (fails_form table room n place g (symbols tokens) stop at ahead fails) is

-- no alternative begins with the token
pub at_no_alternative : {room : ℕ} {tokens : List Token} {fault : Fault} (n : Form)
    → is_ahead (table.first n) (symbols tokens) ≡ false → IsStopOf (refusal table room (symbols tokens)) fault
    → Refuses room (form n) tokens fault
at_no_alternative {room = room} {tokens = tokens} n ahead is = stops (refusal table room (symbols tokens)) (fails_unformed table room n (symbols tokens) refl ahead) is

-- a name, where it is read and copied
pub name_read : (room : ℕ) (text found : List ℕ) (t : Token) (tokens left : List Token)
    → tokens ≡ t ∷ left → t.kind ≡ Name found → text ≡ found
    → IsRead room (token_row names_of) (node t.span (token (Name text) none)) tokens tokens left
name_read room text found t tokens left is same copy =
    let kind : t.kind ≡ Name text = subst (λ bytes. t.kind ≡ Name bytes) (sym copy) same in
    as_node t.span (token_covers t tokens left is)
    (token_read room names_of (Name text) t tokens left is (subst (λ k. has names_of (kind_of k) ≡ true) (sym kind) (name_is_one text)) kind)

-- a string, where it is read and copied
pub string_read : (room : ℕ) (text found : List ℕ) (t : Token) (tokens left : List Token)
    → tokens ≡ t ∷ left → t.kind ≡ Quoted found → text ≡ found
    → AreRead room (token_row (quoted ∷ [])) (token (Quoted text)) tokens left
string_read room text found t tokens left is same copy =
    let kind : t.kind ≡ Quoted text = subst (λ bytes. t.kind ≡ Quoted bytes) (sym copy) same in
    token_read room (quoted ∷ []) (Quoted text) t tokens left is (subst (λ k. has (quoted ∷ []) (kind_of k) ≡ true) (sym kind) refl) kind

-- what a node's outline is, by the tree that it is of
pub as_tree : {room : ℕ} {g : Part} {o : Outline} {start tokens left : List Token} (outline : Outline)
    → outline ≡ o → IsRead room g o start tokens left → IsRead room g outline start tokens left
as_tree {room = room} {g = g} {start = start} {tokens = tokens} {left = left} outline is r = subst (λ x. IsRead room g x start tokens left) (sym is) r

-- the same of parts
pub as_parts : {room : ℕ} {g : Part} {p : Parts → Parts} {tokens left : List Token} (parts : Parts → Parts)
    → ((others : Parts) → p others ≡ parts others) → AreRead room g p tokens left → AreRead room g parts tokens left
as_parts {tokens = tokens} parts same r =
    record { passes = r.passes; spells = λ others end m. subst (λ q. AreParts q tokens end) (same others) (r.spells others end m); within = r.within }

-- a result that is a call's own
pub match_map : {A E : Type 0} {P R : A → Type 0} {Q S : E → Type 0} (r : Result A E)
    → MatchResult r P Q → ((a : A) → P a → R a) → ((e : E) → Q e → S e) → MatchResult r R S
match_map (Ok a) m ok err = ok a m
match_map (Err e) m ok err = err e m

-- parts under a condition that holds
pub allow : {room : ℕ} {g : Part} {p : Parts → Parts} {tokens left : List Token} {condition : Bool}
    → IsTrue condition → AreRead room g p tokens left → AreRead room g (λ others. provided condition (p others)) tokens left
allow holds r = record { passes = r.passes; spells = λ others end m. allowed holds (r.spells others end m); within = r.within }

-- a node that begins with another one under a condition
pub as_allowed_behind : {room : ℕ} {g : Part} {first : Outline} {parts : Parts → Parts} {start tokens left : List Token} {condition : Bool} (span : Span)
    → Covers span start left → IsTrue condition → IsNode first start tokens → AreRead room g parts tokens left
    → IsRead room g (node span (provided condition (part first (parts none)))) start tokens left
as_allowed_behind span covers holds first r =
    record { passes = r.passes; is_node = spelled covers (allowed holds (inside first (r.spells none _ nothing))); within = r.within }

-- a node, where its form is read by one of its alternatives
pub of_alternative : {room : ℕ} {g : Part} {o : Outline} {start tokens left : List Token} (n : Form) (place : ℕ)
    → slice_get (table.alternatives n) place ≡ Some (g done) → is_ahead (first_of table (g done)) (symbols tokens) ≡ true
    → IsRead room g o start tokens left → IsRead room (form n) o start tokens left
of_alternative {room = room} {g = g} {tokens = tokens} {left = left} n place at ahead r =
    record { passes = passes_form table room n place g (symbols tokens) (symbols left) at ahead r.passes; is_node = r.is_node; within = r.within }

-- a node that goes on with what is read behind another one
pub read_behind : {room : ℕ} {g h : Part} {first o : Outline} {start other tokens between left : List Token}
    → IsRead room g first other tokens between → IsRead room h o start between left → IsRead room (g ▸ h) o start tokens left
read_behind {room = room} {g = g} {h = h} {tokens = tokens} {between = between} {left = left} a b =
    record {
      passes = passes_both table room g h (symbols tokens) (symbols between) (symbols left) a.passes b.passes;
      is_node = b.is_node;
      within = (let x : length left ≤ length between = b.within in let y : length between ≤ length tokens = a.within in omega arith);
    }

pub behind_read : {room : ℕ} {g h : Part} {first : Outline} {start tokens between : List Token} {fault : Fault}
    → IsRead room g first start tokens between → Refuses room h between fault → Refuses room (g ▸ h) tokens fault
behind_read a no_memory = no_memory
behind_read {room = room} {g = g} {h = h} {tokens = tokens} {between = between} a (stops stop fails is) =
    stops stop (fails_second table room g h (symbols tokens) (symbols between) stop a.passes fails) is

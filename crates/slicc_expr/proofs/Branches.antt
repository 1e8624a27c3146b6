-- The branches of a conditional are read by a loop, though each `else if` is a conditional of its own where one token ahead
-- is looked at; and what statements that hold blocks are spelled by.
use Rattle.std.proofs.Common.{rules, ◌≡◌, ◌&&◌, ℕ, ◌≤◌, Bool, true, false, Option, List, [], ◌∷◌, ◌++◌, length, refl, sym, subst, ap, ◌∙◌, arith}
use Rattle.std.proofs.lemmas.Bool.{false≢true}
use Rattle.slicc_ast.specs.declared.tree.declaration.Pairs.{Pairs}
use Rattle.slicc_ast.specs.declared.tree.expression.Expr.{Expr}
use Rattle.slicc_ast.specs.declared.tree.name.Name.{Name}
use Rattle.slicc_ast.specs.declared.tree.name.TypeName.{TypeName}
use Rattle.slicc_ast.specs.declared.tree.span.Span.{Span}
use Rattle.slicc_ast.specs.declared.tree.statement.Block.{Block}
use Rattle.slicc_ast.specs.declared.tree.statement.ElseIf.{ElseIf}
use Rattle.slicc_ast.specs.declared.tree.statement.If.{If, If', None', Some', Row_of-ElseIf, end_of-ElseIf, more_of-ElseIf, items-the_row-ElseIf, out-If}
use Rattle.slicc_ast.specs.declared.tree.statement.Stmt.{Stmt, Peek, Enqueue, Row_of-Stmt, end_of-Stmt, more_of-Stmt, items-the_row-Stmt}
use Rattle.slicc_ast.specs.declared.tree.statement.Stmt.TheViews.{the_lemmas}
use Rattle.slicc_ast.specs.declared.tree.token.TokenKind.{TokenKind}
use Rattle.slicc_ast.specs.declared.tree.token.TokenKind.TheVariants.{Word}
use Rattle.slicc_ast.specs.declared.tree.token.Sign.TheVariants.{OpenBrace}
use Rattle.slicc_ast.specs.declared.tree.token.Word.TheVariants.{If as IfWord, Else, Return, Peek as PeekWord, Enqueue as EnqueueWord}
use Rattle.slicc_ast.specs.Names.{word as word_of}
use Rattle.slicc_ast.specs.Outline.{token}
use Rattle.slicc_ast.specs.Prelude.{Outline, node, none, Parts, part, else_if_row, if_outline, stmt, stmt_list, stmt_row, Stop, Row, Rows, done, form, next, has, is_ahead, Passes, Stops, chosen, refused, taken, first_of_form, first_of_opening, Form, ◌▸◌, names_of, table, kind_of, sign_kind, word_kind}
use Rattle.slicc_ast.specs.Statements.{block}
use Rattle.slicc_ast.specs.Grammar.Row.{token as token_row}
use Rattle.slicc_ast.specs.Reader.Stops.{on, present}
use Rattle.slicc_ast.specs.Parts.{Part, word}
use Rattle.slicc_lex.specs.declared.token.Token.{Token}
use Rattle.slicc_lex.specs.Prelude.{symbols}
use Rattle.slicc_reading.specs.declared.fault.Fault.{Fault}
use Rattle.slicc_reading.specs.Prelude.{AreParts, AreRead, IsRead, Leads, Refuses, nothing, one, no_memory, stops}
use Rattle.slicc_reading.proofs.Choices.{leads_here}
use Rattle.slicc_reading.proofs.FirstTokens.{later_kind, neither_kind}
use Rattle.slicc_reading.proofs.Parts.{as_tree}
use Rattle.slicc_reading.proofs.Repeats.{each}
use Rattle.slicc_expr.specs.Prelude.{AreElseIfs, branch, branch_parts, branches_end, calling_words, else_if_parts, else_ifs_parts, enqueue_head_parts, is_else_if, nesting_words, other_branches_parts, peek_head_parts, statement_words}

-- statements, one behind another
abbrev pub stmt_parts : Stmt → Parts → Parts
stmt_parts s others = part (stmt s) others

pub each_stmt : (items : List Stmt) (others : Parts) → stmt_list items others ≡ each stmt_parts items others
each_stmt [] others = refl
each_stmt (first ∷ items) others = ap (λ p. stmt_parts first p) (each_stmt items others)

-- what the children of a statement are spelled by, from the list of them
pub list_of_row : (n : _) (row : Row_of-Stmt n) (others : Parts) → stmt_row row others ≡ stmt_list (items-the_row-Stmt n row) others
list_of_row n end_of-Stmt others = refl
list_of_row n (more_of-Stmt first row) others = ap (λ p. part (stmt first) p) (list_of_row _ row others)

pub peek_outline : (port : Name) (message : TypeName) (attributes : Pairs) (body : Block) (span : Span)
    → stmt (Peek port message attributes body span) ≡ node span (peek_head_parts ((port, message), attributes) (block body none))
peek_outline port message attributes body span = search (rules, the_lemmas, list_of_row)

pub enqueue_outline : (port : Name) (message : TypeName) (latency : Option Expr) (body : Block) (span : Span)
    → stmt (Enqueue port message latency body span) ≡ node span (enqueue_head_parts ((port, message), latency) (block body none))
enqueue_outline port message latency body span = search (rules, the_lemmas, list_of_row)

else_ifs_of_row : (n : _) (row : Row_of-ElseIf n) (others : Parts) → else_if_row row others ≡ else_ifs_parts (items-the_row-ElseIf n row) others
else_ifs_of_row n end_of-ElseIf others = refl
else_ifs_of_row n (more_of-ElseIf condition shape inner span more) others =
    let later = else_ifs_of_row _ more others in
    search (rules, the_lemmas, later, list_of_row)

abbrev pub branches_of : If → Parts
branches_of i =
    branch_parts ((out-If i).condition, (out-If i).then) (other_branches_parts ((out-If i).others, (out-If i).otherwise) none)

pub if_is : (i : If) → if_outline i ≡ node (out-If i).span (branches_of i)
if_is (If' condition shape row block n others None' span) = search (rules, the_lemmas, list_of_row, else_ifs_of_row)
if_is (If' condition shape row block n others (Some' s r b) span) = search (rules, the_lemmas, list_of_row, else_ifs_of_row)

-- what is read, as the tree that it is
pub read_tree : {room : ℕ} {g : Part} {outline o : Outline} {start tokens left : List Token}
    → IsRead room g o start tokens left → outline ≡ o → IsRead room g outline start tokens left
read_tree {outline = outline} r is = as_tree outline is r

-- the first two tokens are `else` and `if`
record IsElseIf (kinds : List ℕ) : Type 0 where
  kind : ℕ
  others : List ℕ
  split : kinds ≡ kind ∷ others
  is_else : has (word_kind Else ∷ []) kind ≡ true
  is_if : is_ahead (word_kind IfWord ∷ []) others ≡ true

both_are : (a b : Bool) → (a && b) ≡ true → (a ≡ true) × (b ≡ true)
both_are true b is = (refl, is)
both_are false b is = absurd (false≢true is)

else_if_tokens : (kinds : List ℕ) → is_else_if kinds ≡ true → IsElseIf kinds
else_if_tokens [] is = absurd (false≢true is)
else_if_tokens (kind ∷ others) is =
    let parts = both_are (has (word_kind Else ∷ []) kind) (is_ahead (word_kind IfWord ∷ []) others) is in
    record { kind = kind; others = others; split = refl; is_else = parts.0; is_if = parts.1 }

-- behind a token that must come
taken_so : {depth : ℕ} {kinds : List ℕ} {row : Row Form} {rows : Rows Form} {kind : ℕ} {tokens : List ℕ} {stop : Stop}
    → has kinds kind ≡ true → Stops table depth (token_row kinds row) rows (kind ∷ tokens) stop → Stops table depth row rows tokens stop
taken_so is (taken has_kind s) = s
taken_so is (refused ahead) = absurd (false≢true (sym ahead ∙ is))

-- a branch behind `else` is a conditional there
as_conditional : {room : ℕ} {kinds : List ℕ} {stop : Stop} {row : Row Form} {rows : Rows Form} → IsElseIf kinds
    → Stops table room (word Else (branch (branches_end done))) (next done (next done (next row rows))) kinds stop
    → Stops table room (branches_end row) rows kinds stop
as_conditional {room = room} {stop = stop} {row = row} {rows = rows} both s =
    let inner = taken_so both.is_else (subst (λ ks. Stops table room (word Else (branch (branches_end done))) (next done (next done (next row rows))) ks stop) both.split s) in
    subst (λ ks. Stops table room (branches_end row) rows ks stop) (sym both.split)
    (present both.is_else (taken both.is_else
    (chosen 0 (form Form.conditional done) refl both.is_if (chosen 0 (branch (branches_end done)) refl both.is_if inner))))

one_branch : {room : ℕ} {now after : List Token} → is_else_if (symbols now) ≡ true
    → Passes table room (word Else ▸ branch) (symbols now) (symbols after) → length after ≤ length now → Leads room branches_end now branches_end after
one_branch {now = now} is passes shorter =
    let both = else_if_tokens (symbols now) is in
    record {
      passes = λ left p row rows stop s. as_conditional both (passes (branches_end done) _ stop (p done _ stop (on (on (on s)))));
      fails = λ stop f row rows. as_conditional both (passes (branches_end done) _ stop (f done _));
      within = shorter;
    }

fault_in_branch : {room : ℕ} {now : List Token} {fault : Fault} → is_else_if (symbols now) ≡ true
    → Refuses room (word Else ▸ branch) now fault → Refuses room branches_end now fault
fault_in_branch is no_memory = no_memory
fault_in_branch {now = now} is (stops stop fails is_stop) =
    let both = else_if_tokens (symbols now) is in
    stops stop (λ row rows. as_conditional both (fails (branches_end done) _)) is_stop

-- further branches
else_ifs_last : (items : List ElseIf) (last : ElseIf) (others : Parts) → else_ifs_parts (items ++ last ∷ []) others ≡ else_ifs_parts items (else_if_parts last others)
else_ifs_last [] last others = refl
else_ifs_last (first ∷ items) last others = ap (λ p. else_if_parts first p) (else_ifs_last items last others)

pub no_else_if : (room : ℕ) (tokens : List Token) (items : List ElseIf) → items ≡ [] → AreElseIfs room tokens items tokens
no_else_if room tokens items is =
    subst (λ xs. AreElseIfs room tokens xs tokens) (sym is) (record { leads = leads_here room branches_end tokens; spells = λ others end m. m })

pub leads_on : {room : ℕ} {f g h : Part} {tokens now after : List Token} → Leads room f tokens g now → Leads room g now h after → Leads room f tokens h after
leads_on {tokens = tokens} {now = now} {after = after} a b =
    record {
      passes = λ left p. a.passes left (b.passes left p);
      fails = λ stop f. a.fails stop (b.fails stop f);
      within = (let one : length now ≤ length tokens = a.within in let two : length after ≤ length now = b.within in omega arith);
    }

pub one_else_if : {room : ℕ} {tokens now after : List Token} (items : List ElseIf) (last : ElseIf) (more : List ElseIf)
    → more ≡ items ++ last ∷ [] → is_else_if (symbols now) ≡ true → AreRead room (word Else ▸ branch) (else_if_parts last) now after
    → AreElseIfs room tokens items now → AreElseIfs room tokens more after
one_else_if {room = room} {tokens = tokens} {after = after} items last more is ahead r so_far =
    subst (λ xs. AreElseIfs room tokens xs after) (sym is)
    (record {
      leads = leads_on so_far.leads (one_branch ahead r.passes r.within);
      spells = λ others end m. subst (λ p. AreParts p tokens end) (sym (else_ifs_last items last others)) (so_far.spells _ end (r.spells others end m));
    })

pub fault_on : {room : ℕ} {g h : Part} {tokens now : List Token} {fault : Fault} → Leads room g tokens h now → Refuses room h now fault → Refuses room g tokens fault
fault_on l no_memory = no_memory
fault_on l (stops stop fails is) = stops stop (l.fails stop fails) is

pub fault_in_else_if : {room : ℕ} {tokens now : List Token} {items : List ElseIf} {fault : Fault}
    → is_else_if (symbols now) ≡ true → Refuses room (word Else ▸ branch) now fault → AreElseIfs room tokens items now → Refuses room branches_end tokens fault
fault_in_else_if ahead r so_far = fault_on so_far.leads (fault_in_branch ahead r)

pub all_branches : {room : ℕ} {tokens now left : List Token} {items : List ElseIf} {p : Parts → Parts}
    → AreElseIfs room tokens items now → AreRead room branches_end p now left → AreRead room branches_end (λ others. else_ifs_parts items (p others)) tokens left
all_branches {tokens = tokens} {now = now} {left = left} so_far r =
    record {
      passes = so_far.leads.passes (symbols left) r.passes;
      spells = λ others end m. so_far.spells _ end (r.spells others end m);
      within = (let one : length now ≤ length tokens = so_far.leads.within in let two : length left ≤ length now = r.within in omega arith);
    }

-- an `else` with no `if` behind it
second_not : (a b : Bool) → a ≡ true → (a && b) ≡ false → b ≡ false
second_not true b first none_of = none_of
second_not false b first none_of = absurd (false≢true first)

not_if_behind : {kind : TokenKind} {tokens left : List Token} → AreParts (token kind none) tokens left → kind ≡ Word Else
    → is_else_if (symbols tokens) ≡ false → is_ahead (word_kind IfWord ∷ []) (symbols left) ≡ false
not_if_behind (one {t = t} {left = left} same nothing) is none_of =
    second_not (has (word_kind Else ∷ []) (kind_of t.kind)) (is_ahead (word_kind IfWord ∷ []) (symbols left))
    (subst (λ k. has (word_kind Else ∷ []) (kind_of k) ≡ true) (sym (same ∙ is)) refl) none_of

pub no_if : {room : ℕ} {tokens behind : List Token} → is_else_if (symbols tokens) ≡ false
    → AreRead room (word Else) (word_of Else) tokens behind → is_ahead (word_kind IfWord ∷ []) (symbols behind) ≡ false
no_if {behind = behind} none_of r = not_if_behind (r.spells none behind nothing) refl none_of

-- what the token ahead is, where it begins a statement
pub calling_ahead : (tokens : List Token) → is_ahead (first_of_form Form.statement) (symbols tokens) ≡ true
    → is_ahead names_of (symbols tokens) ≡ false → is_ahead first_of_opening (symbols tokens) ≡ false
    → is_ahead (word_kind Return ∷ []) (symbols tokens) ≡ false → is_ahead nesting_words (symbols tokens) ≡ false
    → is_ahead calling_words (symbols tokens) ≡ true
calling_ahead tokens some no_name no_opening no_return no_nesting =
    later_kind nesting_words calling_words (symbols tokens)
    (later_kind (word_kind Return ∷ []) (word_kind IfWord ∷ word_kind PeekWord ∷ word_kind EnqueueWord ∷ calling_words) (symbols tokens)
    (later_kind first_of_opening statement_words (symbols tokens)
    (later_kind names_of (first_of_opening ++ statement_words) (symbols tokens) some no_name) no_opening) no_return) no_nesting

pub enqueue_ahead : (tokens : List Token) → is_ahead nesting_words (symbols tokens) ≡ true
    → is_ahead (word_kind IfWord ∷ []) (symbols tokens) ≡ false → is_ahead (word_kind PeekWord ∷ []) (symbols tokens) ≡ false
    → is_ahead (word_kind EnqueueWord ∷ []) (symbols tokens) ≡ true
enqueue_ahead tokens some no_if_there no_peek =
    later_kind (word_kind PeekWord ∷ []) (word_kind EnqueueWord ∷ []) (symbols tokens)
    (later_kind (word_kind IfWord ∷ []) (word_kind PeekWord ∷ word_kind EnqueueWord ∷ []) (symbols tokens) some no_if_there) no_peek

pub no_otherwise : (tokens : List Token) → is_ahead (word_kind IfWord ∷ []) (symbols tokens) ≡ false
    → is_ahead (sign_kind OpenBrace ∷ []) (symbols tokens) ≡ false → is_ahead (first_of_form Form.otherwise) (symbols tokens) ≡ false
no_otherwise tokens = neither_kind (word_kind IfWord ∷ []) (sign_kind OpenBrace ∷ []) (symbols tokens)

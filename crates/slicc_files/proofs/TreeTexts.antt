-- What is known of the include lines of a text: there are at most as many as bytes, and what they quote is printable.
use Rattle.std.proofs.Common.{◌≡◌, ◌<◌, ◌≤◌, ◌+◌, ◌-◌, ◌++◌, ℕ, suc, zero, Bool, true, false, IsTrue, nat_le, Option, None, Some, Result, Ok, Err, List, [], ◌∷◌, length, sym, subst, ap, ◌∙◌, arith, length-append, All, IsUtf8, if◌then◌else◌, slice_index}
use Rattle.std.proofs.lemmas.Bool.{and_parts}
use Rattle.std.proofs.lemmas.List.{length-map, map-append}
use Rattle.std.proofs.lemmas.List.Elements.{All-append, All-cons, All-nil}
use Rattle.std.proofs.lemmas.Str.{IsUtf8-append, IsUtf8-from_ascii}
use Rattle.std.specs.List.{flat_map, list_all}
use Rattle.slicc_ast.specs.Prelude.{is_printable, kinds_in, kinds_of, item_list, protocol_parts, tree_parts}
use Rattle.slicc_ast.specs.Trees.{item}
use Rattle.slicc_ast.specs.declared.tree.item.Item.{Item}
use Rattle.slicc_ast.specs.declared.tree.item.Item.TheVariants.{Include, Enumeration, Structure, Machine}
use Rattle.slicc_ast.specs.declared.tree.item.Tree.{Tree}
use Rattle.slicc_ast.specs.declared.tree.token.TokenKind.{TokenKind}
use Rattle.slicc_lex.specs.declared.fault.LexFault.{LexFault}
use Rattle.slicc_lex.specs.declared.token.Token.{Token}
use Rattle.slicc_lex.specs.Prelude.{Spells, token_kinds, IsWithinLimits, Reads, ends, skips, takes, stops, with_token}
use Rattle.slicc_lex.proofs.EndedTokens.{are_few}
use Rattle.slicc_files.specs.declared.reading.Broken.{Broken}
use Rattle.slicc_files.specs.declared.state.Wanted.{Wanted}
use Rattle.slicc_files.specs.Prelude.{wanted_by, wanted_of, interfaces, IsSound, IsReadText, IsReadTokens, has_no_tokens, has_tokens, spells_a_tree, has_a_bad_token, nests_too_deep}
use Rattle.std.specs.Str.{bytes_eq}

-- an item has a token
some_kinds : (i : Item) → 1 ≤ length (kinds_of (item i))
some_kinds (Include text span) = omega arith
some_kinds (Enumeration e) = omega arith
some_kinds (Structure s) = omega arith
some_kinds (Machine m) = omega arith

few_items : (items : List Item) → length items ≤ length (kinds_in (item_list items))
few_items [] = omega arith
few_items (i ∷ items) =
    omega (arith, some_kinds i, few_items items, length-append (kinds_of (item i)) (kinds_in (item_list items)))

few_behind : (name : Option (List ℕ)) (items : List Item) → length items ≤ length (kinds_in (protocol_parts name (item_list items)))
few_behind None items = few_items items
few_behind (Some name) items = omega (arith, few_items items)

few_spelled : (t : Tree) (tokens : List Token) → Spells t tokens → length t.items ≤ length tokens
few_spelled t tokens s =
    let kinds : length (kinds_in (tree_parts t)) ≡ length s.written = sym (ap length s.kinds) ∙ length-map s.written (λ (token : Token). token.kind) in
    omega (arith, few_behind t.protocol t.items, kinds, ap length s.split, length-append s.written (s.end ∷ []))

-- the kinds of tokens are within their limits
abbrev AreKindsWithin : List TokenKind → Type 0
AreKindsWithin [] = Unit {0}
AreKindsWithin (k ∷ ks) = IsWithinLimits k × AreKindsWithin ks

abbrev IsAnswerWithin : Result (List Token) LexFault → Type 0
IsAnswerWithin (Ok tokens) = AreKindsWithin (token_kinds tokens)
IsAnswerWithin (Err why) = Unit {0}

one_within : (t : Token) (answer : Result (List Token) LexFault) → IsWithinLimits t.kind → IsAnswerWithin answer → IsAnswerWithin (with_token t answer)
one_within t (Ok tokens) is all = (is, all)
one_within t (Err why) is all = tt

read_within : {file at : ℕ} {bytes : List ℕ} {answer : Result (List Token) LexFault} → Reads file at bytes answer → IsAnswerWithin answer
read_within ends = (tt, tt)
read_within (skips next reads) = read_within reads
read_within (takes {answer = answer} next within reads) = one_within _ answer within (read_within reads)
read_within (stops why) = tt

within_front : (ks ls : List TokenKind) → AreKindsWithin (ks ++ ls) → AreKindsWithin ks
within_front [] ls all = tt
within_front (k ∷ ks) ls all = (all.0, within_front ks ls all.1)

within_rest : (ks ls : List TokenKind) → AreKindsWithin (ks ++ ls) → AreKindsWithin ls
within_rest [] ls all = all
within_rest (k ∷ ks) ls all = within_rest ks ls all.1

-- what include lines quote is printable
abbrev IsQuotePrintable : Item → Type 0
IsQuotePrintable (Include text span) = IsTrue (list_all is_printable text)
IsQuotePrintable (Enumeration e) = Unit {0}
IsQuotePrintable (Structure s) = Unit {0}
IsQuotePrintable (Machine m) = Unit {0}

abbrev AreQuotesPrintable : List Item → Type 0
AreQuotesPrintable [] = Unit {0}
AreQuotesPrintable (i ∷ items) = IsQuotePrintable i × AreQuotesPrintable items

one_printable : (i : Item) → AreKindsWithin (kinds_of (item i)) → IsQuotePrintable i
one_printable (Include text span) all = all.1.0
one_printable (Enumeration e) all = tt
one_printable (Structure s) all = tt
one_printable (Machine m) all = tt

all_printable : (items : List Item) → AreKindsWithin (kinds_in (item_list items)) → AreQuotesPrintable items
all_printable [] all = tt
all_printable (i ∷ items) all = (
  one_printable i (within_front (kinds_of (item i)) (kinds_in (item_list items)) all),
  all_printable items (within_rest (kinds_of (item i)) (kinds_in (item_list items)) all),
)

printable_behind : (name : Option (List ℕ)) (items : List Item) → AreKindsWithin (kinds_in (protocol_parts name (item_list items))) → AreQuotesPrintable items
printable_behind None items all = all_printable items all
printable_behind (Some name) items all = all_printable items all.1.1.1

printable_spelled : (t : Tree) (tokens : List Token) → Spells t tokens → AreKindsWithin (token_kinds tokens) → AreQuotesPrintable t.items
printable_spelled t tokens s all =
    let split : token_kinds tokens ≡ token_kinds s.written ++ token_kinds (s.end ∷ []) =
    ap token_kinds s.split ∙ map-append (λ (token : Token). token.kind) s.written (s.end ∷ []) in
    let written : AreKindsWithin (token_kinds s.written) = within_front (token_kinds s.written) (token_kinds (s.end ∷ [])) (subst AreKindsWithin split all) in
    printable_behind t.protocol t.items (subst AreKindsWithin s.kinds written)

-- both of a text that is read
abbrev IsTame : List ℕ → Result Tree Broken → Type 0
IsTame bytes (Ok t) = (length t.items ≤ length bytes + 1) × AreQuotesPrintable t.items
IsTame bytes (Err b) = Unit {0}

tame_tokens : (file : ℕ) (bytes : List ℕ) (tokens : List Token) (answer : Result Tree Broken) → Reads file 0 bytes (Ok tokens) → IsReadTokens tokens answer → IsTame bytes answer
tame_tokens file bytes tokens answer reads (spells_a_tree {t = t} spells passes) =
    (omega (arith, few_spelled t tokens spells, are_few file bytes tokens reads), printable_spelled t tokens spells (read_within reads))
tame_tokens file bytes tokens answer reads (has_a_bad_token bad at) = tt
tame_tokens file bytes tokens answer reads (nests_too_deep deep at) = tt

tame : (file : ℕ) (bytes : List ℕ) (answer : Result Tree Broken) → IsReadText file bytes answer → IsTame bytes answer
tame file bytes answer (has_no_tokens reads is) = tt
tame file bytes answer (has_tokens {tokens = tokens} {answer = inner} reads is) = tame_tokens file bytes tokens inner reads is

-- so at most as many files are wanted
few_by : (folder : List ℕ) (file : ℕ) (i : Item) → length (wanted_by folder file i) ≤ 1
few_by folder file (Include text span) = at_most_one (bytes_eq text interfaces) _ where
  at_most_one : (b : Bool) (w : Wanted) → length (if b then [] else w ∷ []) ≤ 1
  at_most_one true w = omega arith
  at_most_one false w = omega arith
few_by folder file (Enumeration e) = omega arith
few_by folder file (Structure s) = omega arith
few_by folder file (Machine m) = omega arith

few_of_items : (folder : List ℕ) (file : ℕ) (items : List Item) → length (flat_map (wanted_by folder file) items) ≤ length items
few_of_items folder file [] = omega arith
few_of_items folder file (i ∷ items) =
    omega (arith, few_by folder file i, few_of_items folder file items, length-append (wanted_by folder file i) (flat_map (wanted_by folder file) items))

pub few_wanted : (folder : List ℕ) (number file : ℕ) (bytes : List ℕ) (t : Tree) → IsReadText number bytes (Ok t) → length (wanted_of folder file t) ≤ length bytes + 1
few_wanted folder number file bytes t read = omega (arith, few_of_items folder file t.items, (tame number bytes (Ok t) read).0)

-- and their names are texts
printable_ascii : (c : ℕ) → is_printable c ≡ true → c < 128
printable_ascii c is = grind (arith, is, and_parts (nat_le 32 c) (nat_le c 126) is)

ascii_at : (text : List ℕ) → list_all is_printable text ≡ true → (i : ℕ) → slice_index text i < 128
ascii_at [] all i = omega arith
ascii_at (c ∷ cs) all zero = printable_ascii c (and_parts (is_printable c) (list_all is_printable cs) all).0
ascii_at (c ∷ cs) all (suc i) = ascii_at cs (and_parts (is_printable c) (list_all is_printable cs) all).1 i

sound_by : (folder : List ℕ) (file files : ℕ) (i : Item) → IsUtf8 folder → file ≤ files - 1 → IsQuotePrintable i → All (IsSound files) (wanted_by folder file i)
sound_by folder file files (Include text span) text_is low all = at_most_one (bytes_eq text interfaces) _ one where
  one : IsSound files (record { name = folder ++ text; file = file; offset = span.start })
  one = record { name = IsUtf8-append folder text text_is (IsUtf8-from_ascii text (ascii_at text all)); file = low }

  at_most_one : (b : Bool) (w : Wanted) → IsSound files w → All (IsSound files) (if b then [] else w ∷ [])
  at_most_one true w is = All-nil (IsSound files)
  at_most_one false w is = All-cons (IsSound files) w [] is (All-nil (IsSound files))
sound_by folder file files (Enumeration e) text_is low all = All-nil (IsSound files)
sound_by folder file files (Structure s) text_is low all = All-nil (IsSound files)
sound_by folder file files (Machine m) text_is low all = All-nil (IsSound files)

sound_items : (folder : List ℕ) (file files : ℕ) (items : List Item) → IsUtf8 folder → file ≤ files - 1 → AreQuotesPrintable items → All (IsSound files) (flat_map (wanted_by folder file) items)
sound_items folder file files [] text_is low all = All-nil (IsSound files)
sound_items folder file files (i ∷ items) text_is low all =
    All-append (IsSound files) (wanted_by folder file i) (flat_map (wanted_by folder file) items)
    (sound_by folder file files i text_is low all.0) (sound_items folder file files items text_is low all.1)

pub sound_wanted : (folder : List ℕ) (number file files : ℕ) (bytes : List ℕ) (t : Tree) → IsUtf8 folder → file ≤ files - 1 → IsReadText number bytes (Ok t) → All (IsSound files) (wanted_of folder file t)
sound_wanted folder number file files bytes t text_is low read = sound_items folder file files t.items text_is low (tame number bytes (Ok t) read).1

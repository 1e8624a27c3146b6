-- A reader by the table, and the written grammar.
use Rattle.std.proofs.Common.{◌≡◌, ℕ, true, List, [], ◌∷◌, ◌++◌, refl}
use Rattle.slicc_ast.specs.declared.tree.item.Tree.{Tree}
use Rattle.slicc_ast.specs.Prelude.{is_allowed, tree, IsFirstFault, IsWithin, Stop, Passed, done, form, end, Fails, Passes, HaveSameLists, Form, file, spelling, end_of_text, table, written}
use Rattle.slicc_ast.proofs.Joining.{same_lists}
use Rattle.slicc_ast.proofs.SameStops.{same_stop}
use Rattle.slicc_ast.proofs.Steps.{passed_is_front, failed_is_fault}
use Rattle.slicc_ast.proofs.Fronts.{one_stop, whole_passes}
use Rattle.slicc_ast.proofs.LeadingTrees.{tree_derives}
use Rattle.slicc_ast.proofs.Decided.{one_token_decides}
use Rattle.slicc_ast.proofs.IntoTable.{table_covers}
use Rattle.slicc_ast.proofs.IntoWritten.{written_covers}

pub have_same_lists : HaveSameLists written table
have_same_lists = same_lists written table table_covers written_covers

table_has_written : HaveSameLists table written
table_has_written = same_lists table written written_covers table_covers

pub passed : (limit : ℕ) (n : Form) (tokens left : List ℕ) → Passes table limit (form n) tokens left → IsFirstFault written limit n tokens (Passed left)
passed limit n tokens left passes =
    same_stop table written table_has_written refl limit (form n done) end tokens (Passed left)
    (passed_is_front table one_token_decides limit n tokens left passes)

pub failed : (limit : ℕ) (n : Form) (tokens : List ℕ) (stop : Stop) → Fails table limit (form n) tokens stop → IsFirstFault written limit n tokens stop
failed limit n tokens stop fails =
    same_stop table written table_has_written refl limit (form n done) end tokens stop
    (failed_is_fault table one_token_decides limit n tokens stop fails)

pub tree_passes : (limit : ℕ) (t : Tree) (stop : Stop) → is_allowed (tree t) ≡ true → IsWithin written limit (form file done) end (spelling (tree t) ++ end_of_text ∷ []) → IsFirstFault written limit file (spelling (tree t) ++ end_of_text ∷ []) stop → stop ≡ Passed []
tree_passes limit t stop allowed within stops =
    let tokens = spelling (tree t) ++ end_of_text ∷ [] in
    one_stop written limit (form file done) end tokens stop (Passed []) stops
    (whole_passes written limit (form file done) end tokens (tree_derives t allowed) within)

use Rattle.std.proofs.Common.{refl, sym, [], append-nil}
use Rattle.slicc_ast.proofs.Fronts.{front_of, not_viable_at, one_stop, whole_passes, passes_whole}
use Rattle.slicc_ast.proofs.table_laws.lists_stop_in_one_way.Goals as goal

pub returns : goal.returns
returns g c = record {
  once = one_stop;
  whole = λ t limit row rows tokens. (λ both. whole_passes t limit row rows tokens both.0 both.1, passes_whole t limit row rows tokens);
  bad = not_viable_at;
  fronts = λ t row rows front rest begins. front_of t begins.1 front rest refl;
  derived = λ t row rows tokens m. front_of t m tokens [] (sym (append-nil tokens));
}

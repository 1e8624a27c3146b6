-- A machine's written transitions are among its states and events.
use Rattle.std.proofs.Common.{◌≡◌, ℕ, suc, ◌<◌, Bool, true, false, cond, List, [], ◌∷◌, ◌++◌, All, fold, length, map, sym, subst, arith}
use Rattle.std.proofs.lemmas.List.Elements.{All-cons, All-nil, All-push}
use Rattle.slicc_ast.specs.declared.tree.name.Name.{Name}
use Rattle.slicc_ast.specs.declared.tree.machine.Machine.{Machine}
use Rattle.slicc_ast.specs.declared.tree.machine.Transition.{Transition}
use Rattle.slicc_plan.specs.declared.row.Written.{Written}
use Rattle.slicc_plan.specs.Prelude.{Declaration, event_members, state_members, each_once, includes, numbers_among, transitions_of, with_number, written, written_of}
use Rattle.slicc_plan.specs.Machines.{names_in}
use Rattle.slicc_plan.proofs.Pairs.{positions_below}
use Rattle.pair_table.specs.Prelude.{IsAmong}

all_once : (P : ℕ → Type 0) (kept ns : List ℕ) → All P kept → All P ns → All P (fold with_number kept ns)
all_once P kept [] h g = h
all_once P kept (n ∷ ns) h g = all_once P (with_number kept n) ns (by (includes kept n)) (λ k d below. g (suc k) d (omega arith))
  where
    by : (b : Bool) → All P (cond b kept (kept ++ n ∷ []))
    by true = h
    by false = All-push P kept n h (g 0 n (omega arith))

once_below : (ds : List Declaration) (ns : List Name) → All (λ k. k < length ds) (each_once (numbers_among ds ns))
once_below ds ns = all_once (λ k. k < length ds) [] (numbers_among ds ns) (All-nil (λ k. k < length ds)) (positions_below ds ns)

pub among_written : (m : Machine) → All (IsAmong (length (state_members m)) (length (event_members m))) (written_of m)
among_written m = each (transitions_of m)
  where
    each : (ts : List Transition) → All (IsAmong (length (state_members m)) (length (event_members m))) (map (written m) ts)
    each [] = All-nil (IsAmong (length (state_members m)) (length (event_members m)))
    each (t ∷ ts) =
        All-cons (IsAmong (length (state_members m)) (length (event_members m))) (written m t) (map (written m) ts)
        (once_below (state_members m) (names_in t.states), once_below (event_members m) (names_in t.events)) (each ts)

pub among_as : (m : Machine) (ws : List Written) (states events : ℕ) → ws ≡ written_of m → states ≡ length (state_members m) → events ≡ length (event_members m) → All (IsAmong states events) ws
among_as m ws states events same s e =
    subst (λ ws. All (IsAmong states events) ws) (sym same) (subst (λ n. All (IsAmong states n) (written_of m)) (sym e) (subst (λ n. All (IsAmong n (length (event_members m))) (written_of m)) (sym s) (among_written m)))

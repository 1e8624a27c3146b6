-- Transitions that share a pair, by the numbers of the first ones.
use Rattle.std.proofs.Common.{◌≡◌, ℕ, zero, suc, ◌+◌, ◌*◌, ◌<◌, ◌≤◌, min, Bool, true, false, cond, not, ◌||◌, ◌&&◌, Option, None, Some, List, [], ◌∷◌, ◌++◌, All, find, length, take, slice_get, slice_index, slice_index_or, nat_lt, refl, sym, ap, subst, ◌∙◌, arith, add-one, append_assoc, append-nil}
use Rattle.std.specs.List.{list_any, position_or_len}
use Rattle.std.specs.Option.{option_map}
use Rattle.std.proofs.Math.Seq.{take-suc}
use Rattle.std.proofs.lemmas.List.Folds.{find_at}
use Rattle.std.proofs.lemmas.Grind.{common_steps}
use Rattle.slicc_plan.specs.declared.broken.Broken.{Broken}
use Rattle.slicc_plan.specs.declared.row.Row.{Row}
use Rattle.slicc_plan.specs.declared.row.Written.{Written}
use Rattle.slicc_plan.specs.Buffers.{listed}
use Rattle.slicc_plan.specs.Machines.{is_for, row_of, rows_from}
use Rattle.slicc_plan.specs.Prelude.{includes, first_after, share_pair, shared_after}
use Rattle.slicc_plan.specs.TwoTransitions.{told_with}
use Rattle.slicc_plan.proofs.Firsts.{first_after-append}
use Rattle.pair_table.specs.Prelude.{IsAmong, first_at, is_at, least_at, places_of}
use Rattle.pair_table.proofs.Lists.{first_congr, first_in_front}
use Rattle.pair_table.proofs.FirstPlaces.{least_first, places_below, shared_place}

-- the earliest transition that shares a pair with this one
pub earliest_shared : (states events k : ℕ) (w : Written) (ws : List Written) (fs : List ℕ) → All (IsAmong states events) ws → k ≤ length ws → IsAmong states events w → ((c : ℕ) → c < states * events → slice_index fs c ≡ first_at events ws c) → find (share_pair w) (take k ws) ≡ slice_get (take k ws) (least_at fs (places_of events w) k)
earliest_shared states events k w ws fs all le among h =
    let places = least_first events ws fs (places_of events w) k le (λ j d under. h (slice_index_or (places_of events w) j d) (places_below states events w among j d under)) in
    let pairs = first_congr (λ u. list_any (λ c. is_at events c u) (places_of events w)) (share_pair w) ws (λ j d under. shared_place states events w (slice_index_or ws j d) among (all j d under)) in
    find_at (share_pair w) (take k ws)
    ∙ ap (slice_get (take k ws)) (first_in_front (share_pair w) ws k le ∙ ap (min k) (sym pairs) ∙ sym places)

pub shared_after-push : (number : ℕ) (before ts : List Written) (t : Written) → shared_after number before (ts ++ t ∷ []) ≡ shared_after number before ts ++ told_with number t (find (share_pair t) (before ++ ts))
shared_after-push number before [] t =
    append-nil (told_with number t (find (share_pair t) before)) ∙ ap (λ us. told_with number t (find (share_pair t) us)) (sym (append-nil before))
shared_after-push number before (u ∷ ts) t =
    let told = told_with number u (find (share_pair u) before) in
    ap (λ bs. told ++ bs) (shared_after-push number (before ++ u ∷ []) ts t)
    ∙ sym (append_assoc told (shared_after number (before ++ u ∷ []) ts) (told_with number t (find (share_pair t) ((before ++ u ∷ []) ++ ts))))
    ∙ ap (λ us. (told ++ shared_after number (before ++ u ∷ []) ts) ++ told_with number t (find (share_pair t) us)) (append_assoc before (u ∷ []) ts)

-- one more transition
pub shared_step : (number k : ℕ) (w : Written) (ws : List Written) (first : Option Broken) → k < length ws → w ≡ slice_index_or ws k w → first_after first (shared_after number [] (take (k + 1) ws)) ≡ first_after (first_after first (shared_after number [] (take k ws))) (told_with number w (find (share_pair w) (take k ws)))
shared_step number k w ws first below is =
    let taken : take (k + 1) ws ≡ take k ws ++ w ∷ [] = rw (add-one, take-suc ws k w below) (ap (λ x. take k ws ++ x ∷ []) (sym is)) in
    ap (λ us. first_after first (shared_after number [] us)) taken
    ∙ ap (first_after first) (shared_after-push number [] (take k ws) w)
    ∙ first_after-append first (shared_after number [] (take k ws)) (told_with number w (find (share_pair w) (take k ws)))

use Rattle.std.proofs.Common.{◌≡◌, ℕ, ◌<◌, find, length, slice_get, slice_index_or, subst, sym, ap, take, [], arith, ◌∙◌}
use Rattle.std.proofs.lemmas.List.{take_all}
use Rattle.slicc_plan.specs.Prelude.{first_after, share_pair, shared_after}
use Rattle.slicc_plan.specs.TwoTransitions.{told_with}
use Rattle.pair_table.specs.Prelude.{IsAmong, places_of}
use Rattle.pair_table.proofs.FirstPlaces.{among_at, places_below}
use Rattle.pair_table.proofs.Sharing.{earliest_shared, shared_step}
use Rattle.pair_table.proofs.shared.first_shared.Goals as goal

pub earliest-requires-clause-there : goal.earliest-requires-clause-there
earliest-requires-clause-there c =
    let w = c.index-ws-k.result in
    let among = among_at c.args.states c.args.events c.loop-k.k w c.args.ws.now c.requires.among c.loop-k-test.true c.index-ws-k.is in
    λ j d under. subst (λ n. slice_index_or (places_of c.args.events w) j d < n) (sym c.requires.length) (places_below c.args.states c.args.events w among j d under)

pub loop-k-preserved : goal.loop-k-preserved
loop-k-preserved c =
    let w = c.index-ws-k.result in
    let k = c.loop-k.k in
    let ws = c.args.ws.now in
    let before = take k ws in
    let among = among_at c.args.states c.args.events k w ws c.requires.among c.loop-k-test.true c.index-ws-k.is in
    let shared = earliest_shared c.args.states c.args.events k w ws c.args.firsts.now c.requires.among (omega (arith, c.loop-k-test.true)) among c.requires.firsts in
    c.judged-found.ensures
    ∙ ap (λ n. first_after c.loop-k.found (told_with c.args.number w (slice_get before n))) c.in_ok-earliest.ensures
    ∙ ap (λ o. first_after c.loop-k.found (told_with c.args.number w o)) (sym shared)
    ∙ ap (λ f. first_after f (told_with c.args.number w (find (share_pair w) before))) c.loop-k.invariant
    ∙ sym (shared_step c.args.number k w ws c.args.first c.loop-k-test.true c.index-ws-k.is)

pub returns : goal.returns
returns c =
    c.loop-k.invariant ∙ ap (λ us. first_after c.args.first (shared_after c.args.number [] us)) (take_all c.loop-k.k c.args.ws.now c.loop-k-test.false)

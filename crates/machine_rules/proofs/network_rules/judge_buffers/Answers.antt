use Rattle.std.proofs.Common.{[], ◌∷◌, cond, refl, ap, map, ◌∙◌}
use Rattle.std.specs.List.{list_any}
use Rattle.std.proofs.lemmas.List.{take_all}
use Rattle.slicc_plan.specs.Prelude.{BufferIn, are_from_one, doubled_after, networks_broken, first_after}
use Rattle.machine_table.specs.Prelude.{buffer_seen}
use Rattle.machine_rules.proofs.Walks.{walk_step}
use Rattle.machine_rules.proofs.network_rules.judge_buffers.Goals as goal

pub loop-k-preserved : goal.loop-k-preserved
loop-k-preserved c =
    let n = c.args.number in
    walk_step (doubled_after n) (λ before b. cond (list_any (λ (a : BufferIn). are_from_one a.place b.place) before) (networks_broken n b.span ∷ []) []) (λ b. refl) (λ b xs x. refl) buffer_seen
    c.loop-k.k c.index-buffers-k.result c.args.buffers.now c.args.first c.loop-k.found c.judge_buffer-found.result
    c.loop-k-test.true c.index-buffers-k.is c.loop-k.invariant c.judge_buffer-found.ensures

pub returns : goal.returns
returns c =
    c.loop-k.invariant ∙ ap (λ bs. first_after c.args.first (doubled_after c.args.number [] (map buffer_seen bs))) (take_all c.loop-k.k c.args.buffers.now c.loop-k-test.false)

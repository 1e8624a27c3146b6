use Rattle.std.proofs.Common.{◌++◌, ◌∷◌, [], map, refl, ap, ◌∙◌}
use Rattle.std.proofs.lemmas.List.{take_all}
use Rattle.slicc_plan.specs.Prelude.{HasFewParts, in_each_from, first_after, shared_pairs_in, written_of}
use Rattle.machine_table.proofs.TablesOfMachines.{found_step, one_of_all, written_step}
use Rattle.machine_table.proofs.making.written_among.Goals as goal

pub written_in-requires : goal.written_in-requires
written_in-requires c =
    one_of_all HasFewParts (λ m. m.now) c.args.machines.now c.loop-place.place c.index-machines-place.result c.requires.parts c.loop-place-test.true c.index-machines-place.is

pub loop-place-preserved : goal.loop-place-preserved
loop-place-preserved c =
    let i = c.loop-place.place in
    let ms = c.args.machines.now in
    let m = c.index-machines-place.result in
    record {
      found = found_step (λ m. m.now) shared_pairs_in ms i i m c.args.first c.loop-place.found c.in_ok-next.next c.loop-place-test.true c.index-machines-place.is refl c.loop-place.invariant.found c.in_ok-next.ensures.first;
      written = written_step (λ m. m.now) ms i m c.loop-place.all c.push.new.self c.loop-place-test.true c.index-machines-place.is c.loop-place.invariant.written
          (c.in_ok-push.ensures.ok ∙ ap (λ ws. c.loop-place.all ++ ws ∷ []) c.in_ok-next.ensures.written);
    }

pub returns : goal.returns
returns c =
    let all = take_all c.loop-place.place c.args.machines.now c.loop-place-test.false in
    record {
      first = c.loop-place.invariant.found ∙ ap (λ ms. first_after c.args.first (in_each_from 0 shared_pairs_in (map (λ m. m.now) ms))) all;
      written = c.loop-place.invariant.written ∙ ap (λ ms. map written_of (map (λ m. m.now) ms)) all;
    }

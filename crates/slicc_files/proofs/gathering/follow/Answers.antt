use Rattle.std.proofs.Common.{refl, rules, arith}
use Rattle.std.proofs.lemmas.Grind.{common_steps}
use Rattle.slicc_files.proofs.Stepping.{reach_all, reach_end, reach_more}
use Rattle.slicc_files.proofs.gathering.follow.Goals as goal

pub returns-in-Some-enter : goal.returns-in-Some-enter
returns-in-Some-enter g c =
    reach_end g.L.Library.reads c.args.folder.now c.args.state c.loop-next.state
    (record { sources = c.loop-next.state.sources; trees = c.loop-next.state.trees; left = c.pop.new.self })
    c.enter.new.state c.in-Some.next c.args.library.now c.loop-next.library c.enter.new.library c.loop-next.invariant.reached
    c.in-Some.ensures.items refl refl c.in-Some-enter.answer c.in-Some-enter.ensures.reads

pub loop-next-preserved : goal.loop-next-preserved
loop-next-preserved g c =
    record {
      reached =
          reach_more g.L.Library.reads c.args.folder.now c.args.state c.loop-next.state
          (record { sources = c.loop-next.state.sources; trees = c.loop-next.state.trees; left = c.pop.new.self })
          c.enter.new.state c.in-Some.next c.args.library.now c.loop-next.library c.enter.new.library c.loop-next.invariant.reached
          c.in-Some.ensures.items refl refl c.in_default-enter.ensures.reads;
      text = c.requires.folder;
      sound = c.in_default-enter.ensures.sound;
    }

pub returns : goal.returns
returns g c =
    reach_all g.L.Library.reads c.args.folder.now c.args.state c.loop-next.state c.args.library.now c.loop-next.library c.loop-next.invariant.reached (first_of (search rules, grind (arith, common_steps)))

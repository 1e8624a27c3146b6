use Rattle.std.proofs.Common.{arith, rules}
use Rattle.ruby_outside.specs.declared.library.Got.TheVariants as got
use Rattle.slicc_files.specs.declared.gathered.Gathered.TheVariants.{Absent, TooLarge, ReadFault, NoMemory}
use Rattle.slicc_files.specs.Prelude.{source_of, absent, too_large, too_long, failed, no_memory_for}
use Rattle.slicc_files.proofs.Stepping.{read_some, read_none, sound_after, fewer_after}
use Rattle.slicc_files.proofs.gathering.read_next.Goals as goal

pub returns-in-Bytes-clause-reads : goal.returns-in-Bytes-clause-reads
returns-in-Bytes-clause-reads g c =
    read_some g.L.Library.reads c.args.folder.now c.args.state.now c.take_in.new.state c.args.next c.args.library.now c.read.new.self
    c.in-Bytes.bytes c.take_in.result c.unwrap-name.result.now c.requires.is_next (omega arith) (search rules) c.in-Bytes.ensures c.take_in.ensures

pub returns-in-Bytes-clause-sound : goal.returns-in-Bytes-clause-sound
returns-in-Bytes-clause-sound g c =
    sound_after c.args.folder.now c.args.state.now c.take_in.new.state (source_of c.args.next c.in-Bytes.bytes) c.take_in.result c.requires.folder c.requires.sound (omega arith) c.take_in.ensures

pub returns-in-Bytes-clause-fewer : goal.returns-in-Bytes-clause-fewer
returns-in-Bytes-clause-fewer g c =
    fewer_after c.args.folder.now c.args.state.now c.take_in.new.state (source_of c.args.next c.in-Bytes.bytes) c.take_in.result c.requires.is_next.1 (omega arith) c.take_in.ensures

pub returns-in-Bytes-2-clause-reads : goal.returns-in-Bytes-2-clause-reads
returns-in-Bytes-2-clause-reads g c =
    read_none g.L.Library.reads c.args.folder.now c.args.state.now c.args.state.now c.args.next c.args.library.now c.read.new.self
    (got.Bytes c.in-Bytes.bytes) (TooLarge c.args.next.name) c.unwrap-name.result.now (search rules) c.in-Bytes.ensures (too_long c.requires.is_next (omega arith))

pub returns-in-TooLarge-clause-reads : goal.returns-in-TooLarge-clause-reads
returns-in-TooLarge-clause-reads g c =
    read_none g.L.Library.reads c.args.folder.now c.args.state.now c.args.state.now c.args.next c.args.library.now c.read.new.self
    got.TooLarge (TooLarge c.args.next.name) c.unwrap-name.result.now (search rules) c.in-TooLarge.ensures (too_large c.requires.is_next)

pub returns-in-Absent-clause-reads : goal.returns-in-Absent-clause-reads
returns-in-Absent-clause-reads g c =
    read_none g.L.Library.reads c.args.folder.now c.args.state.now c.args.state.now c.args.next c.args.library.now c.read.new.self
    got.Absent (Absent c.args.next.name) c.unwrap-name.result.now (search rules) c.in-Absent.ensures (absent c.requires.is_next)

pub returns-in-Failed-clause-reads : goal.returns-in-Failed-clause-reads
returns-in-Failed-clause-reads g c =
    read_none g.L.Library.reads c.args.folder.now c.args.state.now c.args.state.now c.args.next c.args.library.now c.read.new.self
    got.Failed (ReadFault c.args.next.name) c.unwrap-name.result.now (search rules) c.in-Failed.ensures (failed c.requires.is_next)

pub returns-in-NoMemory-clause-reads : goal.returns-in-NoMemory-clause-reads
returns-in-NoMemory-clause-reads g c =
    read_none g.L.Library.reads c.args.folder.now c.args.state.now c.args.state.now c.args.next c.args.library.now c.read.new.self
    got.NoMemory NoMemory c.unwrap-name.result.now (search rules) c.in-NoMemory.ensures (no_memory_for c.requires.is_next)

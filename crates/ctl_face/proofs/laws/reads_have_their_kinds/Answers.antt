use Rattle.ctl_face.proofs.Reading.{get_kind, peek_kinds, probe_line, peek_buffer}
use Rattle.ctl_face.proofs.laws.reads_have_their_kinds.Goals as goal

pub returns : goal.returns
returns c = record {
  get = λ v r field value lawful. get_kind v r field value lawful.scan;
  front = λ v buffer m lawful. peek_kinds v buffer m lawful.scan;
  probe = λ v table line l lawful. probe_line v table line l lawful.scan;
  front_buffer = peek_buffer;
}

use Rattle.std.proofs.Common.{rules}
use Rattle.trace_print.proofs.Listing.{one_line}
use Rattle.ruby_answers.proofs.writing.write_lines.Goals as goal

pub returns-in-Generated : goal.returns-in-Generated
returns-in-Generated g c = search (rules, one_line g.S.Sink.writes)

pub returns-in-Accepted : goal.returns-in-Accepted
returns-in-Accepted g c = search (rules, one_line g.S.Sink.writes)

pub returns-in-Usage : goal.returns-in-Usage
returns-in-Usage g c = search (rules, one_line g.S.Sink.writes)

pub returns-in-Refused : goal.returns-in-Refused
returns-in-Refused g c = search (rules, one_line g.S.Sink.writes)

pub returns-in-Unfit : goal.returns-in-Unfit
returns-in-Unfit g c = search (rules, one_line g.S.Sink.writes)

pub returns-in-Absent : goal.returns-in-Absent
returns-in-Absent g c = search (rules, one_line g.S.Sink.writes)

pub returns-in-TooLarge : goal.returns-in-TooLarge
returns-in-TooLarge g c = search (rules, one_line g.S.Sink.writes)

pub returns-in-ReadFault : goal.returns-in-ReadFault
returns-in-ReadFault g c = search (rules, one_line g.S.Sink.writes)

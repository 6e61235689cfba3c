use Rattle.parting.proofs.PartLaws.{begun, marks-grouped, marks-tell}
use Rattle.parting.proofs.first_classes.Goals as goal

pub cut_groups-requires-clause-grouped : goal.cut_groups-requires-clause-grouped
cut_groups-requires-clause-grouped c =
    let B = begun c.begin.new.self c.requires.order-long c.begin.ensures.one_class in
    marks-grouped c.args.marks.now c.begin.new.self c.sort-count.new.groups B.0 B.1 c.sort-count.ensures.by_marks

pub returns-clause-marks_tell : goal.returns-clause-marks_tell
returns-clause-marks_tell c =
    let B = begun c.begin.new.self c.requires.order-long c.begin.ensures.one_class in
    marks-tell c.args.marks.now c.begin.new.self c.sort-count.new.groups B.0 B.1 c.sort-count.ensures.by_marks c.cut_groups.new.classes c.cut_groups.ensures.cut

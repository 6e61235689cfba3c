use Rattle.entries.proofs.EntryLaws.{length-kinds}
use Rattle.rows.proofs.Listable.{listing-given, listing-tree}
use Rattle.rows.proofs.list_in.Goals as goal

pub list_all-requires : goal.list_all-requires
list_all-requires g c =
    let given = listing-given c.put_nodes.ensures c.requires.parted.0 in
    (rw (length-kinds c.args.nodes.now) at given, c.requires.room)

pub returns : goal.returns
returns g c =
    record {
      room = record { cells = c.list_all.auto.cells; marks = c.list_all.auto.marks; sets = c.list_all.auto.sets };
      rows = λ X N. c.list_all.ensures X (rw (length-kinds c.args.nodes.now) at (listing-tree c.put_nodes.ensures N));
    }

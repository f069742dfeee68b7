-- What the fields of a list of entries mean.
use Rattle.std.specs.Prelude.{List}
use Rattle.ynl_model.specs.declared.entries.Entry.{Entry}
use Rattle.ynl_packed.specs.declared.entries.Entries.TheInside.{Inside}
use Rattle.ynl_packed.specs.Lists.{entries_in, AreEntries}

abbrev pub entries_of : Inside → List Entry
entries_of e = entries_in e.pieces

abbrev pub HasEntries : Inside → Type 0
HasEntries e = AreEntries e.pieces

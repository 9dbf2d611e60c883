-- The ranges that a receipt of the code names: nothing behind their count matters.
use Rattle.std.specs.Prelude.{List, take}
use Rattle.frame.specs.declared.range.Range.{Range}
use Rattle.frame.specs.declared.ranges.Ranges.{Ranges}

abbrev pub listed : Ranges → List Range
listed r = take r.count r.list

-- The listing lies in the output.
use Rattle.std.proofs.Common.{length-take-le, sym}
use Rattle.listing.proofs.PrintLaws.{prints_within}
use Rattle.list.proofs.main.Goals as goal

pub slice_bounds-out-end : goal.slice_bounds-out-end
slice_bounds-out-end c = prints_within c.print-len.ensures

pub slice_bounds-write_all-end : goal.slice_bounds-write_all-end
slice_bounds-write_all-end c = sym (length-take-le _ _ (prints_within c.print-len.ensures))

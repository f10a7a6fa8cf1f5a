-- As many bytes as are written stand in the buffer.
use Rattle.std.proofs.Common.{sym, length-take-le}
use Rattle.listed.proofs.Behind.{ends_inside}
use Rattle.listing.proofs.main.Goals as goal

pub slice_bounds-out-end : goal.slice_bounds-out-end
slice_bounds-out-end c = ends_inside _ _ _ c.list-m.ensures

pub slice_bounds-write_all-end : goal.slice_bounds-write_all-end
slice_bounds-write_all-end c = sym (length-take-le _ _ (ends_inside _ _ _ c.list-m.ensures))

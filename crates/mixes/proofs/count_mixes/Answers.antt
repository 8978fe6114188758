-- `mixes::count_mixes` meets its contract: the refusal, or the number of the row of all classes.
use mathlib.Core.Path.{refl, sym, ◌∙◌}
use Prim.Native.Nat.{◌≤◌}
use lib.ListN.{length}
use lib.Seq.{length-take-le}
use Rattle.mixes.proofs.Answering.{Free, classes_few, room, booked}
use Rattle.mixes.proofs.count_mixes.Goals as goal
use Rattle.mixes.proofs.count_mixes.Goals.{In_ok-check_mixes, After-table_size-size}

-- no rule refuses, and the rows have room in the table
free : (c : In_ok-check_mixes) → let a = c.args in Free a.daytime.now a.night.now a.measured (length a.table.now)
free c = record { none = sym c.in_ok-check_mixes.ensures }

fits : (c : After-table_size-size) → let a = c.args in Free a.daytime.now a.night.now a.measured (length a.table.now) → c.table_size-size.result ≤ length a.table.now
fits c f = rw c.table_size-size.ensures (room f)

pub table_size-size-requires : goal.table_size-size-requires
table_size-size-requires c = (classes_few (free (goal.at.table_size-size-requires c).In_ok-check_mixes)).0

pub slice_bounds-count_in-end : goal.slice_bounds-count_in-end
slice_bounds-count_in-end c = let at = goal.at.slice_bounds-count_in-end c in fits at.After-table_size-size (free at.In_ok-check_mixes)

pub slice_bounds-count_in-end-2 : goal.slice_bounds-count_in-end-2
slice_bounds-count_in-end-2 c =
    let at = goal.at.slice_bounds-count_in-end-2 c in
    sym (length-take-le _ _ (fits at.After-table_size-size (free at.In_ok-check_mixes)))

pub count_in-requires : goal.count_in-requires
count_in-requires c =
    let at = goal.at.count_in-requires c in
    let f = free at.In_ok-check_mixes in
    (booked f _ c.flights_of_book.ensures refl, length-take-le _ _ (fits at.After-table_size-size f) ∙ c.table_size-size.ensures)

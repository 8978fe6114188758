-- `mixes::count_in` meets its contract: the last place of the first row.
use mathlib.Core.Path.{ap, sym, ◌∙◌}
use Prim.Native.Nat.{ℕ, ◌+◌, ◌<◌}
use native.Mathlib.Omega.{arith}
use lib.Seq.{get_or-take}
use Rattle.ledger.specs.Book.{both_periods}
use Rattle.mixes.specs.Ways.{ways}
use Rattle.mixes.proofs.Listing.{counted}
use Rattle.mixes.proofs.count_in.Goals as goal

pub returns : goal.returns
returns c =
    let a = c.args in
    let N' = a.all.events in
    let h : N' < N' + 1 = omega arith in
    let row = c.fill_table in
    sym (get_or-take (N' + 1) row.new.table N' 0 h)
    ∙ row.ensures.at N' h
    ∙ ap (λ (N : ℕ). ways (record { flights = N; events = N' }) (both_periods a.daytime.now a.night.now) N') c.requires.0.total
    ∙ sym (counted a.daytime.now a.night.now N' c.requires.0.same)

-- `mixes::fit_range` meets its contract: the two ends are those that division gives, and no product on the way is large.
use mathlib.Core.Path.{◌≡◌}
use Rattle.mixes.proofs.Fits.{first_fit, first_is, end_is, between}
use Rattle.mixes.proofs.fit_range.Goals as goal
use Rattle.mixes.proofs.fit_range.Goals.{After-max-first}

first : (c : After-max-first) → c.max-first.result ≡ first_fit c.args.all c.args.flights
first c =
    let a = c.args in
    rw (c.max-first.ensures, c.div_ceil-lowest.ensures, c.saturating_sub.ensures, c.least_of.ensures, c.from-all_flights.ensures, c.from-all_events.ensures)
    (first_is a.all a.flights c.requires.0)

pub returns : goal.returns
returns c =
    let a = c.args in
    let e = first (goal.at.returns c).After-max-first in
    rw (c.max-end.ensures, c.min.ensures, c.from-all_flights.ensures, c.from-all_events.ensures, end_is a.all a.flights e, e) (between a.all a.flights c.requires.0)

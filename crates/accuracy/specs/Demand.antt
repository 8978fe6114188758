-- Demand 3 for offers and closings: a single claim about whole lists of calls (document 01, 'Powers', 'Day'; document 02, W-211).
use Rattle.std.specs.Prelude.{Bool, cond, ◌≡◌, List, map, ℕ, ◌<◌}
use Rattle.std.proofs.Math.Option.{Option}
use Rattle.quantity.specs.Answers.{Reading}
use Rattle.quantity.specs.Rules.{first_of, Outcome, refused, given}
use Rattle.quantity.specs.declared.Bound.{Bound}
use Rattle.quantity.specs.declared.Bound.TheVariants.{Lowest, Highest}
use Rattle.level.specs.Accuracy.{Accurate, weigh}
use Rattle.clock.specs.Clock.{samples_a_second}
use Rattle.event.specs.Window.{highest}
use Rattle.event.specs.Stretch.{stretch_of}
use Rattle.admission.specs.Checks.{Offering}
use Rattle.offering.specs.Offer.{Accepted, offered}
use Rattle.ledger.specs.declared.Day.{Day}
use Rattle.method.specs.Method.{method_by}
use Rattle.closing.specs.Formula.{formula_by}
use Rattle.closing.specs.Close.{Closing, close_rules, day_closed}
use Rattle.accuracy.specs.Tally.{Call, offering, closing, Tally, tally_checks, tally_counts, held_at, held_samples}
use Rattle.accuracy.specs.Laws.{Always, highest_held, ByClass, largest}

-- An accepted offer: the tally takes it in, and its own stretch is summed with w = 1, M the samples a second. A refused one: the tally leaves it out, by the
-- same number.
abbrev pub OfferDemanded : ℕ → Tally → Offering → Outcome Accepted → Type 0
OfferDemanded K t o (given a) =
    (first_of (tally_checks t o) ≡ 0)
    × (a.lmax ≡ highest o.samples)
    × Accurate 1 1 0 K (samples_a_second t.settings.rate) (weigh 1 (stretch_of o.samples)) a.exposure
OfferDemanded K t o (refused n) = (first_of (tally_checks t o) ≡ n) × (0 < n)

-- W-211: the lowest and the highest Ldn of a closing
abbrev pub ldn_at : Bound → Closing → Reading
ldn_at Lowest x = x.lowest_ldn
ldn_at Highest x = x.highest_ldn

-- A closing: the method and the primed numbers are those of the tally's counts, the highest level is that of the stretches that the tally then
-- holds, that of each class is that of its own stretches, and the single one is the largest of them; and the stretches are summed with the weights, the
-- divisor and the offset of the method; so they are for the lowest and the highest Ldn, with each sample at that end of its range. Or 11 or 12, by the tally's
-- counts.
abbrev pub CloseDemanded : ℕ → Tally → (before after : ℕ) → Outcome Closing → (highest_by_class : List (Option ℕ)) → Type 0
CloseDemanded K t before after (given x) highest_by_class =
    let c = tally_counts t in
    let f = formula_by t.settings.rate (method_by c) c.totals in
    let weight : Bool → ℕ = λ p. cond p f.daytime f.night in
    (first_of (close_rules before after c) ≡ 0)
    × (x.method ≡ method_by c)
    × (x.day_events ≡ c.totals.daytime.events)
    × (x.night_events ≡ c.totals.night.events)
    × (x.highest ≡ highest_held t.stretches)
    × ByClass t.stretches highest_by_class
    × (x.highest ≡ largest highest_by_class)
    × Accurate 1 1 f.offset K f.divisor (held_samples weight t.stretches) x.ldn
    × ((b : Bound) → Accurate 1 1 f.offset K f.divisor (held_samples weight (map (held_at b) t.stretches)) (ldn_at b x))
CloseDemanded K t before after (refused n) highest_by_class = (first_of (close_rules before after (tally_counts t)) ≡ n) × (0 < n)

-- what is demanded of the answer to a call on a day, given the tally of the calls before it, to K decimal places
abbrev pub Demanded : ℕ → Tally → Day → Call → Type 0
Demanded K t day (offering o) = OfferDemanded K t o (offered day o).answer
Demanded K t day (closing before after) =
    let c = day_closed day before after in
    CloseDemanded K t before after c.answer c.highest_by_class

-- for every K, all settings and every book that open, whatever end of the day before, every list of calls, refused ones included, and one call more
unfoldable pub Claim : Type 0
Claim = (K : ℕ) → Always (λ t day. (call : Call) → Demanded K t day call)

-- A table of rules, one row after the other.
use Rattle.std.proofs.Common.{◌≡◌, ℕ, zero, suc, ◌<◌, Bool, true, false, cond, eqb, List, [], ◌∷◌, refl, ap, arith, lit<}
use Rattle.quantity.specs.Answers.{refusal_number}
use Rattle.quantity.specs.Rules.{Rule, first_of}
use Rattle.quantity.specs.declared.Refusal.{Refusal}
use Rattle.quantity.specs.declared.Refusal.TheVariants as refusals

-- a rule that does not refuse is passed over, one that refuses is the answer, and no rule refuses at the end of the table
pub skip : (r : Rule) (rs : List Rule) → r.refuses ≡ false → first_of (r ∷ rs) ≡ first_of rs
unfolding first_of
skip r rs h = ap (λ (b : Bool). cond b r.number (first_of rs)) h

pub stop : (r : Rule) (rs : List Rule) → r.refuses ≡ true → first_of (r ∷ rs) ≡ r.number
unfolding first_of
stop r rs h = ap (λ (b : Bool). cond b r.number (first_of rs)) h

pub end : first_of [] ≡ 0
unfolding first_of
end = refl

-- no rule of a table refuses
abbrev pub Pass : List Rule → Type 0
Pass [] = Unit
Pass (r ∷ rs) = (r.refuses ≡ false) × Pass rs

-- each number of a table is not 0
abbrev pub Numbered : List Rule → Type 0
Numbered [] = Unit
Numbered (r ∷ rs) = (0 < r.number) × Numbered rs

-- where the answer of such a table is 0, none of its rules refuses
pub pass : (rs : List Rule) → Numbered rs → first_of rs ≡ 0 → Pass rs
unfolding first_of
pass [] t e = tt
pass (r ∷ rs) t e = go r.refuses refl e (pass rs t.1)
  where
    go : (b : Bool) → r.refuses ≡ b → cond b r.number (first_of rs) ≡ 0 → (first_of rs ≡ 0 → Pass rs) → Pass (r ∷ rs)
    go true q h k = absurd (omega (arith, t.0))
    go false q h k = (q, k h)

-- the test of the rule that has a number, false where no rule has it; where none refuses, this one does not
abbrev pub test_of : ℕ → List Rule → Bool
test_of n [] = false
test_of n (r ∷ rs) = cond (eqb r.number n) r.refuses (test_of n rs)

pub not_refused : (n : ℕ) (rs : List Rule) → Pass rs → test_of n rs ≡ false
not_refused n [] p = refl
not_refused n (r ∷ rs) p = go (eqb r.number n) (not_refused n rs p.1)
  where
    go : (b : Bool) → test_of n rs ≡ false → cond b r.refuses (test_of n rs) ≡ false
    go true rest = p.0
    go false rest = rest

-- rule k of a table refuses, counted from 0, and none before it
abbrev pub Stops : ℕ → List Rule → Type 0
Stops k [] = ⊥
Stops zero (r ∷ rs) = r.refuses ≡ true
Stops (suc k) (r ∷ rs) = (r.refuses ≡ false) × Stops k rs

abbrev pub number_at : ℕ → List Rule → ℕ
number_at k [] = 0
number_at zero (r ∷ rs) = r.number
number_at (suc k) (r ∷ rs) = number_at k rs

pub stops : (k : ℕ) (rs : List Rule) → Stops k rs → number_at k rs ≡ first_of rs
unfolding first_of
stops k [] h = absurd h
stops zero (r ∷ rs) h = rw h
stops (suc k) (r ∷ rs) h = rw h.0 (stops k rs h.1)

pub passes : (rs : List Rule) → Pass rs → 0 ≡ first_of rs
unfolding first_of
passes [] h = refl
passes (r ∷ rs) h = rw h.0 (passes rs h.1)

-- a refusal has a number
pub refusal_positive : (r : Refusal) → 0 < refusal_number r
refusal_positive refusals.SampleCount = lit< tt
refusal_positive refusals.OutsideDay = lit< tt
refusal_positive refusals.ClassNotInBook = lit< tt
refusal_positive refusals.LevelTooHigh = lit< tt
refusal_positive refusals.Weather = lit< tt
refusal_positive refusals.BackgroundTooNear = lit< tt
refusal_positive refusals.StretchCut = lit< tt
refusal_positive refusals.StretchOverlaps = lit< tt
refusal_positive refusals.FlightsUsedUp = lit< tt
refusal_positive refusals.BookInvalid = lit< tt
refusal_positive refusals.CalibrationDrift = lit< tt
refusal_positive refusals.NoMethod = lit< tt
refusal_positive refusals.DayCount = lit< tt
refusal_positive refusals.RecordLevelOutside = lit< tt
refusal_positive refusals.LandUnknown = lit< tt
refusal_positive refusals.FileFault = lit< tt
refusal_positive refusals.FileTooLong = lit< tt
refusal_positive refusals.SettingsInvalid = lit< tt
refusal_positive refusals.ListUnfit = lit< tt
refusal_positive refusals.RowsUnfit = lit< tt
refusal_positive refusals.ThrustOutside = lit< tt
refusal_positive refusals.AngleOutside = lit< tt
refusal_positive refusals.ToleranceTooLarge = lit< tt
refusal_positive refusals.TooManyClasses = lit< tt
refusal_positive refusals.MeasuredOutside = lit< tt
refusal_positive refusals.TableTooShort = lit< tt

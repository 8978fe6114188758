-- What each case of an answer stands for in document 01: its number, or its value.
use Rattle.std.proofs.Math.Option.{Option, some, none}
use Rattle.std.specs.Prelude.{ℕ, ℤ, Some, None, Result, Ok, Err}
use Rattle.std.specs.Prelude as std
use Rattle.quantity.specs.declared.Reading as declared
use Rattle.quantity.specs.declared.Reading.TheVariants as readings
use Rattle.quantity.specs.declared.Level.{Level}
use Rattle.quantity.specs.declared.Method.{Method}
use Rattle.quantity.specs.declared.Method.TheVariants.{One, Two}
use Rattle.quantity.specs.declared.Refusal.{Refusal}
use Rattle.quantity.specs.declared.Refusal.TheVariants as refusals
use Rattle.quantity.specs.Rules.{Outcome, refused, given}

-- 'Powers': a level in hundredths of a decibel, signed since W-210, or 'below scale'
pub data Reading : Type 0 where
  level : ℤ → Reading
  below_scale : Reading

abbrev pub reading : declared.Reading → Reading
reading (readings.At l) = level l.0
reading readings.BelowScale = below_scale

-- 'Day': the highest Lmax, or none without events
abbrev pub highest_reading : std.Option Level → Option ℕ
highest_reading (Some l) = some l.0
highest_reading None = none

-- 'Day': method one or method two
abbrev pub method_number : Method → ℕ
method_number One = 1
method_number Two = 2

-- 'Refused calls': what is returned; document 02 adds 18 (W-202), 19 (W-203), 20 and 21 (W-206), 22 (W-207), 23 (W-211), 24 to 26 (W-212)
abbrev pub refusal_number : Refusal → ℕ
refusal_number refusals.SampleCount = 1
refusal_number refusals.OutsideDay = 2
refusal_number refusals.ClassNotInBook = 3
refusal_number refusals.LevelTooHigh = 4
refusal_number refusals.Weather = 5
refusal_number refusals.BackgroundTooNear = 6
refusal_number refusals.StretchCut = 7
refusal_number refusals.StretchOverlaps = 8
refusal_number refusals.FlightsUsedUp = 9
refusal_number refusals.BookInvalid = 10
refusal_number refusals.CalibrationDrift = 11
refusal_number refusals.NoMethod = 12
refusal_number refusals.DayCount = 13
refusal_number refusals.RecordLevelOutside = 14
refusal_number refusals.LandUnknown = 15
refusal_number refusals.FileFault = 16
refusal_number refusals.FileTooLong = 17
refusal_number refusals.SettingsInvalid = 18
refusal_number refusals.ListUnfit = 19
refusal_number refusals.RowsUnfit = 20
refusal_number refusals.ThrustOutside = 21
refusal_number refusals.AngleOutside = 22
refusal_number refusals.ToleranceTooLarge = 23
refusal_number refusals.TooManyClasses = 24
refusal_number refusals.MeasuredOutside = 25
refusal_number refusals.TableTooShort = 26

-- 'Refused calls': what a call answers, the number of a refusal or a value by what it stands for
abbrev pub outcome_of : {A B : Type 0} → (A → B) → Result A Refusal → Outcome B
outcome_of stands_for (Ok a) = given (stands_for a)
outcome_of stands_for (Err r) = refused (refusal_number r)

-- the same of a call that gives no value: passed, or the number of the refusal
abbrev pub check_outcome : Result (Unit {0}) Refusal → Outcome (Unit {0})
check_outcome = outcome_of (λ none. none)

-- the number by which a call is refused, 0 where it is not
abbrev pub check_number : {A : Type 0} → Result A Refusal → ℕ
check_number (Ok _) = 0
check_number (Err r) = refusal_number r

-- What each case of an answer stands for in document 01: its number, or its value.
use Rattle.std.specs.Prelude.{ℕ, true, false, ℤ, Some, None, Result}
use Rattle.std.specs.Prelude as std
use Rattle.std.proofs.Math.Option.{Option, some, none}
use Rattle.quantity.specs.Answers.{outcome_of}
use Rattle.quantity.specs.Rules.{Outcome}
use Rattle.quantity.specs.declared.Level.{Level}
use Rattle.quantity.specs.declared.Refusal.{Refusal}
use Rattle.land.specs.Classes.{I, II, III, IV}
use Rattle.land.specs.Verdict as verdict
use Rattle.land.specs.declared.LandClass.{LandClass}
use Rattle.land.specs.declared.LandClass.TheVariants.{One, Two, Three, Four}
use Rattle.land.specs.declared.Assessment as declared
use Rattle.land.specs.declared.Finding.{Finding}
use Rattle.land.specs.declared.Finding.TheVariants.{Within, OverLevel, OverMaximum, Both, NoLimit}

-- 'Verdict': classes I to IV
abbrev pub class_number : LandClass → ℕ
class_number One = I
class_number Two = II
class_number Three = III
class_number Four = IV

-- 'Verdict', land codes: the class of a code, or refusal 15
abbrev pub land_class_reading : Result LandClass Refusal → Outcome ℕ
land_class_reading = outcome_of class_number

-- 'Verdict': a limit in hundredths of a decibel, or none
abbrev pub limit_reading : std.Option Level → Option ℕ
limit_reading (Some l) = some l.0
limit_reading None = none

-- 'Verdict': a signed margin in hundredths of a decibel, or none
abbrev pub margin_reading : std.Option ℤ → Option ℤ
margin_reading (Some m) = some m
margin_reading None = none

-- 'Verdict': the verdict names within, over level, over maximum, both, or no limit
abbrev pub finding_reading : Finding → verdict.Finding
finding_reading Within = verdict.over false false
finding_reading OverLevel = verdict.over true false
finding_reading OverMaximum = verdict.over false true
finding_reading Both = verdict.over true true
finding_reading NoLimit = verdict.no_limit

-- 'Verdict', 'Refused calls': a verdict, or the number of a refusal
abbrev pub assessment_reading : declared.Assessment → verdict.Assessment
assessment_reading v = record { finding = finding_reading v.finding; margin = margin_reading v.margin }

abbrev pub verdict_reading : Result declared.Assessment Refusal → Outcome verdict.Assessment
verdict_reading = outcome_of assessment_reading

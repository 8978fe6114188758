-- The laws that the proofs of the verdict share.
use Prim.Native.Nat.{ℕ}
use mathlib.Core.Path.{◌≡◌, refl}
use mathlib.Core.Bool.{Bool, true, false}
use mathlib.Core.List.{[]}
use mathlib.Core.Option.{Option}
use Rattle.quantity.specs.Answers.{Reading}
use Rattle.quantity.specs.Rules.{Outcome, refused, follow}
use Rattle.land.specs.Answers.{class_number}
use Rattle.land.specs.Verdict.{unknown_class, land_class_of, verdict_of}
use Rattle.land.specs.declared.LandClass.{LandClass}
use Rattle.land.specs.declared.LandClass.TheVariants.{One, Two, Three, Four}
use Rattle.quantity.proofs.Refusing.{skip, stop, end}

-- the number of a class is that of a known class
pub known_class : (class : LandClass) → (unknown_class (class_number class)).refuses ≡ false
known_class One = refl
known_class Two = refl
known_class Three = refl
known_class Four = refl

-- a verdict on a class that is looked up is the verdict on the class
pub looked_up : (class : ℕ) {land : Outcome ℕ} → land ≡ land_class_of class → (yearly : Reading) (sensitive : Bool) (highest : Option ℕ)
    → follow land refused (λ k. verdict_of k yearly sensitive highest) ≡ verdict_of class yearly sensitive highest
looked_up class p yearly sensitive highest = rw p (go (unknown_class class).refuses refl) where
  go : (b : Bool) → (unknown_class class).refuses ≡ b → follow (land_class_of class) refused (λ k. verdict_of k yearly sensitive highest) ≡ verdict_of class yearly sensitive highest
  go true e = rw (stop (unknown_class class) [] e, stop (unknown_class class) _ e)
  go false e = rw (skip (unknown_class class) [] e, end)

-- From the number of the first rule that refuses to an outcome, and back.
use Rattle.std.proofs.Common.{◌≡◌, ℕ, zero, suc, ◌<◌, refl, ap, arith}
use Rattle.quantity.specs.Rules.{Outcome, refused, given, outcome, follow}

-- by cases on a number: none, or the number of a refusal
pub by_number : {P : Type 0} (n : ℕ) → (n ≡ 0 → P) → ((k : ℕ) → n ≡ suc k → P) → P
by_number zero none some = none refl
by_number (suc k) none some = some k refl

-- a rule that refuses has a number, and this is the outcome
pub refuses : {A : Type 0} (n : ℕ) → 0 < n → (a : A) → outcome n a ≡ refused n
refuses zero h a = absurd (omega arith)
refuses (suc n) h a = refl

-- an outcome is given where no rule refuses, and then it is this value
pub given_value : {A : Type 0} (n : ℕ) {a b : A} → outcome n a ≡ given b → (n ≡ 0) × (a ≡ b)
given_value zero e = (refl, cc)
given_value (suc n) e = let z : ◌≡◌ {A = ℕ} 0 1 = cc in absurd (omega arith)

-- the rules that refuse one value refuse every other by the same number, and those that let one through let every other through
pub refused_alike : {A B : Type 0} (n : ℕ) (a : A) (b : B) {k : ℕ} → outcome n a ≡ refused k → outcome n b ≡ refused k
refused_alike zero a b e = let z : ◌≡◌ {A = ℕ} 0 1 = cc in absurd (omega arith)
refused_alike (suc n) a b e = ap refused (number_of e)
  where
    number_of : {k : ℕ} → outcome (suc n) a ≡ refused k → suc n ≡ k
    number_of e = cc

pub given_alike : {A B : Type 0} (n : ℕ) (a : A) (b : B) {c : A} → outcome n a ≡ given c → outcome n b ≡ given b
given_alike zero a b e = refl
given_alike (suc n) a b e = let z : ◌≡◌ {A = ℕ} 0 1 = cc in absurd (omega arith)

-- where what follows is given, what it follows was
pub followed : {A B : Type 0} {f : A → Outcome B} {b : B} (o : Outcome A) → follow o refused f ≡ given b
    → (a : A) × (o ≡ given a) × (f a ≡ given b)
followed (refused n) e = let z : ◌≡◌ {A = ℕ} 0 1 = cc in absurd (omega arith)
followed (given a) e = (a, refl, e)

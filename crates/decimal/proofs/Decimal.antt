-- A number's digits: one alone, and one behind those of its tenth; and how many they are at the most.
use Rattle.std.proofs.Common.{◌≡◌, ℕ, zero, suc, ◌-◌, ◌*◌, ◌/◌, ◌%◌, ◌^◌, ◌<◌, ◌≤◌, [], ◌∷◌, ◌++◌, length, ap, sub-one, ltb, inl, inr, arith, length-append}
use Rattle.std.proofs.Math.Nat.{pow-suc}
use Rattle.std.proofs.lemmas.Bool.{cases_Bool}
use borrow.Author.Tests.{lt-ltb, le-ltb}
use Rattle.decimal.specs.Digits.{digit, digits_within}

pub one_digit : (most n : ℕ) → 0 < most → n < 10 → digits_within most n ≡ digit n ∷ []
unfolding digits_within
one_digit zero n some h = absurd (omega arith)
one_digit (suc most) n some h = rw (lt-ltb n 10 h)

pub one_more : (most n : ℕ) → 0 < most → 10 ≤ n → digits_within most n ≡ digits_within (most - 1) (n / 10) ++ (digit (n % 10) ∷ [])
unfolding digits_within
one_more zero n some h = absurd (omega arith)
one_more (suc most) n some h = rw (le-ltb n 10 h, sub-one)

-- a number below a power of ten has no more digits than its exponent
pub few_digits : (m most n : ℕ) → 0 < m → n < 10 ^ m → length (digits_within most n) ≤ m
unfolding digits_within
few_digits zero most n some holds = absurd (omega arith)
few_digits (suc m) zero n some holds = omega arith
few_digits (suc zero) (suc most) n some holds = let one : length (digits_within (suc most) n) ≡ 1 = ap length (one_digit (suc most) n (omega arith) holds) in omega arith
few_digits (suc (suc m)) (suc most) n some holds =
    let less : n < 10 ^ suc m * 10 = rw pow-suc at holds in
    let fewer : length (digits_within most (n / 10)) ≤ suc m = few_digits (suc m) most (n / 10) (omega arith) (omega arith) in
    elim (cases_Bool (ltb n 10)) [ inl t ↦ rw t (omega arith) | inr t ↦ rw (t, length-append) (omega arith) ]

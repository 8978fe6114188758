-- Numbers with a sign that are counted from an origin, and their bits: each is got back from the other.
use Rattle.std.proofs.Common.{◌≡◌, ℕ, suc, ◌+◌, ◌-◌, ◌<◌, ltb, ℤ, pos, negsuc, ◌+ℤ◌, ap, arith, w32, SFits, ltb-false, ltb-true, le-ltb, lt-ltb}
use Rattle.quantity.specs.Numbers.{from_origin, less_origin, signed, bits_of}
use Rattle.quantity.proofs.Tests.{test}

-- a number of the scale that begins at -origin
abbrev pub NotBelow : (origin : ℕ) → ℤ → Type 0
NotBelow origin (pos n) = Unit
NotBelow origin (negsuc n) = n < origin

pub origin_back : (origin n : ℕ) → from_origin origin (less_origin origin n) ≡ n
origin_back origin n =
    test (ltb n origin)
    (λ t. rw t (omega (arith, ltb-true n origin t)))
    (λ f. rw f (omega (arith, ltb-false n origin f)))

pub sign_back : (origin : ℕ) (z : ℤ) → NotBelow origin z → less_origin origin (from_origin origin z) ≡ z
sign_back origin (pos n) h = let e : (origin + n) - origin ≡ n = omega arith in rw (le-ltb (origin + n) origin (omega arith), e)
sign_back origin (negsuc n) h =
    let e : origin - suc (origin - suc n) ≡ n = omega arith in
    rw (lt-ltb (origin - suc n) origin (omega arith), e)

-- what is added to a number of the scale, or taken from a raised one
pub origin_sum : (origin : ℕ) (z : ℤ) → NotBelow origin z → z +ℤ pos origin ≡ pos (from_origin origin z)
origin_sum origin (pos n) h = ap pos (omega arith)
origin_sum origin (negsuc n) h = rw (le-ltb origin (suc n) (omega arith))

-- the number of 32 bits fits them, and has them
pub signed_fits : (n : ℕ) → n < 4294967296 → SFits w32 (signed n)
signed_fits n h =
    test (ltb n 2147483648)
    (λ t. rw t (record { sfits = omega (arith, ltb-true n 2147483648 t) }))
    (λ f. rw f (record { sfits = omega (arith, ltb-false n 2147483648 f) }))

pub signed_bits : (z : ℤ) → SFits w32 z → signed (bits_of z) ≡ z
signed_bits (pos n) h = rw (lt-ltb n 2147483648 h.sfits)
signed_bits (negsuc n) h =
    let e : 4294967295 - (4294967295 - n) ≡ n = omega (arith, h.sfits) in
    rw (le-ltb (4294967295 - n) 2147483648 (omega (arith, h.sfits)), e)

pub bits_fit : (z : ℤ) → SFits w32 z → bits_of z < 4294967296
bits_fit (pos n) h = omega (arith, h.sfits)
bits_fit (negsuc n) h = omega arith

-- Times with a sign and instants: each is got back from the other, and what the code computes is the definition.
use Rattle.std.proofs.Common.{◌≡◌, ℕ, ◌+◌, ◌%◌, ◌^◌, ◌<◌, ltb, ℤ, pos, negsuc, ◌+ℤ◌, ◌-ℤ◌, ap, ◌∙◌, arith, to_z-of_z, w32, w64, SFits, to_z, of_z, ltb-false, ltb-true}
use mir.Facts.{to_z_pos, sfits_widen}
use Rattle.quantity.specs.declared.Instant.{Instant}
use Rattle.quantity.specs.Instants.{midnight, ticks_of, instant_at, instant_of, after_midnight}
use Rattle.quantity.specs.Numbers.{signed, bits_of}
use Rattle.quantity.proofs.Numbers.{NotBelow, origin_back, sign_back, origin_sum}
use Rattle.quantity.proofs.Tests.{test}

-- a time of 32 bits has an instant of 32 bits
pub ticks_fit : (z : ℤ) → SFits w32 z → ticks_of z < 4294967296
ticks_fit (pos n) h = omega (arith, h.sfits)
ticks_fit (negsuc n) h = omega arith

-- the time of an instant has that instant
pub ticks_back : (n : ℕ) → ticks_of (after_midnight (instant_at n)) ≡ n
ticks_back = origin_back midnight

-- the instant of a time of 32 bits has that time
not_before : (z : ℤ) → SFits w32 z → NotBelow midnight z
not_before (pos n) h = tt
not_before (negsuc n) h = omega (arith, h.sfits)

pub time_back : (z : ℤ) → SFits w32 z → after_midnight (instant_of z) ≡ z
time_back z h = sign_back midnight z (not_before z h)

pub time_fits : (n : ℕ) → n < 4294967296 → SFits w32 (after_midnight (instant_at n))
time_fits n h =
    test (ltb n midnight)
    (λ t. rw t (record { sfits = omega (arith, ltb-true n midnight t) }))
    (λ f. rw f (record { sfits = omega (arith, ltb-false n midnight f) }))

-- midnight taken from the bits of an instant
pub less_midnight : (n : ℕ) → n < 4294967296 → to_z w64 n -ℤ to_z w64 midnight ≡ after_midnight (instant_at n)
less_midnight n h = rw (to_z_pos w64 {n = n} (omega arith))

-- a time is handed to a callee as its bits, from which the callee reads it again
pub instant_handed : {instant : Instant} {time : ℤ} → SFits w32 time → instant ≡ instant_of (to_z w32 (of_z w32 time)) → instant ≡ instant_of time
instant_handed fits e = e ∙ ap instant_of (to_z-of_z fits)

-- midnight added to a time
pub with_midnight : (z : ℤ) → SFits w32 z → z +ℤ pos midnight ≡ pos (ticks_of z)
with_midnight z h = origin_sum midnight z (not_before z h)

-- the same for the bits of a time as they are widened
pub widened : (z : ℤ) → SFits w32 z → to_z w64 (of_z w64 (to_z w32 (of_z w32 z))) +ℤ pos midnight ≡ pos (ticks_of z)
widened z h = rw (to_z-of_z h, to_z-of_z (sfits_widen {w' = w64} tt h)) (with_midnight z h)

-- two's complement, with midnight added: the upper bit changes
pub of_bits : (n : ℕ) → n < 4294967296 → (n + midnight) % 2 ^ 32 ≡ ticks_of (signed n)
of_bits n h =
    test (ltb n 2147483648)
    (λ t. rw t (omega (arith, ltb-true n 2147483648 t)))
    (λ f. rw f (omega (arith, ltb-false n 2147483648 f)))

-- and the other way round
pub to_bits : (z : ℤ) → SFits w32 z → (ticks_of z + midnight) % 2 ^ 32 ≡ bits_of z
to_bits (pos n) h = omega (arith, h.sfits)
to_bits (negsuc n) h = omega (arith, h.sfits)

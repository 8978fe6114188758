-- Levels of the scale and raised levels: each is got back from the other, and their order is the same.
use Rattle.std.proofs.Common.{◌≡◌, ℕ, suc, ◌+◌, ◌-◌, ◌^◌, ◌<◌, ◌≤◌, Bool, true, false, cond, ltb, ℤ, pos, negsuc, ◌+ℤ◌, ◌≤ℤ◌, ◌<ℤ◌, refl, arith, le→leb, ltb→lt, w32, SFits, ltb-false, ltb-true, le-ltb}
use lib.Signed.{lt_z}
use Rattle.quantity.specs.Limits.{highest_day_level}
use Rattle.quantity.specs.Scale.{depth, raised, lowered, is_under_scale, OnScale, is_level_outside}
use Rattle.quantity.proofs.Numbers.{NotBelow, origin_back, sign_back, origin_sum}
use Rattle.quantity.proofs.Tests.{test, neither}

pub raised_lowered : (h : ℕ) → raised (lowered h) ≡ h
raised_lowered = origin_back depth

not_below : (r : ℤ) → OnScale r → NotBelow depth r
not_below (pos n) h = tt
not_below (negsuc n) h = omega (arith, ltb-false 4999 n h)

pub lowered_raised : (r : ℤ) → OnScale r → lowered (raised r) ≡ r
lowered_raised r h = sign_back depth r (not_below r h)

pub raised_sum : (r : ℤ) → OnScale r → r +ℤ pos depth ≡ pos (raised r)
raised_sum r h = origin_sum depth r (not_below r h)

-- what is lowered is a level of the scale
pub lowered_on_scale : (h : ℕ) → OnScale (lowered h)
lowered_on_scale h =
    test (ltb h depth)
    (λ t. rw t (le-ltb 4999 (depth - suc h) (omega arith)))
    (λ f. rw f)

-- a level that is not outside is on the scale, and raised it is at most 25000
pub not_outside : (r : ℤ) → is_level_outside r ≡ false → OnScale r × (raised r ≤ highest_day_level + depth)
not_outside r h = ((neither (lt_z (pos highest_day_level) r) (is_under_scale r) h).1, most r (neither (lt_z (pos highest_day_level) r) (is_under_scale r) h).0)
  where
    most : (r : ℤ) → lt_z (pos highest_day_level) r ≡ false → raised r ≤ highest_day_level + depth
    most (pos n) k = omega (arith, ltb-false highest_day_level n k)
    most (negsuc n) k = omega arith

-- the other way round
pub inside : (r : ℤ) → OnScale r → raised r ≤ highest_day_level + depth → is_level_outside r ≡ false
inside (pos n) s h = rw (le-ltb highest_day_level n (omega arith))
inside (negsuc n) s h = s

-- a higher level is raised higher, and what is raised higher is a higher level
pub raised_lt : (r s : ℤ) → OnScale r → r <ℤ s → raised r < raised s
raised_lt (pos a) (pos b) h l = omega (arith, ltb→lt a b l.lt)
raised_lt (pos a) (negsuc b) h l = absurd l.lt
raised_lt (negsuc a) (pos b) h l = omega (arith, not_below (negsuc a) h)
raised_lt (negsuc a) (negsuc b) h l = omega (arith, not_below (negsuc a) h, ltb→lt b a l.lt)

lowered_le_by : {h k : ℕ} → h ≤ k → (a : Bool) → ltb h depth ≡ a → (b : Bool) → ltb k depth ≡ b
    → cond a (negsuc (depth - suc h)) (pos (h - depth)) ≤ℤ cond b (negsuc (depth - suc k)) (pos (k - depth))
lowered_le_by {h} {k} l true t true u = record { le = le→leb (depth - suc k) (depth - suc h) (omega arith) }
lowered_le_by {h} {k} l true t false u = record { le = tt }
lowered_le_by {h} {k} l false t true u = absurd (omega (arith, ltb-false h depth t, ltb-true k depth u))
lowered_le_by {h} {k} l false t false u = record { le = le→leb (h - depth) (k - depth) (omega arith) }

pub lowered_le : {h k : ℕ} → h ≤ k → lowered h ≤ℤ lowered k
lowered_le {h} {k} l = lowered_le_by l (ltb h depth) refl (ltb k depth) refl

-- 32 bits hold a level that is not outside, and the level of a raised one that is no more than a million
pub inside_fits : (r : ℤ) → is_level_outside r ≡ false → SFits w32 r
inside_fits (pos n) h = record { sfits = omega (arith, (not_outside (pos n) h).1) }
inside_fits (negsuc n) h = record { sfits = omega (arith, not_below (negsuc n) (not_outside (negsuc n) h).0) }

pub lowered_fits : (h : ℕ) → h ≤ 10 ^ 6 → SFits w32 (lowered h)
lowered_fits h l =
    test (ltb h depth)
    (λ t. rw t (record { sfits = omega arith }))
    (λ f. rw f (record { sfits = omega arith }))

-- Mantissas, powers and levels of given numbers. A level is read off by computed tests: whether M * e(c) ≤ S is a comparison of thousandth
-- powers, in which no mantissa stands.
use mathlib.Core.Path.{◌≡◌, sym, ap, ◌∙◌}
use mathlib.Core.Bool.{Bool, ◌&&◌, not}
use mathlib.Core.Option.{some, none}
use Prim.Native.Nat.{ℕ, ◌+◌, ◌*◌, ◌/◌, ◌%◌, ◌^◌, ◌≤◌, ◌<◌}
use native.Mathlib.Nat.{add-zero, mul_left_comm, mul-le-mul, one-le-pow, lt_of_le_of_lt, le-div_iff_mul-le, div-lt_iff_lt-mul}
use native.Mathlib.Omega.{arith}
use borrow.Author.Tests.{not-true}
use lib.Ieee.Bits.{is_true}
use lib.Dec.{T, ltb, ltb→lt, nltb→le, lit<, lit≤}
use Rattle.quantity.specs.Answers.{Reading, level, below_scale}
use Rattle.quantity.specs.Scale.{raised, is_under_scale}
use Rattle.quantity.proofs.Scale.{lowered_raised}
use Rattle.power.specs.Power.{X, m, e, G}
use Rattle.power.proofs.Arithmetic.{lt_of_pow}
use Rattle.power.proofs.Search.{root_law}
use Rattle.power.proofs.Table.{both}
use Rattle.power.proofs.Scale.{m_zero, e_at}
use Rattle.level.specs.Level.{reading_at, largest_level}
use Rattle.level.proofs.Answer.{answered}

-- a power at whole tens of decibels
pub e_tens : (q : ℕ) → e (1000 * q) ≡ G * 10 ^ q
e_tens q = rw (add-zero, m_zero) at (e_at q 0 (lit≤ tt))

-- M * e(c) ≤ S, as a test that computes: the mantissa of c is a whole root, so it is at most the quotient where the thousandth power of the number
-- after the quotient is past the power of ten
abbrev is_reached : (M S c : ℕ) → Bool
is_reached M S c = ltb (10 ^ (9000 + c % 1000)) ((S / (M * 10 ^ (c / 1000)) + 1) ^ 1000)

module _ (M S c : ℕ) (p : 0 < M) where
  positive : 0 < M * 10 ^ (c / 1000)
  positive = mul-le-mul p (one-le-pow (c / 1000) 10 (lit< tt))

  mantissa_root : (m (c % 1000) ^ 1000 ≤ 10 ^ (9000 + c % 1000)) × (10 ^ (9000 + c % 1000) < (m (c % 1000) + 1) ^ 1000)
  unfolding X
  mantissa_root = root_law 1000 (10 ^ (9000 + c % 1000)) (lit< tt)

  reached : T (is_reached M S c) → M * e c ≤ S
  unfolding e
  reached t =
      rw (mul_left_comm M (m (c % 1000)) (10 ^ (c / 1000)))
      ((le-div_iff_mul-le positive).0 (omega (arith, lt_of_pow 1000 (lt_of_le_of_lt mantissa_root.0 (ltb→lt _ _ t)))))

  missed : T (not (is_reached M S c)) → S < M * e c
  unfolding e
  missed t =
      rw (mul_left_comm M (m (c % 1000)) (10 ^ (c / 1000)))
      ((div-lt_iff_lt-mul positive).0 (omega (arith, lt_of_pow 1000 (lt_of_le_of_lt (nltb→le _ _ t) mantissa_root.1))))

-- the tests of a level, raised by 5000, or of 'below scale'
abbrev is_answer : (d M S : ℕ) → Reading → Bool
is_answer d M S (level r) = not (is_under_scale r) && (is_reached M S (raised r + d) && not (is_reached M S (raised r + 1 + d)))
is_answer d M S below_scale = not (is_reached M S d)

-- the largest level with M * e(r + 5000 + d) ≤ S
pub read : (d M S : ℕ) (a : Reading) → T (ltb 0 M && is_answer d M S a) → largest_level d M S ≡ a
read d M S a t = go a (both (ltb 0 M) (is_answer d M S a) t).1
  where
    p : 0 < M
    p = ltb→lt 0 M (both (ltb 0 M) (is_answer d M S a) t).0

    go : (a : Reading) → T (is_answer d M S a) → largest_level d M S ≡ a
    go (level r) u =
        let scale = both (not (is_under_scale r)) (is_reached M S (raised r + d) && not (is_reached M S (raised r + 1 + d))) u in
        let b = both (is_reached M S (raised r + d)) (not (is_reached M S (raised r + 1 + d))) scale.1 in
        ap reading_at (sym (answered d M S (some (raised r)) p (reached M S (raised r + d) p b.0, missed M S (raised r + 1 + d) p b.1)))
        ∙ ap level (lowered_raised r (not-true (is_under_scale r) (is_true (not (is_under_scale r)) scale.0)))
    go below_scale u = ap reading_at (sym (answered d M S none p (missed M S d p u)))

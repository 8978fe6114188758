-- height_of is the largest, and there is no other answer; a divisor may be divided out first, and an offset taken off afterwards. Then the level is the largest.
use mathlib.Core.Path.{◌≡◌, refl, ap, subst}
use mathlib.Core.Bool.{Bool, true, false, cond}
use mathlib.Core.Option.{Option, some, none}
use Prim.Native.Nat.{ℕ, ◌+◌, ◌-◌, ◌*◌, ◌/◌, ◌≤◌, ◌<◌, zero-le}
use native.Mathlib.Nat.{
  zero-add,
  add-zero,
  mul_comm,
  lt_of_le_of_lt,
  lt_of_lt_of_le,
  mul-le-mul_left,
  mul-le-mul_right,
  le-div_iff_mul-le,
  div-lt_iff_lt-mul,
  lt_of_not-le,
  not-le_of_lt,
}
use native.Mathlib.Numerals.{add-one}
use native.Mathlib.Omega.{arith}
use borrow.Author.Tests.{ltb-true, ltb-false}
use lib.Dec.{leb, ltb, leb→le, nleb→lt, lit<}
use lib.IntN.{ℤ}
use lib.Signed.{◌<ℤ◌}
use Rattle.quantity.specs.Answers.{Reading, level, below_scale}
use Rattle.quantity.specs.Scale.{depth_factor, raised, lowered, OnScale}
use Rattle.quantity.proofs.Scale.{raised_lowered, lowered_on_scale, lowered_le, raised_lt}
use Rattle.power.specs.Root.{greatest}
use Rattle.power.specs.Power.{e}
use Rattle.power.proofs.Search.{turn_le}
use Rattle.power.proofs.Scale.{e_mono, below_e}
use Rattle.level.specs.Level.{height_of, reading_at, largest_level, level_of, NoHigher, IsLargest, LargestLaw}
use Rattle.level.specs.Leading.{without}

-- what an answer says of the sum: as e rises, this holds of one answer alone
abbrev pub Answers : (d M S : ℕ) → Option ℕ → Type 0
Answers d M S (some h) = (M * e (h + d) ≤ S) × (S < M * e (h + 1 + d))
Answers d M S none = S < M * e d

pub answers : (d M S : ℕ) → 0 < M → Answers d M S (height_of d M S)
unfolding height_of
answers d M S p = go (leb (M * e d) S) refl
  where
    room : S < M * e (S + d)
    room = omega (arith, below_e (S + d), mul-le-mul_right (e (S + d)) p)

    go : (v : Bool) → leb (M * e d) S ≡ v → Answers d M S (elim v [ true ↦ some (greatest (λ h. leb (M * e (h + d)) S) S) | false ↦ none ])
    go true t = turn_le (λ h. M * e (h + d)) S S (rw zero-add (leb→le (M * e d) S (rw t tt))) room
    go false t = nleb→lt (M * e d) S (rw t tt)

lt_of_product : (M : ℕ) {c d : ℕ} → M * e c < M * e d → c < d
lt_of_product M h = lt_of_not-le (λ l. not-le_of_lt h (mul-le-mul_left M (e_mono l)))

only : (d M S : ℕ) (a b : Option ℕ) → Answers d M S a → Answers d M S b → a ≡ b
only d M S (some h) (some k) a b = ap some (omega (arith, lt_of_product M (lt_of_le_of_lt a.0 b.1), lt_of_product M (lt_of_le_of_lt b.0 a.1)))
only d M S (some h) none a b = absurd (omega (arith, lt_of_product M (lt_of_le_of_lt a.0 b)))
only d M S none (some k) a b = absurd (omega (arith, lt_of_product M (lt_of_le_of_lt b.0 a)))
only d M S none none a b = refl

-- the two ways between an answer's equation and what it says
pub said : (d M S : ℕ) {a : Option ℕ} → 0 < M → height_of d M S ≡ a → Answers d M S a
said d M S p h = subst (Answers d M S) h (answers d M S p)

pub answered : (d M S : ℕ) (a : Option ℕ) → 0 < M → Answers d M S a → a ≡ height_of d M S
answered d M S a p h = only d M S a (height_of d M S) h (answers d M S p)

-- the divisor may be divided out, since a level's power is whole
pub divided : (d M S : ℕ) → 0 < M → height_of d 1 (S / M) ≡ height_of d M S
divided d M S p = answered d M S _ p (go (height_of d 1 (S / M)) (answers d 1 (S / M) (lit< tt)))
  where
    reached : (x : ℕ) → 1 * x ≤ S / M → M * x ≤ S
    reached x h = rw (mul_comm M x) ((le-div_iff_mul-le p).0 (omega arith))

    missed : (x : ℕ) → S / M < 1 * x → S < M * x
    missed x h = rw (mul_comm M x) ((div-lt_iff_lt-mul p).0 (omega arith))

    go : (a : Option ℕ) → Answers d 1 (S / M) a → Answers d M S a
    go (some r) h = (reached _ h.0, missed _ h.1)
    go none h = missed _ h

-- an offset may be taken off afterwards
module _ (d M S : ℕ) (p : 0 < M) where
  over : {c : ℕ} → c ≤ d → S < M * e c → S < M * e d
  over h l = lt_of_lt_of_le l (mul-le-mul_left M (e_mono h))

  pub offset_taken : (c : ℕ) → height_of 0 M S ≡ some c → without d c ≡ height_of d M S
  offset_taken c q = answered d M S _ p (choose (simp add-zero at (said 0 M S p q)) (ltb c d) refl)
    where
      choose : (M * e c ≤ S) × (S < M * e (c + 1)) → (v : Bool) → ltb c d ≡ v → Answers d M S (cond v none (some (c - d)))
      choose h true t = over (ltb-true c d t) (rw add-one at h.1)
      choose h false t =
          let l : d ≤ c = ltb-false c d t in
          let a : c - d + d ≡ c = omega arith in
          let b : c - d + 1 + d ≡ c + 1 = omega arith in
          rw (a, b) h

  pub below_taken : height_of 0 M S ≡ none → none ≡ height_of d M S
  below_taken q = answered d M S none p (over zero-le (said 0 M S p q))

-- what a level says of the sum
pub record OnLevel (d M S : ℕ) (r : ℤ) : Type 0 where
  pub scale : OnScale r
  pub reached : M * e (raised r + d) ≤ S
  pub missed : S < M * e (raised r + 1 + d)

pub below_not_level : {r : ℤ} → below_scale ≡ level r → ⊥
below_not_level h = subst IsBelowScale h tt
  where
    IsBelowScale : Reading → Type 0
    IsBelowScale (level r) = ⊥
    IsBelowScale below_scale = Unit

pub said_level : (d M S : ℕ) {r : ℤ} → 0 < M → largest_level d M S ≡ level r → OnLevel d M S r
said_level d M S {r} p = go (height_of d M S) (answers d M S p)
  where
    go : (a : Option ℕ) → Answers d M S a → reading_at a ≡ level r → OnLevel d M S r
    go (some h) a q =
        let same : lowered h ≡ r = cc in
        rw (← same) (record { scale = lowered_on_scale h; reached = rw (raised_lowered h) a.0; missed = rw (raised_lowered h) a.1 })
    go none a q = absurd (below_not_level q)

-- a level rises with its sum
pub level_rises : (d M : ℕ) {S T : ℕ} → 0 < M → S ≤ T → NoHigher (level_of d M S) (level_of d M T)
level_rises d M {S} {T} p h = go (height_of d M (depth_factor * S)) (height_of d M (depth_factor * T)) (answers d M _ p) (answers d M _ p)
  where
    more : depth_factor * S ≤ depth_factor * T
    more = mul-le-mul_left depth_factor h

    go : (a b : Option ℕ) → Answers d M (depth_factor * S) a → Answers d M (depth_factor * T) b → NoHigher (reading_at a) (reading_at b)
    go (some r) (some s) a b = lowered_le {h = r} {k = s} (omega (arith, lt_of_product M (lt_of_le_of_lt a.0 (lt_of_le_of_lt more b.1))))
    go (some r) none a b = absurd (omega (arith, lt_of_product M (lt_of_le_of_lt a.0 (lt_of_le_of_lt more b))))
    go none b _ _ = tt

-- the level is the largest of those that are reached
pub largest_law : LargestLaw
largest_law d M S p = go (height_of d M S) (answers d M S p)
  where
    beyond : {c k : ℕ} → c ≤ k → S < M * e c → S < M * e k
    beyond h l = lt_of_lt_of_le l (mul-le-mul_left M (e_mono h))

    go : (a : Option ℕ) → Answers d M S a → IsLargest d M S (reading_at a)
    go (some h) a =
        let higher : (s : ℤ) → lowered h <ℤ s → h < raised s = λ s l. rw (raised_lowered h) at (raised_lt (lowered h) s (lowered_on_scale h) l) in
        (lowered_on_scale h, rw (raised_lowered h) a.0, λ s l. beyond (omega (arith, higher s l)) a.1)
    go none a = λ s _. beyond (omega arith) a

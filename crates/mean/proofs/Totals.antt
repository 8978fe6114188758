-- The sums of the days so far: those of days of which none is outside are the very sum of their powers, and 366 days have room.
use mathlib.Core.Path.{◌≡◌, refl, sym, ap, ◌∙◌}
use mathlib.Core.Bool.{Bool, true, false, cond}
use mathlib.Core.List.{List, [], ◌∷◌}
use Prim.Native.Nat.{ℕ, suc, ◌+◌, ◌*◌, ◌/◌, ◌^◌, ◌≤◌, ◌<◌}
use native.Mathlib.Nat.{add-zero, le_refl}
use native.Mathlib.Omega.{arith}
use lib.IntN.{ℤ}
use lib.ListN.{length, get_or, drop, replicate, drop_of_length-le}
use Rattle.std.specs.Prelude.{map}
use Rattle.std.proofs.lemmas.List.{get_or-map}
use lib.Seq.{drop-cons}
use Rattle.quantity.specs.Answers.{Reading, level, below_scale, reading}
use Rattle.quantity.specs.Rules.{given, refused, first_of}
use Rattle.quantity.specs.Scale.{raised, is_level_outside, is_reading_outside}
use Rattle.quantity.specs.declared.DayAnswer.{DayAnswer}
use Rattle.quantity.specs.declared.Reading as declared
use Rattle.quantity.proofs.Scale.{not_outside}
use Rattle.quantity.proofs.Lists.{zero_at}
use Rattle.power.specs.Power.{e, G}
use Rattle.decades.specs.Sums.{total, with_power, Readable}
use Rattle.decades.proofs.Counting.{Added, added, fresh}
use Rattle.level.specs.Level.{largest_level}
use Rattle.mean.specs.Mean.{power_of, sum_of_powers, any_outside, is_count_wrong, mean_of}
use Rattle.mean.specs.Records.{readings}
use Rattle.mean.specs.Total.{sums_with, Tells}

-- the sums of n days at the most
pub record Kept (n : ℕ) (s : List ℕ) : Type 0 where
  pub size : length s ≡ 26
  pub most : (j : ℕ) → get_or s j 0 ≤ 10 * G * n

-- the first k of the days are summed, and none of them is outside
pub record Summed (days : List Reading) (k : ℕ) (s : List ℕ) : Type 0 where
  pub inside : any_outside days ≡ any_outside (drop k days)
  pub whole : sum_of_powers days ≡ total s + sum_of_powers (drop k days)

-- the power of a level that is not outside is added
power_added : (s : List ℕ) (r : ℤ) → length s ≡ 26 → is_level_outside r ≡ false → Added (λ k. 10 ^ k) s (raised r) (with_power s (raised r))
power_added s r l h = added (λ k. 10 ^ k) s (raised r / 1000) (raised r) (omega (arith, (not_outside r h).1)) refl

pub none_kept : Kept 0 (replicate 26 0)
none_kept = record { size = refl; most = λ j. omega (arith, zero_at 26 j) }

pub one_kept : (n : ℕ) (s : List ℕ) (day : Reading) → Kept n s → Kept (suc n) (sums_with s day)
one_kept n s below_scale p = record { size = p.size; most = λ j. omega (arith, p.most j) }
one_kept n s (level r) p = go (is_level_outside r) refl
  where
    go : (b : Bool) → is_level_outside r ≡ b → Kept (suc n) (cond b s (with_power s (raised r)))
    go true q = record { size = p.size; most = λ j. omega (arith, p.most j) }
    go false q =
        let a = power_added s r p.size q in
        record { size = a.size ∙ p.size; most = λ j. omega (arith, a.most j, p.most j) }

pub readable : (n : ℕ) {s : List ℕ} → n ≤ 366 → Kept n s → Readable s
readable n h p = record { few = omega (arith, p.size); each = λ j. omega (arith, p.most j) }

pub none_summed : (days : List Reading) → Summed days 0 (replicate 26 0)
unfolding total
none_summed days = record { inside = refl; whole = omega (arith, fresh (λ k. 10 ^ k) 26) }

day_sum : (s : List ℕ) (day : Reading) → length s ≡ 26 → is_reading_outside day ≡ false → total (sums_with s day) ≡ total s + power_of day
unfolding total
day_sum s (level r) l h = rw h (power_added s r l h).whole
day_sum s below_scale l h = sym (add-zero (total s))

module _ (days : List Reading) (k : ℕ) (s : List ℕ) (within : k < length days) (p : Summed days k s) where
  next : drop k days ≡ get_or days k below_scale ∷ drop (suc k) days
  next = drop-cons days k below_scale within

  pub one_summed : length s ≡ 26 → is_reading_outside (get_or days k below_scale) ≡ false → Summed days (suc k) (sums_with s (get_or days k below_scale))
  unfolding any_outside sum_of_powers
  one_summed l h =
      record {
        inside = rw (p.inside, next, h);
        whole = omega (arith, rw next at p.whole, day_sum s (get_or days k below_scale) l h);
      }

  pub one_outside : is_reading_outside (get_or days k below_scale) ≡ true → any_outside days ≡ true
  unfolding any_outside
  one_outside h = rw (p.inside, next, h)

-- what a day's check says of its level
pub let_through : (b : Bool) → ◌≡◌ {A = ℕ} 0 (cond b 14 0) → b ≡ false
let_through true h = absurd (omega (arith, h))
let_through false h = refl

pub stopped : (b : Bool) (n : ℕ) → 0 < n → n ≡ cond b 14 0 → (b ≡ true) × (n ≡ 14)
stopped true n p h = (refl, h)
stopped false n p h = absurd (omega (arith, h))

-- the mean, by the first rule that refuses
pub wrong_count : (fewest most : ℕ) (days : List Reading) → is_count_wrong fewest most (length days) ≡ true → refused 13 ≡ mean_of fewest most days
unfolding mean_of first_of
wrong_count fewest most days h = rw h

module _ (fewest most : ℕ) (days : List Reading) (right : is_count_wrong fewest most (length days) ≡ false) where
  pub level_outside : any_outside days ≡ true → refused 14 ≡ mean_of fewest most days
  unfolding mean_of first_of
  level_outside h = rw (right, h)

  pub mean_of_sums : {k : ℕ} {s : List ℕ} → k ≡ length days → Summed days k s → given (largest_level 0 (length days) (total s)) ≡ mean_of fewest most days
  unfolding mean_of first_of any_outside sum_of_powers
  mean_of_sums {k} {s} e p =
      let q = rw e at p in
      let none : drop (length days) days ≡ [] = drop_of_length-le days (le_refl (length days)) in
      rw (right, q.inside, q.whole, none, add-zero (total s))

-- what a function answers at the day of a place stands for the level that is told of it
pub told_at : {T : Type 0} {Answers : T → declared.Reading → Type 0} {told : T → Reading} (days : List T) (k : ℕ) → Tells Answers told → k < length days
    → {day : T} → day ≡ get_or days k day → {answer : declared.Reading} → Answers day answer → reading answer ≡ get_or (map told days) k below_scale
told_at {told = told} days k tells h {day} is {answer} says =
    tells day answer says ∙ ap told is ∙ sym (get_or-map told days k day below_scale h)

-- the levels of the records
pub record_levels : (days : List DayAnswer) → map (λ (day : DayAnswer). reading day.level) days ≡ readings days
unfolding readings
record_levels [] = refl
record_levels (day ∷ days) = ap (λ (rest : List Reading). reading day.level ∷ rest) (record_levels days)

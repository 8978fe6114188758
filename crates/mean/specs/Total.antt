-- The code's own machinery, not the papers': a reader of the papers can leave it out.
-- The sums that a mean is formed from, day by day: a sum of powers for each of the decades of raised levels, up to 25000.
use Rattle.std.specs.Prelude.{◌≡◌, cond, List, ℕ}
use Rattle.quantity.specs.Answers.{Reading, level, below_scale, reading}
use Rattle.quantity.specs.Scale.{raised, is_level_outside}
use Rattle.quantity.specs.declared.Reading as declared
use Rattle.decades.specs.Sums.{with_power}

-- the sums with one day more; a level that is outside is not added
abbrev pub sums_with : List ℕ → Reading → List ℕ
sums_with s (level r) = cond (is_level_outside r) s (with_power s (raised r))
sums_with s below_scale = s

-- whatever a function answers at a day stands for the level that is told of the day
abbrev pub Tells : {T : Type 0} → (T → declared.Reading → Type 0) → (T → Reading) → Type 0
Tells {T} Answers told = (day : T) (answer : declared.Reading) → Answers day answer → reading answer ≡ told day

-- Document 02, W-212: what a mix is, without a test or a list of lists, that each mix is counted once, and document 01's edge.
use Rattle.std.specs.Prelude.{◌≡◌, ◌↔◌, ℕ, ◌+◌, ◌*◌, ◌≤◌, ◌<◌, length, get_or}
use mathlib.Core.List.{List, [], ◌∷◌, Mem, Nodup}
use Rattle.quantity.specs.Numbers.{distance}
use Rattle.ledger.specs.Book.{sum_of}
use Rattle.mixes.specs.Mix.{mixes_of}

-- 'lists of measured counts, one per class, add up to N', stay within the book by class, and pass the share and class conditions': document 01, 'Day', where each class
-- with flights has an event, and 20 × |n'k × N − nk × N'| ≤ N × N' for each class k
pub record IsMix (daytime night : List ℕ) (N' : ℕ) (mix : List ℕ) : Type 0 where
  pub one_per_class : length mix ≡ length daytime
  pub adds_up : sum_of mix ≡ N'
  pub within_book : (k : ℕ) → k < length daytime → get_or mix k 0 ≤ get_or daytime k 0 + get_or night k 0
  pub measured : (k : ℕ) → k < length daytime → 1 ≤ get_or daytime k 0 + get_or night k 0 → 1 ≤ get_or mix k 0
  pub shares : (k : ℕ) → k < length daytime
      → 20 * distance (get_or mix k 0 * (sum_of daytime + sum_of night)) ((get_or daytime k 0 + get_or night k 0) * N') ≤ (sum_of daytime + sum_of night) * N'

-- the lists that are counted are the mixes, and none of them is counted twice
pub record EachOnce (daytime night : List ℕ) (N' : ℕ) (lists : List (List ℕ)) : Type 0 where
  pub each : (mix : List ℕ) → Mem mix lists ↔ IsMix daytime night N' mix
  pub once : Nodup lists

abbrev pub EachOnceLaw : Type 0
EachOnceLaw = (daytime night : List ℕ) (N' : ℕ) → EachOnce daytime night N' (mixes_of daytime night N')

-- document 01, 'Edges': of two classes of 10 flights each, measured 6 and 5 pass, 6 and 4 fail
abbrev pub TwoClassesOfTen : Type 0
TwoClassesOfTen =
    (mixes_of (10 ∷ 10 ∷ []) (0 ∷ 0 ∷ []) 11 ≡ (5 ∷ 6 ∷ []) ∷ (6 ∷ 5 ∷ []) ∷ [])
    × (mixes_of (10 ∷ 10 ∷ []) (0 ∷ 0 ∷ []) 10 ≡ (5 ∷ 5 ∷ []) ∷ [])

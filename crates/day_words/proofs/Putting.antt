-- The words of a day are put; counts, and the entries of a list, are read one by one.
use mathlib.Core.Path.{◌≡◌, refl, sym, ap}
use mathlib.Core.List.{List, [], ◌∷◌, ◌++◌, append_assoc, append-nil}
use Prim.Native.Nat.{ℕ, zero, suc, ◌+◌, ◌*◌, ◌≤◌, ◌<◌}
use native.Mathlib.Nat.{mul-suc}
use native.Mathlib.Numerals.{add-one}
use native.Mathlib.Omega.{arith}
use lib.ListN.{length, take, set, get_or, replicate}
use lib.Seq.{drop-cons}
use Rattle.runs.specs.Put.{Put}
use Rattle.runs.proofs.Putting.{nothing_put, then, put_whole}
use Rattle.runs.proofs.Filling.{Filling, filled_none, filled_more}
use Rattle.ledger.specs.declared.Day.{Day}
use Rattle.day_words.specs.Words.{words_of_each, count_words, period_words, highest_words, class_words, settings_words, day_words, counts_at, read_each, count_from}

-- counts are put as they are
pub words_of_counts : (counts : List ℕ) → words_of_each count_words counts ≡ counts
words_of_counts [] = refl
words_of_counts (n ∷ ns) = ap (◌∷◌ n) (words_of_counts ns)

-- the words of a day fill the words that are lent
pub put_day : (day : Day) {before after : List ℕ} {next : ℕ}
    → Put before 0
    (period_words day.daytime
    ++ (period_words day.night ++ ((day.classes ∷ day.end.0 ∷ []) ++ (highest_words day.highest ++ (class_words day.highest_by_class ++ (settings_words day.settings ++ replicate 9 0))))))
    after next
    → next ≡ length before → after ≡ day_words day
unfolding day_words
put_day day p e = put_whole p (omega (arith, e, p.end))

-- the place of the next entry, each of the same number of words
next_place : (width i : ℕ) → width * (i + 1) ≡ width * i + width
next_place width i = rw (add-one i, mul-suc width i) (omega arith)

-- entries are read one by one, each where it begins
length_read : {A : Type 0} (from : ℕ → A) (width at count : ℕ) → length (read_each from width at count) ≡ count
unfolding read_each
length_read from width at zero = refl
length_read from width at (suc k) = ap suc (length_read from width (at + width) k)

entry_at : {A : Type 0} (from : ℕ → A) (width at count i : ℕ) (d : A) → i < count → get_or (read_each from width at count) i d ≡ from (at + width * i)
unfolding read_each
entry_at from width at zero i d h = absurd (omega arith)
entry_at from width at (suc k) zero d h = let place : at + width * 0 ≡ at = omega arith in rw place
entry_at from width at (suc k) (suc i) d h =
    let place : at + width + width * i ≡ at + width * suc i = omega arith in
    rw (← place) (entry_at from width (at + width) k i d (omega arith))

pub none_read : {A : Type 0} (from : ℕ → A) (width at : ℕ) (array : List A) → Filling (read_each from width at (length array)) array 0
none_read from width at array = filled_none (sym (length_read from width at (length array)))

module _ {A : Type 0} (from : ℕ → A) (width at count : ℕ) {array : List A} {i : ℕ} (p : Filling (read_each from width at count) array i) where
  pub one_read : i < count → Filling (read_each from width at count) (set array i (from (at + width * i))) (i + 1)
  one_read h = filled_more p (from at) (rw (length_read from width at count) h) (sym (entry_at from width at count i (from at) h))

-- so are counts
pub read_counts : (words : List ℕ) (at count : ℕ) → at + count ≤ length words → read_each (count_from words) 1 at count ≡ counts_at words at count
unfolding read_each
read_counts words at zero h = refl
read_counts words at (suc k) h =
    let first = drop-cons words at 0 (omega arith) in
    rw (first, ← add-one at, read_counts words (at + 1) k (omega arith))

-- and put one by one: at i, the entries before i are put
each_more : {A : Type 0} (f : A → List ℕ) (xs : List A) (i : ℕ) (x : A) → i < length xs → x ≡ get_or xs i x
    → words_of_each f (take (i + 1) xs) ≡ words_of_each f (take i xs) ++ f x
each_more f xs i x h same = rw add-one (go xs i h same)
  where
    go : (xs : List _) (i : ℕ) → i < length xs → x ≡ get_or xs i x → words_of_each f (take (suc i) xs) ≡ words_of_each f (take i xs) ++ f x
    go [] i h same = absurd (omega arith)
    go (y ∷ ys) zero h same = rw (← same) (append-nil (f x))
    go (y ∷ ys) (suc i) h same = rw (go ys i (omega arith) same, append_assoc (f y) (words_of_each f (take i ys)) (f x))

abbrev pub PuttingEach : {A : Type 0} → (A → List ℕ) → ℕ → List A → List ℕ → ℕ → List ℕ → ℕ → Type 0
PuttingEach f width xs before at after i = Put before at (words_of_each f (take i xs)) after (at + width * i)

pub none_put : {A : Type 0} (f : A → List ℕ) (width : ℕ) (xs : List A) {before : List ℕ} (at : ℕ) → at ≤ length before → PuttingEach f width xs before at before 0
none_put f width xs at h = let here : at + width * 0 ≡ at = omega arith in rw here (nothing_put h)

module _ {A : Type 0} (f : A → List ℕ) (width : ℕ) (xs : List A) {before : List ℕ} (at : ℕ) {after : List ℕ} {i : ℕ} (p : PuttingEach f width xs before at after i) where
  pub one_put : {x : A} {last : List ℕ} {next : ℕ} → i < length xs → x ≡ get_or xs i x → Put after (at + width * i) (f x) last next → next ≡ at + width * i + width
      → PuttingEach f width xs before at last (i + 1)
  one_put {x} h same q e =
      let next : at + width * (i + 1) ≡ at + width * i + width = omega (arith, next_place width i) in
      rw (each_more f xs i x h same, next, ← e) (then p q)

-- What is put into the words of a day is read from them again, one entry at a time: a count, a cell, the highest level of a class.
use Rattle.std.specs.Prelude as std
use Rattle.std.specs.Prelude.{Some, None}
use mathlib.Core.Path.{◌≡◌, refl, sym, ap, ◌∙◌}
use mathlib.Core.List.{List, ◌∷◌, ◌++◌}
use Prim.Native.Nat.{ℕ, ◌+◌}
use native.Mathlib.Nat.{add-zero, mod-eq_of_lt}
use lib.ListN.{drop, get_or}
use lib.Seq.{take_at, get_or-drop}
use Rattle.quantity.specs.declared.Level.{Level}
use Rattle.ledger.specs.declared.Cell.{Cell}
use Rattle.day_words.specs.Words.{ReadsAgain, count_words, highest_words, count_from, cell_from, highest_marked, class_from, NarrowCount, FourLimbs, AnyLevel}

-- a word behind the place of an entry
word : (words : List ℕ) (at : ℕ) (run : List ℕ) → drop at words ≡ run → (i : ℕ) → get_or words (at + i) 0 ≡ get_or run i 0
word words at run s i = sym (get_or-drop at words i 0) ∙ ap (λ (l : List ℕ). get_or l i 0) s

first : (words : List ℕ) (at : ℕ) (run : List ℕ) → drop at words ≡ run → get_or words at 0 ≡ get_or run 0 0
first words at run s = ap (λ (n : ℕ). get_or words n 0) (sym (add-zero at)) ∙ word words at run s 0

pub count_again : ReadsAgain count_words count_from NarrowCount
count_again n h words at rest s = rw (first words at (n ∷ rest) s) (mod-eq_of_lt h)

pub cell_again : ReadsAgain (λ (c : Cell). c.energy) cell_from FourLimbs
cell_again c h words at rest s = ap (λ (l : List ℕ). record { energy = l }) (rw s (take_at c.energy rest 4 h))

pub class_again : ReadsAgain highest_words class_from AnyLevel
class_again c h words at rest s = rw (first words at (highest_words c ++ rest) s, word words at (highest_words c ++ rest) s 1) (marked c)
  where
    marked : (c : std.Option Level) → (let l = highest_words c ++ rest in highest_marked (get_or l 0 0) (get_or l 1 0)) ≡ c
    marked (Some l) = refl
    marked None = refl

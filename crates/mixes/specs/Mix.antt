-- Document 02, W-212: the mixes that would pass, which are lists of measured counts, one for each class of a book, and how many there are.
use Rattle.std.specs.Prelude.{Bool, ◌&&◌, cond, List, [], ◌∷◌, ◌++◌, map, ℕ, zero, suc, ◌+◌, leb, eqb, length, get_or}
use Rattle.ledger.specs.Book.{sum_of}
use Rattle.method.specs.Method.{on_each_class, shares_hold}
use Rattle.method.specs.declared.Count.{Count}

-- N of a book by day and by night, and N' of them measured
abbrev pub book_count : List ℕ → List ℕ → ℕ → Count
book_count daytime night N' = record { flights = sum_of daytime + sum_of night; events = N' }

-- nk of class k, by day and night together, and n'k as a mix has it
abbrev pub class_in : List ℕ → List ℕ → List ℕ → ℕ → Count
class_in daytime night mix k = record { flights = get_or daytime k 0 + get_or night k 0; events = get_or mix k 0 }

-- a class 'within the book'
abbrev pub is_within_book : Count → Bool
is_within_book c = leb c.events c.flights

-- counts that 'add up to N', stay within the book by class, and pass the share and class conditions', which are those of a closing
abbrev pub passes : List ℕ → List ℕ → ℕ → List ℕ → Bool
passes daytime night N' mix =
    eqb (sum_of mix) N'
    && (on_each_class is_within_book (class_in daytime night mix) (length daytime)
    && shares_hold (book_count daytime night N') (class_in daytime night mix) (length daytime))

-- each number from 0 to the most, before each of these lists
unfoldable pub headed : (most : ℕ) → List (List ℕ) → List (List ℕ)
headed zero lists = map (λ l. 0 ∷ l) lists
headed (suc most) lists = headed most lists ++ map (λ l. suc most ∷ l) lists

-- all lists of k numbers from 0 to the most
unfoldable pub lists_of : (most k : ℕ) → List (List ℕ)
lists_of most zero = [] ∷ []
lists_of most (suc k) = headed most (lists_of most k)

-- those of some lists that pass a test
unfoldable pub passing : (List ℕ → Bool) → List (List ℕ) → List (List ℕ)
passing test [] = []
passing test (l ∷ lists) = cond (test l) (l ∷ passing test lists) (passing test lists)

-- the mixes that would pass: no count of a list that adds up to N' is above N'
abbrev pub mixes_of : List ℕ → List ℕ → ℕ → List (List ℕ)
mixes_of daytime night N' = passing (passes daytime night N') (lists_of N' (length daytime))

-- The code's own machinery, not the papers': the numbers that the rows of the table hold on the way, class after class, and what the functions do to them.
use Rattle.std.specs.Prelude.{◌≡◌, Bool, true, false, ◌&&◌, cond, List, [], ◌∷◌, ℕ, zero, suc, ◌+◌, ◌-◌, ◌*◌, ◌^◌, ◌≤◌, ◌<◌, leb, eqb, length, get_or, take, drop}
use Rattle.ledger.specs.Book.{most_flights, sum_of}
use Rattle.method.specs.Method.{share_holds}
use Rattle.method.specs.Sizes.{most_of_period}
use Rattle.method.specs.declared.Count.{Count}
use Rattle.mixes.specs.Mix.{is_within_book}
use Rattle.mixes.specs.Answers.{most_mixed_classes}

-- a count of a class of so many flights: within the book, and the class and share conditions
abbrev pub fits : Count → (flights count : ℕ) → Bool
fits all flights count =
    is_within_book (record { flights = flights; events = count }) && share_holds all (record { flights = flights; events = count })

-- a number, but not below a least one, and not above a most one
abbrev pub at_least : ℕ → ℕ → ℕ
at_least least n = n + (least - n)

abbrev pub at_most : ℕ → ℕ → ℕ
at_most most n = n - (n - most)

-- 1 of a class that has flights, else 0
abbrev pub least_of : ℕ → ℕ
least_of flights = cond (eqb flights 0) 0 1

-- the most counts of a class that fit
abbrev pub most_fit : ℕ
most_fit = 201

-- the counts that fit are those from `first` on, below `end`
pub record Between (fit : ℕ → Bool) (first end : ℕ) : Type 0 where
  pub ordered : first ≤ end
  pub narrow : end ≤ first + most_fit
  pub below : (m : ℕ) → m < first → fit m ≡ false
  pub inside : (m : ℕ) → first ≤ m → m < end → fit m ≡ true
  pub above : (m : ℕ) → end ≤ m → fit m ≡ false

-- the sum of f over the numbers below k
unfoldable pub sum_below : (ℕ → ℕ) → ℕ → ℕ
sum_below f zero = 0
sum_below f (suc k) = sum_below f k + f k

-- of one class more: the lists behind each of its counts that fit, by their sum
unfoldable pub with_class : (ℕ → Bool) → (ℕ → ℕ) → ℕ → ℕ
with_class fit f s = sum_below (λ m. cond (fit m) (f (s - m)) 0) (suc s)

-- of no class there is one list, whose sum is 0
abbrev pub no_class : ℕ → ℕ
no_class s = cond (eqb s 0) 1 0

-- how many lists of counts of these classes fit and have the sum s
unfoldable pub ways : Count → List ℕ → ℕ → ℕ
ways all [] s = no_class s
ways all (n ∷ flights) s = with_class (fits all n) (ways all flights) s

-- a bound on the flights of a class, by day and night
abbrev pub most_of_class : ℕ
most_of_class = 2 * most_of_period

-- N and N', as no rule refuses them
pub record Asked (all : Count) : Type 0 where
  pub some : 1 ≤ all.events
  pub within : all.events ≤ all.flights
  pub small : all.flights ≤ most_flights

-- a book that no rule refuses, with N
pub record Booked (daytime night : List ℕ) (all : Count) : Type 0 where
  pub asked : Asked all
  pub same : length daytime ≡ length night
  pub classes : 1 ≤ length daytime
  pub few : length daytime ≤ most_mixed_classes
  pub total : all.flights ≡ sum_of daytime + sum_of night

-- the number at a place of a row
abbrev pub cells : List ℕ → ℕ → ℕ
cells row s = get_or row s 0

-- a row of n places that holds f
pub record Tabulates (row : List ℕ) (n : ℕ) (f : ℕ → ℕ) : Type 0 where
  pub size : length row ≡ n
  pub at : (s : ℕ) → s < n → get_or row s 0 ≡ f s

-- the number so many places before a place, 0 where there is none
abbrev pub back : List ℕ → ℕ → ℕ → ℕ
back row place steps = cond (leb steps place) (get_or row (place - steps) 0) 0

-- no number of a row is above a later one
pub record Rising (row : List ℕ) : Type 0 where
  pub at : (i j : ℕ) → i ≤ j → j < length row → get_or row i 0 ≤ get_or row j 0

-- further back from a place stands no more
pub record Falls (row : List ℕ) (place first end : ℕ) : Type 0 where
  pub inside : place < length row
  pub less : back row place end ≤ back row place first

-- so many numbers of a table, from a place on
abbrev pub part : List ℕ → ℕ → ℕ → List ℕ
part table at size = take size (drop at table)

-- the row from a place on is that of the row behind it
pub record Copied (old new : List ℕ) (at size : ℕ) : Type 0 where
  pub whole : length new ≡ length old
  pub cell : (i : ℕ) → i < size → get_or new (at + i) 0 ≡ get_or old (at + size + i) 0

-- the row from a place on holds f; at the table's end, f is that of no class
pub record RowFrom (table : List ℕ) (from size : ℕ) (f : ℕ → ℕ) : Type 0 where
  pub last : length table ≤ from → (s : ℕ) → no_class s ≡ f s
  pub held : from < length table → Tabulates (part table from size) size f

-- there is room for a row, and behind it for none or another
pub record RowRoom (table : List ℕ) (at size : ℕ) : Type 0 where
  pub inside : at + size ≤ length table
  pub behind : at + size < length table → at + size + size ≤ length table

-- the row from a place on has begun as the row behind it
pub record Begun (old new : List ℕ) (at size : ℕ) : Type 0 where
  pub whole : length new ≡ length old
  pub row : (f : ℕ → ℕ) → RowFrom old (at + size) size f → Tabulates (part new at size) size f

-- the row from a place on has taken in a class
pub record ClassPut (old new : List ℕ) (at size first end : ℕ) : Type 0 where
  pub whole : length new ≡ length old
  pub row : (fit : ℕ → Bool) → Between fit first end → Tabulates (part new at size) size (with_class fit (cells (part old at size)))

-- the row from a place on, and its sum fits 64 bits
pub record RowFits (table : List ℕ) (at size : ℕ) : Type 0 where
  pub inside : at + size ≤ length table
  pub small : sum_below (cells (part table at size)) size < 2 ^ 64

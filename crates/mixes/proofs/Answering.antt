-- What is known where no rule refuses, and the table that an answer leaves.
use mathlib.Core.Path.{◌≡◌, refl, sym}
use mathlib.Core.Bool.{false}
use mathlib.Core.List.{List}
use Prim.Native.Nat.{ℕ, zero, suc, ◌+◌, ◌≤◌, ◌<◌}
use native.Mathlib.Omega.{arith}
use borrow.Author.Rules.{rules}
use borrow.Author.Tests.{not-false, ltb-false, eqb-true, eqb-false}
use lib.Dec.{ltb, eqb}
use lib.ListN.{length}
use Rattle.quantity.specs.Rules.{first_of, Outcome, refused}
use Rattle.quantity.proofs.Refusing.{pass, test_of, not_refused}
use Rattle.quantity.proofs.Outcomes.{refuses}
use Rattle.quantity.proofs.Tests.{neither}
use Rattle.ledger.specs.Book.{most_classes, most_flights, sum_of, flights_of_book}
use Rattle.ledger.proofs.Books.{book_fits}
use Rattle.method.specs.declared.Count.{Count}
use Rattle.mixes.specs.Mix.{mixes_of}
use Rattle.mixes.specs.Answers.{most_mixed_classes, table_size, mix_rules, Answered}
use Rattle.mixes.specs.Ways.{Booked}

positive : (n : ℕ) → (n ≡ 0 → ⊥) → 1 ≤ n
positive zero h = absurd (h refl)
positive (suc n) h = omega arith

-- a book and a number of flights that no rule refuses, with room in the table
pub record Free (daytime night : List ℕ) (N' lent : ℕ) : Type 0 where
  pub none : first_of (mix_rules daytime night N' lent) ≡ 0

module _ {daytime night : List ℕ} {N' lent : ℕ} (h : Free daytime night N' lent) where
  passed : (n : ℕ) → test_of n (mix_rules daytime night N' lent) ≡ false
  passed n = not_refused n (mix_rules daytime night N' lent) (pass (mix_rules daytime night N' lent) (search rules) h.none)

  pub classes_few : (length daytime ≤ most_classes) × (length night ≤ most_classes)
  classes_few = book_fits daytime night (passed 10)

  pub room : table_size (length daytime) N' ≤ lent
  room = ltb-false lent (table_size (length daytime) N') (passed 26)

  pub booked : (all : Count) → all.flights ≡ flights_of_book daytime night → all.events ≡ N' → Booked daytime night all
  booked all e f =
      let total : all.flights ≡ sum_of daytime + sum_of night = rw (passed 10) at e in
      let book = neither (_) (_) (passed 10) in
      let classes = neither (eqb (length daytime) 0) (ltb most_classes (length daytime)) book.0 in
      let rest = neither (_) (_) book.1 in
      let small = ltb-false most_flights (sum_of daytime + sum_of night) rest.1 in
      let measured = neither (eqb N' 0) (ltb (sum_of daytime + sum_of night) N') (passed 25) in
      let within = ltb-false (sum_of daytime + sum_of night) N' measured.1 in
      record {
        asked = record { some = rw f (positive N' (eqb-false N' 0 measured.0)); within = omega arith; small = omega arith };
        same = eqb-true (length daytime) (length night) (not-false _ rest.0);
        classes = positive (length daytime) (eqb-false (length daytime) 0 classes.0);
        few = ltb-false most_mixed_classes (length daytime) (passed 24);
        total = total;
      }

-- a refusal leaves the table as it was
pub untouched : {daytime night : List ℕ} {N' : ℕ} (lent : List ℕ) (n : ℕ) → 0 < n → first_of (mix_rules daytime night N' (length lent)) ≡ n
    → Answered daytime night N' lent (refused n) lent
untouched {daytime} {night} {N'} lent n h e =
    record { counted = rw e (sym (refuses n h (length (mixes_of daytime night N')))); whole = refl; kept = refl }

-- what a refusal leaves is what was lent
pub kept_whole : {daytime night : List ℕ} {N' n : ℕ} {lent left : List ℕ} {answer : Outcome ℕ} → Answered daytime night N' lent answer left → answer ≡ refused n → left ≡ lent
kept_whole a e = rw e at a.kept

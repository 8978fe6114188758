-- `mixes::check_mixes` meets its contract: one rule of the table after the other.
use mathlib.Core.Path.{sym, ◌∙◌}
use borrow.Author.Tests.{lt-ltb, le-ltb}
use Rattle.quantity.proofs.Refusing.{stops, passes}
use Rattle.mixes.proofs.check_mixes.Goals as goal

pub returns-then-is_book_invalid : goal.returns-then-is_book_invalid
returns-then-is_book_invalid c = stops 0 _ (sym c.is_book_invalid.ensures ∙ c.if-is_book_invalid.true)

pub returns-then-daytime-gt-MOST_CLASSES : goal.returns-then-daytime-gt-MOST_CLASSES
returns-then-daytime-gt-MOST_CLASSES c = stops 1 _ (sym c.is_book_invalid.ensures ∙ c.if-is_book_invalid.false, lt-ltb _ _ c.if-daytime-gt-MOST_CLASSES.true)

pub returns-then-is_measured_outside : goal.returns-then-is_measured_outside
returns-then-is_measured_outside c =
    stops 2 _ (
      sym c.is_book_invalid.ensures ∙ c.if-is_book_invalid.false,
      (le-ltb _ _ c.if-daytime-gt-MOST_CLASSES.false, sym c.is_measured_outside.ensures ∙ c.if-is_measured_outside.true),
    )

pub returns-then-lent-table_size : goal.returns-then-lent-table_size
returns-then-lent-table_size c =
    let measured = sym c.is_measured_outside.ensures ∙ c.if-is_measured_outside.false in
    stops 3 _ (
      sym c.is_book_invalid.ensures ∙ c.if-is_book_invalid.false,
      (le-ltb _ _ c.if-daytime-gt-MOST_CLASSES.false, (measured, lt-ltb _ _ (rw c.table_size.ensures at c.if-lent-table_size.true))),
    )

pub returns : goal.returns
returns c =
    let measured = sym c.is_measured_outside.ensures ∙ c.if-is_measured_outside.false in
    passes _ (
      sym c.is_book_invalid.ensures ∙ c.if-is_book_invalid.false,
      (le-ltb _ _ c.if-daytime-gt-MOST_CLASSES.false, (measured, (le-ltb _ _ (rw c.table_size.ensures at c.if-lent-table_size.false), tt))),
    )

-- The numbers of the highest levels of the classes.
use Rattle.std.specs.Prelude as std
use Rattle.std.specs.Prelude.{None}
use Rattle.quantity.specs.declared.Level.{Level}
use mathlib.Core.Path.{◌≡◌, ◌∙◌}
use mathlib.Core.List.{List}
use mathlib.Core.Option.{none}
use Prim.Native.Nat.{ℕ}
use lib.ListN.{length, get_or, length-map, get_or-map}
use Rattle.quantity.specs.Answers.{highest_reading}
use Rattle.ledger.specs.Book.{most_classes}
use Rattle.ledger.specs.Day.{levels_by_class}
use Rattle.c_interface.specs.Numbers.{highest_number, class_numbers}

pub length_numbers : (cs : List (std.Option Level)) → length cs ≡ most_classes → length (class_numbers (levels_by_class cs)) ≡ most_classes
length_numbers cs h = length-map (levels_by_class cs) highest_number ∙ length-map cs highest_reading ∙ h

pub number_at : (cs : List (std.Option Level)) (i : ℕ) → get_or (class_numbers (levels_by_class cs)) i (highest_number none) ≡ highest_number (highest_reading (get_or cs i None))
number_at cs i = get_or-map highest_number (levels_by_class cs) i none ∙ rw (get_or-map highest_reading cs i None)

-- Document 02, W-202, 'every answer is the one before': what document 01 opens a day with, ten samples a second, daytime from 06:00 to 22:00, and midnight
-- as the end.
use Rattle.std.specs.Prelude.{List, ℕ}
use Rattle.quantity.specs.Instants.{midnight}
use Rattle.ledger.specs.Day.{Opening, opening_of}

abbrev pub opening_before : (daytime night : List ℕ) → Opening
opening_before = opening_of 10 216000 791999 midnight

-- Document 01, 'Day file': the lines that the day program prints, as ASCII bytes.
use Rattle.std.specs.Prelude.{List, [], ◌∷◌, ◌++◌, ℕ, suc, ℤ, pos, negsuc}
use Rattle.std.proofs.Math.Option.{Option, some, none}
use Rattle.decimal.specs.Digits.{decimal}
use Rattle.quantity.specs.Answers.{Reading, level, below_scale}
use Rattle.quantity.specs.Rules.{Outcome, refused, given}
use Rattle.offering.specs.Offer.{Accepted}
use Rattle.closing.specs.Close.{Closing}

-- the letters A, D, E, F and R, and '-' for below scale, no Lmax, or before the digits of a negative level
abbrev pub letter_a : List ℕ
letter_a = 65 ∷ []

abbrev pub letter_d : List ℕ
letter_d = 68 ∷ []

abbrev pub letter_e : List ℕ
letter_e = 69 ∷ []

abbrev pub letter_f : List ℕ
letter_f = 70 ∷ []

abbrev pub letter_r : List ℕ
letter_r = 82 ∷ []

abbrev pub dash : List ℕ
dash = 45 ∷ []

-- fields of a line, each behind a space
abbrev pub field : List ℕ → List ℕ
field text = 32 ∷ text

abbrev pub spaced : List (List ℕ) → List ℕ
spaced [] = []
spaced (x ∷ xs) = field x ++ spaced xs

-- a line: its letter, its fields and its end
abbrev pub line_of : List ℕ → List (List ℕ) → List ℕ
line_of letter fields = letter ++ (spaced fields ++ (10 ∷ []))

-- W-210: a negative number is '-' and its digits; `negsuc n` is -(n + 1)
abbrev pub signed_text : ℤ → List ℕ
signed_text (pos n) = decimal n
signed_text (negsuc n) = dash ++ decimal (suc n)

abbrev pub reading_text : Reading → List ℕ
reading_text (level r) = signed_text r
reading_text below_scale = dash

abbrev pub highest_text : Option ℕ → List ℕ
highest_text (some c) = decimal c
highest_text none = dash

-- `E i A LAE Lmax` or `E i R number`
abbrev pub offer_fields : Outcome Accepted → List (List ℕ)
offer_fields (given a) = letter_a ∷ reading_text a.exposure ∷ decimal a.lmax ∷ []
offer_fields (refused n) = letter_r ∷ decimal n ∷ []

abbrev pub event_line : ℕ → Outcome Accepted → List ℕ
event_line i answer = line_of letter_e (decimal i ∷ offer_fields answer)

-- `D A Ldn method Nd' Nn' Lmax` or `D R number`
abbrev pub closing_fields : Closing → List (List ℕ)
closing_fields c =
    letter_a
    ∷ reading_text c.ldn
    ∷ decimal c.method
    ∷ decimal c.day_events
    ∷ decimal c.night_events
    ∷ highest_text c.highest
    ∷ []

abbrev pub close_fields : Outcome Closing → List (List ℕ)
close_fields (given c) = closing_fields c
close_fields (refused n) = letter_r ∷ decimal n ∷ []

abbrev pub day_line : Outcome Closing → List ℕ
day_line answer = line_of letter_d (close_fields answer)

-- `F number`
abbrev pub fault_line : ℕ → List ℕ
fault_line n = line_of letter_f (decimal n ∷ [])

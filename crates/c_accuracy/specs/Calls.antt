-- Lists of calls through C on the words of a day: what they leave in the words.
use Rattle.std.specs.Prelude.{List, [], ◌∷◌, ℕ, ℤ}
use Rattle.ledger.specs.Day.{Opening}
use Rattle.admission.specs.Checks.{Offering}
use Rattle.accuracy.specs.Tally.{Call, offering, closing}
use Rattle.c_interface.specs.Calls.{OfferLent, CloseLent, open_leaves, offer_leaves}

-- a call after opening: its arguments, and what the numbers held that it was lent to write
pub data CCall : Type 0 where
  offer : Offering → (exposure : ℤ) (lmax : ℕ) → CCall
  close : (before after : ℕ) → CloseLent → CCall

-- the call that the plain tally is fed
abbrev pub call_of : CCall → Call
call_of (offer o exposure lmax) = offering o
call_of (close before after lent) = closing before after

-- what an offer is lent
abbrev pub lent_to : List ℕ → (exposure : ℤ) (lmax : ℕ) → OfferLent
lent_to day exposure lmax = record { day = day; exposure = exposure; lmax = lmax }

-- the words after a call; those of a day that is closed are read alone
abbrev pub words_after : List ℕ → CCall → List ℕ
words_after day (offer o exposure lmax) = (offer_leaves (lent_to day exposure lmax) o).lent.day
words_after day (close before after lent) = day

abbrev pub words_after_calls : List ℕ → List CCall → List ℕ
words_after_calls day [] = day
words_after_calls day (c ∷ cs) = words_after_calls (words_after day c) cs

-- the words after opening and a list of calls
abbrev pub words_of : (day : List ℕ) → Opening → List CCall → List ℕ
words_of day o = words_after_calls (open_leaves day o).lent

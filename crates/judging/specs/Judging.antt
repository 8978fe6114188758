-- What came of a call is compared with the answers that are right: they are separated by '|' and end before ','.
use Rattle.std.specs.Prelude.{ℕ, ◌+◌, ◌%◌, Bool, true, false, cond, ◌&&◌, ◌||◌, List, [], ◌∷◌, ◌==◌}
use Rattle.judging.specs.declared.Progress.{Progress}

-- the bytes before the first of a kind
unfoldable pub up_to : ℕ → List ℕ → List ℕ
up_to byte [] = []
up_to byte (x ∷ xs) = cond (x == byte) [] (x ∷ up_to byte xs)

unfoldable pub same : List ℕ → List ℕ → Bool
same [] [] = true
same [] (y ∷ ys) = false
same (x ∷ xs) [] = false
same (x ∷ xs) (y ∷ ys) = x == y && same xs ys

-- the first answer stands before the first '|', each other one behind a '|' and before the next
unfoldable pub is_later : List ℕ → List ℕ → Bool
is_later came [] = false
is_later came (x ∷ xs) = cond (x == 124) (same came (up_to 124 xs) || is_later came xs) (is_later came xs)

abbrev pub is_one_of : List ℕ → List ℕ → Bool
is_one_of came answers = same came (up_to 124 answers) || is_later came answers

abbrev pub is_right : (came should : List ℕ) → Bool
is_right came should = is_one_of came (up_to 44 should)

-- one call more, and one difference more where its answer is not right
abbrev pub with_call : Progress → (came should : List ℕ) → Progress
with_call p came should =
    record { calls = (p.calls + 1) % 4294967296; different = (p.different + cond (is_right came should) 0 1) % 4294967296 }

-- The bytes before the first of a kind in the words of the library, and the answers as the parts between the separators.
use Rattle.std.proofs.Common.{◌≡◌, ℕ, ◌≤◌, Bool, ◌&&◌, eqb, ltb, List, [], ◌∷◌, Option, length, take, refl, ap, arith}
use Rattle.std.specs.List.{position, position_or_len, slice_split, list_any}
use Rattle.std.specs.Option.{unwrap_or}
use Rattle.std.proofs.lemmas.Bool.{ltb-false}
use lib.Pointwise.{pointwise}
use Rattle.quantity.proofs.Tests.{test}
use Rattle.judging.specs.Judging.{up_to, same, is_later, is_one_of}

module _ (byte : ℕ) where
  up_to_is : (xs : List ℕ) → position_or_len (λ b. eqb b byte) xs ≡ length (up_to byte xs)
  unfolding up_to
  up_to_is [] = refl
  up_to_is (x ∷ xs) = test (eqb x byte) (λ t. rw t) (λ t. rw (t, up_to_is xs) (omega arith))

  up_to_within : (xs : List ℕ) → length (up_to byte xs) ≤ length xs
  unfolding up_to
  up_to_within [] = omega arith
  up_to_within (x ∷ xs) = test (eqb x byte) (λ t. rw t (omega arith)) (λ t. rw t (omega (arith, up_to_within xs)))

  pub up_to_taken : (xs : List ℕ) → take (length (up_to byte xs)) xs ≡ up_to byte xs
  unfolding up_to
  up_to_taken [] = refl
  up_to_taken (x ∷ xs) = test (eqb x byte) (λ t. rw t) (λ t. rw t (ap (λ (l : List ℕ). x ∷ l) (up_to_taken xs)))

  pub first_place : (xs : List ℕ) (r : Option ℕ) → r ≡ position (λ b. eqb b byte) xs → unwrap_or r (length xs) ≡ length (up_to byte xs)
  first_place xs r e =
      let n = length (up_to byte xs) in
      rw (e, up_to_is xs) (test (ltb n (length xs)) (λ t. rw t) (λ t. rw t (omega (arith, up_to_within xs, ltb-false n (length xs) t))))

-- what `==` answers at two runs of bytes
same_is : (xs ys : List ℕ) → pointwise eqb xs ys ≡ same xs ys
unfolding same
same_is [] [] = refl
same_is [] (y ∷ ys) = refl
same_is (x ∷ xs) [] = refl
same_is (x ∷ xs) (y ∷ ys) = ap (λ (b : Bool). eqb x y && b) (same_is xs ys)

abbrev pub is_bar : ℕ → Bool
is_bar b = eqb b 124

-- the answers are the parts between the separators: the first, and those behind it
module _ (came : List ℕ) where
  abbrev pub is_this : List ℕ → Bool
  is_this answer = pointwise eqb came answer

  first_part : (xs : List ℕ) → (rest : List (List ℕ)) × (slice_split is_bar xs ≡ up_to 124 xs ∷ rest) × (list_any is_this rest ≡ is_later came xs)
  unfolding up_to is_later
  first_part [] = ([], refl, refl)
  first_part (x ∷ xs) =
      let (rest, e, l) = first_part xs in
      test (eqb x 124)
      (λ t. (slice_split is_bar xs, rw t, rw (t, e, l, same_is came (up_to 124 xs))))
      (λ t. (rest, rw (t, e), rw (t, l)))

  pub any_part : (xs : List ℕ) → list_any is_this (slice_split is_bar xs) ≡ is_one_of came xs
  any_part xs = let (rest, e, l) = first_part xs in rw (e, l, same_is came (up_to 124 xs))

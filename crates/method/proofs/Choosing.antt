-- The method that the numbers of a day choose, test by test.
use mathlib.Core.Path.{◌≡◌, ◌∙◌}
use mathlib.Core.Bool.{true, false}
use mathlib.Core.List.{[], ◌∷◌}
use lib.Dec.{eqb}
use Rattle.quantity.specs.Rules.{first_of, refused, given}
use Rattle.quantity.proofs.Refusing.{skip, stop, end}
use Rattle.method.specs.Method.{Counts, method_one_holds, method_two_holds, method_rule, method_of}

module _ (c : Counts) where
  -- without a book there is no method
  pub no_book : eqb c.classes 0 ≡ true → refused 12 ≡ method_of c
  no_book h =
      let z : first_of (method_rule c ∷ []) ≡ 12 = stop _ _ (rw h) in
      rw z

  module _ (book : eqb c.classes 0 ≡ false) where
    pub by_method_one : method_one_holds c.totals ≡ true → given 1 ≡ method_of c
    by_method_one h =
        let z : first_of (method_rule c ∷ []) ≡ 0 = skip _ _ (rw (book, h)) ∙ end in
        rw (z, h)

    pub by_method_two : method_one_holds c.totals ≡ false → method_two_holds c.totals c.class ≡ true → given 2 ≡ method_of c
    by_method_two h g =
        let z : first_of (method_rule c ∷ []) ≡ 0 = skip _ _ (rw (book, h, g)) ∙ end in
        rw (z, h)

    pub by_neither : method_one_holds c.totals ≡ false → method_two_holds c.totals c.class ≡ false → refused 12 ≡ method_of c
    by_neither h g =
        let z : first_of (method_rule c ∷ []) ≡ 12 = stop _ _ (rw (book, h, g)) in
        rw z

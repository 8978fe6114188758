-- What is said of lists in more than one crate.
use Rattle.std.specs.Prelude.{List, [], ◌∷◌}

-- each entry of a list has a property
abbrev pub Each : {A : Type 0} → (A → Type 0) → List A → Type 0
Each P [] = Unit
Each P (x ∷ xs) = P x × Each P xs

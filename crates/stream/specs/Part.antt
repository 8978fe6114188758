-- The bytes of a buffer that are not used up yet, and those that the input still has.
use Rattle.std.specs.Prelude.{List, Option, ℕ, ◌-◌, take, drop}
use Rattle.std.specs.Io.KnownBytes.{Keeps, prepend_known}

-- the bytes from a place up to another, as far as the buffer has them
abbrev pub part : List ℕ → ℕ → ℕ → List ℕ
part held from to = take (to - from) (drop from held)

-- what is held, and behind it what the input still has, is one run of bytes; it is the same before and after, where it is known
abbrev pub SameRun : (held_before : List ℕ) (left_before : Option (List ℕ)) (held : List ℕ) (left : Option (List ℕ)) → Type 0
SameRun held_before left_before held left = Keeps (prepend_known held_before left_before) (prepend_known held left)

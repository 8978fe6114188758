-- A step uses up no more than is held.
use Rattle.std.proofs.Common.{◌≡◌, ℕ, ◌+◌, ◌-◌, ◌≤◌, Bool, List, length, arith, length-drop}
use Rattle.std.proofs.lemmas.List.{length-take-le}
use Rattle.stream.specs.Part.{part}
use Rattle.steps.specs.declared.Reader.{Reader}
use Rattle.steps.specs.Machine.{step_of}
use Rattle.steps.proofs.Ending.{used_law}

pub part_long : (held : List ℕ) (from end : ℕ) → end ≤ length held → length (part held from end) ≡ end - from
part_long held from end h = length-take-le _ _ (simp length-drop (omega arith))

pub within : (s : Reader) (held : List ℕ) (from end : ℕ) (ended : Bool) (k used : ℕ) → (from + k ≤ end) × (end ≤ length held)
    → used ≡ (step_of s (part held from end) ended).used → from + used ≤ end
within s held from end ended k used inside e = omega (arith, inside, part_long held from end inside.1, used_law s (part held from end) ended)

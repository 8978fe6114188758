-- The starred cases, shown row by row: the powers in a row are rewritten to numbers, and the level is read off. The other rows compute.
use mathlib.Core.Path.{◌≡◌, refl, ap}
use mathlib.Core.Option.{Option}
use Prim.Native.Nat.{ℕ}
use lib.Dec.{lit<, lit≤}
use Rattle.quantity.specs.Answers.{Reading}
use Rattle.quantity.specs.Rules.{first_of, given}
use Rattle.power.proofs.Scale.{m_is}
use Rattle.limbs.specs.Value.{value, limbs_of}
use Rattle.decades.specs.Decades.{energies}
use Rattle.ledger.specs.Book.{sum_of}
use Rattle.method.specs.Method.{shares_hold}
use Rattle.mean.specs.Mean.{mean_of, sum_of_powers, any_outside}
use Rattle.starred.specs.Starred.{starred, AllHold, closes}
use Rattle.starred.proofs.Levels.{e_tens, read}

-- Ldn, in what closing answers. Without a tolerance the sums at both ends compute to that of the recorded samples, so that one level is read off.
with_ldn : {a b : Reading} {method day_events night_events : ℕ} {highest : Option ℕ}
    → a ≡ b
    → closes a method day_events night_events highest ≡ closes b method day_events night_events highest
with_ldn {method = method} {day_events} {night_events} {highest} = ap (λ ldn. closes ldn method day_events night_events highest)

infixr 2 ◌and◌
◌and◌ : {A B : Type 0} → A → B → A × B
a and b = (a, b)

-- limbs are opened when they are numbers: before that, each event would make the sum four times as long
pub shown : AllHold starred
unfolding energies first_of sum_of shares_hold mean_of sum_of_powers any_outside
shown =
    m_is _ _ (lit≤ tt) (lit< tt)
    and (rw (e_tens 8) (read _ _ _ _ tt))
    and (rw (e_tens 8) (unfold value limbs_of in with_ldn (read _ _ _ _ tt)))
    and (rw (e_tens 8) (unfold value limbs_of in with_ldn (read _ _ _ _ tt)))
    and (rw (e_tens 8) (unfold value limbs_of in with_ldn (read _ _ _ _ tt)))
    and (rw (e_tens 11, e_tens 12) (ap given (read _ _ _ _ tt)))
    and (rw (e_tens 11) (ap given (read _ _ _ _ tt)))
    and (unfold value limbs_of in with_ldn (read _ _ _ _ tt))
    and refl
    and refl
    and (rw (e_tens 8) (unfold value limbs_of in with_ldn (read _ _ _ _ tt)))
    and (rw (e_tens 8) (unfold value limbs_of in with_ldn (read _ _ _ _ tt)))
    and tt

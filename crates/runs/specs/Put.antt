-- The code's own machinery, not the papers': items that are put at a place of a lent run.
use Rattle.std.specs.Prelude.{◌≡◌, List, ◌++◌, ℕ, ◌+◌, ◌≤◌, length, take, drop}

-- the run before, the place, the items, the run after and the place behind the items; what lies before the items and behind them stays
pub record Put {A : Type 0} (before : List A) (at : ℕ) (items after : List A) (behind : ℕ) : Type 0 where
  pub end : behind ≡ at + length items
  pub inside : behind ≤ length before
  pub run : after ≡ take at before ++ items ++ drop behind before

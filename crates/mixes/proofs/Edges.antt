-- Document 01's edge, computed.
use mathlib.Core.Path.{refl}
use Rattle.ledger.specs.Book.{sum_of}
use Rattle.method.specs.Method.{shares_hold, on_each_class}
use Rattle.mixes.specs.Mix.{headed, lists_of, passing}
use Rattle.mixes.specs.Laws.{TwoClassesOfTen}

pub two_classes_of_ten : TwoClassesOfTen
unfolding headed lists_of passing shares_hold on_each_class sum_of
two_classes_of_ten = (refl, refl)

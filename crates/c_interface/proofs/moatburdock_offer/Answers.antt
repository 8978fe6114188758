-- `c_interface::moatburdock_offer` meets its contract: by the case of the answer; a refused offer writes nothing.
use mir.Syntax.{w32}
use mir.Facts.{to_z-of_z}
use Rattle.quantity.proofs.Instants.{instant_handed}
use Rattle.c_interface.proofs.moatburdock_offer.Goals.{in-Ok, in_default}
use Rattle.c_interface.proofs.moatburdock_offer.Goals as goal

pub returns : goal.returns
returns c =
    let same = rw (c.decode.ensures, instant_handed c.ranges.start c.instant_of.ensures) at c.offer-offered.ensures in
    elim c.match-offered.branch [
      | in-Ok w ↦
          let back = to_z-of_z {w = w32} {z = w.level_number.result} (record { sfits = w.level_number.type_inv }) in
          rw (w.day-is, w.exposure-is, w.lmax-is, back, w.encode.ensures, w.level_number.ensures, c.answer_number.ensures, ← same, w.in-Ok.is)
      | in_default w ↦ rw (w.day-is, w.exposure-is, w.lmax-is, c.answer_number.ensures, ← same, w.in_default.is)
    ]

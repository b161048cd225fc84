-- `places::face::meet` meets its contract: the choice value by value is the choice of the place, and a direction that is taken meets the cube.
use mathlib.Core.Path.{sym, subst}
use lib.Dec.{T}
use Rattle.places.specs.Spots.{OnCube}
use Rattle.places.proofs.Spots.{spot-chosen, on-cube}
use Rattle.places.proofs.face.meet.Goals as goal

pub returns-clause-at : goal.returns-clause-at
returns-clause-at c =
    rw (
      c.on_face-2.ensures,
      c.on_face.ensures,
      c.pick-5.ensures,
      c.pick-4.ensures,
      c.odd-3.ensures.0,
      c.odd-2.ensures.0,
      c.odd.ensures.0,
      c.pick-major.ensures,
      c.pick-3.ensures,
      c.pick-p.ensures,
      c.pick-2.ensures,
      c.sign-3.ensures,
      c.pick-q.ensures,
      c.pick.ensures,
      c.sign-2.ensures,
      c.sign.ensures,
      c.sizes-size.ensures.0,
      c.sizes-size.ensures.1,
      c.sizes-size.ensures.2,
    )
    (spot-chosen c.args.x c.args.y c.args.z)

pub returns-clause-on : goal.returns-clause-on
returns-clause-on c taken =
    let a = c.args in
    subst OnCube (sym (returns-clause-at c)) (on-cube a.x a.y a.z (subst T (sym c.well_formed.0.1) tt) (subst T (sym c.well_formed.1.1.0.1) tt) taken)

-- `lane::nearest::nearest_places` meets its contract: a wrapped number lies in its side, so each place lies inside the level.
use Rattle.places.specs.Sized.{Below}
use Rattle.places.proofs.Wraps.{nearests-below}
use Rattle.lane.proofs.nearest.nearest_places.Goals as goal

pub places-requires : goal.places-requires
places-requires c =
    let z = c.args.on.sized in
    let across : Below c.args.on.plane.width c.nearest_four-x.result = rw (c.nearest_four-x.ensures, c.width.ensures) (nearests-below _ _ _ z.some-w) in (
      rw c.first_faces.ensures (record { a = z.some-faces; b = z.some-faces; c = z.some-faces; d = z.some-faces }),
      search across,
      rw (c.nearest_four-y.ensures, c.height.ensures) (nearests-below _ _ _ z.some-h),
    )

-- `lane::bilinear::squares` meets its contract: a wrapped number lies in its side, so each of the sixteen places lies inside the level.
use Rattle.places.specs.Sized.{Below}
use Rattle.places.proofs.Wraps.{axes-below}
use Rattle.lane.proofs.bilinear.squares.Goals as goal
use Rattle.lane.proofs.bilinear.squares.Goals.{After-four_axes-y}

module _ (c : goal.After-four_axes-y) where
  across : Below c.args.on.plane.width c.four_axes-x.result.first × Below c.args.on.plane.width c.four_axes-x.result.second
  across = rw (c.four_axes-x.ensures, ← c.width-width.ensures) (axes-below _ _ _ c.width-width.result.is.0)

  down : Below c.args.on.plane.height c.four_axes-y.result.first × Below c.args.on.plane.height c.four_axes-y.result.second
  down = rw (c.four_axes-y.ensures, ← c.height-height.ensures) (axes-below _ _ _ c.height-height.result.is.0)

pub places-requires : goal.places-requires
places-requires c = let k = (goal.at.places-requires c).After-four_axes-y in (c.requires, search (across k), search (down k))

pub places-requires-2 : goal.places-requires-2
places-requires-2 c = let k = (goal.at.places-requires-2 c).After-four_axes-y in (c.requires, search (across k), search (down k))

pub places-requires-3 : goal.places-requires-3
places-requires-3 c = let k = (goal.at.places-requires-3 c).After-four_axes-y in (c.requires, search (across k), search (down k))

pub places-requires-4 : goal.places-requires-4
places-requires-4 c = let k = (goal.at.places-requires-4 c).After-four_axes-y in (c.requires, search (across k), search (down k))

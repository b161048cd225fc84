-- `txr::listing::level_lines`: a line for each level passed.
use mathlib.Core.Path.{◌≡◌}
use Rattle.rules.specs.Kinds.{code_of}
use Rattle.txr.specs.Listing.{level_lines}
use Rattle.txr.proofs.listing.level_lines.Given as goal

abbrev pub invariant-loop-m : goal.invariant-loop-m
invariant-loop-m l = l.page ≡ level_lines (code_of l.chain.picture.kind) l.chain.picture.width l.chain.picture.height l.chain.texels.now l.m

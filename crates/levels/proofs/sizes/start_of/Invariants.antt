-- `levels::sizes::start_of` meets its contract. The invariant: `at` is where the level starts that the walk has come to.
use mathlib.Core.Path.{◌≡◌}
use Rattle.rules.specs.Sizes.{start}
use Rattle.levels.proofs.sizes.start_of.Given as goal

abbrev pub invariant-loop-m : goal.invariant-loop-m
invariant-loop-m l = l.at ≡ start l.faces l.width l.height l.m

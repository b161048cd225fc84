-- `ranges::replace::replace_texel` meets its contract: past the test the place lies in level 0, and its tile in the ranges.
use native.Mathlib.Omega.{arith}
use mathlib.Core.Path.{◌≡◌, sym}
use lib.ListN.{length, length-set}
use Prim.Native.Nat.{◌+◌, ◌*◌}
use Rattle.rules.specs.Refusals.{replace_refusal}
use Rattle.rules.proofs.Answering.{told_none}
use Rattle.rules.proofs.RefusingRanges.{Replacing, replace-facts, replace-goes}
use Rattle.rules.proofs.Replacing.{texel-inside}
use Rattle.rules.proofs.Building.{flat-of}
use Rattle.rules.proofs.Tiles.{tile-of}
use Rattle.ranges.proofs.replace.replace_texel.Goals as goal
use Rattle.ranges.proofs.replace.replace_texel.Goals.{In_ok-check_replace}

-- past the test nothing is refused
none : (c : goal.In_ok-check_replace)
    → let a = c.args in
    replace_refusal a.kind a.width a.height (length a.texels.now) (length a.ranges.now) a.x a.y ≡ 0
none c = told_none _ (sym c.in_ok-check_replace.ensures)

known : (c : goal.In_ok-check_replace)
    → let a = c.args in
    Replacing a.kind a.width a.height (length a.texels.now) (length a.ranges.now) a.x a.y
known c = replace-facts _ _ _ _ _ _ _ (none c)

pub overflow_mul-at : goal.overflow_mul-at
overflow_mul-at c = omega (arith, texel-inside _ _ _ _ _ _ _ (known (goal.at.overflow_mul-at c).In_ok-check_replace))

pub overflow_add-at : goal.overflow_add-at
overflow_add-at c = omega (arith, texel-inside _ _ _ _ _ _ _ (known (goal.at.overflow_add-at c).In_ok-check_replace))

pub offset_bounds-texels-at : goal.offset_bounds-texels-at
offset_bounds-texels-at c = omega (arith, texel-inside _ _ _ _ _ _ _ (known (goal.at.offset_bounds-texels-at c).In_ok-check_replace))

pub bounds-texels-at : goal.bounds-texels-at
bounds-texels-at c = texel-inside _ _ _ _ _ _ _ (known (goal.at.bounds-texels-at c).In_ok-check_replace)

pub invariant_of-level : goal.invariant_of-level
invariant_of-level c =
    let a = c.args in
    let k = known (goal.at.invariant_of-level c).In_ok-check_replace in
    record { flat = rw (length-set a.texels.now (a.y * a.width + a.x) a.texel) (flat-of k.ranged) }

pub write_tile-requires : goal.write_tile-requires
write_tile-requires c =
    let k = known (goal.at.write_tile-requires c).In_ok-check_replace in
    record {
      room = k.ranged.room;
      tile_at = tile-of _ _ _ _ k.inside.along k.inside.down;
    }

pub returns-clause-texels : goal.returns-clause-texels
returns-clause-texels c = (replace-goes _ _ _ _ _ _ _ _ (none (goal.at.returns-clause-texels c).In_ok-check_replace) c.write_tile.ensures).1.0

pub returns-clause-ranges : goal.returns-clause-ranges
returns-clause-ranges c = (replace-goes _ _ _ _ _ _ _ _ (none (goal.at.returns-clause-ranges c).In_ok-check_replace) c.write_tile.ensures).1.1

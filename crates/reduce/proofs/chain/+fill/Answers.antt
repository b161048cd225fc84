use native.Mathlib.Omega.{arith}
use Rattle.reduce.proofs.Steps.{Written, step_room, step-none, at-fits, rest-fits, put_back}
use Rattle.reduce.proofs.chain.+fill.Goals as goal
use Rattle.reduce.proofs.chain.+fill.Goals.{After-size-n}

-- what has been done where the part is lent
wrote : (g : _) (t : _) (c : goal.After-size-n g t)
    → let a = c.args in
    Written (g.R.Reduce.rule a.rule.now) a.shape.faces a.shape.width a.shape.height a.left c.size-n.result a.s.now c.write_next.new.s
wrote g t c =
    record {
      sides = c.args.shape.sides;
      more = omega arith;
      room = c.requires.room.1;
      at = c.size-n.ensures;
      holds = c.write_next.ensures;
    }

pub returns-then-left-lt2 : goal.returns-then-left-lt2
returns-then-left-lt2 g t c = step-none (g.R.Reduce.rule _) c.args.shape.sides c.requires.room.0 (omega arith)

pub write_next-requires : goal.write_next-requires
write_next-requires g t c =
    let s = c.args.shape in
    record { room = step_room (g.R.Reduce.rule c.args.rule.now) _ _ _ _ c.args.s.now s.sides (omega arith) c.requires.room.1 }

pub slice_bounds-fill-count : goal.slice_bounds-fill-count
slice_bounds-fill-count g t c = at-fits (wrote g t (goal.at.slice_bounds-fill-count g t c).After-size-n)

pub slice_bounds-fill-start : goal.slice_bounds-fill-start
slice_bounds-fill-start g t c = at-fits (wrote g t (goal.at.slice_bounds-fill-start g t c).After-size-n)

pub fill-requires : goal.fill-requires
fill-requires g t c κs within =
    let n = c.next.ensures in
    let r = wrote g t (goal.at.fill-requires g t c).After-size-n in
    (omega arith, (within, (omega arith, rw n.0 (rest-fits r n.1 n.2))))

pub returns : goal.returns
returns g t c =
    let n = c.next.ensures in
    put_back (wrote g t (goal.at.returns g t c).After-size-n) n.1 n.2 (rw n.0 at c.fill.ensures)

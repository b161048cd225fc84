-- `kinds::rounded::Rounded::reduced` meets its contract: the quarters of the sums are the channels of Linear's texel (`Halves`).
use mathlib.Core.Path.{◌≡◌, ◌∙◌}
use Prim.Native.Nat.{◌+◌, ◌*◌, ◌/◌, ◌≤◌}
use native.Mathlib.Omega.{arith}
use borrow.Author.Rules.{rules}
use Rattle.rules.specs.Kinds.{red_of, green_of, blue_of, alpha_of}
use Rattle.kinds.specs.Quads.{sum_of}
use Rattle.kinds.proofs.Halves.{Words, Halved, asked, quartered, red-blue, green-alpha, rounded-texel}
use Rattle.kinds.proofs.rounded.RoundedReduce.reduced.Goals as goal
use Rattle.kinds.proofs.rounded.RoundedReduce.reduced.Goals.{After-sums, After-sums-2, After-quarters, After-quarters-2, Start}

words : (s : goal.Start) → Words s.args.q
words s = record { first = search rules; second = search rules; third = search rules; fourth = search rules }

reds : (c : goal.After-sums) → let q = c.args.q in Halved c.sums.result (sum_of red_of q) (sum_of blue_of q)
reds c =
    let q = c.args.q in
    let h = c.map.ensures in
    let a : c.map.result.p00 ≡ green_of (q.p00 / 256) * 65536 + alpha_of (q.p00 / 256) = search rules in
    let b : c.map.result.p10 ≡ green_of (q.p10 / 256) * 65536 + alpha_of (q.p10 / 256) = search rules in
    let d : c.map.result.p01 ≡ green_of (q.p01 / 256) * 65536 + alpha_of (q.p01 / 256) = search rules in
    let e : c.map.result.p11 ≡ green_of (q.p11 / 256) * 65536 + alpha_of (q.p11 / 256) = search rules in
    red-blue q (words (goal.at.After-sums c).Start) _ (c.sums.ensures ∙ rw (a, b, d, e) (omega arith))

greens : (c : goal.After-sums-2) → let q = c.args.q in Halved c.sums-2.result (sum_of green_of q) (sum_of alpha_of q)
greens c =
    let h = c.map-2.ensures in
    green-alpha c.args.q (words (goal.at.After-sums-2 c).Start) _ (c.sums-2.ensures ∙ rw (h.first, h.second, h.third, h.fourth) (omega arith))

pub quarters-requires : goal.quarters-requires
quarters-requires c = asked (reds c)

-- red and blue divided, then green and alpha
first : (c : goal.After-quarters) → let q = c.args.q in (c.quarters.result ≡ sum_of red_of q / 4 * 65536 + sum_of blue_of q / 4) × (c.quarters.result ≤ 16711935)
first c = quartered _ (reds (goal.at.After-quarters c).After-sums) c.quarters.ensures

second : (c : goal.After-quarters-2) → let q = c.args.q in (c.quarters-2.result ≡ sum_of green_of q / 4 * 65536 + sum_of alpha_of q / 4) × (c.quarters-2.result ≤ 16711935)
second c = quartered _ (greens (goal.at.After-quarters-2 c).After-sums-2) c.quarters-2.ensures

pub quarters-requires-2 : goal.quarters-requires-2
quarters-requires-2 c = asked (greens c)

pub returns : goal.returns
returns c =
    rw ((first (goal.at.returns c).After-quarters).0, (second c).0) (rounded-texel c.args.q (words (goal.at.returns c).Start))

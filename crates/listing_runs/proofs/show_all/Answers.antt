use Rattle.std.proofs.Common.{◌≡◌, ◌-◌, ◌≤◌, min, suc, length, [], ◌++◌, rules, refl, sym, ◌∙◌, arith, append_assoc, append-nil}
use Rattle.std.proofs.KnownBytes.{Appends-nil, Appends-trans}
use Rattle.std.specs.Int.{from_le_bytes, w16}
use Rattle.txr.specs.Listing.{listing_of}
use Rattle.listing_runs.specs.Runs.{listings_of}
use Rattle.listing_runs.proofs.Runs.{one_more, none_more}
use Rattle.listing_runs.proofs.show_all.Goals as goal

pub loop-length-init : goal.loop-length-init
loop-length-init g c = record {
  shown = [];
  n = length c.args.runs.now;
  enough = search rules;
  goes_on = refl;
  appended = Appends-nil _;
}

pub loop-length-preserved : goal.loop-length-preserved
loop-length-preserved g c =
    let inv = c.loop-length.invariant in
    let cut = c.in-Some.ensures.cases in
    let part = c.split_at.ensures in
    let size : c.min.result ≡ min (from_le_bytes w16 c.in-Some.length.now) (length c.in-Some.behind.now) = rw (c.min.ensures, c.from-size.ensures, c.from_le_bytes.ensures) in
    let fuel : inv.n ≡ suc (inv.n - 1) = omega (arith, inv.enough, cut.2) in
    record {
      shown = inv.shown ++ listing_of c.split_at.result.0.now;
      n = inv.n - 1;
      enough = omega (arith, inv.enough, cut.2, part.back_len);
      goes_on = rw (append_assoc, ← one_more (inv.n - 1) c.min.result c.loop-length.rest.now c.in-Some.length.now c.in-Some.behind.now c.split_at.result.0.now c.split_at.result.1.now cut.0 cut.1 (omega (arith, cut.2)) size part.front part.back, ← fuel) inv.goes_on;
      appended = Appends-trans _ _ _ _ _ inv.appended c.in_ok-write_listing.ensures;
    }

pub returns : goal.returns
returns g c =
    let inv = c.loop-length.invariant in
    let rest = c.loop-length.rest.now in
    let short : length rest ≤ 1 = omega (arith, c.in_default.ensures.cases) in
    let all : inv.shown ≡ listings_of c.args.runs.now = sym (append-nil inv.shown) ∙ (rw (none_more inv.n rest short) at inv.goes_on) in
    rw all at inv.appended

-- `txr::page::Page::line`: a line's length, where its definition is not unfolded.
use Rattle.std.proofs.Common.{arith}
use Rattle.std.proofs.lemmas.Grind.{common_steps}
use Rattle.txr.proofs.Spelling.{length-line}
use Rattle.txr.proofs.page.Page.line.Goals as goal

pub hex-requires : goal.hex-requires
hex-requires c = grind (arith, common_steps, length-line)

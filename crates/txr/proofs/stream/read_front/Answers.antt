-- `txr::stream::read_front`: a reader that is limited gives the front of what the reader would give.
use Rattle.std.proofs.Common.{◌≡◌, ℕ, List, [], ◌++◌, take, Option, Some, None, IfSome}
use Rattle.std.specs.Option.{option_map}
use Rattle.txr.proofs.stream.read_front.Goals as goal

limited : (n : ℕ) (known : Option (List ℕ)) (before items : List ℕ) → before ≡ [] → IfSome (option_map (take n) known) (λ front. items ≡ before ++ front) → IfSome known (λ input. items ≡ take n input)
limited n None before items empty fits = tt
limited n (Some input) before items empty fits = rw empty at fits

pub returns : goal.returns
returns g c =
    let fits = rw (c.take.ensures.limit, c.take.ensures.inner) at c.in_ok-read_to_end.ensures.bytes in
    limited c.args.most (g.R.Read.remaining c.args.reader) _ _ c.new-front.ensures.items fits

-- `txr::page::Page::digits`: the digits of the quotient, by the call of itself, and the digit of the remainder. The measure is their number.
use Rattle.txr.proofs.page.Page.+digits.Given as goal

abbrev pub decreases-digits : goal.decreases-digits
decreases-digits l = l.k

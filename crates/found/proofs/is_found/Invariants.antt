-- `found::is_found` meets its contract.
use Rattle.found.proofs.Seen.{Down, place}
use Rattle.found.proofs.is_found.Given as goal

abbrev pub invariant-loop-next : goal.invariant-loop-next
invariant-loop-next l = Down l.l l.n l.keys l.key l.seen (place l.next)

abbrev pub decreases-loop-next : goal.decreases-loop-next
decreases-loop-next l = place l.next

-- `telling::say_hex`: all but what is left is written, and that is cut into chunks of 2,048 bytes.
use Rattle.std.proofs.Common.{◌≡◌}
use Rattle.telling.proofs.Written.{Said}
use Rattle.telling.proofs.say_hex.Given as goal

abbrev pub invariant-loop-chunk : goal.invariant-loop-chunk
invariant-loop-chunk g l = record {
  cut : l.chunk-iterator.size ≡ 2048;
  said : Said (g.W.Write.contents l.initial.out) (g.W.Write.contents l.out) l.chunk-iterator.rest.now l.bytes;
}

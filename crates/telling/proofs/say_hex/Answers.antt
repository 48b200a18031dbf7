-- `telling::say_hex` meets its contract: a chunk more is written.
use Rattle.std.proofs.Common.{rules, ◌≡◌, ◌∙◌}
use Rattle.telling.proofs.Written.{said-none, said-more}
use Rattle.telling.proofs.say_hex.Goals as goal

pub loop-chunk-init : goal.loop-chunk-init
loop-chunk-init g c =
    let whole : c.into_iter-chunk-iterator.result.rest.now ≡ c.args.bytes.now = search rules in
    record {
      cut = search rules;
      said = rw whole (said-none (g.W.Write.contents c.args.out.now) c.args.bytes.now);
    }

pub loop-chunk-preserved : goal.loop-chunk-preserved
loop-chunk-preserved g c =
    let steps = c.in-Some.ensures.steps in
    let written = rw c.unwrap.ensures at c.encode_to_slice.ensures.written in
    let before = rw steps.1.0 at c.loop-chunk.invariant.said in
    record {
      cut = steps.0 ∙ c.loop-chunk.invariant.cut;
      said = said-more _ _ _ _ _ _ before (rw written at c.in_ok-write_all.ensures.bytes);
    }

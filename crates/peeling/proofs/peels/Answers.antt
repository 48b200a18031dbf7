-- `peeling::peels` meets its contract.
use mathlib.Core.Path.{refl, ap, ◌∙◌}
use native.Mathlib.Omega.{arith}
use Rattle.std.proofs.Common.{Ok}
use Rattle.list.proofs.Laws.{found-self, found-on}
use Rattle.table.proofs.Parts.{table-self, table-on}
use Rattle.peeling.proofs.Answers.{has_room}
use Rattle.peeling.proofs.Loop.{going-room, going_on, going-quiet, going-damaged}
use Rattle.peeling.proofs.peels.Goals as goal

pub loop-listed-init : goal.loop-listed-init
loop-listed-init c = record {
  going = record { steady = c.requires; goes = refl };
  table-kept = table-self c.args.table.now;
  found-kept = found-self c.args.found.now;
}

pub peel-requires : goal.peel-requires
peel-requires c =
    let s = c.loop-listed.invariant.going.steady in
    (s.fits, has_room _ _ _ _ _ _ _ s.fits s.bounded)

pub loop-listed-smaller : goal.loop-listed-smaller
loop-listed-smaller c =
    let room = going-room c.loop-listed.invariant.going c.peel.ensures.value (c.in-Ok-true.is ∙ ap Ok c.in-Ok-true.field-0-test) in
    omega arith

pub loop-listed-preserved : goal.loop-listed-preserved
loop-listed-preserved c =
    let before = c.loop-listed.invariant in
    record {
      going = going_on before.going c.peel.ensures.value (c.in-Ok-true.is ∙ ap Ok c.in-Ok-true.field-0-test);
      table-kept = table-on c.peel.new.table c.loop-listed.table c.args.table.now c.peel.ensures.table_kept before.table-kept;
      found-kept = found-on c.peel.new.found c.loop-listed.found c.args.found.now c.peel.ensures.found_kept before.found-kept;
    }

pub returns-in-Ok-false-clause-value : goal.returns-in-Ok-false-clause-value
returns-in-Ok-false-clause-value c =
    going-quiet c.loop-listed.invariant.going c.peel.ensures.value (c.in-Ok-false.is ∙ ap Ok c.in-Ok-false.field-0-test)

pub returns-in-Err-clause-value : goal.returns-in-Err-clause-value
returns-in-Err-clause-value c = going-damaged c.loop-listed.invariant.going c.peel.ensures.value c.in-Err.is

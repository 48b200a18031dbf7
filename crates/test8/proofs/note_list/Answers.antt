-- `test8::note_list` meets its contract.
use Rattle.std.proofs.Common.{◌≡◌, ℕ, ◌+◌, ◌-◌, ◌*◌, ◌||◌, List, refl, ap, ◌∙◌, length, arith}
use Rattle.laws.specs.Upto.{any_upto, each_upto, list_upto}
use Rattle.laws.proofs.Rows.{row_within}
use Rattle.hash.specs.Places.{cell_of}
use Rattle.list.proofs.Laws.{key-part, length-key}
use Rattle.test8.specs.Given.{one_more, mixed_in, noted, seen_upto}
use Rattle.test8.specs.Test8.{keys_repeat}
use Rattle.test8.proofs.Notes.{places-small, places-wide, leads-here, bucket-here, seen-turn, noted-turn, repeat-turn}
use Rattle.test8.proofs.note_list.Goals as goal
use Rattle.test8.proofs.note_list.Goals.{then-repeat, else-repeat}

pub loop-i-init : goal.loop-i-init
unfolding keys_repeat any_upto seen_upto noted each_upto
loop-i-init c = (refl, refl, refl, refl)

pub is_found-again-requires : goal.is_found-again-requires
is_found-again-requires c =
    let a = c.args in
    let s = a.p.shape in
    let l = s.layout in
    let keys = a.list.keys.now in
    let i = c.loop-i.i in
    let inside = row_within i a.n l.key (omega (arith, c.loop-i-test.true)) in
    let w : i * l.key + l.key - i * l.key ≡ l.key = omega arith in
    let at = c.cells_of-at.ensures in (
      places-small l s.sizes s.lays s.ranged a.p.salt _ at,
      omega arith,
      omega arith,
      ap length (key-part l keys i w) ∙ length-key l keys i (omega arith),
      leads-here l s.sizes a.p.salt keys i a.seen.now (omega arith) c.requires.3 at c.loop-i.invariant.1,
    )

pub bucket-requires : goal.bucket-requires
bucket-requires c =
    let a = c.args in
    let s = a.p.shape in
    places-small s.layout s.sizes s.lays s.ranged a.p.salt _ c.cells_of-at.ensures

pub add_unknown-requires : goal.add_unknown-requires
add_unknown-requires c =
    let a = c.args in
    let s = a.p.shape in
    (s.ranged.k-high, places-wide s.layout s.sizes s.lays s.ranged a.p.salt _ c.cells_of-at.ensures)

pub loop-i-preserved : goal.loop-i-preserved
loop-i-preserved c =
    let a = c.args in
    let s = a.p.shape in
    let l = s.layout in
    let z = s.sizes in
    let salt = a.p.salt in
    let keys = a.list.keys.now in
    let i = c.loop-i.i in
    let w : i * l.key + l.key - i * l.key ≡ l.key = omega arith in
    let key = key-part l keys i w in
    let at = c.cells_of-at.ensures ∙ ap (λ (k : List ℕ). list_upto 4 (cell_of l z salt k)) key in
    let or : c.if-repeat.repeat ≡ (c.loop-i.repeat || c.is_found-again.result) =
    elim c.if-repeat.branch [ then-repeat w ↦ rw w.if-repeat.true (w.repeat-is ∙ w.if-repeat.true) | else-repeat w ↦ rw w.if-repeat.false w.repeat-is ] in (
      repeat-turn l keys i key c.loop-i.invariant.0 c.is_found-again.ensures or,
      seen-turn l z salt keys a.seen.now i (bucket-here l z salt keys i key c.cells_of-at.ensures c.bucket.ensures) c.loop-i.invariant.1 c.link.ensures,
      noted-turn l z s.lays s.ranged salt one_more keys a.list.flags.now i a.numbers.now.unknowns at refl c.loop-i.invariant.2 c.add_unknown.ensures.0,
      noted-turn l z s.lays s.ranged salt mixed_in keys a.list.flags.now i a.numbers.now.positions at refl c.loop-i.invariant.3 c.add_unknown.ensures.1,
    )

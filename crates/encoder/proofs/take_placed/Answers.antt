-- `encoder::take_placed` meets its contract.
use mathlib.Core.Bool.{cond}
use mathlib.Core.Path.{◌≡◌, sym, ◌∙◌}
use Rattle.filter.specs.Filter.{with_bits}
use Rattle.filter.proofs.Held.{bits_inside}
use Rattle.encoder.proofs.Answers.{cells-inside, offer-full, offer-taken}
use Rattle.encoder.proofs.take_placed.Goals.{Start, then-new, else-new}
use Rattle.encoder.proofs.take_placed.Goals as goal

pub any_clear-new-requires : goal.any_clear-new-requires
any_clear-new-requires c =
    let p = c.args.placing in
    let s = p.shape in
    (s.ranged.kf-high, rw c.bits_of-bits.ensures (bits_inside s.sizes s.ranged p.salt c.args.key.now _ c.requires.0.0))

pub any_full-requires : goal.any_full-requires
any_full-requires c =
    let p = c.args.placing in
    let s = p.shape in
    rw c.cells_of-at.ensures (cells-inside s.layout s.sizes s.lays s.ranged p.salt c.args.key.now _ c.requires.0.1)

pub set_all-requires : goal.set_all-requires
set_all-requires c =
    let p = c.args.placing in
    let s = p.shape in
    (s.ranged.kf-high, rw c.bits_of-bits.ensures (bits_inside s.sizes s.ranged p.salt c.args.key.now _ c.requires.0.0))

pub take_each-requires : goal.take_each-requires
take_each-requires c =
    let p = c.args.placing in
    let s = p.shape in
    (rw c.cells_of-at.ensures (cells-inside s.layout s.sizes s.lays s.ranged p.salt c.args.key.now _ c.requires.0.1), c.requires.1)

pub returns-then-any_full : goal.returns-then-any_full
returns-then-any_full c =
    let p = c.args.placing in
    let s = p.shape in
    offer-full s.layout s.sizes s.lays s.ranged p.salt c.args.key.now c.args.filter.now c.args.cells.now
    c.bits_of-bits.result.at c.cells_of-at.result.at c.any_clear-new.result
    c.bits_of-bits.ensures c.cells_of-at.ensures c.any_clear-new.ensures (sym c.any_full.ensures ∙ c.if-any_full.true)

pub returns : goal.returns
returns c =
    let p = c.args.placing in
    let s = p.shape in
    let noted : c.if-new.filter ≡ cond c.any_clear-new.result (with_bits c.args.filter.now c.bits_of-bits.result.at s.sizes.kf) c.args.filter.now =
    elim c.if-new.branch [ then-new w ↦ rw w.if-new.true (w.filter-is ∙ w.set_all.ensures) | else-new w ↦ rw w.if-new.false w.filter-is ] in
    offer-taken s.layout s.sizes s.lays s.ranged p.salt c.args.key.now c.args.filter.now c.args.cells.now
    c.bits_of-bits.result.at c.cells_of-at.result.at c.any_clear-new.result
    c.bits_of-bits.ensures c.cells_of-at.ensures c.any_clear-new.ensures (sym c.any_full.ensures ∙ c.if-any_full.false)
    noted c.take_each.ensures

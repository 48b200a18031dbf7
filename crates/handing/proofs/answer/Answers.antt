-- `handing::answer` meets its contract.
use native.Mathlib.Omega.{arith}
use lib.ListN.{length}
use Rattle.layout.proofs.Ranges.{table-high}
use Rattle.hash.proofs.Apart.{places-within}
use Rattle.filter.proofs.Held.{bits_inside}
use Rattle.found.proofs.Seen.{leads}
use Rattle.handing.proofs.Answers.{answer-new, answer-listed, answer-empty, answer-many, answer-taken}
use Rattle.handing.proofs.answer.Goals as goal

pub any_clear-requires : goal.any_clear-requires
any_clear-requires c =
    let p = c.args.p in (
      p.shape.ranged.kf-high,
      rw c.bits_of.ensures (bits_inside p.shape.sizes p.shape.ranged p.salt c.args.key.now (length c.args.filter.now) c.requires.2),
    )

pub returns-then-any_clear : goal.returns-then-any_clear
returns-then-any_clear c =
    answer-new _ _ _ _ _ _ _ _ _ c.args.p.shape.ranged c.bits_of.ensures c.any_clear.ensures c.if-any_clear.true

pub is_found-requires : goal.is_found-requires
is_found-requires c =
    let p = c.args.p in (
      λ i h. omega (
        arith,
        places-within p.shape.layout p.shape.sizes p.shape.lays p.shape.ranged p.salt c.args.key.now c.requires.0 i
            (omega (arith, p.shape.ranged.k-low)),
        table-high p.shape.layout p.shape.sizes p.shape.lays p.shape.ranged,
      ),
      c.requires.5,
      c.requires.4,
      c.requires.1,
      leads p.shape.layout p.shape.sizes p.salt c.args.n c.args.found.now.keys.now c.args.seen.now c.requires.6 c.args.key.now c.requires.0,
    )

pub returns-then-is_found : goal.returns-then-is_found
returns-then-is_found c =
    answer-listed _ _ _ _ _ _ _ _ _ c.args.p.shape.ranged c.bits_of.ensures c.any_clear.ensures c.if-any_clear.false
    c.is_found.ensures c.if-is_found.true

pub any_empty-requires : goal.any_empty-requires
any_empty-requires c =
    let p = c.args.p in (
      p.shape.ranged.k-high,
      λ i h. omega (
        arith,
        places-within p.shape.layout p.shape.sizes p.shape.lays p.shape.ranged p.salt c.args.key.now c.requires.0 i h,
        c.requires.3,
      ),
    )

pub returns-then-any_empty : goal.returns-then-any_empty
returns-then-any_empty c =
    answer-empty _ _ _ _ _ _ _ _ _ c.args.p.shape.ranged c.bits_of.ensures c.any_clear.ensures c.if-any_clear.false
    c.is_found.ensures c.if-is_found.false c.requires.0 c.any_empty.ensures c.if-any_empty.true

pub returns-then-handed-table_cells : goal.returns-then-handed-table_cells
returns-then-handed-table_cells c =
    answer-many _ _ _ _ _ _ _ _ _ c.args.p.shape.ranged c.bits_of.ensures c.any_clear.ensures c.if-any_clear.false
    c.is_found.ensures c.if-is_found.false c.requires.0 c.any_empty.ensures c.if-any_empty.false c.table_cells.ensures
    c.if-handed-table_cells.true

pub returns : goal.returns
returns c =
    answer-taken _ _ _ _ _ _ _ _ _ c.args.p.shape.ranged c.bits_of.ensures c.any_clear.ensures c.if-any_clear.false
    c.is_found.ensures c.if-is_found.false c.requires.0 c.any_empty.ensures c.if-any_empty.false c.table_cells.ensures
    c.if-handed-table_cells.false

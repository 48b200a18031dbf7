-- `hash::Placing::cells_of` meets its contract.
use Prim.Native.Nat.{ℕ, ◌<◌, ◌≤◌}
use lib.ListN.{get_or}
use native.Mathlib.Omega.{arith}
use Rattle.layout.proofs.Ranges.{part_low}
use Rattle.hash.specs.Places.{cell_role}
use Rattle.hash.proofs.Chain.{states-two, hashes_after}
use Rattle.hash.proofs.Apart.{cells-four, few, placed_below}
use Rattle.hash.proofs.Placing.cells_of.Goals as goal

module _ (c : goal.After-places) where
  most : c.part_cells-s.result ≤ 384
  most = few c.part_cells-s.ensures c.args.self.shape.lays c.args.self.shape.ranged

  small : (i : ℕ) → i < 4 → get_or c.places.result i 0 < c.part_cells-s.result
  small = placed_below 4 c.args.self.salt cell_role c.args.key.now c.part_cells-s.result
      (hashes_after 4 c.args.self.salt cell_role c.args.key.now (states-two c.args.self.salt c.args.self.salted).1 c.hashes.ensures) c.places.ensures
      (omega (arith, c.part_cells-s.ensures, part_low _ _ c.args.self.shape.lays c.args.self.shape.ranged))

pub overflow_cast-s : goal.overflow_cast-s
overflow_cast-s c = omega (arith, few c.part_cells-s.ensures c.args.self.shape.lays c.args.self.shape.ranged)

pub overflow_mul-result : goal.overflow_mul-result
overflow_mul-result c = omega (arith, few c.part_cells-s.ensures c.args.self.shape.lays c.args.self.shape.ranged)

pub overflow_mul-result-2 : goal.overflow_mul-result-2
overflow_mul-result-2 c = omega (arith, few c.part_cells-s.ensures c.args.self.shape.lays c.args.self.shape.ranged)

pub overflow_add-result : goal.overflow_add-result
overflow_add-result c = omega (arith, most c, small c 1 (omega arith))

pub overflow_add-result-2 : goal.overflow_add-result-2
overflow_add-result-2 c = omega (arith, most c, small c 2 (omega arith))

pub overflow_add-result-3 : goal.overflow_add-result-3
overflow_add-result-3 c = omega (arith, most c, small c 3 (omega arith))

pub returns : goal.returns
returns c =
    let a = c.args.self in
    cells-four a.shape.layout a.shape.sizes a.salt c.args.key.now c.part_cells-s.ensures
    (hashes_after 4 a.salt cell_role c.args.key.now (states-two a.salt a.salted).1 c.hashes.ensures) c.places.ensures

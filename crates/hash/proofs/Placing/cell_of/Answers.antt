-- `hash::Placing::cell_of` meets its contract.
use mathlib.Core.Path.{ap}
use Prim.Native.Nat.{◌+◌, ◌*◌}
use native.Mathlib.Nat.{mul-le-mul}
use native.Mathlib.Omega.{arith}
use Rattle.hash.specs.Places.{cell_role}
use Rattle.hash.proofs.Chain.{states-two, chain-after}
use Rattle.hash.proofs.Apart.{cell-chosen, few}
use Rattle.hash.proofs.Placing.cell_of.Goals as goal

pub overflow_mul-result : goal.overflow_mul-result
overflow_mul-result c =
    let p = mul-le-mul {n₁ = c.args.i} {m₁ = c.part_cells-s.result} {n₂ = 4} {m₂ = 384} (omega (arith, c.args.self.shape.ranged.k-high))
    (few c.part_cells-s.ensures c.args.self.shape.lays c.args.self.shape.ranged) in
    omega arith

pub overflow_cast-s : goal.overflow_cast-s
overflow_cast-s c = omega (arith, few c.part_cells-s.ensures c.args.self.shape.lays c.args.self.shape.ranged)

pub overflow_add-result : goal.overflow_add-result
overflow_add-result c =
    let p = mul-le-mul {n₁ = c.args.i} {m₁ = c.part_cells-s.result} {n₂ = 4} {m₂ = 384} (omega (arith, c.args.self.shape.ranged.k-high))
    (few c.part_cells-s.ensures c.args.self.shape.lays c.args.self.shape.ranged) in
    omega (arith, c.place.type_inv)

pub returns : goal.returns
returns c =
    let a = c.args.self in
    cell-chosen a.shape.layout a.shape.sizes a.salt c.args.i c.args.key.now c.part_cells-s.ensures
    (chain-after a.salt cell_role c.args.i c.args.key.now (states-two a.salt a.salted).1 c.byte.ensures c.bytes-f.ensures)
    (ap (λ x. c.args.i * c.part_cells-s.result + x) c.place.ensures)

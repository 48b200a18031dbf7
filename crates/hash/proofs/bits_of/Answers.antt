-- `hash::bits_of` meets its contract.
use native.Mathlib.Omega.{arith}
use Rattle.layout.proofs.Ranges.{filter-high}
use Rattle.hash.specs.Places.{filter_role}
use Rattle.hash.proofs.Chain.{states-two, hashes_after}
use Rattle.hash.proofs.Apart.{bits-few, bits-many}
use Rattle.hash.proofs.bits_of.Goals as goal

pub overflow_cast-n : goal.overflow_cast-n
overflow_cast-n c = omega (arith, c.filter_bits-n.ensures, filter-high c.args.z c.requires.0)

pub returns-then-z-le4 : goal.returns-then-z-le4
returns-then-z-le4 c =
    bits-few c.args.z c.args.salt c.args.key.now c.if-z-le4.true c.filter_bits-n.ensures
    (hashes_after 4 c.args.salt filter_role c.args.key.now (states-two c.args.salt c.requires.1).0 c.hashes.ensures) c.places.ensures

pub returns : goal.returns
returns c =
    bits-many c.args.z c.args.salt c.args.key.now c.if-z-le4.false c.filter_bits-n.ensures
    (hashes_after 8 c.args.salt filter_role c.args.key.now (states-two c.args.salt c.requires.1).0 c.hashes-2.ensures) c.places-2.ensures

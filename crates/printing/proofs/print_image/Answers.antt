-- The layout lays its keys and cells out, and the sizes that are read are in their ranges.
use mathlib.Core.Path.{sym, subst, ◌∙◌, ap}
use Rattle.layout.specs.Sizes.{Lays, Ranged}
use Rattle.layout.proofs.Ranges.{lays-ipv4}
use Rattle.printing.specs.Print.{sizes_read}
use Rattle.printing.proofs.Image.{sizes-ranged}
use Rattle.printing.proofs.print_image.Goals as goal

pub invariant_of-shape : goal.invariant_of-shape
invariant_of-shape c = record {
  lays = subst Lays (sym c.ipv4.ensures) lays-ipv4;
  ranged = subst Ranged (sym (c.sizes_read.ensures ∙ ap sizes_read c.read.ensures)) (sizes-ranged c.args.image.now c.args.slot);
}

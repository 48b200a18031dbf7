-- The sizes that four bytes give: kf, F, k and q, one each.
use Rattle.std.specs.Prelude.{List, ℕ, slice_index}
use Rattle.layout.specs.declared.Sizes.{Sizes}

abbrev pub sizes_in : List ℕ → Sizes
sizes_in bytes = record { kf = slice_index bytes 0; f = slice_index bytes 1; k = slice_index bytes 2; q = slice_index bytes 3 }

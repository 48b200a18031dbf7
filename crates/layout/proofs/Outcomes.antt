-- Any two outcomes that the contract of a public function allows are identical. The contracts are those of src/, as the checker reads them.
use mathlib.Core.Path.{refl, sym, ◌∙◌}
use Rattle.laws.specs.Outcomes.{Determined}
use Rattle.layout.proofs.ipv4.Kinds as ipv4-kinds
use Rattle.layout.proofs.ipv4.Reads as ipv4
use Rattle.layout.proofs.in_range.Kinds as in-range-kinds
use Rattle.layout.proofs.in_range.Reads as in-range
use Rattle.layout.proofs.Sizes.filter_bits.Kinds as sizes-filter-bits-kinds
use Rattle.layout.proofs.Sizes.filter_bits.Reads as sizes-filter-bits
use Rattle.layout.proofs.Sizes.filter_bytes.Kinds as sizes-filter-bytes-kinds
use Rattle.layout.proofs.Sizes.filter_bytes.Reads as sizes-filter-bytes
use Rattle.layout.proofs.Sizes.block_count.Kinds as sizes-block-count-kinds
use Rattle.layout.proofs.Sizes.block_count.Reads as sizes-block-count
use Rattle.layout.proofs.Shape.part_cells.Kinds as part-cells-kinds
use Rattle.layout.proofs.Shape.part_cells.Reads as part-cells
use Rattle.layout.proofs.Shape.table_cells.Kinds as table-cells-kinds
use Rattle.layout.proofs.Shape.table_cells.Reads as table-cells
use Rattle.layout.proofs.Shape.cell_bytes.Kinds as cell-bytes-kinds
use Rattle.layout.proofs.Shape.cell_bytes.Reads as cell-bytes
use Rattle.layout.proofs.Shape.filter_bits.Kinds as filter-bits-kinds
use Rattle.layout.proofs.Shape.filter_bits.Reads as filter-bits
use Rattle.layout.proofs.Shape.filter_bytes.Kinds as filter-bytes-kinds
use Rattle.layout.proofs.Shape.filter_bytes.Reads as filter-bytes
use Rattle.layout.proofs.Shape.block_count.Kinds as block-count-kinds
use Rattle.layout.proofs.Shape.block_count.Reads as block-count

pub ipv4-determined : Determined _ ipv4-kinds.ps ipv4-kinds.r ipv4.Asked ipv4.Learnt
ipv4-determined κs a p z z' ws ws' e e' = (e ∙ sym e', refl)

pub in-range-determined : Determined _ in-range-kinds.ps in-range-kinds.r in-range.Asked in-range.Learnt
in-range-determined κs a p z z' ws ws' e e' = (e ∙ sym e', refl)

pub part-cells-determined : Determined _ part-cells-kinds.ps part-cells-kinds.r part-cells.Asked part-cells.Learnt
part-cells-determined κs a p z z' ws ws' e e' = (e ∙ sym e', refl)

pub table-cells-determined : Determined _ table-cells-kinds.ps table-cells-kinds.r table-cells.Asked table-cells.Learnt
table-cells-determined κs a p z z' ws ws' e e' = (e ∙ sym e', refl)

pub cell-bytes-determined : Determined _ cell-bytes-kinds.ps cell-bytes-kinds.r cell-bytes.Asked cell-bytes.Learnt
cell-bytes-determined κs a p z z' ws ws' e e' = (e ∙ sym e', refl)

pub filter-bits-determined : Determined _ filter-bits-kinds.ps filter-bits-kinds.r filter-bits.Asked filter-bits.Learnt
filter-bits-determined κs a p z z' ws ws' e e' = (e ∙ sym e', refl)

pub filter-bytes-determined : Determined _ filter-bytes-kinds.ps filter-bytes-kinds.r filter-bytes.Asked filter-bytes.Learnt
filter-bytes-determined κs a p z z' ws ws' e e' = (e ∙ sym e', refl)

pub block-count-determined : Determined _ block-count-kinds.ps block-count-kinds.r block-count.Asked block-count.Learnt
block-count-determined κs a p z z' ws ws' e e' = (e ∙ sym e', refl)

pub sizes-filter-bits-determined : Determined _ sizes-filter-bits-kinds.ps sizes-filter-bits-kinds.r sizes-filter-bits.Asked sizes-filter-bits.Learnt
sizes-filter-bits-determined κs a p z z' ws ws' e e' = (e ∙ sym e', refl)

pub sizes-filter-bytes-determined : Determined _ sizes-filter-bytes-kinds.ps sizes-filter-bytes-kinds.r sizes-filter-bytes.Asked sizes-filter-bytes.Learnt
sizes-filter-bytes-determined κs a p z z' ws ws' e e' = (e ∙ sym e', refl)

pub sizes-block-count-determined : Determined _ sizes-block-count-kinds.ps sizes-block-count-kinds.r sizes-block-count.Asked sizes-block-count.Learnt
sizes-block-count-determined κs a p z z' ws ws' e e' = (e ∙ sym e', refl)

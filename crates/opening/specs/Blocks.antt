-- The loops of opening: the cells of one block written into the cells' slices.
use Rattle.std.specs.Prelude.{List, ℕ, ◌+◌, ◌*◌, set}
use Rattle.std.proofs.lemmas.List.Edits.{sets}
use Rattle.laws.specs.Upto.{each_upto}
use Rattle.layout.specs.declared.Layout.{Layout}
use Rattle.cell.specs.Cell.{flow_xor_at, flow_count_at, packet_count_at}

-- the three slices that hold cells
pub record Fields : Type 0 where
  pub xors : List ℕ
  pub flows : List ℕ
  pub packets : List ℕ

abbrev pub fields : List ℕ → List ℕ → List ℕ → Fields
fields xors flows packets = record { xors = xors; flows = flows; packets = packets }

-- cell d of a payload written as cell `first + d`
unfoldable pub copied_cell : Layout → List ℕ → ℕ → ℕ → Fields → Fields
copied_cell l payload first d f = fields
    (sets f.xors ((first + d) * l.key) (flow_xor_at l payload d))
    (set f.flows (first + d) (flow_count_at l payload d))
    (set f.packets (first + d) (packet_count_at l payload d))

-- all cells of a payload, the first of them written as cell `first`
unfoldable pub copied_block : Layout → List ℕ → ℕ → Fields → Fields
copied_block l payload first f = each_upto l.cells (copied_cell l payload first) f

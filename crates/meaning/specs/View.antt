-- Working memory seen as the theory's table, placement and switch.
use Rattle.std.specs.Prelude.{cond, not, List, ℕ, ltb}
use Rattle.layout.specs.declared.Layout.{Layout}
use Rattle.layout.specs.declared.Sizes.{Sizes}
use Rattle.layout.specs.Sizes.{table_cells}
use Rattle.hash.specs.Places.{has_cell}
use Rattle.filter.specs.Filter.{is_new}
use Rattle.cell.specs.Cell.{flow_xor_at, flow_count_at, packet_count_at}
use Rattle.theory.specs.Encode.{Cell, Table, Placement, empty_table}
use Rattle.theory.specs.HandOver.{Switch}

-- 01 'Blocks of 512 bytes': "FlowXOR 13, zero 1, FlowCount 2, PacketCount 4": the fields of cell c
unfoldable pub cell_at : Layout → List ℕ → ℕ → Cell
cell_at l cells c = record {
  flow_xor = flow_xor_at l cells c;
  flow_count = flow_count_at l cells c;
  packet_count = packet_count_at l cells c;
}

-- 01 'Keys and hashing': "There are N = k × s cells": the bytes as a table, empty from cell N on
unfoldable pub table_of : Layout → Sizes → List ℕ → Table
table_of l z cells c = cond (ltb c (table_cells l z)) (cell_at l cells c) (empty_table l.key c)

-- 01 'Keys and hashing': "a flow's k cells": where keys are placed
abbrev pub placement_of : Layout → Sizes → ℕ → Placement
placement_of l z salt = has_cell l z salt

-- 01 'A session': "9 not in the received filter": the switch of which these sizes, this salt and this filter are received
abbrev pub switch_of : Layout → Sizes → ℕ → List ℕ → Switch
switch_of l z salt filter = record { size = table_cells l z; has = placement_of l z salt; passes = λ k. not (is_new z salt filter k) }

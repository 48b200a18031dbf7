-- The fields of a cell in bytes, and what a packet does to them: 01 'Blocks of 512 bytes', "cells of 20 bytes: FlowXOR 13, zero 1, ..", and 'Taking packets'.
use Rattle.std.specs.Prelude.{ℕ, ◌+◌, ◌*◌, ◌≤◌, Bool, cond, List, take, drop}
use Rattle.std.proofs.lemmas.List.Edits.{sets}
use Rattle.laws.specs.Xor.{xor_bytes}
use Rattle.layout.specs.declared.Layout.{Layout}
use Rattle.fields.specs.Field.{field, with_field}

-- cell c lies in so many bytes
abbrev pub InTable : Layout → ℕ → ℕ → Type 0
InTable l bytes c = c * l.cell + l.cell ≤ bytes

-- 01 'Blocks of 512 bytes': "FlowXOR 13, zero 1, FlowCount 2, PacketCount 4": where each begins
abbrev pub flow_count_place : Layout → ℕ → ℕ
flow_count_place l c = c * l.cell + l.key + 1

abbrev pub packet_count_place : Layout → ℕ → ℕ
packet_count_place l c = c * l.cell + l.key + 3

unfoldable pub flow_xor_at : Layout → List ℕ → ℕ → List ℕ
flow_xor_at l cells c = take l.key (drop (c * l.cell) cells)

unfoldable pub flow_count_at : Layout → List ℕ → ℕ → ℕ
flow_count_at l cells c = field 2 cells (flow_count_place l c)

unfoldable pub packet_count_at : Layout → List ℕ → ℕ → ℕ
packet_count_at l cells c = field 4 cells (packet_count_place l c)

-- 01 'Taking packets': "XORs its key into FlowXOR"
unfoldable pub with_key : Layout → List ℕ → ℕ → List ℕ → List ℕ
with_key l cells c key = sets cells (c * l.cell) (xor_bytes (flow_xor_at l cells c) key)

-- 01 'Taking packets': "adds 1 to FlowCount (16 bits)"
unfoldable pub add_flow : Layout → List ℕ → ℕ → List ℕ
add_flow l cells c = with_field 2 cells (flow_count_place l c) (flow_count_at l cells c + 1)

-- 01 'Taking packets': "Every packet adds 1 to PacketCount (32 bits)"
unfoldable pub add_packet : Layout → List ℕ → ℕ → List ℕ
add_packet l cells c = with_field 4 cells (packet_count_place l c) (packet_count_at l cells c + 1)

-- a packet in one of its flow's cells
unfoldable pub take_at_place : Layout → Bool → List ℕ → ℕ → List ℕ → List ℕ
take_at_place l new key c cells = add_packet l (cond new (add_flow l (with_key l cells c key) c) cells) c

-- The parts of the largest room that an image asks for.
use mathlib.Core.Path.{◌≡◌, sym, ap, subst, ◌∙◌}
use mathlib.Core.List.{List}
use Prim.Native.Nat.{ℕ, ◌+◌, ◌*◌, ◌/◌, ◌≤◌}
use native.Mathlib.Omega.{arith}
use lib.ListN.{take}
use lib.Seq.{length-take-le}
use Rattle.layout.specs.declared.Sizes.{Sizes}
use Rattle.layout.specs.Sizes.{Ranged, ipv4_layout, table_cells, filter_bytes}
use Rattle.layout.proofs.Ranges.{lays-ipv4}
use Rattle.reading.specs.Read.{read_of}
use Rattle.list.specs.Records.{records}
use Rattle.table.specs.Table.{tab}
use Rattle.room.specs.Memory.{Memory, memory, Rooms}
use Rattle.printing.specs.Print.{sizes_read, Largest}
use Rattle.printing.proofs.Image.{sizes-ranged}

-- the first parts of each list, for so many bytes of filter and so many cells
abbrev pub first_of : ℕ → ℕ → Memory → Memory
first_of bytes cells m =
    let t = m.table in
    let rs = m.list in
    memory (take bytes m.filter)
    (tab (take (cells * 13) t.xors) (take cells t.flows) (take cells t.unknowns) (take cells t.positions)
    (take ((cells + 63) / 64) t.marks))
    (take cells m.packets)
    (records (take (2 * cells * 13) rs.keys) (take (2 * cells) rs.counts) (take (2 * cells) rs.flags))

module _ (image : List ℕ) (slot : ℕ) {z : Sizes} (e : z ≡ sizes_read (read_of ipv4_layout image slot)) where
  pub ranged-read : Ranged z
  ranged-read = subst Ranged (sym e) (sizes-ranged image slot)

  -- they are the room that the image asks for
  pub parts-fit : {bytes cells : ℕ} (m : Memory) → bytes ≡ filter_bytes z → bytes ≤ 7680 → cells ≡ table_cells ipv4_layout z → cells ≤ 1536 → Largest m
      → Rooms ipv4_layout (sizes_read (read_of ipv4_layout image slot)) (first_of bytes cells m)
  parts-fit {bytes} {cells} m b few n h g =
      let t = m.table in
      let rs = m.list in
      subst (λ (y : Sizes). Rooms ipv4_layout y (first_of bytes cells m)) e
      (record {
        filter-fits = length-take-le bytes m.filter (omega (arith, g.filter)) ∙ b;
        packets-fit = length-take-le cells m.packets (omega (arith, g.packets)) ∙ n;
        table = record {
          lays = lays-ipv4;
          ranged = ranged-read;
          xors-fit = length-take-le (cells * 13) t.xors (omega (arith, g.xors)) ∙ ap (λ (x : ℕ). x * 13) n;
          flows-fit = length-take-le cells t.flows (omega (arith, g.flows)) ∙ n;
          unknowns-fit = length-take-le cells t.unknowns (omega (arith, g.unknowns)) ∙ n;
          positions-fit = length-take-le cells t.positions (omega (arith, g.positions)) ∙ n;
          marks-fit = length-take-le ((cells + 63) / 64) t.marks (omega (arith, g.marks)) ∙ ap (λ (x : ℕ). (x + 63) / 64) n;
        };
        room = record {
          keys-fit = length-take-le (2 * cells * 13) rs.keys (omega (arith, g.keys)) ∙ ap (λ (x : ℕ). 2 * x * 13) n;
          counts-fit = length-take-le (2 * cells) rs.counts (omega (arith, g.counts)) ∙ ap (λ (x : ℕ). 2 * x) n;
          flags-fit = length-take-le (2 * cells) rs.flags (omega (arith, g.flags)) ∙ ap (λ (x : ℕ). 2 * x) n;
        };
      })

-- A session just opened is the theory's session of the cells that the image holds, and passes the test.
use mathlib.Core.Path.{◌≡◌, refl, ap, fun_ext}
use mathlib.Core.List.{List}
use Prim.Native.Nat.{ℕ}
use native.Mathlib.Omega.{arith}
use native.Mathlib.Decide.{dec_lt}
use borrow.Author.Tests.{lt-ltb, le-ltb}
use lib.ListN.{length}
use Rattle.laws.proofs.Rows.{join-part}
use Rattle.laws.proofs.Upto.{list_at}
use Rattle.layout.specs.declared.Layout.{Layout}
use Rattle.layout.specs.declared.Sizes.{Sizes}
use Rattle.layout.specs.Sizes.{Lays, table_cells, cell_bytes}
use Rattle.cell.specs.Cell.{flow_xor_at, flow_count_at, packet_count_at}
use Rattle.list.specs.Records.{key_at}
use Rattle.reading.specs.Read.{cells_in, filter_in}
use Rattle.opening.proofs.Copies.{xor-long}
use Rattle.opening.specs.Open.{xors_in, flows_in, packets_in, opened_memory}
use Rattle.theory.specs.Session.{opened}
use Rattle.meaning.specs.View.{cell_at, table_of, switch_of}
use Rattle.link.specs.View.{cell, cells_of, below}
use Rattle.demands.specs.Calls.{live, viewed, switch_at}

cell-fields : {a x : List ℕ} {f g p q : ℕ} → a ≡ x → f ≡ g → p ≡ q → cell a f p ≡ cell x g q
cell-fields a f p = λ i. cell (a i) (f i) (p i)

module _ (l : Layout) (z : Sizes) (lays : Lays l) (image : List ℕ) (whole : length (cells_in l z image) ≡ cell_bytes l z) where
  abbrev cells : List ℕ
  cells = cells_in l z image

  -- the slices hold the image's cells
  pub cells-seen : cells_of l z (xors_in l z image) (flows_in l z image) (packets_in l z image) ≡ table_of l z cells
  unfolding cells_of below table_of cell_at cell_bytes
  cells-seen = fun_ext (λ c. elim (dec_lt c (table_cells l z)) [
    | no h ↦ rw (le-ltb c (table_cells l z) (omega arith))
    | yes h ↦ rw (lt-ltb c (table_cells l z) h) (cell-fields
        (unfold xors_in key_at in join-part (table_cells l z) l.key (flow_xor_at l cells) (xor-long l lays (table_cells l z) cells whole) c h)
        (unfold flows_in in list_at (table_cells l z) (flow_count_at l cells) 0 c h)
        (unfold packets_in in list_at (table_cells l z) (packet_count_at l cells) 0 c h))
  ])

  module _ (salt slot : ℕ) where
    -- Theorem: what is seen of a session just opened: the image's cells, and no flow listed
    pub opened-viewed : viewed l (live (record { sizes = z; salt = salt; slot = slot; listed = 0 }) (opened_memory l z salt image)) ≡ opened (table_of l z cells)
    unfolding opened_memory Rattle.laws.specs.Upto.list_upto
    opened-viewed = ap opened cells-seen

    pub opened-switch : switch_at l (live (record { sizes = z; salt = salt; slot = slot; listed = 0 }) (opened_memory l z salt image))
        ≡ switch_of l z salt (filter_in z image)
    unfolding opened_memory
    opened-switch = refl

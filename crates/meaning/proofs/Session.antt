-- From working memory to a session: opened on these cells, it is the theory's session of the flows taken.
use mathlib.Core.Path.{◌≡◌, ap}
use mathlib.Core.Bool.{not}
use mathlib.Core.List.{List}
use Prim.Native.Nat.{ℕ, ◌<◌}
use native.Mathlib.Omega.{arith}
use Rattle.laws.proofs.Upto.{any-yes}
use Rattle.layout.specs.declared.Layout.{Layout}
use Rattle.layout.specs.declared.Sizes.{Sizes}
use Rattle.layout.specs.Sizes.{Lays, Ranged, table_cells}
use Rattle.hash.specs.Places.{cell_of, has_cell}
use Rattle.hash.proofs.Apart.{cell-within, has-own, has_within}
use Rattle.theory.specs.Encode.{Taken, flows_of, packets_of, NeverMistaken}
use Rattle.theory.specs.Session.{opened}
use Rattle.theory.specs.HandOver.{Switch}
use Rattle.theory.specs.Invariant.{Placed, Counted, received}
use Rattle.theory.specs.Exchange.{PassesOwn}
use Rattle.meaning.specs.View.{table_of, placement_of, switch_of}
use Rattle.meaning.specs.Meaning.{Memory, Means}

module _ (l : Layout) (z : Sizes) (lays : Lays l) (r : Ranged z) (salt : ℕ) where
  -- every key has a cell, and its cells are below N
  pub cells-placed : Placed (table_cells l z) (placement_of l z salt)
  cells-placed = record {
    within = has_within l z lays r salt;
    somewhere = λ k.
        let first : 0 < z.k = omega arith in
        any-yes (table_cells l z) (has_cell l z salt k) (cell_of l z salt k 0)
        (cell-within l z lays r salt k 0 first) (has-own l z lays r salt k 0 first);
  }

  module _ (m : Memory) (taken : List Taken) (means : Means l z salt m taken) where
    abbrev switch : Switch
    switch = switch_of l z salt m.filter

    -- the flows taken, each with its packets, as the flows that this switch counted
    abbrev pub counted_here : Counted switch
    counted_here = record { placed = cells-placed; key_length = l.key; flows = flows_of taken; packets = packets_of taken; flowset = means.flowset }

    -- Theorem: they pass its filter
    pub passes-own : PassesOwn switch counted_here
    passes-own k h = ap not (means.counted-bits k h)

    module _ (clean : NeverMistaken taken) where
      -- Theorem: the session opened on the cells is that of the flows taken
      pub memory-received : opened (table_of l z m.cells) ≡ received switch counted_here
      memory-received = ap opened (means.clean-memory clean)

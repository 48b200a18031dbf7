-- Sealing as it answers: the image is left where it answers `Ok`, and nothing is written where it answers anything else.
use mathlib.Core.Path.{◌≡◌, refl, sym, ap, ◌∙◌}
use mathlib.Core.Bool.{Bool, true, false, not, cond}
use mathlib.Core.List.{List}
use Prim.Native.Nat.{ℕ, ◌<◌}
use native.Mathlib.Omega.{arith}
use lib.ListN.{length}
use Rattle.layout.specs.declared.Layout.{Layout}
use Rattle.layout.specs.declared.Sizes.{Sizes}
use Rattle.layout.specs.Sizes.{in_range, table_cells}
use Rattle.layout.proofs.Ranges.{ranged}
use Rattle.block.specs.Block.{image_of, zero_bytes}
use Rattle.std.proofs.Common.{Ok, Err}
use Rattle.sealing.specs.declared.SealError.{SealError}
use Rattle.sealing.specs.declared.SealError.TheVariants.{BadSizes, BadRoom, BadZero}
use Rattle.sealing.specs.Seal.{seal_rooms, Sealable, Sealing, sealing, seal_of, seal_number}
use Rattle.sealing.proofs.Stores.{rooms}

went_on : (t : Bool) (bad : SealError) (image : List ℕ) (good : Sealing) → (cond (not t) (sealing (Err bad) image) good).answer ≡ Ok tt
    → (t ≡ true) × (cond (not t) (sealing (Err bad) image) good ≡ good)
went_on true bad image good e = (refl, refl)
went_on false bad image good e = cc

-- where sealing answers `Ok`, this could be sealed, and the image is left
pub seal-done : (l : Layout) (z : Sizes) (salt slot : ℕ) (filter cells image : List ℕ) → (seal_of l z salt slot filter cells image).answer ≡ Ok tt
    → Sealable l z filter cells × ((seal_of l z salt slot filter cells image).image ≡ image_of l z salt slot filter cells)
unfolding seal_of
seal-done l z salt slot filter cells image e =
    let one = went_on (in_range z) BadSizes image _ e in
    let after_one = ap (λ s. s.answer) (sym one.1) ∙ e in
    let two = went_on (seal_rooms l z (length filter) (length cells) (length image)) BadRoom image _ after_one in
    let after_two = ap (λ s. s.answer) (sym two.1) ∙ after_one in
    let three = went_on (zero_bytes l (table_cells l z) cells) BadZero image _ after_two in
    let r = rooms l z (length filter) (length cells) (length image) two.0 in (
      record { sizes = ranged z one.0; filter-length = r.0; cells-length = r.1; zeros = three.0 },
      ap (λ s. s.image) (one.1 ∙ two.1 ∙ three.1),
    )

-- and where it answers anything else, nothing is written
pub seal-kept : (l : Layout) (z : Sizes) (salt slot : ℕ) (filter cells image : List ℕ)
    → 0 < seal_number (seal_of l z salt slot filter cells image).answer
    → (seal_of l z salt slot filter cells image).image ≡ image
unfolding seal_of
seal-kept l z salt slot filter cells image h =
    kept (in_range z) BadSizes image _
    (kept (seal_rooms l z (length filter) (length cells) (length image)) BadRoom image _
    (kept (zero_bytes l (table_cells l z) cells) BadZero image _ (λ q. absurd (omega arith)))) h
  where
    kept : (t : Bool) (bad : SealError) (s : List ℕ) (good : Sealing) → (0 < seal_number good.answer → good.image ≡ s)
        → 0 < seal_number (cond (not t) (sealing (Err bad) s) good).answer → (cond (not t) (sealing (Err bad) s) good).image ≡ s
    kept true bad s good g q = g q
    kept false bad s good g q = refl

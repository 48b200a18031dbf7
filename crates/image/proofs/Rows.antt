-- Cells in blocks: the zero byte of every cell, block by block, and payloads that the cells leave partly unused.
use mathlib.Core.Path.{◌≡◌, sym, ap, ◌∙◌}
use mathlib.Core.Bool.{true}
use mathlib.Core.List.{List, ◌++◌}
use Prim.Native.Nat.{ℕ, ◌+◌, ◌-◌, ◌*◌, ◌≤◌, ◌<◌}
use native.Mathlib.Omega.{arith}
use lib.Dec.{eqb}
use lib.ListN.{length, get_or, take, drop, replicate, length-drop, take-append-drop}
use lib.Seq.{take_at, drop_at, get_or-take, length-take-le}
use Rattle.laws.specs.Upto.{all_upto, join_upto}
use Rattle.laws.proofs.Bools.{and_i}
use Rattle.laws.proofs.Upto.{all_same}
use Rattle.layout.specs.declared.Layout.{Layout}
use Rattle.layout.specs.declared.Sizes.{Sizes}
use Rattle.layout.specs.Sizes.{Lays, table_cells}
use Rattle.laws.specs.Zeros.{all_zero}
use Rattle.laws.proofs.Zeros.{zero_is, zeros-zero}
use Rattle.block.specs.Block.{padded, zero_bytes}
use Rattle.form.specs.Form.{cells_formed}
use Rattle.block.proofs.Cells.{table-rows, byte-place}
use Rattle.laws.proofs.Rows.{row_within, all-rows, join-at}

-- a payload is the part that is used, padded
pub padded-back : (w : ℕ) (part : List ℕ) → length part ≡ w → take w (padded part) ≡ part
unfolding padded
padded-back w part h = take_at part (replicate (480 - length part) 0) w h

drop-padded : (w : ℕ) (part : List ℕ) → length part ≡ w → drop w (padded part) ≡ replicate (480 - length part) 0
unfolding padded
drop-padded w part h = drop_at part (replicate (480 - length part) 0) w h

pub padded-only : (w : ℕ) (payload : List ℕ) → w ≤ 480 → length payload ≡ 480 → all_zero (drop w payload) ≡ true → payload ≡ padded (take w payload)
unfolding padded
padded-only w payload h p zeros =
    let k = length-take-le w payload (omega arith) in
    let rest : length (drop w payload) ≡ 480 - length (take w payload) = rw (length-drop, k) (omega arith) in
    sym (take-append-drop w payload) ∙ ap (λ s. take w payload ++ s) (zero_is (drop w payload) zeros ∙ ap (λ n. replicate n 0) rest)

module _ (l : Layout) (lays : Lays l) where
  -- the zero byte of cell c lies in the cells
  zero-within : (c : ℕ) → c < l.cells → c * l.cell + l.key < l.cells * l.cell
  zero-within c h = omega (arith, lays.key_fits, row_within c l.cells l.cell h)

  -- and so in the part of a payload that is used
  pub zero-take : (s : List ℕ) → zero_bytes l l.cells (take (l.cells * l.cell) s) ≡ zero_bytes l l.cells s
  unfolding zero_bytes
  zero-take s = all_same l.cells _ _ (λ c h. ap (λ x. eqb x 0) (get_or-take (l.cells * l.cell) s (c * l.cell + l.key) 0 (zero-within c h)))

  pub cells-back : (part : List ℕ) → length part ≡ l.cells * l.cell → zero_bytes l l.cells part ≡ true → cells_formed l (padded part) ≡ true
  unfolding cells_formed
  cells-back part h zeros =
      and_i (zero_bytes l l.cells (padded part)) (all_zero (drop (l.cells * l.cell) (padded part)))
      (sym (zero-take (padded part)) ∙ ap (zero_bytes l l.cells) (padded-back (l.cells * l.cell) part h) ∙ zeros)
      (ap all_zero (drop-padded (l.cells * l.cell) part h) ∙ zeros-zero (480 - length part))

  -- the zero bytes of the table are those of its blocks
  pub zero-blocks : (z : Sizes) (f : ℕ → List ℕ) → ((m : ℕ) → m < z.k * z.q → length (f m) ≡ l.cells * l.cell)
      → zero_bytes l (table_cells l z) (join_upto (z.k * z.q) f) ≡ all_upto (z.k * z.q) (λ m. zero_bytes l l.cells (f m))
  unfolding zero_bytes
  zero-blocks z f h =
      let all = join_upto (z.k * z.q) f in
      ap (λ n. all_upto n (λ c. eqb (get_or all (c * l.cell + l.key) 0) 0)) (table-rows l z)
      ∙ all-rows (z.k * z.q) l.cells (λ c. eqb (get_or all (c * l.cell + l.key) 0) 0)
      ∙ all_same (z.k * z.q) _ _ (λ m p. all_same l.cells _ _ (λ c q.
      ap (λ x. eqb x 0)
      (ap (λ i. get_or all i 0) (byte-place l m c l.key)
      ∙ join-at (z.k * z.q) (l.cells * l.cell) f 0 h m (c * l.cell + l.key) p (zero-within c q))))

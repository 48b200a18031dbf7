-- What reading answers, one law for each place where it returns.
use mathlib.Core.Path.{◌≡◌, sym}
use mathlib.Core.Bool.{true, false, not, cond, ◌&&◌}
use mathlib.Core.List.{List}
use Prim.Native.Nat.{ℕ, suc, ◌+◌, ◌-◌, ◌*◌, ◌≤◌, ◌<◌, ◌%◌}
use native.Mathlib.Numerals.{add-one}
use native.Mathlib.Omega.{arith}
use borrow.Author.Tests.{eqb-true, eqb-false, eq-eqb, ne_eqb}
use lib.Dec.{eqb, ltb}
use lib.ListN.{length, take, drop}
use Rattle.laws.proofs.Bools.{or-fl, or-fr, not_f}
use Rattle.layout.specs.declared.Layout.{Layout}
use Rattle.layout.specs.declared.Sizes.{Sizes}
use Rattle.layout.specs.Sizes.{in_range, blocks}
use Rattle.fields.specs.Field.{field}
use Rattle.std.proofs.Common.{Err}
use Rattle.reading.specs.declared.ReadError.TheVariants.{Length, Check, Form, Mixed, Stale}
use Rattle.block.specs.Block.{block_at}
use Rattle.form.specs.Form.{sizes_in, formed}
use Rattle.reading.specs.Read.{bad_length, checks, image_with, read_later, read_of}

-- the code's way to lend block n
pub block-is : (n : ℕ) (image : List ℕ) → take (n * 512 + 512 - n * 512) (drop (n * 512) image) ≡ block_at image n
block-is n image = let e : n * 512 + 512 - n * 512 ≡ 512 = omega arith in rw e

-- an image of a good length has a block
pub one_block : (n : ℕ) → bad_length n ≡ false → 512 ≤ n
unfolding bad_length
one_block n p =
    let some : n ≡ 0 → ⊥ = eqb-false n 0 (or-fl (eqb n 0) _ p) in
    let whole : n % 512 ≡ 0 = eqb-true (n % 512) 0 (not_f (eqb (n % 512) 0) (or-fl (not (eqb (n % 512) 0)) (ltb 40960 n) (or-fr (eqb n 0) _ p))) in
    let d = native.Mathlib.Nat.div-add-mod' n 512 in
    elim (native.Mathlib.Decide.ℕ_discrete n 0) [ yes e ↦ absurd (some e) | no e ↦ omega arith ]

-- ---- the blocks after block 0: block n is b
module _ (l : Layout) (z : Sizes) (salt slot : ℕ) (image : List ℕ) (n m : ℕ) (more : n < m) {b : List ℕ} (is : b ≡ block_at image n) where
  later-step : read_later l z salt slot image n (m - n)
      ≡ cond (not (checks b)) (Err (Check n))
      (cond (not (formed l z n b)) (Err (Form n))
      (cond (not (eqb (field 4 b 8) salt && eqb (field 4 b 12) slot)) (Err (Mixed n))
      (read_later l z salt slot image (n + 1) (m - (n + 1)))))
  unfolding read_later
  later-step = let e : m - n ≡ suc (m - (n + 1)) = omega arith in rw (e, is, add-one)

  pub later-check : checks b ≡ false → Err (Check n) ≡ read_later l z salt slot image n (m - n)
  later-check p = sym (rw (later-step, p))

  module _ (good : checks b ≡ true) where
    pub later-form : formed l z n b ≡ false → Err (Form n) ≡ read_later l z salt slot image n (m - n)
    later-form p = sym (rw (later-step, good, p))

    module _ (form : formed l z n b ≡ true) where
      pub later-salt : (field 4 b 8 ≡ salt → ⊥) → Err (Mixed n) ≡ read_later l z salt slot image n (m - n)
      later-salt p = sym (rw (later-step, good, form, ne_eqb _ _ p))

      pub later-slot : field 4 b 8 ≡ salt → (field 4 b 12 ≡ slot → ⊥) → Err (Mixed n) ≡ read_later l z salt slot image n (m - n)
      later-slot p q = sym (rw (later-step, good, form, eq-eqb _ _ p, ne_eqb _ _ q))

      pub later-on : field 4 b 8 ≡ salt → field 4 b 12 ≡ slot
          → read_later l z salt slot image (n + 1) (m - (n + 1)) ≡ read_later l z salt slot image n (m - n)
      later-on p q = sym (rw (later-step, good, form, eq-eqb _ _ p, eq-eqb _ _ q))

pub later-end : (l : Layout) (z : Sizes) (salt slot : ℕ) (image : List ℕ) (n m : ℕ) → m ≤ n → image_with z salt ≡ read_later l z salt slot image n (m - n)
unfolding read_later
later-end l z salt slot image n m h = let e : m - n ≡ 0 = omega arith in rw e

-- ---- block 0, which gives the sizes z
module _ (l : Layout) (image : List ℕ) (wanted : ℕ) where
  pub read_length : bad_length (length image) ≡ true → Err Length ≡ read_of l image wanted
  unfolding read_of
  read_length p = rw p

  module _ (len : bad_length (length image) ≡ false) where
    pub read-check : checks (block_at image 0) ≡ false → Err (Check 0) ≡ read_of l image wanted
    unfolding read_of
    read-check p = rw (len, p)

    module _ (good : checks (block_at image 0) ≡ true) {z : Sizes} (e : z ≡ sizes_in (block_at image 0)) where
      pub read-range : in_range z ≡ false → Err (Form 0) ≡ read_of l image wanted
      unfolding read_of
      read-range p = rw (len, good, ← e, p)

      module _ (range : in_range z ≡ true) where
        pub read-form : formed l z 0 (block_at image 0) ≡ false → Err (Form 0) ≡ read_of l image wanted
        unfolding read_of
        read-form p = rw (len, good, ← e, range, p)

        module _ (form : formed l z 0 (block_at image 0) ≡ true) where
          pub read_short : (length image ≡ blocks z * 512 → ⊥) → Err Length ≡ read_of l image wanted
          unfolding read_of
          read_short p = rw (len, good, ← e, range, form, ne_eqb _ _ p)

          module _ (whole : length image ≡ blocks z * 512) where
            pub read-stale : (field 4 (block_at image 0) 12 ≡ wanted → ⊥) → Err Stale ≡ read_of l image wanted
            unfolding read_of
            read-stale p = rw (len, good, ← e, range, form, eq-eqb _ _ whole, ne_eqb _ _ p)

            pub read-on : field 4 (block_at image 0) 12 ≡ wanted
                → read_later l z (field 4 (block_at image 0) 8) wanted image 1 (blocks z - 1) ≡ read_of l image wanted
            unfolding read_of
            read-on p = rw (len, good, ← e, range, form, eq-eqb _ _ whole, eq-eqb _ _ p)

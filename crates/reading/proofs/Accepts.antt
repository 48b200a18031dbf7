-- Reading answers with an image's sizes and salt exactly when every block passes its tests.
use mathlib.Core.Path.{◌≡◌, refl, sym, ap, ◌∙◌, subst}
use mathlib.Core.Bool.{Bool, true, false, not, cond, ◌&&◌}
use mathlib.Core.List.{List}
use Prim.Native.Nat.{ℕ, zero, suc, ◌+◌, ◌-◌, ◌*◌, ◌%◌, ◌≤◌, ◌<◌}
use native.Mathlib.Omega.{arith}
use borrow.Author.Tests.{eqb-true, eq-eqb, ne_eqb, le-ltb}
use lib.Dec.{eqb}
use lib.ListN.{length}
use Rattle.laws.proofs.Bools.{and_l, and_r, not_f}
use Rattle.layout.specs.declared.Layout.{Layout}
use Rattle.layout.specs.declared.Sizes.{Sizes}
use Rattle.layout.specs.Sizes.{Ranged, in_range, blocks}
use Rattle.layout.proofs.Ranges.{ranged, range-test, blocks-high}
use Rattle.fields.specs.Field.{field}
use Rattle.std.proofs.Common.{Result, Err}
use Rattle.reading.specs.declared.Image.{Image}
use Rattle.reading.specs.declared.ReadError.{ReadError}
use Rattle.reading.specs.declared.ReadError.TheVariants.{Length, Check, Form, Mixed, Stale}
use Rattle.block.specs.Block.{block_at}
use Rattle.form.specs.Form.{sizes_in, formed}
use Rattle.reading.specs.Read.{bad_length, checks, image_with, read_later, read_of}
use Rattle.form.proofs.Form.{form-facts}
use Rattle.reading.proofs.Returns.{read-on}

-- block n passes with the bytes b
pub record Passes (l : Layout) (z : Sizes) (salt slot n : ℕ) (b : List ℕ) : Type 0 where
  pub check : checks b ≡ true
  pub form : formed l z n b ≡ true
  pub salts : field 4 b 8 ≡ salt
  pub slots : field 4 b 12 ≡ slot

pub record Accepted (l : Layout) (z : Sizes) (salt slot : ℕ) (image : List ℕ) : Type 0 where
  pub sizes : Ranged z
  pub whole : length image ≡ blocks z * 512
  pub each : (n : ℕ) → n < blocks z → Passes l z salt slot n (block_at image n)

-- a refusal is no image
passed : (t : Bool) (bad : ReadError) (good : Result Image ReadError) {z : Sizes} {salt : ℕ} → cond t (Err bad) good ≡ image_with z salt
    → (t ≡ false) × (good ≡ image_with z salt)
passed true bad good e = cc
passed false bad good e = (refl, e)

-- one answer has one pair of sizes and salt
same_image : {z y : Sizes} {salt s : ℕ} → image_with z salt ≡ image_with y s → (z ≡ y) × (salt ≡ s)
same_image {z} {y} {salt} {s} e =
    let q : ◌≡◌ {A = Image} (record { sizes = z; salt = salt }) (record { sizes = y; salt = s }) = cc in
    (ap (λ (i : Image). i.sizes) q, ap (λ (i : Image). i.salt) q)

module _ (l : Layout) (z : Sizes) (salt slot : ℕ) (image : List ℕ) where
  later-yes : (m n : ℕ) → ((i : ℕ) → n ≤ i → i < n + m → Passes l z salt slot i (block_at image i)) → read_later l z salt slot image n m ≡ image_with z salt
  unfolding read_later
  later-yes zero n h = refl
  later-yes (suc m) n h =
      let p = h n (omega arith) (omega arith) in
      rw (p.check, p.form, eq-eqb _ _ p.salts, eq-eqb _ _ p.slots) (later-yes m (suc n) (λ i a b. h i (omega arith) (omega arith)))

  later-only : (m n : ℕ) {y : Sizes} {s : ℕ} → read_later l z salt slot image n m ≡ image_with y s
      → (z ≡ y) × (salt ≡ s) × ((i : ℕ) → n ≤ i → i < n + m → Passes l z salt slot i (block_at image i))
  unfolding read_later
  later-only zero n e = let q = same_image e in (q.0, q.1, λ i a b. absurd (omega arith))
  later-only (suc m) n e =
      let b = block_at image n in
      let one = passed (not (checks b)) (Check n) _ e in
      let two = passed (not (formed l z n b)) (Form n) _ one.1 in
      let three = passed (not (eqb (field 4 b 8) salt && eqb (field 4 b 12) slot)) (Mixed n) _ two.1 in
      let fields = not_f (eqb (field 4 b 8) salt && eqb (field 4 b 12) slot) three.0 in
      let here : Passes l z salt slot n (block_at image n)
      = record {
        check = not_f (checks b) one.0;
        form = not_f (formed l z n b) two.0;
        salts = eqb-true (field 4 b 8) salt (and_l (eqb (field 4 b 8) salt) (eqb (field 4 b 12) slot) fields);
        slots = eqb-true (field 4 b 12) slot (and_r (eqb (field 4 b 8) salt) (eqb (field 4 b 12) slot) fields);
      } in
      let rest = later-only m (suc n) three.1 in (
        rest.0,
        rest.1,
        λ i p q. elim (native.Mathlib.Decide.ℕ_discrete i n) [
          | yes h ↦ subst (λ (j : ℕ). Passes l z salt slot j (block_at image j)) (sym h) here
          | no h ↦ rest.2 i (omega arith) (omega arith)
        ],
      )

good_length : (n : ℕ) → 1 ≤ n → n ≤ 80 → bad_length (n * 512) ≡ false
unfolding bad_length
good_length n p q =
    let a : eqb (n * 512) 0 ≡ false = ne_eqb (n * 512) 0 (λ e. omega arith) in
    let b : eqb (n * 512 % 512) 0 ≡ true = eq-eqb (n * 512 % 512) 0 (omega arith) in
    rw (a, b, le-ltb 40960 (n * 512) (omega arith))

some_block : (z : Sizes) → Ranged z → 1 ≤ blocks z
unfolding blocks
some_block z r = omega arith

pub accepts : (l : Layout) (z : Sizes) (salt slot : ℕ) (image : List ℕ) → Accepted l z salt slot image → read_of l image slot ≡ image_with z salt
accepts l z salt slot image a =
    let low : 1 ≤ blocks z = some_block z a.sizes in
    let first = a.each 0 low in
    let form = form-facts l z 0 (block_at image 0) first.form in
    let len : bad_length (length image) ≡ false = rw a.whole (good_length (blocks z) low (blocks-high z a.sizes)) in
    sym (read-on l image slot len first.check {z = z} (sym form.sizes) (range-test z a.sizes) first.form a.whole first.slots)
    ∙ ap (λ s. read_later l z s slot image 1 (blocks z - 1)) first.salts
    ∙ later-yes l z salt slot image (blocks z - 1) 1 (λ i p q. a.each i (omega arith))

pub accepted : (l : Layout) (z : Sizes) (salt slot : ℕ) (image : List ℕ) → read_of l image slot ≡ image_with z salt → Accepted l z salt slot image
unfolding read_of
accepted l z salt slot image e =
    let b = block_at image 0 in
    let y = sizes_in b in
    let one = passed (bad_length (length image)) Length _ e in
    let two = passed (not (checks b)) (Check 0) _ one.1 in
    let three = passed (not (in_range y && formed l y 0 b)) (Form 0) _ two.1 in
    let four = passed (not (eqb (length image) (blocks y * 512))) Length _ three.1 in
    let five = passed (not (eqb (field 4 b 12) slot)) Stale _ four.1 in
    let form = not_f (in_range y && formed l y 0 b) three.0 in
    let rest = later-only l y (field 4 b 8) slot image (blocks y - 1) 1 five.1 in
    let here : Passes l y (field 4 b 8) slot 0 (block_at image 0)
    = record {
      check = not_f (checks b) two.0;
      form = and_r (in_range y) (formed l y 0 b) form;
      salts = refl;
      slots = eqb-true (field 4 b 12) slot (not_f (eqb (field 4 b 12) slot) five.0);
    } in
    let whole : Accepted l y (field 4 b 8) slot image
    = record {
      sizes = ranged y (and_l (in_range y) (formed l y 0 b) form);
      whole = eqb-true (length image) (blocks y * 512) (not_f (eqb (length image) (blocks y * 512)) four.0);
      each = λ i p. elim (native.Mathlib.Decide.ℕ_discrete i 0) [
        | yes h ↦ subst (λ (j : ℕ). Passes l y (field 4 b 8) slot j (block_at image j)) (sym h) here
        | no h ↦ rest.2 i (omega arith) (omega arith)
      ];
    } in
    subst (λ (s : ℕ). Accepted l z s slot image) rest.1 (subst (λ (x : Sizes). Accepted l x (field 4 b 8) slot image) rest.0 whole)

-- The block that reading names is the first bad one.
use mathlib.Core.Path.{◌≡◌, refl, sym, ap, ◌∙◌}
use mathlib.Core.Bool.{Bool, true, false, cond, not, ◌&&◌}
use mathlib.Core.List.{List}
use Prim.Native.Nat.{ℕ, zero, suc, ◌+◌, ◌-◌, ◌*◌, ◌≤◌, ◌<◌}
use native.Mathlib.Decide.{ℕ_discrete}
use native.Mathlib.Omega.{arith}
use borrow.Author.Tests.{eqb-true}
use lib.Dec.{eqb}
use lib.ListN.{length}
use Rattle.layout.specs.declared.Layout.{Layout}
use Rattle.layout.specs.declared.Sizes.{Sizes}
use Rattle.layout.specs.Sizes.{in_range, blocks}
use Rattle.fields.specs.Field.{field}
use Rattle.block.specs.Block.{block_at}
use Rattle.form.specs.Form.{sizes_in, formed}
use Rattle.std.proofs.Common.{Result, Ok, Err}
use Rattle.reading.specs.declared.Image.{Image}
use Rattle.reading.specs.declared.ReadError.{ReadError}
use Rattle.reading.specs.declared.ReadError.TheVariants.{Length, Check, Form, Mixed, Stale}
use Rattle.reading.specs.Read.{bad_length, checks, image_with, read_later, read_of, read_number, read_block}
use Rattle.reading.specs.First.{first_number, block_number, FirstBad}

-- ---- answer and number go alike: through the three tests of a later block, and through those of the length and of block 0
abbrev three_number : Bool → Bool → Bool → ℕ
three_number a b c = cond (not a) 2 (cond (not b) 3 (cond (not c) 4 0))

abbrev three_answer : Bool → Bool → Bool → ℕ → Result Image ReadError → Result Image ReadError
three_answer a b c n on = cond (not a) (Err (Check n)) (cond (not b) (Err (Form n)) (cond (not c) (Err (Mixed n)) on))

three-on : (a b c : Bool) (n : ℕ) (on : Result Image ReadError) → three_number a b c ≡ 0 → three_answer a b c n on ≡ on
three-on true true true n on e = refl
three-on true true false n on e = absurd (omega arith)
three-on true false c n on e = absurd (omega arith)
three-on false b c n on e = absurd (omega arith)

three-bad : (a b c : Bool) (n : ℕ) (on : Result Image ReadError) → 0 < three_number a b c
    → (read_number (three_answer a b c n on) ≡ three_number a b c) × (read_block (three_answer a b c n on) ≡ n)
three-bad true true true n on h = absurd (omega arith)
three-bad true true false n on h = (refl, refl)
three-bad true false c n on h = (refl, refl)
three-bad false b c n on h = (refl, refl)

abbrev five_number : Bool → Bool → Bool → Bool → Bool → ℕ
five_number a b c d e = cond a 1 (cond (not b) 2 (cond (not c) 3 (cond (not d) 1 (cond (not e) 5 0))))

abbrev five_answer : Bool → Bool → Bool → Bool → Bool → Result Image ReadError → Result Image ReadError
five_answer a b c d e on =
    cond a (Err Length) (cond (not b) (Err (Check 0)) (cond (not c) (Err (Form 0)) (cond (not d) (Err Length) (cond (not e) (Err Stale) on))))

five-on : (a b c d e : Bool) (on : Result Image ReadError) → five_number a b c d e ≡ 0 → (five_answer a b c d e on ≡ on) × (e ≡ true)
five-on true b c d e on h = absurd (omega arith)
five-on false false c d e on h = absurd (omega arith)
five-on false true false d e on h = absurd (omega arith)
five-on false true true false e on h = absurd (omega arith)
five-on false true true true false on h = absurd (omega arith)
five-on false true true true true on h = (refl, refl)

five-bad : (a b c d e : Bool) (on : Result Image ReadError) → 0 < five_number a b c d e
    → (read_number (five_answer a b c d e on) ≡ five_number a b c d e) × (read_block (five_answer a b c d e on) ≡ 0)
five-bad true b c d e on h = (refl, refl)
five-bad false false c d e on h = (refl, refl)
five-bad false true false d e on h = (refl, refl)
five-bad false true true false e on h = (refl, refl)
five-bad false true true true false on h = (refl, refl)
five-bad false true true true true on h = absurd (omega arith)

-- a later block is named by refusals alone
refused : (r : Result Image ReadError) → 0 < read_block r → 0 < read_number r
refused (Ok i) h = absurd (omega arith)
refused (Err Length) h = omega arith
refused (Err (Check n)) h = omega arith
refused (Err (Form n)) h = omega arith
refused (Err (Mixed n)) h = omega arith
refused (Err Stale) h = omega arith

-- ---- the later blocks
module _ (l : Layout) (z : Sizes) (salt slot : ℕ) (image : List ℕ) where
  abbrev given : ℕ → ℕ
  given n = block_number l z salt slot n (block_at image n)

  abbrev answer : ℕ → ℕ → Result Image ReadError
  answer n m = read_later l z salt slot image n m

  later-none : (n : ℕ) → answer n zero ≡ image_with z salt
  unfolding read_later
  later-none n = refl

  later-on : (n m : ℕ) → given n ≡ 0 → answer n (suc m) ≡ answer (suc n) m
  unfolding read_later block_number
  later-on n m e =
      let b = block_at image n in
      three-on (checks b) (formed l z n b) (eqb (field 4 b 8) salt && eqb (field 4 b 12) slot) n (answer (suc n) m) e

  later-bad : (n m : ℕ) → 0 < given n → (read_number (answer n (suc m)) ≡ given n) × (read_block (answer n (suc m)) ≡ n)
  unfolding read_later block_number
  later-bad n m h =
      let b = block_at image n in
      three-bad (checks b) (formed l z n b) (eqb (field 4 b 8) salt && eqb (field 4 b 12) slot) n (answer (suc n) m) h

  -- of m blocks from n on, k is the first bad one: it is named
  later-named : (m n k : ℕ) → n ≤ k → k < n + m → ((i : ℕ) → n ≤ i → i < k → given i ≡ 0) → 0 < given k
      → (read_number (answer n m) ≡ given k) × (read_block (answer n m) ≡ k)
  later-named zero n k p q before h = absurd (omega arith)
  later-named (suc m) n k p q before h = elim (ℕ_discrete n k) [
    | yes e ↦ rw (← e) (later-bad n m (rw e h))
    | no e ↦
        rw (later-on n m (before n (omega arith) (omega arith)))
        (later-named m (suc n) k (omega arith) (omega arith) (λ i a b. before i (omega arith) b) h)
  ]

  -- and the one that is named is the first bad one
  later-told : (m n : ℕ) → 0 < read_number (answer n m)
      → (n ≤ read_block (answer n m))
      × (read_block (answer n m) < n + m)
      × ((i : ℕ) → n ≤ i → i < read_block (answer n m) → given i ≡ 0)
      × (given (read_block (answer n m)) ≡ read_number (answer n m))
  later-told zero n h = absurd (omega (arith, ap read_number (later-none n)))
  later-told (suc m) n h = elim (ℕ_discrete (given n) 0) [
    | yes e ↦
        let on = later-on n m e in
        let rest = later-told m (suc n) (rw on at h) in
        rw on (
          omega (arith, rest.0),
          omega (arith, rest.1),
          λ i p q. elim (ℕ_discrete i n) [ yes f ↦ ap given f ∙ e | no f ↦ rest.2 i (omega arith) q ],
          rest.3,
        )
    | no e ↦
        let bad = later-bad n m (omega arith) in
        rw bad.1 (omega arith, omega arith, λ i p q. absurd (omega arith), sym bad.0)
  ]

-- ---- reading
module _ (l : Layout) (image : List ℕ) (wanted : ℕ) where
  -- where the length is good and block 0 passes, the later blocks decide
  begun : first_number l image wanted ≡ 0
      → read_of l image wanted
      ≡ read_later l (sizes_in (block_at image 0)) (field 4 (block_at image 0) 8) (field 4 (block_at image 0) 12) image 1 (blocks (sizes_in (block_at image 0)) - 1)
  unfolding read_of first_number
  begun h =
      let b = block_at image 0 in
      let z = sizes_in b in
      let on = read_later l z (field 4 b 8) wanted image 1 (blocks z - 1) in
      let r = five-on (bad_length (length image)) (checks b) (in_range z && formed l z 0 b) (eqb (length image) (blocks z * 512)) (eqb (field 4 b 12) wanted)
      on h in
      r.0 ∙ ap (λ s. read_later l z (field 4 b 8) s image 1 (blocks z - 1)) (sym (eqb-true (field 4 b 12) wanted r.1))

  -- a length or a block 0 that is bad is answered with its number, and with block 0
  pub first-named : 0 < first_number l image wanted
      → (read_number (read_of l image wanted) ≡ first_number l image wanted) × (read_block (read_of l image wanted) ≡ 0)
  unfolding read_of first_number
  first-named h =
      let b = block_at image 0 in
      let z = sizes_in b in
      five-bad (bad_length (length image)) (checks b) (in_range z && formed l z 0 b) (eqb (length image) (blocks z * 512)) (eqb (field 4 b 12) wanted)
      (read_later l z (field 4 b 8) wanted image 1 (blocks z - 1)) h

  -- the first bad block is named, with its number
  pub first-bad-named : (n r : ℕ) → FirstBad l image wanted n r → (read_number (read_of l image wanted) ≡ r) × (read_block (read_of l image wanted) ≡ n)
  first-bad-named n r f =
      let b = block_at image 0 in
      let z = sizes_in b in
      let named = later-named l z (field 4 b 8) (field 4 b 12) image (blocks z - 1) 1 n (omega (arith, f.later)) (omega (arith, f.later, f.within))
      (λ i p q. f.before i (omega arith) q) (rw f.number f.bad) in
      rw (begun f.begins) (named.0 ∙ f.number, named.1)

  -- and a later block that is named is the first bad one
  pub named-first-bad : 0 < read_block (read_of l image wanted) → FirstBad l image wanted (read_block (read_of l image wanted)) (read_number (read_of l image wanted))
  named-first-bad h = elim (ℕ_discrete (first_number l image wanted) 0) [
    | yes e ↦
        let b = block_at image 0 in
        let z = sizes_in b in
        let on = begun e in
        let some = refused (read_of l image wanted) h in
        let told = later-told l z (field 4 b 8) (field 4 b 12) image (blocks z - 1) 1 (rw on at some) in
        rw on
        (record {
          begins = e;
          later = rw on at h;
          within = omega (arith, told.0, told.1);
          before = λ i p q. told.2 i (omega arith) q;
          number = told.3;
          bad = rw on at some;
        })
    | no e ↦ absurd (omega (arith, first-named (omega arith)))
  ]

  -- where no later block is named, the number is that of the length and of block 0
  pub named-first : read_block (read_of l image wanted) ≡ 0 → read_number (read_of l image wanted) ≡ first_number l image wanted
  named-first h = elim (ℕ_discrete (first_number l image wanted) 0) [
    | yes e ↦ elim (ℕ_discrete (read_number (read_of l image wanted)) 0) [
      | yes f ↦ f ∙ sym e
      | no f ↦
          let b = block_at image 0 in
          let z = sizes_in b in
          let on = begun e in
          let some : 0 < read_number (read_of l image wanted) = omega arith in
          let told = later-told l z (field 4 b 8) (field 4 b 12) image (blocks z - 1) 1 (rw on at some) in
          absurd (omega (arith, told.0, ap read_block on))
    ]
    | no e ↦ (first-named (omega arith)).0
  ]

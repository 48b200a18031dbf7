-- The index of listed flows: down a key's bucket it is found if it is listed, and a key that is appended and linked keeps the index whole.
use mathlib.Core.Path.{◌≡◌, refl, sym, ap, ◌∙◌}
use mathlib.Core.Bool.{false}
use mathlib.Core.List.{List}
use mathlib.Core.Logic.{inl, inr}
use Prim.Native.Nat.{ℕ, zero, suc, ◌+◌, ◌*◌, ◌<◌, ◌≤◌}
use Rattle.std.proofs.Common.{Option, Some, None}
use native.Mathlib.Numerals.{add-one}
use native.Mathlib.Omega.{arith}
use lib.ListN.{length, get_or}
use lib.Seq.{sets}
use Rattle.laws.specs.Upto.{list_upto}
use Rattle.laws.proofs.Bools.{split, or-f}
use Rattle.laws.proofs.Rows.{row_within}
use Rattle.laws.proofs.Upto.{any-more, any-skip}
use Rattle.layout.specs.declared.Layout.{Layout}
use Rattle.layout.specs.declared.Sizes.{Sizes}
use Rattle.hash.specs.Places.{cell_of}
use Rattle.index.specs.Index.{before, linked, last_in}
use Rattle.index.proofs.Index.{last_within, last_has, last_none, indexes-same, indexes-more}
use Rattle.list.specs.Records.{key_at, same_bytes, is_listed}
use Rattle.list.proofs.Laws.{same-is, length-key, key-appended, key-kept}
use Rattle.found.specs.Seen.{bucket, bucket_of, Covers, LeadsTo}

-- where the walk down a bucket stands: record i - 1 is of the bucket, and the key is among the first n if it is among the first i
pub record Down (l : Layout) (n : ℕ) (keys key seen : List ℕ) (i : ℕ) : Type 0 where
  pub b : ℕ
  pub leads : LeadsTo l n keys key b seen
  pub within : i ≤ n
  pub decides : is_listed l n keys key ≡ is_listed l i keys key
  pub in-bucket : (j : ℕ) → i ≡ j + 1 → leads.bucket_at j ≡ b

-- the place after a record, 0 after none: what the index holds
abbrev pub place : Option ℕ → ℕ
place None = 0
place (Some i) = suc i

pub place_before : (x : ℕ) {o : Option ℕ} → o ≡ before x → place o ≡ x
place_before zero e = ap place e
place_before (suc i) e = ap place e

module _ (l : Layout) (n : ℕ) (keys key seen : List ℕ) (inside : n * l.key ≤ length keys) (fits : length key ≡ l.key) where
  module _ (b : ℕ) (h : LeadsTo l n keys key b seen) where
    -- a key of another bucket is another key
    others : (m j : ℕ) → m ≤ n → last_in h.bucket_at b m ≤ j → j < m → same_bytes (key_at l keys j) key ≡ false
    others m j w p q = elim (split (same_bytes (key_at l keys j) key)) [
      | inr no_key ↦ no_key
      | inl same ↦
          let e = same-is (key_at l keys j) key (length-key l keys j (omega (arith, row_within j n l.key (omega (arith, w, q)))) ∙ sym fits) same in
          absurd (last_none h.bucket_at b m j p q (h.own j (omega (arith, w, q)) e))
    ]

    -- from the first m records to the last of them in the bucket
    down-from : (m : ℕ) {i : ℕ} → m ≤ n → is_listed l n keys key ≡ is_listed l m keys key → i ≡ last_in h.bucket_at b m → Down l n keys key seen i
    unfolding is_listed
    down-from m {i} w d e =
        let low : i ≤ m = rw e (last_within h.bucket_at b m) in
        record {
          b = b;
          leads = h;
          within = omega (arith, w, low);
          decides = d ∙ any-skip m i (λ j. same_bytes (key_at l keys j) key) low (λ j p q. others m j w (rw (← e) p) q);
          in-bucket = λ j q. last_has h.bucket_at b m j (sym e ∙ q);
        }

    pub down-first : {i : ℕ} → b < 8192 → i ≡ get_or seen b 0 → Down l n keys key seen i
    down-first low e = down-from n (omega arith) refl (e ∙ h.indexes.lasts b low)

  -- from record j, which is another key, to the one before it in the bucket
  pub down-next : {o next : Option ℕ} {j : ℕ} → Down l n keys key seen (place o) → o ≡ Some j → same_bytes (key_at l keys j) key ≡ false
      → next ≡ before (get_or seen (8192 + j) 0) → Down l n keys key seen (place next) × (place next < place o)
  unfolding is_listed
  down-next {o} {next} {j} d at other e =
      let h = d.leads in
      let after : place o ≡ j + 1 = ap place at ∙ sym (add-one j) in
      let is =
      place_before _ e ∙ h.indexes.earlier j (omega (arith, d.within, after)) ∙ ap (λ x. last_in h.bucket_at x j) (d.in-bucket j after) in (
        down-from d.b h j (omega (arith, d.within, after))
            (d.decides ∙ ap (λ m. is_listed l m keys key) after ∙ any-more j (λ k. same_bytes (key_at l keys k) key) ∙ rw other (or-f (is_listed l j keys key))) is,
        omega (arith, is, last_within h.bucket_at d.b j, after),
      )

module _ (l : Layout) (z : Sizes) (salt n : ℕ) (keys seen : List ℕ) (v : Covers l z salt n keys seen) where
  pub leads : (key : List ℕ) {at : List ℕ} → at ≡ list_upto 4 (cell_of l z salt key) → LeadsTo l n keys key (bucket at) seen
  leads key q = record {
    bucket_at = λ i. bucket_of l z salt (key_at l keys i);
    indexes = v;
    own = λ i p e. ap (bucket_of l z salt) e ∙ ap bucket (sym q);
  }

  pub covers_more : (key : List ℕ) → n < 3072 → length key ≡ l.key → n * l.key + l.key ≤ length keys
      → Covers l z salt (n + 1) (sets keys (n * l.key) key) (linked seen (bucket_of l z salt key) n)
  covers_more key few e h =
      let new = sets keys (n * l.key) key in
      let bucket_at : ℕ → ℕ = (λ i. bucket_of l z salt (key_at l new i)) in
      let kept = indexes-same (λ i. bucket_of l z salt (key_at l keys i)) bucket_at n seen
      (λ i q. ap (bucket_of l z salt) (sym (key-kept l keys n key i q))) v in
      (rw (key-appended l keys n key e h) at (indexes-more bucket_at n seen kept few (omega arith)))

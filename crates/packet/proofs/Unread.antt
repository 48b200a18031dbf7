-- 01 'Keys and hashing': "Total length and header checksum are not read": a packet's key does not hang on bytes 2, 3, 10 and 11.
use mathlib.Core.Path.{◌≡◌, sym, ap, ◌∙◌}
use mathlib.Core.Logic.{◌⊎◌, inl, inr}
use mathlib.Core.Bool.{false, cond}
use mathlib.Core.List.{List}
use Prim.Native.Nat.{ℕ, ◌+◌, ◌<◌, ◌≤◌}
use native.Mathlib.Omega.{arith}
use borrow.Author.Tests.{ltb-true, ltb-false}
use lib.Dec.{ltb}
use lib.ListN.{length, get_or}
use Rattle.laws.specs.BigEndian.{number_of}
use Rattle.laws.proofs.Bools.{split, clash}
use Rattle.laws.proofs.Lists.{part_same}
use Rattle.fields.specs.Field.{field}
use Rattle.packet.specs.Packet.{version, header_words, header_bytes, protocol, fragment_offset, has_ports, refused, port, key_in, key_of}
use Rattle.packet.proofs.Packet.{short-header}

-- the places of total length and header checksum
abbrev Unread : ℕ → Type 0
Unread i = ((i ≡ 2) ⊎ (i ≡ 3)) ⊎ ((i ≡ 10) ⊎ (i ≡ 11))

module _ (p q : List ℕ) (long : length p ≡ length q) (same : (i : ℕ) → (Unread i → ⊥) → get_or p i 0 ≡ get_or q i 0) where
  field-same : (n i : ℕ) → ((j : ℕ) → j < n → Unread (i + j) → ⊥) → field n p i ≡ field n q i
  unfolding field
  field-same n i h = ap number_of (part_same p q i n 0 long (λ j l. same (i + j) (h j l)))

  first-same : get_or p 0 0 ≡ get_or q 0 0
  first-same = same 0 (λ u. elim u [
    | inl a ↦ elim a [ inl e ↦ omega arith | inr e ↦ omega arith ]
    | inr a ↦ elim a [ inl e ↦ omega arith | inr e ↦ omega arith ]
  ])

  protocol-same : protocol p ≡ protocol q
  unfolding protocol
  protocol-same = same 9 (λ u. elim u [
    | inl a ↦ elim a [ inl e ↦ omega arith | inr e ↦ omega arith ]
    | inr a ↦ elim a [ inl e ↦ omega arith | inr e ↦ omega arith ]
  ])

  -- no place of total length or checksum lies from 4 to 9 or from 12 on
  middle : (i : ℕ) → 4 ≤ i → i < 10 → Unread i → ⊥
  middle i a b (inl (inl e)) = omega arith
  middle i a b (inl (inr e)) = omega arith
  middle i a b (inr (inl e)) = omega arith
  middle i a b (inr (inr e)) = omega arith

  later : (i : ℕ) → 12 ≤ i → Unread i → ⊥
  later i a (inl (inl e)) = omega arith
  later i a (inl (inr e)) = omega arith
  later i a (inr (inl e)) = omega arith
  later i a (inr (inr e)) = omega arith

  header-same : header_bytes p ≡ header_bytes q
  unfolding header_bytes header_words
  header-same = rw first-same

  ports-same : has_ports p ≡ has_ports q
  unfolding has_ports fragment_offset
  ports-same = rw (protocol-same, field-same 2 6 (λ j l. middle (6 + j) (omega arith) (omega arith)))

  refused-same : refused p ≡ refused q
  unfolding refused version header_words
  refused-same = rw (long, header-same, ports-same, first-same)

  port-same : (i : ℕ) → 20 ≤ header_bytes p → port p i ≡ port q i
  unfolding port
  port-same i h =
      rw (ports-same, ← header-same)
      (ap (λ x. cond (has_ports q) x 0) (field-same 2 (header_bytes p + i) (λ j l. later (header_bytes p + i + j) (omega arith))))

  kept-header : refused p ≡ false → 20 ≤ header_bytes p
  kept-header h = elim (split (ltb (header_bytes p) 20)) [
    | inl t ↦ clash (short-header p (ltb-true (header_bytes p) 20 t)) h
    | inr f ↦ ltb-false (header_bytes p) 20 f
  ]

  key-same : refused p ≡ false → key_in p ≡ key_in q
  unfolding key_in
  key-same h =
      rw (
        field-same 4 12 (λ j l. later (12 + j) (omega arith)),
        field-same 4 16 (λ j l. later (16 + j) (omega arith)),
        port-same 0 (kept-header h),
        port-same 2 (kept-header h),
        protocol-same,
      )

  pub unread : key_of p ≡ key_of q
  unfolding key_of
  unread = elim (split (refused p)) [
    | inl t ↦ rw (t, sym refused-same ∙ t)
    | inr f ↦ rw (f, sym refused-same ∙ f, key-same f)
  ]

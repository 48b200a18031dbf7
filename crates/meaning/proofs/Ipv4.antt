-- The packet call of IPv4 takes packets by their keys, and starting clears the memory.
use mathlib.Core.Path.{◌≡◌, refl, sym, ap, subst, ◌∙◌}
use mathlib.Core.Bool.{true, false}
use mathlib.Core.List.{List, [], ◌∷◌}
use mathlib.Core.Logic.{◌⊎◌, inl, inr}
use Prim.Native.Nat.{ℕ}
use native.Mathlib.Omega.{arith}
use lib.ListN.{length}
use Rattle.laws.proofs.Bools.{split, clash}
use Rattle.layout.specs.declared.Layout.{Layout}
use Rattle.layout.specs.declared.Sizes.{Sizes}
use Rattle.layout.specs.Sizes.{in_range, ipv4_layout}
use Rattle.layout.proofs.Ranges.{ranged, lays-ipv4}
use Rattle.packet.specs.Packet.{refused, key_in, key_of}
use Rattle.packet.proofs.KeyBytes.{length-key, key-are-bytes}
use Rattle.encoder.specs.Encoder.{Taking, rooms_fit, offer, offer_key, packet_of, start_of, start_number}
use Rattle.encoder.proofs.Answers.{rooms}
use Rattle.meaning.specs.Meaning.{Memory, cleared, leaves, is_taken, taken_by, Sets, TakesKeys, packet_call, packet_key}
use Rattle.meaning.proofs.Packet.{offer-keeps}
use Rattle.meaning.proofs.Kept.{offer-sets}

-- the packet call refuses and keeps the memory, or offers the packet's key
module _ (z : Sizes) (salt : ℕ) (packet : List ℕ) (m : Memory) where
  record Refuses : Type 0 where
    pub refused : is_taken (packet_call z salt packet m) ≡ false
    pub keeps : leaves (packet_call z salt packet m) ≡ m

  record Offers : Type 0 where
    pub in-range : in_range z ≡ true
    pub fits : rooms_fit ipv4_layout z (length m.filter) (length m.cells) ≡ true
    pub key : packet_call z salt packet m ≡ offer_key ipv4_layout z salt (packet_key packet) m.filter m.cells

  packet-cases : Refuses ⊎ Offers
  unfolding packet_of offer key_of is_taken
  packet-cases = elim (split (in_range z)) [
    | inr s ↦ inl (record { refused = rw s; keeps = rw s })
    | inl s ↦ elim (split (rooms_fit ipv4_layout z (length m.filter) (length m.cells))) [
      | inr f ↦ inl (record { refused = rw (s, f); keeps = rw (s, f) })
      | inl f ↦ elim (split (refused packet)) [
        | inl k ↦ inl (record { refused = rw (s, f, k); keeps = rw (s, f, k) })
        | inr k ↦ inr (record { in-range = s; fits = f; key = rw (s, f, k) })
      ]
    ]
  ]

  pub packet-keeps : is_taken (packet_call z salt packet m) ≡ false → leaves (packet_call z salt packet m) ≡ m
  packet-keeps h = elim packet-cases [
    | inl r ↦ r.keeps
    | inr o ↦ ap leaves o.key ∙ offer-keeps ipv4_layout z salt (packet_key packet) m (ap is_taken (sym o.key) ∙ h)
  ]

  packet-offers : is_taken (packet_call z salt packet m) ≡ true → Offers
  packet-offers h = elim packet-cases [ inl r ↦ clash h r.refused | inr o ↦ o ]

  -- a packet that is taken sets its flow's bits
  pub packet-sets : is_taken (packet_call z salt packet m) ≡ true
      → Sets ipv4_layout z salt m (taken_by z salt m (packet_key packet) ∷ []) (leaves (packet_call z salt packet m))
  packet-sets h =
      let o = packet-offers h in
      let fit = rooms ipv4_layout z (length m.filter) (length m.cells) o.fits in
      subst (λ (x : Taking). Sets ipv4_layout z salt m (taken_by z salt m (packet_key packet) ∷ []) (leaves x)) (sym o.key)
      (offer-sets ipv4_layout z lays-ipv4 (ranged z o.in-range) salt (packet_key packet) (length-key (key_in packet)) m fit.0 fit.1
      (ap is_taken (sym o.key) ∙ h))

pub takes-packets : (z : Sizes) (salt : ℕ) → TakesKeys ipv4_layout z salt (packet_call z salt) packet_key
takes-packets z salt = record {
  keeps = packet-keeps z salt;
  in-range = λ p m t. ranged z (packet-offers z salt p m t).in-range;
  offered = λ p m t. (packet-offers z salt p m t).key;
  sized = λ p m t. length-key (key_in p);
  are-bytes = λ p m t. key-are-bytes (key_in p);
}

-- Theorem: starting, where it is done, clears the memory
pub start-clears : (l : Layout) (z : Sizes) (filter cells : List ℕ) → start_number (start_of l z filter cells).answer ≡ 0
    → ((start_of l z filter cells).filter ≡ (cleared l z).filter) × ((start_of l z filter cells).cells ≡ (cleared l z).cells)
unfolding start_of cleared
start-clears l z filter cells h = elim (split (in_range z)) [
  | inr s ↦ absurd (let e = rw s at h in omega arith)
  | inl s ↦ elim (split (rooms_fit l z (length filter) (length cells))) [
    | inr f ↦ absurd (let e = rw (s, f) at h in omega arith)
    | inl f ↦ (let fit = rooms l z (length filter) (length cells) f in rw (s, f, fit.0, fit.1) (refl, refl))
  ]
]

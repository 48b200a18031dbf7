-- When a packet has ports, when it is refused and with which number, and what one that is not refused has room for.
use mathlib.Core.Path.{◌≡◌}
use mathlib.Core.Logic.{◌⊎◌, inl, inr}
use mathlib.Core.Bool.{true, false, ◌&&◌, or-true}
use mathlib.Core.List.{List}
use Prim.Native.Nat.{ℕ, ◌+◌, ◌-◌, ◌≤◌, ◌<◌}
use native.Mathlib.Omega.{arith}
use borrow.Author.Tests.{lt-ltb, le-ltb, eq-eqb, ne_eqb, ltb-true, ltb-false}
use lib.Dec.{eqb, ltb}
use lib.ListN.{length}
use Rattle.laws.proofs.Bools.{split, clash, and-t, and-f}
use Rattle.packet.specs.Packet.{version, header_words, header_bytes, protocol, fragment_offset, has_ports, refused, key_of, number}

module _ (p : List ℕ) where
  pub ports-first : (protocol p ≡ 6) ⊎ (protocol p ≡ 17) → has_ports p ≡ eqb (fragment_offset p) 0
  unfolding has_ports
  ports-first (inl e) = rw e
  ports-first (inr e) = rw e

  pub ports-none : (protocol p ≡ 6 → ⊥) → (protocol p ≡ 17 → ⊥) → has_ports p ≡ false
  unfolding has_ports
  ports-none e f = rw (ne_eqb (protocol p) 6 e, ne_eqb (protocol p) 17 f)

  -- the causes, one by one
  pub under-20 : length p < 20 → refused p ≡ true
  unfolding refused
  under-20 h = rw (lt-ltb (length p) 20 h)

  pub other-version : (version p ≡ 4 → ⊥) → refused p ≡ true
  unfolding refused
  other-version h = rw (ne_eqb (version p) 4 h) (or-true (ltb (length p) 20))

  pub short-header : header_bytes p < 20 → refused p ≡ true
  unfolding refused header_bytes
  short-header h = rw (lt-ltb (header_words p) 5 (omega arith)) (simp or-true)

  pub long-header : length p < header_bytes p → refused p ≡ true
  unfolding refused
  long-header h = rw (lt-ltb (length p) (header_bytes p) h) (simp or-true)

  pub no-ports : length p - header_bytes p < 4 → has_ports p ≡ true → refused p ≡ true
  unfolding refused
  no-ports h e = rw (e, lt-ltb (length p - header_bytes p) 4 h) (simp or-true)

  -- where the first four causes do not hold, the last decides
  module _ (a : 20 ≤ length p) (b : version p ≡ 4) (c : 20 ≤ header_bytes p) (d : header_bytes p ≤ length p) where
    last-cause : refused p ≡ (has_ports p && ltb (length p - header_bytes p) 4)
    unfolding refused header_bytes
    last-cause =
        rw (le-ltb (length p) 20 a, eq-eqb (version p) 4 b, le-ltb (header_words p) 5 (omega arith), le-ltb (length p) (header_bytes p) d)

    pub ports-decide : length p - header_bytes p < 4 → refused p ≡ has_ports p
    ports-decide h = rw (last-cause, lt-ltb (length p - header_bytes p) 4 h) (and-t (has_ports p))

    pub no-cause : 4 ≤ length p - header_bytes p → refused p ≡ false
    no-cause h = rw (last-cause, le-ltb (length p - header_bytes p) 4 h) (and-f (has_ports p))

  -- a packet that is not refused
  kept : (a b : ℕ) → (a < b → refused p ≡ true) → refused p ≡ false → b ≤ a
  kept a b cause h = elim (split (ltb a b)) [ inl t ↦ clash (cause (ltb-true a b t)) h | inr f ↦ ltb-false a b f ]

  pub whole-header : refused p ≡ false → 20 ≤ length p
  whole-header = kept (length p) 20 under-20

  pub room : refused p ≡ false → has_ports p ≡ true → header_bytes p + 4 ≤ length p
  room h e =
      omega (arith, kept (length p) (header_bytes p) long-header h, kept (length p - header_bytes p) 4 (λ l. no-ports l e) h)

  -- 01's number of what the packet yields
  pub number-refused : refused p ≡ true → number (key_of p) ≡ 6
  unfolding key_of
  number-refused h = rw h

  pub number-key : refused p ≡ false → number (key_of p) ≡ 0
  unfolding key_of
  number-key h = rw h

-- what a packet that is not refused has room for
pub ruleset roomy = (whole-header, room)

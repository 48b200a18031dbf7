-- A list that no two sizes ask for is refused, whatever else it is, and all memory is kept: 01's table of numbers, 8 and 16.
use mathlib.Core.Path.{◌≡◌, sym, ◌∙◌}
use mathlib.Core.Bool.{false, not, cond, ◌&&◌}
use mathlib.Core.Logic.{inl, inr}
use Prim.Native.Nat.{◌+◌, ◌*◌}
use native.Mathlib.Omega.{arith}
use lib.ListN.{length}
use Rattle.std.specs.Prelude.{Err}
use Rattle.laws.proofs.Bools.{split, refuted, and_l, and_r}
use Rattle.layout.specs.declared.Sizes.{Sizes}
use Rattle.layout.specs.Sizes.{Ranged, in_range, ipv4_layout, table_cells}
use Rattle.layout.proofs.Ranges.{ranged, lays-ipv4, table-low, table-high}
use Rattle.list.specs.Records.{Records}
use Rattle.room.specs.declared.Session.{Session}
use Rattle.room.specs.Memory.{Memory}
use Rattle.parts.specs.Places.{place_after}
use Rattle.exchange.specs.declared.ExchangeError.TheVariants.{NotSession, BadRoom}
use Rattle.rounds.specs.Joined.{room_end}
use Rattle.exchange.specs.Exchange.{Exchanged, areas_fit, after_test, exchange_of}
use Rattle.exchange.proofs.Rooms.{areas-full}
use Rattle.exchange.proofs.Tests.{tested-sizes, tested-room}
use Rattle.calls.specs.Calls.{ran}
use Rattle.calls.proofs.Misfit.{Misfit}
use Rattle.pairing.specs.Pairing.{exchanging}

-- 2 N and 2 N together are from 1 to 6,144
pub wrong-number : (rs : Records) (y z : Sizes) → Ranged y → Ranged z → Misfit 6144 rs
    → length rs.counts ≡ 2 * table_cells ipv4_layout y + 2 * table_cells ipv4_layout z → ⊥
wrong-number rs y z r q (inl h) e = omega (arith, table-low ipv4_layout y lays-ipv4 r)
wrong-number rs y z r q (inr h) e = omega (arith, table-high ipv4_layout y lays-ipv4 r, table-high ipv4_layout z lays-ipv4 q)

areas-misfit : (y z : Sizes) (m : Memory) → Ranged y → Ranged z → Misfit 6144 m.list → areas_fit (room_end ipv4_layout y z) m ≡ false
unfolding place_after
areas-misfit y z m r q h = sym (refuted (λ p. wrong-number m.list y z r q h ((areas-full (room_end ipv4_layout y z) m p).full.counts-full ∙ omega arith)))

-- sizes of either first (8), then lengths (16)
abbrev pub refusal : Session → Session → Exchanged
refusal s t = cond (not (in_range s.sizes && in_range t.sizes)) (Err NotSession) (Err BadRoom)

pub exchange-misfit : (s t : Session) (m : Memory) → Misfit 6144 m.list → exchanging s t m ≡ ran (refusal s t) m
unfolding exchange_of after_test
exchange-misfit s t m h =
    let a = in_range s.sizes in
    let b = in_range t.sizes in
    elim (split (a && b)) [
      | inl p ↦ rw (tested-room ipv4_layout s t m p (areas-misfit s.sizes t.sizes m (ranged s.sizes (and_l a b p)) (ranged t.sizes (and_r a b p)) h), p)
      | inr p ↦ rw (tested-sizes ipv4_layout s t m p, p)
    ]

-- Demands 2 and 3 about the calls, from the packets taken to what stands after any hand-overs and settlings.
use mathlib.Core.Path.{◌≡◌, sym, ap, subst, ◌∙◌}
use mathlib.Core.List.{List, [], ◌++◌}
use Prim.Native.Nat.{ℕ}
use Rattle.layout.specs.declared.Layout.{Layout}
use Rattle.layout.specs.declared.Sizes.{Sizes}
use Rattle.layout.specs.Sizes.{Lays, ipv4_layout}
use Rattle.layout.proofs.Ranges.{lays-ipv4}
use Rattle.meaning.specs.Meaning as encoder
use Rattle.meaning.specs.View.{table_of, switch_of}
use Rattle.meaning.proofs.Meaning.{packets-mean}
use Rattle.meaning.proofs.Session.{counted_here, memory-received, passes-own}
use Rattle.theory.specs.Encode.{Key, among, Taken, NeverMistaken}
use Rattle.theory.specs.Session.{handed_of, count_of, keys_where, opened}
use Rattle.theory.specs.HandOver.{Switch, Call, settling}
use Rattle.theory.specs.Invariant.{Counted, received}
use Rattle.theory.specs.Runs.{Stands}
use Rattle.theory.specs.Demands.{Premises, HandedCounted}
use Rattle.theory.proofs.Demands.{stands-received}
use Rattle.demands.specs.Calls.{Live, call_on, calls_on, accepted, KeysFit, viewed}
use Rattle.demands.specs.Demands.{Received, Demand2At, Demand3At, StandsAt}
use Rattle.demands.proofs.Standing.{stands-2, stands-3, stands-counts, calls-stand, accepted-are}
use Rattle.demands.proofs.Received.{received-ranged, received-passing, received-viewed, received-switch}

-- over any layout, whatever memory the encoder left; `means` is what it means
module _ (l : Layout) (lays : Lays l) (z : Sizes) (salt slot : ℕ) (m : encoder.Memory) (taken : List Taken) (means : encoder.Means l z salt m taken)
    (v : Live) (rc : Received l z salt slot m v) where
  abbrev pub w : Switch
  w = switch_of l z salt m.filter

  -- the flows taken, each with its packets
  abbrev pub F : Counted w
  F = counted_here l z lays (received-ranged l lays z salt slot m v rc) salt m taken means

  none-handed : handed_of (viewed l v).list ≡ []
  unfolding keys_where
  none-handed = ap (λ s. handed_of s.list) (received-viewed l lays z salt slot m v rc)

  module _ (clean : NeverMistaken taken) where
    cells_are : opened (table_of l z m.cells) ≡ received w F
    cells_are = memory-received l z lays (received-ranged l lays z salt slot m v rc) salt m taken means clean

    -- Theorem: what is opened is a session of the flows taken
    pub opened-stands : StandsAt l w F v
    opened-stands = record {
      switch-is = received-switch l lays z salt slot m v rc;
      passing = received-passing l lays z salt slot m v rc;
      stands = subst (Stands w F) (sym (received-viewed l lays z salt slot m v rc ∙ cells_are)) (stands-received w F);
      own = passes-own l z lays (received-ranged l lays z salt slot m v rc) salt m taken means;
    }

  -- ---- any hand-overs and settlings
  module _ (later : List Call) (fits : KeysFit l later) (premises : Premises taken (accepted l later v)) where
    -- what stands after the calls
    abbrev pub after : Live
    after = calls_on l later v

    accepted-is : handed_of (viewed l after).list ≡ accepted l later v
    accepted-is = accepted-are l later fits v (received-passing l lays z salt slot m v rc) ∙ ap (λ h. h ++ accepted l later v) none-handed

    ours : HandedCounted F.flows (viewed l after)
    ours k h = premises.accepted-counted k (ap (among k) (sym accepted-is) ∙ h)

    -- Theorem: it is a session of the flows taken
    pub stands_at : StandsAt l w F after
    stands_at = calls-stand l w F v (opened-stands premises.clean) later fits ours

    -- Theorem (demand 2)
    pub calls-truthful : Demand2At l z salt taken after
    calls-truthful = stands-2 l w F after stands_at

    -- Theorem (demand 3)
    pub calls-alike : Demand3At l z salt taken (accepted l later v) after
    calls-alike = subst (λ a. Demand3At l z salt taken a after) accepted-is (stands-3 l w F after stands_at)

    -- Theorem: hand-overs never add a count: those known after a settling are those that the flowset yields by itself
    pub calls-counted : (k : Key) → count_of (viewed l (call_on l settling after)).list k ≡ count_of (viewed l (call_on l settling v)).list k
    calls-counted k = stands-counts l w F after stands_at k ∙ sym (stands-counts l w F v (opened-stands premises.clean) k)

-- ---- packets of IPv4, as the switch takes them from a start
module _ (z : Sizes) (salt slot : ℕ) (packets : List (List ℕ)) (v : Live)
    (rc : Received ipv4_layout z salt slot (encoder.packets_run z salt packets) v) (later : List Call) (fits : KeysFit ipv4_layout later)
    (premises : Premises (encoder.taken_in z salt packets) (accepted ipv4_layout later v)) where
  -- Theorem (demand 2): from a start, any packets, sealing, reading at its slot, opening, then any hand-overs and settlings
  pub demand-2 : Demand2At ipv4_layout z salt (encoder.taken_in z salt packets) (calls_on ipv4_layout later v)
  demand-2 = calls-truthful ipv4_layout lays-ipv4 z salt slot (encoder.packets_run z salt packets) (encoder.taken_in z salt packets)
      (packets-mean z salt packets) v rc later fits premises

  -- Theorem (demand 3): and a settling
  pub demand-3 : Demand3At ipv4_layout z salt (encoder.taken_in z salt packets) (accepted ipv4_layout later v) (calls_on ipv4_layout later v)
  demand-3 = calls-alike ipv4_layout lays-ipv4 z salt slot (encoder.packets_run z salt packets) (encoder.taken_in z salt packets)
      (packets-mean z salt packets) v rc later fits premises

-- The calls, as a collector, meet demands 2 and 3: the statements that the hollow programs break.
use mathlib.Core.Path.{◌≡◌, refl, sym, ap, subst, ◌∙◌}
use mathlib.Core.Bool.{cond}
use mathlib.Core.List.{List, [], ◌∷◌}
use Prim.Native.Nat.{ℕ, ◌*◌, ◌^◌, ◌<◌}
use lib.Dec.{eqb}
use lib.ListN.{length-replicate}
use Rattle.layout.specs.declared.Sizes.{Sizes}
use Rattle.layout.specs.Sizes.{Ranged, ipv4_layout, table_cells, filter_bytes, blocks}
use Rattle.layout.proofs.Ranges.{lays-ipv4}
use Rattle.marks.specs.Marks.{words_for}
use Rattle.meaning.specs.Meaning as encoder
use Rattle.meaning.proofs.Meaning.{packets-mean}
use Rattle.block.specs.Block.{image_of}
use Rattle.sealing.specs.Seal.{Sealing}
use Rattle.opening.specs.Open.{Opening}
use Rattle.room.specs.Memory.{Rooms}
use Rattle.session.specs.Calls.{hand_over, hand_over_number}
use Rattle.theory.specs.Encode.{Taken}
use Rattle.theory.specs.HandOver.{Call, hand, settling}
use Rattle.theory.specs.Report.{Report}
use Rattle.theory.specs.Session.{Record}
use Rattle.theory.specs.Demands.{Premises}
use Rattle.theory.specs.Collector.{Gives, gives, refuses, KeysSized, packets_by, calls_by, accepted_by, OpensTo, Meets2, Meets3}
use Rattle.demands.specs.Calls.{Live, call_on, calls_on, accepted, KeysFit}
use Rattle.demands.specs.Demands.{Received}
use Rattle.demands.specs.Demands as sessions
use Rattle.demands.specs.Ours.{site_of, image_room, session_room, image_by, live_by, code}
use Rattle.demands.proofs.Received.{opened_live, seals, goes_through}
use Rattle.demands.proofs.Received as begin
use Rattle.demands.proofs.Demands.{demand-2, demand-3}

-- what is given is one thing
given : {A : Type 0} → A → Gives A → A
given d (gives x) = x
given d (refuses n) = d

given-same : {A : Type 0} (x y : A) → gives x ≡ gives y → x ≡ y
unfolding given
given-same x y e = ap (given x) e

rooms : (z : Sizes) → Ranged z → Rooms ipv4_layout z (session_room ipv4_layout z)
rooms z r =
    let n = table_cells ipv4_layout z in
    record {
      filter-fits = length-replicate (filter_bytes z) 0;
      packets-fit = length-replicate n 0;
      table = record {
        lays = lays-ipv4;
        ranged = r;
        xors-fit = length-replicate (n * 13) 0;
        flows-fit = length-replicate n 0;
        unknowns-fit = length-replicate n 0;
        positions-fit = length-replicate n 0;
        marks-fit = length-replicate (words_for n) 0;
      };
      room = record {
        keys-fit = length-replicate (2 * n * 13) 0;
        counts-fit = length-replicate (2 * n) 0;
        flags-fit = length-replicate (2 * n) 0;
      };
    }

keys-fit : (later : List Call) → KeysSized 13 later → KeysFit ipv4_layout later
unfolding KeysSized KeysFit
keys-fit [] h = tt
keys-fit (hand x ∷ later) h = (h.0, keys-fit later h.1)
keys-fit (settling ∷ later) h = keys-fit later h

module _ {Text : Type 0} (z : Sizes) (r : Ranged z) (salt slot : ℕ) (salt-fits : salt < 2 ^ 32) (slot-fits : slot < 2 ^ 32)
    (text : Report → List Record → Text) (print : List ℕ → Text) where
  packets-run : (packets : List (List ℕ)) (m : encoder.Memory)
      → packets_by (site_of z salt text) (code z salt slot print) packets m ≡ encoder.offer_all (encoder.packet_call z salt) packets m
  unfolding packets_by encoder.offer_all
  packets-run [] m = refl
  packets-run (p ∷ later) m = packets-run later (encoder.leaves (encoder.packet_call z salt p m))

  calls_are : (later : List Call) (v : Live) → calls_by (site_of z salt text) (code z salt slot print) later v ≡ calls_on ipv4_layout later v
  unfolding calls_by calls_on
  calls_are [] v = refl
  calls_are (hand x ∷ later) v = calls_are later (call_on ipv4_layout (hand x) v)
  calls_are (settling ∷ later) v = calls_are later (call_on ipv4_layout settling v)

  accepted-same : (later : List Call) (v : Live) → accepted_by (site_of z salt text) (code z salt slot print) later v ≡ accepted ipv4_layout later v
  unfolding accepted_by accepted
  accepted-same [] v = refl
  accepted-same (settling ∷ later) v = accepted-same later (call_on ipv4_layout settling v)
  accepted-same (hand x ∷ later) v =
      ap (λ a. cond (eqb (hand_over_number (hand_over ipv4_layout v.numbers x v.room).answer) 0) (x ∷ a) a)
      (accepted-same later (call_on ipv4_layout (hand x) v))

  module _ (packets : List (List ℕ)) where
    abbrev m : encoder.Memory
    m = encoder.packets_run z salt packets

    abbrev pub image : List ℕ
    image = image_of ipv4_layout z salt slot m.filter m.cells

    abbrev pub v : Live
    v = opened_live ipv4_layout z salt slot image

    abbrev taken : List Taken
    taken = encoder.taken_in z salt packets

    abbrev means : encoder.Means ipv4_layout z salt m taken
    means = packets-mean z salt packets

    received : Received ipv4_layout z salt slot m v
    received = goes_through ipv4_layout lays-ipv4 z r salt slot salt-fits slot-fits m taken means
        (image_room z) (length-replicate (blocks z * 512) 0) (session_room ipv4_layout z) (rooms z r)

    opens : OpensTo (site_of z salt text) (code z salt slot print) packets image v
    opens = record {
      sealed = ap (λ u. (code {Text = Text} z salt slot print).seal u) (packets-run packets (encoder.cleared ipv4_layout z))
          ∙ ap (λ (x : Sealing). image_by x.image x.answer) (seals ipv4_layout lays-ipv4 z r salt slot salt-fits slot-fits m taken means (image_room z) (length-replicate (blocks z * 512) 0));
      opened = ap (λ (x : Opening). live_by x.room x.answer) (begin.opens ipv4_layout lays-ipv4 z r salt slot salt-fits slot-fits m taken means (session_room ipv4_layout z) (rooms z r));
    }

    -- whatever it opens to is that
    pub image-opened : (i : List ℕ) (u : Live) → OpensTo (site_of z salt text) (code z salt slot print) packets i u → image ≡ i
    image-opened i u o = given-same image i (sym opens.sealed ∙ o.sealed)

    pub opened-is : (i : List ℕ) (u : Live) → OpensTo (site_of z salt text) (code z salt slot print) packets i u → v ≡ u
    opened-is i u o =
        let same = image-opened i u o in
        given-same v u (sym opens.opened ∙ ap (λ s. (code {Text = Text} z salt slot print).opens s) same ∙ o.opened)

    module _ (i : List ℕ) (u : Live) (o : OpensTo (site_of z salt text) (code z salt slot print) packets i u) (later : List Call) (sized : KeysSized 13 later)
        (premises : Premises (encoder.taken_in z salt packets) (accepted_by (site_of z salt text) (code z salt slot print) later u)) where
      abbrev begins : Received ipv4_layout z salt slot m u
      begins = subst (Received ipv4_layout z salt slot m) (opened-is i u o) received

      abbrev there : Premises (encoder.taken_in z salt packets) (accepted ipv4_layout later u)
      there = subst (Premises (encoder.taken_in z salt packets)) (accepted-same later u) premises

      meets-2 : sessions.Demand2At ipv4_layout z salt (encoder.taken_in z salt packets) (calls_by (site_of z salt text) (code z salt slot print) later u)
      meets-2 = subst (sessions.Demand2At ipv4_layout z salt (encoder.taken_in z salt packets)) (sym (calls_are later u))
          (demand-2 z salt slot packets u begins later (keys-fit later sized) there)

      meets-3 : sessions.Demand3At ipv4_layout z salt (encoder.taken_in z salt packets) (accepted_by (site_of z salt text) (code z salt slot print) later u)
          (calls_by (site_of z salt text) (code z salt slot print) later u)
      meets-3 = subst (λ a. sessions.Demand3At ipv4_layout z salt (encoder.taken_in z salt packets) a
          (calls_by (site_of z salt text) (code z salt slot print) later u)) (sym (accepted-same later u))
          (subst (sessions.Demand3At ipv4_layout z salt (encoder.taken_in z salt packets) (accepted ipv4_layout later u)) (sym (calls_are later u))
          (demand-3 z salt slot packets u begins later (keys-fit later sized) there))

  -- Theorem: the code meets demand 2, for all sizes, salts and slots
  pub code-2 : Meets2 (site_of z salt text) (code z salt slot print)
  code-2 = record { goes_through = λ packets. (image packets, v packets, opens packets); demand = meets-2 }

  -- Theorem: and demand 3
  pub code-3 : Meets3 (site_of z salt text) (code z salt slot print)
  code-3 = meets-3

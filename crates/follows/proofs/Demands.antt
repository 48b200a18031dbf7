-- Demands 2 and 3 about the calls over records.
use mathlib.Core.Path.{◌≡◌, refl, sym, ap, subst, ◌∙◌}
use mathlib.Core.Bool.{cond}
use mathlib.Core.List.{List, [], ◌∷◌}
use lib.Dec.{eqb}
use Prim.Native.Nat.{ℕ}
use Rattle.laws.specs.BigEndian.{Bytes}
use Rattle.layout.specs.declared.Sizes.{Sizes}
use Rattle.layout.specs.Sizes.{ipv4_layout}
use Rattle.packet.specs.Key.{key_bytes}
use Rattle.packet.proofs.KeyBytes.{length-key}
use Rattle.meaning.specs.Meaning as encoder
use Rattle.demands.specs.Calls as numbers
use Rattle.theory.specs.Demands.{Premises}
use Rattle.demands.specs.Demands.{Received, Demand2At, Demand3At}
use Rattle.demands.proofs.Demands as demands
use Rattle.session.specs.Calls.{hand_over, hand_over_number, settle_of}
use Rattle.calls.specs.Calls.{as_numbers, over_records}
use Rattle.follows.specs.Calls.{Held, as_live, Call, handing, settling, as_call, as_calls, call_on, calls_on, accepted}
use Rattle.follows.proofs.Kept.{settle-follows, hand-follows, settle-bytes, hand-bytes}

-- one call over records is the call over numbers, and leaves bytes
pub call-follows : (a : Call) (v : Held) → Bytes v.room.table.xors → as_live (call_on a v) ≡ numbers.call_on ipv4_layout (as_call a) (as_live v)
unfolding call_on numbers.call_on over_records
call-follows (handing key) v h =
    let s = v.numbers in
    ap (λ m. numbers.live (numbers.after_hand s (hand_over ipv4_layout s (key_bytes key) (as_numbers v.room)).answer) m) (hand-follows v.room h s key)
call-follows settling v h =
    let s = v.numbers in
    ap (λ m. numbers.live (numbers.after_settle s (settle_of ipv4_layout s (as_numbers v.room)).answer) m) (settle-follows v.room h s)

pub call-bytes : (a : Call) (v : Held) → Bytes v.room.table.xors → Bytes (call_on a v).room.table.xors
unfolding call_on
call-bytes (handing key) v h = hand-bytes v.room h v.numbers key
call-bytes settling v h = settle-bytes v.room h v.numbers

-- and so are any calls
pub calls-follow : (later : List Call) (v : Held) → Bytes v.room.table.xors
    → as_live (calls_on later v) ≡ numbers.calls_on ipv4_layout (as_calls later) (as_live v)
unfolding calls_on as_calls numbers.calls_on
calls-follow [] v h = refl
calls-follow (a ∷ later) v h =
    calls-follow later (call_on a v) (call-bytes a v h) ∙ ap (numbers.calls_on ipv4_layout (as_calls later)) (call-follows a v h)

keys-fit : (later : List Call) → numbers.KeysFit ipv4_layout (as_calls later)
unfolding as_calls numbers.KeysFit
keys-fit [] = tt
keys-fit (handing key ∷ later) = (length-key key, keys-fit later)
keys-fit (settling ∷ later) = keys-fit later

-- the same keys are accepted
accepted-follow : (later : List Call) (v : Held) → Bytes v.room.table.xors
    → accepted later v ≡ numbers.accepted ipv4_layout (as_calls later) (as_live v)
unfolding as_calls accepted numbers.accepted over_records
accepted-follow [] v h = refl
accepted-follow (settling ∷ later) v h =
    accepted-follow later (call_on settling v) (call-bytes settling v h)
    ∙ ap (numbers.accepted ipv4_layout (as_calls later)) (call-follows settling v h)
accepted-follow (handing key ∷ later) v h =
    let s = v.numbers in
    let rest = accepted-follow later (call_on (handing key) v) (call-bytes (handing key) v h)
    ∙ ap (numbers.accepted ipv4_layout (as_calls later)) (call-follows (handing key) v h) in
    ap (λ r. cond (eqb (hand_over_number (hand_over ipv4_layout s (key_bytes key) (as_numbers v.room)).answer) 0) (key_bytes key ∷ r) r) rest

-- packets of IPv4, as the switch takes them from a start; v is what opening over records left, and its FlowXOR are bytes, as a slice of bytes has them
module _ (z : Sizes) (salt slot : ℕ) (packets : List (List ℕ)) (v : Held) (bytes : Bytes v.room.table.xors)
    (rc : Received ipv4_layout z salt slot (encoder.packets_run z salt packets) (as_live v)) (later : List Call)
    (premises : Premises (encoder.taken_in z salt packets) (accepted later v)) where
  abbrev same : as_live (calls_on later v) ≡ numbers.calls_on ipv4_layout (as_calls later) (as_live v)
  same = calls-follow later v bytes

  abbrev there : Premises (encoder.taken_in z salt packets) (numbers.accepted ipv4_layout (as_calls later) (as_live v))
  there = subst (Premises (encoder.taken_in z salt packets)) (accepted-follow later v bytes) premises

  -- Theorem (demand 2) over records
  pub demand-2 : Demand2At ipv4_layout z salt (encoder.taken_in z salt packets) (as_live (calls_on later v))
  demand-2 = subst (Demand2At ipv4_layout z salt (encoder.taken_in z salt packets)) (sym same)
      (demands.demand-2 z salt slot packets (as_live v) rc (as_calls later) (keys-fit later) there)

  -- Theorem (demand 3) over records
  pub demand-3 : Demand3At ipv4_layout z salt (encoder.taken_in z salt packets) (accepted later v) (as_live (calls_on later v))
  demand-3 = subst (λ a. Demand3At ipv4_layout z salt (encoder.taken_in z salt packets) a (as_live (calls_on later v))) (sym (accepted-follow later v bytes))
      (subst (Demand3At ipv4_layout z salt (encoder.taken_in z salt packets) (numbers.accepted ipv4_layout (as_calls later) (as_live v))) (sym same)
      (demands.demand-3 z salt slot packets (as_live v) rc (as_calls later) (keys-fit later) there))

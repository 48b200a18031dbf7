-- Answer 13, which 02 l takes out of 01's table: no call gives it, and no settling or exchange comes where it was given, whatever image was
-- opened and whatever calls were made.
use mathlib.Core.Path.{◌≡◌}
use mathlib.Core.List.{List}
use Rattle.std.specs.Prelude.{Option, None, Some, Result, Ok, Err}
use Prim.Native.Nat.{ℕ}
use native.Mathlib.Omega.{arith}
use Rattle.laws.specs.BigEndian.{Bytes}
use Rattle.layout.specs.declared.Layout.{Layout}
use Rattle.layout.specs.declared.Sizes.{Sizes}
use Rattle.layout.specs.Sizes.{Lays}
use Rattle.packet.specs.declared.Key.{Key}
use Rattle.packet.specs.Packet.{number}
use Rattle.encoder.specs.declared.StartError.{StartError}
use Rattle.encoder.specs.declared.StartError.TheVariants as start
use Rattle.encoder.specs.declared.TakeError.{TakeError}
use Rattle.encoder.specs.declared.TakeError.TheVariants as take
use Rattle.encoder.specs.Encoder.{start_number, take_number}
use Rattle.sealing.specs.declared.SealError.{SealError}
use Rattle.sealing.specs.declared.SealError.TheVariants as seal
use Rattle.sealing.specs.Seal.{seal_number}
use Rattle.reading.specs.declared.ReadError.{ReadError}
use Rattle.reading.specs.declared.ReadError.TheVariants as read
use Rattle.reading.specs.declared.Image.{Image}
use Rattle.reading.specs.Read.{read_of, read_number}
use Rattle.opening.specs.declared.OpenError.{OpenError}
use Rattle.opening.specs.declared.OpenError.TheVariants as opening
use Rattle.room.specs.declared.Session.{Session}
use Rattle.opening.specs.Open.{open_number}
use Rattle.reading.specs.Read.{image_with}
use Rattle.handing.specs.declared.HandError.TheVariants as hand
use Rattle.session.specs.Errors.{session_number}
use Rattle.session.specs.declared.HandOverError.{HandOverError}
use Rattle.session.specs.declared.HandOverError.TheVariants as over
use Rattle.session.specs.declared.SettleError.{SettleError}
use Rattle.session.specs.declared.SettleError.TheVariants as settled
use Rattle.session.specs.declared.SessionError.{SessionError}
use Rattle.session.specs.declared.SessionError.TheVariants as session
use Rattle.summary.specs.declared.Report.{Report}
use Rattle.session.specs.Calls.{hand_over_number, settle_number, report_number}
use Rattle.exchange.specs.declared.ExchangeError.TheVariants as exchange
use Rattle.exchange.specs.Exchange.{Exchanged, exchange_number}
use Rattle.theory.specs.Family.{two, family_of, one_pair}
use Rattle.theory.specs.Fits.{Fits}
use Rattle.theory.specs.Thirteen.{Never13, ExchangeNever13}
use Rattle.theory.proofs.Settle as theory
use Rattle.theory.proofs.Exchange as theory-exchange
use Rattle.link.proofs.Test8.{session-proper}
use Rattle.demands.specs.Calls.{Live, viewed, switch_at, Passing}
use Rattle.demands.proofs.Images.{image-passing}
use Rattle.demands.proofs.Received.{opened_live}
use Rattle.joint.specs.Exchanges.{pair_before}
use Rattle.joint.specs.History.{History}
use Rattle.joint.proofs.History.{history-passing}

-- ---- no call's answer has the number
-- Theorem: of the ten calls of 01
pub key-13 : (a : Option Key) → number a ≡ 13 → ⊥
key-13 (Some key) e = omega arith
key-13 None e = omega arith

pub start-13 : (a : Result Unit StartError) → start_number a ≡ 13 → ⊥
start-13 (Ok x) e = omega arith
start-13 (Err start.BadSizes) e = omega arith
start-13 (Err start.BadRoom) e = omega arith

pub packet-13 : (a : Result Unit TakeError) → take_number a ≡ 13 → ⊥
packet-13 (Ok x) e = omega arith
packet-13 (Err take.BadSizes) e = omega arith
packet-13 (Err take.BadRoom) e = omega arith
packet-13 (Err take.NoKey) e = omega arith
packet-13 (Err take.Full) e = omega arith

pub seal-13 : (a : Result Unit SealError) → seal_number a ≡ 13 → ⊥
seal-13 (Ok x) e = omega arith
seal-13 (Err seal.BadSizes) e = omega arith
seal-13 (Err seal.BadRoom) e = omega arith
seal-13 (Err seal.BadZero) e = omega arith

pub read-13 : (a : Result Image ReadError) → read_number a ≡ 13 → ⊥
read-13 (Ok i) e = omega arith
read-13 (Err read.Length) e = omega arith
read-13 (Err (read.Check n)) e = omega arith
read-13 (Err (read.Form n)) e = omega arith
read-13 (Err (read.Mixed n)) e = omega arith
read-13 (Err read.Stale) e = omega arith

pub open-13 : (a : Result Session OpenError) → open_number a ≡ 13 → ⊥
open-13 (Ok s) e = omega arith
open-13 (Err (opening.Read x)) e = read-13 (Err x) e
open-13 (Err opening.BadRoom) e = omega arith

session-13 : (x : SessionError) → session_number x ≡ 13 → ⊥
session-13 session.NotSession e = omega arith
session-13 session.BadRoom e = omega arith

pub hand-over-13 : (a : Result ℕ HandOverError) → hand_over_number a ≡ 13 → ⊥
hand-over-13 (Ok n) e = omega arith
hand-over-13 (Err (over.Session x)) e = session-13 x e
hand-over-13 (Err (over.Hand hand.NotInFilter)) e = omega arith
hand-over-13 (Err (over.Hand hand.Listed)) e = omega arith
hand-over-13 (Err (over.Hand hand.EmptyCell)) e = omega arith
hand-over-13 (Err (over.Hand hand.TooMany)) e = omega arith

pub settle-13 : (a : Result ℕ SettleError) → settle_number a ≡ 13 → ⊥
settle-13 (Ok n) e = omega arith
settle-13 (Err (settled.Damaged d)) e = omega arith
settle-13 (Err (settled.Session x)) e = session-13 x e

pub report-13 : (a : Result Report SessionError) → report_number a ≡ 13 → ⊥
report-13 (Ok r) e = omega arith
report-13 (Err x) e = session-13 x e

pub exchange-13 : (a : Exchanged) → exchange_number a ≡ 13 → ⊥
exchange-13 (Ok lists) e = omega arith
exchange-13 (Err (exchange.Damaged switch c lists)) e = omega arith
exchange-13 (Err exchange.NotSession) e = omega arith
exchange-13 (Err exchange.OtherSlot) e = omega arith
exchange-13 (Err exchange.BadRoom) e = omega arith

-- ---- and none would come where it was given
-- sessions that pass the test of 8
module _ (l : Layout) where
  passing-fits : (u : Live) → Passing l u → Fits (switch_at l u).size (viewed l u)
  passing-fits u p =
      let s = u.numbers in
      (session-proper l s.sizes s.salt s.listed u.room.table u.room.packets u.room.list p.lent p.passes).0.fits

  passing-13 : (u : Live) → Passing l u → Never13 (switch_at l u) (viewed l u)
  passing-13 u p = theory.never-13 (switch_at l u) (viewed l u) (passing-fits u p)

  both-13 : (u t : Live) → Passing l u → Passing l t → ExchangeNever13 2 (two (switch_at l u) (switch_at l t)) one_pair (family_of (pair_before l u t))
  both-13 u t p q = theory-exchange.exchange-never-13 (switch_at l u) (switch_at l t) (pair_before l u t) (passing-fits u p) (passing-fits t q)

-- an image that is read, clean, damaged or made up, and any hand-overs, settlings and exchanges since it was opened, in any order; u is what stands
module _ (l : Layout) (lays : Lays l) (image : List ℕ) (bytes : Bytes image) (slot : ℕ) (z : Sizes) (salt : ℕ) (e : read_of l image slot ≡ image_with z salt)
    (u : Live) (h : History l (opened_live l z salt slot image) u) where
  standing : Passing l u
  standing = history-passing l (opened_live l z salt slot image) (image-passing l lays image bytes slot z salt e) h

  -- Theorem: no peel of a settling finds 2 N flows listed
  pub never-13 : Never13 (switch_at l u) (viewed l u)
  never-13 = passing-13 l u standing

  -- Theorem: nor does any in an exchange with any session that passes the test of 8, as the first or the second of the two
  pub first-never-13 : (t : Live) → Passing l t → ExchangeNever13 2 (two (switch_at l u) (switch_at l t)) one_pair (family_of (pair_before l u t))
  first-never-13 t q = both-13 l u t standing q

  pub second-never-13 : (t : Live) → Passing l t → ExchangeNever13 2 (two (switch_at l t) (switch_at l u)) one_pair (family_of (pair_before l t u))
  second-never-13 t q = both-13 l t u q standing

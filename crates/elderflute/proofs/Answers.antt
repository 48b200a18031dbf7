-- What each function puts together from the call below it.
use mathlib.Core.Path.{◌≡◌, sym, ap, ap₂, ◌∙◌}
use mathlib.Core.List.{List}
use Prim.Native.Nat.{ℕ}
use Rattle.std.specs.Prelude.{Option, Result, Ok, Err}
use lib.ListN.{length}
use lib.Seq.{sets}
use borrow.Author.Tests.{eq-eqb, ne_eqb}
use Rattle.layout.specs.Sizes.{ipv4_layout}
use Rattle.packet.specs.declared.Key.{Key}
use Rattle.packet.specs.Packet.{key_of}
use Rattle.reading.specs.declared.ReadError.{ReadError}
use Rattle.reading.specs.declared.Image.{Image}
use Rattle.reading.specs.Read.{read_of}
use Rattle.reading.proofs.Accepts.{accepted}
use Rattle.opening.specs.declared.OpenError.{OpenError}
use Rattle.room.specs.declared.Session.{Session}
use Rattle.opening.specs.Open as below
use Rattle.opening.specs.Open.{open_of, open_number, open_block}
use Rattle.opening.proofs.Answers.{open_done}
use Rattle.room.specs.Memory.{Memory}
use Rattle.room.specs.declared.Session.{Session}
use Rattle.session.specs.declared.HandOverError.{HandOverError}
use Rattle.session.specs.declared.SettleError.{SettleError}
use Rattle.session.specs.declared.SessionError.{SessionError}
use Rattle.summary.specs.declared.Report.{Report}
use Rattle.session.specs.Calls as calls
use Rattle.session.specs.Calls.{hand_over, settle_of, report_on}
use Rattle.printing.specs.Print.{most_written, printed}
use Rattle.exchange.specs.Exchange as exchange
use Rattle.exchange.specs.Exchange.{Exchanged, exchange_of}
use Rattle.elderflute.specs.Numbers.{session_of}
use Rattle.elderflute.specs.Exchanges.{ExchangeLeft, exchange_leaves, exchanging, exchange_call}
use Rattle.elderflute.specs.Flowset.{key_leaves, key_call}
use Rattle.elderflute.specs.Images.{ReadSized}
use Rattle.elderflute.specs.Images.{OpenLeft, open_leaves, opening, open_call, OpenSized}
use Rattle.elderflute.specs.Sessions.{HandLeft, hand_leaves, handing, hand_over_call}
use Rattle.elderflute.specs.Sessions.{SettleLeft, settle_leaves, settling, settle_call}
use Rattle.elderflute.specs.Sessions.{Reporting, report_leaves, report_call, printing, print_call}

-- ---- the key of a packet
pub key-is : {a b : Option Key} (packet key : List ℕ) → a ≡ key_of packet → a ≡ b → key_leaves b key ≡ key_call packet key
unfolding key_call
key-is packet key e f = ap (λ x. key_leaves x key) (sym f ∙ e)

-- ---- reading
pub read-sized : (image : List ℕ) (slot : ℕ) (a : Result Image ReadError) → a ≡ read_of ipv4_layout image slot → ReadSized a
read-sized image slot (Ok i) e = (accepted ipv4_layout i.sizes i.salt slot image (sym e)).sizes
read-sized image slot (Err x) e = tt

-- ---- opening
pub open-sized : (image : List ℕ) (slot : ℕ) (m : Memory) (a : Result Session OpenError) {m' : Memory}
    → below.opening a m' ≡ open_of ipv4_layout image slot m → OpenSized a
open-sized image slot m (Ok s) e =
    let d = open_done ipv4_layout image slot m s (ap (λ (x : below.Opening). x.answer) (sym e)) in
    (accepted ipv4_layout s.sizes s.salt slot image d.read_is).sizes
open-sized image slot m (Err x) e = tt

pub open-call : (image : List ℕ) (slot : ℕ) (numbers : List ℕ) (listed : ℕ) (m : Memory) {a : Result Session OpenError} {m' : Memory} {left : OpenLeft}
    → below.opening a m' ≡ open_of ipv4_layout image slot m → left ≡ open_leaves a numbers listed
    → opening left m' ≡ open_call image slot numbers listed m
unfolding open_call
open-call image slot numbers listed m {m' = m'} e f =
    ap (λ (x : OpenLeft). opening x m') f
    ∙ ap (λ (x : below.Opening). opening (open_leaves x.answer numbers listed) x.room) e

-- ---- calls on a session
module _ (numbers : List ℕ) (listed : ℕ) (m : Memory) {s : Session} (told : s ≡ session_of numbers listed) where
  pub hand-call : (key : List ℕ) {a : Result ℕ HandOverError} {m' : Memory} {left : HandLeft} → calls.handing_to a m' ≡ hand_over ipv4_layout s key m
      → left ≡ hand_leaves a listed → handing left m' ≡ hand_over_call numbers listed key m
  unfolding hand_over_call
  hand-call key {m' = m'} e f =
      ap (λ (x : HandLeft). handing x m') f
      ∙ ap (λ (x : calls.Handing). handing (hand_leaves x.answer listed) x.room) (e ∙ ap (λ x. hand_over ipv4_layout x key m) told)

  pub settle-call : (cell : ℕ) {a : Result ℕ SettleError} {m' : Memory} {left : SettleLeft} → calls.settling_to a m' ≡ settle_of ipv4_layout s m
      → left ≡ settle_leaves a listed cell → settling left m' ≡ settle_call numbers listed cell m
  unfolding settle_call
  settle-call cell {m' = m'} e f =
      ap (λ (x : SettleLeft). settling x m') f
      ∙ ap (λ (x : calls.Settling). settling (settle_leaves x.answer listed cell) x.room) (e ∙ ap (λ x. settle_of ipv4_layout x m) told)

  pub report-call : (figures : List ℕ) {a : Result Report SessionError} {left : Reporting} → a ≡ report_on ipv4_layout s m → left ≡ report_leaves a figures
      → left ≡ report_call numbers listed figures m
  unfolding report_call
  report-call figures e f = f ∙ ap (λ x. report_leaves x figures) (e ∙ ap (λ x. report_on ipv4_layout x m) told)

-- ---- the exchange
pub exchange-call : (a : List ℕ) (n : ℕ) (b : List ℕ) (k : ℕ) (told : List ℕ) (m : Memory) {s t : Session} {x : Exchanged} {m' : Memory} {left : ExchangeLeft}
    → s ≡ session_of a n → t ≡ session_of b k → exchange.exchanging x m' ≡ exchange_of ipv4_layout s t m → left ≡ exchange_leaves x n k told
    → exchanging left m' ≡ exchange_call a n b k told m
unfolding exchange_call
exchange-call a n b k told m {m' = m'} i j e f =
    ap (λ (x : ExchangeLeft). exchanging x m') f
    ∙ ap (λ (x : exchange.Exchanging). exchanging (exchange_leaves x.answer n k told) x.room) (e ∙ ap₂ (λ s t. exchange_of ipv4_layout s t m) i j)

-- ---- printing
module _ (input lines : List ℕ) (written : ℕ) where
  pub print-room : (length lines ≡ most_written → ⊥) → printing 16 lines written ≡ print_call input lines written
  unfolding print_call
  print-room h = rw (ne_eqb (length lines) most_written h)

  pub print-done : {lines' : List ℕ} {n : ℕ} → length lines ≡ most_written → n ≡ length (printed input) → lines' ≡ sets lines 0 (printed input)
      → printing 0 lines' n ≡ print_call input lines written
  unfolding print_call
  print-done h e f = rw (e, f, eq-eqb (length lines) most_written h)

-- Texts written one after the other; how long each text is.
use mathlib.Core.Path.{◌≡◌, refl, sym, ap, ◌∙◌}
use Rattle.std.proofs.Common.{Option, Some, None}
use Rattle.std.specs.Option.{ForSome}
use mathlib.Core.List.{List, [], ◌∷◌, ◌++◌}
use Prim.Native.Nat.{ℕ, ◌+◌, ◌/◌, ◌%◌, ◌^◌, ◌≤◌, ◌<◌}
use native.Mathlib.Nat.{add_assoc}
use native.Mathlib.Omega.{arith}
use lib.ListN.{length, length-append, get_or}
use lib.Seq.{length-sets}
use Rattle.std.specs.Borrow.{MutBor}
use Rattle.packet.specs.declared.Key.{Key}
use Rattle.packet.specs.Key.{InRange}
use Rattle.summary.specs.declared.Report.{Report}
use Rattle.summary.specs.declared.State.{State}
use Rattle.summary.specs.declared.State.TheVariants.{Stuck, Short, Stray, Whole}
use Rattle.lines.specs.Text.{Put, space, dot, feed, decimal, followed, spaced, dotted}
use Rattle.lines.specs.Text.{endpoint, count_text, flow_line, state_text, report_text, head_line, refused_line}
use Rattle.lines.specs.declared.Page.{Page}
use Rattle.lines.specs.Page.{Holds, Adds, blank}
use Rattle.laws.proofs.Lists.{sets-append}
use Rattle.lines.proofs.Decimal.{decimal-le}

pub put-none : (s : List ℕ) (at : ℕ) → at ≤ length s → Put s s at at []
put-none s at h = record { place = omega arith; inside = h; bytes = refl }

pub put-length : {a s t : List ℕ} {at r : ℕ} → Put s t at r a → length t ≡ length s
put-length {a} {s} {at = at} p = ap length p.bytes ∙ length-sets s at a

-- a text, and the next from where it ends
pub put_then : {a b s t u : List ℕ} {at r q : ℕ} → Put s t at r a → Put t u r q b → Put s u at q (a ++ b)
put_then {a} {b} {s} {at = at} p n = record {
  place = n.place ∙ rw (p.place, length-append a b) (add_assoc at (length a) (length b));
  inside = rw (put-length p) at n.inside;
  bytes = n.bytes ∙ rw (p.bytes, p.place) (sets-append a b s at);
}

-- the same text by another name
pub put_same : {a b s t : List ℕ} {at r : ℕ} → a ≡ b → Put s t at r a → Put s t at r b
put_same e p = rw (← e) p

-- ---- the same of a page
-- where two texts have room, the first has, and after it the second
pub holds-first : (a b : List ℕ) {p : Page} → Holds p (a ++ b) → Holds p a
holds-first a b h = record { room = omega (arith, h.room, length-append a b) }

pub holds-next : (a b : List ℕ) {p q : Page} → Adds p q a → Holds p (a ++ b) → Holds q b
holds-next a b n h = record { room = omega (arith, h.room, n.put.place, put-length n.put, length-append a b) }

pub adds-then : {p q r : Page} {a b : List ℕ} → Adds p q a → Adds q r b → Adds p r (a ++ b)
adds-then m n = record { lent = n.lent ∙ m.lent; there = n.there ∙ m.there; put = put_then m.put n.put }

-- on a page with nothing written there is room for what the buffer holds, and a text that is added stands at its start
pub blank-holds : {out : MutBor (List ℕ)} {p : Page} (text : List ℕ) → p ≡ blank out → length text ≤ length out.now → Holds p text
blank-holds text e h = rw e (record { room = omega arith })

pub blank-put : {out : MutBor (List ℕ)} {p q : Page} {text after : List ℕ} {n : ℕ} → p ≡ blank out → Adds p q text → after ≡ q.out.now → n ≡ q.at
    → Put out.now after 0 n text
blank-put e a f g = rw (f, g) (rw e at a).put

-- two pages that a text makes of one are one
pub adds-same : {p q r : Page} {a : List ℕ} → Adds p q a → Adds p r a → q ≡ r
adds-same m n =
    let ghost_name = m.lent ∙ sym n.lent in
    let ref_ptr = m.there ∙ sym n.there in
    let now = m.put.bytes ∙ sym n.put.bytes in
    let at = m.put.place ∙ sym n.put.place in
    λ i. record { out = record { ref_ptr = ref_ptr i; ghost_name = ghost_name i; now = now i }; at = at i }

-- the four numbers of an address are its bytes
pub dotted-bytes : (a : ℕ) (s : List ℕ) → a < 2 ^ 32
    → s ≡ (a / 16777216 % 256) ∷ (a / 65536 % 256) ∷ (a / 256 % 256) ∷ (a % 256) ∷ []
    → dotted a ≡ followed (get_or s 0 0) dot ++ (followed (get_or s 1 0) dot ++ (followed (get_or s 2 0) dot ++ decimal (get_or s 3 0)))
unfolding dotted
dotted-bytes a s h e = let top : a / 16777216 % 256 ≡ a / 16777216 = omega arith in rw (e, top)

-- ---- lengths, text by text
pub length-followed : (n mark : ℕ) → length (followed n mark) ≡ length (decimal n) + 1
unfolding followed
length-followed n mark = length-append (decimal n) (mark ∷ [])

pub length-dotted : (a : ℕ) → length (dotted a) ≡ length (followed (a / 2 ^ 24) dot)
    + (length (followed (a / 2 ^ 16 % 256) dot) + (length (followed (a / 2 ^ 8 % 256) dot) + length (decimal (a % 256))))
unfolding dotted
length-dotted a = simp length-append

pub length-endpoint : (address port : ℕ) → length (endpoint address port) ≡ length (dotted address) + (1 + length (spaced port))
unfolding endpoint
length-endpoint address port = simp length-append (omega arith)

pub length-flow : (key : Key) (count : Option ℕ) → length (flow_line key count) ≡ length (endpoint key.source key.sport)
    + (length (endpoint key.destination key.dport) + (length (spaced key.protocol) + (length (count_text count) + 1)))
unfolding flow_line
length-flow key count = simp length-append

pub length-state : (s : State) → length (state_text s) ≡ 5
length-state Stuck = refl
length-state Short = refl
length-state Stray = refl
length-state Whole = refl

pub length-report : (r : Report) → length (report_text r)
    ≡ length (spaced r.listed) + (length (spaced r.counted) + (length (spaced r.opens) + 6))
unfolding report_text
length-report r = simp (length-append, length-state)

pub length-head : (slot salt : ℕ) (r : Report) → length (head_line slot salt r)
    ≡ length (spaced slot) + (length (spaced salt) + length (report_text r))
unfolding head_line
length-head slot salt r = simp length-append

pub length-refused : (n : ℕ) → length (refused_line n) ≡ 8 + length (followed n feed)
unfolding refused_line
length-refused n = omega arith

-- ---- greatest lengths
followed-le : (w n mark : ℕ) → 1 ≤ w → w ≤ 20 → n < 10 ^ w → length (followed n mark) ≤ w + 1
followed-le w n mark l m h = omega (arith, length-followed n mark, decimal-le w n l m h)

dotted-le : (a : ℕ) → a < 2 ^ 32 → length (dotted a) ≤ 15
dotted-le a h =
    let part : (n : ℕ) → n < 256 → length (followed n dot) ≤ 4 = λ n q. followed-le 3 n dot (omega arith) (omega arith) (omega arith) in
    omega (
      arith,
      length-dotted a,
      part (a / 2 ^ 24) (omega arith),
      part (a / 2 ^ 16 % 256) (omega arith),
      part (a / 2 ^ 8 % 256) (omega arith),
      decimal-le 3 (a % 256) (omega arith) (omega arith) (omega arith),
    )

endpoint-le : (address port : ℕ) → address < 2 ^ 32 → port < 2 ^ 16 → length (endpoint address port) ≤ 22
endpoint-le address port h l =
    omega (arith, length-endpoint address port, dotted-le address h, followed-le 5 port space (omega arith) (omega arith) (omega arith))

count-le : (count : Option ℕ) → ForSome count (λ n. n < 2 ^ 32) → length (count_text count) ≤ 10
count-le None h = omega arith
count-le (Some n) h = let few : n < 2 ^ 32 = h n refl in decimal-le 10 n (omega arith) (omega arith) (omega arith)

-- a flow's line: two endpoints of 22, a protocol of 4, a count of 10 and a line feed
pub flow-le : (key : Key) (count : Option ℕ) → InRange key → ForSome count (λ n. n < 2 ^ 32) → length (flow_line key count) ≤ 59
flow-le key count k h =
    omega (
      arith,
      length-flow key count,
      endpoint-le key.source key.sport k.source k.source_port,
      endpoint-le key.destination key.dport k.destination k.destination_port,
      followed-le 3 key.protocol space (omega arith) (omega arith) (omega (arith, k.protocol)),
      count-le count h,
    )

-- the first line: five numbers of at most 10 digits, a space after each, a word of 5 and a line feed
pub head-le : (slot salt : ℕ) (r : Report) → slot < 2 ^ 32 → salt < 2 ^ 32 → r.listed < 2 ^ 32 → r.counted < 2 ^ 32 → r.opens < 2 ^ 32
    → length (head_line slot salt r) ≤ 61
head-le slot salt r a b c d e =
    let number : (n : ℕ) → n < 2 ^ 32 → length (spaced n) ≤ 11 = λ n q. followed-le 10 n space (omega arith) (omega arith) (omega arith) in
    omega (
      arith,
      length-head slot salt r,
      length-report r,
      number slot a,
      number salt b,
      number r.listed c,
      number r.counted d,
      number r.opens e,
    )

pub refused-le : (n : ℕ) → n < 2 ^ 32 → length (refused_line n) ≤ 19
refused-le n h = omega (arith, length-refused n, followed-le 10 n feed (omega arith) (omega arith) (omega arith))

-- and of one of at most three digits
pub refused-short : (n : ℕ) → n < 256 → length (refused_line n) ≤ 12
refused-short n h = omega (arith, length-refused n, followed-le 3 n feed (omega arith) (omega arith) (omega arith))

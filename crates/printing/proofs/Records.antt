-- The lines of the listed flows, and how long they are at most.
use mathlib.Core.Path.{◌≡◌, refl, sym, ap, ◌∙◌}
use mathlib.Core.Bool.{Bool, true, false}
use mathlib.Core.List.{List, ◌++◌}
use Prim.Native.Nat.{ℕ, zero, suc, ◌+◌, ◌-◌, ◌*◌, ◌%◌, ◌^◌, ◌<◌, ◌≤◌}
use native.Mathlib.Omega.{arith}
use lib.Dec.{eqb, ltb}
use Rattle.std.proofs.Common.{Option}
use Rattle.std.specs.Bool.{then_some}
use Rattle.std.specs.Option.{ForSome}
use lib.ListN.{length, get_or, drop, length-append}
use Rattle.laws.specs.BigEndian.{Bytes}
use Rattle.laws.specs.Upto.{join_upto}
use Rattle.laws.proofs.BigEndian.{bytes_take, bytes_drop}
use Rattle.laws.proofs.Digits.{digit-zero}
use Rattle.laws.proofs.Lowest.{number-max}
use Rattle.laws.proofs.Rows.{join_more, join-add}
use Rattle.layout.specs.Sizes.{ipv4_layout}
use Rattle.packet.specs.declared.Key.{Key}
use Rattle.packet.specs.Key.{key_from}
use Rattle.packet.proofs.KeyBytes.{from-in-range}
use Rattle.list.specs.Records.{Records, key_at, is_known}
use Rattle.table.specs.Table.{open_in}
use Rattle.test8.specs.Given.{flag_set}
use Rattle.summary.specs.declared.Report.{Report}
use Rattle.summary.specs.Report.{counted_in, report_of}
use Rattle.lines.specs.Text.{flow_line, head_line}
use Rattle.lines.specs.declared.Page.{Page}
use Rattle.lines.specs.Page.{Holds, Adds}
use Rattle.lines.proofs.Lines.{put-none, holds-first, holds-next, adds-then, flow-le, head-le}
use Rattle.printing.specs.Print.{record_line, listed_lines}

-- the line that the code writes is the record's
pub record_is : (rs : Records) (i : ℕ) {key : Key} {count : Option ℕ} → key ≡ key_from (key_at ipv4_layout rs.keys i)
    → count ≡ then_some (eqb (get_or rs.flags i 0 % 2) 1) (get_or rs.counts i 0) → flow_line key count ≡ record_line rs i
unfolding record_line is_known
record_is rs i e f = rw (e, f, digit-zero (get_or rs.flags i 0))

-- ---- how long the lines are
count-small : (known : Bool) (n : ℕ) → n < 2 ^ 32 → ForSome (then_some known n) (λ m. m < 2 ^ 32)
count-small true n h m e = let same : n ≡ m = cc in omega arith
count-small false n h m e = absurd (cc)

pub record-le : (rs : Records) (i : ℕ) → Bytes rs.keys → get_or rs.counts i 0 < 2 ^ 32 → length (record_line rs i) ≤ 59
unfolding record_line key_at
record-le rs i b h =
    flow-le (key_from (key_at ipv4_layout rs.keys i)) (then_some (is_known rs i) (get_or rs.counts i 0))
    (from-in-range (key_at ipv4_layout rs.keys i) (bytes_take 13 (drop (i * 13) rs.keys) (bytes_drop (i * 13) rs.keys b)))
    (count-small (is_known rs i) (get_or rs.counts i 0) h)

pub records-le : (rs : Records) (n : ℕ) → Bytes rs.keys → ((i : ℕ) → get_or rs.counts i 0 < 2 ^ 32)
    → length (join_upto n (record_line rs)) ≤ n * 59
unfolding join_upto
records-le rs zero b h = omega arith
records-le rs (suc n) b h =
    omega (arith, length-append (join_upto n (record_line rs)) (record_line rs n), records-le rs n b h, record-le rs n b (h n))

-- ---- a turn
-- where the lines of n records have room, and those before record i are written, its line has
pub record-room : (rs : Records) (n i : ℕ) {p q : Page} → Holds p (join_upto n (record_line rs)) → Adds p q (join_upto i (record_line rs)) → i < n
    → Holds q (record_line rs i)
record-room rs n i h a l =
    let f : ℕ → List ℕ = record_line rs in
    let rest : List ℕ = join_upto (n - (i + 1)) (λ j. f (i + 1 + j)) in
    let all : i + 1 + (n - (i + 1)) ≡ n = omega arith in
    let parts : join_upto n f ≡ (join_upto i f ++ f i) ++ rest = ap (λ m. join_upto m f) (sym all) ∙ join-add (i + 1) (n - (i + 1)) f
    ∙ ap (λ s. s ++ rest) (join_more i f) in
    holds-next _ _ a (holds-first (join_upto i f ++ f i) rest (rw parts at h))

pub none-added : (rs : Records) {p : Page} {s : List ℕ} → Holds p s → Adds p p (join_upto 0 (record_line rs))
unfolding join_upto
none-added rs {p} {s} h = record { lent = refl; there = refl; put = put-none p.out.now p.at (omega (arith, h.room)) }

pub one-added : (rs : Records) (i : ℕ) {p q r : Page} → Adds p q (join_upto i (record_line rs)) → Adds q r (record_line rs i)
    → Adds p r (join_upto (i + 1) (record_line rs))
one-added rs i a b = rw (join_more i (record_line rs)) (adds-then a b)

-- ---- the first line
pub report-le : (slot salt n : ℕ) (xors flows packets flags : List ℕ) {r : Report} → slot < 2 ^ 32 → salt < 2 ^ 32 → n ≤ 3072 → length flows ≤ 1536
    → r ≡ report_of n xors flows packets flags → length (head_line slot salt r) ≤ 61
unfolding report_of counted_in open_in
report-le slot salt n xors flows packets flags a b h l e =
    rw e
    (head-le slot salt (report_of n xors flows packets flags) a b (omega arith)
    (omega (arith, number-max n (λ i. flag_set 0 (get_or flags i 0))))
    (omega (arith, number-max (length flows) (λ c. ltb 0 (get_or flows c 0)))))

-- the first line, and the lines of the listed flows
pub listed-added : (slot salt n : ℕ) (xors flows packets : List ℕ) (rs : Records) {p q r : Page} {x : Report}
    → x ≡ report_of n xors flows packets rs.flags
    → Adds p q (head_line slot salt x) → Adds q r (join_upto n (record_line rs)) → Adds p r (listed_lines slot salt n xors flows packets rs)
unfolding listed_lines
listed-added slot salt n xors flows packets rs e a b = adds-then (rw e at a) b

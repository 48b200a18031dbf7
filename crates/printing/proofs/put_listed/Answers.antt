-- The first line, then the flows.
use native.Mathlib.Omega.{arith}
use borrow.Author.Rules.{rules}
use lib.ListN.{length-append}
use Rattle.laws.specs.Upto.{join_upto}
use Rattle.list.specs.Records.{records}
use Rattle.lines.specs.Text.{head_line}
use Rattle.lines.proofs.Lines.{holds-next, blank-holds, blank-put}
use Rattle.printing.specs.Print.{record_line}
use Rattle.printing.proofs.Records.{report-le, records-le, listed-added}
use Rattle.printing.proofs.put_listed.Goals as goal

pub head-requires : goal.head-requires
head-requires c =
    let a = c.args in
    let h = report-le a.slot a.salt a.n a.xors.now a.flows.now a.packets.now a.flags.now (omega arith) (omega arith) (omega arith) (omega arith)
    c.report_of-report.ensures in
    blank-holds _ c.new-page.ensures (omega arith)

pub put_records-requires : goal.put_records-requires
put_records-requires c =
    let a = c.args in
    let rs = records a.keys.now a.counts.now a.flags.now in
    let h = report-le a.slot a.salt a.n a.xors.now a.flows.now a.packets.now a.flags.now (omega arith) (omega arith) (omega arith) (omega arith)
    c.report_of-report.ensures in
    let l = records-le rs a.n (λ i. (c.type_inv.keys i).fits) (λ i. (c.type_inv.counts i).fits) in
    let e = length-append (head_line a.slot a.salt c.report_of-report.result) (join_upto a.n (record_line rs)) in
    (holds-next _ _ c.head.ensures (blank-holds _ c.new-page.ensures (omega arith)), omega arith, omega arith, omega arith)

pub returns : goal.returns
returns c =
    let a = c.args in
    let rs = records a.keys.now a.counts.now a.flags.now in
    blank-put c.new-page.ensures
    (listed-added a.slot a.salt a.n a.xors.now a.flows.now a.packets.now rs c.report_of-report.ensures c.head.ensures c.put_records.ensures)
    (search rules) c.written.ensures

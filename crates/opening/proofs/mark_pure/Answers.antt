-- `opening::mark_pure` meets its contract.
use Rattle.std.proofs.Common.{◌≡◌, ◌*◌, length, refl, ap, ap₂, ◌∙◌, arith}
use Rattle.laws.specs.Upto.{each_upto}
use Rattle.laws.proofs.Rows.{row_within}
use Rattle.layout.specs.Sizes.{table_cells}
use Rattle.layout.proofs.Ranges.{part_low}
use Rattle.table.specs.Table.{Tab, tab, pure_at}
use Rattle.test8.proofs.Notes.{part_of}
use Rattle.opening.specs.Open.{marks_of}
use Rattle.opening.proofs.Pure.{marks_to, marks-turn}
use Rattle.opening.proofs.mark_pure.Goals as goal

pub loop-c-init : goal.loop-c-init
unfolding each_upto
loop-c-init c =
    let t = c.args.table.now in
    (ap (tab t.xors.now t.flows.now t.unknowns.now t.positions.now) c.requires.1, (refl, refl, refl, refl, refl, refl, refl, refl, refl, refl))

pub nonzero_div-c : goal.nonzero_div-c
nonzero_div-c c =
    let s = c.args.p.shape in
    omega (arith, part_low s.layout s.sizes s.lays s.ranged, c.part_cells-s.ensures)

pub is_pure-pure-requires : goal.is_pure-pure-requires
is_pure-pure-requires c =
    let a = c.args in
    let s = a.p.shape in
    let n = table_cells s.layout s.sizes in
    let e = c.loop-c.invariant.0 in
    let x : length c.loop-c.table.xors.now ≡ n * s.layout.key = ap (λ (t : Tab). length t.xors) e ∙ c.requires.0.xors-fit in
    let f : length c.loop-c.table.flows.now ≡ n = ap (λ (t : Tab). length t.flows) e ∙ c.requires.0.flows-fit in
    let inside = row_within c.loop-c.c n s.layout.key (omega arith) in
    (part_of s.layout s.sizes s.lays s.ranged a.p.salt c.loop-c.c c.part_cells-s.ensures (omega arith), omega arith, omega arith)

pub loop-c-preserved : goal.loop-c-preserved
loop-c-preserved c =
    let a = c.args in
    let s = a.p.shape in
    let t = a.table.now in
    let u = c.loop-c.table in
    let e = c.loop-c.invariant.0 in
    let x : u.xors.now ≡ t.xors.now = ap (λ (t : Tab). t.xors) e in
    let f : u.flows.now ≡ t.flows.now = ap (λ (t : Tab). t.flows) e in
    let n : u.unknowns.now ≡ t.unknowns.now = ap (λ (t : Tab). t.unknowns) e in
    let p : u.positions.now ≡ t.positions.now = ap (λ (t : Tab). t.positions) e in
    let pure = c.is_pure-pure.ensures ∙ ap₂ (λ v w. pure_at s.layout s.sizes a.p.salt v w c.loop-c.c) x f in
    let m = marks-turn s.layout s.sizes a.p.salt t.xors.now t.flows.now c.loop-c.c (ap (λ (t : Tab). t.marks) e) pure c.put_mark.ensures in
    (rw (x, f, n, p, m), c.loop-c.invariant.1)

pub returns-clause-value : goal.returns-clause-value
unfolding marks_of
returns-clause-value c =
    let a = c.args in
    let s = a.p.shape in
    let t = a.table.now in
    let e : c.loop-c.c ≡ table_cells s.layout s.sizes = omega (arith, c.table_cells-c-end.ensures) in
    c.loop-c.invariant.0
    ∙ ap (λ n. tab t.xors.now t.flows.now t.unknowns.now t.positions.now (marks_to s.layout s.sizes a.p.salt t.xors.now t.flows.now n)) e

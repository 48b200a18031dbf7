-- `found::is_found` meets its contract.
use mathlib.Core.Path.{◌≡◌, sym, ap, ◌∙◌}
use Prim.Native.Nat.{suc}
use native.Mathlib.Omega.{arith}
use lib.ListN.{get_or}
use Rattle.laws.proofs.Upto.{any-yes}
use Rattle.laws.specs.Upto.{any_upto}
use Rattle.list.specs.Records.{key_at, same_bytes, is_listed}
use Rattle.found.specs.Seen.{bucket}
use Rattle.found.proofs.Seen.{place, place_before, down-first, down-next}
use Rattle.found.proofs.is_found.Goals as goal

pub loop-next-init : goal.loop-next-init
loop-next-init c =
    let s = c in
    let a = s.args in
    down-first a.l a.n a.keys.now a.key.now a.seen.now s.requires.2 s.requires.3 (bucket a.at.at) s.requires.4 (omega arith)
    (place_before _ c.first-next.ensures ∙ ap (λ b. get_or a.seen.now b 0) c.bucket.ensures)

pub returns-then-key_is : goal.returns-then-key_is
unfolding is_listed
returns-then-key_is c =
    let a = c.args in
    let at : place c.loop-next.next ≡ suc c.in-Some.i = ap place c.in-Some.is in
    sym (any-yes a.n (λ i. same_bytes (key_at a.l a.keys.now i) a.key.now) c.in-Some.i (omega (arith, c.loop-next.invariant.within))
    (sym c.key_is.ensures ∙ c.if-key_is.true))

pub loop-next-smaller : goal.loop-next-smaller
loop-next-smaller c =
    let s = c in
    let a = s.args in
    (down-next a.l a.n a.keys.now a.key.now a.seen.now s.requires.2 s.requires.3 c.loop-next.invariant c.in-Some.is
    (sym c.key_is.ensures ∙ c.if-key_is.false) c.earlier-next.ensures).1

pub loop-next-preserved : goal.loop-next-preserved
loop-next-preserved c =
    let s = c in
    let a = s.args in
    (down-next a.l a.n a.keys.now a.key.now a.seen.now s.requires.2 s.requires.3 c.loop-next.invariant c.in-Some.is
    (sym c.key_is.ensures ∙ c.if-key_is.false) c.earlier-next.ensures).0

pub returns : goal.returns
unfolding is_listed any_upto
returns c =
    let a = c.args in
    sym (c.loop-next.invariant.decides ∙ ap (λ o. is_listed a.l (place o) a.keys.now a.key.now) c.in_default.is)

-- One read more: what it gave stands behind what was read before, and the input has lost both.
use mathlib.Core.Path.{◌≡◌, ap, subst, sym, ◌∙◌}
use mathlib.Core.List.{List, ◌++◌}
use Prim.Native.Nat.{ℕ, ◌+◌, ◌≤◌}
use lib.ListN.{length, take}
use lib.Seq.{length-take-le, take-append-le, take-append-add}
use Rattle.std.specs.declared.option.Option.{Option}
use Rattle.std.specs.Io.KnownBytes.{Consumes}
use Rattle.std.proofs.KnownBytes.{Consumes-trans}

-- the first bytes of a list whose bytes from d on are others now
taken : (d n : ℕ) (b ys rest : List ℕ) → d ≤ length b → n ≤ length ys → take (d + n) (take d b ++ (ys ++ rest)) ≡ take d b ++ take n ys
taken d n b ys rest h k =
    subst (λ m. take (m + n) (take d b ++ (ys ++ rest)) ≡ take d b ++ take n (ys ++ rest)) (length-take-le d b h)
    (take-append-add (take d b) (ys ++ rest) n) ∙ ap (λ z. take d b ++ z) (take-append-le n ys rest k)

pub read-more : (first before after : Option (List ℕ)) (d n : ℕ) (b ys rest : List ℕ) → d ≤ length b → n ≤ length ys
    → Consumes first before (take d b) → Consumes before after (take n ys) → Consumes first after (take (d + n) (take d b ++ (ys ++ rest)))
read-more first before after d n b ys rest h k p q =
    subst (Consumes first after) (sym (taken d n b ys rest h k)) (Consumes-trans first before after (take d b) (take n ys) p q)

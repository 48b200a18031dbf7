-- `hash::after_salt` meets its contract.
use mathlib.Core.Path.{ap, ◌∙◌}
use Rattle.laws.specs.BigEndian.{bytes_of}
use Rattle.hash.specs.Fnv.{absorb}
use Rattle.hash.specs.Places.{filter_role, cell_role}
use Rattle.hash.proofs.Chain.{role-after, two-states}
use Rattle.hash.proofs.after_salt.Goals as goal

pub returns : goal.returns
returns c =
    let salt = c.args.salt in
    let p = c.word-f.ensures ∙ ap (λ h. absorb h (bytes_of 4 salt)) c.new.ensures in
    two-states salt (role-after salt filter_role p c.byte.ensures) (role-after salt cell_role p c.byte-2.ensures)

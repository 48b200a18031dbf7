-- A page, which holds a lent buffer, and what it means that a text is written on it after what stands there.
use Rattle.std.specs.Prelude.{◌≡◌, List, ℕ, ◌+◌, ◌≤◌, length}
use Rattle.std.specs.Borrow.{MutBor}
use Rattle.lines.specs.Text.{Put}
use Rattle.lines.specs.declared.Page.{Page}

-- there is room for a text
pub record Holds (p : Page) (text : List ℕ) : Type 0 where
  pub room : p.at + length text ≤ length p.out.now

-- a page of a lent buffer, with nothing written
abbrev pub blank : MutBor (List ℕ) → Page
blank out = record { out = out; at = 0 }

-- a text is added to what is written, and the buffer is the one that was lent, where it was
pub record Adds (before after : Page) (text : List ℕ) : Type 0 where
  pub lent : after.out.ghost_name ≡ before.out.ghost_name
  pub there : after.out.ref_ptr ≡ before.out.ref_ptr
  pub put : Put before.out.now after.out.now before.at after.at text

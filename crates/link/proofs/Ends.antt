-- The theory's noted steps, one law for each way that a step ends.
use mathlib.Core.Path.{◌≡◌}
use mathlib.Core.Bool.{true, false}
use mathlib.Core.List.{[]}
use Prim.Native.Nat.{ℕ}
use lib.ListN.{length, get_or}
use Rattle.laws.specs.Upto.{any_upto, lowest}
use Rattle.theory.specs.Encode.{Key, Placement}
use Rattle.theory.specs.Session.{new_record, take_out, set_count, quiet, damaged, next, peel_damaged, peel_at, peel, count_damaged}
use Rattle.theory.specs.Notes.{Noted, note_taken, note_told, peel_noted, ready_by, tell_at, count_noted}

module _ (n : ℕ) (has : Placement) (t : Noted) where
  pub noted-quiet : any_upto n t.notes.marks ≡ false → peel_noted n has t ≡ quiet
  unfolding peel_noted peel
  noted-quiet a = rw a

  module _ (a : any_upto n t.notes.marks ≡ true) where
    pub noted-broken : peel_damaged n has t.session (t.session.cells (lowest n t.notes.marks)).flow_xor ≡ true
        → peel_noted n has t ≡ damaged (lowest n t.notes.marks)
    unfolding peel_noted peel peel_at
    noted-broken d = rw (a, d)

    pub noted-taken : (x : Key) (j : ℕ) → (t.session.cells (lowest n t.notes.marks)).flow_xor ≡ x → length t.session.list ≡ j
        → peel_damaged n has t.session x ≡ false → peel_noted n has t ≡ next (record {
          session = take_out has false x t.session;
          notes = note_taken has x j (take_out has false x t.session) t.notes;
        })
    unfolding peel_noted peel peel_at
    noted-taken x j e q d = rw (a, e, d, q)

  pub counted-quiet : any_upto n (ready_by t) ≡ false → count_noted n has t ≡ quiet
  unfolding count_noted
  counted-quiet a = rw a

  module _ (a : any_upto n (ready_by t) ≡ true) (c j : ℕ) (e : lowest n (ready_by t) ≡ c) (at : t.notes.positions c ≡ j) (x : Key)
      (k : (get_or t.session.list j (new_record false [])).key ≡ x) (v : ℕ) (p : (t.session.cells c).packet_count ≡ v) where
    pub counted-broken : count_damaged n has t.session x v ≡ true → count_noted n has t ≡ damaged c
    unfolding count_noted
    counted-broken d = rw (a, e, at, k, p, d)

    pub counted-told : count_damaged n has t.session x v ≡ false → count_noted n has t ≡ next (record {
      session = record { cells = (set_count has x v t.session).cells; list = tell_at j v t.session.list };
      notes = note_told has x j t.notes;
    })
    unfolding count_noted
    counted-told d = rw (a, e, at, k, p, d)

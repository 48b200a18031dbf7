-- What a session keeps for each cell, and the steps that renew it at a flow's cells only.
use Rattle.std.specs.Prelude.{Bool, true, false, not, cond, ◌&&◌, List, [], ◌∷◌, ℕ, suc, ◌+◌, ◌-◌, eqb, length, get_or, set}
use Rattle.std.specs.Int.Bits.{bit_xor}
use Rattle.laws.specs.Upto.{any_upto, lowest}
use Rattle.theory.specs.Encode.{Key, Placement}
use Rattle.theory.specs.Session.{Record, Session, unknowns_of, pure, unknowns_in, new_record, told_record, take_out, set_count, Step, quiet, damaged, next, Stop, settled, damage, Result, repeat, peel, count_damaged}
use Rattle.theory.specs.HandOver.{Switch, hand_answer}

-- 01 'A session': a mark, "the number of listed flows in it whose count is unknown, and the XOR of their list positions, from 0"
pub record Notes : Type 0 where
  pub marks : ℕ → Bool
  pub unknowns : ℕ → ℕ
  pub positions : ℕ → ℕ

-- a session with its marks and per-cell numbers
pub record Noted : Type 0 where
  pub session : Session
  pub notes : Notes

-- the XOR of the positions, counted from i, of the unknown flows that pass
unfoldable pub positions_from : (Key → Bool) → ℕ → List Record → ℕ
positions_from passes i [] = 0
positions_from passes i (r ∷ rs) =
    cond (not r.known && passes r.key) (bit_xor i (positions_from passes (suc i) rs)) (positions_from passes (suc i) rs)

abbrev pub positions_in : Placement → List Record → ℕ → ℕ
positions_in has list c = positions_from (λ k. has k c) 0 list

-- what cells and list give
unfoldable pub scan : Placement → Session → Notes
scan has s = record {
  marks = pure has s.cells;
  unknowns = unknowns_in has s.list;
  positions = positions_in has s.list;
}

-- a session with right marks and numbers
abbrev pub noted : Placement → Session → Noted
noted has s = record { session = s; notes = scan has s }

-- x was taken out, appended at a position, and s is what there is now: the notes of x's cells are renewed
-- 01 'A session': "leaves the marks and per-cell numbers of all cells but the flow's as they were"
unfoldable pub note_taken : Placement → Key → ℕ → Session → Notes → Notes
note_taken has x position s m = record {
  marks = λ c. cond (has x c) (pure has s.cells c) (m.marks c);
  unknowns = λ c. cond (has x c) (m.unknowns c + 1) (m.unknowns c);
  positions = λ c. cond (has x c) (bit_xor (m.positions c) position) (m.positions c);
}

-- the count of x, at a position, became known
unfoldable pub note_told : Placement → Key → ℕ → Notes → Notes
note_told has x position m = record {
  marks = m.marks;
  unknowns = λ c. cond (has x c) (m.unknowns c - 1) (m.unknowns c);
  positions = λ c. cond (has x c) (bit_xor (m.positions c) position) (m.positions c);
}

-- a step or a result with its state mapped
abbrev pub map_step : {S T : Type 0} → (S → T) → Step S → Step T
map_step h quiet = quiet
map_step h (damaged c) = damaged c
map_step h (next s) = next (h s)

abbrev pub map_result : {S T : Type 0} → (S → T) → Result S → Result T
map_result h r = record { state = h r.state; stop = r.stop }

-- one peel from the lowest mark, right or wrong
unfoldable pub peel_noted : ℕ → Placement → Noted → Step Noted
peel_noted n has t =
    let x = (t.session.cells (lowest n t.notes.marks)).flow_xor in
    map_step (λ s. record { session = s; notes = note_taken has x (length t.session.list) s t.notes })
    (peel n has t.notes.marks t.session)

-- ready, by the numbers that stand there
unfoldable pub ready_by : Noted → ℕ → Bool
ready_by t c = eqb (t.session.cells c).flow_count 0 && eqb (t.notes.unknowns c) 1

-- the record at a position gets its count
unfoldable pub tell_at : ℕ → ℕ → List Record → List Record
tell_at position v rs = set rs position (told_record (get_or rs position (new_record false [])) v)

-- one count step: the unknown flow of a ready cell is the one at the XOR of the positions
unfoldable pub count_noted : ℕ → Placement → Noted → Step Noted
count_noted n has t =
    let c = lowest n (ready_by t) in
    let position = t.notes.positions c in
    let x = (get_or t.session.list position (new_record false [])).key in
    let v = (t.session.cells c).packet_count in
    cond (any_upto n (ready_by t))
    (cond (count_damaged n has t.session x v) (damaged c)
    (next (record {
      session = record { cells = (set_count has x v t.session).cells; list = tell_at position v t.session.list };
      notes = note_told has x position t.notes;
    })))
    quiet

-- a 14 while peeling ends the settling
unfoldable pub then_counts_noted : ℕ → Placement → Noted → Stop → Result Noted
then_counts_noted n has t settled = repeat (count_noted n has) (length (unknowns_of t.session.list)) t
then_counts_noted n has t (damage c) = record { state = t; stop = damage c }

-- settling by the marks and per-cell numbers that stand there
unfoldable pub settle_noted : ℕ → Placement → Noted → Result Noted
settle_noted n has t = then_counts_noted n has (repeat (peel_noted n has) n t).state (repeat (peel_noted n has) n t).stop

-- a hand-over that renews the notes of the key's cells
unfoldable pub hand_noted : Switch → Key → Noted → Noted
hand_noted w x t = cond (eqb (hand_answer w x t.session) 0)
    (record {
      session = take_out w.has true x t.session;
      notes = note_taken w.has x (length t.session.list) (take_out w.has true x t.session) t.notes;
    })
    t

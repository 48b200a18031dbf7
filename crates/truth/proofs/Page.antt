-- The code with its printing program, as a collector, prints what demand 2 asks.
use mathlib.Core.Path.{◌≡◌, refl, sym, ap, ap₂, ◌∙◌}
use mathlib.Core.List.{List, ◌++◌}
use Prim.Native.Nat.{ℕ, ◌*◌, ◌^◌, ◌<◌}
use lib.ListN.{length-replicate}
use Rattle.laws.specs.BigEndian.{bytes_of}
use Rattle.layout.specs.declared.Sizes.{Sizes}
use Rattle.layout.specs.Sizes.{Ranged, ipv4_layout, table_cells, blocks}
use Rattle.layout.proofs.Ranges.{lays-ipv4}
use Rattle.meaning.specs.Meaning as encoder
use Rattle.meaning.proofs.Meaning.{packets-mean}
use Rattle.summary.specs.declared.Report.{Report}
use Rattle.summary.specs.declared.State.{State}
use Rattle.summary.specs.declared.State.TheVariants as state
use Rattle.session.specs.Calls.{settle_of, report_in}
use Rattle.lines.specs.Text.{head_line}
use Rattle.printing.specs.Print.{listed_lines, printed}
use Rattle.theory.specs.Encode.{NeverMistaken}
use Rattle.theory.specs.HandOver.{settling}
use Rattle.theory.specs.Report.{report}
use Rattle.theory.specs.Collector as collector
use Rattle.demands.specs.Calls.{Live, call_on, viewed}
use Rattle.demands.specs.Demands.{state_as, report_as}
use Rattle.demands.specs.Ours.{site_of, image_room, code}
use Rattle.demands.proofs.Received.{seals}
use Rattle.demands.proofs.Reported.{report-counts}
use Rattle.demands.proofs.Ours.{image, v, image-opened, opened-is}
use Rattle.truth.specs.Page.{state_from, report_from, text_of}
use Rattle.truth.proofs.Lines.{lines-of}
use Rattle.truth.proofs.Printed.{shows, settled-passing, same-sizes}

state-back : (s : State) → state_from (state_as s) ≡ s
state-back state.Stuck = refl
state-back state.Short = refl
state-back state.Stray = refl
state-back state.Whole = refl

report-back : (r : Report) → report_from (report_as r) ≡ r
report-back r = ap (λ s. record { listed = r.listed; counted = r.counted; opens = r.opens; state = s }) (state-back r.state)

module _ (z : Sizes) (r : Ranged z) (salt slot : ℕ) (salt-fits : salt < 2 ^ 32) (slot-fits : slot < 2 ^ 32) where
  -- standard input: the slot, then the image
  abbrev pub program : List ℕ → List ℕ
  program i = printed (bytes_of 4 slot ++ i)

  module _ (packets : List (List ℕ)) (clean : NeverMistaken (encoder.taken_in z salt packets)) where
    abbrev m : encoder.Memory
    m = encoder.packets_run z salt packets

    abbrev first : List ℕ
    first = image z r salt slot salt-fits slot-fits (text_of slot salt) program packets

    abbrev opened : Live
    opened = v z r salt slot salt-fits slot-fits (text_of slot salt) program packets

    abbrev u : Live
    u = call_on ipv4_layout settling opened

    prints-first : program first ≡ text_of slot salt (report (table_cells ipv4_layout z) (viewed ipv4_layout u)) (viewed ipv4_layout u).list
    unfolding listed_lines text_of call_on
    prints-first =
        let sealed = seals ipv4_layout lays-ipv4 z r salt slot salt-fits slot-fits m (encoder.taken_in z salt packets) (packets-mean z salt packets)
        (image_room z) (length-replicate (blocks z * 512) 0) in
        let passing = settled-passing z salt slot salt-fits slot-fits packets (image_room z) first sealed clean in
        let told = report_in u.numbers.listed u.room in
        let said : told ≡ report_from (report (table_cells ipv4_layout z) (viewed ipv4_layout u)) = sym (report-back told)
        ∙ ap report_from ((report-counts ipv4_layout u passing).1
        ∙ ap (λ y. report (table_cells ipv4_layout y) (viewed ipv4_layout u)) (same-sizes opened.numbers (settle_of ipv4_layout opened.numbers opened.room).answer)) in
        shows z salt slot salt-fits slot-fits packets (image_room z) first sealed clean
        ∙ ap₂ (λ (a : Report) (t : List ℕ). head_line slot salt a ++ t) said (lines-of u.room.list u.numbers.listed)

  -- Theorem: what the printing program prints of a flowset is the report and the list of what a settling leaves
  pub code-prints : collector.Prints (site_of z salt (text_of slot salt)) (code z salt slot program)
  code-prints packets i w o clean =
      let same : image z r salt slot salt-fits slot-fits (text_of slot salt) program packets ≡ i
      = image-opened z r salt slot salt-fits slot-fits (text_of slot salt) program packets i w o in
      let there = opened-is z r salt slot salt-fits slot-fits (text_of slot salt) program packets i w o in
      ap program (sym same) ∙ prints-first packets clean
      ∙ ap (λ (x : Live). let s = viewed ipv4_layout (call_on ipv4_layout settling x) in text_of slot salt (report (table_cells ipv4_layout z) s) s.list) there

-- `parts::Part::take_from` meets its contract: each turn hands one key over.
use Rattle.std.proofs.Common.{refl, sym, ap, subst, ◌∙◌, ◌+◌, ◌-◌, ◌*◌, arith}
use Rattle.list.specs.Records.{key_at}
use Rattle.list.proofs.Laws.{key-part}
use Rattle.handing.specs.Hand.{Hands, hand_of}
use Rattle.parts.specs.Sides.{hand_list}
use Rattle.parts.specs.Parts.{tab_in, list_in}
use Rattle.parts.proofs.Kept.{kept-self, kept-on, kept-hands, kept-hand}
use Rattle.parts.proofs.Taking.{taking-start, taking-listed, taking-handed, taking-twelves, taking-hands, taking-on, taking-done}
use Rattle.parts.proofs.Part.take_from.Goals as goal

pub loop-i-init : goal.loop-i-init
loop-i-init c =
    let p = c.args.self.now in
    record {
      taking = taking-start _ _ _ _ _ _ _ refl c.handed_in-handed.ensures.0;
      packets = refl;
      kept = kept-self p;
    }

pub take-answer-requires : goal.take-answer-requires
take-answer-requires c =
    let p = c.args.self.now in
    let q = c.loop-i.self in
    let r = c.requires in
    let t = c.loop-i.invariant.taking in
    let lt = c.loop-i-test.true in
    let l = p.placing.shape.layout in
    let i = c.loop-i.i in
    let hands = kept-hands p q c.loop-i.invariant.kept q.listed c.loop-i.handed (key_at l c.args.other.now.keys.now i) (tab_in q) (list_in q) q.seen.now
    (taking-hands _ _ _ _ _ _ _ r.filter-fits r.keys_in r.steady t lt) in
    let part = key-part l c.args.other.now.keys.now i {k = i * l.key + l.key - i * l.key} (omega arith) in (
      subst (λ k. Hands q.placing.shape.layout q.placing.shape.sizes q.placing.salt q.listed c.loop-i.handed k q.filter.now (tab_in q) (list_in q) q.seen.now) (sym part) hands,
      taking-listed _ _ _ _ _ _ _ r.filter-fits r.keys_in r.steady t,
    )

pub overflow_add-handed : goal.overflow_add-handed
overflow_add-handed c =
    let r = c.requires in
    omega (arith, taking-handed _ _ _ _ _ _ _ r.filter-fits r.keys_in r.steady c.loop-i.invariant.taking, c.taken_by-handed.ensures.1)

pub overflow_add-twelves : goal.overflow_add-twelves
overflow_add-twelves c =
    let r = c.requires in
    omega (
      arith,
      taking-twelves _ _ _ _ _ _ _ r.filter-fits r.keys_in r.steady c.loop-i.invariant.taking,
      r.few,
      c.loop-i-test.true,
      c.twelve_by-twelves.ensures.1,
    )

pub loop-i-preserved : goal.loop-i-preserved
loop-i-preserved c =
    let p = c.args.self.now in
    let q = c.loop-i.self in
    let r = c.requires in
    let t = c.loop-i.invariant.taking in
    let l = p.placing.shape.layout in
    let i = c.loop-i.i in
    let part = key-part l c.args.other.now.keys.now i {k = i * l.key + l.key - i * l.key} (omega arith) in
    let next = ap (λ k. hand_of q.placing.shape.layout q.placing.shape.sizes q.placing.salt q.listed k q.filter.now (tab_in q) (list_in q) q.seen.now) part
    ∙ kept-hand p q c.loop-i.invariant.kept q.listed (key_at l c.args.other.now.keys.now i) (tab_in q) (list_in q) q.seen.now in
    record {
      taking = taking-on _ _ _ _ _ _ _ r.filter-fits r.keys_in r.steady t c.loop-i-test.true
          (c.take-answer.ensures.value ∙ next) c.take-answer.ensures.listed c.taken_by-handed.ensures.0 c.twelve_by-twelves.ensures.0;
      packets = c.take-answer.ensures.packets ∙ c.loop-i.invariant.packets;
      kept = kept-on c.take-answer.new.self q p c.take-answer.ensures.kept c.loop-i.invariant.kept;
    }

pub returns-clause-value : goal.returns-clause-value
unfolding hand_list
returns-clause-value c =
    let r = c.requires in
    taking-done _ _ _ _ _ _ _ r.filter-fits r.keys_in r.steady c.loop-i.invariant.taking (omega arith)

pub returns-clause-few : goal.returns-clause-few
returns-clause-few c =
    let r = c.requires in
    omega (arith, taking-twelves _ _ _ _ _ _ _ r.filter-fits r.keys_in r.steady c.loop-i.invariant.taking, r.few, c.loop-i.auto.i-end)

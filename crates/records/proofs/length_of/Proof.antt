-- `records::length_of` meets its contract: a walk of its MIR, by hand. On the way the slice is looked into, where each element shows that its numbers fit.
use Rattle.std.proofs.Common.{refl, List, [], ◌∷◌, ℕ, zero, suc, ◌+◌, length, w64}
use native.Mathlib.Nat.{le_of_suc-le-suc, not-suc-le-zero}
use seplogic.Ra.Ura.{Ura}
use mir.Syntax.{named}
use mir.Val.{Val, vint}
use base.Logic.{SProp, ent, emp, via, fst∗, guard, guard_i}
use base.Fml.{Lft, Share, ftrue, fsep, flft, fhide}
use prog.Memory.{Memory}
use prog.Routine.{Routine}
use prog.Wp.{Calls, Loops, WpFn, Tables}
use types.Logic.{Logic, sem}
use contract.Monad.{Fun}
use contract.Running.{tables, tables_of}
use types.Kit.{given, ‵, ◌⊛◌, ⋆, ◌$◌, ◌∵◌, !, qed, by, move, keep, use1, split, join, fsplit, fjoin, fpick, fpack, suffices, frame, learn, check, done}
use types.Run.{of_opd, stop, fld, returns, enter}
use types.Part.{whole, sub}
use types.ByLocal.{alloc_all, pass_all, free_all, look_at, get_in, sets}
use sound.WpLaws.{WpFn-mono}
use denote.RattleType.{RattleType, owns}
use denote.Laws.{Is, shows}
use denote.Memory.{mem, part_of, cell_at}
use denote.Plain.{uint_Makes}
use denote.Builtin.{usize}
use denote.Ref.{Bor}
use denote.Slice.{slice_val, ShrSlice, Room, shr_slice_vals, shr_slice_Tells, shr_slice_at, elements_shared}
use denote.Index.{row, looks_slice, shuts_slice}
use denote.Shadow.{pure_i}
use denote.Steps.{owned, nothing, peeks}
use denote.Struct.Laws as LL
use denote.Triple.Entry.{Vals, on_entry}
use denote.Triple.Spec.{Meets, triple_of}
use denote.Triple.Table.{entered}
use denote.Triple.Walked.{says, Stays, stay_none_slice, walk_of, Goes-none_slice, ends_at, walked, walk_Meets}
use denote.Exit.{yes}
use denote.Signature.{plain}
use Rattle.packet.specs.contracts.Key as K
use Rattle.packet.proofs.Key.TheLaws as K'
use Rattle.records.specs.Record.{Fits, AllFit}
use Rattle.records.specs.declared.Record.{Record}
use Rattle.records.specs.contracts.Record as T
use Rattle.records.proofs.Record.TheLaws as T'
use Rattle.records.specs.contracts.length_of.Key.{name as #self}
use Rattle.records.specs.contracts.length_of as self'
use Rattle.records.proofs.length_of.Statement as stated
use Rattle.records.proofs.length_of.Code as code

abbrev R : RattleType
R = T.the_row

-- what an element that lies in memory is known to be
element-fits : (r : Record) (vs : List Val) → Is R r vs → Fits r
element-fits r vs p =
    let f = LL.owed T.the_type T'.the_laws r vs p in
    let k = LL.owed K.the_type K'.the_laws r.key _ f.0 in
    record {
      key = record {
        source = k.0.1;
        destination = k.1.0.1;
        source_port = k.1.1.0.1;
        destination_port = k.1.1.1.0.1;
        protocol = k.1.1.1.1.0.1;
      };
      count = f.1.0.1;
    }

one_more : (r : Record) (list : List Record) → Fits r → AllFit list → AllFit (r ∷ list)
one_more r list p q zero h = p
one_more r list p q (suc i) h = q i (le_of_suc-le-suc h)

abbrev stayed : Stays (self'.ended).signature.params (self'.ended).kept
stayed = (stay_none_slice (0 ∷ []) tt (plain (λ _. R)) yes, tt)

module _ {M : Type 1} {𝓤 : Ura M} (𝓛 : Logic 𝓤) where
  open 𝓛 use {H}

  -- a share of a row of elements shows that all fit, and stays
  all_fit : (q : Share) (list : List Record) (b o : ℕ)
      → ent 𝓤 (sem 𝓛 (row R q list b o)) (guard 𝓤 (AllFit list) (sem 𝓛 (row R q list b o)))
  unfolding part_of
  all_fit q [] b o = guard_i 𝓤 (AllFit []) (sem 𝓛 (row R q [] b o)) (λ i h. absurd (not-suc-le-zero h))
  all_fit q (r ∷ list) b o =
      let next = o + (mem R).size in
      qed 𝓛 (‵ (row R q (r ∷ list) b o) ∷ []) {P = guard 𝓤 (AllFit (r ∷ list)) (sem 𝓛 (row R q (r ∷ list) b o))} (
      fsplit ! $ fpick ! (λ vs. fsplit ! $ move ! (1 ∷ []) $ peeks ! R (Is R) (shows 𝓛 R) r vs (λ p.
      move ! (1 ∷ 0 ∷ []) $ fjoin ! $ fpack ! (List Val) (λ us. fsep (cell_at q R.mir us b o) (R.own_val r us)) vs $
      move ! (1 ∷ []) $ use1 𝓛 (given (AllFit list) (‵ (row R q list b next))) (all_fit q list b next) $ learn ! (λ rest.
      check ! (one_more r list (element-fits r vs p) rest) $ move ! (1 ∷ 0 ∷ []) $ fjoin ! $ done !))))

  module _ (memory : Memory → SProp 𝓤) (run : Routine → Fun 𝓤) (κ : Lft) (q : Share) (b o : ℕ) (list : List Record) where
    abbrev n : ℕ
    n = length list

    abbrev x : Bor (List Record)
    x = record { ref_ptr = (b, o); now = list }

    abbrev s : Val
    s = slice_val (b, o) n

    abbrev a : Bor (List Record) × Unit {0}
    a = (x, tt)

    abbrev vals : Vals self'.signature (κ, tt)
    vals = (s ∷ [], tt)

    abbrev bound : (walk_of 𝓛 self'.ended stayed (self'.clauses 𝓛 memory run)).Ghost
    bound = (((κ, tt), (q, tt), tt, a, vals), tt)

    abbrev Post : Val → SProp 𝓤
    Post = (walk_of 𝓛 self'.ended stayed (self'.clauses 𝓛 memory run)).post bound

    exits : Room R n → AllFit list → ent 𝓤 (⋆ 𝓛 (‵ (flft κ q) ∷ ‵ (fhide (elements_shared R list b o κ)) ∷ [])) (Post (vint w64 n))
    exits room fit =
        qed 𝓛 (‵ (flft κ q) ∷ ‵ (fhide (elements_shared R list b o κ)) ∷ []) ∵
        suffices ! _ (ends_at 𝓛 self'.ended stayed (self'.clauses 𝓛 memory run) bound (vint w64 n) n (tt, tt) (tt, tt)) $
        says ! (refl, fit) $ nothing ! $ move ! (1 ∷ 0 ∷ []) $ join ! $
        -- [the token; what the elements show]
        move ! (1 ∷ []) $ pure_i ! (shr_slice_at R x (s ∷ [])) (tt, (tt, tt)) (refl, room) $ fjoin ! $
        nothing ! $ move ! (1 ∷ 0 ∷ []) $ fjoin ! $ move ! (1 ∷ 0 ∷ []) $
        frame ! $ frame ! $ owned ! usize (Is usize) (uint_Makes 𝓛 w64) n _ (refl, room.0) $ done !

    walk : (C : Calls 𝓤 H) (Λ : Loops 𝓤 H) → Room R n
        → ent 𝓤 (on_entry 𝓛 self'.signature (κ, tt) (q, tt) a vals) (WpFn 𝓤 H C Λ code.function (s ∷ []) Post)
    walk C Λ room =
        qed 𝓛 ((‵ (flft κ q) ⊛ ‵ ftrue) ∷ ‵ (owns (ShrSlice (named 0) κ R ∷ []) a vals) ∷ []) ∵
        split ! $ move ! (2 ∷ []) $ fsplit ! $ fsplit ! $ keep ! (1 ∷ 3 ∷ []) $
        enter ! C Λ code.function (s ∷ []) _ $ alloc_all ! (λ l. pass_all ! refl ((tt, (tt, (record { fits = room.0 }, tt))), tt) $
        -- [what the elements show; the token; the locals]
        looks_slice ! tt R (LL.copied T.the_type T'.the_copy 𝓛) list b o (λ q'.
        use1 𝓛 (given (AllFit list) (‵ (row R q' list b o))) (all_fit q' list b o) $ learn ! (λ fit. shuts_slice ! tt R q' list b o $
        -- [the token; what the elements show; the locals]
        sets ! (of_opd ! (get_in ! (fld ! refl (stop !)) (sub ! 1 refl (whole !)))) refl (tt, record { fits = room.0 }) $
        returns ! (look_at ! 0 refl) $ free_all ! refl $ by ! (exits room fit))))

self-meets : {M : Type 1} {𝓤 : Ura M} (𝓛 : Logic 𝓤) → (memory : Memory → SProp 𝓤) (run : Routine → Fun 𝓤) (𝓣 : Tables 𝓤 𝓛.H)
    → Meets 𝓛 self'.signature (WpFn 𝓤 𝓛.H 𝓣.C 𝓣.Λ code.function) (self'.spec 𝓛 memory run)
self-meets {𝓤 = 𝓤} 𝓛 memory run 𝓣 =
    let f = WpFn 𝓤 𝓛.H 𝓣.C 𝓣.Λ code.function in
    walk_Meets 𝓛 self'.ended stayed
    (Goes-none_slice 𝓛 1 (0 ∷ []) tt (plain (λ _. R)) yes, tt)
    (self'.clauses 𝓛 memory run) f (WpFn-mono 𝓤 𝓛.H 𝓛.laws 𝓣 code.function)
    (walked 𝓛 self'.ended stayed (self'.clauses 𝓛 memory run) f
    (λ κs. (shr_slice_vals, tt)) (λ κs. (shr_slice_Tells (named 0) κs.0 R, tt))
    (λ κs qs bounds a g are. via 𝓤 _ (fst∗ 𝓤 _ (emp 𝓤))
    (walk 𝓛 memory run κs.0 qs.0 a.0.ref_ptr.0 a.0.ref_ptr.1 a.0.now 𝓣.C 𝓣.Λ are.0.0.1)))

pub length_of_spec : {M : Type 1} → stated.statement M
unfolding tables_of
length_of_spec 𝓤 𝓛 𝓜 𝓡 wired =
    entered 𝓤 𝓛.H (triple_of 𝓛 self'.signature (self'.spec 𝓛 𝓜.mem 𝓡.returns))
    (tables 𝓤 𝓛.H 𝓜 𝓡 𝓡.env).C (tables 𝓤 𝓛.H 𝓜 𝓡 𝓡.env).Λ #self code.function (code.unfolded 𝓤 𝓛.H 𝓜 𝓡 wired)
    (self-meets 𝓛 𝓜.mem 𝓡.returns (tables_of 𝓤 𝓛.H 𝓜 (tables 𝓤 𝓛.H 𝓜 𝓡 𝓡.env)))

-- Passes that are split off opening passes, and met again.
use Rattle.std.proofs.Common.{◌≡◌, ℕ, ◌+◌, ◌-◌, ◌<◌, ◌≤◌, inl, inr, zero, suc, List, [], ◌∷◌, ◌++◌, map, length}
use Rattle.std.proofs.Common.{slice_set, slice_index_or, Some, Bool, true, false, refl, sym, ◌∙◌, ap, ap₂, subst}
use Rattle.std.proofs.Common.{arith, length-append, Result, Ok, Err, OnErr, OnOk}
use Rattle.std.proofs.lemmas.List.{length-set, set_at}
use Rattle.std.specs.List.{All, AllZip}
use Rattle.td_cell.specs.Lists.{itself, merge}
use Rattle.td_cell.specs.OwnMarks.{number_of}
use Rattle.td_cell.specs.Passes.{Belongs, SameCell, knowledge, opened_book}
use Rattle.td_cell.specs.Rules.{all_met}
use Rattle.td_cell.specs.declared.book.Book.{Ghosts}
use Rattle.td_cell.specs.declared.cell.Cell.{Cell}
use Rattle.td_cell.specs.declared.pass.Mark.{Mark}
use Rattle.td_cell.specs.declared.pass.Pass.{Pass}
use Rattle.td_cell.specs.declared.pass.View.{View as Knowledge}
use Rattle.td_trader.specs.Following.{FollowsWritably}
use Rattle.td_trader.specs.PlainTraders.{PlainTrader}
use Rattle.td_trader.proofs.Growing.{writable-on}
use Rattle.td_group.specs.Grouping.{AreOpening, IsAsBefore, IsMetAgain, IsOpeningOf, IsOut, IsUnchanged, MeetsPass}
use Rattle.td_group.specs.Grouping.{OutStays, SamePasses, SplitsInPart, SplitsOff}
use Rattle.td_group.specs.Rows.{Beside, DropsFront, LeadsOn, Rows}
use Rattle.td_group.specs.Seeing.{trader_of}
use Rattle.td_group.specs.Soundness.{IsLegalTrader}
use Rattle.td_group.proofs.RowLaws.{beside_fits, beside_last, beside_less, front_less, front_more, front_none}
use Rattle.td_group.proofs.RowLaws.{rows_left, rows_outer, rows_turned}
use Rattle.td_group.proofs.RowLaws.{zip_all, zip_at, zip_itself, zip_length, zip_map, zip_over, zip_set, zip_through}
use Rattle.td_group.proofs.RowLaws.{zip_weaker}
use Rattle.td_group.proofs.Seen.{before_one, sound_on, one_is, some_one}

-- what holds holds where there is an answer
pub on_ok : {X E : Type 0} {P : Type 0} (r : Result X E) → P → OnOk r P
on_ok (Ok x) p = p
on_ok (Err e) p = tt

-- what holds holds where there is a fault
pub on_err : {X E : Type 0} {P : Type 0} (r : Result X E) → P → OnErr r P
on_err (Ok x) p = tt
on_err (Err e) p = p

all-more : (ms : List Bool) → all_met (ms ++ true ∷ []) ≡ all_met ms
all-more [] = refl
all-more (false ∷ ms) = refl
all-more (true ∷ ms) = all-more ms

set-last : (ms : List Bool) (n : ℕ) → n ≡ length ms + 1 → slice_set (ms ++ false ∷ []) (n - 1) true ≡ ms ++ true ∷ []
set-last ms n e = set_at ms false [] true (n - 1) (let at : length ms ≡ n - 1 = omega arith in at)

same-head : {X : Type 0} (x y : X) (xs ys : List X) → x ∷ xs ≡ y ∷ ys → x ≡ y
same-head x y xs ys e = cc

same-tail : {X : Type 0} (x y : X) (xs ys : List X) → x ∷ xs ≡ y ∷ ys → xs ≡ ys
same-tail x y xs ys e = cc

module _ {A R : Type 0} {g : Ghosts PlainTrader A R} where
  -- ---- one pass

  pub same_trader : (p q : Pass PlainTrader A R g) → (knowledge q).seen ≡ (knowledge p).seen → trader_of q ≡ trader_of p
  same_trader p q e = one_is (knowledge q).seen q.knows (trader_of p) (e ∙ some_one (knowledge p).seen p.knows)

  still-opening : (c : Cell PlainTrader A R) (p q : Pass PlainTrader A R g) → IsOpeningOf c p → SameCell q p
      → (knowledge q).number ≡ (knowledge p).number → (knowledge q).seen ≡ (knowledge p).seen → IsOpeningOf c q
  still-opening c p q o cell number seen = record {
    belongs = cell ∙ o.belongs;
    opening = number ∙ o.opening;
    seen = subst (FollowsWritably (opened_book c)) (sym (same_trader p q seen)) o.seen;
  }

  opening_split : (c : Cell PlainTrader A R) (p t q : Pass PlainTrader A R g) → IsOpeningOf c p → SplitsOff p t q
      → IsOpeningOf c q
  opening_split c p t q o s =
      still-opening c p q o s.same_cell (ap (λ (v : Knowledge PlainTrader). v.number) s.opening) (ap (λ (v : Knowledge
      PlainTrader). v.seen) s.opening)

  opening_same : (c : Cell PlainTrader A R) (p q : Pass PlainTrader A R g) → IsOpeningOf c p → IsUnchanged p q
      → IsOpeningOf c q
  opening_same c p q o s =
      still-opening c p q o s.same_cell (ap (λ (v : Knowledge PlainTrader). v.number) s.knows) (ap (λ (v : Knowledge
      PlainTrader). v.seen) s.knows)

  opening_met : (c : Cell PlainTrader A R) (p t q : Pass PlainTrader A R g) → IsOpeningOf c p → MeetsPass p t q
      → IsOpeningOf c q
  opening_met c p t q o m =
      let l = m.learned in
      let to_book : FollowsWritably (trader_of p) l.book = before_one (knowledge p).seen p.knows l.book l.before.0 in
      let is : trader_of q ≡ l.book = one_is (knowledge q).seen q.knows l.book (ap (λ (v : Knowledge PlainTrader).
      v.seen) l.is) in
      record {
        belongs = m.same_cell ∙ o.belongs;
        opening = m.opening;
        seen = subst (FollowsWritably (opened_book c)) (sym is) (writable-on (opened_book c) (trader_of p) l.book o.seen to_book);
      }

  is_out : (p t q : Pass PlainTrader A R g) → SplitsOff p t q → IsOut q t
  is_out p t q s =
      let number : (knowledge t).number ≡ length (knowledge p).met + 1 = ap (λ (v : Knowledge PlainTrader). v.number)
      s.out in
      let longer : length (knowledge q).met ≡ length (knowledge p).met + 1 = ap (λ (v : Knowledge PlainTrader). length
      v.met) s.opening ∙ length-append (knowledge p).met (false ∷ []) in
      record {
        of_cell = s.of_cell ∙ sym s.same_cell;
        split = record { number = omega arith; known = omega arith };
      }

  -- what is out stays out while the opening pass's list doesn't shrink
  out_on : (p q t : Pass PlainTrader A R g) → SameCell q p → length (knowledge p).met ≤ length (knowledge q).met
      → IsOut p t → IsOut q t
  out_on p q t cell longer o =
      let most = o.split.known in
      record {
        of_cell = o.of_cell ∙ sym cell;
        split = record { number = o.split.number; known = omega arith };
      }

  met_again : (p t q r : Pass PlainTrader A R g) → SplitsOff p t q → MeetsPass q t r → IsMetAgain p r
  met_again p t q r s m =
      let l = m.learned in
      let seen_q : (knowledge q).seen ≡ (knowledge p).seen = ap (λ (v : Knowledge PlainTrader). v.seen) s.opening in
      let seen_t : (knowledge t).seen ≡ (knowledge p).seen = ap (λ (v : Knowledge PlainTrader). v.seen) s.out in
      let book : (knowledge p).seen ≡ Some l.book = elim l.one as (λ _. (knowledge p).seen ≡ Some l.book) [
        | inl e ↦ sym seen_q ∙ e
        | inr e ↦ sym seen_t ∙ e
      ] in
      record {
        same_cell = m.same_cell ∙ s.same_cell;
        seen = one_is (knowledge r).seen r.knows (trader_of p) (ap (λ (v : Knowledge PlainTrader). v.seen) l.is
            ∙ (sym book ∙ some_one (knowledge p).seen p.knows));
        own = ap (λ (v : Knowledge PlainTrader). v.own) l.is
            ∙ ap₂ (λ (xs ys : List ℕ). merge itself xs ys) (ap (λ (v : Knowledge PlainTrader). v.own) s.opening) (ap (λ
            (v : Knowledge PlainTrader). v.own) s.out);
        own_marks = ap (λ (v : Knowledge PlainTrader). v.own_marks) l.is
            ∙ ap₂ (λ (xs ys : List Mark). merge number_of xs ys) (ap (λ (v : Knowledge PlainTrader). v.own_marks)
            s.opening) (ap (λ (v : Knowledge PlainTrader). v.own_marks) s.out);
        turns = ap (λ (v : Knowledge PlainTrader). v.turns) l.is
            ∙ (ap₂ (λ (m n : ℕ). m + n) (ap (λ (v : Knowledge PlainTrader). v.turns) s.opening) (ap (λ (v : Knowledge
            PlainTrader). v.turns) s.out) ∙ (let none : (knowledge p).turns + 0 ≡ (knowledge p).turns = omega arith in
            none));
        longer = ap length m.met
            ∙ (length-set (knowledge q).met ((knowledge t).number - 1) true
            ∙ (ap (λ (v : Knowledge PlainTrader). length v.met) s.opening
            ∙ length-append (knowledge p).met (false ∷ [])));
        met = ap all_met (m.met
            ∙ (ap (λ (ms : List Bool). slice_set ms ((knowledge t).number - 1) true) (ap (λ (v : Knowledge PlainTrader).
            v.met) s.opening)
            ∙ set-last (knowledge p).met (knowledge t).number (ap (λ (v : Knowledge PlainTrader). v.number) s.out)))
            ∙ all-more (knowledge p).met;
      }

  -- the opening pass's list of passes that were split off has lost none
  abbrev Keeps : (p q : Pass PlainTrader A R g) → Type 0
  Keeps p q = SameCell q p × (length (knowledge p).met ≤ length (knowledge q).met)

  keeps-split : (p t q : Pass PlainTrader A R g) → SplitsOff p t q → Keeps p q
  keeps-split p t q s =
      let longer : length (knowledge q).met ≡ length (knowledge p).met + 1 = ap (λ (v : Knowledge PlainTrader). length
      v.met) s.opening ∙ length-append (knowledge p).met (false ∷ []) in
      (s.same_cell, (let most : length (knowledge p).met ≤ length (knowledge q).met = omega arith in most))

  keeps-met : (p t q : Pass PlainTrader A R g) → MeetsPass p t q → Keeps p q
  keeps-met p t q m =
      let same : length (knowledge q).met ≡ length (knowledge p).met = ap length m.met ∙ length-set (knowledge p).met
      ((knowledge t).number - 1) true in
      (m.same_cell, (let most : length (knowledge p).met ≤ length (knowledge q).met = omega arith in most))

  keeps-before : (p q : Pass PlainTrader A R g) → IsAsBefore p q → Keeps p q
  keeps-before p q (inl u) =
      let same : length (knowledge q).met ≡ length (knowledge p).met = ap (λ (v : Knowledge PlainTrader). length v.met)
      u.knows in
      (u.same_cell, (let most : length (knowledge p).met ≤ length (knowledge q).met = omega arith in most))
  keeps-before p q (inr m) =
      let longer = m.longer in
      (m.same_cell, (let most : length (knowledge p).met ≤ length (knowledge q).met = omega arith in most))

  out-over : (p q t : Pass PlainTrader A R g) → Keeps p q → IsOut p t → IsOut q t
  out-over p q t k o = out_on p q t k.0 k.1 o

  pub split_keeps_out : (ps ts qs : List (Pass PlainTrader A R g)) → Rows SplitsOff ps ts qs → OutStays ps qs
  split_keeps_out ps ts qs r = λ us z. zip_over IsOut Keeps out-over ps qs us (rows_outer SplitsOff Keeps keeps-split ps
      ts qs r) z

  pub meet_keeps_out : (ps ts qs : List (Pass PlainTrader A R g)) → Rows MeetsPass ps ts qs → OutStays ps qs
  meet_keeps_out ps ts qs r = λ us z. zip_over IsOut Keeps out-over ps qs us (rows_outer MeetsPass Keeps keeps-met ps ts qs
      r) z

  pub before_keeps_out : (ps qs : List (Pass PlainTrader A R g)) → AllZip IsAsBefore ps qs → OutStays ps qs
  before_keeps_out ps qs b = λ us z. zip_over IsOut Keeps out-over ps qs us (zip_weaker IsAsBefore Keeps keeps-before ps
      qs b) z

  pub all_out : (ps ts qs : List (Pass PlainTrader A R g)) → Rows SplitsOff ps ts qs → AllZip IsOut qs ts
  all_out ps ts qs r = rows_turned SplitsOff IsOut is_out ps ts qs r

  -- what the passes are that a session acted through is out as they were
  pub still_out : (ps us vs : List (Pass PlainTrader A R g)) → SamePasses us vs → AllZip IsOut ps us
      → AllZip IsOut ps vs
  still_out [] [] [] s z = tt
  still_out [] [] (b ∷ vs) s z = absurd (let n = ap length s.1 in omega arith)
  still_out [] (a ∷ us) vs s z = absurd z
  still_out (p ∷ ps) [] vs s z = absurd z
  still_out (p ∷ ps) (a ∷ us) [] s z = absurd (let n = ap length s.1 in omega arith)
  still_out (p ∷ ps) (a ∷ us) (b ∷ vs) s z =
      let number : (knowledge a).number ≡ (knowledge b).number = same-head _ _ _ _ s.1 in
      let cell = same-head _ _ _ _ s.0 in
      let known = z.0.split.known in
      let some = z.0.split.number in (
        record {
          of_cell = sym cell ∙ z.0.of_cell;
          split = record { number = omega arith; known = omega arith };
        },
        still_out ps us vs (same-tail _ _ _ _ s.0, same-tail _ _ _ _ s.1) z.1,
      )

  unchanged : (p : Pass PlainTrader A R g) → IsAsBefore p p
  unchanged p = inl (record { same_cell = refl; knows = refl })

  -- ---- all opening passes

  pub as_before : (ps : List (Pass PlainTrader A R g)) → AllZip IsAsBefore ps ps
  as_before ps = zip_itself IsAsBefore unchanged ps

  pub split_on : (cs : List (Cell PlainTrader A R)) (ps0 ps ts : List (Pass PlainTrader A R g)) (k : ℕ)
      (c : Cell PlainTrader A R) (p t q : Pass PlainTrader A R g) → AreOpening cs ps → DropsFront SplitsOff ts ps0 ps
      → length ts ≡ k → k < length cs → c ≡ slice_index_or cs k c → p ≡ slice_index_or ps k p → SplitsOff p t q
      → DropsFront SplitsOff (ts ++ t ∷ []) ps0 (slice_set ps k q) × AreOpening cs (slice_set ps k q)
  split_on cs ps0 ps ts k c p t q z f e inside one two s =
      let n : length cs ≡ length ps = zip_length IsOpeningOf cs ps z in (
        front_more SplitsOff ts ps0 ps k t p q e (omega arith) two s f,
        zip_set IsOpeningOf cs ps k c q z inside one (opening_split c p t q (zip_at IsOpeningOf cs ps k c p z inside one
            two) s),
      )

  pub split_stops : (cs : List (Cell PlainTrader A R)) (ps0 ps ts : List (Pass PlainTrader A R g)) (k : ℕ)
      (c : Cell PlainTrader A R) (p q : Pass PlainTrader A R g) → AreOpening cs ps → DropsFront SplitsOff ts ps0 ps
      → length ts ≡ k → k < length cs → c ≡ slice_index_or cs k c → p ≡ slice_index_or ps k p → IsUnchanged p q
      → SplitsInPart ps0 ts (slice_set ps k q) × AreOpening cs (slice_set ps k q)
  split_stops cs ps0 ps ts k c p q z f e inside one two s =
      let n : length cs ≡ length ps = zip_length IsOpeningOf cs ps z in (
        record {
          between = ps;
          split = f;
          here = p;
          next = q;
          at = two ∙ ap (λ (i : ℕ). slice_index_or ps i p) (sym e);
          within = omega arith;
          same = s;
          after_is = ap (λ (i : ℕ). slice_set ps i q) (sym e);
        },
        zip_set IsOpeningOf cs ps k c q z inside one (opening_same c p q (zip_at IsOpeningOf cs ps k c p z inside one
            two) s),
      )

  pub meet_on : (cs : List (Cell PlainTrader A R)) (ps0 ps ts0 ts : List (Pass PlainTrader A R g)) (k : ℕ)
      (c : Cell PlainTrader A R) (p t q : Pass PlainTrader A R g) → AreOpening cs ps → Beside IsOut (ts ++ t ∷ []) ps
      → LeadsOn MeetsPass ts0 ps0 (ts ++ t ∷ []) ps → length ts ≡ k → k < length cs → c ≡ slice_index_or cs k c
      → p ≡ slice_index_or ps k p → MeetsPass p t q
      → AreOpening cs (slice_set ps k q) × Beside IsOut ts (slice_set ps k q)
      × LeadsOn MeetsPass ts0 ps0 ts (slice_set ps k q)
  meet_on cs ps0 ps ts0 ts k c p t q z b leads e inside one two m =
      let n : length cs ≡ length ps = zip_length IsOpeningOf cs ps z in
      let short : k < length ps = omega arith in (
        zip_set IsOpeningOf cs ps k c q z inside one (opening_met c p t q (zip_at IsOpeningOf cs ps k c p z inside one
            two) m),
        beside_less IsOut ts ps k t q e b,
        λ ws f. leads ws (front_less MeetsPass ts ps ws k t p q e short two m f),
      )

  -- the last of what is out is taken from the end of the list
  module _ (cs : List (Cell PlainTrader A R)) (ps us ts : List (Pass PlainTrader A R g)) (t : Pass PlainTrader A R g)
      (is : us ≡ ts ++ t ∷ []) (z : AreOpening cs ps) (b : Beside IsOut us ps) where
    out-still : Beside IsOut (ts ++ t ∷ []) ps
    out-still = subst (λ (xs : List (Pass PlainTrader A R g)). Beside IsOut xs ps) is b

    pub content_inside : length ts < length cs
    content_inside =
        let n : length cs ≡ length ps = zip_length IsOpeningOf cs ps z in
        let fits : length (ts ++ t ∷ []) ≤ length ps = beside_fits IsOut (ts ++ t ∷ []) ps out-still in
        let longer : length (ts ++ t ∷ []) ≡ length ts + 1 = length-append ts (t ∷ []) in
        omega arith

    module _ (k : ℕ) (c : Cell PlainTrader A R) (p : Pass PlainTrader A R g) (e : length ts ≡ k)
        (one : c ≡ slice_index_or cs k c) (two : p ≡ slice_index_or ps k p) where
      at-inside : k < length cs
      at-inside = let short = content_inside in omega arith

      pub content_ready : IsOpeningOf c p × IsOut p t
      content_ready = (
        zip_at IsOpeningOf cs ps k c p z at-inside one two,
        beside_last IsOut ts ps k t p e two out-still,
      )

      pub content_met : (ps0 ts0 : List (Pass PlainTrader A R g)) (q : Pass PlainTrader A R g)
          → LeadsOn MeetsPass ts0 ps0 us ps → MeetsPass p t q
          → AreOpening cs (slice_set ps k q) × Beside IsOut ts (slice_set ps k q)
          × LeadsOn MeetsPass ts0 ps0 ts (slice_set ps k q)
      content_met ps0 ts0 q leads m =
          meet_on cs ps0 ps ts0 ts k c p t q z out-still (subst (λ (xs : List (Pass PlainTrader A R g)). LeadsOn MeetsPass
          ts0 ps0 xs ps) is leads) e at-inside one two m

  -- and none is left
  pub meets_all : (ts0 ps0 ts ps : List (Pass PlainTrader A R g)) → ts ≡ [] → LeadsOn MeetsPass ts0 ps0 ts ps
      → DropsFront MeetsPass ts0 ps0 ps
  meets_all ts0 ps0 ts ps e leads = leads ps (front_none MeetsPass ts ps e)

  -- what was split off in part is out
  out-part : (ts ps qs : List (Pass PlainTrader A R g)) (n : ℕ) (next : Pass PlainTrader A R g) → length ts ≡ n
      → DropsFront SplitsOff ts ps qs → Beside IsOut ts (slice_set qs n next)
  out-part [] ps qs n next e f = tt
  out-part (t ∷ ts) [] qs n next e f = absurd f
  out-part (t ∷ ts) (p ∷ ps) [] n next e f = absurd f
  out-part (t ∷ ts) (p ∷ ps) (q ∷ qs) zero next e f = absurd (omega arith)
  out-part (t ∷ ts) (p ∷ ps) (q ∷ qs) (suc n) next e f = (
    is_out p t q f.0,
    out-part ts ps qs n next (omega arith) f.1,
  )

  pub out_in_part : (ps ts qs : List (Pass PlainTrader A R g)) → SplitsInPart ps ts qs → Beside IsOut ts qs
  out_in_part ps ts qs s =
      subst (Beside IsOut ts) (sym s.after_is) (out-part ts ps s.between (length ts) s.next refl s.split)

  way-back : (ts ps qs rs : List (Pass PlainTrader A R g)) (n : ℕ) (here next : Pass PlainTrader A R g)
      → length ts ≡ n → n < length qs → here ≡ slice_index_or qs n here → IsUnchanged here next
      → DropsFront SplitsOff ts ps qs → DropsFront MeetsPass ts (slice_set qs n next) rs → AllZip IsAsBefore ps rs
  way-back [] ps [] rs n here next e inside at same f h = absurd (omega arith)
  way-back [] ps (x ∷ qs) rs zero here next e inside at same f h =
      let first : IsAsBefore x next = inl (subst (λ (y : Pass PlainTrader A R g). IsUnchanged y next) at same) in
      let both : AllZip IsAsBefore (x ∷ qs) (next ∷ qs) = (first, as_before qs) in
      subst (λ (ys : List (Pass PlainTrader A R g)). AllZip IsAsBefore ys rs) f (subst (AllZip IsAsBefore (x ∷ qs)) (sym
      h) both)
  way-back [] ps (x ∷ qs) rs (suc n) here next e inside at same f h = absurd (omega arith)
  way-back (t ∷ ts) [] qs rs n here next e inside at same f h = absurd f
  way-back (t ∷ ts) (p ∷ ps) [] rs n here next e inside at same f h = absurd f
  way-back (t ∷ ts) (p ∷ ps) (q ∷ qs) rs zero here next e inside at same f h = absurd (omega arith)
  way-back (t ∷ ts) (p ∷ ps) (q ∷ qs) [] (suc n) here next e inside at same f h = absurd h
  way-back (t ∷ ts) (p ∷ ps) (q ∷ qs) (r ∷ rs) (suc n) here next e inside at same f h = (
    inr (met_again p t q r f.0 h.0),
    way-back ts ps qs rs n here next (omega arith) (omega arith) at same f.1 h.1,
  )

  pub met_in_part : (ps ts qs rs : List (Pass PlainTrader A R g)) → SplitsInPart ps ts qs → DropsFront MeetsPass ts qs rs
      → AllZip IsAsBefore ps rs
  met_in_part ps ts qs rs s f =
      way-back ts ps s.between rs (length ts) s.here s.next refl s.within s.at s.same s.split (subst (λ (xs : List (Pass
      PlainTrader A R g)). DropsFront MeetsPass ts xs rs) s.after_is f)

  -- ---- a session's passes

  -- the pass is of the cell, and has seen what the cell's trader has become
  abbrev IsOf : Cell PlainTrader A R → Pass PlainTrader A R g → Type 0
  IsOf c t = Belongs t c × FollowsWritably (opened_book c) (trader_of t)

  abbrev SeesAlike : (p t : Pass PlainTrader A R g) → Type 0
  SeesAlike p t = SameCell t p × ((knowledge t).seen ≡ (knowledge p).seen)

  is-of : (c : Cell PlainTrader A R) (p t : Pass PlainTrader A R g) → IsOpeningOf c p → SeesAlike p t → IsOf c t
  is-of c p t o s = (s.0 ∙ o.belongs, subst (FollowsWritably (opened_book c)) (sym (same_trader p t s.1)) o.seen)

  split-of : (p t q : Pass PlainTrader A R g) → SplitsOff p t q → SeesAlike p t
  split-of p t q s = (s.of_cell, ap (λ (v : Knowledge PlainTrader). v.seen) s.out)

  module _ (cs : List (Cell PlainTrader A R)) (ps ts qs : List (Pass PlainTrader A R g)) (z : AreOpening cs ps)
      (r : Rows SplitsOff ps ts qs) where
    passes-of : AllZip IsOf cs ts
    passes-of =
        zip_through IsOpeningOf SeesAlike IsOf is-of cs ps ts z (rows_left SplitsOff SeesAlike split-of ps ts qs r)

    pub of_cells : map (λ (t : Pass PlainTrader A R g). t.seat.table_id) ts ≡ map (λ (c : Cell PlainTrader A R).
        c.table.shared.table_id) cs
    of_cells =
        zip_map IsOf (λ (c : Cell PlainTrader A R). c.table.shared.table_id) (λ (t : Pass PlainTrader A R g).
        t.seat.table_id) (λ c t h. h.0) cs ts passes-of

    pub of_names : map (λ (t : Pass PlainTrader A R g). (trader_of t).name) ts ≡ map (λ (c : Cell PlainTrader A R).
        (opened_book c).name) cs
    of_names =
        zip_map IsOf (λ (c : Cell PlainTrader A R). (opened_book c).name) (λ (t : Pass PlainTrader A R g). (trader_of
        t).name) (λ c t h. h.1.follows.name) cs ts passes-of

    pub of_sound : All (λ (c : Cell PlainTrader A R). IsLegalTrader (opened_book c)) cs
        → All (λ (t : Pass PlainTrader A R g). IsLegalTrader (trader_of t)) ts
    of_sound l =
        zip_all IsOf (λ (c : Cell PlainTrader A R). IsLegalTrader (opened_book c)) (λ (t : Pass PlainTrader A R g). IsLegalTrader
        (trader_of t)) (λ c t h k. sound_on (opened_book c) (trader_of t) h.1.follows k) cs ts passes-of l

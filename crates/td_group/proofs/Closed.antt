-- A group that is opened, and closed.
use Rattle.std.proofs.Common.{◌≡◌, ℕ, ◌<◌, ◌≤◌, List, [], ◌∷◌, ◌++◌, map, length, reverse, Bool, true, false, ◌&&◌}
use Rattle.std.proofs.Common.{◌+◌, drop, slice_index_or, refl, sym, ◌∙◌, ap, subst, append-nil, append_assoc, arith}
use Rattle.std.proofs.lemmas.List.{drop_all, drop_more, nil_from_length, reverse-append, reverse-reverse}
use Rattle.std.specs.List.{All, AllZip, IsDistinct}
use Rattle.std.specs.Str.{bytes_eq}
use Rattle.td_cdr.specs.Marks.{In}
use Rattle.td_cell.specs.Passes.{knowledge, opened_book}
use Rattle.td_cell.specs.Rules.{Before, all_met}
use Rattle.td_cell.specs.declared.book.Book.{Ghosts}
use Rattle.td_cell.specs.declared.cell.Cell.{Cell}
use Rattle.td_cell.specs.declared.pass.Pass.{Pass}
use Rattle.td_cell.specs.declared.pass.View.{View as Knowledge}
use Rattle.td_trader.specs.Following.{FollowsWritably}
use Rattle.td_trader.specs.PlainTraders.{PlainTrader}
use Rattle.td_trader.specs.Solos.{AreDistinct}
use Rattle.td_trader.proofs.Growing.{writable-itself}
use Rattle.td_group.specs.Grouping.{AreOpening, ClosesOn, IsTakenOut, IsPutIn, IsOpeningOf, IsReady, OpensOn, OpensOne}
use Rattle.td_group.specs.Grouping.{are_met, size_of}
use Rattle.td_group.specs.Rows.{Rows}
use Rattle.td_group.specs.Seeing.{trader_of}
use Rattle.td_group.specs.Soundness.{IsLegalTrader}
use Rattle.td_group.proofs.RowLaws.{rows_left, rows_outer, rows_right, rows_snoc, zip_all, zip_cut, zip_length}
use Rattle.td_group.proofs.RowLaws.{zip_map}
use Rattle.td_group.proofs.Seen.{before_one, one_is}

both-true : (a b : Bool) → (a && b) ≡ true → (a ≡ true) × (b ≡ true)
both-true true b e = (refl, e)
both-true false b e = absurd (let bad : ⊥ = cc in bad)

-- ---- the names of traders

pub name_more : (ts : List PlainTrader) (k : ℕ) (t : PlainTrader) (names more : List (List ℕ)) (n : List ℕ)
    → k < length ts → t ≡ slice_index_or ts k t → n ≡ t.name → more ≡ names ++ n ∷ []
    → names ++ map (λ (x : PlainTrader). x.name) (drop k ts) ≡ map (λ (x : PlainTrader). x.name) ts
    → more ++ map (λ (x : PlainTrader). x.name) (drop (k + 1) ts) ≡ map (λ (x : PlainTrader). x.name) ts
name_more ts k t names more n inside is named pushed all =
    let rest : List (List ℕ) = map (λ (x : PlainTrader). x.name) (drop (k + 1) ts) in
    let here : map (λ (x : PlainTrader). x.name) (drop k ts) ≡ n ∷ rest = ap (map (λ (x : PlainTrader). x.name))
    (drop_more ts k t inside) ∙ ap (λ (m : List ℕ). m ∷ rest) (ap (λ (x : PlainTrader). x.name) (sym is) ∙ sym
    named) in
    ap (λ (ns : List (List ℕ)). ns ++ rest) pushed
    ∙ (append_assoc names (n ∷ []) rest
    ∙ (ap (λ (ns : List (List ℕ)). names ++ ns) (sym here) ∙ all))

module _ {A R : Type 0} {g : Ghosts PlainTrader A R} where
  -- ---- opened

  pub opens_first : (ts : List PlainTrader) (cs : List (Cell PlainTrader A R)) (ps : List (Pass PlainTrader A R g))
      → cs ≡ [] → ps ≡ [] → OpensOn ts ts cs ps
  opens_first ts cs ps c p =
      subst (λ (xs : List (Cell PlainTrader A R)). OpensOn ts ts xs ps) (sym c) (subst (λ (ys : List (Pass PlainTrader A
      R g)). OpensOn ts ts [] ys) (sym p) (λ xs ys r. r))

  pub opens_more : (all left : List PlainTrader) (cs : List (Cell PlainTrader A R)) (ps : List (Pass PlainTrader A R g))
      (t : PlainTrader) (c : Cell PlainTrader A R) (p : Pass PlainTrader A R g) → OpensOn all (t ∷ left) cs ps
      → IsPutIn t c p → OpensOn all left (cs ++ c ∷ []) (ps ++ p ∷ [])
  opens_more all left cs ps t c p h f = λ xs ys r.
      subst (λ (us : List (Cell PlainTrader A R)). Rows IsPutIn all us ((ps ++ p ∷ []) ++ ys)) (sym (append_assoc cs
      (c ∷ []) xs)) (subst (λ (vs : List (Pass PlainTrader A R g)). Rows IsPutIn all (cs ++ c ∷ xs) vs) (sym
      (append_assoc ps (p ∷ []) ys)) (h (c ∷ xs) (p ∷ ys) (f, r)))

  pub opens_all : (all : List PlainTrader) (cs : List (Cell PlainTrader A R)) (ps : List (Pass PlainTrader A R g))
      → OpensOn all [] cs ps → Rows IsPutIn all cs ps
  opens_all all cs ps h =
      subst (λ (us : List (Cell PlainTrader A R)). Rows IsPutIn all us ps) (append-nil cs) (subst (λ (vs : List (Pass
      PlainTrader A R g)). Rows IsPutIn all (cs ++ []) vs) (append-nil ps) (h [] [] tt))

  -- the last of the traders that are left was put into a cell
  pub opens_on : (all xs ys : List PlainTrader) (cs cs2 : List (Cell PlainTrader A R))
      (ps ps2 : List (Pass PlainTrader A R g)) (t : PlainTrader) → xs ≡ ys ++ t ∷ [] → OpensOn all (reverse xs) cs ps
      → OpensOne t cs cs2 ps ps2 → OpensOn all (reverse ys) cs2 ps2
  opens_on all xs ys cs cs2 ps ps2 t e h o =
      let turned : reverse xs ≡ t ∷ reverse ys = ap reverse e ∙ reverse-append ys (t ∷ []) in
      let more = opens_more all (reverse ys) cs ps t o.cell o.pass (subst (λ (us : List PlainTrader). OpensOn all us cs
      ps) turned h) o.fresh in
      subst (λ (us : List (Cell PlainTrader A R)). OpensOn all (reverse ys) us ps2) (sym o.cells_are) (subst (λ (vs :
      List (Pass PlainTrader A R g)). OpensOn all (reverse ys) (cs ++ o.cell ∷ []) vs) (sym o.passes_are) more)

  -- and none is left
  pub opens_done : (ts xs left : List PlainTrader) (cs : List (Cell PlainTrader A R))
      (ps : List (Pass PlainTrader A R g)) → xs ≡ reverse ts → left ≡ [] → OpensOn (reverse xs) (reverse left) cs ps
      → Rows IsPutIn ts cs ps
  opens_done ts xs left cs ps turned none h =
      let same : reverse xs ≡ ts = ap reverse turned ∙ reverse-reverse ts in
      opens_all ts cs ps (subst (λ (us : List PlainTrader). OpensOn us [] cs ps) same (subst (λ (us : List PlainTrader).
      OpensOn (reverse xs) (reverse us) cs ps) none h))

  fresh-opening : (t : PlainTrader) (c : Cell PlainTrader A R) (p : Pass PlainTrader A R g) → IsPutIn t c p
      → IsOpeningOf c p
  fresh-opening t c p f =
      let is : trader_of p ≡ t = one_is (knowledge p).seen p.knows t (ap (λ (v : Knowledge PlainTrader). v.seen) f.seen)
      in record {
        belongs = f.belongs;
        opening = f.opening;
        seen = subst (λ (x : PlainTrader). FollowsWritably x (trader_of p)) (sym f.opened_is) (subst (FollowsWritably t) (sym is)
            (writable-itself t));
      }

  pub opening_all : (ts : List PlainTrader) (cs : List (Cell PlainTrader A R)) (ps : List (Pass PlainTrader A R g))
      → Rows IsPutIn ts cs ps → AreOpening cs ps
  opening_all ts cs ps r = rows_right IsPutIn IsOpeningOf fresh-opening ts cs ps r

  module _ (ts : List PlainTrader) (cs : List (Cell PlainTrader A R)) (ps : List (Pass PlainTrader A R g))
      (r : Rows IsPutIn ts cs ps) where
    stand-in : AllZip (λ (t : PlainTrader) (c : Cell PlainTrader A R). opened_book c ≡ t) ts cs
    stand-in =
        rows_left IsPutIn (λ (t : PlainTrader) (c : Cell PlainTrader A R). opened_book c ≡ t) (λ t c p f. f.opened_is) ts cs
        ps r

    pub cells_named : map (λ (c : Cell PlainTrader A R). (opened_book c).name) cs ≡ map (λ (t : PlainTrader). t.name) ts
    cells_named =
        zip_map (λ (t : PlainTrader) (c : Cell PlainTrader A R). opened_book c ≡ t) (λ (t : PlainTrader). t.name) (λ (c :
        Cell PlainTrader A R). (opened_book c).name) (λ t c e. ap (λ (x : PlainTrader). x.name) e) ts cs stand-in

    pub cells_sound : All IsLegalTrader ts → All (λ (c : Cell PlainTrader A R). IsLegalTrader (opened_book c)) cs
    cells_sound l =
        zip_all (λ (t : PlainTrader) (c : Cell PlainTrader A R). opened_book c ≡ t) IsLegalTrader (λ (c : Cell PlainTrader A R).
        IsLegalTrader (opened_book c)) (λ t c e k. subst IsLegalTrader (sym e) k) ts cs stand-in l

  -- ---- closed

  -- the opening passes from the k-th on
  module _ (ps : List (Pass PlainTrader A R g)) (k : ℕ) where
    module _ (p : Pass PlainTrader A R g) (inside : k < length ps) (is : p ≡ slice_index_or ps k p) where
      met-here : (b : Bool) → all_met (knowledge p).met ≡ b → are_met (drop k ps) ≡ (b && are_met (drop (k + 1) ps))
      met-here b m =
          ap are_met (drop_more ps k p inside ∙ ap (λ (x : Pass PlainTrader A R g). x ∷ drop (k + 1) ps) (sym is))
          ∙ ap (λ (v : Bool). v && are_met (drop (k + 1) ps)) m

      pub met_on : all_met (knowledge p).met ≡ true → are_met (drop k ps) ≡ are_met ps
          → are_met (drop (k + 1) ps) ≡ are_met ps
      met_on m e = sym (met-here true m) ∙ e

      pub unmet_so : all_met (knowledge p).met ≡ false → are_met (drop k ps) ≡ are_met ps → false ≡ are_met ps
      unmet_so m e = sym (met-here false m) ∙ e

    pub met_all : length ps ≤ k → are_met (drop k ps) ≡ are_met ps → true ≡ are_met ps
    met_all past e = sym (ap are_met (drop_all k ps past)) ∙ e

  pub all_ready : (cs : List (Cell PlainTrader A R)) (ps : List (Pass PlainTrader A R g)) → AreOpening cs ps
      → are_met ps ≡ true → AllZip IsReady cs ps
  all_ready [] [] z e = tt
  all_ready [] (p ∷ ps) z e = absurd z
  all_ready (c ∷ cs) [] z e = absurd z
  all_ready (c ∷ cs) (p ∷ ps) z e =
      let h = both-true (all_met (knowledge p).met) (are_met ps) e in
      (record { opening = z.0; met = h.0 }, all_ready cs ps z.1 h.1)

  pub closes_first : (cs : List (Cell PlainTrader A R)) (ps : List (Pass PlainTrader A R g)) (kept : List PlainTrader)
      → kept ≡ [] → ClosesOn cs ps cs ps kept
  closes_first cs ps kept e =
      subst (ClosesOn cs ps cs ps) (sym e) (λ ts r. subst (Rows IsTakenOut cs ps) (sym (append-nil ts)) r)

  pub closes_more : (cs0 cs : List (Cell PlainTrader A R)) (ps0 ps : List (Pass PlainTrader A R g))
      (kept : List PlainTrader) (c : Cell PlainTrader A R) (p : Pass PlainTrader A R g) (t : PlainTrader)
      → ClosesOn cs0 ps0 (cs ++ c ∷ []) (ps ++ p ∷ []) kept → IsTakenOut c p t → ClosesOn cs0 ps0 cs ps (kept ++ t ∷ [])
  closes_more cs0 cs ps0 ps kept c p t h m = λ ts r.
      let same : (ts ++ t ∷ []) ++ reverse kept ≡ ts ++ reverse (kept ++ t ∷ []) = append_assoc ts (t ∷ []) (reverse
      kept) ∙ ap (λ (xs : List PlainTrader). ts ++ xs) (sym (reverse-append kept (t ∷ []))) in
      subst (Rows IsTakenOut cs0 ps0) same (h (ts ++ t ∷ []) (rows_snoc IsTakenOut cs ps ts c p t r m))

  pub closes_all : (cs0 cs : List (Cell PlainTrader A R)) (ps0 ps : List (Pass PlainTrader A R g))
      (kept : List PlainTrader) → cs ≡ [] → ps ≡ [] → ClosesOn cs0 ps0 cs ps kept
      → Rows IsTakenOut cs0 ps0 (reverse kept)
  closes_all cs0 cs ps0 ps kept c p h =
      h [] (subst (λ (us : List (Cell PlainTrader A R)). Rows IsTakenOut us ps []) (sym c) (subst (λ (vs : List (Pass
      PlainTrader A R g)). Rows IsTakenOut [] vs []) (sym p) tt))

  -- no cell is left
  pub closed_all : (cs0 cs : List (Cell PlainTrader A R)) (ps0 ps : List (Pass PlainTrader A R g))
      (kept out : List PlainTrader) → cs ≡ [] → out ≡ reverse kept → AllZip IsReady cs ps
      → ClosesOn cs0 ps0 cs ps kept → Rows IsTakenOut cs0 ps0 out
  closed_all cs0 cs ps0 ps kept out none turned z h =
      let few : length cs ≡ 0 = ap length none in
      let same : length cs ≡ length ps = zip_length IsReady cs ps z in
      subst (Rows IsTakenOut cs0 ps0) (sym turned) (closes_all cs0 cs ps0 ps kept none (nil_from_length ps (omega arith))
      h)

  -- one cell and its pass are taken from the ends
  pub closes_on : (cs0 cs cs2 : List (Cell PlainTrader A R)) (ps0 ps ps2 : List (Pass PlainTrader A R g))
      (kept kept2 : List PlainTrader) (c : Cell PlainTrader A R) (p : Pass PlainTrader A R g) (t : PlainTrader)
      → cs ≡ cs2 ++ c ∷ [] → ps ≡ ps2 ++ p ∷ [] → kept2 ≡ kept ++ t ∷ [] → ClosesOn cs0 ps0 cs ps kept → IsTakenOut c p t
      → ClosesOn cs0 ps0 cs2 ps2 kept2
  closes_on cs0 cs cs2 ps0 ps ps2 kept kept2 c p t one two three h m =
      subst (ClosesOn cs0 ps0 cs2 ps2) (sym three) (closes_more cs0 cs2 ps0 ps2 kept c p t (subst (λ (vs : List (Pass
      PlainTrader A R g)). ClosesOn cs0 ps0 (cs2 ++ c ∷ []) vs kept) two (subst (λ (us : List (Cell PlainTrader A R)).
      ClosesOn cs0 ps0 us ps kept) one h)) m)

  pub ready_on : (cs cs2 : List (Cell PlainTrader A R)) (ps ps2 : List (Pass PlainTrader A R g))
      (c : Cell PlainTrader A R) (p : Pass PlainTrader A R g) → cs ≡ cs2 ++ c ∷ [] → ps ≡ ps2 ++ p ∷ []
      → AllZip IsReady cs ps → AllZip IsReady cs2 ps2 × IsReady c p
  ready_on cs cs2 ps ps2 c p one two z =
      zip_cut IsReady cs2 ps2 c p (subst (λ (vs : List (Pass PlainTrader A R g)). AllZip IsReady (cs2 ++ c ∷ []) vs) two
      (subst (λ (us : List (Cell PlainTrader A R)). AllZip IsReady us ps) one z))

  pub taken_out : (c : Cell PlainTrader A R) (p : Pass PlainTrader A R g) (t : PlainTrader) → all_met (knowledge
      p).met ≡ true → Before FollowsWritably (knowledge p).seen t → FollowsWritably (opened_book c) t → ((k : ℕ) → size_of (opened_book c) ≤ k
      → k < size_of t → In k (knowledge p).own) → IsTakenOut c p t
  taken_out c p t met seen since places = record {
    met = met;
    since = since;
    seen = before_one (knowledge p).seen p.knows t seen;
    places = places;
  }

  pub distinct_still : (cs : List (Cell PlainTrader A R)) (ps : List (Pass PlainTrader A R g)) (ts : List PlainTrader)
      (names : List (List ℕ)) → Rows IsTakenOut cs ps ts
      → map (λ (c : Cell PlainTrader A R). (opened_book c).name) cs ≡ names → IsDistinct bytes_eq names → AreDistinct ts
  distinct_still cs ps ts names r named d =
      let closed : AllZip (λ (c : Cell PlainTrader A R) (t : PlainTrader). t.name ≡ (opened_book c).name) cs ts = rows_outer
      IsTakenOut (λ (c : Cell PlainTrader A R) (t : PlainTrader). t.name ≡ (opened_book c).name) (λ c p t h. h.since.follows.name) cs
      ps ts r in
      let same : map (λ (t : PlainTrader). t.name) ts ≡ map (λ (c : Cell PlainTrader A R). (opened_book c).name) cs = zip_map
      (λ (c : Cell PlainTrader A R) (t : PlainTrader). t.name ≡ (opened_book c).name) (λ (c : Cell PlainTrader A R). (opened_book
      c).name) (λ (t : PlainTrader). t.name) (λ c t e. e) cs ts closed in
      subst (IsDistinct bytes_eq) (sym (same ∙ named)) d

-- Passes that are split off and taken in, as what is seen through them.
use Rattle.std.proofs.Common.{◌≡◌, ◌∙◌, ℕ, List, [], ◌∷◌, map, Some, IsSome, refl, sym, ap, subst}
use Rattle.td_cell.specs.Lists.{Rises, itself}
use Rattle.td_cell.specs.OwnMarks.{number_of}
use Rattle.td_cell.specs.Passes.{knowledge, opened_book}
use Rattle.td_cell.specs.declared.book.Book.{Ghosts}
use Rattle.td_cell.specs.declared.cell.Cell.{Cell}
use Rattle.td_cell.specs.declared.pass.Mark.{Mark}
use Rattle.td_cell.specs.declared.pass.Pass.{Pass}
use Rattle.td_cell.specs.declared.pass.View.{View as Knowledge}
use Rattle.td_group.proofs.Seen.{before_one, one_is, some_one}
use Rattle.td_group.specs.Grouping.{IsTakenOut, IsPutIn, MeetsPass, SplitsOff}
use Rattle.td_group.specs.Rows.{Rows}
use Rattle.td_group.specs.Seeing.{seen_by, trader_of, view_by}
use Rattle.td_server.specs.Rows.{Rows as Beside}
use Rattle.td_trader.specs.Following.{FollowsWritably}
use Rattle.td_trader.specs.PlainTraders.{PlainTrader}
use Rattle.td_trader.specs.Worlds.{View, view_of}
use Rattle.td_sessions.specs.Sessions.{Closes, Continues, Joins, bare}
use Rattle.td_sessions.specs.Whole.{opened_views}

-- what follows is seen to follow
seen_follows : (t u : PlainTrader) (o p m n : List ℕ) → FollowsWritably t u
    → Continues (view_of t o m) (view_of u p n)
seen_follows t u o p m n f = record {
  follows = record {
    name = f.follows.name;
    opening = f.follows.opening;
    bounds = f.follows.bounds;
    more = f.follows.more;
    history = f.follows.history;
    legal = f.follows.legal;
    marks = f.follows.marks;
  };
  admitted = f.admitted;
}

-- what is seen is the trader with what is one's own
view_is : (v : Knowledge PlainTrader) (h : IsSome v.seen) (t : PlainTrader) (own : List ℕ) (marks : List Mark)
    → v.seen ≡ Some t → v.own ≡ own → v.own_marks ≡ marks → view_by v h ≡ view_of t own (map number_of marks)
view_is v h t own marks s o m =
    ap (λ (u : PlainTrader). view_of u v.own (map number_of v.own_marks)) (one_is v.seen h t s)
    ∙ ap (λ (l : List ℕ). view_of t l (map number_of v.own_marks)) o
    ∙ ap (λ (l : List Mark). view_of t own (map number_of l)) m

module _ {A R : Type 0} {g : Ghosts PlainTrader A R} where
  split_first : (p t q : Pass PlainTrader A R g) → SplitsOff p t q → seen_by t ≡ bare (seen_by p)
  split_first p t q s =
      view_is (knowledge t) t.knows (trader_of p) [] []
      (ap (λ (k : Knowledge PlainTrader). k.seen) s.out ∙ some_one (knowledge p).seen p.knows)
      (ap (λ (k : Knowledge PlainTrader). k.own) s.out) (ap (λ (k : Knowledge PlainTrader). k.own_marks) s.out)

  split_keeps : (p t q : Pass PlainTrader A R g) → SplitsOff p t q → seen_by q ≡ seen_by p
  split_keeps p t q s =
      view_is (knowledge q) q.knows (trader_of p) (knowledge p).own (knowledge p).own_marks
      (ap (λ (k : Knowledge PlainTrader). k.seen) s.opening ∙ some_one (knowledge p).seen p.knows)
      (ap (λ (k : Knowledge PlainTrader). k.own) s.opening)
      (ap (λ (k : Knowledge PlainTrader). k.own_marks) s.opening)

  -- a session begins with what is seen, and with nothing of its own
  pub splits_first : (ps ts qs : List (Pass PlainTrader A R g)) → Rows SplitsOff ps ts qs
      → map seen_by ts ≡ map bare (map seen_by ps)
  splits_first [] [] [] r = refl
  splits_first [] [] (q ∷ qs) r = absurd r
  splits_first [] (t ∷ ts) qs r = absurd r
  splits_first (p ∷ ps) [] qs r = absurd r
  splits_first (p ∷ ps) (t ∷ ts) [] r = absurd r
  splits_first (p ∷ ps) (t ∷ ts) (q ∷ qs) r =
      ap (λ (v : View). v ∷ map seen_by ts) (split_first p t q r.0)
      ∙ ap (λ (l : List View). bare (seen_by p) ∷ l) (splits_first ps ts qs r.1)

  pub splits_keep : (ps ts qs : List (Pass PlainTrader A R g)) → Rows SplitsOff ps ts qs
      → map seen_by qs ≡ map seen_by ps
  splits_keep [] [] [] r = refl
  splits_keep [] [] (q ∷ qs) r = absurd r
  splits_keep [] (t ∷ ts) qs r = absurd r
  splits_keep (p ∷ ps) [] qs r = absurd r
  splits_keep (p ∷ ps) (t ∷ ts) [] r = absurd r
  splits_keep (p ∷ ps) (t ∷ ts) (q ∷ qs) r =
      ap (λ (v : View). v ∷ map seen_by qs) (split_keeps p t q r.0)
      ∙ ap (λ (l : List View). seen_by p ∷ l) (splits_keep ps ts qs r.1)

  join_seen : (p t q : Pass PlainTrader A R g) → MeetsPass p t q → Joins (seen_by p) (seen_by t) (seen_by q)
  join_seen p t q m =
      let book : PlainTrader = m.learned.book in
      let same : trader_of q ≡ book =
      one_is (knowledge q).seen q.knows book (ap (λ (k : Knowledge PlainTrader). k.seen) m.learned.is) in
      let own = ap (λ (k : Knowledge PlainTrader). k.own) m.learned.is in
      record {
        before =
            seen_follows (trader_of p) (trader_of q) (knowledge p).own (knowledge q).own
            (map number_of (knowledge p).own_marks) (map number_of (knowledge q).own_marks)
            (subst (FollowsWritably (trader_of p)) (sym same)
            (before_one (knowledge p).seen p.knows book m.learned.before.0));
        seen =
            seen_follows (trader_of t) (trader_of q) (knowledge t).own (knowledge q).own
            (map number_of (knowledge t).own_marks) (map number_of (knowledge q).own_marks)
            (subst (FollowsWritably (trader_of t)) (sym same)
            (before_one (knowledge t).seen t.knows book m.learned.before.1));
        own = own;
        apart = subst (Rises itself) (sym own) m.learned.places;
      }

  -- what a session has seen and done is taken in
  pub joins_all : (ps ts qs : List (Pass PlainTrader A R g)) → Rows MeetsPass ps ts qs
      → Beside Joins (map seen_by ps) (map seen_by ts) (map seen_by qs)
  joins_all [] [] [] r = tt
  joins_all [] [] (q ∷ qs) r = absurd r
  joins_all [] (t ∷ ts) qs r = absurd r
  joins_all (p ∷ ps) [] qs r = absurd r
  joins_all (p ∷ ps) (t ∷ ts) [] r = absurd r
  joins_all (p ∷ ps) (t ∷ ts) (q ∷ qs) r = (join_seen p t q r.0, joins_all ps ts qs r.1)

  -- ---- the opening and the end

  pub fresh_views : (os : List PlainTrader) (cs : List (Cell PlainTrader A R)) (ps : List (Pass PlainTrader A R g))
      → Rows IsPutIn os cs ps → map seen_by ps ≡ opened_views os
  fresh_views [] [] [] r = refl
  fresh_views [] [] (p ∷ ps) r = absurd r
  fresh_views [] (c ∷ cs) ps r = absurd r
  fresh_views (o ∷ os) [] ps r = absurd r
  fresh_views (o ∷ os) (c ∷ cs) [] r = absurd r
  fresh_views (o ∷ os) (c ∷ cs) (p ∷ ps) r =
      let k = r.0.seen in
      ap (λ (v : View). v ∷ map seen_by ps)
      (view_is (knowledge p) p.knows o [] [] (ap (λ (v : Knowledge PlainTrader). v.seen) k)
      (ap (λ (v : Knowledge PlainTrader). v.own) k) (ap (λ (v : Knowledge PlainTrader). v.own_marks) k))
      ∙ ap (λ (l : List View). view_of o [] [] ∷ l) (fresh_views os cs ps r.1)

  -- the cells were opened with these traders
  pub opened_all : (os : List PlainTrader) (cs : List (Cell PlainTrader A R)) (ps : List (Pass PlainTrader A R g))
      → Rows IsPutIn os cs ps → map opened_book cs ≡ os
  opened_all [] [] [] r = refl
  opened_all [] [] (p ∷ ps) r = absurd r
  opened_all [] (c ∷ cs) ps r = absurd r
  opened_all (o ∷ os) [] ps r = absurd r
  opened_all (o ∷ os) (c ∷ cs) [] r = absurd r
  opened_all (o ∷ os) (c ∷ cs) (p ∷ ps) r =
      ap (λ (t : PlainTrader). t ∷ map opened_book cs) r.0.opened_is
      ∙ ap (λ (l : List PlainTrader). o ∷ l) (opened_all os cs ps r.1)

  close_seen : (c : Cell PlainTrader A R) (p : Pass PlainTrader A R g) (t : PlainTrader) → IsTakenOut c p t
      → Closes (opened_book c) (seen_by p) t
  close_seen c p t m = record {
    since = m.since;
    seen = seen_follows (trader_of p) t (knowledge p).own [] (map number_of (knowledge p).own_marks) [] m.seen;
    places = m.places;
  }

  pub closes_all : (cs : List (Cell PlainTrader A R)) (ps : List (Pass PlainTrader A R g)) (ts : List PlainTrader)
      → Rows IsTakenOut cs ps ts → Rows Closes (map opened_book cs) (map seen_by ps) ts
  closes_all [] [] [] r = tt
  closes_all [] [] (t ∷ ts) r = absurd r
  closes_all [] (p ∷ ps) ts r = absurd r
  closes_all (c ∷ cs) [] ts r = absurd r
  closes_all (c ∷ cs) (p ∷ ps) [] r = absurd r
  closes_all (c ∷ cs) (p ∷ ps) (t ∷ ts) r = (close_seen c p t r.0, closes_all cs ps ts r.1)

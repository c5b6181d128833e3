-- A session's passes: what each has seen, and what a turn through one of them makes of it.
use Rattle.std.proofs.Common.{◌≡◌, ℕ, ◌<◌, List, length, map, slice_get, slice_set, slice_index_or, Some, refl, sym, ap}
use Rattle.std.proofs.Common.{◌∙◌, ◌+◌, subst, arith}
use Rattle.std.proofs.lemmas.List.{length-map, map-set}
use Rattle.std.proofs.lemmas.List.Elements.{All-set}
use Rattle.std.proofs.lemmas.Option.{slice_get_read}
use Rattle.std.specs.List.{All, IsDistinct}
use Rattle.std.specs.Str.{bytes_eq}
use Rattle.td_cell.specs.Passes.{Belongs, SameCell, knowledge}
use Rattle.td_cell.specs.Rules.{ActsOnce}
use Rattle.td_cell.specs.declared.book.Book.{Ghosts}
use Rattle.td_cell.specs.declared.cell.Cell.{Cell}
use Rattle.td_cell.specs.declared.pass.Pass.{Pass}
use Rattle.td_trader.specs.Following.{FollowsWritably}
use Rattle.td_trader.specs.PlainTraders.{PlainTrader}
use Rattle.td_trader.specs.Worlds.{AdmittedAt, AdmittedIn, LegalAt, LegalIn, View, history_at, history_in, name_at}
use Rattle.td_group.specs.Acting.{TraderActs}
use Rattle.td_group.specs.Grouping.{MakesOneTurn, marks_of, size_of}
use Rattle.td_group.specs.Seeing.{TurnAt, seen_by, trader_of}
use Rattle.td_group.specs.Soundness.{IsLegalTrader}
use Rattle.td_group.specs.declared.shared_trader.Act.{Act}
use Rattle.td_group.specs.declared.shared_trader.Reply.{Reply}
use Rattle.td_group.proofs.Calls.{distinct_seen, name_seen}
use Rattle.td_group.proofs.RowLaws.{all_at, got, kept_at, named_inside, paired_inside, same_at}
use Rattle.td_group.proofs.Seen.{some_one, sound_on, turn_at, turn_follows}

module _ {A R : Type 0} {g : Ghosts PlainTrader A R} where
  -- ---- a turn

  pub pass_follows : (p q : Pass PlainTrader A R g) (a : Act) (r : Reply) → ActsOnce FollowsWritably size_of marks_of TraderActs
      (knowledge p) a r (knowledge q) → FollowsWritably (trader_of p) (trader_of q)
  pass_follows p q a r t = turn_follows (knowledge p) (knowledge q) p.knows q.knows a r t

  module _ (ps : List (Pass PlainTrader A R g)) (k : ℕ) (p q : Pass PlainTrader A R g)
      (is : p ≡ slice_index_or ps k p) where
    pub stay_sound : k < length ps → FollowsWritably (trader_of p) (trader_of q)
        → All (λ (x : Pass PlainTrader A R g). IsLegalTrader (trader_of x)) ps
        → All (λ (x : Pass PlainTrader A R g). IsLegalTrader (trader_of x)) (slice_set ps k q)
    stay_sound inside f all =
        All-set (λ (x : Pass PlainTrader A R g). IsLegalTrader (trader_of x)) ps k q (sound_on (trader_of p) (trader_of q) f.follows
        (all_at (λ (x : Pass PlainTrader A R g). IsLegalTrader (trader_of x)) ps k p all inside is)) all

    pub kept_cells : SameCell q p → map (λ (x : Pass PlainTrader A R g). x.seat.table_id) (slice_set ps k q)
        ≡ map (λ (x : Pass PlainTrader A R g). x.seat.table_id) ps
    kept_cells same = kept_at (λ (x : Pass PlainTrader A R g). x.seat.table_id) ps k p q is same

    pub kept_names : FollowsWritably (trader_of p) (trader_of q)
        → map (λ (x : Pass PlainTrader A R g). (trader_of x).name) (slice_set ps k q)
        ≡ map (λ (x : Pass PlainTrader A R g). (trader_of x).name) ps
    kept_names f = kept_at (λ (x : Pass PlainTrader A R g). (trader_of x).name) ps k p q is f.follows.name

    pub kept_numbers : (knowledge q).number ≡ (knowledge p).number
        → map (λ (x : Pass PlainTrader A R g). (knowledge x).number) (slice_set ps k q)
        ≡ map (λ (x : Pass PlainTrader A R g). (knowledge x).number) ps
    kept_numbers same = kept_at (λ (x : Pass PlainTrader A R g). (knowledge x).number) ps k p q is same

    pub one_turn : (knowledge q).turns ≡ (knowledge p).turns + 1 → k < length ps → MakesOneTurn ps k (slice_set ps k q)
    one_turn more inside = record {
      turns = (knowledge p).turns;
      here = got (λ (x : Pass PlainTrader A R g). (knowledge x).turns) ps k p inside is;
      after = map-set (λ (x : Pass PlainTrader A R g). (knowledge x).turns) ps k q
          ∙ ap (slice_set (map (λ (x : Pass PlainTrader A R g). (knowledge x).turns) ps) k) more;
    }

    pub turn_seen : (a : Act) (r : Reply) → ActsOnce FollowsWritably size_of marks_of TraderActs (knowledge p) a r (knowledge q)
        → k < length ps → TurnAt (map seen_by ps) k a r (map seen_by (slice_set ps k q))
    turn_seen a r t inside =
        turn_at (knowledge p) (knowledge q) p.knows q.knows a r t seen_by ps k p q refl refl inside is

  -- ---- the cells of the passes

  module _ (ps : List (Pass PlainTrader A R g)) (cs : List (Cell PlainTrader A R)) (k : ℕ)
      (same : map (λ (x : Pass PlainTrader A R g). x.seat.table_id) ps
      ≡ map (λ (c : Cell PlainTrader A R). c.table.shared.table_id) cs) (inside : k < length ps) where
    pub cell_inside : k < length cs
    cell_inside =
        paired_inside (λ (x : Pass PlainTrader A R g). x.seat.table_id) (λ (c : Cell PlainTrader A R).
        c.table.shared.table_id) ps cs k same inside

    pub belongs_at : (p : Pass PlainTrader A R g) (c : Cell PlainTrader A R) → p ≡ slice_index_or ps k p
        → c ≡ slice_index_or cs k c → Belongs p c
    belongs_at p c one two =
        same_at (λ (x : Pass PlainTrader A R g). x.seat.table_id) (λ (c : Cell PlainTrader A R).
        c.table.shared.table_id) ps cs k p c same inside one two

  -- ---- what is seen of a trader

  module _ (ps : List (Pass PlainTrader A R g)) (names : List (List ℕ))
      (named : map (λ (x : Pass PlainTrader A R g). (trader_of x).name) ps ≡ names) where
    pub names_differ : IsDistinct bytes_eq names → IsDistinct bytes_eq (map (λ (v : View). v.name) (map seen_by ps))
    names_differ d = distinct_seen seen_by ps names named d

    pub name_inside : (k : ℕ) → k < length (map seen_by ps) → k < length names
    name_inside k inside =
        named_inside (λ (x : Pass PlainTrader A R g). (trader_of x).name) seen_by ps names k named inside

    pub name_read : (k : ℕ) (n : List ℕ) → k < length (map seen_by ps) → n ≡ slice_index_or names k n
        → n ≡ name_at (map seen_by ps) k
    name_read k n inside is =
        sym (name_seen seen_by ps names k n named (slice_get_read names (length names) k n refl (name_inside k inside)
        is))

  module _ (ps : List (Pass PlainTrader A R g)) (k : ℕ) (p : Pass PlainTrader A R g)
      (inside : k < length (map seen_by ps)) (is : p ≡ slice_index_or ps k p) where
    pass-inside : k < length ps
    pass-inside = let n : length (map seen_by ps) ≡ length ps = length-map ps seen_by in omega arith

    seen-at : slice_get (map seen_by ps) k ≡ Some (seen_by p)
    seen-at = got seen_by ps k p pass-inside is

    sound-at : All (λ (x : Pass PlainTrader A R g). IsLegalTrader (trader_of x)) ps → IsLegalTrader (trader_of p)
    sound-at all = all_at (λ (x : Pass PlainTrader A R g). IsLegalTrader (trader_of x)) ps k p all pass-inside is

    pub point_at : (n : ℕ) → ((t : PlainTrader) → (knowledge p).seen ≡ Some t → n ≡ size_of t)
        → n ≡ length (history_at (map seen_by ps) k)
    point_at n content =
        content (trader_of p) (some_one (knowledge p).seen p.knows)
        ∙ sym (ap (λ o. length (history_in o)) seen-at)

    pub legal_at : All (λ (x : Pass PlainTrader A R g). IsLegalTrader (trader_of x)) ps → LegalAt (map seen_by ps) k
    legal_at all = subst LegalIn (sym seen-at) (sound-at all).0

    pub admitted_at : All (λ (x : Pass PlainTrader A R g). IsLegalTrader (trader_of x)) ps → AdmittedAt (map seen_by ps) k
    admitted_at all = subst AdmittedIn (sym seen-at) (sound-at all).1

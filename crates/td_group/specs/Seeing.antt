-- What a pass sees of a trader, and what a turn is to one who sees it.
use Rattle.std.specs.Prelude.{◌≡◌, ℕ, List, ◌++◌, map, length, Option, Some, None, IsSome}
use Rattle.std.proofs.lemmas.Bool.{false≢true}
use Rattle.td_cdr.specs.Marks.{Later}
use Rattle.td_cell.specs.Lists.{with_place}
use Rattle.td_cell.specs.OwnMarks.{number_of}
use Rattle.td_cell.specs.Passes.{knowledge}
use Rattle.td_cell.specs.declared.book.Book.{Ghosts}
use Rattle.td_cell.specs.declared.pass.Pass.{Pass}
use Rattle.td_cell.specs.declared.pass.View.{View as Knowledge}
use Rattle.td_trader.specs.Admitted.{AreAdmitted}
use Rattle.td_trader.specs.PlainTraders.{PlainTrader}
use Rattle.td_trader.specs.Worlds.{Meanwhile, View, number_between, view_of, with_view}
use Rattle.td_group.specs.Acting.{TraderActs}
use Rattle.td_group.specs.declared.shared_trader.Act.{Act}
use Rattle.td_group.specs.declared.shared_trader.Reply.{Reply}

-- ---- what is seen

-- the value that is there
abbrev pub the_one : {A : Type 0} → (o : Option A) → IsSome o → A
the_one None h = absurd (false≢true h)
the_one (Some a) h = a

-- a trader as it was seen last, with the places and the numbers of one's own acts
abbrev pub view_by : (v : Knowledge PlainTrader) → IsSome v.seen → View
view_by v knows = view_of (the_one v.seen knows) v.own (map number_of v.own_marks)

module _ {A R : Type 0} {g : Ghosts PlainTrader A R} where
  -- the trader as the pass has seen it last
  abbrev pub trader_of : Pass PlainTrader A R g → PlainTrader
  trader_of p = the_one (knowledge p).seen p.knows

  abbrev pub seen_by : Pass PlainTrader A R g → View
  seen_by p = view_by (knowledge p) p.knows

-- ---- a turn

-- One turn at trader k: what others did since the last call is there, any legal changes that can be written, and then
-- the act is done, once. Its entry and its mark, where it made one, are one's own.
pub record TurnAt (w : List View) (k : ℕ) (a : Act) (r : Reply) (u : List View) : Type 0 where
  pub seen : View
  pub meanwhile : Meanwhile AreAdmitted Later w k seen
  pub before : PlainTrader
  pub seen_is : seen ≡ view_of before seen.own seen.own_marks
  pub after : PlainTrader
  pub acts : TraderActs before a r after
  pub world : u ≡ with_view w k
      (view_of after (with_place seen.own (length before.history) (length after.history))
      (seen.own_marks ++ number_between before.marks after.marks))

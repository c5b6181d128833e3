-- What a pass of the desk may do, and what one turn of it comes to.
use Rattle.std.specs.Prelude.{◌≡◌, ◌≢◌, ℕ, ◌+◌, ◌<◌, ◌≤◌, List, length, take, Some, slice_get}
use Rattle.std.specs.Option.{ForSome}
use Rattle.td_cdr.specs.Marks.{In}
use Rattle.td_cell.specs.Rules.{ActsOnce}
use Rattle.td_cell.specs.declared.pass.View.{View}
use Rattle.td_desk.specs.Acting.{DeskActs, ExtendsHistory, no_marks}
use Rattle.td_desk.specs.Standings.{most, state_after}
use Rattle.td_desk.specs.declared.act.Act.{Act}
use Rattle.td_desk.specs.declared.act.Act.TheVariants as act
use Rattle.td_desk.specs.declared.act.Reply.{Reply}
use Rattle.td_desk.specs.declared.event.Event.{Event}
use Rattle.td_desk.specs.declared.event.Event.TheVariants.{Draw, Add}
use Rattle.td_iter.specs.declared.desk.DeskEntry.{DeskEntry}
use Rattle.td_iter.specs.declared.item.Item.{Item}

-- one turn: others' calls, and then this one
abbrev pub ActsInTurn : View (List Event) → Act → Reply → View (List Event) → Type 0
ActsInTurn v a r w = ActsOnce ExtendsHistory length (λ h. no_marks) DeskActs v a r w

module _ (h : List Event) (own : List ℕ) (number : ℕ) where
  -- the number was drawn at one of these places
  pub record IsDrawn : Type 0 where
    pub place : ℕ
    pub own_place : In place own
    pub draw : slice_get h place ≡ Some Draw
    pub number_is : number ≡ (state_after (take place h)).draws + 1

  -- no iterator was put on the desk under it at one of these places
  abbrev pub IsUnused : Type 0
  IsUnused = (place : ℕ) (e : DeskEntry Item) → In place own → slice_get h place ≡ Some (Add e)
      → e.number ≢ number

-- the number was drawn through this pass, and nothing put on the desk under it
abbrev pub MayAdd : View (List Event) → ℕ → Type 0
MayAdd v number = ForSome v.seen (λ h. IsDrawn h v.own number × IsUnused h v.own number)

-- its calls are calls of the history that it has seen, and what it has put on the desk has numbers that it drew, each
-- once
pub record OwnActsAreOrdered (h : List Event) (own : List ℕ) : Type 0 where
  pub within : (place : ℕ) → In place own → place < length h
  -- that it wasn't drawn is refuted: so that all is one fact, which a type can keep
  pub drawn : (place : ℕ) (e : DeskEntry Item) → In place own → slice_get h place ≡ Some (Add e)
      → (IsDrawn h own e.number → ⊥) → ⊥
  pub once : (p q : ℕ) (e f : DeskEntry Item) → In p own → In q own → slice_get h p ≡ Some (Add e)
      → slice_get h q ≡ Some (Add f) → e.number ≡ f.number → p ≡ q

-- a pass that has put nothing on the desk but under numbers that it drew, each once
abbrev pub InOrder : View (List Event) → Type 0
InOrder v = ForSome v.seen (λ h. OwnActsAreOrdered h v.own)

-- it stays so
abbrev pub StaysInOrder : View (List Event) → View (List Event) → Type 0
StaysInOrder v w = InOrder v → InOrder w

-- the number that was drawn may be used, where the pass was in order
abbrev pub MayUse : View (List Event) → View (List Event) → ℕ → Type 0
MayUse v w n = InOrder v → MayAdd w n

-- a number from 1 to as many as are drawn at most
pub record IsDrawable (n : ℕ) : Type 0 where
  pub lowest : 1 ≤ n
  pub highest : n ≤ most

-- what is put on the desk is put there under a number that may be used
abbrev pub MayAct : View (List Event) → Act → Type 0
MayAct v act.Draw = Unit {0}
MayAct v (act.Add e) = MayAdd v e.number
MayAct v (act.Left trader number) = Unit {0}
MayAct v (act.Next trader number n begun) = Unit {0}
MayAct v (act.Destroy trader number) = Unit {0}

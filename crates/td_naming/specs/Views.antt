-- What naming contexts are to one who calls them, and what a call may make of it: what was seen of them, and what was
-- done to them through this value.
use Rattle.std.specs.Prelude.{◌≡◌, ℕ, Bool, cond, List, [], ◌∷◌, ◌++◌, length}
use Rattle.td_names.specs.Applying.{apply_act}
use Rattle.td_names.specs.Stores.{Store, is_live}
use Rattle.td_names.specs.declared.act.NameAct.{NameAct}
use Rattle.td_names.specs.declared.act.NameAnswer.{NameAnswer}
use Rattle.td_names.specs.declared.address.Address.{Address}
use Rattle.td_naming.specs.Histories.{LegalFrom, change_at, is_accepted, store_after}
use Rattle.td_naming.specs.declared.history.NameChange.{NameChange}

-- where the server listens, which no call changes; the history that was seen; and the places in it of the changes that
-- were made through this value
pub record View : Type 0 where
  pub home : Address
  pub history : List NameChange
  pub own : List ℕ

-- the store that is seen
abbrev pub store_seen : View → Store
store_seen v = store_after v.home v.history

-- others made these changes
abbrev pub after_others : View → List NameChange → View
after_others v between = record v { history = v.history ++ between }

-- what a call of a context is answered with
abbrev pub answer_at : View → ℕ → NameAct → NameAnswer
answer_at v c a = (apply_act (store_seen v) c a).1

-- with one's own change at the end
abbrev pub with_own : View → NameChange → View
with_own v e = record v { history = v.history ++ e ∷ []; own = v.own ++ length v.history ∷ [] }

-- once one's own call was answered so
abbrev pub after_own : View → ℕ → NameAct → NameAnswer → View
after_own v c a r = cond (is_accepted a r) (with_own v (change_at (store_seen v) c a)) v

-- ---- what a call may do

module _ (others : List NameChange → Type 0) where
  -- Nothing was done but by others. What is seen is legal still.
  pub record Meanwhile (v seen : View) : Type 0 where
    pub between : List NameChange
    pub may : others between
    pub legal : LegalFrom (store_seen v) between
    pub is : seen ≡ after_others v between

  -- The answer is the call's at what is seen then, and an accepted change stands at the end.
  pub record NamingActs (v : View) (c : ℕ) (a : NameAct) (r : NameAnswer) (u : View) : Type 0 where
    pub seen : View
    pub meanwhile : Meanwhile v seen
    pub answer : r ≡ answer_at seen c a
    pub after : u ≡ after_own seen c a r

  -- whether the context is live at what is seen then
  pub record LooksAtContext (v : View) (c : ℕ) (live : Bool) (u : View) : Type 0 where
    pub meanwhile : Meanwhile v u
    pub content : live ≡ is_live (store_seen u) c
